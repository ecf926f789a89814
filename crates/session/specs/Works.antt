-- The work row of a session.
use Rattle.std.specs.Prelude.{◌≡◌, ℕ, length, Some, None, Option}
use Rattle.std.specs.Option.{option_map}
use Rattle.circuit.specs.Model.{Circuit, line_count}
use Rattle.simulator.specs.declared.socket.Socket.{Socket}
use Rattle.jobs.specs.declared.job.Kind.{Kind}
use Rattle.jobs.specs.declared.job.Kind.TheVariants.{Five, Seven, Nine}
use Rattle.session.specs.declared.work.Work.{Work}
use Rattle.session.specs.declared.work.Work.TheVariants as row

-- the kind of the row
abbrev pub work_kind : Work → Kind
work_kind (row.Five values) = Five
work_kind (row.Seven values) = Seven
work_kind (row.Nine values) = Nine

-- how many places the row has
abbrev pub place_count : Work → ℕ
place_count (row.Five values) = length values.items
place_count (row.Seven values) = length values.items
place_count (row.Nine values) = length values.items

-- the kind that was chosen: that of the row
abbrev pub chosen : Option Work → Option Kind
chosen work = option_map work_kind work

-- The session is ready for a call: its socket is empty, and its row has a place for each line of the circuit.
pub record Ready (c : Circuit) (socket : Socket) (work : Option Work) : Type 0 where
  pub empty : socket.fault ≡ None
  pub room : (w : Work) → work ≡ Some w → place_count w ≡ line_count c
