-- What a simulation answers, and what it leaves in the row.
use Rattle.std.specs.Prelude.{◌≡◌, ℕ, ◌^◌, ◌≤◌, Bool, true, cond, List, map, length, take, drop, IfOk, Ok, Err, Option, Result, MatchResult, nat_le, nat_lt}
use Rattle.std.specs.Result.{result_map_both}
use Rattle.refusals.specs.declared.layers.FolderRefusal.{FolderRefusal}
use Rattle.refusals.specs.declared.layers.FolderRefusal.TheVariants.{RowTooShort, InputMissing}
use Rattle.values.specs.Pairs.{Pairs}
use Rattle.values.specs.Kind.{Kind}
use Rattle.circuit.specs.Model.{Circuit, line_count}
use Rattle.faults.specs.declared.fault.Fault.{Fault}
use Rattle.faults.specs.Cubes.{Cube}
use Rattle.simulator.specs.declared.verdict.Verdict.{Verdict}
use Rattle.simulator.specs.Detection.{bit, simulated, verdict}
use Rattle.simulator.specs.Laws.{Tells}

-- the cube drives an input that the circuit lacks
abbrev pub drives_beyond : Circuit → Cube → Bool
drives_beyond c q = nat_le (2 ^ length c.inputs) q.driven

-- the same, input by input
abbrev pub DrivesBeyond : Circuit → Cube → Type 0
DrivesBeyond c q = (i : ℕ) × (length c.inputs ≤ i) × (bit q.driven i ≡ true)

-- whether a row of so many places has room for each line of the circuit
abbrev pub row_allowed : Circuit → ℕ → Result (Unit {0}) FolderRefusal
row_allowed c places = cond (nat_lt places (line_count c)) (Err RowTooShort) (Ok tt)

-- Whether a cube can be simulated in a row of so many places: refused if the cube drives an input that the circuit lacks,
-- and then if the row has fewer places than the circuit has lines.
abbrev pub simulation_allowed : Circuit → Cube → ℕ → Result (Unit {0}) FolderRefusal
simulation_allowed c q places = cond (drives_beyond c q) (Err InputMissing) (row_allowed c places)

-- the verdict on a cube, worked out in a row of so many places, where that is allowed
abbrev pub simulation : Kind → Circuit → Option Fault → Cube → ℕ → Result Verdict FolderRefusal
simulation K c f q places = result_map_both (λ _. verdict K c f q) (λ e. e) (simulation_allowed c q places)

-- The row begins with these sets' values, and what stood behind them is unchanged.
pub record Worked {V : Type 0} (meaning : V → Pairs) (sets : List Pairs) (count : ℕ) (before after : List V) : Type 0 where
  pub front : map meaning (take count after) ≡ sets
  pub rest : drop count after ≡ drop count before

-- What a call that simulates gives: its answer, the row that it leaves, and what a verdict says of vectors.
pub record Simulates {V : Type 0} (K : Kind) (meaning : V → Pairs) (c : Circuit) (f : Option Fault) (q : Cube) (before after : List V) (r : Result Verdict FolderRefusal)
    : Type 0 where
  pub answer : r ≡ simulation K c f q (length before)
  pub row : MatchResult r (λ _. Worked meaning (simulated K c f q) (line_count c) before after) (λ _. after ≡ before)
  pub tells : IfOk r (Tells c f q)
