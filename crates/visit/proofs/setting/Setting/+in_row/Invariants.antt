use Rattle.std.proofs.Common.{◌≡◌, ◌+◌, ◌-◌, ◌*◌}
use Rattle.visit.specs.Visits.{going_on}
use Rattle.visit.specs.Settings.{input_count, below_from, below_branch, HoldsUnder}
use Rattle.visit.proofs.setting.Setting.+in_row.Given as goal

abbrev pub decreases-meet_in_row : goal.decreases-meet_in_row
decreases-meet_in_row g l = 2 * (input_count l.self.now - l.branch.next) + 1

abbrev pub decreases-go_below_in_row : goal.decreases-go_below_in_row
decreases-go_below_in_row g l = 2 * (input_count l.self.now - l.branch.next)

-- What is left of the visit below the cube gives what all of it gives, and the row holds the lines under it.
abbrev pub invariant-go_below_in_row-loop-input : goal.invariant-go_below_in_row-loop-input
invariant-go_below_in_row-loop-input g l =
    let v = g.V.ValueKind in
    record {
      left : below_from v.kind l.self l.input l.branch.cube (going_on l.progress) ≡ below_branch v.kind l.self l.branch (going_on l.initial.progress);
      held : HoldsUnder v.kind v.meaning l.self l.branch.cube l.row;
    }
