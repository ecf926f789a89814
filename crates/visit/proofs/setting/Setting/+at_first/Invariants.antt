use Rattle.std.proofs.Common.{◌≡◌, ◌+◌, ◌-◌, ◌*◌}
use Rattle.visit.specs.Visits.{going_on}
use Rattle.visit.specs.Settings.{input_count, below_from, below_branch}
use Rattle.visit.proofs.setting.Setting.+at_first.Given as goal

abbrev pub decreases-meet_at_first : goal.decreases-meet_at_first
decreases-meet_at_first g l = 2 * (input_count l.self.now - l.branch.next) + 1

abbrev pub decreases-go_below_at_first : goal.decreases-go_below_at_first
decreases-go_below_at_first g l = 2 * (input_count l.self.now - l.branch.next)

-- What is left of the visit below the cube gives what all of it gives.
abbrev pub invariant-go_below_at_first-loop-input : goal.invariant-go_below_at_first-loop-input
invariant-go_below_at_first-loop-input g l =
    below_from g.V.ValueKind.kind l.self l.input l.branch.cube (going_on l.progress) ≡ below_branch g.V.ValueKind.kind l.self l.branch (going_on l.initial.progress)
