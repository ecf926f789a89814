use Rattle.std.proofs.Common.{sym, ◌∙◌, arith}
use Rattle.visit.specs.Visits.{going_on}
use Rattle.visit.proofs.Steps.{below_nothing, below_passed_over}
use Rattle.visit.proofs.setting.Setting.leads_on.Goals as goal

pub returns-then-branch-input_count-clause-passed_over : goal.returns-then-branch-input_count-clause-passed_over
returns-then-branch-input_count-clause-passed_over c = λ K beaten.
    let branch = c.args.branch.now in
    below_passed_over K c.args.self.now branch.cube branch.next (omega (arith, c.if-branch-input_count.true, c.input_count.ensures.value)) (going_on c.args.progress.now) c.driving.result.cube branch.lower c.driving.ensures.cube
    (sym c.is_beaten_by.ensures ∙ beaten)

pub returns-else-branch-input_count-clause-passed_over : goal.returns-else-branch-input_count-clause-passed_over
returns-else-branch-input_count-clause-passed_over c = λ K no.
    below_nothing K c.args.self.now c.args.branch.now.next c.args.branch.now.cube (going_on c.args.progress.now) (omega (arith, c.if-branch-input_count.false, c.input_count.ensures.value))
