use Rattle.std.proofs.Common.{rules, ◌≡◌, ◌^◌, ◌<◌, Ok, refl, ◌∙◌, sym, ap, arith, pow_mono}
use Rattle.std.proofs.lemmas.Result.{err_from_is_err_and}
use Rattle.visit.specs.Visits.{going_on}
use Rattle.visit.proofs.Steps.{given_up, turned, given_up_first, given_up_second, below_passed_over, low_leads_on, high_leads_on, attempted_on, attempted_done, held_driving}
use Rattle.visit.proofs.setting.Setting.+at_first.Goals as goal

pub go_below_at_first-returns-then-not-is_beaten_by : goal.go_below_at_first-returns-then-not-is_beaten_by
go_below_at_first-returns-then-not-is_beaten_by g t c =
    let branch = c.args.branch in
    let input = c.loop-input.input in
    let lower : branch.cube.driven < 2 ^ input = omega (arith, branch.lower, pow_mono {i = branch.next} {j = input} c.loop-input.auto.input) in
    sym (
    below_passed_over g.V.ValueKind.kind c.args.self.now branch.cube input (omega (arith, c.loop-input-test.true, c.input_count-count.ensures.value))
    (going_on c.loop-input.progress) c.driving-low.result.cube lower c.driving-low.ensures.cube (sym c.is_beaten_by.ensures ∙ c.if-not-is_beaten_by.true)
    )
    ∙ c.loop-input.invariant

pub go_below_at_first-returns-in_err-meet_at_first : goal.go_below_at_first-returns-in_err-meet_at_first
go_below_at_first-returns-in_err-meet_at_first g t c =
    let p = err_from_is_err_and c.from_residual.result c.from_residual.ensures.1 in
    rw p.1
    (given_up_first g.V.ValueKind.kind c.args.self.now c.args.branch.cube c.loop-input.input (omega (arith, c.loop-input-test.true, c.input_count-count.ensures.value))
    (going_on c.loop-input.progress) (given_up c.meet_at_first.new.progress) (c.driving-low.result, c.driving-low.ensures.cube, c.driving-low.ensures.next, c.in_err-meet_at_first.ensures.met) refl
    ∙ c.loop-input.invariant)

pub go_below_at_first-returns-then-branch : goal.go_below_at_first-returns-then-branch
go_below_at_first-returns-then-branch g t c =
    let low = c.driving-low in
    let turn = c.from_input-turn in
    c.go_on_traced-then-branch.ensures
    ∙ low_leads_on g.V.ValueKind.kind c.args.self.now c.args.branch.cube c.loop-input.input (omega (arith, c.loop-input-test.true, c.input_count-count.ensures.value))
    turn.result turn.ensures.cube turn.ensures.next (going_on c.loop-input.progress) (going_on c.meet_at_first.new.progress)
    (low.result, low.ensures.cube, low.ensures.next, attempted_on g.V.ValueKind.kind c.args.self.now low.result (going_on c.loop-input.progress) c.meet_at_first.new.progress c.in_ok-meet_at_first.field-0 c.if-branch.true c.in_ok-meet_at_first.ensures.met)
    ∙ c.loop-input.invariant

pub go_below_at_first-returns-in_err-meet_at_first-2 : goal.go_below_at_first-returns-in_err-meet_at_first-2
go_below_at_first-returns-in_err-meet_at_first-2 g t c =
    let low = c.driving-low in
    let high = c.driving-high in
    let p = err_from_is_err_and c.from_residual-in_err-meet_at_first-2.result c.from_residual-in_err-meet_at_first-2.ensures.1 in
    rw p.1
    (given_up_second g.V.ValueKind.kind c.args.self.now c.args.branch.cube c.loop-input.input (omega (arith, c.loop-input-test.true, c.input_count-count.ensures.value))
    (going_on c.loop-input.progress) (going_on c.meet_at_first.new.progress)
    (low.result, low.ensures.cube, low.ensures.next, attempted_done g.V.ValueKind.kind c.args.self.now low.result (going_on c.loop-input.progress) c.meet_at_first.new.progress c.in_ok-meet_at_first.field-0 c.if-branch.false c.in_ok-meet_at_first.ensures.met)
    (given_up c.meet_at_first-in-loop-input.new.progress) (high.result, high.ensures.cube, high.ensures.next, c.in_err-meet_at_first-2.ensures.met) refl
    ∙ c.loop-input.invariant)

pub go_below_at_first-returns-then-branch-2 : goal.go_below_at_first-returns-then-branch-2
go_below_at_first-returns-then-branch-2 g t c =
    let low = c.driving-low in
    let high = c.driving-high in
    let turn = c.from_input-turn in
    c.go_on_traced-then-branch-2.ensures
    ∙ high_leads_on g.V.ValueKind.kind c.args.self.now c.args.branch.cube c.loop-input.input (omega (arith, c.loop-input-test.true, c.input_count-count.ensures.value))
    turn.result turn.ensures.cube turn.ensures.next (going_on c.loop-input.progress) (going_on c.meet_at_first.new.progress) (going_on c.meet_at_first-in-loop-input.new.progress)
    (low.result, low.ensures.cube, low.ensures.next, attempted_done g.V.ValueKind.kind c.args.self.now low.result (going_on c.loop-input.progress) c.meet_at_first.new.progress c.in_ok-meet_at_first.field-0 c.if-branch.false c.in_ok-meet_at_first.ensures.met)
    (high.result, high.ensures.cube, high.ensures.next, attempted_on g.V.ValueKind.kind c.args.self.now high.result (going_on c.meet_at_first.new.progress) c.meet_at_first-in-loop-input.new.progress c.in_ok-meet_at_first-2.field-0 c.if-branch-2.true c.in_ok-meet_at_first-2.ensures.met)
    ∙ c.loop-input.invariant

pub go_below_at_first-loop-input-preserved : goal.go_below_at_first-loop-input-preserved
go_below_at_first-loop-input-preserved g t c =
    let low = c.driving-low in
    let high = c.driving-high in
    turned g.V.ValueKind.kind c.args.self.now c.args.branch.cube c.loop-input.input (omega (arith, c.loop-input-test.true, c.input_count-count.ensures.value))
    (going_on c.loop-input.progress) (going_on c.meet_at_first.new.progress)
    (low.result, low.ensures.cube, low.ensures.next, attempted_done g.V.ValueKind.kind c.args.self.now low.result (going_on c.loop-input.progress) c.meet_at_first.new.progress c.in_ok-meet_at_first.field-0 c.if-branch.false c.in_ok-meet_at_first.ensures.met)
    (going_on c.meet_at_first-in-loop-input.new.progress)
    (high.result, high.ensures.cube, high.ensures.next, attempted_done g.V.ValueKind.kind c.args.self.now high.result (going_on c.meet_at_first.new.progress) c.meet_at_first-in-loop-input.new.progress c.in_ok-meet_at_first-2.field-0 c.if-branch-2.false c.in_ok-meet_at_first-2.ensures.met)
    ∙ c.loop-input.invariant
