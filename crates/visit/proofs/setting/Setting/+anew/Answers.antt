use Rattle.std.proofs.Common.{◌≡◌, ◌^◌, ◌<◌, refl, ◌∙◌, sym, arith, pow_mono}
use Rattle.std.proofs.lemmas.Result.{err_from_is_err_and}
use Rattle.visit.specs.Visits.{going_on}
use Rattle.visit.proofs.Steps.{given_up, turned, given_up_first, given_up_second, below_passed_over}
use Rattle.visit.proofs.setting.Setting.+anew.Goals as goal

pub go_below_anew-returns-then-not-is_beaten_by : goal.go_below_anew-returns-then-not-is_beaten_by
go_below_anew-returns-then-not-is_beaten_by g t c =
    let branch = c.args.branch in
    let input = c.loop-input.input in
    let lower : branch.cube.driven < 2 ^ input = omega (arith, branch.lower, pow_mono {i = branch.next} {j = input} c.loop-input.auto.input) in
    sym (
    below_passed_over g.V.ValueKind.kind c.args.self.now branch.cube input (omega (arith, c.loop-input-test.true, c.input_count-inputs.ensures.value))
    (going_on c.loop-input.progress) c.driving-low.result.cube lower c.driving-low.ensures.cube (sym c.is_beaten_by.ensures ∙ c.if-not-is_beaten_by.true)
    )
    ∙ c.loop-input.invariant

pub go_below_anew-returns-in_err-meet_anew : goal.go_below_anew-returns-in_err-meet_anew
go_below_anew-returns-in_err-meet_anew g t c =
    let p = err_from_is_err_and c.from_residual.result c.from_residual.ensures.1 in
    rw p.1
    (given_up_first g.V.ValueKind.kind c.args.self.now c.args.branch.cube c.loop-input.input (omega (arith, c.input_count-inputs.ensures.value))
    (going_on c.loop-input.progress) (given_up c.meet_anew.new.progress) (c.driving-low.result, c.driving-low.ensures.cube, c.driving-low.ensures.next, c.in_err-meet_anew.ensures) refl
    ∙ c.loop-input.invariant)

pub go_below_anew-returns-in_err-meet_anew-2 : goal.go_below_anew-returns-in_err-meet_anew-2
go_below_anew-returns-in_err-meet_anew-2 g t c =
    let low = c.driving-low in
    let high = c.driving-high in
    let p = err_from_is_err_and c.from_residual-in_err-meet_anew-2.result c.from_residual-in_err-meet_anew-2.ensures.1 in
    rw p.1
    (given_up_second g.V.ValueKind.kind c.args.self.now c.args.branch.cube c.loop-input.input (omega (arith, c.input_count-inputs.ensures.value))
    (going_on c.loop-input.progress) (going_on c.meet_anew.new.progress) (low.result, low.ensures.cube, low.ensures.next, c.in_ok-meet_anew.ensures)
    (given_up c.meet_anew-in-loop-input.new.progress) (high.result, high.ensures.cube, high.ensures.next, c.in_err-meet_anew-2.ensures) refl
    ∙ c.loop-input.invariant)

pub go_below_anew-loop-input-preserved : goal.go_below_anew-loop-input-preserved
go_below_anew-loop-input-preserved g t c =
    let low = c.driving-low in
    let high = c.driving-high in
    turned g.V.ValueKind.kind c.args.self.now c.args.branch.cube c.loop-input.input (omega (arith, c.input_count-inputs.ensures.value))
    (going_on c.loop-input.progress) (going_on c.meet_anew.new.progress) (low.result, low.ensures.cube, low.ensures.next, c.in_ok-meet_anew.ensures)
    (going_on c.meet_anew-in-loop-input.new.progress) (high.result, high.ensures.cube, high.ensures.next, c.in_ok-meet_anew-2.ensures)
    ∙ c.loop-input.invariant
