use Rattle.std.proofs.Common.{rules, ◌≡◌, ◌^◌, ◌<◌, refl, ◌∙◌, sym, arith, pow_mono}
use Rattle.std.proofs.lemmas.Result.{err_from_is_err_and}
use Rattle.visit.specs.Visits.{going_on}
use Rattle.visit.proofs.Steps.{given_up, turned, given_up_first, given_up_second, below_passed_over}
use Rattle.visit.proofs.Restoring.{restored}
use Rattle.visit.proofs.Traced.{where_traced}
use Rattle.visit.proofs.setting.Setting.+in_row.Goals as goal

pub go_below_in_row-returns-then-not-is_beaten_by : goal.go_below_in_row-returns-then-not-is_beaten_by
go_below_in_row-returns-then-not-is_beaten_by g t c =
    let branch = c.args.branch in
    let input = c.loop-input.input in
    let lower : branch.cube.driven < 2 ^ input = omega (arith, branch.lower, pow_mono {i = branch.next} {j = input} c.loop-input.auto.input) in
    sym (
    below_passed_over g.V.ValueKind.kind c.args.self.now branch.cube input (omega (arith, c.loop-input-test.true, c.input_count-input-end.ensures.value))
    (going_on c.loop-input.progress) c.driving-low.result.cube lower c.driving-low.ensures.cube (sym c.is_beaten_by.ensures ∙ c.if-not-is_beaten_by.true)
    )
    ∙ c.loop-input.invariant.left

pub go_below_in_row-meet_in_row-requires : goal.go_below_in_row-meet_in_row-requires
go_below_in_row-meet_in_row-requires g t c = λ lifetimes outlives. (search rules, (search rules, (search rules, (search rules, where_traced c.args.self.now.trace c.loop-input.invariant.held))))

pub go_below_in_row-returns-in_err-meet_in_row : goal.go_below_in_row-returns-in_err-meet_in_row
go_below_in_row-returns-in_err-meet_in_row g t c =
    let p = err_from_is_err_and c.from_residual.result c.from_residual.ensures.1 in
    rw p.1
    (given_up_first g.V.ValueKind.kind c.args.self.now c.args.branch.cube c.loop-input.input (omega (arith, c.input_count-input-end.ensures.value))
    (going_on c.loop-input.progress) (given_up c.meet_in_row.new.progress) (c.driving-low.result, c.driving-low.ensures.cube, c.driving-low.ensures.next, c.in_err-meet_in_row.ensures) refl
    ∙ c.loop-input.invariant.left)

pub go_below_in_row-returns-in_err-meet_in_row-2 : goal.go_below_in_row-returns-in_err-meet_in_row-2
go_below_in_row-returns-in_err-meet_in_row-2 g t c =
    let low = c.driving-low in
    let high = c.driving in
    let p = err_from_is_err_and c.from_residual-in_err-meet_in_row-2.result c.from_residual-in_err-meet_in_row-2.ensures.1 in
    rw p.1
    (given_up_second g.V.ValueKind.kind c.args.self.now c.args.branch.cube c.loop-input.input (omega (arith, c.input_count-input-end.ensures.value))
    (going_on c.loop-input.progress) (going_on c.meet_in_row.new.progress) (low.result, low.ensures.cube, low.ensures.next, c.in_ok-meet_in_row.ensures)
    (given_up c.meet_in_row-in-loop-input.new.progress) (high.result, high.ensures.cube, high.ensures.next, c.in_err-meet_in_row-2.ensures) refl
    ∙ c.loop-input.invariant.left)

pub go_below_in_row-loop-input-preserved : goal.go_below_in_row-loop-input-preserved
go_below_in_row-loop-input-preserved g t c =
    let low = c.driving-low in
    let high = c.driving in
    record {
      left =
          turned g.V.ValueKind.kind c.args.self.now c.args.branch.cube c.loop-input.input (omega (arith, c.input_count-input-end.ensures.value))
          (going_on c.loop-input.progress) (going_on c.meet_in_row.new.progress) (low.result, low.ensures.cube, low.ensures.next, c.in_ok-meet_in_row.ensures)
          (going_on c.meet_in_row-in-loop-input.new.progress) (high.result, high.ensures.cube, high.ensures.next, c.in_ok-meet_in_row-2.ensures)
          ∙ c.loop-input.invariant.left;
      held =
          restored g.V.ValueKind.meaning _ _ c.args.self.now.lines c.args.row.now c.copy_lines.new.to c.copy_lines-in-loop-input-2.new.to
          c.args.self.now.lines_are c.copy_lines-in-loop-input-2.ensures c.copy_lines.ensures c.requires.held;
    }
