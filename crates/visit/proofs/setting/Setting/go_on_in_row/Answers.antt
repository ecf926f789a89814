use Rattle.std.proofs.Common.{Bool, Option, refl, ◌∙◌, sym, ap}
use Rattle.std.proofs.lemmas.Result.{err_from_is_err_and}
use Rattle.visit.specs.Visits.{going_on}
use Rattle.visit.specs.Settings.{rest_below}
use Rattle.visit.proofs.Steps.{given_up, rest_given_up, rest_given_up_high}
use Rattle.visit.proofs.setting.Setting.go_on_in_row.Goals as goal

pub returns-in_err-go_below_in_row : goal.returns-in_err-go_below_in_row
returns-in_err-go_below_in_row g c =
    let branch = c.args.branch in
    let begun = c.driving-begun in
    let p = err_from_is_err_and c.from_residual.result c.from_residual.ensures.1 in
    rw p.1
    (rest_given_up g.V.ValueKind.kind c.args.self.now branch.cube branch.next c.requires.at.inside branch refl refl c.in-Some.level
    (going_on c.args.progress.now) (given_up c.go_below_in_row-2.new.progress) (begun.result, begun.ensures.cube, begun.ensures.next, c.in_err-go_below_in_row.ensures) refl
    ∙ ap (λ (o : Option Bool). rest_below g.V.ValueKind.kind c.args.self.now branch o (going_on c.args.progress.now)) (sym c.in-Some.is))

pub returns-in_err-meet_in_row : goal.returns-in_err-meet_in_row
returns-in_err-meet_in_row g c =
    let branch = c.args.branch in
    let begun = c.driving-begun in
    let high = c.driving-high in
    let p = err_from_is_err_and c.from_residual-in_err-meet_in_row.result c.from_residual-in_err-meet_in_row.ensures.1 in
    rw p.1
    (rest_given_up_high g.V.ValueKind.kind c.args.self.now branch.cube branch.next c.requires.at.inside branch refl refl c.in-Some.level c.if-not-level.true
    (going_on c.args.progress.now) (going_on c.go_below_in_row-2.new.progress) (given_up c.meet_in_row.new.progress) (begun.result, begun.ensures.cube, begun.ensures.next, c.in_ok-go_below_in_row.ensures)
    (high.result, high.ensures.cube, high.ensures.next, c.in_err-meet_in_row.ensures) refl
    ∙ ap (λ (o : Option Bool). rest_below g.V.ValueKind.kind c.args.self.now branch o (going_on c.args.progress.now)) (sym c.in-Some.is))
