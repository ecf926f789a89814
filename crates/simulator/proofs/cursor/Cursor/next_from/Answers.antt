use Rattle.std.proofs.Common.{ℕ, ◌/◌, ◌%◌, Some, None, get_or, refl, subst, ap, ◌∙◌, arith}
use Rattle.simulator.specs.LineSets.{LowestFrom}
use Rattle.simulator.proofs.LineSets.{none_there, first_there}
use Rattle.simulator.proofs.cursor.Cursor.next_from.Goals.{then-line-ne0+in_default, else-line-ne0}
use Rattle.simulator.proofs.cursor.Cursor.next_from.Goals as goal

pub returns-in-Some-clause-next : goal.returns-in-Some-clause-next
returns-in-Some-clause-next c =
    let inner = c.if-line-ne0.true in
    first_there c.args.lines.now c.args.line (c.args.line / 64) (c.args.line % 64) (λ k at below. absurd (omega (arith, at, below)))
    c.args.end c.in-Some.place (omega (arith, inner, c.requires.within, c.requires.few)) (omega arith)
    (subst (λ (word : ℕ). LowestFrom word (c.args.line % 64) (Some c.in-Some.place)) (c.requires.copy inner) c.in-Some.ensures)

pub returns-in-Some-clause-copy : goal.returns-in-Some-clause-copy
returns-in-Some-clause-copy c =
    c.requires.copy c.if-line-ne0.true ∙ ap (λ (i : ℕ). get_or c.args.lines.now.words i 0) (omega (arith, c.in-Some.ensures.0))

pub returns-in-Some-lowest_from-clause-copy : goal.returns-in-Some-lowest_from-clause-copy
returns-in-Some-lowest_from-clause-copy c = ap (λ (i : ℕ). get_or c.args.lines.now.words i 0) (omega (arith, c.in-Some-lowest_from.ensures.0))

pub loop-index-init : goal.loop-index-init
loop-index-init c = record {
  same = refl;
  none = λ k at below. elim c.if-line-ne0.branch [
    | then-line-ne0+in_default w ↦
        none_there c.args.lines.now c.args.line (c.args.line / 64) (c.args.line % 64) (λ k at below. absurd (omega (arith, at, below)))
        (subst (λ (word : ℕ). LowestFrom word (c.args.line % 64) None) (c.requires.copy w.if-line-ne0.true) w.in_default.ensures)
        k at (omega (arith, below, c.div_ceil-index.ensures))
    | else-line-ne0 w ↦ absurd (omega (arith, at, below, w.if-line-ne0.false, c.div_ceil-index.ensures))
  ];
}

pub loop-index-preserved : goal.loop-index-preserved
loop-index-preserved c = record {
  same = c.loop-index.invariant.same;
  none = none_there c.args.lines.now c.args.line c.loop-index.index 0 (λ k at below. c.loop-index.invariant.none k at (omega (arith, below))) c.in_default-lowest_from.ensures;
}

pub returns-in-Some-lowest_from-clause-next : goal.returns-in-Some-lowest_from-clause-next
returns-in-Some-lowest_from-clause-next c =
    first_there c.args.lines.now c.args.line c.loop-index.index 0 (λ k at below. c.loop-index.invariant.none k at (omega (arith, below)))
    c.args.end c.in-Some-lowest_from.place (omega (arith, c.loop-index-test.true, c.requires.few, c.div_ceil-index-end.ensures))
    (omega (arith, c.loop-index.auto.index, c.div_ceil-index.ensures)) c.in-Some-lowest_from.ensures

pub returns-clause-next : goal.returns-clause-next
returns-clause-next c = λ k at below. c.loop-index.invariant.none k at (omega (arith, below, c.loop-index-test.false, c.div_ceil-index-end.ensures))
