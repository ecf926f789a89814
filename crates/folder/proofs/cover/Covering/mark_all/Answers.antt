use Rattle.std.proofs.Common.{◌≡◌, ◌<◌, ◌+◌, ◌-◌, ◌++◌, List, map, length, get_or, take, drop, set, sym, ap, ◌∙◌, arith, ℕ}
use Rattle.std.proofs.lemmas.List.{length-map, length-take-le, get_or-append_right, get_or-drop}
use Rattle.std.proofs.lemmas.List.Edits.{map_over_more}
use Rattle.std.proofs.lemmas.List.Sums.{count_by_more_yes, count_by_more_no}
use Rattle.folder.specs.Covering.{is_covered, marked}
use Rattle.folder.proofs.cover.Covering.mark_all.Goals as goal
use Rattle.folder.proofs.cover.Covering.mark_all.Goals.{then-mark, else-mark}

-- what stands at a place that the loop has not come to
untouched : {X : Type 0} (f : X → X) (xs ys : List X) (i : ℕ) (x : X) → i < length xs → ys ≡ map f (take i xs) ++ drop i xs → get_or xs i x ≡ get_or ys i x
untouched f xs ys i x inside front =
    sym (ap (λ zs. get_or zs i x) front
    ∙ get_or-append_right (map f (take i xs)) (drop i xs) i i x (length-map (take i xs) f ∙ length-take-le i xs (omega arith)) (omega arith)
    ∙ get_or-drop i xs (i - i) x ∙ ap (λ n. get_or xs n x) (omega arith))

pub loop-entry-preserved : goal.loop-entry-preserved
loop-entry-preserved g c =
    let K = g.V.ValueKind.kind in
    let d = c.args.self.now.circuit.now in
    let q = c.args.self.now.cube in
    let before = c.args.entries.now in
    let i = c.loop-entry.entry-index in
    let x = c.entry-item.result in
    let inside : i < length before = omega arith in
    let at : is_covered K d q (get_or before i x) ≡ c.mark.result =
    ap (is_covered K d q) (untouched (marked K d c.args.self.now.number q) before c.loop-entry.entries i x inside c.loop-entry.invariant.marks) ∙ sym c.mark.ensures.value in
    record {
      marks =
          ap (set c.loop-entry.entries i) (c.mark.ensures.marks ∙ sym (ap (marked K d c.args.self.now.number q) c.entry-item.is))
          ∙ map_over_more (marked K d c.args.self.now.number q) before c.loop-entry.entries i x inside c.loop-entry.invariant.marks c.entry-item.is;
      counted = elim c.if-mark.branch [
        | then-mark w ↦ w.count-is ∙ ap (λ (n : ℕ). n + 1) c.loop-entry.invariant.counted ∙ sym (count_by_more_yes (is_covered K d q) before i x inside (at ∙ w.if-mark.true))
        | else-mark w ↦ w.count-is ∙ c.loop-entry.invariant.counted ∙ sym (count_by_more_no (is_covered K d q) before i x inside (at ∙ w.if-mark.false))
      ];
      few = elim c.if-mark.branch [ then-mark w ↦ omega (arith, w.count-is, c.loop-entry.invariant.few) | else-mark w ↦ omega (arith, w.count-is, c.loop-entry.invariant.few) ];
      socket = λ e. c.mark.ensures.socket (c.loop-entry.invariant.socket e);
    }
