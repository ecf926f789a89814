use Rattle.std.proofs.Common.{◌≡◌, ℕ, All, ◌<◌, true, List, length, get_or, sym, ap, ◌∙◌, inl, inr, arith}
use mathlib.Core.Bool.{false≢true}
use Rattle.std.proofs.lemmas.Bool.{cases_eq}
use Rattle.std.proofs.lemmas.List.{get_or_default}
use Rattle.simulator.specs.LineSets.{has}
use Rattle.simulator.specs.Reach.{Reaches}
use Rattle.simulator.proofs.Rules.{outputs_below}
use Rattle.simulator.proofs.Lines.{few_lines}
use Rattle.simulator.proofs.Reaching.{unreached_same}
use Rattle.simulator.proofs.reach.reach_end.Goals as goal
use Rattle.simulator.proofs.reach.reach_end.Goals.{then-output-end+then-has, else-output-end, else-output-end-via-then-output-end+else-has, else-output-end-via-else-output-end}

pub has-requires : goal.has-requires
has-requires c =
    let circuit = c.args.circuit.now in
    let items = c.outputs-output-items.result.now in
    let rules = c.outputs-output-items.ensures.rules in
    let value : items ≡ circuit.outputs = c.outputs-output-items.ensures.value in
    let k = c.loop-output.output-index in
    omega (arith, ap (λ (os : List ℕ). get_or os k 0) value, outputs_below circuit rules k 0 (omega (arith, c.loop-output-test.true, ap length value)), few_lines circuit rules)

-- an output that does not move the end is not in the set, or stands before the end
pub loop-output-preserved : goal.loop-output-preserved
loop-output-preserved c =
    let items = c.outputs-output-items.result.now in
    let index = c.loop-output.output-index in
    let reached = c.reached_lines-reached.result in
    let was = c.loop-output.invariant in
    elim c.if-output-end.branch [
      | then-output-end+then-has w ↦
          record {
            before = λ k below inside. elim (cases_eq k index) [
              | inl same ↦ omega (arith, ap (λ (n : ℕ). get_or items n 0) same, w.end-is)
              | inr other ↦ omega (arith, was.before k (omega (arith, below, other)) inside, w.if-output-end.true, w.end-is)
            ];
            last = inr (index, omega arith, sym w.has.ensures ∙ w.if-has.true, w.end-is);
          }
      | else-output-end w ↦
          record {
            before = λ k below inside. elim (cases_eq k index) [
              | inl same ↦
                  let here : get_or items k 0 ≡ get_or items index 0 = ap (λ (n : ℕ). get_or items n 0) same in
                  elim w.else-output-end.branch [
                    | else-output-end-via-then-output-end+else-has u ↦ absurd (false≢true (sym u.if-has.false ∙ u.has.ensures ∙ ap (has reached) (sym here) ∙ inside))
                    | else-output-end-via-else-output-end u ↦ omega (arith, here, u.if-output-end.false, w.end-is)
                  ]
              | inr other ↦ omega (arith, was.before k (omega (arith, below, other)) inside, w.end-is)
            ];
            last = elim was.last [
              | inl none ↦ inl (w.end-is ∙ none)
              | inr (k, below, inside, at) ↦ inr (k, omega (arith, below), inside, w.end-is ∙ at)
            ];
          }
    ]

pub returns : goal.returns
returns c =
    let circuit = c.args.circuit.now in
    let f = c.args.fault in
    let items = c.outputs-output-items.result.now in
    let rules = c.outputs-output-items.ensures.rules in
    let value : items ≡ circuit.outputs = c.outputs-output-items.ensures.value in
    let reached = c.reached_lines-reached.result in
    let found = c.reached_lines-reached.ensures in
    let end = c.loop-output.end in
    let before : All (λ (o : ℕ). Reaches circuit f o → o < end) circuit.outputs = λ k d inside reaches.
    let o = get_or circuit.outputs k d in
    let item : get_or items k 0 ≡ o = ap (λ (os : List ℕ). get_or os k 0) value ∙ get_or_default circuit.outputs k 0 d inside in
    let held : has reached o ≡ true = found.all o (outputs_below circuit rules k d inside) reaches in
    omega (arith, item, c.loop-output.invariant.before k (omega (arith, inside, ap length value, c.loop-output-test.false)) (ap (has reached) item ∙ held)) in
    record {
      before = before;
      last = elim c.loop-output.invariant.last [
        | inl none ↦ inl none
        | inr (k, below, held, at) ↦
            let o = get_or items k 0 in
            inr (k, o, omega (arith, below, c.loop-output.auto.output-index-end, ap length value), ap (λ (os : List ℕ). get_or os k 0) value, found.only o held, at)
      ];
      unseen = λ v k d inside far.
          let o = get_or circuit.outputs k d in
          unreached_same circuit rules f v o (outputs_below circuit rules k d inside) (λ reaches. omega (arith, before k d inside reaches, far));
    }
