use Rattle.std.proofs.Common.{◌≡◌, ℕ, ◌+◌, ◌<◌, List, length, get_or, sym, subst, ap, ◌∙◌, arith}
use Rattle.std.proofs.lemmas.List.{get_or-map, length-map}
use Rattle.circuit.specs.Tables.{gate_model}
use Rattle.circuit.specs.Model.{Gate}
use Rattle.std.specs.List.{list_any}
use Rattle.simulator.specs.Fanouts.{no_gate, operands_at}
use Rattle.simulator.specs.LineSets.{has, OnlyMore}
use Rattle.simulator.proofs.Lines.{operands_below, gates_fit, few_lines}
use Rattle.simulator.proofs.Reaching.{Collected, own_alone, own_beyond, all_reached, gate_passed, gate_added}
use Rattle.simulator.proofs.reach.reached_lines.Goals as goal
use Rattle.simulator.proofs.reach.reached_lines.Goals.{then-line-lt-MOST_LINES, else-line-lt-MOST_LINES, then-some_reached, else-some_reached}

-- from the start the fault's own line is in the set, and no other
pub loop-index-init : goal.loop-index-init
loop-index-init c =
    let circuit = c.args.circuit.now in
    let f = c.args.fault in
    let empty = c.empty-reached in
    elim c.if-line-lt-MOST_LINES.branch [
      | then-line-lt-MOST_LINES w ↦
          let own = w.line-then-line-lt-MOST_LINES.ensures in
          let added = w.with-reached.ensures in
          let more = w.with-reached.result in
          rw w.reached-is
          (own_alone circuit f empty.result more empty.ensures (ap (has more) (sym own) ∙ added.line) (subst (λ (n : ℕ). OnlyMore empty.result n more) own added.only))
      | else-line-lt-MOST_LINES w ↦
          rw w.reached-is (own_beyond circuit f empty.result empty.ensures (λ small. omega (arith, small, w.if-line-lt-MOST_LINES.false, c.line.ensures)))
    ]

pub some_reached-requires : goal.some_reached-requires
some_reached-requires c = λ k d inside.
    let circuit = c.args.circuit.now in
    let rules = c.gates-gate-items.ensures.rules in
    let items = c.gates-gate-items.result.now in
    let index = c.loop-index.index in
    let long : length items ≡ length circuit.gates = sym (length-map items gate_model) ∙ ap length c.gates-gate-items.ensures.value in
    let below : index < length circuit.gates = omega (arith, long, c.loop-index-test.true) in
    let line = length circuit.inputs + index in
    let small : line < 512 = omega (arith, below, few_lines circuit rules) in
    let gate = get_or circuit.gates index no_gate in
    let gate_is : gate_model c.gate-item.result ≡ gate =
    ap gate_model c.gate-item.is
    ∙ sym (get_or-map gate_model items index c.gate-item.result no_gate c.loop-index-test.true)
    ∙ ap (λ (gs : List Gate). get_or gs index no_gate) c.gates-gate-items.ensures.value in
    let operands : c.as_slice.result.now ≡ gate.operands = c.as_slice.ensures.value ∙ ap (λ (g : Gate). g.operands) gate_is in
    let low = operands_below line gate (gates_fit circuit rules index below) k d (omega (arith, inside, ap length operands)) in
    omega (arith, low, small, ap (λ (os : List ℕ). get_or os k d) operands)

pub add-requires : goal.add-requires
add-requires c =
    let circuit = c.args.circuit.now in
    let rules = c.gates-gate-items.ensures.rules in
    let items = c.gates-gate-items.result.now in
    let index = c.loop-index.index in
    let long : length items ≡ length circuit.gates = sym (length-map items gate_model) ∙ ap length c.gates-gate-items.ensures.value in
    let below : index < length circuit.gates = omega (arith, long, c.loop-index-test.true) in
    let line = length circuit.inputs + index in
    let small : line < 512 = omega (arith, below, few_lines circuit rules) in
    omega (arith, small, c.input_count-inputs.ensures.value)

pub loop-index-preserved : goal.loop-index-preserved
loop-index-preserved c =
    let circuit = c.args.circuit.now in
    let rules = c.gates-gate-items.ensures.rules in
    let items = c.gates-gate-items.result.now in
    let index = c.loop-index.index in
    let long : length items ≡ length circuit.gates = sym (length-map items gate_model) ∙ ap length c.gates-gate-items.ensures.value in
    let below : index < length circuit.gates = omega (arith, long, c.loop-index-test.true) in
    let gate = get_or circuit.gates index no_gate in
    let gate_is : gate_model c.gate-item.result ≡ gate =
    ap gate_model c.gate-item.is
    ∙ sym (get_or-map gate_model items index c.gate-item.result no_gate c.loop-index-test.true)
    ∙ ap (λ (gs : List Gate). get_or gs index no_gate) c.gates-gate-items.ensures.value in
    let operands : c.as_slice.result.now ≡ gate.operands = c.as_slice.ensures.value ∙ ap (λ (g : Gate). g.operands) gate_is in
    let f = c.args.fault in
    let here : c.input_count-inputs.result + index ≡ length circuit.inputs + index = omega (arith, c.input_count-inputs.ensures.value) in
    let was = c.loop-index.reached in
    let answer : c.some_reached.result ≡ list_any (has was) (operands_at circuit.gates index) = c.some_reached.ensures ∙ ap (list_any (has was)) operands in
    elim c.if-some_reached.branch [
      | then-some_reached w ↦
          let added = w.add.ensures in
          let more = w.add.new.self in
          rw w.reached-is
          (gate_added circuit rules f was more index below (sym answer ∙ w.if-some_reached.true) added.more
          (ap (has more) (sym here) ∙ added.line) (subst (λ (n : ℕ). OnlyMore was n more) here added.only) c.loop-index.invariant)
      | else-some_reached w ↦ rw w.reached-is (gate_passed circuit f was index (sym answer ∙ w.if-some_reached.false) c.loop-index.invariant)
    ]

pub returns-clause-all : goal.returns-clause-all
returns-clause-all c =
    let circuit = c.args.circuit.now in
    let count : c.loop-index.index ≡ length circuit.gates =
    omega (arith, c.loop-index-test.false, ap length c.gates-gate-items.ensures.value, length-map c.gates-gate-items.result.now gate_model) in
    all_reached circuit c.gates-gate-items.ensures.rules c.args.fault c.loop-index.reached
    (subst (Collected circuit c.args.fault c.loop-index.reached) count c.loop-index.invariant)
