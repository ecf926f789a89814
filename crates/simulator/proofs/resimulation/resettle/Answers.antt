use Rattle.std.proofs.Common.{◌≡◌, ℕ, ◌-◌, ◌<◌, ◌≤◌, true, List, length, map, get_or, take, sym, ap, subst, ◌∙◌, arith}
use mathlib.Core.Bool.{false≢true}
use Rattle.std.proofs.lemmas.Bool.{ltb-false}
use Rattle.std.proofs.lemmas.Grind.{common_steps}
use Rattle.std.proofs.lemmas.List.{get_or-map, get_or-take, length-map, length-take-le}
use Rattle.circuit.specs.Model.{Gate, line_count}
use Rattle.circuit.specs.Lawful.{gate_fits}
use Rattle.circuit.specs.Tables.{gate_model}
use Rattle.simulator.specs.LineSets.{Includes}
use Rattle.simulator.specs.Fanouts.{no_gate, none_reads}
use Rattle.simulator.specs.Lines.{gate_value}
use Rattle.simulator.specs.Resimulation.{Traced}
use Rattle.simulator.proofs.Lines.{gates_fit}
use Rattle.simulator.proofs.Resimulating.{gates_until, gate_turned}
use Rattle.simulator.proofs.resimulation.resettle.Goals.{then-write, else-write}
use Rattle.simulator.proofs.resimulation.resettle.Goals as goal

pub gate_value-value-requires : goal.gate_value-value-requires
gate_value-value-requires g c =
    let fanout = c.args.fanout.now in
    let circuit = fanout.circuit.now in
    let gates = fanout.gates.now in
    let next = c.in-Some.next in
    let (at, small, there, lacking) = c.in-Some.ensures.next in
    let k = next - length circuit.inputs in
    let place : next - fanout.inputs ≡ k = omega (arith, fanout.inputs_are) in
    let from : length circuit.inputs ≤ next = omega (arith, at, c.lines.invariant.from, fanout.inputs_are) in
    let low : next - fanout.inputs < length (take (c.args.end - fanout.inputs) gates) = c.in-Some-get.ensures.lookup.3.0 in
    let below : k < c.args.end - fanout.inputs = grind (arith, common_steps, low, place) in
    let inside : k < length gates = grind (arith, common_steps, low, place) in
    let long : length gates ≡ length circuit.gates = sym (length-map gates gate_model) ∙ ap length fanout.gates_are in
    let gate : gate_model c.in-Some-get.gate.now ≡ get_or circuit.gates k no_gate =
    ap gate_model (c.in-Some-get.ensures.lookup.1 ∙ ap (λ (n : ℕ). get_or (take (c.args.end - fanout.inputs) gates) n c.in-Some-get.gate.now) place
    ∙ get_or-take (c.args.end - fanout.inputs) gates k c.in-Some-get.gate.now below)
    ∙ sym (get_or-map gate_model gates k c.in-Some-get.gate.now no_gate inside)
    ∙ ap (λ (gs : List Gate). get_or gs k no_gate) fanout.gates_are in
    let here : next < c.args.end = omega (arith, below, from, fanout.inputs_are) in
    let row_long : length (take next c.lines.row) ≡ next = length-take-le next c.lines.row (omega (arith, here, c.requires.within, c.lines.invariant.same)) in
    ap (λ (n : ℕ). gate_fits n (gate_model c.in-Some-get.gate.now)) row_long
    ∙ ap (gate_fits next) gate
    ∙ ap (λ (n : ℕ). gate_fits n (get_or circuit.gates k no_gate)) (omega (arith, from))
    ∙ gates_fit circuit fanout.rules k (omega (arith, inside, long))

pub lines-preserved : goal.lines-preserved
lines-preserved g c =
    let v = g.V.ValueKind in
    let i = c.lines.invariant in
    let fanout = c.args.fanout.now in
    let circuit = fanout.circuit.now in
    let gates = fanout.gates.now in
    let next = c.in-Some.next in
    let (at, small, there, lacking) = c.in-Some.ensures.next in
    let k = next - length circuit.inputs in
    let place : next - fanout.inputs ≡ k = omega (arith, fanout.inputs_are) in
    let from : length circuit.inputs ≤ next = omega (arith, at, c.lines.invariant.from, fanout.inputs_are) in
    let low : next - fanout.inputs < length (take (c.args.end - fanout.inputs) gates) = c.in-Some-get.ensures.lookup.3.0 in
    let below : k < c.args.end - fanout.inputs = grind (arith, common_steps, low, place) in
    let inside : k < length gates = grind (arith, common_steps, low, place) in
    let long : length gates ≡ length circuit.gates = sym (length-map gates gate_model) ∙ ap length fanout.gates_are in
    let gate : gate_model c.in-Some-get.gate.now ≡ get_or circuit.gates k no_gate =
    ap gate_model (c.in-Some-get.ensures.lookup.1 ∙ ap (λ (n : ℕ). get_or (take (c.args.end - fanout.inputs) gates) n c.in-Some-get.gate.now) place
    ∙ get_or-take (c.args.end - fanout.inputs) gates k c.in-Some-get.gate.now below)
    ∙ sym (get_or-map gate_model gates k c.in-Some-get.gate.now no_gate inside)
    ∙ ap (λ (gs : List Gate). get_or gs k no_gate) fanout.gates_are in
    let here : next < c.args.end = omega (arith, below, from, fanout.inputs_are) in
    let room : next < line_count circuit = omega (arith, here, c.requires.within, c.requires.room) in
    let worked : v.meaning c.gate_value-value.result ≡ gate_value v.kind.values c.args.fault (map v.meaning (take next c.lines.row)) (get_or circuit.gates k no_gate) =
    c.gate_value-value.ensures ∙ ap (gate_value v.kind.values c.args.fault (map v.meaning (take next c.lines.row))) gate in
    let more : Includes c.if-write.waiting c.lines.waiting × (c.write.result ≡ true → Includes c.if-write.waiting (get_or fanout.readers.now next none_reads)) = elim c.if-write.branch [
      | then-write w ↦ rw w.waiting-is (w.add_all.ensures.these, λ e. w.add_all.ensures.those)
      | else-write w ↦ rw w.waiting-is (λ line e. e, λ e. absurd (false≢true (sym w.if-write.false ∙ e)))
    ] in
    record {
      from = omega (arith, from, fanout.inputs_are);
      within = omega (arith, here);
      copy = λ inner. elim c.if-write.branch [
        | then-write w ↦ rw (w.waiting-is, w.cursor-is) (w.add_all.ensures.copy ∙ ap (λ (i : ℕ). get_or w.add_all.new.lines.words i 0) (omega (arith, inner)))
        | else-write w ↦ rw (w.waiting-is, w.cursor-is) (c.in-Some.ensures.copy ∙ ap (λ (i : ℕ). get_or c.lines.waiting.words i 0) (omega (arith, inner)))
      ];
      same = c.write.ensures.long ∙ i.same;
      traced = λ q t s.
          gate_turned v.kind v.meaning circuit c.args.fault q t fanout.readers.now fanout.complete fanout.rules
          next c.lines.waiting c.if-write.waiting c.lines.row c.write.new.row c.gate_value-value.result c.write.result from room worked c.write.ensures more.0 more.1
          (gates_until v.kind v.meaning circuit c.args.fault q t fanout.readers.now fanout.complete fanout.rules c.lines.line next c.lines.waiting c.lines.row
          (omega (arith, i.from, fanout.inputs_are)) at (omega (arith, room)) lacking (i.traced q t s));
    }

pub returns-in_default-get : goal.returns-in_default-get
returns-in_default-get g c =
    let v = g.V.ValueKind in
    let i = c.lines.invariant in
    let fanout = c.args.fanout.now in
    let circuit = fanout.circuit.now in
    let (at, small, there, lacking) = c.in-Some.ensures.next in
    let past : length (take (c.args.end - fanout.inputs) fanout.gates.now) ≤ c.in-Some.next - fanout.inputs = ltb-false _ _ (sym c.in_default-get.ensures.lookup.0) in
    let long : length fanout.gates.now ≡ length circuit.gates = sym (length-map fanout.gates.now gate_model) ∙ ap length fanout.gates_are in
    let few : c.args.end - fanout.inputs ≤ length fanout.gates.now = omega (arith, c.requires.within, c.requires.room, long, fanout.inputs_are) in
    let beyond : c.args.end ≤ c.in-Some.next = omega (arith, past, length-take-le (c.args.end - fanout.inputs) fanout.gates.now few, at, i.from) in (
      i.same,
      λ q t s.
          subst (λ (n : ℕ). Traced v.kind v.meaning circuit c.args.fault q t n c.lines.waiting c.lines.row) (omega (arith, i.within, c.if-from-end.false))
          (gates_until v.kind v.meaning circuit c.args.fault q t fanout.readers.now fanout.complete fanout.rules c.lines.line c.args.end c.lines.waiting c.lines.row
          (omega (arith, i.from, fanout.inputs_are)) i.within (omega (arith, c.requires.within, c.requires.room)) (λ k from below. lacking k from (omega (arith, below, beyond)))
          (i.traced q t s)),
    )

pub returns-in_default : goal.returns-in_default
returns-in_default g c =
    let v = g.V.ValueKind in
    let i = c.lines.invariant in
    let fanout = c.args.fanout.now in (
      i.same,
      λ q t s.
          subst (λ (n : ℕ). Traced v.kind v.meaning fanout.circuit.now c.args.fault q t n c.lines.waiting c.lines.row) (omega (arith, i.within, c.if-from-end.false))
          (gates_until v.kind v.meaning fanout.circuit.now c.args.fault q t fanout.readers.now fanout.complete fanout.rules c.lines.line c.args.end c.lines.waiting c.lines.row
          (omega (arith, i.from, fanout.inputs_are)) i.within (omega (arith, c.requires.within, c.requires.room)) (λ k at below. c.in_default.ensures.next k at below)
          (i.traced q t s)),
    )
