use Rattle.std.proofs.Common.{◌≡◌, ℕ, ◌/◌, ◌%◌, ◌^◌, true, length, get_or, sym, ap, refl, ◌∙◌, arith}
use mathlib.Core.Bool.{false≢true}
use Rattle.simulator.specs.LineSets.{Includes}
use Rattle.simulator.specs.Fanouts.{none_reads}
use Rattle.simulator.specs.Lines.{at_pin}
use Rattle.simulator.proofs.Resimulating.{traced_none, inputs_until, input_turned}
use Rattle.simulator.proofs.resimulation.redrive.Goals.{then-write, else-write}
use Rattle.simulator.proofs.resimulation.redrive.Goals as goal

pub loop-input-init : goal.loop-input-init
loop-input-init g c =
    let v = g.V.ValueKind in
    let fanout = c.args.fanout.now in
    record {
      within = omega arith;
      long = refl;
      traced = λ held. traced_none v.kind v.meaning fanout.circuit.now c.args.fault c.args.before c.args.cube fanout.readers.now fanout.complete c.empty-waiting.result c.args.row.now held;
    }

pub loop-input-preserved : goal.loop-input-preserved
loop-input-preserved g c =
    let v = g.V.ValueKind in
    let fanout = c.args.fanout.now in
    let input = c.in-Some.input in
    let (at, inside, one_bit, zero_bits) = c.in-Some.ensures in
    let more : Includes c.if-write.waiting c.loop-input.waiting × (c.write.result ≡ true → Includes c.if-write.waiting (get_or fanout.readers.now input none_reads)) = elim c.if-write.branch [
      | then-write w ↦ rw w.waiting-is (w.add_all.ensures.these, λ e. w.add_all.ensures.those)
      | else-write w ↦ rw w.waiting-is (λ line e. e, λ e. absurd (false≢true (sym w.if-write.false ∙ e)))
    ] in
    record {
      within = omega (arith, inside);
      long = c.write.ensures.long ∙ c.loop-input.invariant.long;
      traced = λ held.
          input_turned v.kind v.meaning fanout.circuit.now c.args.fault c.args.before c.args.cube fanout.readers.now fanout.complete
          input c.loop-input.waiting c.if-write.waiting c.loop-input.row c.write.new.row c.at_pin-value.result c.write.result (omega (arith, inside, fanout.inputs_are))
          (c.at_pin-value.ensures ∙ ap (at_pin v.kind.values c.args.fault input 0) c.input_value.ensures) c.write.ensures more.0 more.1
          (inputs_until v.kind v.meaning fanout.circuit.now c.args.fault c.args.before c.args.cube fanout.readers.now fanout.complete
          c.loop-input.from input c.loop-input.waiting c.loop-input.row at (omega (arith, inside, fanout.inputs_are))
          (λ i above below. ap (λ (n : ℕ). n / 2 ^ i % 2) (sym c.changed_inputs-changed.ensures) ∙ zero_bits i above below)
          (c.loop-input.invariant.traced held));
    }

pub returns : goal.returns
returns g c =
    let v = g.V.ValueKind in
    let fanout = c.args.fanout.now in (
      c.loop-input.invariant.long,
      λ held.
          inputs_until v.kind v.meaning fanout.circuit.now c.args.fault c.args.before c.args.cube fanout.readers.now fanout.complete
          c.loop-input.from (length fanout.circuit.now.inputs) c.loop-input.waiting c.loop-input.row (omega (arith, c.loop-input.invariant.within, fanout.inputs_are)) (omega arith)
          (λ i above below. ap (λ (n : ℕ). n / 2 ^ i % 2) (sym c.changed_inputs-changed.ensures) ∙ c.in_default.ensures i above (omega (arith, below, fanout.inputs_are)))
          (c.loop-input.invariant.traced held),
    )
