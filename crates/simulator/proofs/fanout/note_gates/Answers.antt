use Rattle.std.proofs.Common.{rules, ℕ, List, [], ◌∷◌, ◌++◌, map, subst, ap, arith}
use Rattle.std.proofs.lemmas.Grind.{common_steps}
use Rattle.std.proofs.lemmas.Bool.{and_parts}
use Rattle.circuit.specs.Tables.{gate_model}
use Rattle.simulator.proofs.Fanouts.{keeps_trans, noted_keeps, complete_turn}
use Rattle.simulator.specs.Fanouts.{Noted}
use Rattle.simulator.proofs.fanout.note_gates.Goals as goal

pub loop-line-preserved : goal.loop-line-preserved
loop-line-preserved c =
    let ((line, next), rest) = c.in-Some.ensures.steps in
    let gate = gate_model c.in-Some.gate.now in
    let (before, long, e) = c.loop-line.invariant.fit in
    let parts = and_parts _ _ (rw rest at e) in
    record {
      same = search rules;
      room = search rules;
      fit = (before ++ (gate ∷ []), grind (arith, common_steps), parts.1);
      noted = λ after keeps complete.
          c.loop-line.invariant.noted after (keeps_trans c.loop-line.readers c.note_gate.new.readers after c.note_gate.ensures.keeps keeps)
          (complete_turn _ c.in-Some.line _ gate _ _ after line next (ap (map gate_model) rest)
          (subst (λ (os : List ℕ). Noted c.in-Some.line os after) c.as_slice.ensures.value
          (noted_keeps c.in-Some.line c.as_slice.result.now c.note_gate.new.readers after keeps c.note_gate.ensures.noted))
          complete);
    }
