use Rattle.std.proofs.Common.{◌≡◌, ℕ, ◌++◌, ◌≤◌, max, map, length, take, drop, Ok, sym, refl, ap, ◌∙◌, subst, arith}
use Rattle.std.proofs.lemmas.Grind.{common_steps}
use Rattle.std.proofs.lemmas.Slice.{drop-append-drop}
use Rattle.std.proofs.lemmas.List.{length-take-le}
use Rattle.std.specs.Result.{result_map_both}
use Rattle.refusals.specs.declared.layers.FolderRefusal.{FolderRefusal}
use Rattle.circuit.specs.Model.{line_count}
use Rattle.simulator.specs.Detection.{simulated, verdict}
use Rattle.simulator.specs.Simulation.{simulation}
use Rattle.simulator.specs.Laws.{Tells}
use Rattle.simulator.proofs.Resimulating.{retraced, traced_all}
use Rattle.simulator.proofs.Rules.{outputs_below, row_has_room}
use Rattle.simulator.proofs.Telling.{verdict_tells}
use Rattle.simulator.proofs.resimulation.resimulate.Goals as goal

pub judge-requires : goal.judge-requires
judge-requires g c = λ k d h. grind (arith, common_steps, outputs_below c.args.fanout.now.circuit.now c.outputs.ensures.rules k d)

pub returns-clause-simulates : goal.returns-clause-simulates
returns-clause-simulates g c holds =
    let v = g.V.ValueKind in
    let fanout = c.args.fanout.now in
    let circuit = fanout.circuit.now in
    let fault = c.args.socket.now.fault in
    let cube = c.args.cube in
    let before = c.args.row.now in
    let lines = c.line_count.result in
    let worked = c.resettle.new.row in
    let whole : take (line_count circuit) (worked ++ drop lines before) ≡ worked = grind (arith, common_steps) in
    let rest : drop (line_count circuit) (worked ++ drop lines before) ≡ drop (line_count circuit) before = grind (arith, common_steps, drop-append-drop) in
    let places : lines ≤ length before = omega (arith, row_has_room circuit cube (length before) c.in_ok-allow_simulation.ensures, c.line_count.ensures) in
    let room : length c.redrive-waiting.new.row ≡ line_count circuit = omega (arith, c.redrive-waiting.ensures.0, length-take-le lines before places, c.line_count.ensures) in
    let traced =
    retraced v.kind v.meaning circuit fault c.args.before cube fanout.inputs (length c.redrive-waiting.new.row) c.redrive-waiting.result c.resettle.new.waiting (take lines before) c.redrive-waiting.new.row worked fanout.inputs_are
    (ap (λ (n : ℕ). map v.meaning (take n before)) c.line_count.ensures ∙ holds) c.redrive-waiting.ensures c.resettle.ensures in
    let sets : map v.meaning worked ≡ simulated v.kind circuit fault cube =
    traced_all v.kind v.meaning circuit fault c.args.before cube fanout.readers.now fanout.complete (max fanout.inputs (length c.redrive-waiting.new.row)) c.resettle.new.waiting worked (omega (arith, room)) traced in
    let is : c.judge.result ≡ verdict v.kind circuit fault cube = c.judge.ensures ∙ rw (sets, c.outputs.ensures.value) refl in
    let answer : Ok c.judge.result ≡ simulation v.kind circuit fault cube (length before) =
    ap Ok is ∙ ap (result_map_both (λ _. verdict v.kind circuit fault cube) (λ (e : FolderRefusal). e)) c.in_ok-allow_simulation.ensures in
    record {
      answer = answer;
      row = record { front = ap (map v.meaning) whole ∙ sets; rest = rest };
      tells = subst (Tells circuit fault cube) (sym is) (verdict_tells v.kind v.family g.met.V.ValueKind.lawful circuit fault cube);
    }
