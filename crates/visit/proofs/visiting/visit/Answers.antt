use Rattle.std.proofs.Common.{length, ap, ◌∙◌}
use Rattle.simulator.specs.declared.socket.Socket.{Socket}
use Rattle.visit.specs.Visits.{going_on, left}
use Rattle.visit.proofs.Visited.{visit_is, visits}
use Rattle.visit.proofs.visiting.visit.Goals as goal

pub returns-clause-visits : goal.returns-clause-visits
returns-clause-visits g c =
    let v = g.V.ValueKind in
    let model = c.args.circuit.now in
    let places = length c.args.row.now in
    visits v.kind v.family g.met.V.ValueKind.lawful model c.args.fault c.args.budget places c.answer.result c.in_ok-allow_row.ensures
    (visit_is v.kind v.family g.met.V.ValueKind.lawful model c.args.fault c.args.budget places
    c.untraced-setting.result.circuit.now c.untraced-setting.result.socket.now.fault c.untraced-setting.result.budget c.whole-whole.result.cube c.whole-whole.result.next (going_on c.new-progress.result) (left c.meet-end.new.progress c.meet-end.result) c.answer.result
    c.untraced-setting.ensures.circuit (ap (λ (s : Socket). s.fault) (c.untraced-setting.ensures.socket ∙ c.socket.ensures) ∙ c.plug-plug.ensures.holds) c.untraced-setting.ensures.budget c.whole-whole.ensures.cube c.whole-whole.ensures.next c.new-progress.ensures
    c.meet-end.ensures c.answer.ensures)
