use Rattle.std.proofs.Common.{◌∙◌, sym, ap, subst, inr, Option}
use Rattle.circuit.specs.Model.{Circuit}
use Rattle.simulator.specs.Detection.{detected}
use Rattle.simulator.specs.Reach.{UnseenFrom}
use Rattle.simulator.specs.Resimulation.{Holds}
use Rattle.visit.specs.declared.trace.Trace.{Trace}
use Rattle.visit.specs.Traces.{WhereTraced}
use Rattle.visit.specs.Settings.{HoldsUnder}
use Rattle.visit.proofs.setting.Setting.shows.Goals as goal

-- the trace is of the setting's circuit
pub returns-in-Some : goal.returns-in-Some
returns-in-Some g c =
    let v = g.V.ValueKind in
    let s = c.args.self.now in
    let fault = s.socket.now.fault in
    let tied = s.traces c.in-Some.trace c.in-Some.is in
    let held = subst (λ (t : Option Trace). WhereTraced t (HoldsUnder v.kind v.meaning s c.args.before c.args.row.now)) c.in-Some.is c.requires.held in
    c.reshows.ensures.detected _ c.unwrap.ensures
    (subst (λ (d : Circuit). Holds v.kind v.meaning d fault c.args.before c.args.row.now) (sym tied.0) held)
    (inr (subst (λ (d : Circuit). UnseenFrom d fault c.in-Some.trace.end) (sym tied.0) tied.1))
    ∙ ap (λ (d : Circuit). detected v.kind d fault c.args.cube) tied.0
