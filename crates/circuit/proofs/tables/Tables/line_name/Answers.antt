use Rattle.std.proofs.Common.{◌≤◌, length, vec_len, Some, None, Bor, sym, ap, ◌∙◌, arith}
use Rattle.std.specs.Option.{option_map}
use Rattle.circuit.specs.declared.gate.Gate as code
use Rattle.circuit.specs.declared.name.Name.{Name}
use Rattle.circuit.specs.Tables.{gate_model}
use Rattle.circuit.proofs.Named.{gate_name_at}
use Rattle.circuit.proofs.tables.Tables.line_name.Goals as goal

pub returns-in_err-gate-in-None : goal.returns-in_err-gate-in-None
returns-in_err-gate-in-None c =
    let past : vec_len c.args.self.now.inputs ≤ c.args.line = omega (arith, c.in-None.ensures.lookup.3, ap length c.deref.ensures.value, c.args.self.now.inputs.ok.0) in
    ap (option_map (λ (n : Bor Name). n.now)) c.from_residual.ensures
    ∙ gate_name_at c.args.self.now c.args.line None past (sym c.gate.ensures ∙ ap (option_map (λ (g : Bor code.Gate). gate_model g.now)) c.in_err-gate-in-None.was)

pub returns-in_ok-gate-in-None : goal.returns-in_ok-gate-in-None
returns-in_ok-gate-in-None c =
    let gate = c.in_ok-gate-in-None.field-0.now in
    let past : vec_len c.args.self.now.inputs ≤ c.args.line = omega (arith, c.in-None.ensures.lookup.3, ap length c.deref.ensures.value, c.args.self.now.inputs.ok.0) in
    c.as_ref.ensures.value
    ∙ gate_name_at c.args.self.now c.args.line (Some (gate_model gate)) past (sym c.gate.ensures ∙ ap (option_map (λ (g : Bor code.Gate). gate_model g.now)) c.in_ok-gate-in-None.was)
