use Rattle.std.proofs.Common.{◌∙◌}
use Rattle.reader.proofs.Steps.{handed_up}
use Rattle.reader.proofs.parser.Parser.gate_line.Goals as goal

pub returns-in_err-gate_begin : goal.returns-in_err-gate_begin
returns-in_err-gate_begin c = handed_up _ _ _ _ _ c.from_residual-in_err-gate_begin.ensures.1 c.in_ok-name.ensures.0 (c.in_err-gate_begin.ensures c.in_ok-name.name)

pub returns-in_err-line_gate : goal.returns-in_err-line_gate
returns-in_err-line_gate c =
    let name = c.in_ok-name.name in
    handed_up _ _ _ _ _ c.from_residual-in_err-line_gate.ensures.1 (c.in_ok-name.ensures.0 ∙ (c.in_ok-gate_begin.ensures name).0) (c.in_err-line_gate.ensures.leads name)
