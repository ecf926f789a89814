use Rattle.std.proofs.Common.{[], refl, arith}
use Rattle.reader.proofs.Steps.{handed_up}
use Rattle.reader.proofs.parser.Parser.line_gate.Goals as goal

pub returns-in_err-gate-clause-leads : goal.returns-in_err-gate-clause-leads
returns-in_err-gate-clause-leads c = λ name. handed_up _ _ _ _ _ c.from_residual.ensures.1 refl (c.in_err-gate.ensures.leads name [] (omega arith))
