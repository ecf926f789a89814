use Rattle.std.proofs.Common.{◌≡◌, ◌+◌, ◌*◌, ◌≤◌, length}
use Rattle.reader.specs.Reading.{operand}
use Rattle.reader.specs.Parsing.{ahead, at, InGates}
use Rattle.reader.specs.Gates.{pending_of}
use Rattle.reader.proofs.parser.Parser.+gate_operands.Given as goal

abbrev pub decreases-gate : goal.decreases-gate
decreases-gate l = 2 * l.allowed + 1

abbrev pub decreases-operands : goal.decreases-operands
decreases-operands l = 2 * l.gate.allowed

abbrev pub invariant-operands-operands : goal.invariant-operands-operands
invariant-operands-operands l = record {
  leads : InGates l.initial.gate.allowed (λ name pending. at (operand name (pending_of l.initial.gate) pending) l.initial.self ≡ at (operand name (pending_of l.gate) pending) l.self);
  fewer : length (ahead l.self) ≤ length (ahead l.initial.self);
  same : l.gate.allowed ≡ l.initial.gate.allowed;
}

abbrev pub decreases-operands-operands : goal.decreases-operands-operands
decreases-operands-operands l = length (ahead l.self)
