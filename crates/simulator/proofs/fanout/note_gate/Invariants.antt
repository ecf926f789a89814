use Rattle.std.proofs.Common.{take}
use Rattle.simulator.specs.Fanouts.{Keeps, Noted}
use Rattle.simulator.proofs.fanout.note_gate.Given as goal

-- the operands so far are noted
abbrev pub invariant-loop-operand : goal.invariant-loop-operand
invariant-loop-operand l =
    record {
      keeps : Keeps l.initial.readers l.readers;
      noted : Noted l.line (take l.operand-index l.operands) l.readers;
    }
