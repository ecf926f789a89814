use Rattle.std.proofs.Common.{◌≡◌, ◌+◌, length, map, drop, fold}
use Rattle.circuit.specs.declared.op.Op.{Op}
use Rattle.simulator.specs.Lines.{join, operands_from}
use Rattle.simulator.proofs.gates.fold_operands.Given as goal

-- joined on with the operands that are left, the value gives what all join to
abbrev pub invariant-loop-index : goal.invariant-loop-index
invariant-loop-index g l =
    let v = g.V.ValueKind in
    let A = v.kind.values in
    (op : Op) → ((x y z : _) → goal.J-post g l.combine x y z → v.meaning z ≡ join A.gates op (v.meaning x) (v.meaning y)) →
    fold (join A.gates op) (v.meaning l.value) (operands_from A l.fault (map v.meaning l.row) (length l.row) (l.index + 2) (drop (l.index + 1) l.operands))
    ≡ fold (join A.gates op) (v.meaning l.initial.value) (operands_from A l.fault (map v.meaning l.row) (length l.row) 2 (drop 1 l.operands))
