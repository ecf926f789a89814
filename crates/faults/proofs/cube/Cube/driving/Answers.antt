use Rattle.std.proofs.Common.{inl, inr}
use Rattle.faults.proofs.Bits.{within_bits, within_and, within_or, within_place}
use Rattle.faults.proofs.cube.Cube.driving.Goals as goal
use Rattle.faults.proofs.cube.Cube.driving.Goals.{then-level, else-level}

pub invariant_of-result-2 : goal.invariant_of-result-2
invariant_of-result-2 c =
    let self = c.self.inside in
    within_and _ _
    (within_or self.driven self.level _ _ (within_bits self.driven self.level c.self.invariant)
    (within_place _ c.if-level.raised (elim c.if-level.branch [ then-level w ↦ inl w.raised-is | else-level w ↦ inr w.raised-is ])))
