use Rattle.std.proofs.Common.{refl}
use Rattle.faults.proofs.Bits.{within_bits}
use Rattle.faults.proofs.cube.Cube.level.Goals as goal

pub returns : goal.returns
returns c = rw (← c.self.view_is) (record { value = refl; rule = within_bits c.self.inside.driven c.self.inside.level c.self.invariant })
