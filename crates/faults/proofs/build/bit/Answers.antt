use Rattle.std.proofs.Common.{◌≡◌, ◌/◌, ◌^◌, arith, pow_mono, rules}
use Rattle.std.proofs.Math.Nat.{div-eq_of_lt}
use Rattle.faults.proofs.build.bit.Goals as goal

-- a word is below two to the 64, and so below two to any higher number
pub returns-else-index-lt64 : goal.returns-else-index-lt64
returns-else-index-lt64 c =
    let nothing : c.args.word / 2 ^ c.args.index ≡ 0 = div-eq_of_lt (omega (arith, pow_mono {i = 64} {j = c.args.index} c.if-index-lt64.false, c.ranges.word.fits)) in
    rw nothing (search rules)
