use Rattle.std.proofs.Common.{◌/◌, ◌^◌, w64, arith}
use Rattle.std.proofs.lemmas.Nat.{shr_le}
use Rattle.std.proofs.lemmas.Nat.Bits.{bit_at-trailing_zeros}
use Rattle.simulator.proofs.LineSets.{rest_none, rest_some}
use Rattle.simulator.proofs.line_set.lowest_from.Goals as goal

pub returns-then-rest-eq0 : goal.returns-then-rest-eq0
returns-then-rest-eq0 c = rest_none c.args.word c.args.from c.if-rest-eq0.true

pub returns : goal.returns
returns c =
    rest_some c.args.word c.args.from _ c.ranges.word.fits
    (bit_at-trailing_zeros w64 (c.args.word / 2 ^ c.args.from) (omega (arith, c.if-rest-eq0.false)) (omega (arith, shr_le c.args.word c.args.from, c.ranges.word.fits)))
