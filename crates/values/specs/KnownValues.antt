-- Answers of the three kinds that are known beforehand.
use Rattle.std.specs.Prelude.{◌≡◌, true, false}
use Rattle.values.specs.Pairs.{only, every_pair}
use Rattle.values.specs.Made.{◌∪◌}
use Rattle.values.specs.Five.{five}
use Rattle.values.specs.Nine.{nine}
use Rattle.values.specs.Seven.{seven}

pub record KnownValues : Type 0 where
  -- five, and from the left: what is lost at the open operand does not come back, and the order of the operands matters
  pub five_open_between : five.values.gates.both (five.values.gates.both (only true false) five.unknown) (only false true) ≡ every_pair
  pub five_open_last : five.values.gates.both (five.values.gates.both (only true false) (only false true)) five.unknown ≡ only false false
  -- seven keeps the good 0 of 01 and an open operand
  pub seven_and_open : seven.values.gates.both (only false true) seven.unknown ≡ only false false ∪ only false true
  -- an open line that is stuck at 0: seven gives up the faulty level, nine keeps it
  pub seven_stick_open : seven.values.stick false seven.unknown ≡ every_pair
  pub nine_stick_open : nine.values.stick false nine.unknown ≡ only false false ∪ only true false
