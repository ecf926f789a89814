-- Each part is computed.
use Rattle.std.proofs.Common.{refl}
use lib.Count
use Rattle.visit.proofs.known.known_answers.Goals as goal

pub returns : goal.returns
unfolding lib.Count.ones
returns c = record {
  values = record { five_open_between = refl; five_open_last = refl; seven_and_open = refl; seven_stick_open = refl; nine_stick_open = refl };
  absorbing_s_0_nine = refl;
  absorbing_s_0_seven = refl;
  absorbing_s_0_five = refl;
  absorbing_s_1_nine = refl;
  absorbing_s_1_seven = refl;
  absorbing_s_1_five = refl;
  absorbing_y_2_0_nine = refl;
  masking_p_0 = (refl, refl, refl);
  multiplexer_s_0 = (refl, refl, refl);
  multiplexer_s_0_in_5 = (refl, refl, refl);
  multiplexer_s_0_in_6 = (refl, refl, refl);
  multiplexer_s_0_in_20 = (refl, refl, refl);
  blank_a_0 = (refl, refl, refl);
  blank_a_1 = (refl, refl, refl);
}
