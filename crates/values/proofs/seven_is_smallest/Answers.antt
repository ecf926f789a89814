use Rattle.std.proofs.Common.{refl}
use Rattle.values.specs.Seven.{seven, seven_sets}
use Rattle.values.specs.Laws.ByTest.{smallest_by_test}
use Rattle.values.proofs.seven_is_smallest.Goals as goal

pub returns : goal.returns
returns c = smallest_by_test seven_sets seven refl
