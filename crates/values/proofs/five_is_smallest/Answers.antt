use Rattle.std.proofs.Common.{refl}
use Rattle.values.specs.Five.{five, five_sets}
use Rattle.values.specs.Laws.ByTest.{smallest_by_test}
use Rattle.values.proofs.five_is_smallest.Goals as goal

pub returns : goal.returns
returns c = smallest_by_test five_sets five refl
