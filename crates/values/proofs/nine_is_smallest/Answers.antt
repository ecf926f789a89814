use Rattle.std.proofs.Common.{refl}
use Rattle.values.specs.Nine.{nine, nine_sets}
use Rattle.values.specs.Laws.ByTest.{smallest_by_test}
use Rattle.values.proofs.nine_is_smallest.Goals as goal

pub returns : goal.returns
returns c = smallest_by_test nine_sets nine refl
