-- Each kind keeps the laws, since it passes a test that antt computes. Here and below stand proofs, which need no belief: the
-- kinds' ghost member `lawful` cites them, and what a ghost member cites may stand in specs/ alone. Assumes nothing.
pub mod Members
pub mod Tests
pub mod ByTest
use Rattle.std.specs.Prelude.{refl}
use Rattle.values.specs.Kind.{Lawful}
use Rattle.values.specs.Made.{Among}
use Rattle.values.specs.Five.{five, five_sets}
use Rattle.values.specs.Seven.{seven, seven_sets}
use Rattle.values.specs.Nine.{nine, nine_sets}
use Rattle.values.specs.Laws.ByTest.{lawful_by_test}

pub five_laws : Lawful five (Among five_sets)
five_laws = lawful_by_test five_sets five refl

pub seven_laws : Lawful seven (Among seven_sets)
seven_laws = lawful_by_test seven_sets seven refl

pub nine_laws : Lawful nine (Among nine_sets)
nine_laws = lawful_by_test nine_sets nine refl
