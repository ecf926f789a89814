-- The kind nine: any two halves.
use Rattle.std.specs.Prelude.{List, [], ◌∷◌}
use Rattle.values.specs.Pairs.{Pairs}
use Rattle.values.specs.Kind.{Kind}
use Rattle.values.specs.Made.{SmallestAnswers}
use Rattle.values.specs.Halves.{of_halves, by_halves}
use Rattle.values.specs.declared.half.Half.TheVariants as half
use Rattle.values.specs.declared.nine.Nine.{Nine}
use Rattle.values.specs.declared.nine.Nine.TheVariants.{Zero, One, D, NotD, GoodZero, GoodOne, FaultyZero, FaultyOne, Unknown}

abbrev pub nine : Kind
nine = by_halves of_halves

-- the sets of the kind
abbrev pub nine_sets : List Pairs
nine_sets =
    of_halves half.Zero half.Zero ∷ of_halves half.Zero half.One ∷ of_halves half.One half.Zero ∷ of_halves half.One half.One ∷
    of_halves half.Zero half.Unknown ∷ of_halves half.One half.Unknown ∷ of_halves half.Unknown half.Zero ∷ of_halves half.Unknown half.One ∷
    of_halves half.Unknown half.Unknown ∷ []

-- the pairs that a value admits
abbrev pub nine_meaning : Nine → Pairs
nine_meaning Zero = of_halves half.Zero half.Zero
nine_meaning One = of_halves half.One half.One
nine_meaning D = of_halves half.One half.Zero
nine_meaning NotD = of_halves half.Zero half.One
nine_meaning GoodZero = of_halves half.Zero half.Unknown
nine_meaning GoodOne = of_halves half.One half.Unknown
nine_meaning FaultyZero = of_halves half.Unknown half.Zero
nine_meaning FaultyOne = of_halves half.Unknown half.One
nine_meaning Unknown = of_halves half.Unknown half.Unknown

-- the answers of nine are the smallest of its sets that hold what the operands can make
abbrev pub NineSmallest : Type 0
NineSmallest = SmallestAnswers nine_sets nine
