-- The kind seven: two halves, the faulty one known only where the good one is.
use Rattle.std.specs.Prelude.{List, [], ◌∷◌}
use Rattle.values.specs.Pairs.{Pairs}
use Rattle.values.specs.Kind.{Kind}
use Rattle.values.specs.Made.{SmallestAnswers}
use Rattle.values.specs.Halves.{of_halves, by_halves}
use Rattle.values.specs.declared.half.Half.{Half}
use Rattle.values.specs.declared.half.Half.TheVariants as half
use Rattle.values.specs.declared.seven.Seven.{Seven}
use Rattle.values.specs.declared.seven.Seven.TheVariants.{Zero, One, D, NotD, GoodZero, GoodOne, Unknown}

-- the faulty half, given up where the good half is unknown
abbrev pub forced : Half → Half → Half
forced half.Zero f = f
forced half.One f = f
forced half.Unknown f = half.Unknown

-- as nine, and then the rule on the faulty half
abbrev pub seven : Kind
seven = by_halves (λ g f. of_halves g (forced g f))

-- the sets of the kind
abbrev pub seven_sets : List Pairs
seven_sets =
    of_halves half.Zero half.Zero ∷ of_halves half.Zero half.One ∷ of_halves half.One half.Zero ∷ of_halves half.One half.One ∷
    of_halves half.Zero half.Unknown ∷ of_halves half.One half.Unknown ∷ of_halves half.Unknown half.Unknown ∷ []

-- the pairs that a value admits
abbrev pub seven_meaning : Seven → Pairs
seven_meaning Zero = of_halves half.Zero half.Zero
seven_meaning One = of_halves half.One half.One
seven_meaning D = of_halves half.One half.Zero
seven_meaning NotD = of_halves half.Zero half.One
seven_meaning GoodZero = of_halves half.Zero half.Unknown
seven_meaning GoodOne = of_halves half.One half.Unknown
seven_meaning Unknown = of_halves half.Unknown half.Unknown

-- the answers of seven are the smallest of its sets that hold what the operands can make
abbrev pub SevenSmallest : Type 0
SevenSmallest = SmallestAnswers seven_sets seven
