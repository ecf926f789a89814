-- The kind five, Roth's D-calculus: each of the four pairs alone, and all four pairs.
use Rattle.std.specs.Prelude.{true, false, List, [], ◌∷◌}
use Rattle.values.specs.Pairs.{Pairs, only, every_pair}
use Rattle.values.specs.Kind.{Kind}
use Rattle.values.specs.Made.{closing, SmallestAnswers}
use Rattle.values.specs.declared.five.Five.{Five}
use Rattle.values.specs.declared.five.Five.TheVariants.{Zero, One, D, NotD, Unknown}

-- the sets of the kind, smaller before larger
abbrev pub five_sets : List Pairs
five_sets = only false false ∷ only true true ∷ only true false ∷ only false true ∷ every_pair ∷ []

-- an answer is the smallest of the five sets that holds what the operands can make; an open input admits every pair
abbrev pub five : Kind
five = closing five_sets every_pair

-- the pairs that a value admits
abbrev pub five_meaning : Five → Pairs
five_meaning Zero = only false false
five_meaning One = only true true
five_meaning D = only true false
five_meaning NotD = only false true
five_meaning Unknown = every_pair

-- the answers of five are the smallest
abbrev pub FiveSmallest : Type 0
FiveSmallest = SmallestAnswers five_sets five
