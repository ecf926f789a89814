-- A value kind, by what it does to sets of pairs, and the laws that each kind keeps.
use Rattle.std.specs.Prelude.{◌≡◌, Bool, true, false}
use Rattle.values.specs.Pairs.{Pair, Pairs, pair, ◌∈◌, only, Single}
use Rattle.values.specs.Values.{Gates, Values, pairs}

-- how a kind combines and sticks sets of pairs, and the set of an input that is not driven
pub record Kind : Type 0 where
  pub values : Values Pairs
  pub unknown : Pairs

-- The laws are asked only of the sets M that the kind's values have, a family that is closed under the functions.
-- Closed is 'in', keeping is 'keeps': what the operands' pairs make, level by level, is in the answer.
-- Single is 'single': operands of one pair each have an answer of one pair.

-- the laws of the gates and of an open input
pub record LawfulGates (G : Gates Pairs) (unknown : Pairs) (M : Pairs → Type 0) : Type 0 where
  pub inhabited : (s : Pairs) → M s → (p : Pair) × (p ∈ s)
  pub known_is : (b : Bool) → G.known b ≡ only b b
  pub unknown_00 : pair false false ∈ unknown
  pub unknown_11 : pair true true ∈ unknown
  pub known_in : (b : Bool) → M (G.known b)
  pub unknown_in : M unknown
  pub negate_in : (s : Pairs) → M s → M (G.negate s)
  pub both_in : (s t : Pairs) → M s → M t → M (G.both s t)
  pub either_in : (s t : Pairs) → M s → M t → M (G.either s t)
  pub differ_in : (s t : Pairs) → M s → M t → M (G.differ s t)
  pub negate_keeps : (s : Pairs) (p : Pair) → M s → p ∈ s → pairs.gates.negate p ∈ G.negate s
  pub both_keeps : (s t : Pairs) (p q : Pair) → M s → M t → p ∈ s → q ∈ t → pairs.gates.both p q ∈ G.both s t
  pub either_keeps : (s t : Pairs) (p q : Pair) → M s → M t → p ∈ s → q ∈ t → pairs.gates.either p q ∈ G.either s t
  pub differ_keeps : (s t : Pairs) (p q : Pair) → M s → M t → p ∈ s → q ∈ t → pairs.gates.differ p q ∈ G.differ s t
  pub negate_single : (s : Pairs) → M s → Single s → Single (G.negate s)
  pub both_single : (s t : Pairs) → M s → M t → Single s → Single t → Single (G.both s t)
  pub either_single : (s t : Pairs) → M s → M t → Single s → Single t → Single (G.either s t)
  pub differ_single : (s t : Pairs) → M s → M t → Single s → Single t → Single (G.differ s t)

-- the laws of sticking
pub record LawfulStick (stick : Bool → Pairs → Pairs) (M : Pairs → Type 0) : Type 0 where
  pub stick_in : (v : Bool) (s : Pairs) → M s → M (stick v s)
  pub stick_keeps : (v : Bool) (s : Pairs) (p : Pair) → M s → p ∈ s → pairs.stick v p ∈ stick v s
  pub stick_single : (v : Bool) (s : Pairs) → M s → Single s → Single (stick v s)

pub record Lawful (K : Kind) (M : Pairs → Type 0) : Type 0 where
  pub gates : LawfulGates K.values.gates K.unknown M
  pub stick : LawfulStick K.values.stick M
