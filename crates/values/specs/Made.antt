-- The pairs that operands can make, and the smallest of some sets that holds them.
use Rattle.std.specs.Prelude.{◌≡◌, Bool, true, false, ◌&&◌, ◌||◌, cond, List, [], ◌∷◌, ◌⊎◌, ◌↔◌}
use Rattle.values.specs.Pairs.{Pair, Pairs, pair, has, ◌∈◌, ◌⊆◌, only, no_pair, every_pair}
use Rattle.values.specs.Values.{Gates, pairs}
use Rattle.values.specs.Kind.{Kind}

-- the members of either set
infixl 60 ◌∪◌
abbrev pub ◌∪◌ : Pairs → Pairs → Pairs
s ∪ t = record { has00 = s.has00 || t.has00; has01 = s.has01 || t.has01; has10 = s.has10 || t.has10; has11 = s.has11 || t.has11 }

-- all the members of the sets that f gives for the members of s
abbrev pub union_over : Pairs → (Pair → Pairs) → Pairs
union_over s f = at false false ∪ at false true ∪ at true false ∪ at true true
  where
    at : Bool → Bool → Pairs
    at g b = cond (has s g b) (f (pair g b)) no_pair

-- the pairs that f makes of one operand's pairs
abbrev pub made_by_one : (Pair → Pair) → Pairs → Pairs
made_by_one f s = union_over s (λ p. only (f p).good (f p).faulty)

-- the pairs that f makes of two operands' pairs
abbrev pub made_by_two : (Pair → Pair → Pair) → Pairs → Pairs → Pairs
made_by_two f s t = union_over s (λ p. made_by_one (f p) t)

-- the pairs that operands can make are those, and no others
pub record MadeExactly : Type 0 where
  pub by_one : (f : Pair → Pair) (s : Pairs) (r : Pair) → (r ∈ made_by_one f s) ↔ ((p : Pair) × (p ∈ s) × (r ≡ f p))
  pub by_two : (f : Pair → Pair → Pair) (s t : Pairs) (r : Pair)
      → (r ∈ made_by_two f s t) ↔ ((p : Pair) × (q : Pair) × (p ∈ s) × (q ∈ t) × (r ≡ f p q))

-- s is one of the listed sets
abbrev pub Among : List Pairs → Pairs → Type 0
Among [] s = ⊥
Among (t ∷ ts) s = (s ≡ t) ⊎ Among ts s

-- r is the smallest of the listed sets that holds all of s
pub record Smallest (sets : List Pairs) (s r : Pairs) : Type 0 where
  pub listed : Among sets r
  pub holds : s ⊆ r
  pub least : (t : Pairs) → Among sets t → s ⊆ t → r ⊆ t

-- each answer of the gates to operands of the listed sets is the smallest listed set that holds what the operands can make
pub record SmallestGates (sets : List Pairs) (G : Gates Pairs) : Type 0 where
  pub negate : (s : Pairs) → Among sets s → Smallest sets (made_by_one pairs.gates.negate s) (G.negate s)
  pub both : (s t : Pairs) → Among sets s → Among sets t → Smallest sets (made_by_two pairs.gates.both s t) (G.both s t)
  pub either : (s t : Pairs) → Among sets s → Among sets t → Smallest sets (made_by_two pairs.gates.either s t) (G.either s t)
  pub differ : (s t : Pairs) → Among sets s → Among sets t → Smallest sets (made_by_two pairs.gates.differ s t) (G.differ s t)

-- and so for sticking
pub record SmallestAnswers (sets : List Pairs) (K : Kind) : Type 0 where
  pub gates : SmallestGates sets K.values.gates
  pub stick : (v : Bool) (s : Pairs) → Among sets s → Smallest sets (made_by_one (pairs.stick v) s) (K.values.stick v s)

-- a implies b
abbrev pub implies : Bool → Bool → Bool
implies true b = b
implies false b = true

-- does t hold all of s?
abbrev pub holds_all : Pairs → Pairs → Bool
holds_all t s =
    (implies s.has00 t.has00 && implies s.has01 t.has01) && (implies s.has10 t.has10 && implies s.has11 t.has11)

-- the first listed set that holds all of s, or all four pairs if none does; a list has smaller sets before larger ones
abbrev pub first_holding : List Pairs → Pairs → Pairs
first_holding [] s = every_pair
first_holding (t ∷ ts) s = cond (holds_all t s) t (first_holding ts s)

-- gates whose answers are the first listed set that holds what the operands can make
abbrev pub closing_gates : List Pairs → Gates Pairs
closing_gates sets = record {
  known = λ b. only b b;
  negate = λ s. first_holding sets (made_by_one pairs.gates.negate s);
  both = λ s t. first_holding sets (made_by_two pairs.gates.both s t);
  either = λ s t. first_holding sets (made_by_two pairs.gates.either s t);
  differ = λ s t. first_holding sets (made_by_two pairs.gates.differ s t);
}

-- the kind whose answers are the first listed set that holds what the operands can make
abbrev pub closing : List Pairs → Pairs → Kind
closing sets unknown = record {
  values = record { gates = closing_gates sets; stick = λ v s. first_holding sets (made_by_one (pairs.stick v) s) };
  unknown = unknown;
}
