-- What operands make is among what they can make. Assumes nothing.
use Rattle.std.specs.Prelude.{◌≡◌, refl, Bool, true, false, ◌||◌, cond}
use Rattle.std.proofs.lemmas.Bool.{false≢true}
use Rattle.std.proofs.Math.Bool.{or-true}
use Rattle.values.specs.Pairs.{Pair, Pairs, pair, has, ◌∈◌, only, no_pair}
use Rattle.values.specs.Made.{◌∪◌, union_over, made_by_one, made_by_two}

pub has_union : (s t : Pairs) (g f : Bool) → has (s ∪ t) g f ≡ (has s g f || has t g f)
has_union s t false false = refl
has_union s t false true = refl
has_union s t true false = refl
has_union s t true true = refl

in_left : (s t : Pairs) (p : Pair) → p ∈ s → p ∈ s ∪ t
in_left s t p h = rw (has_union s t p.good p.faulty, h) refl

in_right : (s t : Pairs) (p : Pair) → p ∈ t → p ∈ s ∪ t
in_right s t p h = rw (has_union s t p.good p.faulty, h) (or-true (has s p.good p.faulty))

in_cond : (b : Bool) (s : Pairs) (p : Pair) → b ≡ true → p ∈ s → p ∈ cond b s no_pair
in_cond true s p e h = h
in_cond false s p e h = absurd (false≢true e)

union_has : (s : Pairs) (f : Pair → Pairs) (g b : Bool) (q : Pair) → has s g b ≡ true → q ∈ f (pair g b) → q ∈ union_over s f
union_has s f false false q h k = in_left _ _ q (in_left _ _ q (in_left _ _ q (in_cond s.has00 _ q h k)))
union_has s f false true q h k = in_left _ _ q (in_left _ _ q (in_right _ _ q (in_cond s.has01 _ q h k)))
union_has s f true false q h k = in_left _ _ q (in_right _ _ q (in_cond s.has10 _ q h k))
union_has s f true true q h k = in_right _ _ q (in_cond s.has11 _ q h k)

pub only_has : (g f : Bool) → pair g f ∈ only g f
only_has false false = refl
only_has false true = refl
only_has true false = refl
only_has true true = refl

pub made_one_has : (f : Pair → Pair) (s : Pairs) (p : Pair) → p ∈ s → f p ∈ made_by_one f s
made_one_has f s p h = union_has s (λ q. only (f q).good (f q).faulty) p.good p.faulty (f p) h (only_has (f p).good (f p).faulty)

pub made_two_has : (f : Pair → Pair → Pair) (s t : Pairs) (p q : Pair) → p ∈ s → q ∈ t → f p q ∈ made_by_two f s t
made_two_has f s t p q h k = union_has s (λ x. made_by_one (f x) t) p.good p.faulty (f p q) h (made_one_has (f p) t q k)
