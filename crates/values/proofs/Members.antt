-- What operands can make is what they make, and nothing else is.
use Rattle.std.proofs.Common.{◌≡◌, Bool, true, false, cond, ◌⊎◌, sym, subst, inl, inr, arith}
use Rattle.std.proofs.lemmas.Bool.{or_cases}
use Rattle.values.specs.Pairs.{Pair, Pairs, pair, has, ◌∈◌, only, no_pair}
use Rattle.values.specs.Made.{◌∪◌, union_over, made_by_one, made_by_two, MadeExactly}
use Rattle.values.specs.Laws.Members.{has_union, made_one_has, made_two_has}

from_union : (s t : Pairs) (p : Pair) → p ∈ s ∪ t → (p ∈ s) ⊎ (p ∈ t)
from_union s t p h = or_cases (has s p.good p.faulty) (has t p.good p.faulty) (rw (has_union s t p.good p.faulty) at h)

from_cond : (b : Bool) (s : Pairs) (p : Pair) → p ∈ cond b s no_pair → (b ≡ true) × (p ∈ s)
from_cond b s p h = grind arith

union_from : (s : Pairs) (f : Pair → Pairs) (q : Pair) → q ∈ union_over s f → (p : Pair) × (p ∈ s) × (q ∈ f p)
union_from s f q h = last (from_union _ _ q h)
  where
    Found : Type 0
    Found = (p : Pair) × (p ∈ s) × (q ∈ f p)

    at : Bool → Bool → Pairs
    at g b = cond (has s g b) (f (pair g b)) no_pair

    found : (g b : Bool) → q ∈ at g b → Found
    found g b k = let (e, m) = from_cond (has s g b) (f (pair g b)) q k in (pair g b, e, m)

    first : (q ∈ at false false) ⊎ (q ∈ at false true) → Found
    first (inl k) = found false false k
    first (inr k) = found false true k

    middle : (q ∈ at false false ∪ at false true) ⊎ (q ∈ at true false) → Found
    middle (inl k) = first (from_union (at false false) (at false true) q k)
    middle (inr k) = found true false k

    last : (q ∈ at false false ∪ at false true ∪ at true false) ⊎ (q ∈ at true true) → Found
    last (inl k) = middle (from_union (at false false ∪ at false true) (at true false) q k)
    last (inr k) = found true true k

-- the member of a set of one pair
pub only_is : (p : Pair) (g f : Bool) → p ∈ only g f → p ≡ pair g f
only_is p g f h = grind arith

made_one_from : (f : Pair → Pair) (s : Pairs) (r : Pair) → r ∈ made_by_one f s → (p : Pair) × (p ∈ s) × (r ≡ f p)
made_one_from f s r h =
    let (p, m, k) = union_from s (λ q. only (f q).good (f q).faulty) r h in
    (p, m, only_is r (f p).good (f p).faulty k)

made_two_from : (f : Pair → Pair → Pair) (s t : Pairs) (r : Pair) → r ∈ made_by_two f s t
    → (p : Pair) × (q : Pair) × (p ∈ s) × (q ∈ t) × (r ≡ f p q)
made_two_from f s t r h =
    let (p, m, k) = union_from s (λ x. made_by_one (f x) t) r h in
    let (q, n, e) = made_one_from (f p) t r k in
    (p, q, m, n, e)

pub made_exactly : MadeExactly
made_exactly = record {
  by_one = λ f s r. (made_one_from f s r, λ (p, m, e). subst (λ (x : Pair). x ∈ made_by_one f s) (sym e) (made_one_has f s p m));
  by_two = λ f s t r.
      (made_two_from f s t r, λ (p, q, m, n, e). subst (λ (x : Pair). x ∈ made_by_two f s t) (sym e) (made_two_has f s t p q m n));
}
