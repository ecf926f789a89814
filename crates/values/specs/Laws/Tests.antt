-- Tests of sets of pairs that antt computes, and what it says of a set to pass one. Assumes nothing.
use Rattle.std.specs.Prelude.{◌≡◌, refl, Bool, true, false, ◌&&◌, ◌||◌, List, [], ◌∷◌, ◌⊎◌}
use Rattle.std.proofs.Math.Bool.{beq}
use Rattle.std.proofs.Common.{sym, subst, inl, inr}
use Rattle.std.specs.List.{list_all, list_any}
use Rattle.std.specs.Cmp.{booleans_Decides}
use Rattle.std.proofs.lemmas.Bool.{false≢true, and_from, and_parts, or_cases}
use Rattle.values.specs.Pairs.{Pair, Pairs, pair, has, ◌∈◌, ◌⊆◌, only, Single}
use Rattle.values.specs.Made.{Among, implies, holds_all}

-- tests

abbrev pub same_set : Pairs → Pairs → Bool
same_set s t = (beq s.has00 t.has00 && beq s.has01 t.has01) && (beq s.has10 t.has10 && beq s.has11 t.has11)

-- s is one of the listed sets
abbrev pub among : List Pairs → Pairs → Bool
among sets s = list_any (same_set s) sets

-- s has one member
abbrev pub single : Pairs → Bool
single s = same_set s (only false false) || same_set s (only false true) || same_set s (only true false) || same_set s (only true true)

-- what tests say

pub implied : (a b : Bool) → implies a b ≡ true → a ≡ true → b ≡ true
implied true b h e = h
implied false b h e = absurd (false≢true e)

pub implies_holds : (a b : Bool) → (a ≡ true → b ≡ true) → implies a b ≡ true
implies_holds true b h = h refl
implies_holds false b h = refl

abbrev set : Bool → Bool → Bool → Bool → Pairs
set a b c d = record { has00 = a; has01 = b; has10 = c; has11 = d }

pub same_set_is : (s t : Pairs) → same_set s t ≡ true → s ≡ t
same_set_is s t h =
    let (front, back) = and_parts (beq s.has00 t.has00 && beq s.has01 t.has01) _ h in
    let (same00, same01) = and_parts (beq s.has00 t.has00) _ front in
    let (same10, same11) = and_parts (beq s.has10 t.has10) _ back in
    let at00 = (booleans_Decides s.has00 t.has00).0 same00 in
    let at01 = (booleans_Decides s.has01 t.has01).0 same01 in
    let at10 = (booleans_Decides s.has10 t.has10).0 same10 in
    let at11 = (booleans_Decides s.has11 t.has11).0 same11 in
    let e : set s.has00 s.has01 s.has10 s.has11 ≡ set t.has00 t.has01 t.has10 t.has11 = cc in
    e

pub among_is : (sets : List Pairs) (s : Pairs) → among sets s ≡ true → Among sets s
among_is [] s h = absurd (false≢true h)
among_is (t ∷ ts) s h = go (or_cases (same_set s t) (among ts s) h) (among_is ts s)
  where
    go : (same_set s t ≡ true) ⊎ (among ts s ≡ true) → (among ts s ≡ true → Among ts s) → Among (t ∷ ts) s
    go (inl e) deeper = inl (same_set_is s t e)
    go (inr e) deeper = inr (deeper e)

pub single_is : (s : Pairs) → single s ≡ true → Single s
single_is s h = go (or_cases (same_set s (only false false) || same_set s (only false true) || same_set s (only true false)) (same_set s (only true true)) h)
  where
    go2 : (same_set s (only false false) ≡ true) ⊎ (same_set s (only false true) ≡ true) → Single s
    go2 (inl e) = (pair false false, same_set_is s (only false false) e)
    go2 (inr e) = (pair false true, same_set_is s (only false true) e)

    go1 : ((same_set s (only false false) || same_set s (only false true)) ≡ true) ⊎ (same_set s (only true false) ≡ true) → Single s
    go1 (inl e) = go2 (or_cases (same_set s (only false false)) (same_set s (only false true)) e)
    go1 (inr e) = (pair true false, same_set_is s (only true false) e)

    go : ((same_set s (only false false) || same_set s (only false true) || same_set s (only true false)) ≡ true) ⊎ (same_set s (only true true) ≡ true) → Single s
    go (inl e) = go1 (or_cases (same_set s (only false false) || same_set s (only false true)) (same_set s (only true false)) e)
    go (inr e) = (pair true true, same_set_is s (only true true) e)

only_single : (g f : Bool) → single (only g f) ≡ true
only_single false false = refl
only_single false true = refl
only_single true false = refl
only_single true true = refl

pub single_test : (s : Pairs) → Single s → single s ≡ true
single_test s (p, e) = subst (λ (x : Pairs). single x ≡ true) (sym e) (only_single p.good p.faulty)

-- the test p passes at each listed set, so it passes at a set that is one of them
pub every_at : (p : Pairs → Bool) (sets : List Pairs) → list_all p sets ≡ true → (s : Pairs) → Among sets s → p s ≡ true
every_at p [] h s m = absurd m
every_at p (t ∷ ts) h s (inl e) = subst (λ (x : Pairs). p x ≡ true) (sym e) (and_parts (p t) (list_all p ts) h).0
every_at p (t ∷ ts) h s (inr m) = every_at p ts (and_parts (p t) (list_all p ts) h).1 s m

-- a set that holds all of another has each of its members
pub holds_member : (t s : Pairs) → holds_all t s ≡ true → s ⊆ t
holds_member t s h p = at p.good p.faulty
  where
    parts : ((implies s.has00 t.has00 && implies s.has01 t.has01) ≡ true) × ((implies s.has10 t.has10 && implies s.has11 t.has11) ≡ true)
    parts = and_parts (implies s.has00 t.has00 && implies s.has01 t.has01) (implies s.has10 t.has10 && implies s.has11 t.has11) h

    at : (g f : Bool) → has s g f ≡ true → has t g f ≡ true
    at false false = implied s.has00 t.has00 (and_parts _ (implies s.has01 t.has01) parts.0).0
    at false true = implied s.has01 t.has01 (and_parts (implies s.has00 t.has00) _ parts.0).1
    at true false = implied s.has10 t.has10 (and_parts _ (implies s.has11 t.has11) parts.1).0
    at true true = implied s.has11 t.has11 (and_parts (implies s.has10 t.has10) _ parts.1).1

pub holds_test : (t s : Pairs) → s ⊆ t → holds_all t s ≡ true
holds_test t s h =
    and_from _ _
    (and_from _ _ (implies_holds s.has00 t.has00 (h (pair false false))) (implies_holds s.has01 t.has01 (h (pair false true))))
    (and_from _ _ (implies_holds s.has10 t.has10 (h (pair true false))) (implies_holds s.has11 t.has11 (h (pair true true))))

-- sets with a member

abbrev pub inhabited : Pairs → Bool
inhabited s = (s.has00 || s.has01) || (s.has10 || s.has11)

pub inhabited_is : (s : Pairs) → inhabited s ≡ true → (p : Pair) × (p ∈ s)
inhabited_is s h = go (or_cases (s.has00 || s.has01) (s.has10 || s.has11) h)
  where
    front : (s.has00 ≡ true) ⊎ (s.has01 ≡ true) → (p : Pair) × (p ∈ s)
    front (inl e) = (pair false false, e)
    front (inr e) = (pair false true, e)

    back : (s.has10 ≡ true) ⊎ (s.has11 ≡ true) → (p : Pair) × (p ∈ s)
    back (inl e) = (pair true false, e)
    back (inr e) = (pair true true, e)

    go : ((s.has00 || s.has01) ≡ true) ⊎ ((s.has10 || s.has11) ≡ true) → (p : Pair) × (p ∈ s)
    go (inl e) = front (or_cases s.has00 s.has01 e)
    go (inr e) = back (or_cases s.has10 s.has11 e)
