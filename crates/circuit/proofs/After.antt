-- Tests of each element against those before it, as tests by number.
use Rattle.std.proofs.Common.{◌≡◌, ℕ, ◌+◌, Bool, List, [], ◌∷◌, ◌++◌, map, length, get_or, take, refl, arith}
use Rattle.std.specs.List.{list_all, range_with_len, enumerate_from, zip}
use Rattle.std.proofs.lemmas.List.{append_assoc, length-append}
use Rattle.std.proofs.Math.Seq.{take-append_seam, get_or-append_seam}
use Rattle.circuit.specs.Lawful.{each_after}

-- a test of the number of elements before, over the elements with their numbers
module _ {X Y : Type 0} (fits : ℕ → Y → Bool) (f : X → Y) where
  counted_from : (n : ℕ) (before : List Y) (xs : List X)
      → list_all (λ p. fits p.0 (f p.1)) (zip (range_with_len (n + length before) (length xs)) xs) ≡ each_after (λ (ys : List Y). fits (n + length ys)) before (map f xs)
  counted_from n before [] = refl
  counted_from n before (x ∷ xs) =
      let rest = counted_from n (before ++ (f x ∷ [])) xs in
      grind (arith, length-append before (f x ∷ []))

  pub after_counted : (n m : ℕ) (xs : List X) → m ≡ n
      → list_all (λ p. fits p.0 (f p.1)) (zip (range_with_len m (length xs)) xs) ≡ each_after (λ (ys : List Y). fits (n + length ys)) [] (map f xs)
  after_counted n m xs e = let all = counted_from n [] xs in grind arith

module _ {X : Type 0} (right : List X → X → Bool) where
  -- over the elements with their numbers
  pub after_paired : (before rest : List X) → list_all (λ p. right (take p.0 (before ++ rest)) p.1) (enumerate_from (length before) rest) ≡ each_after right before rest
  after_paired before [] = refl
  after_paired before (x ∷ rest) =
      let more = after_paired (before ++ (x ∷ [])) rest in
      grind (arith, take-append_seam before (x ∷ rest), append_assoc before (x ∷ []) rest, length-append before (x ∷ []))

  -- over the numbers of the elements
  pub after_numbered : (before rest : List X) (d : X)
      → list_all (λ i. right (take i (before ++ rest)) (get_or (before ++ rest) i d)) (range_with_len (length before) (length rest)) ≡ each_after right before rest
  after_numbered before [] d = refl
  after_numbered before (x ∷ rest) d =
      let more = after_numbered (before ++ (x ∷ [])) rest d in
      grind (arith, take-append_seam before (x ∷ rest), get_or-append_seam before x rest d, append_assoc before (x ∷ []) rest, length-append before (x ∷ []))
