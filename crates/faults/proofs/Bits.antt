-- The levels that lie within the driven inputs, bit by bit.
use Rattle.std.proofs.Common.{◌≡◌, ℕ, ◌/◌, ◌%◌, ◌^◌, min, max, ◌⊎◌, sym, ap, ◌∙◌, inl, inr, arith}
use native.Mathlib.Nat.{zero-div, min-zero}
use lib.Bits.{bit_and, bit_or}
use Rattle.std.proofs.lemmas.Nat.Bits.{bit_at_and, bit_at_or, bit_at-lt, same_from_bits}
use Rattle.std.proofs.lemmas.Bool.{cases_eq}
use Rattle.faults.specs.Cubes.{Within}

-- what the masked words say of each bit
pub within_bits : (driven level : ℕ) → bit_and level driven ≡ level → Within driven level
within_bits driven level e i d =
    ap (λ (n : ℕ). n / 2 ^ i % 2) (sym e) ∙ bit_at_and level driven i ∙ ap (min (level / 2 ^ i % 2)) d ∙ min-zero (level / 2 ^ i % 2)

-- what each bit says of the masked words
pub within_and : (driven level : ℕ) → Within driven level → bit_and level driven ≡ level
within_and driven level w = same_from_bits _ _ (λ i. bit_at_and level driven i ∙ at i (cases_eq (driven / 2 ^ i % 2) 0))
  where
    at : (i : ℕ) → (driven / 2 ^ i % 2 ≡ 0) ⊎ (driven / 2 ^ i % 2 ≡ 0 → ⊥) → min (level / 2 ^ i % 2) (driven / 2 ^ i % 2) ≡ level / 2 ^ i % 2
    at i (inl e) = omega (arith, w i e)
    at i (inr d) = omega (arith, bit_at-lt level i, bit_at-lt driven i)

-- levels that lie within the driven inputs still do where both words are joined with such words
pub within_or : (driven level place raised : ℕ) → Within driven level → Within place raised → Within (bit_or driven place) (bit_or level raised)
within_or driven level place raised w u i d =
    let both : max (driven / 2 ^ i % 2) (place / 2 ^ i % 2) ≡ 0 = sym (bit_at_or driven place i) ∙ d in
    let first : level / 2 ^ i % 2 ≡ 0 = w i (omega arith) in
    let second : raised / 2 ^ i % 2 ≡ 0 = u i (omega arith) in
    bit_at_or level raised i ∙ omega arith

-- one place, raised or not
pub within_place : (place raised : ℕ) → (raised ≡ place) ⊎ (raised ≡ 0) → Within place raised
within_place place raised (inl e) i d = ap (λ (n : ℕ). n / 2 ^ i % 2) e ∙ d
within_place place raised (inr e) i d = ap (λ (n : ℕ). n / 2 ^ i % 2) e ∙ ap (λ (n : ℕ). n % 2) (zero-div (2 ^ i))
