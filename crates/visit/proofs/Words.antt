-- Words cut to their lowest bits.
use Rattle.std.proofs.Common.{◌≡◌, ℕ, ◌/◌, ◌%◌, ◌^◌, ◌<◌, ◌≤◌, true, eqb, ◌⊎◌, sym, ap, ◌∙◌, inl, inr, div-add-mod'}
use Rattle.std.proofs.lemmas.Nat.Bits.{bit_at_cat_low, bit_at_above}
use Rattle.std.proofs.lemmas.Bool.{cases_lt}
use Rattle.simulator.specs.Detection.{bit}

pub cut_bit : (n k i : ℕ) → i < k → n % 2 ^ k / 2 ^ i % 2 ≡ n / 2 ^ i % 2
cut_bit n k i h = sym (bit_at_cat_low (n / 2 ^ k) k (n % 2 ^ k) i h) ∙ ap (λ (x : ℕ). x / 2 ^ i % 2) (div-add-mod' n (2 ^ k))

pub bit_cut : (n k i : ℕ) → i < k → bit (n % 2 ^ k) i ≡ bit n i
bit_cut n k i h = ap (λ (x : ℕ). eqb x 1) (cut_bit n k i h)

-- a bit of a word of k bits that is set lies below k
pub set_below : (n k i : ℕ) → n < 2 ^ k → bit n i ≡ true → i < k
set_below n k i small h = go (cases_lt i k)
  where
    go : (i < k) ⊎ (k ≤ i) → i < k
    go (inl l) = l
    go (inr l) = absurd (let clash = ap (λ (x : ℕ). eqb x 1) (sym (bit_at_above n k i small l)) ∙ h in cc)
