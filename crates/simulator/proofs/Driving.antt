-- Which inputs a cube drives.
use Rattle.std.proofs.Common.{◌≡◌, ℕ, zero, suc, ◌*◌, ◌/◌, ◌%◌, ◌^◌, ◌<◌, ◌≤◌, true, eqb, ltb, leb, ◌⊎◌, length, Some, None, Option, Decides, SomeIff, unwrap_or, sym, ap, ◌∙◌, inl, inr, pow-suc, arith, pow_mono}
use Rattle.std.proofs.lemmas.Nat.{pow_pos, div_below, le-div, leading_top}
use Rattle.std.proofs.lemmas.Nat.Bits.{bit_at_above}
use Rattle.std.proofs.lemmas.Bool.{cases_lt, lt-ltb, le-ltb, le-leb, lt-leb, leb-true}
use Rattle.circuit.specs.Model.{Circuit}
use Rattle.faults.specs.Cubes.{Cube}
use Rattle.simulator.specs.Detection.{bit}
use Rattle.simulator.specs.Simulation.{drives_beyond, DrivesBeyond}

-- what lies past the first k bits of a word
pub bits_past : (word k : ℕ) → ltb 0 (word / 2 ^ k) ≡ leb (2 ^ k) word
bits_past word k = go (cases_lt word (2 ^ k))
  where
    go : (word < 2 ^ k) ⊎ (2 ^ k ≤ word) → ltb 0 (word / 2 ^ k) ≡ leb (2 ^ k) word
    go (inl h) = le-ltb 0 (word / 2 ^ k) (omega (arith, div_below word (2 ^ k) 1 (pow_pos k) (omega arith))) ∙ sym (lt-leb (2 ^ k) word h)
    go (inr h) = lt-ltb 0 (word / 2 ^ k) (omega (arith, le-div 1 word (2 ^ k) (pow_pos k) (omega arith))) ∙ sym (le-leb (2 ^ k) word h)

-- a word shifted past its first k bits, and 0 where it has no more bits
pub past_bits : (word k : ℕ) (past : Option ℕ) → word < 2 ^ 64 → SomeIff past (k < 64) (word / 2 ^ k) → ltb 0 (unwrap_or past 0) ≡ leb (2 ^ k) word
past_bits word k None h beyond = sym (lt-leb (2 ^ k) word (omega (arith, pow_mono {i = 64} {j = k} (omega (arith, beyond)))))
past_bits word k (Some p) h (_, is) = ap (ltb 0) is ∙ bits_past word k

below_pow : (n : ℕ) → n < 2 ^ n
below_pow zero = omega arith
below_pow (suc n) = omega (arith, below_pow n, pow-suc 2 n)

-- a word that reaches past its first k bits has a 1 there
pub bit_past : (word k : ℕ) → 2 ^ k ≤ word → (i : ℕ) × (k ≤ i) × (bit word i ≡ true)
bit_past word k h =
    let (j, count, low, high) = leading_top word word (omega (arith, pow_pos k)) (below_pow word) in
    let two : word < 2 * 2 ^ j = omega (arith, pow-suc 2 j) in
    let one : word / 2 ^ j ≡ 1 = omega (arith, le-div 1 word (2 ^ j) (pow_pos j) (omega arith), div_below word (2 ^ j) 2 (pow_pos j) two) in
    (j, reaches j high (cases_lt j k), ap (λ (n : ℕ). eqb (n % 2) 1) one)
  where
    reaches : (j : ℕ) → word < 2 ^ suc j → (j < k) ⊎ (k ≤ j) → k ≤ j
    reaches j high (inl l) = absurd (omega (arith, pow_mono {i = suc j} {j = k} (omega arith)))
    reaches j high (inr l) = l

-- a word with a 1 past its first k bits reaches there
pub past_bit : (word k i : ℕ) → k ≤ i → bit word i ≡ true → 2 ^ k ≤ word
past_bit word k i h e = go (cases_lt word (2 ^ k))
  where
    go : (word < 2 ^ k) ⊎ (2 ^ k ≤ word) → 2 ^ k ≤ word
    go (inl l) = absurd (let clash = sym (ap (λ (n : ℕ). eqb n 1) (bit_at_above word k i l h)) ∙ e in cc)
    go (inr l) = l

-- the test on a cube's word tells whether it drives an input that the circuit lacks
pub beyond_decides : (c : Circuit) (q : Cube) → Decides (drives_beyond c q) (DrivesBeyond c q)
beyond_decides c q = (
  λ e. bit_past q.driven (length c.inputs) (leb-true (2 ^ length c.inputs) q.driven e),
  λ (i, h, e). le-leb (2 ^ length c.inputs) q.driven (past_bit q.driven (length c.inputs) i h e),
)
