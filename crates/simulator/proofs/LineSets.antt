-- Sets of lines, by the bits of their words.
use Rattle.std.proofs.Common.{◌≡◌, ℕ, ◌+◌, ◌-◌, ◌*◌, ◌/◌, ◌%◌, ◌^◌, ◌<◌, ◌≤◌, Bool, true, false, eqb, Some, None, List, length, get_or, set, ◌⊎◌, sym, ap, ◌∙◌, inl, inr, arith}
use lib.Bits.{bit_or}
use Rattle.std.proofs.lemmas.Nat.Bits.{bit_at_or, bit_at_above, bit_at-zero, bit_at-lt}
use Rattle.std.proofs.lemmas.Bool.{cases_eq, cases_lt, eqb-true, eq-eqb}
use Rattle.std.proofs.Math.Nat.{div-div-eq-div-mul}
use Rattle.std.proofs.lemmas.Nat.{pow-add}
use Rattle.std.proofs.lemmas.List.{get_or-set_other}
use Rattle.std.proofs.lemmas.Grind.{get_or-set_at}
use Rattle.simulator.specs.declared.line_set.LineSet.{LineSet}
use Rattle.simulator.specs.LineSets.{has, LowestFrom, NextFrom}

-- the line's bit is 1
abbrev pub in_words : List ℕ → ℕ → Bool
in_words words line = eqb (get_or words (line / 64) 0 / 2 ^ (line % 64) % 2) 1

-- a word keeps its bits where it is joined to another, on the left and on the right
pub joined_left : (a b i : ℕ) → eqb (a / 2 ^ i % 2) 1 ≡ true → eqb (bit_or a b / 2 ^ i % 2) 1 ≡ true
joined_left a b i e = eq-eqb _ _ (bit_at_or a b i ∙ omega (arith, eqb-true _ _ e, bit_at-lt b i))

pub joined_right : (a b i : ℕ) → eqb (b / 2 ^ i % 2) 1 ≡ true → eqb (bit_or a b / 2 ^ i % 2) 1 ≡ true
joined_right a b i e = eq-eqb _ _ (bit_at_or a b i ∙ omega (arith, eqb-true _ _ e, bit_at-lt a i))

-- and where a word joined of two has a bit, one of the two has it
joined_either : (a b i : ℕ) → eqb (bit_or a b / 2 ^ i % 2) 1 ≡ true → (eqb (a / 2 ^ i % 2) 1 ≡ true) ⊎ (eqb (b / 2 ^ i % 2) 1 ≡ true)
joined_either a b i e = elim (cases_eq (a / 2 ^ i % 2) 1) [
  | inl one ↦ inl (eq-eqb _ _ one)
  | inr other ↦ inr (eq-eqb _ _ (omega (arith, bit_at_or a b i, eqb-true _ _ e, other, bit_at-lt a i, bit_at-lt b i)))
]

module _ (words : List ℕ) (place more : ℕ) (h : place < length words) where
  abbrev pub raised : List ℕ
  raised = set words place (bit_or (get_or words place 0) more)

  -- joined to one of the words, more bits take no line away
  pub raised_keeps : (line : ℕ) → in_words words line ≡ true → in_words raised line ≡ true
  raised_keeps line e = go (cases_eq (line / 64) place)
    where
      go : (line / 64 ≡ place) ⊎ (line / 64 ≡ place → ⊥) → in_words raised line ≡ true
      go (inl same) =
          ap (λ (w : ℕ). eqb (w / 2 ^ (line % 64) % 2) 1) (get_or-set_at words place (line / 64) (bit_or (get_or words place 0) more) 0 same h)
          ∙ joined_left (get_or words place 0) more (line % 64) (ap (λ (p : ℕ). eqb (get_or words p 0 / 2 ^ (line % 64) % 2) 1) (sym same) ∙ e)
      go (inr other) =
          ap (λ (w : ℕ). eqb (w / 2 ^ (line % 64) % 2) 1) (get_or-set_other words place (line / 64) (bit_or (get_or words place 0) more) 0 other) ∙ e

  -- and add the lines that they stand for
  pub raised_adds : (line : ℕ) → line / 64 ≡ place → eqb (more / 2 ^ (line % 64) % 2) 1 ≡ true → in_words raised line ≡ true
  raised_adds line same e =
      ap (λ (w : ℕ). eqb (w / 2 ^ (line % 64) % 2) 1) (get_or-set_at words place (line / 64) (bit_or (get_or words place 0) more) 0 same h)
      ∙ joined_right (get_or words place 0) more (line % 64) e

  -- and no other
  pub raised_only : (line : ℕ) → in_words raised line ≡ true → (in_words words line ≡ true) ⊎ ((line / 64 ≡ place) × (eqb (more / 2 ^ (line % 64) % 2) 1 ≡ true))
  raised_only line e = elim (cases_eq (line / 64) place) [
    | inl same ↦ elim (joined_either (get_or words place 0) more (line % 64)
        (ap (λ (w : ℕ). eqb (w / 2 ^ (line % 64) % 2) 1) (sym (get_or-set_at words place (line / 64) (bit_or (get_or words place 0) more) 0 same h)) ∙ e)) [
          | inl old ↦ inl (ap (λ (p : ℕ). eqb (get_or words p 0 / 2 ^ (line % 64) % 2) 1) same ∙ old)
          | inr new ↦ inr (same, new)
        ]
    | inr other ↦ inl
        (ap (λ (w : ℕ). eqb (w / 2 ^ (line % 64) % 2) 1) (sym (get_or-set_other words place (line / 64) (bit_or (get_or words place 0) more) 0 other)) ∙ e)
  ]

-- a bit past so many bits of a word
passed : (word skipped i : ℕ) → word / 2 ^ skipped / 2 ^ i % 2 ≡ word / 2 ^ (skipped + i) % 2
passed word skipped i = ap (λ (n : ℕ). n % 2) (div-div-eq-div-mul word (2 ^ skipped) (2 ^ i) ∙ ap (λ (n : ℕ). word / n) (sym (pow-add 2 skipped i)))

-- what stands past so many places, by what stands there in the word
pub rest_none : (word from : ℕ) → word / 2 ^ from ≡ 0 → LowestFrom word from None
rest_none word from e i above below =
    let at : from + (i - from) ≡ i = omega (arith, above) in
    ap (λ (n : ℕ). word / 2 ^ n % 2) (sym at) ∙ sym (passed word from (i - from)) ∙ ap (λ (n : ℕ). n / 2 ^ (i - from) % 2) e ∙ bit_at-zero (i - from)

pub rest_some : (word from place : ℕ) → word < 2 ^ 64
    → (place < 64) × (word / 2 ^ from / 2 ^ place % 2 ≡ 1) × ((i : ℕ) → i < place → word / 2 ^ from / 2 ^ i % 2 ≡ 0) → LowestFrom word from (Some (from + place))
rest_some word from place fits (small, one, zeros) = (
  elim (cases_lt (from + place) 64) [
    | inl h ↦ h
    | inr h ↦ absurd (let clash = sym (bit_at_above word 64 (from + place) fits h) ∙ sym (passed word from place) ∙ one in cc)
  ],
  omega arith,
  sym (passed word from place) ∙ one,
  λ i above below.
      let at : from + (i - from) ≡ i = omega (arith, above) in
      ap (λ (n : ℕ). word / 2 ^ n % 2) (sym at) ∙ sym (passed word from (i - from)) ∙ zeros (i - from) (omega (arith, above, below)),
)

-- a line whose bit is 0 is not in the set
absent : (s : LineSet) (index k : ℕ) → k / 64 ≡ index → get_or s.words index 0 / 2 ^ (k % 64) % 2 ≡ 0 → has s k ≡ false
absent s index k same e = ap (λ (p : ℕ). eqb (get_or s.words p 0 / 2 ^ (k % 64) % 2) 1) same ∙ ap (λ (n : ℕ). eqb n 1) e

-- and a line whose bit is 1 is
present : (s : LineSet) (index k : ℕ) → k / 64 ≡ index → get_or s.words index 0 / 2 ^ (k % 64) % 2 ≡ 1 → has s k ≡ true
present s index k same e = ap (λ (p : ℕ). eqb (get_or s.words p 0 / 2 ^ (k % 64) % 2) 1) same ∙ ap (λ (n : ℕ). eqb n 1) e

-- The lines from one on, word by word, of which none was in the set so far.
module _ (s : LineSet) (line index from : ℕ) (before : (k : ℕ) → line ≤ k → k < 64 * index + from → has s k ≡ false) where
  -- nor is one in this word
  pub none_there : LowestFrom (get_or s.words index 0) from None → (k : ℕ) → line ≤ k → k < 64 * (index + 1) → has s k ≡ false
  none_there zeros k at below = elim (cases_lt k (64 * index + from)) [
    | inl h ↦ before k at h
    | inr h ↦ absent s index k (omega (arith, h, below)) (zeros (k % 64) (omega (arith, h, below)) (omega arith))
  ]

  -- or the first is there
  pub first_there : (end place : ℕ) → index < 8 → line ≤ 64 * index + from → LowestFrom (get_or s.words index 0) from (Some place) → NextFrom s line end (Some (64 * index + place))
  first_there end place low at (small, above, one, zeros) = (
    omega (arith, at, above),
    omega (arith, low, small),
    present s index (64 * index + place) (omega (arith, small))
        (ap (λ (i : ℕ). get_or s.words index 0 / 2 ^ i % 2) (let same : (64 * index + place) % 64 ≡ place = omega (arith, small) in same) ∙ one),
    λ k after below. elim (cases_lt k (64 * index + from)) [
      | inl h ↦ before k after h
      | inr h ↦ absent s index k (omega (arith, h, below, small)) (zeros (k % 64) (omega (arith, h, below, small)) (omega (arith, h, below, small)))
    ],
  )
