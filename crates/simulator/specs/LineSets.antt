-- Sets of lines.
use Rattle.std.specs.Prelude.{◌≡◌, ℕ, ◌/◌, ◌%◌, ◌^◌, ◌<◌, ◌≤◌, Bool, true, false, Some, None, Option, ◌==◌, slice_index_or, bit_or, ◌⊎◌}
use Rattle.simulator.specs.declared.line_set.LineSet.{LineSet}

-- the line is one of the set
abbrev pub has : LineSet → ℕ → Bool
has s line = slice_index_or s.words (line / 64) 0 / 2 ^ (line % 64) % 2 == 1

-- no line is one of the set
abbrev pub IsEmpty : LineSet → Type 0
IsEmpty s = (line : ℕ) → has s line ≡ false

-- the place of the lowest 1 of a word, from that place on, if it has one there
abbrev pub LowestFrom : ℕ → ℕ → Option ℕ → Type 0
LowestFrom word from None = (i : ℕ) → from ≤ i → i < 64 → word / 2 ^ i % 2 ≡ 0
LowestFrom word from (Some place) = (place < 64) × (from ≤ place) × (word / 2 ^ place % 2 ≡ 1) × ((i : ℕ) → from ≤ i → i < place → word / 2 ^ i % 2 ≡ 0)

-- The first line of the set from that line on. If there is none, there is none below the end; but one that is given may lie beyond the end.
abbrev pub NextFrom : LineSet → ℕ → ℕ → Option ℕ → Type 0
NextFrom s line end None = (k : ℕ) → line ≤ k → k < end → has s k ≡ false
NextFrom s line end (Some n) = (line ≤ n) × (n < 512) × (has s n ≡ true) × ((k : ℕ) → line ≤ k → k < n → has s k ≡ false)

-- each line of the second set is one of the first
abbrev pub Includes : LineSet → LineSet → Type 0
Includes s t = (line : ℕ) → has t line ≡ true → has s line ≡ true

-- each line of the second set is one of the first, or that line
abbrev pub OnlyMore : LineSet → ℕ → LineSet → Type 0
OnlyMore s line more = (k : ℕ) → has more k ≡ true → (has s k ≡ true) ⊎ (k ≡ line)

-- each word of the third set has the bits of those of the first two
abbrev pub Joined : LineSet → LineSet → LineSet → Type 0
Joined s t joined = (index : ℕ) → index < 8 → slice_index_or joined.words index 0 ≡ bit_or (slice_index_or s.words index 0) (slice_index_or t.words index 0)
