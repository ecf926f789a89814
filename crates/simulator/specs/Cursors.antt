-- A set of lines gone through word by word.
use Rattle.std.specs.Prelude.{◌≡◌, ℕ, ◌/◌, ◌%◌, Some, None, Option, slice_index_or}
use Rattle.simulator.specs.declared.line_set.LineSet.{LineSet}
use Rattle.simulator.specs.declared.cursor.Cursor.{Cursor}

-- the cursor has the word of the set that has the line
abbrev pub Copies : Cursor → LineSet → ℕ → Type 0
Copies c s line = c.word ≡ slice_index_or s.words (line / 64) 0

-- or the line is the first of a word
abbrev pub Follows : Cursor → LineSet → ℕ → Type 0
Follows c s line = (line % 64 ≡ 0 → ⊥) → Copies c s line

-- the cursor has the word of the line, if there is one
abbrev pub CopiesNext : Cursor → LineSet → Option ℕ → Type 0
CopiesNext c s None = Unit
CopiesNext c s (Some line) = Copies c s line
