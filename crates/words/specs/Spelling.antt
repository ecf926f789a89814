-- How words are spelled.
use Rattle.std.specs.Prelude.{ℕ, Bool, false, ◌&&◌, List, [], ◌∷◌, length, nat_le}
use Rattle.std.specs.List.{list_all}
use Rattle.words.specs.Bytes.{letter, in_word}

abbrev pub letter_first : List ℕ → Bool
letter_first [] = false
letter_first (b ∷ bs) = letter b

-- 1 to 8 letters and digits, a letter first
abbrev pub name_shape : List ℕ → Bool
name_shape bs = letter_first bs && (nat_le (length bs) 8 && list_all in_word bs)
