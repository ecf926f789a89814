-- The bytes of a name are text.
use Rattle.std.proofs.Common.{◌≡◌, ℕ, ◌<◌, true, ◌&&◌, leb, List, length, IsUtf8, arith}
use Rattle.std.proofs.lemmas.Bool.{and_parts}
use Rattle.std.proofs.lemmas.List.Elements.{All-weaker}
use Rattle.std.proofs.lemmas.List.Sums.{AllPass-from_list_all}
use Rattle.std.proofs.lemmas.Str.{IsUtf8-from_ascii}
use Rattle.std.proofs.lemmas.Str.Ascii.{IsAscii-from_all}
use Rattle.words.specs.Bytes.{in_word}
use Rattle.std.specs.List.{list_all}
use Rattle.words.specs.Spelling.{letter_first, name_shape}

pub name_is_text : (bs : List ℕ) → name_shape bs ≡ true → IsUtf8 bs
name_is_text bs h =
    let letters = (and_parts (leb (length bs) 8) (list_all in_word bs) (and_parts (letter_first bs) (leb (length bs) 8 && list_all in_word bs) h).1).1 in
    IsUtf8-from_ascii bs
    (IsAscii-from_all bs (All-weaker (λ (b : ℕ). in_word b ≡ true) (λ (b : ℕ). b < 128) (λ b d. grind arith) bs (AllPass-from_list_all in_word bs letters)))
