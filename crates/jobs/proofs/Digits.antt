-- A number that is written as it must be is text, and parsing it gives its value.
use Rattle.std.proofs.Common.{◌≡◌, ℕ, ◌+◌, ◌-◌, ◌*◌, ◌<◌, ◌≤◌, true, List, [], ◌∷◌, length, fold, Ok, Result, true≢false, sym, arith, rules}
use Rattle.std.specs.List.{list_all}
use Rattle.std.specs.Str.{IsUtf8, IsAscii}
use Rattle.std.specs.Str.Parse.{ParsesUnsigned}
use Rattle.std.proofs.lemmas.List.Elements.{All-weaker}
use Rattle.std.proofs.lemmas.List.Sums.{AllPass-from_list_all}
use Rattle.std.proofs.lemmas.Str.{IsUtf8-from_ascii}
use Rattle.std.proofs.lemmas.Str.Ascii.{IsAscii-from_all}
use Rattle.std.proofs.lemmas.Str.Parse.{IsNumeralModel, numerals_by_fold, parse_gives, digits_value_short}
use Rattle.words.specs.Bytes.{digit}
use Rattle.jobs.specs.Numbers.{number_shape, number_value}

abbrev AllDigits : List ℕ → Type 0
AllDigits ds = list_all digit ds ≡ true

abbrev value_after : ℕ → List ℕ → ℕ
value_after n ds = fold (λ (value byte : ℕ). value * 10 + (byte - 48)) n ds

-- the number of digits by the fold of the definition
own : IsNumeralModel AllDigits number_value
own = numerals_by_fold AllDigits (search rules) value_after (search rules)

-- what the shape of a number says of its word
pub record IsShaped (word : List ℕ) : Type 0 where
  pub digits : AllDigits word
  pub some : 0 < length word
  pub few : length word ≤ 7

shaped : (word : List ℕ) → number_shape word ≡ true → IsShaped word
shaped [] h = absurd (true≢false (sym h))
shaped (b ∷ bs) h = record { digits = grind arith; some = omega arith; few = grind arith }

-- digits are ASCII
ascii : (word : List ℕ) → AllDigits word → IsAscii word
ascii word h = IsAscii-from_all word (All-weaker (λ (b : ℕ). digit b ≡ true) (λ (b : ℕ). b < 128) (λ b d. grind arith) word (AllPass-from_list_all digit word h))

pub number_is_text : (word : List ℕ) → number_shape word ≡ true → IsUtf8 word
number_is_text word h = IsUtf8-from_ascii word (ascii word (shaped word h).digits)

pub number_parsed : {E : Type 0} (word : List ℕ) (r : Result ℕ E) → number_shape word ≡ true → ParsesUnsigned 64 10 word r → r ≡ Ok (number_value word)
number_parsed word r h p =
    let is = shaped word h in
    parse_gives own 64 word r p is.digits is.some (omega (arith, digits_value_short own word 7 is.digits is.few))
