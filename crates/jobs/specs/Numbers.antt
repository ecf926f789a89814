-- Numbers in job lines.
use Rattle.std.specs.Prelude.{◌≡◌, ℕ, ◌+◌, ◌-◌, ◌*◌, Bool, true, false, not, ◌&&◌, List, [], ◌∷◌, length, fold, ◌==◌, nat_le}
use Rattle.refusals.specs.declared.cause.Refusal.{Refusal}
use Rattle.refusals.specs.declared.cause.Refusal.TheVariants as refusal
use Rattle.refusals.specs.declared.layers.TextRefusal.TheVariants.{MalformedWord}
use Rattle.words.specs.Bytes.{digit}
use Rattle.words.specs.Expected.{unexpected}
use Rattle.words.specs.Lexemes.{Lexeme, Word}
use Rattle.std.specs.List.{list_all}

-- there is a digit, and no zero stands in front of another
abbrev pub no_needless_zero : List ℕ → Bool
no_needless_zero [] = false
no_needless_zero (b ∷ []) = true
no_needless_zero (b ∷ (c ∷ cs)) = not (b == 48)

abbrev pub number_shape : List ℕ → Bool
number_shape word = no_needless_zero word && (nat_le (length word) 7 && list_all digit word)

-- the number that the digits stand for
abbrev pub number_value : List ℕ → ℕ
number_value word = fold (λ (value byte : ℕ). value * 10 + (byte - 48)) 0 word

abbrev pub is_number : Lexeme → Bool
is_number (Word word n) = number_shape word
is_number t = false

-- the refusal of a lexeme where a number is due
abbrev pub not_number : Lexeme → Refusal
not_number (Word word n) = refusal.Text (MalformedWord n)
not_number t = unexpected t

-- the lexeme is a number of that value
abbrev pub NumberWord : Lexeme → ℕ → Type 0
NumberWord (Word word n) value = (number_shape word ≡ true) × (value ≡ number_value word)
NumberWord t value = ⊥
