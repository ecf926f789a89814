-- Lexemes that are not what is due, and how they are refused.
use Rattle.std.specs.Prelude.{◌≡◌, ℕ, ◌+◌, ◌∷◌, Bool, true, false, cond, Some, None, Option, Result, MatchResult}
use Rattle.refusals.specs.declared.cause.Refusal.{Refusal}
use Rattle.refusals.specs.declared.cause.Refusal.TheVariants as refusal
use Rattle.refusals.specs.declared.layers.TextRefusal.TheVariants.{ForbiddenByte, MalformedWord}
use Rattle.refusals.specs.declared.layers.FormRefusal.TheVariants.{Misplaced}
use Rattle.words.specs.declared.expect.Mark.{Mark}
use Rattle.words.specs.declared.expect.Mark.TheVariants as mark
use Rattle.words.specs.declared.lexer.Lexer.{Lexer}
use Rattle.words.specs.Left.{left, onward}
use Rattle.words.specs.Lexemes.{Lexeme, Opening, Closing, Word, LineEnd, TextEnd, Forbidden, end_of}
use Rattle.words.specs.Spelling.{name_shape}

-- the refusal of a lexeme that cannot stand where it stands, if no more than that is wrong with its place
abbrev pub unexpected : Lexeme → Refusal
unexpected (Opening n) = refusal.Form (Misplaced n)
unexpected (Closing n) = refusal.Form (Misplaced n)
unexpected (Word word n) = cond (name_shape word) (refusal.Form (Misplaced n)) (refusal.Text (MalformedWord n))
unexpected (LineEnd n) = refusal.Form (Misplaced n)
unexpected (TextEnd n) = refusal.Form (Misplaced n)
unexpected (Forbidden n) = refusal.Text (ForbiddenByte n)

abbrev pub is_opening : Lexeme → Bool
is_opening (Opening n) = true
is_opening t = false

abbrev pub is_closing : Lexeme → Bool
is_closing (Closing n) = true
is_closing t = false

-- a word of the shape of a name
abbrev pub is_name_word : Lexeme → Bool
is_name_word (Word word n) = name_shape word
is_name_word t = false

abbrev pub is_feed : Lexeme → Bool
is_feed (LineEnd n) = true
is_feed t = false

-- the lexeme of a bracket or line end at a place
abbrev pub mark_at : Mark → ℕ → Lexeme
mark_at mark.Opening n = Opening n
mark_at mark.Closing n = Closing n
mark_at mark.LineEnd n = LineEnd n

abbrev pub is_mark : Mark → Lexeme → Bool
is_mark mark.Opening = is_opening
is_mark mark.Closing = is_closing
is_mark mark.LineEnd = is_feed

-- the lexeme is not the one that is due, and this is its refusal
abbrev pub Unmet : (Lexeme → Bool) → Lexeme → Refusal → Type 0
Unmet met t e = (met t ≡ false) × (e ≡ unexpected t)

-- A line ends with a line feed, behind which the next begins, or with the text.
abbrev pub after_line : Lexeme → Option ℕ
after_line (LineEnd n) = Some (n + 1)
after_line (TextEnd n) = Some n
after_line t = None

-- A lexer took one lexeme where a line must end: the place after the line, or the refusal of a lexeme that ends none.
pub record LineEnded (before : Lexer) (r : Result ℕ Refusal) (after : Lexer) : Type 0 where
  pub end : Lexeme
  pub taken : left before ≡ end ∷ onward end (left after)
  pub same : after.text ≡ before.text
  pub place : after.place ≡ end_of end
  pub answer : MatchResult r (λ n. after_line end ≡ Some n) (λ e. (after_line end ≡ None) × (e ≡ unexpected end))
