-- The words of a text, from the left, each with its place.
use Rattle.std.specs.Prelude.{ℕ, ◌+◌, Bool, true, false, cond, List, [], ◌∷◌, length, drop, ◌==◌}
use Rattle.words.specs.declared.bytes.ByteClass.{ByteClass}
use Rattle.words.specs.declared.bytes.ByteClass.TheVariants as class_of
use Rattle.words.specs.declared.token.Token.{Token}
use Rattle.words.specs.declared.token.Token.TheVariants as token
use Rattle.words.specs.Bytes.{class}

-- A token without its reference into the text: a word has its bytes, and each has its place.
pub data Lexeme : Type 0 where
  Opening : ℕ → Lexeme
  Closing : ℕ → Lexeme
  Word : List ℕ → ℕ → Lexeme
  LineEnd : ℕ → Lexeme
  TextEnd : ℕ → Lexeme
  Forbidden : ℕ → Lexeme

abbrev pub lexeme : Token → Lexeme
lexeme (token.Opening n) = Opening n
lexeme (token.Closing n) = Closing n
lexeme (token.Word bytes n) = Word bytes.now n
lexeme (token.LineEnd n) = LineEnd n
lexeme (token.TextEnd n) = TextEnd n
lexeme (token.Forbidden n) = Forbidden n

-- The byte b of a word at place n, before the lexeme t: it begins t anew if t is a word at the next place, and is a
-- word of its own otherwise.
abbrev pub joined : ℕ → ℕ → Lexeme → List Lexeme → List Lexeme
joined b n (Word bytes m) ts = cond (m == n + 1) (Word (b ∷ bytes) n ∷ ts) (Word (b ∷ []) n ∷ (Word bytes m ∷ ts))
joined b n t ts = Word (b ∷ []) n ∷ (t ∷ ts)

abbrev pub prefixed : ℕ → ℕ → List Lexeme → List Lexeme
prefixed b n [] = Word (b ∷ []) n ∷ []
prefixed b n (t ∷ ts) = joined b n t ts

-- The lexemes from a byte on, given its class and the lexemes after it.
abbrev pub begun : ByteClass → ℕ → ℕ → List Lexeme → List Lexeme
begun class_of.InWord b n ts = prefixed b n ts
begun class_of.Opening b n ts = Opening n ∷ ts
begun class_of.Closing b n ts = Closing n ∷ ts
begun class_of.Space b n ts = ts
begun class_of.LineFeed b n ts = LineEnd n ∷ ts
begun class_of.Forbidden b n ts = Forbidden n ∷ ts

-- The lexemes of bytes that begin at place n of their text. The last is the text's end, and no other is.
abbrev pub lexemes : ℕ → List ℕ → List Lexeme
lexemes n [] = TextEnd n ∷ []
lexemes n (b ∷ bs) = begun (class b) b n (lexemes (n + 1) bs)

-- The lexemes of a text from a place on.
abbrev pub lexemes_from : List ℕ → ℕ → List Lexeme
lexemes_from text n = lexemes n (drop n text)

-- The place right after a lexeme; the text's end has nothing after it.
abbrev pub end_of : Lexeme → ℕ
end_of (Opening n) = n + 1
end_of (Closing n) = n + 1
end_of (Word bytes n) = n + length bytes
end_of (LineEnd n) = n + 1
end_of (TextEnd n) = n
end_of (Forbidden n) = n + 1

-- The lexemes of a text after one of them.
abbrev pub following : List ℕ → Lexeme → List Lexeme
following text (TextEnd n) = []
following text t = lexemes_from text (end_of t)

abbrev pub is_end : Lexeme → Bool
is_end (TextEnd n) = true
is_end t = false
