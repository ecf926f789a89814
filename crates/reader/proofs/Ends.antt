-- Every lexeme of a text ends within it.
use Rattle.std.proofs.Common.{◌≡◌, ℕ, ◌+◌, ◌<◌, ◌≤◌, eqb, List, [], ◌∷◌, length, arith}
use Rattle.std.specs.List.{AllByRecursion as All}
use Rattle.std.proofs.ByRecursion.{All-weaker}
use Rattle.std.proofs.lemmas.Bool.{eqb-true, cond_both}
use Rattle.words.specs.declared.bytes.ByteClass.{ByteClass}
use Rattle.words.specs.declared.bytes.ByteClass.TheVariants as class_of
use Rattle.words.specs.Bytes.{class}
use Rattle.words.specs.Lexemes.{Lexeme, Word, prefixed, begun, lexemes, end_of}

abbrev pub EndsBy : ℕ → Lexeme → Type 0
EndsBy end t = end_of t ≤ end

-- a byte more of a word
prefixed_ends : (b n end : ℕ) (ts : List Lexeme) → n < end → All (EndsBy end) ts → All (EndsBy end) (prefixed b n ts)
prefixed_ends b n end [] lt all = (omega arith, tt)
prefixed_ends b n end (Word bytes m ∷ ts) lt all =
    cond_both (eqb m (n + 1)) (Word (b ∷ bytes) n ∷ ts) (Word (b ∷ []) n ∷ (Word bytes m ∷ ts)) (All (EndsBy end))
    (λ e. (let next : m ≡ n + 1 = eqb-true m (n + 1) e in omega (arith, all.0), all.1))
    (λ e. (omega arith, all))
prefixed_ends b n end (t ∷ ts) lt all = (omega arith, all)

begun_ends : (c : ByteClass) (b n end : ℕ) (ts : List Lexeme) → n < end → All (EndsBy end) ts → All (EndsBy end) (begun c b n ts)
begun_ends class_of.InWord b n end ts lt all = prefixed_ends b n end ts lt all
begun_ends class_of.Space b n end ts lt all = all
begun_ends c b n end ts lt all = (omega arith, all)

pub lexemes_end : (n : ℕ) (bs : List ℕ) → All (EndsBy (n + length bs)) (lexemes n bs)
lexemes_end n [] = (omega arith, tt)
lexemes_end n (b ∷ bs) =
    begun_ends (class b) b n (n + length (b ∷ bs)) (lexemes (n + 1) bs) (omega arith)
    (All-weaker (EndsBy (n + 1 + length bs)) (EndsBy (n + length (b ∷ bs))) (λ t h. omega arith) (lexemes (n + 1) bs) (lexemes_end (n + 1) bs))
