-- The lexemes of a text after a space, and of a run of letters and digits.
use Rattle.std.proofs.Common.{◌≡◌, ℕ, zero, suc, ◌+◌, ◌-◌, ◌<◌, ◌≤◌, false, List, [], ◌∷◌, length, get_or, take, drop, refl, ap, ◌∙◌, arith}
use Rattle.std.specs.List.{prefix_len}
use Rattle.std.proofs.lemmas.List.{drop_more, drop-drop, get_or-drop, length-drop, length-take-le}
use Rattle.std.proofs.lemmas.List.Sums.{prefix_len-drop_yes, prefix_len-le-length, prefix_len_stops}
use Rattle.words.specs.declared.bytes.ByteClass.{ByteClass}
use Rattle.words.specs.declared.bytes.ByteClass.TheVariants as class_of
use Rattle.words.specs.Bytes.{class, in_word, is_of}
use Rattle.words.specs.Lexemes.{Lexeme, Opening, Closing, Word, LineEnd, TextEnd, Forbidden, prefixed, begun, lexemes, lexemes_from}

-- one byte on, by its class
pub byte_step : (text : List ℕ) (n : ℕ) (c : ByteClass) → n < length text → class (get_or text n 0) ≡ c
    → lexemes_from text n ≡ begun c (get_or text n 0) n (lexemes_from text (n + 1))
byte_step text n c h e =
    ap (lexemes n) (drop_more text n 0 h) ∙ ap (λ (k : ByteClass). begun k (get_or text n 0) n (lexemes_from text (n + 1))) e

-- the place of the first lexeme
abbrev first_place : List Lexeme → ℕ → ℕ
first_place [] d = d
first_place (Opening n ∷ ts) d = n
first_place (Closing n ∷ ts) d = n
first_place (Word bytes n ∷ ts) d = n
first_place (LineEnd n ∷ ts) d = n
first_place (TextEnd n ∷ ts) d = n
first_place (Forbidden n ∷ ts) d = n

begun_late : (b n : ℕ) (c : ByteClass) (ts : List Lexeme) → n + 1 ≤ first_place ts (n + 1) → n ≤ first_place (begun c b n ts) n
begun_late b n c ts h = grind arith

-- no lexeme begins before the bytes do
first_late : (n : ℕ) (bs : List ℕ) → n ≤ first_place (lexemes n bs) n
first_late n [] = omega arith
first_late n (b ∷ bs) = begun_late b n (class b) (lexemes (n + 1) bs) (first_late (n + 1) bs)

-- a byte of a word before a byte of another class
begun_apart : (b d n : ℕ) (c : ByteClass) (ts : List Lexeme) → (c ≡ class_of.InWord → ⊥) → n + 1 + 1 ≤ first_place ts (n + 1 + 1)
    → prefixed b n (begun c d (n + 1) ts) ≡ Word (b ∷ []) n ∷ begun c d (n + 1) ts
begun_apart b d n c ts h l = grind arith

-- a byte of a word before the rest of the word
begun_joined : (b n : ℕ) (bytes : List ℕ) (ts : List Lexeme) → prefixed b n (Word bytes (n + 1) ∷ ts) ≡ Word (b ∷ bytes) n ∷ ts
begun_joined b n bytes ts = grind arith

-- a byte is of no class but its own
class_no : (b : ℕ) (c : ByteClass) → is_of c b ≡ false → class b ≡ c → ⊥
class_no b c h e = grind arith

run_over : (d : ℕ) (bs : List ℕ) → prefix_len in_word (d ∷ bs) ≡ 0 → in_word d ≡ false
run_over d bs h = grind arith

-- after the last byte of a run, the lexemes do not begin with a word right there
ended : (b n : ℕ) (bs : List ℕ) → prefix_len in_word bs ≡ 0 → prefixed b n (lexemes (n + 1) bs) ≡ Word (b ∷ []) n ∷ lexemes (n + 1) bs
ended b n [] h = refl
ended b n (d ∷ bs) h = begun_apart b d n (class d) (lexemes (n + 1 + 1) bs) (class_no d class_of.InWord (run_over d bs h)) (first_late (n + 1 + 1) bs)

abbrev WordFirst : ℕ → List ℕ → Type 0
WordFirst n bs = (k : ℕ) → prefix_len in_word bs ≡ suc k → lexemes n bs ≡ Word (take (suc k) bs) n ∷ lexemes (n + suc k) (drop (suc k) bs)

-- a run of letters and digits is one word
word_run : (n : ℕ) (bs : List ℕ) → WordFirst n bs
word_run n [] k h = absurd (omega arith)
word_run n (b ∷ bs) zero h = let alone = ended b n bs in grind arith
word_run n (b ∷ bs) (suc k) h =
    let rest = word_run (n + 1) bs k in
    let joined = begun_joined b n (take (suc k) bs) (lexemes (n + suc (suc k)) (drop (suc k) bs)) in
    grind arith

-- the word that begins at a place of a text, up to the place where its run ends
pub record RunOf (text : List ℕ) (n end : ℕ) : Type 0 where
  pub taken : lexemes_from text n ≡ Word (take (end - n) (drop n text)) n ∷ lexemes_from text (n + length (take (end - n) (drop n text)))
  pub after : end ≡ n + length (take (end - n) (drop n text))
  pub forward : n < end

pub word_at : (text : List ℕ) (n end : ℕ) → n < length text → end ≡ n + prefix_len in_word (drop n text) → class (get_or text n 0) ≡ class_of.InWord → RunOf text n end
word_at text n end h e c = go (prefix_len in_word (drop n text)) refl
  where
    some : prefix_len in_word (drop n text) ≡ 0 → ⊥
    some z = grind (arith, prefix_len-drop_yes in_word text n 0 h, class_no (get_or text n 0) class_of.InWord)

    go : (k : ℕ) → prefix_len in_word (drop n text) ≡ k → RunOf text n end
    go zero z = absurd (some z)
    go (suc k) z =
        let size : end - n ≡ suc k = omega arith in
        let fits = prefix_len-le-length in_word (drop n text) in
        let long = length-take-le (suc k) (drop n text) (omega arith) in
        let run = word_run n (drop n text) k z in
        let more = drop-drop (suc k) n text in
        record { taken = grind arith; after = grind arith; forward = omega arith }

-- past a run of spaces the lexemes are the same
skipped : (n k : ℕ) (bs : List ℕ) → prefix_len (is_of class_of.Space) bs ≡ k → lexemes n bs ≡ lexemes (n + k) (drop k bs)
skipped n zero bs h = grind arith
skipped n (suc k) [] h = absurd (omega arith)
skipped n (suc k) (b ∷ bs) h = let rest = skipped (n + 1) k bs in grind arith

module _ (text : List ℕ) (n end : ℕ) (e : end ≡ n + prefix_len (is_of class_of.Space) (drop n text)) where
  pub spaces_skipped : lexemes_from text n ≡ lexemes_from text end
  spaces_skipped =
      let same = skipped n (prefix_len (is_of class_of.Space) (drop n text)) (drop n text) refl in
      let more = drop-drop (prefix_len (is_of class_of.Space) (drop n text)) n text in
      grind arith

  pub no_space : end < length text → class (get_or text end 0) ≡ class_of.Space → ⊥
  no_space l s =
      let stop = prefix_len_stops (is_of class_of.Space) (drop n text) 0 in
      let read = get_or-drop n text (prefix_len (is_of class_of.Space) (drop n text)) 0 in
      let left = length-drop n text in
      let other = class_no (get_or text end 0) class_of.Space in
      grind arith
