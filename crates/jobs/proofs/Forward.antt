-- A job line that is read takes at least one byte, and what is refused in it stands no further back than the line begins.
use Rattle.std.proofs.Common.{◌≡◌, ℕ, ◌+◌, ◌-◌, ◌<◌, ◌≤◌, min, eqb, List, [], ◌∷◌, length, drop, Some, None, Option, Result, refl, sym, subst, arith}
use Rattle.std.specs.List.{AllByRecursion as All}
use Rattle.std.proofs.ByRecursion.{All-weaker}
use Rattle.std.proofs.lemmas.Bool.{cond_both}
use Rattle.std.proofs.lemmas.List.{length-drop}
use Rattle.refusals.specs.declared.cause.Refusal.{Refusal}
use Rattle.words.specs.declared.bytes.ByteClass.{ByteClass}
use Rattle.words.specs.declared.bytes.ByteClass.TheVariants as class_of
use Rattle.words.specs.Bytes.{class}
use Rattle.words.specs.Lexemes.{Lexeme, Opening, Closing, Word, LineEnd, TextEnd, Forbidden, prefixed, begun, lexemes, lexemes_from}
use Rattle.words.specs.Spelling.{name_shape}
use Rattle.circuit.specs.Model.{line_named}
use Rattle.jobs.specs.declared.job.Kind.{Kind}
use Rattle.jobs.specs.declared.job.Head.{Head}
use Rattle.jobs.specs.declared.job.JobLine.{JobLine}
use Rattle.jobs.specs.JobLines.{Due, line_begin, job_head, kind_word, fault_name, number, line_close, line_end}
use Rattle.jobs.specs.JobLines.{Outcome, NoMore, Asked, Refused, Step, Go, Stop, malformed, head_named, kind_named, head_found, kind_found, name_found, in_turn, turn, step, word_step, run}
use Rattle.jobs.specs.Numbers.{number_shape}
use Rattle.jobs.specs.Reading.{job_answer, RefusedFrom, ReadForward}

-- the place of a lexeme
abbrev place_of : Lexeme → ℕ
place_of (Opening m) = m
place_of (Closing m) = m
place_of (Word bytes m) = m
place_of (LineEnd m) = m
place_of (TextEnd m) = m
place_of (Forbidden m) = m

-- the lexeme is at that place or further on
abbrev From : ℕ → Lexeme → Type 0
From n t = n ≤ place_of t

-- the same, and the text's end is further on
abbrev Before : ℕ → Lexeme → Type 0
Before n (TextEnd m) = n < m
Before n t = n ≤ place_of t

from_before : (n : ℕ) (t : Lexeme) → Before n t → From n t
from_before n (Opening m) h = h
from_before n (Closing m) h = h
from_before n (Word bytes m) h = h
from_before n (LineEnd m) h = h
from_before n (TextEnd m) h = omega arith
from_before n (Forbidden m) h = h

before_next : (n : ℕ) (t : Lexeme) → From (n + 1) t → Before n t
before_next n (Opening m) h = omega arith
before_next n (Closing m) h = omega arith
before_next n (Word bytes m) h = omega arith
before_next n (LineEnd m) h = omega arith
before_next n (TextEnd m) h = omega arith
before_next n (Forbidden m) h = omega arith

-- a byte more of a word
before_prefixed : (b n : ℕ) (ts : List Lexeme) → All (Before n) ts → All (Before n) (prefixed b n ts)
before_prefixed b n [] all = (omega arith, tt)
before_prefixed b n (Word bytes m ∷ ts) all =
    cond_both (eqb m (n + 1)) (Word (b ∷ bytes) n ∷ ts) (Word (b ∷ []) n ∷ (Word bytes m ∷ ts)) (All (Before n))
    (λ e. (omega arith, all.1))
    (λ e. (omega arith, all))
before_prefixed b n (t ∷ ts) all = (omega arith, all)

before_begun : (c : ByteClass) (b n : ℕ) (ts : List Lexeme) → All (Before n) ts → All (Before n) (begun c b n ts)
before_begun class_of.InWord b n ts all = before_prefixed b n ts all
before_begun class_of.Space b n ts all = all
before_begun c b n ts all = (omega arith, all)

-- no lexeme stands further back than the bytes begin
lexemes_on : (n : ℕ) (bs : List ℕ) → All (From n) (lexemes n bs)
lexemes_on n [] = (omega arith, tt)
lexemes_on n (b ∷ bs) =
    All-weaker (Before n) (From n) (from_before n) (lexemes n (b ∷ bs))
    (before_begun (class b) b n (lexemes (n + 1) bs) (All-weaker (From (n + 1)) (Before n) (before_next n) (lexemes (n + 1) bs) (lexemes_on (n + 1) bs)))

-- and where there are bytes, their end is further on
lexemes_before : (n b : ℕ) (bs : List ℕ) → All (Before n) (lexemes n (b ∷ bs))
lexemes_before n b bs =
    before_begun (class b) b n (lexemes (n + 1) bs) (All-weaker (From (n + 1)) (Before n) (before_next n) (lexemes (n + 1) bs) (lexemes_on (n + 1) bs))

-- what reading answers is further on
abbrev Ends : ℕ → Outcome → Type 0
Ends n NoMore = Unit {0}
Ends n (Asked job next) = n < next
Ends n (Refused e) = RefusedFrom n e

abbrev Leaves : ℕ → Step → Type 0
Leaves n (Go due) = Unit {0}
Leaves n (Stop o) = Ends n o

in_turn_leaves : (n m : ℕ) (due : Option Due) → n ≤ m → Leaves n (in_turn m due)
in_turn_leaves n m None h = h
in_turn_leaves n m (Some due) h = tt

head_leaves : (n m : ℕ) (chosen : Option Kind) (head : Option Head) → n ≤ m → Leaves n (head_found chosen m head)
head_leaves n m chosen None h = h
head_leaves n m chosen (Some head) h = in_turn_leaves n m (turn chosen head) h

kind_leaves : (n m : ℕ) (kind : Option Kind) → n ≤ m → Leaves n (kind_found m kind)
kind_leaves n m None h = h
kind_leaves n m (Some k) h = tt

name_leaves : (n m : ℕ) (k : Kind) (line : Option ℕ) → n ≤ m → Leaves n (name_found k m line)
name_leaves n m k None h = h
name_leaves n m k (Some line) h = tt

module _ (names : List (Option (List ℕ))) (chosen : Option Kind) where
  word_leaves : (n m : ℕ) (due : Due) (word : List ℕ) → n ≤ m → Leaves n (word_step names chosen due word m)
  word_leaves n m job_head word h =
      cond_both (name_shape word) (head_found chosen m (head_named word)) (malformed m) (Leaves n) (λ _. head_leaves n m chosen (head_named word) h) (λ _. h)
  word_leaves n m kind_word word h =
      cond_both (name_shape word) (kind_found m (kind_named word)) (malformed m) (Leaves n) (λ _. kind_leaves n m (kind_named word) h) (λ _. h)
  word_leaves n m (fault_name k) word h =
      cond_both (name_shape word) (name_found k m (line_named names word)) (malformed m) (Leaves n) (λ _. name_leaves n m k (line_named names word) h) (λ _. h)
  word_leaves n m (number after) word h = cond_both (number_shape word) _ (malformed m) (Leaves n) (λ _. tt) (λ _. h)
  word_leaves n m due word h = cond_both (name_shape word) _ (malformed m) (Leaves n) (λ _. h) (λ _. h)

  step_leaves : (n : ℕ) (due : Due) (t : Lexeme) → Before n t → Leaves n (step names chosen due t)
  step_leaves n due (Forbidden m) h = h
  step_leaves n due (Word word m) h = word_leaves n m due word h
  step_leaves n line_begin (Opening m) h = tt
  step_leaves n due (Opening m) h = h
  step_leaves n (line_close job) (Closing m) h = tt
  step_leaves n due (Closing m) h = h
  step_leaves n (line_end job) (LineEnd m) h = omega arith
  step_leaves n due (LineEnd m) h = h
  step_leaves n line_begin (TextEnd m) h = tt
  step_leaves n (line_end job) (TextEnd m) h = h
  step_leaves n due (TextEnd m) h = omega arith

  run_ends : (n : ℕ) (due : Due) (ts : List Lexeme) → All (Before n) ts → Ends n (run names chosen due ts)
  run_ends n due [] all = tt
  run_ends n due (t ∷ ts) all = go (step names chosen due t) (step_leaves n due t all.0) (λ (next : Due). run_ends n next ts all.1)
    where
      go : (s : Step) → Leaves n s → ((next : Due) → Ends n (run names chosen next ts)) → Ends n (elim s [ Go next ↦ run names chosen next ts | Stop end ↦ end ])
      go (Go next) h rest = rest next
      go (Stop end) h rest = h

module _ (names : List (Option (List ℕ))) (chosen : Option Kind) (text : List ℕ) (place : ℕ) where
  -- by what stands at the place, which is n
  from_bytes : (n : ℕ) (bs : List ℕ) → n ≡ min place (length text) → bs ≡ drop n text → ReadForward text place (job_answer (run names chosen line_begin (lexemes n bs)))
  from_bytes n [] at is = tt
  from_bytes n (b ∷ bs) at is = go (run names chosen line_begin (lexemes n (b ∷ bs))) (run_ends names chosen n line_begin (lexemes n (b ∷ bs)) (lexemes_before n b bs))
    where
      long : length (b ∷ bs) ≡ length text - n
      long = subst (λ (xs : List ℕ). length xs ≡ length text - n) (sym is) (length-drop n text)

      inside : place < length text
      inside = omega (arith, long, at)

      same : n ≡ place
      same = omega (arith, inside, at)

      go : (o : Outcome) → Ends n o → ReadForward text place (job_answer o)
      go NoMore h = tt
      go (Asked job next) h = omega (arith, same)
      go (Refused e) h = (inside, subst (λ (k : ℕ). RefusedFrom k e) same h)

  pub read_forward : (r : Result (Option JobLine) Refusal) → r ≡ job_answer (run names chosen line_begin (lexemes_from text (min place (length text)))) → ReadForward text place r
  read_forward r is = subst (ReadForward text place) (sym is) (from_bytes (min place (length text)) (drop (min place (length text)) text) refl refl)
