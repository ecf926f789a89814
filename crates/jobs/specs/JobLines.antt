-- What reading a job line answers. As in a circuit text, the words are judged one after the other, and the first bad one
-- ends the line, by the smallest number that fits.
use Rattle.std.specs.Prelude.{◌≡◌, ℕ, ◌+◌, cond, List, [], ◌∷◌, Some, None, codes, Option, Result, MatchResult}
use Rattle.std.specs.Str.{bytes_eq}
use Rattle.refusals.specs.declared.cause.Refusal.{Refusal}
use Rattle.refusals.specs.declared.cause.Refusal.TheVariants as refusal
use Rattle.refusals.specs.declared.layers.TextRefusal.TheVariants.{ForbiddenByte, MalformedWord}
use Rattle.refusals.specs.declared.layers.FormRefusal.TheVariants.{Misplaced, UnknownWord}
use Rattle.refusals.specs.declared.layers.CircuitRefusal.TheVariants.{UnknownName}
use Rattle.words.specs.Lexemes.{Lexeme, Opening, Closing, Word, LineEnd, TextEnd, Forbidden}
use Rattle.words.specs.Spelling.{name_shape}
use Rattle.words.specs.declared.no_such_name.NoSuchName.{NoSuchName}
use Rattle.circuit.specs.Model.{line_named}
use Rattle.jobs.specs.declared.job.Kind.{Kind}
use Rattle.jobs.specs.declared.job.Kind.TheVariants.{Five, Seven, Nine}
use Rattle.jobs.specs.declared.job.Job.{Job}
use Rattle.jobs.specs.declared.job.Job.TheVariants as job
use Rattle.jobs.specs.declared.job.Head.{Head}
use Rattle.jobs.specs.declared.job.Head.TheVariants as head
use Rattle.jobs.specs.Numbers.{number_shape, number_value}

-- what is due next in a job line
pub data Due : Type 0 where
  line_begin : Due
  job_head : Due
  kind_word : Due
  -- the name of the line that a fault is on, under the kind that was chosen
  fault_name : Kind → Due
  -- a number, and what is due after it, by its value
  number : (ℕ → Due) → Due
  -- the closing bracket, and the end of the line
  line_close : Job → Due
  line_end : Job → Due

-- Reading ends at the text's end, where no job line begins any more; with a job and the place where the next line
-- begins; or with a refusal.
pub data Outcome : Type 0 where
  NoMore : Outcome
  Asked : Job → ℕ → Outcome
  Refused : Refusal → Outcome

-- (A step of its own, and not that of a circuit text: what is due and what comes out differ.)
pub data Step : Type 0 where
  Go : Due → Step
  Stop : Outcome → Step

abbrev pub forbidden : ℕ → Step
forbidden n = Stop (Refused (refusal.Text (ForbiddenByte n)))

abbrev pub malformed : ℕ → Step
malformed n = Stop (Refused (refusal.Text (MalformedWord n)))

abbrev pub misplaced : ℕ → Step
misplaced n = Stop (Refused (refusal.Form (Misplaced n)))

abbrev pub unknown_word : ℕ → Step
unknown_word n = Stop (Refused (refusal.Form (UnknownWord n)))

abbrev pub unknown_name : ℕ → Step
unknown_name n = Stop (Refused (refusal.Circuit (UnknownName n)))

abbrev pub head_named : List ℕ → Option Head
head_named word =
    cond (bytes_eq word (codes "kind")) (Some head.Kind)
    (cond (bytes_eq word (codes "fault")) (Some head.Fault)
    (cond (bytes_eq word (codes "search")) (Some head.Search)
    (cond (bytes_eq word (codes "cover")) (Some head.Cover)
    (cond (bytes_eq word (codes "list")) (Some head.List) None))))

abbrev pub kind_named : List ℕ → Option Kind
kind_named word =
    cond (bytes_eq word (codes "five")) (Some Five)
    (cond (bytes_eq word (codes "seven")) (Some Seven)
    (cond (bytes_eq word (codes "nine")) (Some Nine) None))

-- the word is the name of the head that was made of it, or names none
abbrev pub NamesHead : List ℕ → Result Head NoSuchName → Type 0
NamesHead word r = MatchResult r (λ h. head_named word ≡ Some h) (λ _. head_named word ≡ None)

-- the word is the name of the kind that was made of it, or names none
abbrev pub NamesKind : List ℕ → Result Kind NoSuchName → Type 0
NamesKind word r = MatchResult r (λ k. kind_named word ≡ Some k) (λ _. kind_named word ≡ None)

-- a fault's numbers, pin and then level, after the line
abbrev pub fault_numbers : Kind → ℕ → Due
fault_numbers k line = number (λ pin. number (λ level. line_close (job.Fault k (record { line = line; pin = pin; level = level }))))

-- the number of the entry to look for a test for, and then the budget of tries
abbrev pub search_numbers : Kind → Due
search_numbers k = number (λ entry. number (λ budget. line_close (job.Search k entry budget)))

-- the number of the entry that covers
abbrev pub cover_number : Kind → Due
cover_number k = number (λ entry. line_close (job.Cover k entry))

-- What is due after a head, by the kind that was chosen; nothing where it may not come now. The kind comes first, and once.
abbrev pub turn : Option Kind → Head → Option Due
turn None head.Kind = Some kind_word
turn None h = None
turn (Some k) head.Kind = None
turn (Some k) head.Fault = Some (fault_name k)
turn (Some k) head.Search = Some (search_numbers k)
turn (Some k) head.Cover = Some (cover_number k)
turn (Some k) head.List = Some (line_close job.List)

abbrev pub in_turn : ℕ → Option Due → Step
in_turn n None = misplaced n
in_turn n (Some due) = Go due

abbrev pub head_found : Option Kind → ℕ → Option Head → Step
head_found chosen n None = unknown_word n
head_found chosen n (Some h) = in_turn n (turn chosen h)

abbrev pub kind_found : ℕ → Option Kind → Step
kind_found n None = unknown_word n
kind_found n (Some k) = Go (line_close (job.Kind k))

abbrev pub name_found : Kind → ℕ → Option ℕ → Step
name_found k n None = unknown_name n
name_found k n (Some line) = Go (fault_numbers k line)

-- The names of the circuit's lines, and the kind that was chosen, if one was, are given.
module _ (names : List (Option (List ℕ))) (chosen : Option Kind) where
  -- a word: where a number is due it must be one, elsewhere it must have the shape of a name
  abbrev pub word_step : Due → List ℕ → ℕ → Step
  word_step job_head word n = cond (name_shape word) (head_found chosen n (head_named word)) (malformed n)
  word_step kind_word word n = cond (name_shape word) (kind_found n (kind_named word)) (malformed n)
  word_step (fault_name k) word n = cond (name_shape word) (name_found k n (line_named names word)) (malformed n)
  word_step (number after) word n = cond (number_shape word) (Go (after (number_value word))) (malformed n)
  word_step due word n = cond (name_shape word) (misplaced n) (malformed n)

  abbrev pub opening_step : Due → ℕ → Step
  opening_step line_begin n = Go job_head
  opening_step due n = misplaced n

  abbrev pub closing_step : Due → ℕ → Step
  closing_step (line_close job) n = Go (line_end job)
  closing_step due n = misplaced n

  abbrev pub feed_step : Due → ℕ → Step
  feed_step (line_end job) n = Stop (Asked job (n + 1))
  feed_step due n = misplaced n

  abbrev pub end_step : Due → ℕ → Step
  end_step line_begin n = Stop NoMore
  end_step (line_end job) n = Stop (Asked job n)
  end_step due n = misplaced n

  abbrev pub step : Due → Lexeme → Step
  step due (Forbidden n) = forbidden n
  step due (Word word n) = word_step due word n
  step due (Opening n) = opening_step due n
  step due (Closing n) = closing_step due n
  step due (LineEnd n) = feed_step due n
  step due (TextEnd n) = end_step due n

  -- Every text has an end, which ends the reading, so the first line speaks of no text.
  abbrev pub run : Due → List Lexeme → Outcome
  run due [] = NoMore
  run due (t ∷ ts) = elim (step due t) [ Go next ↦ run next ts | Stop end ↦ end ]
