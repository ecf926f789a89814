-- Words at whatever places, and how reading goes on over them.
use Rattle.std.proofs.Common.{◌≡◌, ℕ, true, List, [], ◌∷◌, ◌++◌, map, refl, ap, ◌∙◌, arith}
use Rattle.std.proofs.lemmas.Bool.{cond-true}
use Rattle.words.specs.Lexemes.{Lexeme, Opening, Closing, Word, LineEnd, TextEnd, Forbidden}
use Rattle.words.specs.Spelling.{name_shape}
use Rattle.circuit.specs.Model.{Circuit}
use Rattle.refusals.specs.declared.cause.Refusal.{Refusal}
use Rattle.reader.specs.Reading.{Due, Outcome, Granted, Refused, Step, Go, Stop, step, run, word_step, resumed}
use Rattle.reader.specs.Describes.{Written, opening, closing, word, line_feed, other, unplaced}

-- the lexemes are the written words, at whatever places, and then the rest
pub data Placed (rest : List Lexeme) : List Written → List Lexeme → Type 0 where
  placed_none : Placed rest [] rest
  placed_opening : {ms : List Written} {ts : List Lexeme} (n : ℕ) → Placed rest ms ts → Placed rest (opening ∷ ms) (Opening n ∷ ts)
  placed_closing : {ms : List Written} {ts : List Lexeme} (n : ℕ) → Placed rest ms ts → Placed rest (closing ∷ ms) (Closing n ∷ ts)
  placed_word : {ms : List Written} {ts : List Lexeme} (w : List ℕ) (n : ℕ) → Placed rest ms ts → Placed rest (word w ∷ ms) (Word w n ∷ ts)
  placed_feed : {ms : List Written} {ts : List Lexeme} (n : ℕ) → Placed rest ms ts → Placed rest (line_feed ∷ ms) (LineEnd n ∷ ts)
  placed_other : {ms : List Written} {ts : List Lexeme} (t : Lexeme) → unplaced t ≡ other → Placed rest ms ts → Placed rest (other ∷ ms) (t ∷ ts)

pub placed_from : (front rest : List Lexeme) → Placed rest (map unplaced front) (front ++ rest)
placed_from [] rest = placed_none
placed_from (Opening n ∷ ts) rest = placed_opening n (placed_from ts rest)
placed_from (Closing n ∷ ts) rest = placed_closing n (placed_from ts rest)
placed_from (Word w n ∷ ts) rest = placed_word w n (placed_from ts rest)
placed_from (LineEnd n ∷ ts) rest = placed_feed n (placed_from ts rest)
placed_from (TextEnd n ∷ ts) rest = placed_other (TextEnd n) refl (placed_from ts rest)
placed_from (Forbidden n ∷ ts) rest = placed_other (Forbidden n) refl (placed_from ts rest)

pub none_left : {rest ts : List Lexeme} → Placed rest [] ts → ts ≡ rest
none_left placed_none = refl

-- lexemes that are the written words, before the rest
pub record Fronted (rest : List Lexeme) (ms : List Written) (ts : List Lexeme) : Type 0 where
  pub front : List Lexeme
  pub whole : ts ≡ front ++ rest
  pub words : map unplaced front ≡ ms

one_more : {rest : List Lexeme} {ms : List Written} {ts : List Lexeme} (m : Written) (t : Lexeme) → unplaced t ≡ m → Fronted rest ms ts → Fronted rest (m ∷ ms) (t ∷ ts)
one_more m t e f = record { front = t ∷ f.front; whole = ap (λ (ts : List Lexeme). t ∷ ts) f.whole; words = let g = f.words in cc }

pub front_of : {rest : List Lexeme} {ms : List Written} {ts : List Lexeme} → Placed rest ms ts → Fronted rest ms ts
front_of placed_none = record { front = []; whole = refl; words = refl }
front_of (placed_opening n p) = one_more opening (Opening n) refl (front_of p)
front_of (placed_closing n p) = one_more closing (Closing n) refl (front_of p)
front_of (placed_word w n p) = one_more (word w) (Word w n) refl (front_of p)
front_of (placed_feed n p) = one_more line_feed (LineEnd n) refl (front_of p)
front_of (placed_other t e p) = one_more other t e (front_of p)

-- a refusal is no grant
pub refused_not_granted : {r : Refusal} {c : Circuit} {place : ℕ} → Refused r ≡ Granted c place → ⊥
refused_not_granted e = let z : ◌≡◌ {A = ℕ} 0 1 = cc in omega arith

-- one lexeme is one step
pub run_step : (due : Due) (c : Circuit) (t : Lexeme) (ts : List Lexeme) → run due c (t ∷ ts) ≡ resumed (step due c t) ts
run_step due c t ts = goes_on (step due c t)
  where
    goes_on : (s : Step) → elim s as (λ (x : Step). Outcome) [ Go next d ↦ run next d ts | Stop end ↦ end ] ≡ resumed s ts
    goes_on (Go next d) = refl
    goes_on (Stop end) = refl

-- the lexemes of ms, at whatever places, lead from one state of reading to another, in which those of ns are left
pub record Led (rest : List Lexeme) (due : Due) (c : Circuit) (ts : List Lexeme) (next : Due) (d : Circuit) (ns : List Written) : Type 0 where
  pub left : List Lexeme
  pub placed : Placed rest ns left
  pub same : run due c ts ≡ run next d left

abbrev pub Leads : Due → Circuit → List Written → Due → Circuit → List Written → Type 0
Leads due c ms next d ns = (rest ts : List Lexeme) → Placed rest ms ts → Led rest due c ts next d ns

infixr 20 ◌then◌
pub ◌then◌ : {due next last : Due} {c d e : Circuit} {ms ns os : List Written}
    → Leads due c ms next d ns → Leads next d ns last e os → Leads due c ms last e os
◌then◌ f g rest ts p =
    let a = f rest ts p in
    let b = g rest a.left a.placed in
    record { left = b.left; placed = b.placed; same = a.same ∙ b.same }

module _ {due next : Due} {c d : Circuit} {ms : List Written} where
  pub stays : due ≡ next → c ≡ d → Leads due c ms next d ms
  stays e f rest ts p = record { left = ts; placed = p; same = cc }

  on : (rest : List Lexeme) (t : Lexeme) (ts : List Lexeme) → step due c t ≡ Go next d → Placed rest ms ts → Led rest due c (t ∷ ts) next d ms
  on rest t ts e p = record { left = ts; placed = p; same = run_step due c t ts ∙ ap (λ (s : Step). resumed s ts) e }

  pub on_opening : ((n : ℕ) → step due c (Opening n) ≡ Go next d) → Leads due c (opening ∷ ms) next d ms
  on_opening e rest _ (placed_opening {ts} n p) = on rest (Opening n) ts (e n) p

  pub on_closing : ((n : ℕ) → step due c (Closing n) ≡ Go next d) → Leads due c (closing ∷ ms) next d ms
  on_closing e rest _ (placed_closing {ts} n p) = on rest (Closing n) ts (e n) p

  pub on_feed : ((n : ℕ) → step due c (LineEnd n) ≡ Go next d) → Leads due c (line_feed ∷ ms) next d ms
  on_feed e rest _ (placed_feed {ts} n p) = on rest (LineEnd n) ts (e n) p

  pub on_word : (w : List ℕ) → name_shape w ≡ true → ((n : ℕ) → word_step due c w n ≡ Go next d) → Leads due c (word w ∷ ms) next d ms
  on_word w shape e rest _ (placed_word {ts} v n p) =
      on rest (Word v n) ts (cond-true _ _ _ shape ∙ e n) p
