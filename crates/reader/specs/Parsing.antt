-- How the parts of the reader follow the definition of reading.
use Rattle.std.specs.Prelude.{◌≡◌, OnOk, ◌<◌, ℕ, ◌+◌, ◌≤◌, List, length, Some, None, Option, Result, MatchResult}
use Rattle.refusals.specs.declared.cause.Refusal.{Refusal}
use Rattle.refusals.specs.declared.cause.Refusal.TheVariants as refusal
use Rattle.words.specs.Left.{left}
use Rattle.words.specs.Lexemes.{Lexeme}
use Rattle.words.specs.declared.expect.PlacedWord.{PlacedWord}
use Rattle.circuit.specs.Model.{Circuit}
use Rattle.circuit.specs.Tables.{tables_model}
use Rattle.reader.specs.declared.parser.Parser.{Parser}
use Rattle.reader.specs.declared.head.Head.{Head}
use Rattle.reader.specs.declared.head.Head.TheVariants as head
use Rattle.reader.specs.Reading.{Pending, Due, gate_name, output_name, Outcome, Refused, run, word_step, resumed}

-- the lexemes that a parser has yet to read, and the circuit that it has read
abbrev pub ahead : Parser → List Lexeme
ahead p = left p.lexer

abbrev pub so_far : Parser → Circuit
so_far p = tables_model p.tables

-- what reading answers from here on, where that is due
abbrev pub at : Due → Parser → Outcome
at due p = run due (so_far p) (ahead p)

-- an error is the refusal of the definition, or want of memory
abbrev pub Refuses : Outcome → Refusal → Type 0
Refuses o refusal.Memory = Unit {0}
Refuses o e = o ≡ Refused e

-- a result leads from one outcome to another: granted, reading goes on as before; an error is how it ends
abbrev pub Leads : {X : Type 0} → Outcome → Result X Refusal → (X → Outcome) → Type 0
Leads before r after = MatchResult r (λ x. before ≡ after x) (Refuses before)

-- A part of the reader goes from where one word is due to where another is: a result leads there, with no more lexemes
-- ahead; an error is how reading ends.
abbrev pub Advances : {X : Type 0} → Due → Parser → Result X Refusal → (X → Due) → Parser → Type 0
Advances due before r next after =
    MatchResult r (λ x. (at due before ≡ at (next x) after) × (length (ahead after) ≤ length (ahead before))) (Refuses (at due before))

-- granted, at least one lexeme was taken
abbrev pub Takes : {X E : Type 0} → Result X E → Parser → Parser → Type 0
Takes r before after = OnOk r (length (ahead after) < length (ahead before))

-- granted, no more lexemes are ahead than before
abbrev pub AddsNone : {X E : Type 0} → Result X E → Parser → Parser → Type 0
AddsNone r before after = OnOk r (length (ahead after) ≤ length (ahead before))

-- inside the gates that are pending, whatever the name of their line, with so many more brackets as may be opened
abbrev pub InGates : ℕ → (List ℕ → List Pending → Type 0) → Type 0
InGates allowed goes = (name : List ℕ) (pending : List Pending) → length pending + allowed ≡ 6 → goes name pending

-- what is due after a head
abbrev pub after_head : Head → Due
after_head head.Gate = gate_name
after_head head.Outputs = output_name

-- what reading answers once a name of a list was taken, or nothing but the list's closing bracket
abbrev pub listed : Due → Due → Parser → Option PlacedWord → Outcome
listed name closed p None = at closed p
listed name closed p (Some w) = resumed (word_step name (so_far p) w.bytes.now w.place) (ahead p)
