-- What reading a circuit text answers. The text's words are judged one after the other, each by what stands before it.
-- The first bad word ends the reading; where a word is bad in several ways, the smallest number is reported.
use Rattle.std.specs.Prelude.{ℕ, ◌+◌, Bool, cond, ◌||◌, List, [], ◌∷◌, ◌++◌, length, is_some, Some, None, codes, Option, ◌==◌, nat_eq, nat_le, nat_lt}
use Rattle.std.specs.Str.{bytes_eq}
use Rattle.refusals.specs.declared.cause.Refusal.{Refusal}
use Rattle.refusals.specs.declared.cause.Refusal.TheVariants as refusal
use Rattle.refusals.specs.declared.layers.TextRefusal.TheVariants.{ForbiddenByte, MalformedWord, BracketsTooDeep}
use Rattle.refusals.specs.declared.layers.FormRefusal.TheVariants.{Misplaced, UnknownWord, WrongOperandCount}
use Rattle.refusals.specs.declared.layers.CircuitRefusal.TheVariants.{UnknownName, NameTaken, LimitPassed, EndsEarly}
use Rattle.words.specs.Lexemes.{Lexeme, Opening, Closing, Word, LineEnd, TextEnd, Forbidden, lexemes}
use Rattle.std.specs.List.{list_any}
use Rattle.words.specs.Spelling.{name_shape}
use Rattle.circuit.specs.declared.op.Op.{Op}
use Rattle.circuit.specs.Ops.{op_named, fewest_operands, most_operands}
use Rattle.circuit.specs.Model.{Gate, Circuit, line_count, names, line_named}

-- a gate whose closing bracket is still to come: its operator, and the numbers of its operands so far
pub record Pending : Type 0 where
  pub op : Op
  pub operands : List ℕ

-- What is due next. A gate line is known by its name, and inside its expression by the pending gates, the innermost first.
pub data Due : Type 0 where
  -- the opening bracket of the inputs line, its head, and a name of it or its closing bracket
  inputs_line : Due
  inputs_head : Due
  input_name : Due
  -- the end of an inputs line or a gate line
  line_end : Due
  -- the opening bracket of a further line, and its head
  next_line : Due
  next_head : Due
  gate_name : Due
  -- the opening bracket of the line's gate, and the operator of a gate inside the pending ones
  gate_begin : List ℕ → Due
  operator : List ℕ → List Pending → Due
  -- an operand of the innermost pending gate or its closing bracket
  operand : List ℕ → Pending → List Pending → Due
  -- the closing bracket of a gate line
  gate_line_close : List ℕ → Due
  output_name : Due
  outputs_end : Due

-- Reading ends with a circuit and the place where the rest of the text begins, or with a refusal.
pub data Outcome : Type 0 where
  Granted : Circuit → ℕ → Outcome
  Refused : Refusal → Outcome

-- One word leads on, with the circuit read so far, or ends the reading.
pub data Step : Type 0 where
  Go : Due → Circuit → Step
  Stop : Outcome → Step

abbrev pub forbidden : ℕ → Step
forbidden n = Stop (Refused (refusal.Text (ForbiddenByte n)))

abbrev pub malformed : ℕ → Step
malformed n = Stop (Refused (refusal.Text (MalformedWord n)))

abbrev pub too_deep : ℕ → Step
too_deep n = Stop (Refused (refusal.Text (BracketsTooDeep n)))

abbrev pub misplaced : ℕ → Step
misplaced n = Stop (Refused (refusal.Form (Misplaced n)))

abbrev pub unknown_word : ℕ → Step
unknown_word n = Stop (Refused (refusal.Form (UnknownWord n)))

abbrev pub wrong_count : ℕ → Step
wrong_count n = Stop (Refused (refusal.Form (WrongOperandCount n)))

abbrev pub unknown_name : ℕ → Step
unknown_name n = Stop (Refused (refusal.Circuit (UnknownName n)))

abbrev pub name_taken : ℕ → Step
name_taken n = Stop (Refused (refusal.Circuit (NameTaken n)))

abbrev pub limit_passed : ℕ → Step
limit_passed n = Stop (Refused (refusal.Circuit (LimitPassed n)))

abbrev pub ends_early : ℕ → Step
ends_early n = Stop (Refused (refusal.Circuit (EndsEarly n)))

-- how many brackets are open
abbrev pub open_brackets : Due → ℕ
open_brackets inputs_line = 0
open_brackets inputs_head = 1
open_brackets input_name = 1
open_brackets line_end = 0
open_brackets next_line = 0
open_brackets next_head = 1
open_brackets gate_name = 1
open_brackets (gate_begin name) = 1
open_brackets (operator name pending) = 2 + length pending
open_brackets (operand name inner pending) = 2 + length pending
open_brackets (gate_line_close name) = 1
open_brackets output_name = 1
open_brackets outputs_end = 0

abbrev pub taken : Circuit → List ℕ → Bool
taken c word = is_some (line_named (names c) word)

abbrev pub is_head : List ℕ → Bool
is_head word = bytes_eq word (codes "inputs") || (bytes_eq word (codes "gate") || bytes_eq word (codes "outputs"))

abbrev pub with_input : Circuit → List ℕ → Circuit
with_input c word = record { inputs = c.inputs ++ (word ∷ []); gates = c.gates; outputs = c.outputs }

abbrev pub with_gate : Circuit → Gate → Circuit
with_gate c g = record { inputs = c.inputs; gates = c.gates ++ (g ∷ []); outputs = c.outputs }

abbrev pub with_output : Circuit → ℕ → Circuit
with_output c line = record { inputs = c.inputs; gates = c.gates; outputs = c.outputs ++ (line ∷ []) }

-- the last gate gets a name
abbrev pub last_named : List ℕ → List Gate → List Gate
last_named name [] = []
last_named name (g ∷ []) = record { name = Some name; op = g.op; operands = g.operands } ∷ []
last_named name (g ∷ (h ∷ gs)) = g ∷ last_named name (h ∷ gs)

abbrev pub with_name : Circuit → List ℕ → Circuit
with_name c name = record { inputs = c.inputs; gates = last_named name c.gates; outputs = c.outputs }

abbrev pub with_operand : Pending → ℕ → Pending
with_operand p line = record { op = p.op; operands = p.operands ++ (line ∷ []) }

abbrev pub full : Pending → Bool
full p = nat_le (most_operands p.op) (length p.operands)

abbrev pub too_few : Pending → Bool
too_few p = nat_lt (length p.operands) (fewest_operands p.op)

-- An operand: of a gate that is full it is one too many; else its name must be known.
abbrev pub operand_found : Circuit → List ℕ → Pending → List Pending → ℕ → Option ℕ → Step
operand_found c name inner pending n None = unknown_name n
operand_found c name inner pending n (Some line) = Go (operand name (with_operand inner line) pending) c

abbrev pub output_found : Circuit → ℕ → Option ℕ → Step
output_found c n None = unknown_name n
output_found c n (Some line) =
    cond (list_any (nat_eq line) c.outputs) (name_taken n)
    (cond (nat_le 64 (length c.outputs)) (limit_passed n)
    (Go output_name (with_output c line)))

abbrev pub operator_found : Circuit → List ℕ → List Pending → ℕ → Option Op → Step
operator_found c name pending n None = unknown_word n
operator_found c name pending n (Some op) = Go (operand name (record { op = op; operands = [] }) pending) c

-- a word, well shaped
abbrev pub word_step : Due → Circuit → List ℕ → ℕ → Step
word_step inputs_head c word n =
    cond (bytes_eq word (codes "inputs")) (Go input_name c) (cond (is_head word) (misplaced n) (unknown_word n))
word_step input_name c word n =
    cond (taken c word) (name_taken n) (cond (nat_le 64 (length c.inputs)) (limit_passed n) (Go input_name (with_input c word)))
word_step next_head c word n =
    cond (bytes_eq word (codes "gate")) (Go gate_name c)
    (cond (bytes_eq word (codes "outputs")) (Go output_name c)
    (cond (is_head word) (misplaced n) (unknown_word n)))
word_step gate_name c word n = cond (taken c word) (name_taken n) (Go (gate_begin word) c)
word_step (operator name pending) c word n = operator_found c name pending n (op_named word)
word_step (operand name inner pending) c word n =
    cond (full inner) (wrong_count n) (operand_found c name inner pending n (line_named (names c) word))
word_step output_name c word n = output_found c n (line_named (names c) word)
word_step due c word n = misplaced n

-- an opening bracket, of at most eight open together
abbrev pub opening_step : Due → Circuit → ℕ → Step
opening_step inputs_line c n = Go inputs_head c
opening_step next_line c n = Go next_head c
opening_step (gate_begin name) c n = Go (operator name []) c
opening_step (operand name inner pending) c n = cond (full inner) (wrong_count n) (Go (operator name (inner ∷ pending)) c)
opening_step due c n = misplaced n

-- the gate is made: it has the next line number, and is an operand of the gate around it, if there is one
abbrev pub made_gate : Circuit → Pending → Circuit
made_gate c p = with_gate c (record { name = None; op = p.op; operands = p.operands })

abbrev pub gate_made : Circuit → List ℕ → ℕ → List Pending → Step
gate_made c name line [] = Go (gate_line_close name) c
gate_made c name line (outer ∷ pending) = Go (operand name (with_operand outer line) pending) c

abbrev pub closing_step : Due → Circuit → ℕ → Step
closing_step input_name c n = cond (length c.inputs == 0) (misplaced n) (Go line_end c)
closing_step (operand name inner pending) c n =
    cond (too_few inner) (wrong_count n)
    (cond (nat_le 512 (line_count c)) (limit_passed n)
    (gate_made (made_gate c inner) name (line_count c) pending))
closing_step (gate_line_close name) c n = Go line_end (with_name c name)
closing_step output_name c n = cond (length c.outputs == 0) (misplaced n) (Go outputs_end c)
closing_step due c n = misplaced n

-- a line feed
abbrev pub feed_step : Due → Circuit → ℕ → Step
feed_step line_end c n = Go next_line c
feed_step outputs_end c n = Stop (Granted c (n + 1))
feed_step due c n = misplaced n

-- the text's end: it may end a line, and no line begins there
abbrev pub end_step : Due → Circuit → ℕ → Step
end_step inputs_line c n = ends_early n
end_step line_end c n = ends_early n
end_step next_line c n = ends_early n
end_step outputs_end c n = Stop (Granted c n)
end_step due c n = misplaced n

-- one word, by the lowest number that fits it
abbrev pub step : Due → Circuit → Lexeme → Step
step due c (Forbidden n) = forbidden n
step due c (Word word n) = cond (name_shape word) (word_step due c word n) (malformed n)
step due c (Opening n) = cond (nat_le 8 (open_brackets due)) (too_deep n) (opening_step due c n)
step due c (Closing n) = closing_step due c n
step due c (LineEnd n) = feed_step due c n
step due c (TextEnd n) = end_step due c n

-- From what is due on, word by word. Every text has an end, which ends the reading, so the first line speaks of no text.
abbrev pub run : Due → Circuit → List Lexeme → Outcome
run due c [] = Refused (refusal.Form (Misplaced 0))
run due c (t ∷ ts) = elim (step due c t) [ Go next d ↦ run next d ts | Stop end ↦ end ]

-- what reading answers after a step
abbrev pub resumed : Step → List Lexeme → Outcome
resumed (Go due c) ts = run due c ts
resumed (Stop end) ts = end

abbrev pub empty : Circuit
empty = record { inputs = []; gates = []; outputs = [] }

-- A text of more than 65,536 bytes is refused before any word is looked at.
abbrev pub reading : List ℕ → Outcome
reading text =
    cond (nat_lt 65536 (length text)) (Refused (refusal.Circuit (LimitPassed 65536))) (run inputs_line empty (lexemes 0 text))
