-- What the lexemes ahead are, wherever reading stands, if it ends with the circuit d and that place: the words that are
-- due, and what the rules ask of them.
use Rattle.std.proofs.Common.{◌≡◌, ℕ, ◌+◌, ◌-◌, ◌<◌, ◌≤◌, true, false, ◌⊎◌, List, [], ◌∷◌, ◌++◌, map, length, Some, codes}
use Rattle.words.specs.Lexemes.{Lexeme}
use Rattle.std.specs.List.{list_all}
use Rattle.words.specs.Spelling.{name_shape}
use Rattle.circuit.specs.declared.op.Op.{Op}
use Rattle.circuit.specs.Ops.{fewest_operands, most_operands, op_word}
use Rattle.circuit.specs.Model.{Circuit, line_count}
use Rattle.circuit.specs.Lawful.{each_after, unclaimed}
use Rattle.reader.specs.Reading.{Due, Pending, inputs_line, inputs_head, input_name, line_end, next_line, next_head, gate_name, gate_begin, operator, operand, gate_line_close, output_name, outputs_end}
use Rattle.reader.specs.Reading.{with_operand, with_name, made_gate}
use Rattle.words.specs.Expected.{after_line}
use Rattle.reader.specs.Describes.{Written, opening, closing, word, line_feed, Operands, GateLine, names_then, operands_then, gate_lines_then}
use Rattle.reader.specs.Describes.{known, number_of, made, with_gate_lines, inputs_alone, operand_count, unlisted, GateLinesRules}
use Rattle.reader.proofs.DescribesPlaces.{Placed}
use Rattle.reader.proofs.DescribesLines.{with_operands, with_outputs, Right}

-- whatever words ms the lexemes left are, those from ts on are the words f ms
abbrev pub Front : (List Written → List Written) → List Lexeme → List Lexeme → Type 0
Front f ts left = (rest : List Lexeme) (ms : List Written) → Placed rest ms left → Placed rest (f ms) ts

-- the words ms come first, and what is left is of the kind
abbrev pub First : List Written → (List Lexeme → Type 0) → List Lexeme → Type 0
First ms Kind ts = (left : List Lexeme) × Front (λ (ns : List Written). ms ++ ns) ts left × Kind left

module _ (d : Circuit) (place : ℕ) where
  pub record Ended (c : Circuit) (ts : List Lexeme) : Type 0 where
    pub end : Lexeme
    pub after : List Lexeme
    pub whole : ts ≡ end ∷ after
    pub ended : after_line end ≡ Some place
    pub circuit : d ≡ c

  pub record OutputsLeft (c : Circuit) (ts : List Lexeme) : Type 0 where
    pub outputs : List (List ℕ)
    pub left : List Lexeme
    pub front : Front (λ (ms : List Written). names_then outputs (closing ∷ ms)) ts left
    pub shaped : list_all name_shape outputs ≡ true
    pub known_names : list_all (known c) outputs ≡ true
    pub new : each_after unlisted c.outputs (map (number_of c) outputs) ≡ true
    pub few : length outputs ≤ 64 - length c.outputs
    pub any : 1 ≤ length c.outputs + length outputs
    pub ended : Ended (with_outputs c outputs) left

  pub record LinesLeft (c : Circuit) (ts : List Lexeme) : Type 0 where
    pub gates : List GateLine
    pub left : List Lexeme
    pub front : Front (λ (ms : List Written). gate_lines_then gates (opening ∷ (word (codes "outputs") ∷ ms))) ts left
    pub rules : GateLinesRules c gates
    pub limit : line_count c ≤ 512 → line_count (with_gate_lines c gates) ≤ 512
    pub outputs : OutputsLeft (with_gate_lines c gates) left

  pub record InputsLeft (before : List (List ℕ)) (ts : List Lexeme) : Type 0 where
    pub inputs : List (List ℕ)
    pub left : List Lexeme
    pub front : Front (λ (ms : List Written). names_then inputs (closing ∷ (line_feed ∷ ms))) ts left
    pub shaped : list_all name_shape inputs ≡ true
    pub new : each_after unclaimed (map Some before) (map Some inputs) ≡ true
    pub few : length inputs ≤ 64 - length before
    pub any : 1 ≤ length before + length inputs
    pub lines : LinesLeft (inputs_alone (before ++ inputs)) left

  -- the further operands of a gate inside that many others, its closing bracket, and what is left outside it
  pub record GateLeft (Outside : Circuit → ℕ → List Lexeme → Type 0) (depth : ℕ) (gate : Pending) (c : Circuit) (ts : List Lexeme) : Type 0 where
    pub operands : Operands
    pub left : List Lexeme
    pub front : Front (λ (ms : List Written). operands_then operands (closing ∷ ms)) ts left
    pub right : Right c depth operands
    pub enough : fewest_operands gate.op ≤ length gate.operands + operand_count operands
    pub few : operand_count operands ≤ most_operands gate.op - length gate.operands
    pub room : line_count (made c operands).circuit < 512
    pub outside :
        let within = made c operands in
        Outside (made_gate within.circuit (with_operands gate within.lines)) (line_count within.circuit) left

  -- what is left outside a gate that has become that line
  abbrev pub OutsideLeft : List ℕ → List Pending → Circuit → ℕ → List Lexeme → Type 0
  OutsideLeft name [] c line = First (closing ∷ (line_feed ∷ [])) (LinesLeft (with_name c name))
  OutsideLeft name (gate ∷ pending) c line = GateLeft (OutsideLeft name pending) (length pending) (with_operand gate line) c

  abbrev pub OperandLeft : List ℕ → Pending → List Pending → Circuit → List Lexeme → Type 0
  OperandLeft name gate pending = GateLeft (OutsideLeft name pending) (length pending) gate

  abbrev pub OperatorLeft : List ℕ → List Pending → Circuit → List Lexeme → Type 0
  OperatorLeft name pending c ts =
      (op : Op) × First (word (op_word op) ∷ []) (OperandLeft name (record { op = op; operands = [] }) pending c) ts

  abbrev pub NameLeft : Circuit → List Lexeme → Type 0
  NameLeft c ts =
      (name : List ℕ) × (name_shape name ≡ true) × (known c name ≡ false) × First (word name ∷ (opening ∷ [])) (OperatorLeft name [] c) ts

  -- by what is due; an inputs line is read while there are inputs alone
  abbrev pub Left : Due → Circuit → List Lexeme → Type 0
  Left inputs_line c ts =
      (before : List (List ℕ)) → c ≡ inputs_alone before → First (opening ∷ (word (codes "inputs") ∷ [])) (InputsLeft before) ts
  Left inputs_head c ts = (before : List (List ℕ)) → c ≡ inputs_alone before → First (word (codes "inputs") ∷ []) (InputsLeft before) ts
  Left input_name c ts = (before : List (List ℕ)) → c ≡ inputs_alone before → InputsLeft before ts
  Left line_end c ts = First (line_feed ∷ []) (LinesLeft c) ts
  Left next_line c ts = LinesLeft c ts
  Left next_head c ts = First (word (codes "gate") ∷ []) (NameLeft c) ts ⊎ First (word (codes "outputs") ∷ []) (OutputsLeft c) ts
  Left gate_name c ts = NameLeft c ts
  Left (gate_begin name) c ts = First (opening ∷ []) (OperatorLeft name [] c) ts
  Left (operator name pending) c ts = OperatorLeft name pending c ts
  Left (operand name gate pending) c ts = OperandLeft name gate pending c ts
  Left (gate_line_close name) c ts = First (closing ∷ (line_feed ∷ [])) (LinesLeft (with_name c name)) ts
  Left output_name c ts = OutputsLeft c ts
  Left outputs_end c ts = Ended c ts
