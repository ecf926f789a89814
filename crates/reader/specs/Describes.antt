-- Which circuit a text describes: the written form of a circuit, its words, the rules for it, and the circuit that it
-- stands for.
use Rattle.std.specs.Prelude.{◌≡◌, ℕ, suc, ◌+◌, ◌≤◌, max, Bool, true, false, not, ◌&&◌, List, [], ◌∷◌, ◌++◌, map, length, is_some, Some, None, codes, nat_eq}
use Rattle.std.specs.Option.{unwrap_or}
use Rattle.words.specs.Lexemes.{Lexeme, lexemes}
use Rattle.words.specs.Lexemes as lexeme
use Rattle.words.specs.Expected.{after_line}
use Rattle.std.specs.List.{list_all, list_any}
use Rattle.words.specs.Spelling.{name_shape}
use Rattle.circuit.specs.declared.op.Op.{Op}
use Rattle.circuit.specs.Ops.{op_word, fewest_operands, most_operands}
use Rattle.circuit.specs.Model.{Circuit, line_count, names, line_named}
use Rattle.circuit.specs.Lawful.{each_after, between, unclaimed}
use Rattle.reader.specs.Reading.{Granted, reading, with_gate}

-- An operand is a name, or a gate in brackets with operands of its own. Further operands follow it.
pub data Operands : Type 0 where
  none : Operands
  name_then : List ℕ → Operands → Operands
  gate_then : Op → Operands → Operands → Operands

pub record GateLine : Type 0 where
  pub name : List ℕ
  pub op : Op
  pub operands : Operands

-- The written form of a circuit: an inputs line, gate lines and an outputs line.
pub record Source : Type 0 where
  pub inputs : List (List ℕ)
  pub gates : List GateLine
  pub outputs : List (List ℕ)

-- Its words

-- A word of a text without its place. A source has none of the last kind: the text's end, or a byte that is not allowed.
pub data Written : Type 0 where
  opening : Written
  closing : Written
  word : List ℕ → Written
  line_feed : Written
  other : Written

abbrev pub unplaced : Lexeme → Written
unplaced (lexeme.Opening n) = opening
unplaced (lexeme.Closing n) = closing
unplaced (lexeme.Word bytes n) = word bytes
unplaced (lexeme.LineEnd n) = line_feed
unplaced (lexeme.TextEnd n) = other
unplaced (lexeme.Forbidden n) = other

-- Each of these is the words of a part, and then the further words ms.
abbrev pub names_then : List (List ℕ) → List Written → List Written
names_then ws ms = map word ws ++ ms

abbrev pub operands_then : Operands → List Written → List Written
operands_then none ms = ms
operands_then (name_then w more) ms = word w ∷ operands_then more ms
operands_then (gate_then op inner more) ms =
    opening ∷ (word (op_word op) ∷ operands_then inner (closing ∷ operands_then more ms))

abbrev pub gate_line_then : GateLine → List Written → List Written
gate_line_then g ms =
    opening ∷ (word (codes "gate") ∷ (word g.name
    ∷ (opening ∷ (word (op_word g.op) ∷ operands_then g.operands (closing
    ∷ (closing ∷ (line_feed ∷ ms)))))))

abbrev pub gate_lines_then : List GateLine → List Written → List Written
gate_lines_then [] ms = ms
gate_lines_then (g ∷ gs) ms = gate_line_then g (gate_lines_then gs ms)

abbrev pub inputs_line_then : List (List ℕ) → List Written → List Written
inputs_line_then ws ms = opening ∷ (word (codes "inputs") ∷ names_then ws (closing ∷ (line_feed ∷ ms)))

abbrev pub outputs_line_then : List (List ℕ) → List Written → List Written
outputs_line_then ws ms = opening ∷ (word (codes "outputs") ∷ names_then ws (closing ∷ ms))

-- the words of a source, but for the end of its last line
abbrev pub words_of : Source → List Written
words_of s = inputs_line_then s.inputs (gate_lines_then s.gates (outputs_line_then s.outputs []))

-- The circuit that it stands for

abbrev pub known : Circuit → List ℕ → Bool
known c w = is_some (line_named (names c) w)

-- the number of the line with the name; where there is none, which the rules exclude, the answer has no meaning
abbrev pub number_of : Circuit → List ℕ → ℕ
number_of c w = unwrap_or (line_named (names c) w) 0

-- What operands come to: the circuit with the gates among them, and the line of each operand.
pub record Made : Type 0 where
  pub circuit : Circuit
  pub lines : List ℕ

-- A gate follows the gates inside it and those written before it. Inside another, it has no name.
abbrev pub made : Circuit → Operands → Made
made c none = record { circuit = c; lines = [] }
made c (name_then w more) =
    let after = made c more in
    record { circuit = after.circuit; lines = number_of c w ∷ after.lines }
made c (gate_then op inner more) =
    let within = made c inner in
    let after = made (with_gate within.circuit (record { name = None; op = op; operands = within.lines })) more in
    record { circuit = after.circuit; lines = line_count within.circuit ∷ after.lines }

abbrev pub with_gate_line : Circuit → GateLine → Circuit
with_gate_line c g =
    let within = made c g.operands in
    with_gate within.circuit (record { name = Some g.name; op = g.op; operands = within.lines })

abbrev pub with_gate_lines : Circuit → List GateLine → Circuit
with_gate_lines c [] = c
with_gate_lines c (g ∷ gs) = with_gate_lines (with_gate_line c g) gs

abbrev pub inputs_alone : List (List ℕ) → Circuit
inputs_alone ws = record { inputs = ws; gates = []; outputs = [] }

-- the circuit without its outputs
abbrev pub all_lines : Source → Circuit
all_lines s = with_gate_lines (inputs_alone s.inputs) s.gates

abbrev pub stands_for : Source → Circuit
stands_for s = record {
  inputs = (all_lines s).inputs;
  gates = (all_lines s).gates;
  outputs = map (number_of (all_lines s)) s.outputs;
}

-- The rules

abbrev pub names_in : Operands → List (List ℕ)
names_in none = []
names_in (name_then w more) = w ∷ names_in more
names_in (gate_then op inner more) = names_in inner ++ names_in more

abbrev pub operand_count : Operands → ℕ
operand_count none = 0
operand_count (name_then w more) = suc (operand_count more)
operand_count (gate_then op inner more) = suc (operand_count more)

-- as many operands as the operator takes
abbrev pub takes : Op → Operands → Bool
takes op operands = between (fewest_operands op) (most_operands op) (operand_count operands)

-- each gate among the operands has as many operands as its operator takes
abbrev pub gates_take : Operands → Bool
gates_take none = true
gates_take (name_then w more) = gates_take more
gates_take (gate_then op inner more) = takes op inner && (gates_take inner && gates_take more)

-- how many brackets the operands hold open together
abbrev pub nesting : Operands → ℕ
nesting none = 0
nesting (name_then w more) = nesting more
nesting (gate_then op inner more) = max (suc (nesting inner)) (nesting more)

-- The rules for a gate line, behind the lines of the circuit c: its name is new, and the names among its operands are
-- known. Of the brackets, two are its own and its gate's.
pub record GateLineRules (c : Circuit) (g : GateLine) : Type 0 where
  pub name_shaped : name_shape g.name ≡ true
  pub name_new : known c g.name ≡ false
  pub names_shaped : list_all name_shape (names_in g.operands) ≡ true
  pub names_known : list_all (known c) (names_in g.operands) ≡ true
  pub own_count : takes g.op g.operands ≡ true
  pub inner_counts : gates_take g.operands ≡ true
  pub brackets : 2 + nesting g.operands ≤ 8

abbrev pub GateLinesRules : Circuit → List GateLine → Type 0
GateLinesRules c [] = Unit {0}
GateLinesRules c (g ∷ gs) = GateLineRules c g × GateLinesRules (with_gate_line c g) gs

-- not listed before
abbrev pub unlisted : List ℕ → ℕ → Bool
unlisted before line = not (list_any (nat_eq line) before)

-- The rules for a source. A name is given once, is known from the line behind it on, and has the shape of a name.
pub record Rules (s : Source) : Type 0 where
  pub input_count : between 1 64 (length s.inputs) ≡ true
  pub inputs_shaped : list_all name_shape s.inputs ≡ true
  pub inputs_new : each_after unclaimed [] (map Some s.inputs) ≡ true
  pub gate_lines : GateLinesRules (inputs_alone s.inputs) s.gates
  pub line_limit : line_count (all_lines s) ≤ 512
  pub output_count : between 1 64 (length s.outputs) ≡ true
  pub outputs_shaped : list_all name_shape s.outputs ≡ true
  pub outputs_known : list_all (known (all_lines s)) s.outputs ≡ true
  pub no_line_twice : each_after unlisted [] (map (number_of (all_lines s)) s.outputs) ≡ true

-- The text describes the circuit: it begins with the words of a source that keeps the rules and stands for the circuit.
-- Its lexemes are those of the source, the end of the source's last line, and others. The rest of the text, of which
-- nothing is asked, begins at the place.
pub record Describes (text : List ℕ) (c : Circuit) (place : ℕ) : Type 0 where
  pub size : length text ≤ 65536
  pub source : Source
  pub rules : Rules source
  pub circuit_is : c ≡ stands_for source
  pub front : List Lexeme
  pub end : Lexeme
  pub after : List Lexeme
  pub text_is : lexemes 0 text ≡ front ++ (end ∷ after)
  pub front_is : map unplaced front ≡ words_of source
  pub ended : after_line end ≡ Some place

-- Reading grants just the texts that describe a circuit, with that circuit and the place of the rest.
abbrev pub ReadsWhatIsDescribed : Type 0
ReadsWhatIsDescribed =
    (text : List ℕ) (c : Circuit) (place : ℕ) →
    (reading text ≡ Granted c place → Describes text c place) × (Describes text c place → reading text ≡ Granted c place)

-- A text describes at most one circuit, and its rest begins at one place.
abbrev pub OneCircuit : Type 0
OneCircuit =
    (text : List ℕ) (c d : Circuit) (place other_place : ℕ) →
    Describes text c place → Describes text d other_place → (c ≡ d) × (place ≡ other_place)
