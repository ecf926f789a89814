-- Each text that describes a circuit is read as that circuit.
use Rattle.std.proofs.Common.{◌≡◌, ℕ, suc, ◌+◌, ◌<◌, ◌≤◌, true, false, List, [], ◌∷◌, ◌++◌, map, length, is_some, Some, None, codes, Option, sym, refl, ap, ◌∙◌, subst, append_assoc, append-nil, arith}
use Rattle.std.proofs.lemmas.List.{length_push, map_push, length-map}
use Rattle.std.proofs.lemmas.Bool.{and_parts, cond-false, lt-leb, le-ltb, ne_eqb, not-true}
use Rattle.words.specs.Lexemes.{Lexeme, Closing, LineEnd}
use Rattle.std.specs.List.{list_all}
use Rattle.words.specs.Spelling.{name_shape}
use Rattle.circuit.specs.Ops.{fewest_operands, most_operands, op_word}
use Rattle.circuit.specs.Model.{Gate, Circuit, line_count, line_named}
use Rattle.circuit.specs.Lawful.{each_after, unclaimed}
use Rattle.reader.specs.Reading.{Pending, inputs_line, input_name, line_end, next_line, gate_name, operand, output_name, outputs_end}
use Rattle.reader.specs.Reading.{Granted, Go, run, step, reading, empty, full, with_output, with_operand, made_gate, gate_made, operand_found, operator_found, output_found}
use Rattle.reader.specs.Describes.{Written, Operands, none, name_then, gate_then, GateLine, Source, Describes, OneCircuit}
use Rattle.words.specs.Expected.{after_line}
use Rattle.reader.specs.Describes.{names_then, operands_then, gate_line_then, gate_lines_then, words_of}
use Rattle.reader.specs.Describes.{known, number_of, made, with_gate_line, with_gate_lines, inputs_alone, all_lines, stands_for}
use Rattle.reader.specs.Describes.{operand_count, unlisted, GateLineRules, GateLinesRules, Rules}
use Rattle.reader.proofs.DescribesPlaces.{Placed, placed_from, none_left, Leads, ◌then◌, stays, on_opening, on_closing, on_feed, on_word}
use Rattle.reader.proofs.DescribesLines.{op_shaped, op_known, number_known, behind, behind_adds, lines_grow, line_adds, all_lines_grow, same_outputs_all}
use Rattle.reader.proofs.DescribesLines.{between_parts, a_line_each, with_operands, one_first, with_outputs, Right, right_name_parts, right_gate_parts}
use Rattle.reader.proofs.Rules.{last_named_push}

-- a gate has room for one more operand
not_full : (p : Pending) (more : ℕ) → length p.operands + suc more ≤ most_operands p.op → full p ≡ false
not_full p more fits = lt-leb _ _ (omega arith)

-- a gate with enough operands closes
gate_closes : (name : List ℕ) (p : Pending) (pending : List Pending) (c : Circuit) (n : ℕ)
    → fewest_operands p.op ≤ length p.operands → line_count c < 512
    → step (operand name p pending) c (Closing n) ≡ gate_made (made_gate c p) name (line_count c) pending
gate_closes name p pending c n enough room = cond-false _ _ _ (le-ltb _ _ enough) ∙ cond-false _ _ _ (lt-leb _ _ room)

-- Operands lead to the same gate with their lines, in the circuit with the gates among them.
operands_lead : (a : Operands) (name : List ℕ) (gate : Pending) (pending : List Pending) (c : Circuit) (ms : List Written)
    → Right c (length pending) a → length gate.operands + operand_count a ≤ most_operands gate.op
    → line_count (made c a).circuit ≤ 512
    → Leads (operand name gate pending) c (operands_then a ms)
    (operand name (with_operands gate (made c a).lines) pending) (made c a).circuit ms
operands_lead none name gate pending c ms right fits limit =
    stays (ap (λ (os : List ℕ). operand name (record { op = gate.op; operands = os }) pending) (sym (append-nil gate.operands))) refl
operands_lead (name_then w more) name gate pending c ms right fits limit =
    let parts = right_name_parts c (length pending) w more right in
    let line = number_of c w in
    on_word w parts.shaped
    (λ n. cond-false _ _ _ (not_full gate (operand_count more) fits) ∙ ap (operand_found c name gate pending n) (number_known _ parts.is_known))
    then operands_lead more name (with_operand gate line) pending c ms parts.after (omega (arith, length_push gate.operands line)) limit
    then stays (ap (λ (p : Pending). operand name p pending) (one_first gate line (made c more).lines)) refl
operands_lead (gate_then op inner more) name gate pending c ms right fits limit =
    let parts = right_gate_parts c (length pending) op inner more right in
    let count = between_parts (fewest_operands op) (most_operands op) (operand_count inner) parts.count in
    let within = made c inner in
    let line = line_count within.circuit in
    let grows = lines_grow more (behind c op inner) in
    let adds = behind_adds c op inner in
    let begun : Pending = record { op = op; operands = [] } in
    on_opening (λ n. cond-false _ _ _ (lt-leb 8 (2 + length pending) (omega (arith, parts.shallow))) ∙ cond-false _ _ _ (not_full gate (operand_count more) fits))
    then on_word (op_word op) (op_shaped op) (λ n. ap (operator_found c name (gate ∷ pending) n) (op_known op))
    then operands_lead inner name begun (gate ∷ pending) c _ parts.within (omega (arith, count.1)) (omega arith)
    then on_closing
    (λ n. gate_closes name (with_operands begun within.lines) (gate ∷ pending) within.circuit n (omega (arith, a_line_each inner c, count.0)) (omega arith))
    then operands_lead more name (with_operand gate line) pending (behind c op inner) ms parts.after (omega (arith, length_push gate.operands line)) limit
    then stays (ap (λ (p : Pending). operand name p pending) (one_first gate line (made (behind c op inner) more).lines)) refl

gate_line_leads : (g : GateLine) (c : Circuit) (ms : List Written) → GateLineRules c g → line_count (with_gate_line c g) ≤ 512
    → Leads next_line c (gate_line_then g ms) next_line (with_gate_line c g) ms
gate_line_leads g c ms rules limit =
    let count = between_parts (fewest_operands g.op) (most_operands g.op) (operand_count g.operands) rules.own_count in
    let within = made c g.operands in
    let adds = line_adds c g in
    let begun : Pending = record { op = g.op; operands = [] } in
    let right : Right c 0 g.operands = record {
      shaped = rules.names_shaped;
      known_names = rules.names_known;
      take = rules.inner_counts;
      nest = omega (arith, rules.brackets);
    } in
    on_opening (λ n. refl)
    then on_word {next = gate_name} (codes "gate") refl (λ n. refl)
    then on_word g.name rules.name_shaped (λ n. cond-false _ _ _ rules.name_new)
    then on_opening (λ n. refl)
    then on_word (op_word g.op) (op_shaped g.op) (λ n. ap (operator_found c g.name [] n) (op_known g.op))
    then operands_lead g.operands g.name begun [] c _ right (omega (arith, count.1)) (omega arith)
    then on_closing
    (λ n. gate_closes g.name (with_operands begun within.lines) [] within.circuit n (omega (arith, a_line_each g.operands c, count.0)) (omega arith))
    then on_closing
    (λ n. ap (λ (gs : List Gate). Go line_end (record { inputs = within.circuit.inputs; gates = gs; outputs = within.circuit.outputs }))
    (last_named_push g.name within.circuit.gates (record { name = None; op = g.op; operands = within.lines })))
    then on_feed (λ n. refl)

gate_lines_lead : (gs : List GateLine) (c : Circuit) (ms : List Written) → GateLinesRules c gs → line_count (with_gate_lines c gs) ≤ 512
    → Leads next_line c (gate_lines_then gs ms) next_line (with_gate_lines c gs) ms
gate_lines_lead [] c ms rules limit = stays refl refl
gate_lines_lead (g ∷ gs) c ms rules limit =
    gate_line_leads g c _ rules.0 (omega (arith, all_lines_grow gs (with_gate_line c g)))
    then gate_lines_lead gs (with_gate_line c g) ms rules.1 limit

inputs_lead : (ws before : List (List ℕ)) (ms : List Written) → list_all name_shape ws ≡ true
    → each_after unclaimed (map Some before) (map Some ws) ≡ true → length before + length ws ≤ 64
    → Leads input_name (inputs_alone before) (names_then ws ms) input_name (inputs_alone (before ++ ws)) ms
inputs_lead [] before ms shaped new few = stays refl (ap inputs_alone (sym (append-nil before)))
inputs_lead (w ∷ ws) before ms shaped new few =
    let Names = List (Option (List ℕ)) in
    let shapes = and_parts (name_shape w) _ shaped in
    let news = and_parts (unclaimed (map Some before) (Some w)) _ new in
    let free = ap (λ (ns : Names). is_some (line_named ns w)) (append-nil (map Some before)) ∙ not-true _ news.0 in
    let later-new = ap (λ (ns : Names). each_after unclaimed ns (map Some ws)) (map_push Some before w) ∙ news.1 in
    on_word w shapes.0 (λ n. cond-false _ _ _ free ∙ cond-false _ _ _ (lt-leb 64 (length before) (omega arith)))
    then inputs_lead ws (before ++ (w ∷ [])) ms shapes.1 later-new (omega (arith, length_push before w))
    then stays refl (ap inputs_alone (append_assoc before (w ∷ []) ws))

outputs_lead : (ws : List (List ℕ)) (c : Circuit) (ms : List Written) → list_all name_shape ws ≡ true → list_all (known c) ws ≡ true
    → each_after unlisted c.outputs (map (number_of c) ws) ≡ true → length c.outputs + length ws ≤ 64
    → Leads output_name c (names_then ws ms) output_name (with_outputs c ws) ms
outputs_lead [] c ms shaped known_names new few =
    stays refl (ap (λ (os : List ℕ). record { inputs = c.inputs; gates = c.gates; outputs = os }) (sym (append-nil c.outputs)))
outputs_lead (w ∷ ws) c ms shaped known_names new few =
    let line = number_of c w in
    let shapes = and_parts (name_shape w) _ shaped in
    let knowns = and_parts (known c w) _ known_names in
    let news = and_parts (unlisted c.outputs line) _ new in
    on_word w shapes.0
    (λ n. ap (output_found c n) (number_known _ knowns.0) ∙ cond-false _ _ _ (not-true _ news.0)
    ∙ cond-false _ _ _ (lt-leb 64 (length c.outputs) (omega arith)))
    then outputs_lead ws (with_output c line) ms shapes.1 knowns.1 news.1 (omega (arith, length_push c.outputs line))
    then stays refl
    (ap (λ (os : List ℕ). record { inputs = c.inputs; gates = c.gates; outputs = os }) (append_assoc c.outputs (line ∷ []) (map (number_of c) ws)))

source_leads : (s : Source) → Rules s → Leads inputs_line empty (words_of s) outputs_end (stands_for s) []
source_leads s rules =
    let c = all_lines s in
    let lines = map (number_of c) s.outputs in
    let no_outputs = same_outputs_all s.gates (inputs_alone s.inputs) in
    let none-listed = ap (λ (os : List ℕ). length os) no_outputs in
    let new = ap (λ (os : List ℕ). each_after unlisted os lines) no_outputs ∙ rules.no_line_twice in
    let input_count = between_parts 1 64 (length s.inputs) rules.input_count in
    let output_count = between_parts 1 64 (length s.outputs) rules.output_count in
    on_opening (λ n. refl)
    then on_word {next = input_name} (codes "inputs") refl (λ n. refl)
    then inputs_lead s.inputs [] _ rules.inputs_shaped rules.inputs_new (omega (arith, input_count.1))
    then on_closing (λ n. cond-false _ _ _ (ne_eqb (length s.inputs) 0 (omega (arith, input_count.0))))
    then on_feed (λ n. refl)
    then gate_lines_lead s.gates (inputs_alone s.inputs) _ rules.gate_lines rules.line_limit
    then on_opening (λ n. refl)
    then on_word {next = output_name} (codes "outputs") refl (λ n. refl)
    then outputs_lead s.outputs c _ rules.outputs_shaped rules.outputs_known new (omega (arith, output_count.1))
    then stays {d = stands_for s} refl (ap (λ (os : List ℕ). record { inputs = c.inputs; gates = c.gates; outputs = os ++ lines }) no_outputs)
    then on_closing (λ n. cond-false _ _ _ (ne_eqb (length lines) 0 (omega (arith, output_count.0, length-map s.outputs (number_of c)))))

ends : (c : Circuit) (end : Lexeme) (after : List Lexeme) (place : ℕ) → after_line end ≡ Some place
    → run outputs_end c (end ∷ after) ≡ Granted c place
ends c (LineEnd n) after place e = cc
ends c end after place e = cc

pub complete : (text : List ℕ) (c : Circuit) (place : ℕ) → Describes text c place → reading text ≡ Granted c place
complete text c place d =
    let s = d.source in
    let tail = d.end ∷ d.after in
    let placed = subst (λ (ms : List Written). Placed tail ms (d.front ++ tail)) d.front_is (placed_from d.front tail) in
    let led = source_leads s d.rules tail (d.front ++ tail) placed in
    cond-false _ _ _ (le-ltb 65536 (length text) d.size)
    ∙ ap (run inputs_line empty) d.text_is
    ∙ led.same
    ∙ ap (run outputs_end (stands_for s)) (none_left led.placed)
    ∙ ends (stands_for s) d.end d.after place d.ended
    ∙ ap (λ (e : Circuit). Granted e place) (sym d.circuit_is)

pub one_circuit : OneCircuit
one_circuit text c d place other_place f g =
    let p = complete text c place f in
    let q = complete text d other_place g in
    (cc, cc)
