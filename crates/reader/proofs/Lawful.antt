-- Every circuit that reading grants keeps the rules of circuits, and its text ends within the text that was read.
use Rattle.std.proofs.Common.{◌≡◌, ℕ, ◌+◌, ◌<◌, ◌≤◌, Bool, true, false, cond, eqb, ltb, leb, List, [], ◌∷◌, ◌++◌, length, is_some, Some, None, codes, Option, sym, refl, ap, ◌∙◌, subst, zero-add, arith}
use Rattle.std.specs.List.{AllByRecursion as All, list_all, list_any}
use Rattle.std.specs.Str.{bytes_eq}
use Rattle.std.proofs.ByRecursion.{All-weaker}
use Rattle.std.proofs.lemmas.List.{length_push}
use Rattle.std.proofs.lemmas.Bool.{and_from, not_from_false, ltb-false, leb-false, eqb-false, lt-ltb, le-leb, cond_both}
use Rattle.words.specs.Lexemes.{Lexeme, Opening, Closing, Word, LineEnd, TextEnd, Forbidden, lexemes}
use Rattle.words.specs.Spelling.{name_shape}
use Rattle.circuit.specs.declared.op.Op.{Op}
use Rattle.circuit.specs.Lawful.{each_after, new_output, lawful}
use Rattle.circuit.specs.Model.{Gate, Circuit, line_count, names, line_named}
use Rattle.circuit.specs.Ops.{op_named, fewest_operands, most_operands}
use Rattle.reader.specs.Reading.{Pending, Due, inputs_line, inputs_head, input_name, line_end, next_line, next_head, gate_name, gate_begin, operator, operand, gate_line_close, output_name, outputs_end}
use Rattle.reader.specs.Reading.{Outcome, Granted, Refused, Step, Go, Stop, taken, is_head, full, too_few, open_brackets, empty, run, step, reading}
use Rattle.reader.specs.Reading.{with_operand, with_input, with_output, with_name, last_named, made_gate, gate_made, operand_found, output_found, operator_found, word_step, opening_step, closing_step, feed_step, end_step}
use Rattle.reader.proofs.Ends.{EndsBy, lexemes_end}
use Rattle.reader.proofs.Rules.{Lined, is_named, lined_push, lined_named, lined_input, last_named_push, below, Below, found_below, all_push, all_below_more, each_after_push, line_names_push, line_named_push, length_line_names}

-- What is known of the circuit so far: while the inputs line is read, while gates are, and while outputs are.
record InputsRead (c : Circuit) : Type 0 where
  lined : Lined c.inputs c.gates
  no_gates : c.gates ≡ []
  no_outputs : c.outputs ≡ []

record GatesRead (c : Circuit) : Type 0 where
  lined : Lined c.inputs c.gates
  some_input : 1 ≤ length c.inputs
  no_outputs : c.outputs ≡ []

record OutputsRead (c : Circuit) : Type 0 where
  lined : Lined c.inputs c.gates
  some_input : 1 ≤ length c.inputs
  few_outputs : length c.outputs ≤ 64
  outputs_new : each_after (new_output (line_count c)) [] c.outputs ≡ true

-- A pending gate reads lines below that number, and has no more operands than its operator takes; one that waits for
-- a gate inside it has room for one more.
record Fitting (lines : ℕ) (p : Pending) : Type 0 where
  within : length p.operands ≤ most_operands p.op
  lower : list_all (below lines) p.operands ≡ true

record Roomy (lines : ℕ) (p : Pending) : Type 0 where
  room : length p.operands < most_operands p.op
  lower : list_all (below lines) p.operands ≡ true

abbrev unnamed : Pending → Gate
unnamed p = record { name = None; op = p.op; operands = p.operands }

record EndsUnnamed (gates : List Gate) : Type 0 where
  front : List Gate
  last : Pending
  is : gates ≡ front ++ (unnamed last ∷ [])

record GateBegun (c : Circuit) (name : List ℕ) : Type 0 where
  so_far : GatesRead c
  free : taken c name ≡ false

-- what is known of the circuit so far, by what is due
abbrev Kept : Due → Circuit → Type 0
Kept inputs_line c = InputsRead c
Kept inputs_head c = InputsRead c
Kept input_name c = InputsRead c
Kept line_end c = GatesRead c
Kept next_line c = GatesRead c
Kept next_head c = GatesRead c
Kept gate_name c = GatesRead c
Kept (gate_begin name) c = GateBegun c name
Kept (operator name pending) c = GateBegun c name × All (Roomy (line_count c)) pending
Kept (operand name inner pending) c = GateBegun c name × Fitting (line_count c) inner × All (Roomy (line_count c)) pending
Kept (gate_line_close name) c = GateBegun c name × EndsUnnamed c.gates
Kept output_name c = OutputsRead c
Kept outputs_end c = OutputsRead c × (1 ≤ length c.outputs)

-- a circuit is granted lawful, and with a rest that begins no later than that place
abbrev Right : ℕ → Outcome → Type 0
Right end (Granted c p) = (lawful c ≡ true) × (p ≤ end)
Right end (Refused r) = Unit {0}

abbrev After : ℕ → Step → Type 0
After end (Go next c) = Kept next c
After end (Stop o) = Right end o

-- a test that refuses where it is true
unless : (end : ℕ) (t : Bool) (x y : Step) → After end x → (t ≡ false → After end y) → After end (cond t x y)
unless end t x y refused kept = cond_both t x y (After end) (λ _. refused) kept

-- the rules hold once the outputs are read
all_rules : (c : Circuit) → OutputsRead c → 1 ≤ length c.outputs → lawful c ≡ true
all_rules c k some-output =
    and_from _ _ (and_from _ _ (le-leb _ _ k.some_input) (le-leb _ _ k.lined.few_inputs))
    (and_from _ _ (le-leb _ _ k.lined.few_lines)
    (and_from _ _ (and_from _ _ (le-leb _ _ some-output) (le-leb _ _ k.few_outputs))
    (and_from _ _ k.lined.gates_fit
    (and_from _ _ k.lined.names_apart k.outputs_new))))

-- one more input
kept_input : (c : Circuit) (word : List ℕ) → InputsRead c → taken c word ≡ false → length c.inputs < 64
    → InputsRead (with_input c word)
kept_input c word k free room = record {
  lined =
      subst (Lined (c.inputs ++ (word ∷ []))) (sym k.no_gates)
      (lined_input c.inputs word room
      (subst (λ (gates : List Gate). is_named c.inputs gates word ≡ false) k.no_gates free)
      (subst (Lined c.inputs) k.no_gates k.lined));
  no_gates = k.no_gates;
  no_outputs = k.no_outputs;
}

-- one more operand of a pending gate
kept_operand : (lines line : ℕ) (p : Pending) → line < lines → Roomy lines p → Fitting lines (with_operand p line)
kept_operand lines line p lt k = record {
  within = simp length_push (omega arith);
  lower = all_push (below lines) p.operands line k.lower (lt-ltb line lines lt);
}

roomy : (lines : ℕ) (p : Pending) → full p ≡ false → Fitting lines p → Roomy lines p
roomy lines p room k = record { room = leb-false (most_operands p.op) (length p.operands) room; lower = k.lower }

roomy_more : (lines more : ℕ) → lines ≤ more → (p : Pending) → Roomy lines p → Roomy more p
roomy_more lines more le p k = record { room = k.room; lower = all_below_more lines more p.operands le k.lower }

-- the innermost pending gate is made
module _ (c : Circuit) (name : List ℕ) (inner : Pending) where
  more_lines : line_count (made_gate c inner) ≡ line_count c + 1
  more_lines = simp length_push (omega arith)

  kept_made : GateBegun c name → Fitting (line_count c) inner → too_few inner ≡ false → leb 512 (line_count c) ≡ false
      → GateBegun (made_gate c inner) name
  kept_made k fit enough room = record {
    so_far = record {
      lined = lined_push c.inputs c.gates (unnamed inner) k.so_far.lined (record {
        room = leb-false 512 (line_count c) room;
        fits =
            and_from _ _
            (and_from _ _
            (le-leb _ _ (ltb-false (length inner.operands) (fewest_operands inner.op) enough))
            (le-leb _ _ fit.within))
            fit.lower;
        fresh = refl;
      });
      some_input = k.so_far.some_input;
      no_outputs = k.so_far.no_outputs;
    };
    free =
        ap is_some
        (ap (λ (lines : List (Option (List ℕ))). line_named lines name) (line_names_push c.inputs c.gates (unnamed inner))
        ∙ line_named_push (names c) name)
        ∙ k.free;
  }

  kept_gate : (end : ℕ) (pending : List Pending) → GateBegun (made_gate c inner) name → All (Roomy (line_count c)) pending
      → After end (gate_made (made_gate c inner) name (line_count c) pending)
  kept_gate end [] k around = (k, record { front = c.gates; last = inner; is = refl })
  kept_gate end (outer ∷ pending) k around =
      let more = more_lines in
      let wider = roomy_more (line_count c) (line_count (made_gate c inner)) (omega arith) in (
        k,
        kept_operand (line_count (made_gate c inner)) (line_count c) outer (omega arith) (wider outer around.0),
        All-weaker (Roomy (line_count c)) (Roomy (line_count (made_gate c inner))) wider pending around.1,
      )

-- the last gate gets the name that waits
kept_name : (c : Circuit) (name : List ℕ) → GateBegun c name → EndsUnnamed c.gates → GatesRead (with_name c name)
kept_name c name k ends =
    let last = unnamed ends.last in
    record {
      lined =
          subst (Lined c.inputs) (sym (ap (last_named name) ends.is ∙ last_named_push name ends.front last))
          (lined_named c.inputs ends.front last name refl
          (subst (λ (gates : List Gate). is_named c.inputs gates name ≡ false) ends.is k.free)
          (subst (Lined c.inputs) ends.is k.so_far.lined));
      some_input = k.so_far.some_input;
      no_outputs = k.so_far.no_outputs;
    }

-- the outputs line begins
no_outputs_yet : (c : Circuit) → GatesRead c → OutputsRead c
no_outputs_yet c k = record {
  lined = k.lined;
  some_input = k.some_input;
  few_outputs = subst (λ (outputs : List ℕ). length outputs ≤ 64) (sym k.no_outputs) (omega arith);
  outputs_new = subst (λ (outputs : List ℕ). each_after (new_output (line_count c)) [] outputs ≡ true) (sym k.no_outputs) refl;
}

-- one more output
kept_output : (c : Circuit) (line : ℕ) → OutputsRead c → line < line_count c → list_any (eqb line) c.outputs ≡ false
    → length c.outputs < 64 → OutputsRead (with_output c line)
kept_output c line k lt new room = record {
  lined = k.lined;
  some_input = k.some_input;
  few_outputs = simp length_push (omega arith);
  outputs_new =
      each_after_push (new_output (line_count c)) [] c.outputs line
      ∙ and_from _ _ k.outputs_new (and_from _ _ (lt-ltb line (line_count c) lt) (not_from_false _ new));
}

-- a name that is found is a line of the circuit
found_line : (c : Circuit) (word : List ℕ) → Below (line_count c) (line_named (names c) word)
found_line c word =
    subst (λ (lines : ℕ). Below lines (line_named (names c) word)) (length_line_names c.inputs c.gates) (found_below (names c) word)

kept_operand_found : (end : ℕ) (c : Circuit) (name : List ℕ) (inner : Pending) (pending : List Pending) (n : ℕ) (found : Option ℕ)
    → Kept (operand name inner pending) c → full inner ≡ false → Below (line_count c) found
    → After end (operand_found c name inner pending n found)
kept_operand_found end c name inner pending n None k room lt = tt
kept_operand_found end c name inner pending n (Some line) k room lt =
    (k.0, kept_operand (line_count c) line inner lt (roomy (line_count c) inner room k.1), k.2)

kept_output_found : (end : ℕ) (c : Circuit) (n : ℕ) (found : Option ℕ) → OutputsRead c → Below (line_count c) found
    → After end (output_found c n found)
kept_output_found end c n None k lt = tt
kept_output_found end c n (Some line) k lt =
    unless end (list_any (eqb line) c.outputs) _ _ tt
    (λ new. unless end (leb 64 (length c.outputs)) _ _ tt
    (λ room. kept_output c line k lt new (leb-false 64 (length c.outputs) room)))

kept_operator_found : (end : ℕ) (c : Circuit) (name : List ℕ) (pending : List Pending) (n : ℕ) (found : Option Op)
    → Kept (operator name pending) c → After end (operator_found c name pending n found)
kept_operator_found end c name pending n None k = tt
kept_operator_found end c name pending n (Some op) k = (k.0, record { within = omega arith; lower = refl }, k.1)

-- One step keeps what is known, by the kind of lexeme.
kept_word : (due : Due) (c : Circuit) (word : List ℕ) (n end : ℕ) → Kept due c → After end (word_step due c word n)
kept_word inputs_head c word n end k =
    cond_both (bytes_eq word (codes "inputs")) _ _ (After end) (λ _. k)
    (λ _. cond_both (is_head word) _ _ (After end) (λ _. tt) (λ _. tt))
kept_word input_name c word n end k =
    unless end (taken c word) _ _ tt
    (λ free. unless end (leb 64 (length c.inputs)) _ _ tt
    (λ room. kept_input c word k free (leb-false 64 (length c.inputs) room)))
kept_word next_head c word n end k =
    cond_both (bytes_eq word (codes "gate")) _ _ (After end) (λ _. k)
    (λ _. cond_both (bytes_eq word (codes "outputs")) _ _ (After end) (λ _. no_outputs_yet c k)
    (λ _. cond_both (is_head word) _ _ (After end) (λ _. tt) (λ _. tt)))
kept_word gate_name c word n end k = unless end (taken c word) _ _ tt (λ free. record { so_far = k; free = free })
kept_word (operator name pending) c word n end k = kept_operator_found end c name pending n (op_named word) k
kept_word (operand name inner pending) c word n end k =
    unless end (full inner) _ _ tt
    (λ room. kept_operand_found end c name inner pending n (line_named (names c) word) k room (found_line c word))
kept_word output_name c word n end k = kept_output_found end c n (line_named (names c) word) k (found_line c word)
kept_word due c word n end k = tt

kept_opening : (due : Due) (c : Circuit) (n end : ℕ) → Kept due c → After end (opening_step due c n)
kept_opening inputs_line c n end k = k
kept_opening next_line c n end k = k
kept_opening (gate_begin name) c n end k = (k, tt)
kept_opening (operand name inner pending) c n end k =
    unless end (full inner) _ _ tt (λ room. (k.0, (roomy (line_count c) inner room k.1, k.2)))
kept_opening due c n end k = tt

kept_closing : (due : Due) (c : Circuit) (n end : ℕ) → Kept due c → After end (closing_step due c n)
kept_closing input_name c n end k =
    unless end (eqb (length c.inputs) 0) _ _ tt
    (λ some_input.
    let not_None = eqb-false (length c.inputs) 0 some_input in
    record { lined = k.lined; some_input = omega arith; no_outputs = k.no_outputs })
kept_closing (operand name inner pending) c n end k =
    unless end (too_few inner) _ _ tt
    (λ enough. unless end (leb 512 (line_count c)) _ _ tt
    (λ room. kept_gate c name inner end pending (kept_made c name inner k.0 k.1 enough room) k.2))
kept_closing (gate_line_close name) c n end k = kept_name c name k.0 k.1
kept_closing output_name c n end k =
    unless end (eqb (length c.outputs) 0) _ _ tt
    (λ some-output. let not_None = eqb-false (length c.outputs) 0 some-output in (k, omega arith))
kept_closing due c n end k = tt

kept_feed : (due : Due) (c : Circuit) (n end : ℕ) → n + 1 ≤ end → Kept due c → After end (feed_step due c n)
kept_feed line_end c n end le k = k
kept_feed outputs_end c n end le k = (all_rules c k.0 k.1, le)
kept_feed due c n end le k = tt

kept_end : (due : Due) (c : Circuit) (n end : ℕ) → n ≤ end → Kept due c → After end (end_step due c n)
kept_end outputs_end c n end le k = (all_rules c k.0 k.1, le)
kept_end due c n end le k = tt

kept_step : (due : Due) (c : Circuit) (t : Lexeme) (end : ℕ) → EndsBy end t → Kept due c → After end (step due c t)
kept_step due c (Forbidden n) end le k = tt
kept_step due c (Word word n) end le k = cond_both (name_shape word) _ _ (After end) (λ _. kept_word due c word n end k) (λ _. tt)
kept_step due c (Opening n) end le k = unless end (leb 8 (open_brackets due)) _ _ tt (λ _. kept_opening due c n end k)
kept_step due c (Closing n) end le k = kept_closing due c n end k
kept_step due c (LineEnd n) end le k = kept_feed due c n end le k
kept_step due c (TextEnd n) end le k = kept_end due c n end le k

-- from any step on, what the rest of the lexemes leads to is right
kept_run : (end : ℕ) (ts : List Lexeme) (due : Due) (c : Circuit) → All (EndsBy end) ts → Kept due c → Right end (run due c ts)
kept_run end [] due c ends k = tt
kept_run end (t ∷ ts) due c ends k = go (step due c t) (kept_step due c t end ends.0 k) (λ next d. kept_run end ts next d ends.1)
  where
    go : (s : Step) → After end s → ((next : Due) (d : Circuit) → Kept next d → Right end (run next d ts))
        → Right end (elim s [ Go next d ↦ run next d ts | Stop o ↦ o ])
    go (Go next d) kept rest = rest next d kept
    go (Stop o) right rest = right

right_reading : (text : List ℕ) → Right (length text) (reading text)
right_reading text =
    cond_both (ltb 65536 (length text)) _ _ (Right (length text)) (λ _. tt)
    (λ _. kept_run (length text) (lexemes 0 text) inputs_line empty
    (subst (λ (end : ℕ). All (EndsBy end) (lexemes 0 text)) (zero-add (length text)) (lexemes_end 0 text))
    (record {
      lined = record { few_inputs = omega arith; few_lines = omega arith; gates_fit = refl; names_apart = refl };
      no_gates = refl;
      no_outputs = refl;
    }))

granted_right : (text : List ℕ) (c : Circuit) (p : ℕ) → reading text ≡ Granted c p → Right (length text) (Granted c p)
granted_right text c p e = subst (Right (length text)) e (right_reading text)

-- a circuit that is granted keeps every rule
pub granted_lawful : (text : List ℕ) (c : Circuit) (p : ℕ) → reading text ≡ Granted c p → lawful c ≡ true
granted_lawful text c p e = (granted_right text c p e).0

-- the rest begins within the text
pub reading_short : (text : List ℕ) (c : Circuit) (p : ℕ) → reading text ≡ Granted c p → p ≤ length text
reading_short text c p e = (granted_right text c p e).1
