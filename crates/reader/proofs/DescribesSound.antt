-- Each text that is read as a circuit describes it.
use Rattle.std.proofs.Common.{◌≡◌, ℕ, suc, ◌<◌, ◌≤◌, Bool, true, false, cond, eqb, ltb, leb, ◌⊎◌, List, [], ◌∷◌, ◌++◌, map, length, is_some, Some, None, codes, Option, unwrap_or, sym, refl, ap, ◌∙◌, subst, inl, inr, ⊎_elim, append_assoc, append-nil, arith}
use Rattle.std.specs.Str.{bytes_eq}
use Rattle.std.proofs.lemmas.Slice.Eq.{bytes_eq-Decides}
use Rattle.std.proofs.lemmas.List.{length_push, map_push}
use Rattle.std.proofs.lemmas.Bool.{and_from, leb-false, ltb-false, eqb-false, not_from_false}
use Rattle.refusals.specs.declared.cause.Refusal.{Refusal}
use Rattle.words.specs.Lexemes.{Lexeme, Opening, Closing, Word, LineEnd, TextEnd, Forbidden, lexemes}
use Rattle.std.specs.List.{list_any}
use Rattle.words.specs.Spelling.{name_shape}
use Rattle.circuit.specs.declared.op.Op.{Op}
use Rattle.circuit.specs.declared.op.Op.TheVariants.{And, Nand, Or, Nor, Xor, Xnor, Not, Buf}
use Rattle.circuit.specs.Ops.{op_named, fewest_operands, most_operands, op_word}
use Rattle.circuit.specs.Model.{Gate, Circuit, line_count, names, line_named}
use Rattle.circuit.specs.Lawful.{each_after, unclaimed}
use Rattle.reader.specs.Reading.{Due, Pending, inputs_line, inputs_head, input_name, line_end, next_line, next_head, gate_name, gate_begin, operator, operand, gate_line_close, output_name, outputs_end}
use Rattle.reader.specs.Reading.{Outcome, Granted, Refused, Step, Stop, step, run, reading, empty, open_brackets, taken, full, too_few, is_head, resumed}
use Rattle.reader.specs.Reading.{with_input, with_output, with_operand, with_name, made_gate, gate_made, operand_found, operator_found, output_found, word_step, opening_step, closing_step, feed_step, end_step}
use Rattle.reader.specs.Describes.{opening, word, none, name_then, gate_then, GateLine, GateLineRules, Source, Describes}
use Rattle.reader.specs.Describes.{known, number_of, made, with_gate_line, inputs_alone, all_lines, operand_count, unlisted}
use Rattle.reader.proofs.DescribesPlaces.{Placed, placed_none, placed_opening, placed_closing, placed_word, placed_feed, front_of, refused_not_granted, run_step}
use Rattle.reader.proofs.DescribesLines.{one_first, behind, between_from, line_adds, same_outputs_all, right_name, right_gate}
use Rattle.reader.proofs.DescribesLeft.{First, Ended, OutputsLeft, LinesLeft, InputsLeft, GateLeft, OutsideLeft, OperandLeft, OperatorLeft, NameLeft, Left}
use Rattle.reader.proofs.Rules.{last_named_push}

-- only its own word names an operator
op_from : (w : List ℕ) (o op : Op) (others : Option Op) → (others ≡ Some op → w ≡ op_word op)
    → cond (bytes_eq w (op_word o)) (Some o) others ≡ Some op → w ≡ op_word op
op_from w o op others other e = chosen (bytes_eq w (op_word o)) refl e
  where
    chosen : (b : Bool) → bytes_eq w (op_word o) ≡ b → cond b (Some o) others ≡ Some op → w ≡ op_word op
    chosen true f g = let h : o ≡ op = cc in (bytes_eq-Decides w (op_word o)).0 f ∙ ap op_word h
    chosen false f g = other g

word_of_op : (w : List ℕ) (op : Op) → op_named w ≡ Some op → w ≡ op_word op
word_of_op w op =
    op_from w And op _ (op_from w Nand op _ (op_from w Or op _ (op_from w Nor op _
    (op_from w Xor op _ (op_from w Xnor op _ (op_from w Not op _ (op_from w Buf op None (λ e. cc))))))))

module _ (d : Circuit) (place : ℕ) where
  -- Reading that ends with a circuit takes no step that refuses.
  dead : {X : Type 0} {r : Refusal} → Refused r ≡ Granted d place → X
  dead e = absurd (refused_not_granted e)

  avoids : (b : Bool) (r : Refusal) (s : Step) (ts : List Lexeme) → resumed (cond b (Stop (Refused r)) s) ts ≡ Granted d place
      → (b ≡ false) × (resumed s ts ≡ Granted d place)
  avoids true r s ts e = dead e
  avoids false r s ts e = (refl, e)

  meets : (b : Bool) (s : Step) (r : Refusal) (ts : List Lexeme) → resumed (cond b s (Stop (Refused r))) ts ≡ Granted d place
      → (b ≡ true) × (resumed s ts ≡ Granted d place)
  meets true s r ts e = (refl, e)
  meets false s r ts e = dead e

  splits : (b : Bool) (s t : Step) (ts : List Lexeme) → resumed (cond b s t) ts ≡ Granted d place
      → ((b ≡ true) × (resumed s ts ≡ Granted d place)) ⊎ ((b ≡ false) × (resumed t ts ≡ Granted d place))
  splits true s t ts e = inl (refl, e)
  splits false s t ts e = inr (refl, e)

  -- what holds of the lexemes behind one, wherever reading stands then
  abbrev Later : List Lexeme → Type 0
  Later ts = (due : Due) (c : Circuit) → run due c ts ≡ Granted d place → Left d place due c ts

  -- Inputs

  module _ (before : List (List ℕ)) (n : ℕ) (ts : List Lexeme) (later : Later ts) where
    input_more : (w : List ℕ) → name_shape w ≡ true → resumed (word_step input_name (inputs_alone before) w n) ts ≡ Granted d place
        → InputsLeft d place before (Word w n ∷ ts)
    input_more w shape e =
        let Names = List (Option (List ℕ)) in
        let untaken = avoids (taken (inputs_alone before) w) _ _ ts e in
        let room = avoids (leb 64 (length before)) _ _ ts untaken.1 in
        let more = later input_name (with_input (inputs_alone before) w) room.1 (before ++ (w ∷ [])) refl in
        let free = ap (λ (ns : Names). is_some (line_named ns w)) (sym (append-nil (map Some before))) ∙ untaken.0 in
        let new = ap (λ (ns : Names). each_after unclaimed ns (map Some more.inputs)) (sym (map_push Some before w)) ∙ more.new in
        record {
          inputs = w ∷ more.inputs;
          left = more.left;
          front = λ rest ms p. placed_word w n (more.front rest ms p);
          shaped = and_from _ _ shape more.shaped;
          new = and_from _ _ (not_from_false _ free) new;
          few = omega (arith, leb-false 64 (length before) room.0, length_push before w, more.few);
          any = omega arith;
          lines = subst (λ (ws : List (List ℕ)). LinesLeft d place (inputs_alone ws) more.left) (append_assoc before (w ∷ []) more.inputs) more.lines;
        }

    inputs_close : resumed (closing_step input_name (inputs_alone before) n) ts ≡ Granted d place → InputsLeft d place before (Closing n ∷ ts)
    inputs_close e =
        let any = avoids (eqb (length before) 0) _ _ ts e in
        let more = later line_end (inputs_alone before) any.1 in
        record {
          inputs = [];
          left = more.0;
          front = λ rest ms p. placed_closing n (more.1 rest ms p);
          shaped = refl;
          new = refl;
          few = omega arith;
          any = omega (arith, eqb-false (length before) 0 any.0);
          lines = subst (λ (ws : List (List ℕ)). LinesLeft d place (inputs_alone ws) more.0) (sym (append-nil before)) more.2;
        }

  -- Outputs

  module _ (c : Circuit) (n : ℕ) (ts : List Lexeme) (later : Later ts) where
    abbrev listing : List ℕ → Circuit
    listing os = record { inputs = c.inputs; gates = c.gates; outputs = os }

    output_more : (w : List ℕ) → name_shape w ≡ true → (found : Option ℕ) → line_named (names c) w ≡ found
        → resumed (output_found c n found) ts ≡ Granted d place → OutputsLeft d place c (Word w n ∷ ts)
    output_more w shape None is_found e = dead e
    output_more w shape (Some line) is_found e =
        let new = avoids (list_any (eqb line) c.outputs) _ _ ts e in
        let room = avoids (leb 64 (length c.outputs)) _ _ ts new.1 in
        let more = later output_name (with_output c line) room.1 in
        let lines = map (number_of c) more.outputs in
        let is-line : line ≡ number_of c w = ap (λ (o : Option ℕ). unwrap_or o 0) (sym is_found) in
        let listed = append_assoc c.outputs (line ∷ []) lines ∙ ap (λ (l : ℕ). c.outputs ++ (l ∷ lines)) is-line in
        record {
          outputs = w ∷ more.outputs;
          left = more.left;
          front = λ rest ms p. placed_word w n (more.front rest ms p);
          shaped = and_from _ _ shape more.shaped;
          known_names = and_from _ _ (ap is_some is_found) more.known_names;
          new =
              subst (λ (l : ℕ). each_after unlisted c.outputs (l ∷ lines) ≡ true) is-line
              (and_from _ _ (not_from_false _ new.0) more.new);
          few = omega (arith, leb-false 64 (length c.outputs) room.0, length_push c.outputs line, more.few);
          any = omega arith;
          ended = subst (λ (os : List ℕ). Ended d place (listing os) more.left) listed more.ended;
        }

    outputs_close : resumed (closing_step output_name c n) ts ≡ Granted d place → OutputsLeft d place c (Closing n ∷ ts)
    outputs_close e =
        let any = avoids (eqb (length c.outputs) 0) _ _ ts e in
        record {
          outputs = [];
          left = ts;
          front = λ rest ms p. placed_closing n p;
          shaped = refl;
          known_names = refl;
          new = refl;
          few = omega arith;
          any = omega (arith, eqb-false (length c.outputs) 0 any.0);
          ended = subst (λ (os : List ℕ). Ended d place (listing os) ts) (sym (append-nil c.outputs)) (later outputs_end c any.1);
        }

  -- Gates

  module _ (Outside : Circuit → ℕ → List Lexeme → Type 0) (depth : ℕ) (gate : Pending) (c : Circuit) (unfull : full gate ≡ false) (n : ℕ) (ts : List Lexeme) where
    abbrev GateLeftHere : Circuit → ℕ → List Lexeme → Type 0
    GateLeftHere b line = GateLeft d place Outside depth (with_operand gate line) b

    name_more : (w : List ℕ) → name_shape w ≡ true → known c w ≡ true → GateLeftHere c (number_of c w) ts
        → GateLeft d place Outside depth gate c (Word w n ∷ ts)
    name_more w shape is_known more =
        let line = number_of c w in
        let after = made c more.operands in
        let push = length_push gate.operands line in
        record {
          operands = name_then w more.operands;
          left = more.left;
          front = λ rest ms p. placed_word w n (more.front rest ms p);
          right = right_name c depth w more.operands (record { shaped = shape; is_known = is_known; after = more.right });
          enough = omega (arith, more.enough);
          few = omega (arith, more.few, leb-false _ _ unfull);
          room = more.room;
          outside =
              subst (λ (p : Pending). Outside (made_gate after.circuit p) (line_count after.circuit) more.left)
              (one_first gate line after.lines) more.outside;
        }

    gate_more : depth < 6 → (op : Op) → First (word (op_word op) ∷ []) (GateLeft d place GateLeftHere (suc depth) (record { op = op; operands = [] }) c) ts
        → GateLeft d place Outside depth gate c (Opening n ∷ ts)
    gate_more shallow op first =
        let within = first.2 in
        let inner = within.operands in
        let line = line_count (made c inner).circuit in
        let more = within.outside in
        let after = made (behind c op inner) more.operands in
        let push = length_push gate.operands line in
        let count = between_from (fewest_operands op) (most_operands op) (operand_count inner) (omega (arith, within.enough)) (omega (arith, within.few)) in
        record {
          operands = gate_then op inner more.operands;
          left = more.left;
          front = λ rest ms p. placed_opening n (first.1 rest _ (within.front rest _ (more.front rest ms p)));
          right = right_gate c depth op inner more.operands (record { count = count; shallow = shallow; within = within.right; after = more.right });
          enough = omega (arith, more.enough);
          few = omega (arith, more.few, leb-false _ _ unfull);
          room = more.room;
          outside =
              subst (λ (p : Pending). Outside (made_gate after.circuit p) (line_count after.circuit) more.left)
              (one_first gate line after.lines) more.outside;
        }

  gate_close : (name : List ℕ) (gate : Pending) (pending : List Pending) (c : Circuit) (n : ℕ) (ts : List Lexeme) → Later ts
      → resumed (closing_step (operand name gate pending) c n) ts ≡ Granted d place → OperandLeft d place name gate pending c (Closing n ∷ ts)
  gate_close name gate pending c n ts later e =
      let enough = avoids (too_few gate) _ _ ts e in
      let room = avoids (leb 512 (line_count c)) _ _ ts enough.1 in
      record {
        operands = none;
        left = ts;
        front = λ rest ms p. placed_closing n p;
        right = record { shaped = refl; known_names = refl; take = refl; nest = omega arith };
        enough = omega (arith, ltb-false _ _ enough.0);
        few = omega arith;
        room = leb-false 512 (line_count c) room.0;
        outside =
            subst (λ (os : List ℕ). OutsideLeft d place name pending (made_gate c (record { op = gate.op; operands = os })) (line_count c) ts)
            (sym (append-nil gate.operands)) (outside pending room.1);
      }
    where
      outside : (around : List Pending) → resumed (gate_made (made_gate c gate) name (line_count c) around) ts ≡ Granted d place
          → OutsideLeft d place name around (made_gate c gate) (line_count c) ts
      outside [] f = later (gate_line_close name) (made_gate c gate) f
      outside (outer ∷ around) f = later (operand name (with_operand outer (line_count c)) around) (made_gate c gate) f

  -- Lines

  module _ (c : Circuit) (n : ℕ) (ts : List Lexeme) where
    gate_line_more : First (word (codes "gate") ∷ []) (NameLeft d place c) ts → LinesLeft d place c (Opening n ∷ ts)
    gate_line_more head =
        let name = head.2.0 in
        let named = head.2.3 in
        let op = named.2.0 in
        let operated = named.2.1 in
        let inside = operated.2 in
        let closed = inside.outside in
        let g : GateLine = record { name = name; op = op; operands = inside.operands } in
        let within = made c inside.operands in
        let more : LinesLeft d place (with_gate_line c g) closed.0 =
        subst (λ (gs : List Gate). LinesLeft d place (record { inputs = within.circuit.inputs; gates = gs; outputs = within.circuit.outputs }) closed.0)
        (last_named_push name within.circuit.gates (record { name = None; op = op; operands = within.lines })) closed.2 in
        let rules : GateLineRules c g = record {
          name_shaped = head.2.1;
          name_new = head.2.2;
          names_shaped = inside.right.shaped;
          names_known = inside.right.known_names;
          own_count = between_from (fewest_operands op) (most_operands op) _ (omega (arith, inside.enough)) (omega (arith, inside.few));
          inner_counts = inside.right.take;
          brackets = omega (arith, inside.right.nest);
        } in
        record {
          gates = g ∷ more.gates;
          left = more.left;
          front = λ rest ms p.
              placed_opening n (head.1 rest _ (named.1 rest _ (operated.1 rest _ (inside.front rest _ (closed.1 rest _ (more.front rest ms p))))));
          rules = (rules, more.rules);
          limit = λ before. more.limit (omega (arith, line_adds c g, inside.room));
          outputs = more.outputs;
        }

    outputs_line_more : First (word (codes "outputs") ∷ []) (OutputsLeft d place c) ts → LinesLeft d place c (Opening n ∷ ts)
    outputs_line_more head = record {
      gates = [];
      left = head.0;
      front = λ rest ms p. placed_opening n (head.1 rest ms p);
      rules = tt;
      limit = λ before. before;
      outputs = head.2;
    }

  -- One lexeme, wherever reading stands

  -- a word that is the one due
  the_word : {Kind : List Lexeme → Type 0} (w v : List ℕ) (n : ℕ) (ts : List Lexeme) → w ≡ v → Kind ts → First (word v ∷ []) Kind (Word w n ∷ ts)
  the_word w v n ts same kind =
      (ts, (λ rest ms p. subst (λ (u : List ℕ). Placed rest (word u ∷ ms) (Word w n ∷ ts)) same (placed_word w n p)), kind)

  -- a head that is the one due, or another way to go on
  the_head : {X : Type 0} (w v : List ℕ) (s t : Step) (ts : List Lexeme) → resumed (cond (bytes_eq w v) s t) ts ≡ Granted d place
      → (w ≡ v → resumed s ts ≡ Granted d place → X) → (resumed t ts ≡ Granted d place → X) → X
  the_head w v s t ts e this other =
      ⊎_elim (λ same. this ((bytes_eq-Decides w v).0 same.0) same.1) (λ differs. other differs.1) (splits (bytes_eq w v) s t ts e)

  no_head : {X : Type 0} (b : Bool) (r q : Refusal) (ts : List Lexeme) → resumed (cond b (Stop (Refused r)) (Stop (Refused q))) ts ≡ Granted d place → X
  no_head b r q ts e = dead (avoids b r (Stop (Refused q)) ts e).1

  operand_named : (name : List ℕ) (gate : Pending) (pending : List Pending) (c : Circuit) (w : List ℕ) (n : ℕ) (ts : List Lexeme)
      → Later ts → name_shape w ≡ true → full gate ≡ false → (found : Option ℕ) → line_named (names c) w ≡ found
      → resumed (operand_found c name gate pending n found) ts ≡ Granted d place → OperandLeft d place name gate pending c (Word w n ∷ ts)
  operand_named name gate pending c w n ts later shape unfull None is_found e = dead e
  operand_named name gate pending c w n ts later shape unfull (Some line) is_found e =
      name_more (OutsideLeft d place name pending) (length pending) gate c unfull n ts w shape (ap is_some is_found)
      (subst (λ (l : ℕ). OperandLeft d place name (with_operand gate l) pending c ts) (ap (λ (o : Option ℕ). unwrap_or o 0) (sym is_found))
      (later (operand name (with_operand gate line) pending) c e))

  operator_named : (name : List ℕ) (pending : List Pending) (c : Circuit) (w : List ℕ) (n : ℕ) (ts : List Lexeme)
      → Later ts → (found : Option Op) → op_named w ≡ found
      → resumed (operator_found c name pending n found) ts ≡ Granted d place → OperatorLeft d place name pending c (Word w n ∷ ts)
  operator_named name pending c w n ts later None is_found e = dead e
  operator_named name pending c w n ts later (Some op) is_found e =
      (op, the_word w (op_word op) n ts (word_of_op w op is_found) (later (operand name (record { op = op; operands = [] }) pending) c e))

  word_sound : (due : Due) (c : Circuit) (w : List ℕ) (n : ℕ) (ts : List Lexeme) → Later ts → name_shape w ≡ true
      → resumed (word_step due c w n) ts ≡ Granted d place → Left d place due c (Word w n ∷ ts)
  word_sound inputs_head c w n ts later shape e = λ before alone.
      the_head w (codes "inputs") _ _ ts e
      (λ same f. the_word w (codes "inputs") n ts same (later input_name c f before alone))
      (λ f. no_head (is_head w) _ _ ts f)
  word_sound input_name c w n ts later shape e = λ before alone.
      input_more before n ts later w shape (subst (λ (b : Circuit). resumed (word_step input_name b w n) ts ≡ Granted d place) alone e)
  word_sound next_head c w n ts later shape e =
      the_head w (codes "gate") _ _ ts e
      (λ same f. inl (the_word w (codes "gate") n ts same (later gate_name c f)))
      (λ f. the_head w (codes "outputs") _ _ ts f
      (λ same g. inr (the_word w (codes "outputs") n ts same (later output_name c g)))
      (λ g. no_head (is_head w) _ _ ts g))
  word_sound gate_name c w n ts later shape e =
      let new = avoids (taken c w) _ _ ts e in
      let more = later (gate_begin w) c new.1 in
      (w, shape, new.0, (more.0, (λ rest ms p. placed_word w n (more.1 rest ms p)), more.2))
  word_sound (operator name pending) c w n ts later shape e = operator_named name pending c w n ts later (op_named w) refl e
  word_sound (operand name gate pending) c w n ts later shape e =
      let unfull = avoids (full gate) _ _ ts e in
      operand_named name gate pending c w n ts later shape unfull.0 (line_named (names c) w) refl unfull.1
  word_sound output_name c w n ts later shape e = output_more c n ts later w shape (line_named (names c) w) refl e
  word_sound due c w n ts later shape e = dead e

  opening_sound : (due : Due) (c : Circuit) (n : ℕ) (ts : List Lexeme) → Later ts → open_brackets due < 8
      → resumed (opening_step due c n) ts ≡ Granted d place → Left d place due c (Opening n ∷ ts)
  opening_sound inputs_line c n ts later shallow e = λ before alone.
      let more = later inputs_head c e before alone in
      (more.0, (λ rest ms p. placed_opening n (more.1 rest ms p)), more.2)
  opening_sound next_line c n ts later shallow e = ⊎_elim (gate_line_more c n ts) (outputs_line_more c n ts) (later next_head c e)
  opening_sound (gate_begin name) c n ts later shallow e = (ts, (λ rest ms p. placed_opening n p), later (operator name []) c e)
  opening_sound (operand name gate pending) c n ts later shallow e =
      let unfull = avoids (full gate) _ _ ts e in
      let more = later (operator name (gate ∷ pending)) c unfull.1 in
      gate_more (OutsideLeft d place name pending) (length pending) gate c unfull.0 n ts (omega (arith, shallow)) more.0 more.1
  opening_sound due c n ts later shallow e = dead e

  closing_sound : (due : Due) (c : Circuit) (n : ℕ) (ts : List Lexeme) → Later ts
      → resumed (closing_step due c n) ts ≡ Granted d place → Left d place due c (Closing n ∷ ts)
  closing_sound input_name c n ts later e = λ before alone.
      inputs_close before n ts later (subst (λ (b : Circuit). resumed (closing_step input_name b n) ts ≡ Granted d place) alone e)
  closing_sound (operand name gate pending) c n ts later e = gate_close name gate pending c n ts later e
  closing_sound (gate_line_close name) c n ts later e =
      let more = later line_end (with_name c name) e in
      (more.0, (λ rest ms p. placed_closing n (more.1 rest ms p)), more.2)
  closing_sound output_name c n ts later e = outputs_close c n ts later e
  closing_sound due c n ts later e = dead e

  feed_sound : (due : Due) (c : Circuit) (n : ℕ) (ts : List Lexeme) → Later ts
      → resumed (feed_step due c n) ts ≡ Granted d place → Left d place due c (LineEnd n ∷ ts)
  feed_sound line_end c n ts later e = (ts, (λ rest ms p. placed_feed n p), later next_line c e)
  feed_sound outputs_end c n ts later e = record { end = LineEnd n; after = ts; whole = refl; ended = cc; circuit = cc }
  feed_sound due c n ts later e = dead e

  end_sound : (due : Due) (c : Circuit) (n : ℕ) (ts : List Lexeme)
      → resumed (end_step due c n) ts ≡ Granted d place → Left d place due c (TextEnd n ∷ ts)
  end_sound outputs_end c n ts e = record { end = TextEnd n; after = ts; whole = refl; ended = cc; circuit = cc }
  end_sound due c n ts e = dead e

  step_sound : (t : Lexeme) (due : Due) (c : Circuit) (ts : List Lexeme) → Later ts
      → resumed (step due c t) ts ≡ Granted d place → Left d place due c (t ∷ ts)
  step_sound (Word w n) due c ts later e =
      let shape = meets (name_shape w) _ _ ts e in
      word_sound due c w n ts later shape.0 shape.1
  step_sound (Opening n) due c ts later e =
      let shallow = avoids (leb 8 (open_brackets due)) _ _ ts e in
      opening_sound due c n ts later (leb-false 8 (open_brackets due) shallow.0) shallow.1
  step_sound (Closing n) due c ts later e = closing_sound due c n ts later e
  step_sound (LineEnd n) due c ts later e = feed_sound due c n ts later e
  step_sound (TextEnd n) due c ts later e = end_sound due c n ts e
  step_sound (Forbidden n) due c ts later e = dead e

  run_sound : (ts : List Lexeme) → Later ts
  run_sound [] due c e = dead e
  run_sound (t ∷ ts) due c e = step_sound t due c ts (run_sound ts) (sym (run_step due c t ts) ∙ e)

  unrefused : (b : Bool) (r : Refusal) (o : Outcome) → cond b (Refused r) o ≡ Granted d place → (b ≡ false) × (o ≡ Granted d place)
  unrefused true r o e = dead e
  unrefused false r o e = (refl, e)

  -- a whole source is left at the beginning of a text
  from_start : (text : List ℕ) → length text ≤ 65536 → First (opening ∷ (word (codes "inputs") ∷ [])) (InputsLeft d place []) (lexemes 0 text)
      → Describes text d place
  from_start text size start =
      let inputs = start.2 in
      let lines = inputs.lines in
      let outputs = lines.outputs in
      let ended = outputs.ended in
      let source : Source = record { inputs = inputs.inputs; gates = lines.gates; outputs = outputs.outputs } in
      let c = all_lines source in
      let output-lines = map (number_of c) outputs.outputs in
      let no_outputs = same_outputs_all lines.gates (inputs_alone inputs.inputs) in
      let none-listed = ap (λ (os : List ℕ). length os) no_outputs in
      let tail = ended.end ∷ ended.after in
      let placed : Placed tail [] outputs.left = subst (λ (ts : List Lexeme). Placed tail [] ts) (sym ended.whole) placed_none in
      let found = front_of (start.1 tail _ (inputs.front tail _ (lines.front tail _ (outputs.front tail [] placed)))) in
      record {
        size = size;
        source = source;
        rules = record {
          input_count = between_from 1 64 (length inputs.inputs) (omega (arith, inputs.any)) (omega (arith, inputs.few));
          inputs_shaped = inputs.shaped;
          inputs_new = inputs.new;
          gate_lines = lines.rules;
          line_limit = lines.limit (omega (arith, inputs.few));
          output_count = between_from 1 64 (length outputs.outputs) (omega (arith, outputs.any, none-listed)) (omega (arith, outputs.few));
          outputs_shaped = outputs.shaped;
          outputs_known = outputs.known_names;
          no_line_twice = ap (λ (os : List ℕ). each_after unlisted os output-lines) (sym no_outputs) ∙ outputs.new;
        };
        circuit_is = ended.circuit ∙ ap (λ (os : List ℕ). record { inputs = c.inputs; gates = c.gates; outputs = os ++ output-lines }) no_outputs;
        front = found.front;
        end = ended.end;
        after = ended.after;
        text_is = found.whole;
        front_is = found.words;
        ended = ended.ended;
      }

pub sound : (text : List ℕ) (c : Circuit) (place : ℕ) → reading text ≡ Granted c place → Describes text c place
sound text c place e =
    let size = unrefused c place (ltb 65536 (length text)) _ (run inputs_line empty (lexemes 0 text)) e in
    from_start c place text (ltb-false 65536 (length text) size.0) (run_sound c place (lexemes 0 text) inputs_line empty size.1 [] refl)
