-- Lines of a circuit: how the gates of a line change their names and their number.
use Rattle.std.proofs.Common.{◌≡◌, ℕ, suc, ◌-◌, ◌<◌, ◌≤◌, Bool, true, leb, List, [], ◌∷◌, ◌++◌, map, length, is_some, Some, None, Option, unwrap_or, true≢false, sym, refl, ap, ◌∙◌, append_assoc, arith}
use mathlib.Core.Path.{fun_ext}
use Rattle.std.proofs.lemmas.List.{length_push}
use Rattle.std.proofs.lemmas.Bool.{and_parts, and_from, leb-true, le-leb}
use Rattle.std.specs.List.{list_all}
use Rattle.std.proofs.lemmas.List.Folds.{list_all-append}
use Rattle.words.specs.Spelling.{name_shape}
use Rattle.circuit.specs.declared.op.Op.{Op}
use Rattle.circuit.specs.declared.op.Op.TheVariants.{And}
use Rattle.circuit.specs.Ops.{op_named, op_word}
use Rattle.circuit.specs.Model.{Gate, Circuit, line_count, names, line_named}
use Rattle.circuit.specs.Lawful.{between}
use Rattle.reader.specs.Reading.{Pending, with_gate, with_operand}
use Rattle.reader.specs.Describes.{Operands, none, name_then, gate_then, GateLine, known, number_of, made, with_gate_line, with_gate_lines, names_in, gates_take, takes, nesting, operand_count}
use Rattle.reader.proofs.Rules.{line_named_push, line_names_push}

-- The words of operators are well shaped, and name them.
pub op_shaped : (op : Op) → name_shape (op_word op) ≡ true
op_shaped And = refl
op_shaped op = refl

pub op_known : (op : Op) → op_named (op_word op) ≡ Some op
op_known And = refl
op_known op = refl

-- Names

pub number_known : (o : Option ℕ) → is_some o ≡ true → o ≡ Some (unwrap_or o 0)
number_known (Some line) e = refl
number_known None e = absurd (true≢false (sym e))

-- the circuit behind a gate that is an operand of another
abbrev pub behind : Circuit → Op → Operands → Circuit
behind c op inner = with_gate (made c inner).circuit (record { name = None; op = op; operands = (made c inner).lines })

-- a gate without a name changes the line of no name
same_lines_unnamed : (c : Circuit) (op : Op) (os : List ℕ) (w : List ℕ) → line_named (names (with_gate c (record { name = None; op = op; operands = os }))) w ≡ line_named (names c) w
same_lines_unnamed c op os w =
    ap (λ (ns : List (Option (List ℕ))). line_named ns w) (line_names_push c.inputs c.gates (record { name = None; op = op; operands = os }))
    ∙ line_named_push (names c) w

pub same_lines : (a : Operands) (c : Circuit) (w : List ℕ) → line_named (names (made c a).circuit) w ≡ line_named (names c) w
same_lines none c w = refl
same_lines (name_then v more) c w = same_lines more c w
same_lines (gate_then op inner more) c w =
    same_lines more (behind c op inner) w
    ∙ (same_lines_unnamed (made c inner).circuit op (made c inner).lines w ∙ same_lines inner c w)

-- the same names are known behind a gate that is an operand
pub same_known : (c : Circuit) (op : Op) (inner : Operands) (ws : List (List ℕ)) → list_all (known (behind c op inner)) ws ≡ list_all (known c) ws
same_known c op inner ws =
    ap (λ (k : List ℕ → Bool). list_all k ws)
    (fun_ext (λ (w : List ℕ). ap is_some (same_lines_unnamed (made c inner).circuit op (made c inner).lines w ∙ same_lines inner c w)))

-- Counts

pub between_parts : (low high n : ℕ) → between low high n ≡ true → (low ≤ n) × (n ≤ high)
between_parts low high n e =
    let parts = and_parts (leb low n) (leb n high) e in
    (leb-true low n parts.0, leb-true n high parts.1)

pub between_from : (low high n : ℕ) → low ≤ n → n ≤ high → between low high n ≡ true
between_from low high n h k = and_from (leb low n) (leb n high) (le-leb low n h) (le-leb n high k)

pub a_line_each : (a : Operands) (c : Circuit) → length (made c a).lines ≡ operand_count a
a_line_each none c = refl
a_line_each (name_then w more) c = ap suc (a_line_each more c)
a_line_each (gate_then op inner more) c = ap suc (a_line_each more (behind c op inner))

pub one_line_more : (c : Circuit) (g : Gate) → line_count (with_gate c g) ≡ suc (line_count c)
one_line_more c g = omega (arith, length_push c.gates g)

pub behind_adds : (c : Circuit) (op : Op) (inner : Operands) → line_count (behind c op inner) ≡ suc (line_count (made c inner).circuit)
behind_adds c op inner = one_line_more (made c inner).circuit (record { name = None; op = op; operands = (made c inner).lines })

pub lines_grow : (a : Operands) (c : Circuit) → line_count c ≤ line_count (made c a).circuit
lines_grow none c = omega arith
lines_grow (name_then w more) c = lines_grow more c
lines_grow (gate_then op inner more) c =
    omega (arith, lines_grow inner c, behind_adds c op inner, lines_grow more (behind c op inner))

pub line_adds : (c : Circuit) (g : GateLine) → line_count (with_gate_line c g) ≡ suc (line_count (made c g.operands).circuit)
line_adds c g = one_line_more (made c g.operands).circuit (record { name = Some g.name; op = g.op; operands = (made c g.operands).lines })

pub all_lines_grow : (gs : List GateLine) (c : Circuit) → line_count c ≤ line_count (with_gate_lines c gs)
all_lines_grow [] c = omega arith
all_lines_grow (g ∷ gs) c = omega (arith, lines_grow g.operands c, line_adds c g, all_lines_grow gs (with_gate_line c g))

-- Gates list no outputs.
pub same_outputs : (a : Operands) (c : Circuit) → (made c a).circuit.outputs ≡ c.outputs
same_outputs none c = refl
same_outputs (name_then w more) c = same_outputs more c
same_outputs (gate_then op inner more) c =
    same_outputs more (behind c op inner) ∙ same_outputs inner c

pub same_outputs_all : (gs : List GateLine) (c : Circuit) → (with_gate_lines c gs).outputs ≡ c.outputs
same_outputs_all [] c = refl
same_outputs_all (g ∷ gs) c = same_outputs_all gs (with_gate_line c g) ∙ same_outputs g.operands c

-- a pending gate with further operands
abbrev pub with_operands : Pending → List ℕ → Pending
with_operands p lines = record { op = p.op; operands = p.operands ++ lines }

pub one_first : (p : Pending) (line : ℕ) (lines : List ℕ) → with_operands (with_operand p line) lines ≡ with_operands p (line ∷ lines)
one_first p line lines = ap (λ (os : List ℕ). record { op = p.op; operands = os }) (append_assoc p.operands (line ∷ []) lines)

-- a circuit with further outputs
abbrev pub with_outputs : Circuit → List (List ℕ) → Circuit
with_outputs c ws = record { inputs = c.inputs; gates = c.gates; outputs = c.outputs ++ map (number_of c) ws }

-- What the rules ask of operands behind the lines of c, inside that many gates, but for how many they are. Two brackets
-- are open around the outermost gate's operands.
pub record Right (c : Circuit) (depth : ℕ) (a : Operands) : Type 0 where
  pub shaped : list_all name_shape (names_in a) ≡ true
  pub known_names : list_all (known c) (names_in a) ≡ true
  pub take : gates_take a ≡ true
  pub nest : nesting a ≤ 6 - depth

-- the same of operands that begin with a name, and with a gate, part by part
pub record RightName (c : Circuit) (depth : ℕ) (w : List ℕ) (more : Operands) : Type 0 where
  pub shaped : name_shape w ≡ true
  pub is_known : known c w ≡ true
  pub after : Right c depth more

pub record RightGate (c : Circuit) (depth : ℕ) (op : Op) (inner more : Operands) : Type 0 where
  pub count : takes op inner ≡ true
  pub shallow : depth < 6
  pub within : Right c (suc depth) inner
  pub after : Right (behind c op inner) depth more

module _ (c : Circuit) (depth : ℕ) (w : List ℕ) (more : Operands) where
  pub right_name : RightName c depth w more → Right c depth (name_then w more)
  right_name r = record {
    shaped = and_from _ _ r.shaped r.after.shaped;
    known_names = and_from _ _ r.is_known r.after.known_names;
    take = r.after.take;
    nest = r.after.nest;
  }

  pub right_name_parts : Right c depth (name_then w more) → RightName c depth w more
  right_name_parts r =
      let shaped = and_parts (name_shape w) _ r.shaped in
      let known_names = and_parts (known c w) _ r.known_names in
      record {
        shaped = shaped.0;
        is_known = known_names.0;
        after = record { shaped = shaped.1; known_names = known_names.1; take = r.take; nest = r.nest };
      }

module _ (c : Circuit) (depth : ℕ) (op : Op) (inner more : Operands) where
  pub right_gate : RightGate c depth op inner more → Right c depth (gate_then op inner more)
  right_gate r = record {
    shaped = list_all-append name_shape (names_in inner) (names_in more) ∙ and_from _ _ r.within.shaped r.after.shaped;
    known_names =
        list_all-append (known c) (names_in inner) (names_in more)
        ∙ and_from _ _ r.within.known_names (sym (same_known c op inner (names_in more)) ∙ r.after.known_names);
    take = and_from _ _ r.count (and_from _ _ r.within.take r.after.take);
    nest = omega arith;
  }

  pub right_gate_parts : Right c depth (gate_then op inner more) → RightGate c depth op inner more
  right_gate_parts r =
      let shaped = and_parts (list_all name_shape (names_in inner)) _ (sym (list_all-append name_shape (names_in inner) (names_in more)) ∙ r.shaped) in
      let known_names = and_parts (list_all (known c) (names_in inner)) _ (sym (list_all-append (known c) (names_in inner) (names_in more)) ∙ r.known_names) in
      let count = and_parts (takes op inner) _ r.take in
      let take = and_parts (gates_take inner) _ count.1 in
      record {
        count = count.0;
        shallow = omega (arith, r.nest);
        within = record { shaped = shaped.0; known_names = known_names.0; take = take.0; nest = omega (arith, r.nest) };
        after = record {
          shaped = shaped.1;
          known_names = same_known c op inner (names_in more) ∙ known_names.1;
          take = take.1;
          nest = omega (arith, r.nest);
        };
      }
