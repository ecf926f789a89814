-- What each line of a circuit carries, line by line.
use Rattle.std.proofs.Common.{◌≡◌, ℕ, zero, suc, ◌+◌, ◌<◌, ◌≤◌, true, leb, ltb, List, [], ◌∷◌, ◌++◌, length, take, drop, get_or, Option, All, ◌⊎◌, sym, refl, ap, ◌∙◌, inl, inr, arith}
use Rattle.std.proofs.lemmas.Bool.{cases_eq, and_parts, ltb-true, leb-true}
use Rattle.std.proofs.Math.ListN.{get_or-append}
use Rattle.std.proofs.Math.Seq.{take-length, take-append_seam, get_or-append_seam}
use Rattle.std.proofs.lemmas.Grind.{common_steps}
use Rattle.std.proofs.lemmas.List.{get_or-take, take-take, drop_more, length-take-le}
use Rattle.std.specs.Prelude.{slice_index_or}
use Rattle.std.specs.List.{list_all}
use Rattle.values.specs.Values.{Values}
use Rattle.circuit.specs.Ops.{fewest_operands, most_operands}
use Rattle.circuit.specs.Model.{Gate, Circuit, line_count}
use Rattle.circuit.specs.Lawful.{between, gate_fits, each_after, lawful}
use Rattle.faults.specs.declared.fault.Fault.{Fault}
use Rattle.simulator.specs.Fanouts.{no_gate}
use Rattle.simulator.specs.Lines.{line_value, operands_from, joined, negated_by, at_pin, gate_value, gates_after, inputs_row, lines}

module _ {V : Type 0} (A : Values V) (f : Option Fault) where
  -- the lines that a row begins with stay
  pub gates_keep_front : (row : List V) (gates : List Gate) → take (length row) (gates_after A f row gates) ≡ row
  gates_keep_front row [] = take-length row
  gates_keep_front row (g ∷ gates) =
      let longer : List V = row ++ (gate_value A f row g ∷ []) in
      let long : length longer ≡ length row + 1 = grind (arith, common_steps) in
      let all : List V = gates_after A f longer gates in
      sym (take-take (length row) (length longer) all (omega (arith, long)))
      ∙ ap (take (length row)) (gates_keep_front longer gates)
      ∙ take-append_seam row (gate_value A f row g ∷ [])

  -- the first gate gives the set of the next line
  pub first_gate : (line : ℕ) (sets : List V) (g : Gate) (gates : List Gate) → line ≤ length sets → sets ≡ gates_after A f (take line sets) (g ∷ gates)
      → take (line + 1) sets ≡ take line sets ++ (gate_value A f (take line sets) g ∷ [])
  first_gate line sets g gates h e =
      let row : List V = take line sets in
      let longer : List V = row ++ (gate_value A f row g ∷ []) in
      let long : length longer ≡ line + 1 = grind (arith, common_steps, length-take-le line sets h) in
      ap (λ (n : ℕ). take n sets) (sym long) ∙ ap (take (length longer)) e ∙ gates_keep_front longer gates

  -- a gate that reads the same of two rows carries the same
  pub operands_same : (xs ys : List V) (line pin : ℕ) (os : List ℕ) → All (λ (o : ℕ). line_value A xs o ≡ line_value A ys o) os
      → operands_from A f xs line pin os ≡ operands_from A f ys line pin os
  operands_same xs ys line pin [] h = refl
  operands_same xs ys line pin (o ∷ os) h =
      let first : line_value A xs o ≡ line_value A ys o = h 0 o (omega arith) in
      ap (λ (x : V). at_pin A f line pin x ∷ operands_from A f xs line (pin + 1) os) first
      ∙ ap (λ (vs : List V). at_pin A f line pin (line_value A ys o) ∷ vs) (operands_same xs ys line (pin + 1) os (λ i d l. h (suc i) d (omega arith)))

  pub gate_same : (xs ys : List V) (g : Gate) → length xs ≡ length ys → All (λ (o : ℕ). line_value A xs o ≡ line_value A ys o) g.operands
      → gate_value A f xs g ≡ gate_value A f ys g
  gate_same xs ys g long h =
      ap (λ (vs : List V). at_pin A f (length xs) 0 (negated_by A.gates g.op (joined A.gates g.op vs))) (operands_same xs ys (length xs) 1 g.operands h)
      ∙ ap (λ (n : ℕ). at_pin A f n 0 (negated_by A.gates g.op (joined A.gates g.op (operands_from A f ys n 1 g.operands)))) long

  -- the next line carries what the first gate makes of the lines before
  pub next_line : (line : ℕ) (sets : List V) (g : Gate) (gates : List Gate) (d : V) → line < length sets → sets ≡ gates_after A f (take line sets) (g ∷ gates)
      → get_or sets line d ≡ gate_value A f (take line sets) g
  next_line line sets g gates d h e =
      let row : List V = take line sets in
      let v : V = gate_value A f row g in
      sym (get_or-take (line + 1) sets line d (omega arith))
      ∙ ap (λ (vs : List V). get_or vs line d) (first_gate line sets g gates (omega arith) e)
      ∙ ap (λ (n : ℕ). get_or (row ++ (v ∷ [])) n d) (sym (length-take-le line sets (omega arith)))
      ∙ get_or-append_seam row v [] d

  pub next_gates : (line : ℕ) (sets : List V) (g : Gate) (gates : List Gate) → line < length sets → sets ≡ gates_after A f (take line sets) (g ∷ gates)
      → sets ≡ gates_after A f (take (line + 1) sets) gates
  next_gates line sets g gates h e = e ∙ ap (λ (row : List V). gates_after A f row gates) (sym (first_gate line sets g gates (omega arith) e))

-- the operands of a gate that fits are lines below it
pub below_line : (line : ℕ) (os : List ℕ) → list_all (λ (o : ℕ). ltb o line) os ≡ true → All (λ (o : ℕ). o < line) os
below_line line [] e i d h = absurd (omega arith)
below_line line (o ∷ os) e zero d h = ltb-true o line (and_parts (ltb o line) _ e).0
below_line line (o ∷ os) e (suc i) d h = below_line line os (and_parts (ltb o line) _ e).1 i d (omega arith)

pub operands_below : (line : ℕ) (g : Gate) → gate_fits line g ≡ true → All (λ (o : ℕ). o < line) g.operands
operands_below line g e = below_line line g.operands (and_parts (between (fewest_operands g.op) (most_operands g.op) (length g.operands)) _ e).1

-- each gate fits its line
abbrev pub FitFrom : ℕ → List Gate → Type 0
FitFrom line gates = (k : ℕ) → k < length gates → gate_fits (line + k) (slice_index_or gates k no_gate) ≡ true

fit_from : (inputs line : ℕ) (before gates : List Gate) → inputs + length before ≡ line
    → each_after (λ (b : List Gate). gate_fits (inputs + length b)) before gates ≡ true → FitFrom line gates
fit_from inputs line before [] at e k h = absurd (omega arith)
fit_from inputs line before (g ∷ gates) at e zero h =
    let first = (and_parts (gate_fits (inputs + length before) g) _ e).0 in
    ap (λ (n : ℕ). gate_fits n g) (omega (arith, at)) ∙ first
fit_from inputs line before (g ∷ gates) at e (suc k) h =
    let rest = (and_parts (gate_fits (inputs + length before) g) _ e).1 in
    ap (λ (n : ℕ). gate_fits n (slice_index_or gates k no_gate)) (omega arith)
    ∙ fit_from inputs (line + 1) (before ++ (g ∷ [])) gates (grind (arith, common_steps, at)) rest k (omega arith)

pub fit_all : (inputs : ℕ) (gates : List Gate) → each_after (λ (b : List Gate). gate_fits (inputs + length b)) [] gates ≡ true → FitFrom inputs gates
fit_all inputs gates e = fit_from inputs inputs [] gates (omega arith) e

-- each gate of a circuit that keeps the rules fits its line, which is one of at most 512
pub all_fit : (c : Circuit) → lawful c ≡ true → each_after (λ (before : List Gate). gate_fits (length c.inputs + length before)) [] c.gates ≡ true
all_fit c e = grind (arith, and_parts)

pub gates_fit : (c : Circuit) → lawful c ≡ true → (k : ℕ) → k < length c.gates → gate_fits (length c.inputs + k) (get_or c.gates k no_gate) ≡ true
gates_fit c e k h = fit_all (length c.inputs) c.gates (all_fit c e) k h

pub few_lines : (c : Circuit) → lawful c ≡ true → line_count c ≤ 512
few_lines c e =
    let few : leb (line_count c) 512 ≡ true = grind (arith, and_parts) in
    leb-true _ _ few

-- The lines of a circuit, its inputs' first.
module _ {V : Type 0} (A : Values V) (f : Option Fault) (input : ℕ → V) where
  pub inputs_long : (n : ℕ) → length (inputs_row A f input n) ≡ n
  inputs_long zero = refl
  inputs_long (suc n) = grind (arith, common_steps, inputs_long n)

  input_line : (n i : ℕ) (d : V) → i < n → get_or (inputs_row A f input n) i d ≡ at_pin A f i 0 (input i)
  input_line zero i d h = absurd (omega arith)
  input_line (suc n) i d h = go (cases_eq i n) (input_line n i d)
    where
      go : (i ≡ n) ⊎ (i ≡ n → ⊥) → (i < n → get_or (inputs_row A f input n) i d ≡ at_pin A f i 0 (input i))
          → get_or (inputs_row A f input n ++ (at_pin A f n 0 (input n) ∷ [])) i d ≡ at_pin A f i 0 (input i)
      go (inl last) below =
          ap (λ (k : ℕ). get_or (inputs_row A f input n ++ (at_pin A f n 0 (input n) ∷ [])) k d) (last ∙ sym (inputs_long n))
          ∙ get_or-append_seam (inputs_row A f input n) (at_pin A f n 0 (input n)) [] d
          ∙ ap (λ (k : ℕ). at_pin A f k 0 (input k)) (sym last)
      go (inr other) below =
          get_or-append (inputs_row A f input n) (at_pin A f n 0 (input n) ∷ []) d i (omega (arith, other, h, inputs_long n)) ∙ below (omega (arith, other, h))

  gates_long : (row : List V) (gates : List Gate) → length (gates_after A f row gates) ≡ length row + length gates
  gates_long row [] = omega arith
  gates_long row (g ∷ gates) = gates_long (row ++ (gate_value A f row g ∷ [])) gates ∙ grind (arith, common_steps)

  pub lines_long : (c : Circuit) → length (lines A c f input) ≡ line_count c
  lines_long c = gates_long (inputs_row A f input (length c.inputs)) c.gates ∙ ap (λ (n : ℕ). n + length c.gates) (inputs_long (length c.inputs))

  pub lines_front : (c : Circuit) → take (length c.inputs) (lines A c f input) ≡ inputs_row A f input (length c.inputs)
  lines_front c =
      ap (λ (n : ℕ). take n (lines A c f input)) (sym (inputs_long (length c.inputs))) ∙ gates_keep_front A f (inputs_row A f input (length c.inputs)) c.gates

  pub lines_gates : (c : Circuit) → lines A c f input ≡ gates_after A f (take (length c.inputs) (lines A c f input)) c.gates
  lines_gates c = ap (λ (row : List V). gates_after A f row c.gates) (sym (lines_front c))

  pub lines_input : (c : Circuit) (i : ℕ) (d : V) → i < length c.inputs → get_or (lines A c f input) i d ≡ at_pin A f i 0 (input i)
  lines_input c i d h =
      sym (get_or-take (length c.inputs) (lines A c f input) i d h)
      ∙ ap (λ (vs : List V). get_or vs i d) (lines_front c)
      ∙ input_line (length c.inputs) i d h

-- The lines of a circuit, gate by gate.
module _ {V : Type 0} (A : Values V) (f : Option Fault) (input : ℕ → V) (c : Circuit) where
  abbrev pub sets : List V
  sets = lines A c f input

  -- what stands from a gate on is made by the gates from there on
  lines_from : (k line : ℕ) → line ≡ length c.inputs + k → k ≤ length c.gates → sets ≡ gates_after A f (take line sets) (drop k c.gates)
  lines_from zero line is h = lines_gates A f input c ∙ ap (λ (n : ℕ). gates_after A f (take n sets) c.gates) (omega (arith, is))
  lines_from (suc k) line is h =
      let before : ℕ = length c.inputs + k in
      let rest : drop k c.gates ≡ get_or c.gates k no_gate ∷ drop (k + 1) c.gates = drop_more c.gates k no_gate (omega (arith, h)) in
      let made : sets ≡ gates_after A f (take before sets) (get_or c.gates k no_gate ∷ drop (k + 1) c.gates) =
      lines_from k before refl (omega (arith, h)) ∙ ap (gates_after A f (take before sets)) rest in
      let here : before < length sets = omega (arith, h, lines_long A f input c) in
      let next : k + 1 ≡ suc k = omega arith in
      next_gates A f before sets (get_or c.gates k no_gate) (drop (k + 1) c.gates) here made
      ∙ ap (λ (n : ℕ). gates_after A f (take n sets) (drop (k + 1) c.gates)) (omega (arith, is))
      ∙ ap (λ (n : ℕ). gates_after A f (take line sets) (drop n c.gates)) next

  -- so the line of a gate carries what the gate makes of the lines before
  pub gate_line : (k line : ℕ) (d : V) → line ≡ length c.inputs + k → k < length c.gates → get_or sets line d ≡ gate_value A f (take line sets) (get_or c.gates k no_gate)
  gate_line k line d is h =
      let rest : drop k c.gates ≡ get_or c.gates k no_gate ∷ drop (k + 1) c.gates = drop_more c.gates k no_gate h in
      next_line A f line sets (get_or c.gates k no_gate) (drop (k + 1) c.gates) d (omega (arith, is, h, lines_long A f input c))
      (lines_from k line is (omega (arith, h)) ∙ ap (gates_after A f (take line sets)) rest)
