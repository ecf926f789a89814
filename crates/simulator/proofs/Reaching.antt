-- The lines that the effect of a fault can reach, and those that it cannot.
use Rattle.std.proofs.Common.{◌≡◌, ltb, ℕ, zero, suc, ◌+◌, ◌-◌, ◌<◌, ◌≤◌, Bool, true, false, cond, ◌&&◌, ◌==◌, List, [], ◌∷◌, length, take, get_or, Some, None, Option, All, ◌⊎◌, refl, sym, subst, ap, ◌∙◌, inl, inr, arith}
use mathlib.Core.Bool.{false≢true}
use Rattle.std.specs.List.{list_any}
use Rattle.std.proofs.lemmas.Bool.{cases_lt, ltb-true, ne_eqb, lt-ltb, le-ltb}
use Rattle.std.proofs.lemmas.Grind.{common_steps}
use Rattle.std.proofs.lemmas.List.Folds.{list_any_at, list_any_none, Any-from_list_any}
use Rattle.std.proofs.lemmas.List.{get_or_default, get_or-take, length-take-le}
use Rattle.values.specs.Pairs.{Pairs, shows}
use Rattle.values.specs.Values.{Values, faulty_levels}
use Rattle.values.specs.Kind.{Kind, Lawful}
use Rattle.faults.specs.Cubes.{Cube}
use Rattle.circuit.specs.Model.{Gate, Circuit, line_count}
use Rattle.circuit.specs.Lawful.{gate_fits, lawful}
use Rattle.faults.specs.declared.fault.Fault.{Fault}
use Rattle.simulator.specs.declared.line_set.LineSet.{LineSet}
use Rattle.simulator.specs.LineSets.{has, IsEmpty, Includes, OnlyMore}
use Rattle.simulator.specs.Fanouts.{operands_at, no_gate}
use Rattle.simulator.specs.Lines.{line_value, operands_from, at_pin, gate_value}
use Rattle.simulator.specs.Detection.{bit, levels_under, set_of, simulated, detected}
use Rattle.simulator.specs.Reach.{level_at, UnseenFrom, Reaches, own_line, through_gate, AllReached, OnlyReached}
use Rattle.simulator.proofs.Rules.{outputs_below}
use Rattle.simulator.proofs.Telling.{same_level_does_not_show}
use Rattle.simulator.proofs.Lines.{gate_same, lines_long, lines_input, operands_below, gates_fit, few_lines, gate_line}

-- A fault at another line does nothing to a gate.
module _ {V : Type 0} (A : Values V) (f : Fault) where
  pub pin_of_another : (line pin : ℕ) (x : V) → (f.line == line) ≡ false → at_pin A (Some f) line pin x ≡ x
  pin_of_another line pin x other = ap (λ (b : Bool). cond (b && f.pin == pin) (A.stick f.level x) x) other

  operands_of_another : (row : List V) (line pin : ℕ) (operands : List ℕ) → (f.line == line) ≡ false
      → operands_from A (Some f) row line pin operands ≡ operands_from A None row line pin operands
  operands_of_another row line pin [] other = refl
  operands_of_another row line pin (o ∷ os) other = rw (pin_of_another line pin _ other, operands_of_another row line (pin + 1) os other) refl

  pub gate_of_another : (row : List V) (g : Gate) → (f.line == length row) ≡ false → gate_value A (Some f) row g ≡ gate_value A None row g
  gate_of_another row g other = rw (pin_of_another (length row) 0 _ other, operands_of_another row (length row) 1 g.operands other) refl

-- A line that the effect of the fault does not come from has its level.
module _ (c : Circuit) (f : Fault) (v : ℕ) where
  abbrev pub with_fault : List Bool
  with_fault = levels_under c (Some f) v

  abbrev pub without : List Bool
  without = levels_under c None v

  same_input : (i : ℕ) → i < length c.inputs → (f.line == i) ≡ false → get_or with_fault i false ≡ get_or without i false
  same_input i h other =
      lines_input faulty_levels (Some f) (bit v) c i false h
      ∙ pin_of_another faulty_levels f i 0 (bit v i) other
      ∙ sym (lines_input faulty_levels None (bit v) c i false h)

  same_gate : (k line : ℕ) → line ≡ length c.inputs + k → k < length c.gates → (f.line == line) ≡ false
      → gate_fits line (get_or c.gates k no_gate) ≡ true
      → All (λ (o : ℕ). get_or with_fault o false ≡ get_or without o false) (get_or c.gates k no_gate).operands
      → get_or with_fault line false ≡ get_or without line false
  same_gate k line is h other fits alike =
      let g : Gate = get_or c.gates k no_gate in
      let long_with : length (take line with_fault) ≡ line = length-take-le line with_fault (omega (arith, is, h, lines_long faulty_levels (Some f) (bit v) c)) in
      let long_without : length (take line without) ≡ line = length-take-le line without (omega (arith, is, h, lines_long faulty_levels None (bit v) c)) in
      let before : All (λ (o : ℕ). line_value faulty_levels (take line with_fault) o ≡ line_value faulty_levels (take line without) o) g.operands = λ i d inside.
      let o : ℕ = get_or g.operands i d in
      let low : o < line = operands_below line g fits i d inside in
      get_or-take line with_fault o false low ∙ alike i d inside ∙ sym (get_or-take line without o false low) in
      gate_line faulty_levels (Some f) (bit v) c k line false is h
      ∙ gate_of_another faulty_levels f (take line with_fault) g (ap (◌==◌ f.line) long_with ∙ other)
      ∙ gate_same faulty_levels None (take line with_fault) (take line without) g (long_with ∙ sym long_without) before
      ∙ sym (gate_line faulty_levels None (bit v) c k line false is h)

-- A line that the effect of the fault cannot reach has under each vector the same level with the fault as without it.
module _ (c : Circuit) (rules : lawful c ≡ true) (f : Fault) (v : ℕ) where
  elsewhere : (line : ℕ) → (Reaches c f line → ⊥) → (f.line == line) ≡ false
  elsewhere line never = ne_eqb f.line line (λ same. never (subst (Reaches c f) same own_line))

  -- so it is for each line below a bound, if it is for the lines below that
  unreached_below : (bound line : ℕ) → line < bound → line < line_count c → (Reaches c f line → ⊥) → level_at c (Some f) v line ≡ level_at c None v line
  unreached_below zero line low below never = absurd (omega (arith, low))
  unreached_below (suc bound) line low below never = elim (cases_lt line (length c.inputs)) [
    | inl input ↦ same_input c f v line input (elsewhere line never)
    | inr behind ↦
        let k : ℕ = line - length c.inputs in
        let is : line ≡ length c.inputs + k = omega (arith, behind) in
        let inside : k < length c.gates = omega (arith, is, below) in
        let g : Gate = get_or c.gates k no_gate in
        let fits : gate_fits line g ≡ true = ap (λ (n : ℕ). gate_fits n g) is ∙ gates_fit c rules k inside in
        same_gate c f v k line is inside (elsewhere line never) fits (λ i d h.
        let before : get_or g.operands i d < line = operands_below line g fits i d h in
        unreached_below bound (get_or g.operands i d) (omega (arith, before, low)) (omega (arith, before, below)) (λ reaches.
        let through : Reaches c f (length c.inputs + k) =
        through_gate k i inside h (subst (Reaches c f) (get_or_default g.operands i d 0 h) reaches) in
        never (subst (Reaches c f) (sym is) through)))
  ]

  pub unreached_same : (line : ℕ) → line < line_count c → (Reaches c f line → ⊥) → level_at c (Some f) v line ≡ level_at c None v line
  unreached_same line = unreached_below (line + 1) line (omega arith)

-- The set of the lines that the effect can reach, as it stands after the first gates, of which there are that many.
pub record Collected (c : Circuit) (f : Fault) (reached : LineSet) (count : ℕ) : Type 0 where
  -- the fault's own line is in it
  pub own : f.line < 512 → has reached f.line ≡ true
  -- only lines that the effect can reach are in it
  pub reaches : OnlyReached c f reached
  -- each of those gates that reads a line of the set is in it
  pub closed : (k i : ℕ) → k < count → k < length c.gates → i < length (operands_at c.gates k) → has reached (get_or (operands_at c.gates k) i 0) ≡ true
      → has reached (length c.inputs + k) ≡ true

-- The set from the start, and with one gate more.
module _ (c : Circuit) (f : Fault) where
  -- before the first gate it has the fault's own line alone, or no line if a set has no room for that
  pub own_alone : (empty more : LineSet) → IsEmpty empty → has more f.line ≡ true → OnlyMore empty f.line more → Collected c f more 0
  own_alone empty more none own only_it =
      record {
        own = λ small. own;
        reaches = λ line holds. elim (only_it line holds) [
          | inl old ↦ absurd (false≢true (sym (none line) ∙ old))
          | inr same ↦ subst (Reaches c f) (sym same) own_line
        ];
        closed = λ k i low. absurd (omega (arith, low));
      }

  pub own_beyond : (empty : LineSet) → IsEmpty empty → (f.line < 512 → ⊥) → Collected c f empty 0
  own_beyond empty none beyond =
      record {
        own = λ small. absurd (beyond small);
        reaches = λ line holds. absurd (false≢true (sym (none line) ∙ holds));
        closed = λ k i low. absurd (omega (arith, low));
      }

  -- a gate that reads none of the set is passed over
  pub gate_passed : (reached : LineSet) (count : ℕ) → list_any (has reached) (operands_at c.gates count) ≡ false → Collected c f reached count → Collected c f reached (count + 1)
  gate_passed reached count none so_far =
      record {
        own = so_far.own;
        reaches = so_far.reaches;
        closed = λ k i low inside h holds. elim (cases_lt k count) [
          | inl before ↦ so_far.closed k i before inside h holds
          | inr from ↦
              let here : k ≡ count = omega (arith, low, from) in
              let found : list_any (has reached) (operands_at c.gates k) ≡ true = list_any_at (has reached) (operands_at c.gates k) i 0 h holds in
              absurd (false≢true (sym none ∙ ap (λ (n : ℕ). list_any (has reached) (operands_at c.gates n)) (sym here) ∙ found))
        ];
      }

  -- a gate that reads one of the set is a line that the effect can reach
  reached_by_gate : (reached : LineSet) (k : ℕ) → k < length c.gates → OnlyReached c f reached → list_any (has reached) (operands_at c.gates k) ≡ true
      → Reaches c f (length c.inputs + k)
  reached_by_gate reached k inside reaches some =
      let (i, o, h, at, holds) = Any-from_list_any (has reached) (operands_at c.gates k) some in
      through_gate k i inside h (reaches (get_or (operands_at c.gates k) i 0) (ap (has reached) (get_or_default (operands_at c.gates k) i 0 o h ∙ at) ∙ holds))

-- In a circuit that keeps the rules, a line that is added later is no operand of an earlier gate.
module _ (c : Circuit) (rules : lawful c ≡ true) (f : Fault) where
  -- each operand stands before its gate
  earlier_operand : (k i : ℕ) → k < length c.gates → i < length (operands_at c.gates k) → get_or (operands_at c.gates k) i 0 < length c.inputs + k
  earlier_operand k i inside h = operands_below (length c.inputs + k) (get_or c.gates k no_gate) (gates_fit c rules k inside) i 0 h

  -- the line of a gate that reads one of the set is added
  pub gate_added : (reached more : LineSet) (count : ℕ) → count < length c.gates → list_any (has reached) (operands_at c.gates count) ≡ true
      → Includes more reached → has more (length c.inputs + count) ≡ true → OnlyMore reached (length c.inputs + count) more
      → Collected c f reached count → Collected c f more (count + 1)
  gate_added reached more count inside some inc added only_it so_far =
      record {
        own = λ small. inc f.line (so_far.own small);
        reaches = λ line holds. elim (only_it line holds) [
          | inl old ↦ so_far.reaches line old
          | inr new ↦ subst (Reaches c f) (sym new) (reached_by_gate c f reached count inside so_far.reaches some)
        ];
        closed = λ k i low within h holds. elim (cases_lt k count) [
          | inl before ↦ elim (only_it (get_or (operands_at c.gates k) i 0) holds) [
            | inl old ↦ inc (length c.inputs + k) (so_far.closed k i before within h old)
            | inr new ↦ absurd (omega (arith, new, before, earlier_operand k i within h))
          ]
          | inr from ↦
              let here : length c.inputs + count ≡ length c.inputs + k = omega (arith, low, from) in
              ap (has more) (sym here) ∙ added
        ];
      }

  -- after all gates, all lines that the effect can reach are in it
  pub all_reached : (reached : LineSet) → Collected c f reached (length c.gates) → AllReached c f reached
  all_reached reached so_far line below reaches = in_set reaches below
    where
      in_set : {l : ℕ} → Reaches c f l → l < line_count c → has reached l ≡ true
      in_set own_line low = so_far.own (omega (arith, low, few_lines c rules))
      in_set (through_gate k i inside h from) low = so_far.closed k i inside inside h (in_set from (omega (arith, earlier_operand k i inside h, low)))

-- one test of a list by another that answers alike
any_alike : {X : Type 0} (p r : X → Bool) (xs : List X) → All (λ (x : X). p x ≡ r x) xs → list_any p xs ≡ list_any r xs
any_alike p r [] h = refl
any_alike p r (x ∷ xs) h = rw (h 0 x (omega arith), any_alike p r xs (λ i d l. h (suc i) d (omega arith))) refl

-- The outputs before a line show just where the cube shows, if none from that line on can be seen, and the lines before have the sets of the cube.
module _ (K : Kind) (M : Pairs → Type 0) (lawful_kind : Lawful K M) (c : Circuit) (rules : lawful c ≡ true) (f : Option Fault) (q : Cube) (end n : ℕ) (unseen : UnseenFrom c f end)
    (behind : (end ≤ n) ⊎ (line_count c ≤ n)) (rows : List Pairs) (alike : (o : ℕ) → o < n → set_of rows o ≡ set_of (simulated K c f q) o) where
  abbrev all : List Pairs
  all = simulated K c f q

  shown_alike : (i d : ℕ) → i < length c.outputs → (ltb (get_or c.outputs i d) n && shows (set_of rows (get_or c.outputs i d))) ≡ shows (set_of all (get_or c.outputs i d))
  shown_alike i d inside = elim (cases_lt (get_or c.outputs i d) n) [
    | inl low ↦ rw (lt-ltb _ _ low, alike (get_or c.outputs i d) low) refl
    | inr high ↦
        let far : end ≤ get_or c.outputs i d = elim behind [
          | inl e ↦ omega (arith, e, high)
          | inr e ↦ absurd (omega (arith, e, high, outputs_below c rules i d inside))
        ] in
        let none : shows (set_of all (get_or c.outputs i d)) ≡ false =
        same_level_does_not_show K M lawful_kind c f q q.level (get_or c.outputs i d) (λ k e. refl) (unseen q.level i d inside far) in
        rw (le-ltb _ _ high, none) refl
  ]

  pub shown_before : list_any (λ (o : ℕ). ltb o n && shows (set_of rows o)) c.outputs ≡ detected K c f q
  shown_before = any_alike (λ (o : ℕ). ltb o n && shows (set_of rows o)) (λ (o : ℕ). shows (set_of all o)) c.outputs shown_alike

-- one test of a list by another that answers yes wherever the first does
any_more : {X : Type 0} (p r : X → Bool) (xs : List X) → ((x : X) → p x ≡ true → r x ≡ true) → list_any p xs ≡ true → list_any r xs ≡ true
any_more p r [] h e = e
any_more p r (x ∷ xs) h e = grind (arith, common_steps, h x, any_more p r xs h)

-- An output before a line shows only where the cube shows, if the lines before have the sets of the cube.
pub shown_if_before : (K : Kind) (c : Circuit) (f : Option Fault) (q : Cube) (n : ℕ) (rows : List Pairs) → ((o : ℕ) → o < n → set_of rows o ≡ set_of (simulated K c f q) o)
    → list_any (λ (o : ℕ). ltb o n && shows (set_of rows o)) c.outputs ≡ true → detected K c f q ≡ true
shown_if_before K c f q n rows alike =
    any_more (λ (o : ℕ). ltb o n && shows (set_of rows o)) (λ (o : ℕ). shows (set_of (simulated K c f q) o)) c.outputs (λ o yes.
    let low : ltb o n ≡ true = grind (arith, common_steps) in
    let shown : shows (set_of rows o) ≡ true = grind (arith, common_steps) in
    ap shows (sym (alike o (ltb-true _ _ low))) ∙ shown)

-- without a fault no output shows
pub shows_nothing_without : (K : Kind) (M : Pairs → Type 0) (l : Lawful K M) (c : Circuit) (q : Cube) → detected K c None q ≡ false
shows_nothing_without K M l c q =
    list_any_none (λ (o : ℕ). shows (set_of (simulated K c None q) o)) c.outputs (λ i d inside.
    same_level_does_not_show K M l c None q q.level (get_or c.outputs i d) (λ k e. refl) refl)
