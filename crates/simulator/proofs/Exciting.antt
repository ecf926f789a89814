-- A fault that is not excited shows at no output.
use Rattle.std.proofs.Common.{◌≡◌, ℕ, zero, suc, ◌+◌, ◌-◌, ◌<◌, ◌≤◌, Bool, true, false, cond, ◌&&◌, ◌==◌, eqb-true, List, length, take, get_or, Some, None, Option, ◌⊎◌, refl, sym, subst, ap, ◌∙◌, inl, inr, arith}
use Rattle.std.specs.List.{AllZip, slice_get}
use Rattle.std.specs.Option.{option_map, option_and_then, option_map_or}
use Rattle.std.proofs.lemmas.Bool.{and_parts, cases_lt, lt-ltb, le-ltb}
use Rattle.std.proofs.lemmas.List.{get_or_default, get_or-take, length-take-le}
use Rattle.std.proofs.lemmas.List.Folds.{list_any_none}
use Rattle.std.proofs.lemmas.Option.{none-some, same_Some, slice_get-get_or, slice_get_within, slice_get_past, get_or_from_slice_get, option_and_then_some}
use Rattle.values.specs.Pairs.{Pairs, pair, ◌∈◌, shows, only}
use Rattle.values.specs.Values.{Values, levels, faulty_levels}
use Rattle.values.specs.Kind.{Kind, Lawful}
use Rattle.circuit.specs.Model.{Gate, Circuit, line_count, gate_at}
use Rattle.circuit.specs.Lawful.{gate_fits, lawful}
use Rattle.faults.specs.declared.fault.Fault.{Fault}
use Rattle.faults.specs.Cubes.{Cube}
use Rattle.simulator.specs.Lines.{at_pin, negated_by, joined, line_value, operands_from, gate_value}
use Rattle.simulator.specs.Fanouts.{operands_at, no_gate}
use Rattle.simulator.specs.Detection.{bit, input_value, simulated, set_of, detected, levels_under}
use Rattle.simulator.specs.Excitation.{operand_line, stuck_at_pin, stuck_set, excited}
use Rattle.simulator.proofs.Rules.{outputs_below}
use Rattle.simulator.proofs.Relating.{KeepsGates, worked_keeps, operands_relate}
use Rattle.simulator.proofs.Telling.{Among, among, input_among}
use Rattle.simulator.proofs.Lines.{operands_below, gates_fit, lines_long, lines_input, gate_line}

-- what sets of pairs say of equal levels

-- a set that does not show has a pair of equal levels
unshown_has : (s : Pairs) → shows s ≡ false → (b : Bool) × (pair b b ∈ s)
unshown_has s e = go s.has00 refl s.has11 refl
  where
    go : (x : Bool) → s.has00 ≡ x → (y : Bool) → s.has11 ≡ y → (b : Bool) × (pair b b ∈ s)
    go true h y k = (false, h)
    go false h true k = (true, k)
    go false h false k = absurd (grind (arith, e, h, k))

-- and a set that has one does not show
has_unshown : (s : Pairs) (b : Bool) → pair b b ∈ s → shows s ≡ false
has_unshown s false h = grind arith
has_unshown s true h = grind arith

-- the gate of a line is among the circuit's gates, at the place that its line has after the inputs
gate_of_line : (c : Circuit) (line : ℕ) (g : Gate) → gate_at c line ≡ Some g
    → (k : ℕ) × (line ≡ length c.inputs + k) × (k < length c.gates) × (get_or c.gates k no_gate ≡ g)
gate_of_line c line g e = go (cases_lt line (length c.inputs))
  where
    place : ℕ
    place = line - length c.inputs

    go : (line < length c.inputs) ⊎ (length c.inputs ≤ line) → (k : ℕ) × (line ≡ length c.inputs + k) × (k < length c.gates) × (get_or c.gates k no_gate ≡ g)
    go (inl low) = absurd (none-some g (ap (λ (b : Bool). cond b None (slice_get c.gates place)) (sym (lt-ltb line (length c.inputs) low)) ∙ e))
    go (inr high) =
        let found : slice_get c.gates place ≡ Some g = ap (λ (b : Bool). cond b None (slice_get c.gates place)) (sym (le-ltb line (length c.inputs) high)) ∙ e in
        (place, omega (arith, high), slice_get_within c.gates place g found, get_or_from_slice_get c.gates place g no_gate found)

-- the line that an operand of a gate names
pub operand_of_gate : (c : Circuit) (k line place : ℕ) → line ≡ length c.inputs + k → k < length c.gates → place < length (operands_at c.gates k)
    → operand_line c line place ≡ Some (get_or (operands_at c.gates k) place 0)
operand_of_gate c k line place is h inside =
    let found : gate_at c line ≡ Some (get_or c.gates k no_gate) =
    ap (λ (b : Bool). cond b None (slice_get c.gates (line - length c.inputs))) (le-ltb line (length c.inputs) (omega (arith, is)))
    ∙ ap (slice_get c.gates) (omega (arith, is))
    ∙ slice_get-get_or c.gates k no_gate h in
    ap (option_and_then (λ (g : Gate). slice_get g.operands place)) found ∙ slice_get-get_or (operands_at c.gates k) place 0 inside

-- in a circuit that keeps the rules it is below the gate's line
pub operand_line_below : (c : Circuit) → lawful c ≡ true → (line place o : ℕ) → operand_line c line place ≡ Some o → o < line
operand_line_below c rules line place o e =
    option_and_then_some (λ (g : Gate). slice_get g.operands place) (gate_at c line) o e (λ g found read.
    let (k, is, within, here) = gate_of_line c line g found in
    let fits : gate_fits line g ≡ true = ap (λ (n : ℕ). gate_fits n g) is ∙ ap (gate_fits (length c.inputs + k)) (sym here) ∙ gates_fit c rules k within in
    subst (λ (n : ℕ). n < line) (get_or_from_slice_get g.operands place o 0 read) (operands_below line g fits place 0 (slice_get_within g.operands place o read)))

-- what a gate's line carries, with the number of the line in the place of the length of the row
gate_value_at : {V : Type 0} (A : Values V) (f : Option Fault) (row : List V) (g : Gate) (line : ℕ) → length row ≡ line
    → gate_value A f row g ≡ at_pin A f line 0 (negated_by A.gates g.op (joined A.gates g.op (operands_from A f row line 1 g.operands)))
gate_value_at A f row g line long = ap (λ (n : ℕ). at_pin A f n 0 (negated_by A.gates g.op (joined A.gates g.op (operands_from A f row n 1 g.operands)))) long

-- The pin of a fault carries a set with the pair of a level twice. Then each line has such a pair: of the level that it has
-- under the cube's own vector in a circuit whose pin is stuck at that level.
module _ (K : Kind) (M : Pairs → Type 0) (l : Lawful K M) (c : Circuit) (rules : lawful c ≡ true) (f : Fault) (q : Cube) (b : Bool) where
  abbrev sets : List Pairs
  sets = simulated K c (Some f) q

  -- the same pin, stuck at that level
  abbrev pin_at_level : Fault
  pin_at_level = record { line = f.line; pin = f.pin; level = b }

  abbrev row : List Bool
  row = levels_under c (Some pin_at_level) q.level

  -- a set of the family that has the pair of the level twice
  abbrev Twice : Bool → Pairs → Type 0
  Twice x s = Among K M l (pair x x) s

  -- gates keep it
  twice : KeepsGates levels K.values.gates Twice
  twice = record {
    known = (among K M l).known;
    negate = λ x s. (among K M l).negate (pair x x) s;
    both = λ x u s t. (among K M l).both (pair x x) (pair u u) s t;
    either = λ x u s t. (among K M l).either (pair x x) (pair u u) s t;
    differ = λ x u s t. (among K M l).differ (pair x x) (pair u u) s t;
  }

  -- a pin keeps it, if what the fault's own pin carries has the pair
  pin_twice : (line pin : ℕ) (x : Bool) (s : Pairs) → Twice x s → ((f.line == line && f.pin == pin) ≡ true → pair b b ∈ K.values.stick f.level s)
      → Twice (at_pin faulty_levels (Some pin_at_level) line pin x) (at_pin K.values (Some f) line pin s)
  pin_twice line pin x s r own = go (f.line == line && f.pin == pin) own
    where
      go : (here : Bool) → (here ≡ true → pair b b ∈ K.values.stick f.level s) → Twice (cond here b x) (cond here (K.values.stick f.level s) s)
      go true at = (l.stick.stick_in f.level s r.0, at refl)
      go false at = r

  module _ (pin_has : (s : Pairs) → stuck_set K c f sets ≡ Some s → pair b b ∈ s) where
    -- the fault's pin is a line
    own_line : (line : ℕ) (s : Pairs) → line < line_count c → set_of sets line ≡ at_pin K.values (Some f) line 0 s → (f.line == line && f.pin == 0) ≡ true
        → pair b b ∈ K.values.stick f.level s
    own_line line s below is here =
        let (line_test, pin_test) = and_parts (f.line == line) (f.pin == 0) here in
        pin_has (K.values.stick f.level s)
        (ap (stuck_at_pin K c f sets) (eqb-true f.pin 0 pin_test)
        ∙ ap (slice_get sets) (eqb-true f.line line line_test)
        ∙ slice_get-get_or sets line (only false false) (omega (arith, below, lines_long K.values (Some f) (input_value K q) c))
        ∙ ap Some (is ∙ ap (λ (t : Bool). cond t (K.values.stick f.level s) s) here))

    -- the fault's pin is an operand
    own_operand : (k line i pin : ℕ) → line ≡ length c.inputs + k → k < length c.gates → i < length (operands_at c.gates k) → pin ≡ 1 + i
        → (f.line == line && f.pin == pin) ≡ true → pair b b ∈ K.values.stick f.level (set_of sets (get_or (operands_at c.gates k) i 0))
    own_operand k line i pin is h inside place here =
        let (line_test, pin_test) = and_parts (f.line == line) (f.pin == pin) here in
        let at : f.pin ≡ suc i = omega (arith, eqb-true f.pin pin pin_test, place) in
        let o : ℕ = get_or (operands_at c.gates k) i 0 in
        let low : o < length sets =
        omega (arith, operands_below (length c.inputs + k) (get_or c.gates k no_gate) (gates_fit c rules k h) i 0 inside, h, lines_long K.values (Some f) (input_value K q) c) in
        let read : List Pairs → Option ℕ → Option Pairs = λ (rows : List Pairs) (line : Option ℕ). option_map (K.values.stick f.level) (option_and_then (slice_get rows) line) in
        pin_has (K.values.stick f.level (set_of sets o))
        (ap (stuck_at_pin K c f sets) at
        ∙ ap (λ (n : ℕ). read sets (operand_line c n i)) (eqb-true f.line line line_test)
        ∙ ap (read sets) (operand_of_gate c k line i is h inside)
        ∙ ap (option_map (K.values.stick f.level)) (slice_get-get_or sets o (only false false) low))

    -- a line has such a pair, if what reaches its pin 0 has one
    line_twice : (line : ℕ) (x : Bool) (s : Pairs) → line < line_count c → get_or row line false ≡ at_pin faulty_levels (Some pin_at_level) line 0 x
        → set_of sets line ≡ at_pin K.values (Some f) line 0 s → Twice x s → Twice (get_or row line false) (set_of sets line)
    line_twice line x s below level_is set_is r = rw (level_is, set_is) (pin_twice line 0 x s r (own_line line s below set_is))

    -- an input
    input_twice : (i : ℕ) → i < length c.inputs → Twice (get_or row i false) (set_of sets i)
    input_twice i h =
        line_twice i (bit q.level i) (input_value K q i) (omega (arith, h)) (lines_input faulty_levels (Some pin_at_level) (bit q.level) c i false h)
        (lines_input K.values (Some f) (input_value K q) c i (only false false) h) (input_among K M l q.level q (λ j e. refl) i)

    -- a gate, if the lines below it have one
    gate_twice : (k line : ℕ) → line ≡ length c.inputs + k → k < length c.gates → ((o : ℕ) → o < line → Twice (get_or row o false) (set_of sets o))
        → Twice (get_or row line false) (set_of sets line)
    gate_twice k line is h earlier =
        let g : Gate = get_or c.gates k no_gate in
        let fits : gate_fits line g ≡ true = ap (λ (n : ℕ). gate_fits n g) is ∙ gates_fit c rules k h in
        let row_long : length row ≡ line_count c = lines_long faulty_levels (Some pin_at_level) (bit q.level) c in
        let sets_long : length sets ≡ line_count c = lines_long K.values (Some f) (input_value K q) c in
        let operands : AllZip Twice (operands_from faulty_levels (Some pin_at_level) (take line row) line 1 g.operands) (operands_from K.values (Some f) (take line sets) line 1 g.operands) =
        operands_relate faulty_levels K.values (Some pin_at_level) (Some f) Twice (take line row) (take line sets) line 1 g.operands (λ i pin inside place.
        let o : ℕ = get_or g.operands i 0 in
        let low : o < line = operands_below line g fits i 0 inside in
        let level_read : line_value faulty_levels (take line row) o ≡ get_or row o false = get_or-take line row o false low in
        let set_read : line_value K.values (take line sets) o ≡ set_of sets o =
        get_or-take line sets o (K.values.gates.known false) low
        ∙ get_or_default sets o (K.values.gates.known false) (only false false) (omega (arith, low, is, h, sets_long)) in
        rw (level_read, set_read) (pin_twice line pin _ _ (earlier o low) (own_operand k line i pin is h inside place))) in
        line_twice line _ _ (omega (arith, is, h))
        (gate_line faulty_levels (Some pin_at_level) (bit q.level) c k line false is h
        ∙ gate_value_at faulty_levels (Some pin_at_level) (take line row) g line (length-take-le line row (omega (arith, is, h, row_long))))
        (gate_line K.values (Some f) (input_value K q) c k line (only false false) is h
        ∙ gate_value_at K.values (Some f) (take line sets) g line (length-take-le line sets (omega (arith, is, h, sets_long))))
        (worked_keeps levels K.values.gates Twice twice g.op _ _ operands)

    -- each line
    each_twice : (bound : ℕ) → bound ≤ line_count c → (line : ℕ) → line < bound → Twice (get_or row line false) (set_of sets line)
    each_twice zero within line h = absurd (omega (arith, h))
    each_twice (suc bound) within line h = elim (cases_lt line bound) [
      | inl low ↦ each_twice bound (omega (arith, within)) line low
      | inr high ↦
          let at : line ≡ bound = omega (arith, high, h) in
          subst (λ (n : ℕ). Twice (get_or row n false) (set_of sets n)) (sym at) (elim (cases_lt bound (length c.inputs)) [
            | inl input ↦ input_twice bound input
            | inr gate ↦ gate_twice (bound - length c.inputs) bound (omega (arith, gate)) (omega (arith, gate, within)) (each_twice bound (omega (arith, within)))
          ])
    ]

    -- so no output shows
    shows_nothing : detected K c (Some f) q ≡ false
    shows_nothing =
        list_any_none (λ (o : ℕ). shows (set_of sets o)) c.outputs (λ i d inside.
        let o : ℕ = get_or c.outputs i d in
        has_unshown (set_of sets o) (get_or row o false) (each_twice (line_count c) (omega arith) o (outputs_below c rules i d inside)).1)

-- a fault that is not excited shows at no output
pub unexcited_shows_nothing : (K : Kind) (M : Pairs → Type 0) (l : Lawful K M) (c : Circuit) → lawful c ≡ true → (f : Fault) (q : Cube)
    → excited K c f (simulated K c (Some f) q) ≡ false → detected K c (Some f) q ≡ false
unexcited_shows_nothing K M l c rules f q e = go (stuck_set K c f (simulated K c (Some f) q)) refl
  where
    go : (o : Option Pairs) → stuck_set K c f (simulated K c (Some f) q) ≡ o → detected K c (Some f) q ≡ false
    go None lacking = shows_nothing K M l c rules f q false (λ s is. absurd (none-some s (sym lacking ∙ is)))
    go (Some t) carried =
        let (b, inside) = unshown_has t (ap (λ (s : Option Pairs). option_map_or shows s false) (sym carried) ∙ e) in
        shows_nothing K M l c rules f q b (λ s is. let same : Some t ≡ Some s = sym carried ∙ is in subst (λ (u : Pairs). pair b b ∈ u) (same_Some t s same) inside)

-- Whether a fault is excited shows in the sets of the lines up to the fault's.
module _ (K : Kind) (c : Circuit) (rules : lawful c ≡ true) (f : Fault) (sets rows : List Pairs) (long : length sets ≡ length rows)
    (alike : (o : ℕ) → o ≤ f.line → set_of rows o ≡ set_of sets o) where
  -- a line up to it is there in both, with the same set, or in neither
  found_alike : (o : ℕ) → o ≤ f.line → slice_get rows o ≡ slice_get sets o
  found_alike o low = elim (cases_lt o (length sets)) [
    | inl inside ↦
        slice_get-get_or rows o (only false false) (omega (arith, inside, long)) ∙ ap Some (alike o low) ∙ sym (slice_get-get_or sets o (only false false) inside)
    | inr past ↦ slice_get_past rows o (omega (arith, past, long)) ∙ sym (slice_get_past sets o past)
  ]

  -- what any pin of its line carries is the same
  stuck_by_front : (pin : ℕ) → stuck_at_pin K c f rows pin ≡ stuck_at_pin K c f sets pin
  stuck_by_front zero = found_alike f.line (omega arith)
  stuck_by_front (suc place) = go (operand_line c f.line place) refl
    where
      go : (read : Option ℕ) → operand_line c f.line place ≡ read
          → option_map (K.values.stick f.level) (option_and_then (slice_get rows) read) ≡ option_map (K.values.stick f.level) (option_and_then (slice_get sets) read)
      go None e = refl
      go (Some o) e = ap (option_map (K.values.stick f.level)) (found_alike o (omega (arith, operand_line_below c rules f.line place o e)))

  pub excited_by_front : excited K c f rows ≡ excited K c f sets
  excited_by_front = ap (λ (s : Option Pairs). option_map_or shows s false) (stuck_by_front f.pin)

-- a fault at a line that the circuit lacks is not excited
pub lacking_unexcited : (K : Kind) (c : Circuit) (f : Fault) (sets : List Pairs) → length sets ≡ line_count c → line_count c ≤ f.line → excited K c f sets ≡ false
lacking_unexcited K c f sets long past = ap (λ (s : Option Pairs). option_map_or shows s false) (nothing f.pin)
  where
    no_gate_there : gate_at c f.line ≡ None
    no_gate_there =
        ap (λ (b : Bool). cond b None (slice_get c.gates (f.line - length c.inputs))) (le-ltb f.line (length c.inputs) (omega (arith, past)))
        ∙ slice_get_past c.gates (f.line - length c.inputs) (omega (arith, past))

    nothing : (pin : ℕ) → stuck_at_pin K c f sets pin ≡ None
    nothing zero = slice_get_past sets f.line (omega (arith, long, past))
    nothing (suc place) =
        ap (λ (g : Option Gate). option_map (K.values.stick f.level) (option_and_then (slice_get sets) (option_and_then (λ (h : Gate). slice_get h.operands place) g))) no_gate_there
