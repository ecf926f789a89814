-- Working out again what a change of the cube can have changed.
use Rattle.std.proofs.Common.{◌≡◌, ℕ, zero, suc, ◌+◌, ◌-◌, ◌<◌, ◌≤◌, ◌/◌, ◌%◌, ◌^◌, max, Bool, true, false, cond, eqb, List, [], ◌∷◌, ◌++◌, map, length, take, drop, get_or, set, Option, All, ◌⊎◌, sym, refl, subst, ap, ◌∙◌, inl, inr, arith}
use Rattle.std.proofs.lemmas.Bool.{cases_eq}
use Rattle.std.specs.Int.Bits.{bit_xor}
use Rattle.std.proofs.lemmas.Nat.Bits.{bit_at_or, bit_at_xor, bit_at-lt}
use Rattle.std.proofs.Math.Seq.{take-append_seam}
use Rattle.std.proofs.Math.ListN.{get_or-append}
use Rattle.std.proofs.lemmas.Grind.{common_steps}
use Rattle.std.proofs.lemmas.List.{get_or_default, get_or-take, set-get_or, take-map, length-take-le}
use Rattle.values.specs.Pairs.{Pairs, only}
use Rattle.values.specs.Kind.{Kind}
use Rattle.circuit.specs.Model.{Gate, Circuit, line_count}
use Rattle.circuit.specs.Lawful.{lawful}
use Rattle.faults.specs.declared.fault.Fault.{Fault}
use Rattle.faults.specs.Cubes.{Cube}
use Rattle.simulator.specs.declared.line_set.LineSet.{LineSet}
use Rattle.simulator.specs.LineSets.{has, Includes}
use Rattle.simulator.specs.Fanouts.{none_reads, operands_at, no_gate, Complete}
use Rattle.simulator.specs.Lines.{line_value, at_pin, gate_value}
use Rattle.simulator.specs.Detection.{bit, input_value, simulated, set_of}
use Rattle.simulator.specs.Resimulation.{changed_inputs, Waits, Traced, Writes, Redrives, Resettles}
use Rattle.simulator.proofs.Lines.{gate_same, operands_below, gates_fit, lines_long, lines_input, gate_line}

-- a line that a larger set lacks a smaller one lacks too
pub lacks : (s t : LineSet) (line : ℕ) → Includes s t → has s line ≡ false → has t line ≡ false
lacks s t line inc e = go (has t line) refl
  where
    go : (b : Bool) → has t line ≡ b → b ≡ false
    go false h = refl
    go true h = absurd (let clash = sym (inc line h) ∙ e in cc)

-- one line more has its new value: it is the old one, or the gates that read it wait
waits_more : (c : Circuit) (bound : ℕ) (readers : List LineSet) (waiting more : LineSet) (old new : List Pairs)
    → Complete (length c.inputs) c.gates readers → Includes more waiting → Waits c bound waiting old new
    → (set_of old bound ≡ set_of new bound) ⊎ Includes more (get_or readers bound none_reads)
    → Waits c (bound + 1) more old new
waits_more c bound readers waiting more old new complete inc waits turn k h lacking i d inside below =
    at (cases_eq (get_or (operands_at c.gates k) i d) bound) turn
  where
    operand : ℕ
    operand = get_or (operands_at c.gates k) i d

    line : ℕ
    line = length c.inputs + k

    at : (operand ≡ bound) ⊎ (operand ≡ bound → ⊥) → (set_of old bound ≡ set_of new bound) ⊎ Includes more (get_or readers bound none_reads)
        → set_of old operand ≡ set_of new operand
    at (inl same) (inl alike) = ap (set_of old) same ∙ alike ∙ ap (set_of new) (sym same)
    at (inl same) (inr wait) =
        let noted : has (get_or readers bound none_reads) line ≡ true =
        ap (λ (o : ℕ). has (get_or readers o none_reads) line) (sym same) ∙ complete k h i d inside in
        absurd (let clash = sym (wait line noted) ∙ lacking in cc)
    at (inr other) t = waits k h (lacks more waiting line inc lacking) i d inside (omega (arith, other, below))

-- the seam of the new sets and the old ones moves by one line
seam_moves_up : (line : ℕ) (old new : List Pairs) → length old ≡ length new → line < length new
    → set (take line new ++ drop line old) line (set_of new line) ≡ take (suc line) new ++ drop (suc line) old
seam_moves_up line [] [] same h = absurd (omega arith)
seam_moves_up line [] (n ∷ new) same h = absurd (omega arith)
seam_moves_up line (o ∷ old) [] same h = absurd (omega arith)
seam_moves_up zero (o ∷ old) (n ∷ new) same h = refl
seam_moves_up (suc line) (o ∷ old) (n ∷ new) same h = ap (λ (sets : List Pairs). n ∷ sets) (seam_moves_up line old new (omega arith) (omega arith))

seam_moves : (line : ℕ) (old new : List Pairs) → length old ≡ length new → line < length new
    → set (take line new ++ drop line old) line (set_of new line) ≡ take (line + 1) new ++ drop (line + 1) old
seam_moves line old new same h =
    let up : suc line ≡ line + 1 = omega arith in
    seam_moves_up line old new same h ∙ ap (λ (n : ℕ). take n new ++ drop n old) up

-- at the seam stands the old set
pub seam_reads : (line : ℕ) (old new : List Pairs) → length old ≡ length new → line < length new → set_of (take line new ++ drop line old) line ≡ set_of old line
seam_reads line [] [] same h = absurd (omega arith)
seam_reads line [] (n ∷ new) same h = absurd (omega arith)
seam_reads line (o ∷ old) [] same h = absurd (omega arith)
seam_reads zero (o ∷ old) (n ∷ new) same h = refl
seam_reads (suc line) (o ∷ old) (n ∷ new) same h = seam_reads line old new (omega arith) (omega arith)

-- where the old set is the new one, the seam moves by itself
seam_skips : (line : ℕ) (old new : List Pairs) → length old ≡ length new → line < length new → set_of old line ≡ set_of new line
    → take line new ++ drop line old ≡ take (line + 1) new ++ drop (line + 1) old
seam_skips line old new same h alike =
    sym (set-get_or (take line new ++ drop line old) line (only false false))
    ∙ ap (set (take line new ++ drop line old) line) (seam_reads line old new same h ∙ alike)
    ∙ seam_moves line old new same h

-- What two cubes drive alike has one value.
module _ (q t : Cube) (i : ℕ) (alike : (changed_inputs q t / 2 ^ i % 2 ≡ 1) → ⊥) where
  bits : max ((q.driven / 2 ^ i % 2 + t.driven / 2 ^ i % 2) % 2) ((q.level / 2 ^ i % 2 + t.level / 2 ^ i % 2) % 2) ≡ 0
  bits =
      let joined : changed_inputs q t / 2 ^ i % 2 ≡ max (bit_xor q.driven t.driven / 2 ^ i % 2) (bit_xor q.level t.level / 2 ^ i % 2) =
      bit_at_or (bit_xor q.driven t.driven) (bit_xor q.level t.level) i in
      let none : changed_inputs q t / 2 ^ i % 2 ≡ 0 = omega (arith, alike, bit_at-lt (changed_inputs q t) i) in
      sym (ap (λ (n : ℕ). max n ((q.level / 2 ^ i % 2 + t.level / 2 ^ i % 2) % 2)) (bit_at_xor q.driven t.driven i))
      ∙ sym (ap (max (bit_xor q.driven t.driven / 2 ^ i % 2)) (bit_at_xor q.level t.level i))
      ∙ sym joined
      ∙ none

  unchanged : (K : Kind) → input_value K q i ≡ input_value K t i
  unchanged K =
      let driven : q.driven / 2 ^ i % 2 ≡ t.driven / 2 ^ i % 2 = omega (arith, bits, bit_at-lt q.driven i, bit_at-lt t.driven i) in
      let level : q.level / 2 ^ i % 2 ≡ t.level / 2 ^ i % 2 = omega (arith, bits, bit_at-lt q.level i, bit_at-lt t.level i) in
      ap (λ (n : ℕ). cond (eqb n 1) (K.values.gates.known (bit q.level i)) K.unknown) driven
      ∙ ap (λ (n : ℕ). cond (bit t.driven i) (K.values.gates.known (eqb n 1)) K.unknown) level

-- A row on its way from the values of one cube to those of another.
module _ {V : Type 0} (K : Kind) (meaning : V → Pairs) (c : Circuit) (f : Option Fault) (q t : Cube) (readers : List LineSet) (noted : Complete (length c.inputs) c.gates readers) where
  abbrev old : List Pairs
  old = simulated K c f q

  abbrev new : List Pairs
  new = simulated K c f t

  old_long : length old ≡ line_count c
  old_long = lines_long K.values f (input_value K q) c

  new_long : length new ≡ line_count c
  new_long = lines_long K.values f (input_value K t) c

  -- a row that has the old values is traced up to no line
  pub traced_none : (waiting : LineSet) (row : List V) → map meaning row ≡ old → Traced K meaning c f q t 0 waiting row
  traced_none waiting row held = record { turned = held; waits = λ k h lacking i d inside below. absurd (omega (arith, below)) }

  -- a line that keeps its set is passed over
  traced_skip : (line : ℕ) (waiting : LineSet) (row : List V) → line < line_count c → set_of old line ≡ set_of new line
      → Traced K meaning c f q t line waiting row → Traced K meaning c f q t (line + 1) waiting row
  traced_skip line waiting row here kept s = record {
    turned = s.turned ∙ seam_skips line old new (old_long ∙ sym new_long) (omega (arith, here, new_long)) kept;
    waits = waits_more c line readers waiting waiting old new noted (λ k e. e) s.waits (inl kept);
  }

  -- the value of a line is written, and if it is another one, those that read it wait
  traced_write : (line : ℕ) (waiting more : LineSet) (row after : List V) (value : V) (other : Bool) → line < line_count c → meaning value ≡ set_of new line
      → Writes meaning line value row after other → Includes more waiting → (other ≡ true → Includes more (get_or readers line none_reads))
      → Traced K meaning c f q t line waiting row → Traced K meaning c f q t (line + 1) more after
  traced_write line waiting more row after value other here is w inc wait s =
      let same : length old ≡ length new = old_long ∙ sym new_long in
      let inside : line < length new = omega (arith, here, new_long) in
      let kept : other ≡ false → set_of old line ≡ set_of new line = λ e.
      sym (seam_reads line old new same inside) ∙ ap (λ (vs : List Pairs). set_of vs line) (sym s.turned) ∙ sym (w.same e) ∙ is in
      let turn : (set_of old line ≡ set_of new line) ⊎ Includes more (get_or readers line none_reads) = go other refl kept wait in
      record {
        turned = w.sets ∙ ap (λ (vs : List Pairs). set vs line (meaning value)) s.turned ∙ ap (set (take line new ++ drop line old) line) is ∙ seam_moves line old new same inside;
        waits = waits_more c line readers waiting more old new noted inc s.waits turn;
      }
    where
      go : (b : Bool) → other ≡ b → (other ≡ false → set_of old line ≡ set_of new line) → (other ≡ true → Includes more (get_or readers line none_reads))
          → (set_of old line ≡ set_of new line) ⊎ Includes more (get_or readers line none_reads)
      go false e alike waits = inl (alike e)
      go true e alike waits = inr (waits e)

  -- an input that both cubes drive alike keeps its set
  input_keeps : (i : ℕ) → i < length c.inputs → changed_inputs q t / 2 ^ i % 2 ≡ 0 → set_of old i ≡ set_of new i
  input_keeps i below zero_bit =
      lines_input K.values f (input_value K q) c i (only false false) below
      ∙ ap (at_pin K.values f i 0) (unchanged q t i (λ one_bit. absurd (omega (arith, zero_bit, one_bit))) K)
      ∙ sym (lines_input K.values f (input_value K t) c i (only false false) below)

  -- the inputs up to the next that is changed are passed over
  inputs_skipped : (n from : ℕ) (waiting : LineSet) (row : List V) → from + n ≤ length c.inputs → ((i : ℕ) → from ≤ i → i < from + n → changed_inputs q t / 2 ^ i % 2 ≡ 0)
      → Traced K meaning c f q t from waiting row → Traced K meaning c f q t (from + n) waiting row
  inputs_skipped zero from waiting row few zeros s = subst (λ (m : ℕ). Traced K meaning c f q t m waiting row) (omega arith) s
  inputs_skipped (suc n) from waiting row few zeros s =
      subst (λ (m : ℕ). Traced K meaning c f q t m waiting row) (omega arith)
      (inputs_skipped n (from + 1) waiting row (omega (arith, few)) (λ i at below. zeros i (omega (arith, at)) (omega (arith, below)))
      (traced_skip from waiting row (omega (arith, few)) (input_keeps from (omega (arith, few)) (zeros from (omega arith) (omega arith))) s))

  pub inputs_until : (from next : ℕ) (waiting : LineSet) (row : List V) → from ≤ next → next ≤ length c.inputs → ((i : ℕ) → from ≤ i → i < next → changed_inputs q t / 2 ^ i % 2 ≡ 0)
      → Traced K meaning c f q t from waiting row → Traced K meaning c f q t next waiting row
  inputs_until from next waiting row at few zeros s =
      let here : from + (next - from) ≡ next = omega (arith, at) in
      subst (λ (m : ℕ). Traced K meaning c f q t m waiting row) here
      (inputs_skipped (next - from) from waiting row (omega (arith, here, few)) (λ i above below. zeros i above (omega (arith, below, here))) s)

  -- and it is worked out
  pub input_turned : (next : ℕ) (waiting more : LineSet) (row after : List V) (value : V) (other : Bool) → next < length c.inputs
      → meaning value ≡ at_pin K.values f next 0 (input_value K t next)
      → Writes meaning next value row after other → Includes more waiting → (other ≡ true → Includes more (get_or readers next none_reads))
      → Traced K meaning c f q t next waiting row → Traced K meaning c f q t (next + 1) more after
  input_turned next waiting more row after value other inside worked =
      traced_write next waiting more row after value other (omega (arith, inside)) (worked ∙ sym (lines_input K.values f (input_value K t) c next (only false false) inside))

  module _ (rules : lawful c ≡ true) where
    -- the gate of a line
    abbrev pub gate_of : ℕ → Gate
    gate_of line = get_or c.gates (line - length c.inputs) no_gate

    -- a gate that does not wait keeps its set
    gate_keeps : (line : ℕ) (waiting : LineSet) → length c.inputs ≤ line → line < line_count c → Waits c line waiting old new → has waiting line ≡ false
        → set_of old line ≡ set_of new line
    gate_keeps line waiting from below waits lacking =
        let k : ℕ = line - length c.inputs in
        let is : line ≡ length c.inputs + k = omega (arith, from) in
        let few : k < length c.gates = omega (arith, from, below) in
        let g : Gate = gate_of line in
        let known : Pairs = K.values.gates.known false in
        let fits = gates_fit c rules k few in
        let alike : All (λ (o : ℕ). line_value K.values (take line old) o ≡ line_value K.values (take line new) o) g.operands = λ i d inside.
        let o : ℕ = get_or g.operands i d in
        let low : o < line = omega (arith, operands_below (length c.inputs + k) g fits i d inside, is) in
        get_or-take line old o known low
        ∙ get_or_default old o known (only false false) (omega (arith, low, below, old_long))
        ∙ waits k few (ap (has waiting) (sym is) ∙ lacking) i d inside low
        ∙ get_or_default new o (only false false) known (omega (arith, low, below, new_long))
        ∙ sym (get_or-take line new o known low) in
        let long : length (take line old) ≡ length (take line new) =
        length-take-le line old (omega (arith, below, old_long)) ∙ sym (length-take-le line new (omega (arith, below, new_long))) in
        gate_line K.values f (input_value K q) c k line (only false false) is few
        ∙ gate_same K.values f (take line old) (take line new) g long alike
        ∙ sym (gate_line K.values f (input_value K t) c k line (only false false) is few)

    gates_skipped : (n line : ℕ) (waiting : LineSet) (row : List V) → length c.inputs ≤ line → line + n ≤ line_count c → ((k : ℕ) → line ≤ k → k < line + n → has waiting k ≡ false)
        → Traced K meaning c f q t line waiting row → Traced K meaning c f q t (line + n) waiting row
    gates_skipped zero line waiting row from few lacking s = subst (λ (m : ℕ). Traced K meaning c f q t m waiting row) (omega arith) s
    gates_skipped (suc n) line waiting row from few lacking s =
        subst (λ (m : ℕ). Traced K meaning c f q t m waiting row) (omega arith)
        (gates_skipped n (line + 1) waiting row (omega (arith, from)) (omega (arith, few)) (λ k at below. lacking k (omega (arith, at)) (omega (arith, below)))
        (traced_skip line waiting row (omega (arith, few)) (gate_keeps line waiting from (omega (arith, few)) s.waits (lacking line (omega arith) (omega arith))) s))

    -- the gates up to the next that waits are passed over
    pub gates_until : (line next : ℕ) (waiting : LineSet) (row : List V) → length c.inputs ≤ line → line ≤ next → next ≤ line_count c
        → ((k : ℕ) → line ≤ k → k < next → has waiting k ≡ false)
        → Traced K meaning c f q t line waiting row → Traced K meaning c f q t next waiting row
    gates_until line next waiting row from at few lacking s =
        let here : line + (next - line) ≡ next = omega (arith, at) in
        subst (λ (m : ℕ). Traced K meaning c f q t m waiting row) here
        (gates_skipped (next - line) line waiting row from (omega (arith, here, few)) (λ k above below. lacking k above (omega (arith, below, here))) s)

    -- and it is worked out
    pub gate_turned : (next : ℕ) (waiting more : LineSet) (row after : List V) (value : V) (other : Bool) → length c.inputs ≤ next → next < line_count c
        → meaning value ≡ gate_value K.values f (map meaning (take next row)) (gate_of next)
        → Writes meaning next value row after other → Includes more waiting → (other ≡ true → Includes more (get_or readers next none_reads))
        → Traced K meaning c f q t next waiting row → Traced K meaning c f q t (next + 1) more after
    gate_turned next waiting more row after value other from below worked w inc wait s =
        let k : ℕ = next - length c.inputs in
        let front : map meaning (take next row) ≡ take next new =
        sym (take-map meaning next row)
        ∙ ap (take next) s.turned
        ∙ ap (λ (n : ℕ). take n (take next new ++ drop next old)) (sym (length-take-le next new (omega (arith, below, new_long))))
        ∙ take-append_seam (take next new) (drop next old) in
        let is : meaning value ≡ set_of new next =
        worked
        ∙ ap (λ (vs : List Pairs). gate_value K.values f vs (gate_of next)) front
        ∙ sym (gate_line K.values f (input_value K t) c k next (only false false) (omega (arith, from)) (omega (arith, from, below))) in
        traced_write next waiting more row after value other below is w inc wait s

  -- traced to the end, the row has the new values
  pub traced_all : (line : ℕ) (waiting : LineSet) (row : List V) → line_count c ≤ line → Traced K meaning c f q t line waiting row → map meaning row ≡ new
  traced_all line waiting row all s = s.turned ∙ grind (arith, common_steps, all, old_long, new_long)

  -- traced up to a line, it has the new values of the lines before
  pub traced_before : (line o : ℕ) (waiting : LineSet) (row : List V) → o < line → line ≤ line_count c → Traced K meaning c f q t line waiting row
      → set_of (map meaning row) o ≡ set_of new o
  traced_before line o waiting row low few s =
      ap (λ (vs : List Pairs). set_of vs o) s.turned
      ∙ get_or-append (take line new) (drop line old) (only false false) o (omega (arith, low, length-take-le line new (omega (arith, few, new_long))))
      ∙ get_or-take line new o (only false false) low

-- Driven anew and then settled anew, a row that has the old values is traced up to the end of settling.
pub retraced : {V : Type 0} (K : Kind) (meaning : V → Pairs) (c : Circuit) (f : Option Fault) (q t : Cube) (from end : ℕ) (waiting more : LineSet) (before driven after : List V)
    → from ≡ length c.inputs → map meaning before ≡ simulated K c f q → Redrives K meaning c f q t before driven waiting → Resettles K meaning c f from end waiting more driven after
    → Traced K meaning c f q t (max from end) more after
retraced K meaning c f q t from end waiting more before driven after first held redrives resettles =
    resettles.1 q t (subst (λ (n : ℕ). Traced K meaning c f q t n waiting driven) (sym first) (redrives.1 held))
