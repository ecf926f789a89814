use Rattle.std.proofs.Common.{◌≡◌, refl, ℕ, ◌+◌, Bool, false, cond, ◌&&◌, ◌==◌, List, [], ◌∷◌, Some, None, length, map, ap, ◌∙◌, arith}
use Rattle.std.proofs.lemmas.List.{length-map}
use Rattle.values.specs.Values.{Values}
use Rattle.std.proofs.lemmas.Grind.{common_steps}
use Rattle.circuit.specs.Model.{Gate}
use Rattle.circuit.specs.Tables.{gate_model}
use Rattle.faults.specs.declared.fault.Fault.{Fault}
use Rattle.simulator.specs.Lines.{at_pin, operands_from, gate_value}
use Rattle.simulator.proofs.gates.gate_value.Goals as goal
use Rattle.simulator.proofs.gates.gate_value.Goals.{in_default-via-in-Some+else-line-row, in_default-via-in_default}

-- a fault at another line does nothing at a pin of this one
pin_of_another : {V : Type 0} (A : Values V) (f : Fault) (line pin : ℕ) (x : V) → (f.line == line) ≡ false → at_pin A (Some f) line pin x ≡ x
pin_of_another A f line pin x other = ap (λ (b : Bool). cond (b && f.pin == pin) (A.stick f.level x) x) other

operands_of_another : {V : Type 0} (A : Values V) (f : Fault) (row : List V) (line pin : ℕ) (operands : List ℕ) → (f.line == line) ≡ false
    → operands_from A (Some f) row line pin operands ≡ operands_from A None row line pin operands
operands_of_another A f row line pin [] other = refl
operands_of_another A f row line pin (o ∷ os) other = rw (pin_of_another A f line pin _ other, operands_of_another A f row line (pin + 1) os other) refl

gate_of_another : {V : Type 0} (A : Values V) (f : Fault) (row : List V) (g : Gate) → (f.line == length row) ≡ false → gate_value A (Some f) row g ≡ gate_value A None row g
gate_of_another A f row g other = rw (pin_of_another A f (length row) 0 _ other, operands_of_another A f row (length row) 1 g.operands other) refl

pub returns-in_default : goal.returns-in_default
returns-in_default g c =
    let v = g.V.ValueKind in
    let A = v.kind.values in
    let row = c.args.row.now in
    let gate = gate_model c.args.gate.now in
    elim c.in_default.branch [
      | in_default-via-in-Some+else-line-row w ↦
          let f = w.in-Some.fault in
          let other : (f.line == length row) ≡ false = grind (arith, common_steps, w.if-line-row.false, w.line.ensures) in
          rw (w.in-Some.is, gate_of_another A f (map v.meaning row) gate (ap (◌==◌ f.line) (length-map row v.meaning) ∙ other)) c.value_by-in_default.ensures
      | in_default-via-in_default w ↦ rw w.in_default.is c.value_by-in_default.ensures
    ]
