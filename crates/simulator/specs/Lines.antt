-- What each line of a circuit carries, whatever the values are that its gates combine.
use Rattle.std.specs.Prelude.{ℕ, zero, suc, ◌+◌, false, cond, ◌&&◌, List, [], ◌∷◌, ◌++◌, length, Some, None, fold, Option, ◌==◌, slice_index_or}
use Rattle.values.specs.Values.{Gates, Values}
use Rattle.circuit.specs.declared.op.Op.{Op}
use Rattle.circuit.specs.declared.op.Op.TheVariants.{And, Nand, Or, Nor, Xor, Xnor, Not, Buf}
use Rattle.circuit.specs.Model.{Gate, Circuit}
use Rattle.faults.specs.declared.fault.Fault.{Fault}

-- What a pin of a line carries: stuck if the fault is at that pin. Pin 0 is the line itself, and pin k the k-th operand
-- of the line's gate. Without a fault, or where the circuit lacks the fault's pin, nothing is stuck.
abbrev pub at_pin : {V : Type 0} → Values V → Option Fault → ℕ → ℕ → V → V
at_pin A None line pin x = x
at_pin A (Some f) line pin x = cond (f.line == line && f.pin == pin) (A.stick f.level x) x

-- what a gate makes of two operands; one that takes a single operand joins nothing
abbrev pub join : {V : Type 0} → Gates V → Op → V → V → V
join G And x y = G.both x y
join G Nand x y = G.both x y
join G Or x y = G.either x y
join G Nor x y = G.either x y
join G Xor x y = G.differ x y
join G Xnor x y = G.differ x y
join G Not x y = x
join G Buf x y = x

-- the joined operands' value, negated if the operator negates
abbrev pub negated_by : {V : Type 0} → Gates V → Op → V → V
negated_by G And x = x
negated_by G Nand x = G.negate x
negated_by G Or x = x
negated_by G Nor x = G.negate x
negated_by G Xor x = x
negated_by G Xnor x = G.negate x
negated_by G Not x = G.negate x
negated_by G Buf x = x

-- the operands from left to right: each is joined to what came of those before it; a gate has at least one
abbrev pub joined : {V : Type 0} → Gates V → Op → List V → V
joined G op [] = G.known false
joined G op (x ∷ xs) = fold (join G op) x xs

-- the value of a line, and known 0 for a line that is not in the row
abbrev pub line_value : {V : Type 0} → Values V → List V → ℕ → V
line_value A row line = slice_index_or row line (A.gates.known false)

-- what the operands of the gate of a line carry, from that pin on
abbrev pub operands_from : {V : Type 0} → Values V → Option Fault → List V → ℕ → ℕ → List ℕ → List V
operands_from A f row line pin [] = []
operands_from A f row line pin (o ∷ os) = at_pin A f line pin (line_value A row o) ∷ operands_from A f row line (pin + 1) os

-- what a gate carries whose line comes next after those of the row
abbrev pub gate_value : {V : Type 0} → Values V → Option Fault → List V → Gate → V
gate_value A f row g =
    at_pin A f (length row) 0 (negated_by A.gates g.op (joined A.gates g.op (operands_from A f row (length row) 1 g.operands)))

-- the row with the lines of the gates after it, each gate worked out from the lines before it
abbrev pub gates_after : {V : Type 0} → Values V → Option Fault → List V → List Gate → List V
gates_after A f row [] = row
gates_after A f row (g ∷ gs) = gates_after A f (row ++ (gate_value A f row g ∷ [])) gs

-- the lines of the first inputs, of which there are so many
abbrev pub inputs_row : {V : Type 0} → Values V → Option Fault → (ℕ → V) → ℕ → List V
inputs_row A f input zero = []
inputs_row A f input (suc k) = inputs_row A f input k ++ (at_pin A f k 0 (input k) ∷ [])

-- What each line carries, in the order of the lines, given what drives each input.
abbrev pub lines : {V : Type 0} → Values V → Circuit → Option Fault → (ℕ → V) → List V
lines A c f input = gates_after A f (inputs_row A f input (length c.inputs)) c.gates
