-- Two-valued logic in its own words: what holds between the levels of a circuit's lines, and nothing of how they are worked out.
use Rattle.std.specs.Prelude.{◌≡◌, ℕ, ◌+◌, ◌%◌, ◌<◌, Bool, true, false, not, List, length, Option, ◌==◌, slice_index_or, count_by}
use Rattle.std.specs.List.{list_all, list_any}
use Rattle.values.specs.Values.{faulty_levels}
use Rattle.circuit.specs.declared.op.Op.{Op}
use Rattle.circuit.specs.declared.op.Op.TheVariants.{And, Nand, Or, Nor, Xor, Xnor, Not, Buf}
use Rattle.circuit.specs.Model.{Gate, Circuit, line_count}
use Rattle.circuit.specs.Lawful.{lawful}
use Rattle.faults.specs.declared.fault.Fault.{Fault}
use Rattle.simulator.specs.Lines.{at_pin, operands_from}
use Rattle.simulator.specs.Fanouts.{no_gate}
use Rattle.simulator.specs.Detection.{bit, levels_under}

-- is each operand 1?
abbrev pub each_is_1 : List Bool → Bool
each_is_1 operands = list_all (λ (x : Bool). x) operands

-- is some operand 1?
abbrev pub some_is_1 : List Bool → Bool
some_is_1 operands = list_any (λ (x : Bool). x) operands

-- is the number of operands that are 1 odd?
abbrev pub odd_are_1 : List Bool → Bool
odd_are_1 operands = count_by (λ (x : Bool). x) operands % 2 == 1

-- What an operator makes of the levels of its operands. And is 1 where each operand is 1; or, where some operand is; xor, where an odd number of
-- them is; nand, nor and xnor, where these are not. Of its one operand buf makes the same level, and not the other.
abbrev pub operator_level : Op → List Bool → Bool
operator_level And operands = each_is_1 operands
operator_level Nand operands = not (each_is_1 operands)
operator_level Or operands = some_is_1 operands
operator_level Nor operands = not (some_is_1 operands)
operator_level Xor operands = odd_are_1 operands
operator_level Xnor operands = not (odd_are_1 operands)
operator_level Not operands = not (each_is_1 operands)
operator_level Buf operands = each_is_1 operands

-- a gate, by its place among the gates
abbrev pub gate_of : Circuit → ℕ → Gate
gate_of c k = slice_index_or c.gates k no_gate

-- The levels of the lines obey the circuit under a vector: the line of an input has the vector's level, and the line of a gate the level that its
-- operator makes of the lines that the gate reads; the pin of the fault has its stuck level instead.
pub record Obeys (c : Circuit) (f : Option Fault) (v : ℕ) (row : List Bool) : Type 0 where
  pub long : length row ≡ line_count c
  pub inputs : (i : ℕ) → i < length c.inputs → slice_index_or row i false ≡ at_pin faulty_levels f i 0 (bit v i)
  pub gates : (k : ℕ) → k < length c.gates → slice_index_or row (length c.inputs + k) false
      ≡ at_pin faulty_levels f (length c.inputs + k) 0
      (operator_level (gate_of c k).op (operands_from faulty_levels f row (length c.inputs + k) 1 (gate_of c k).operands))

-- In a circuit that keeps the rules the levels under a vector obey the circuit, with a fault or without, and no others do.
abbrev pub LevelsAreLogic : Type 0
LevelsAreLogic =
    (c : Circuit) → lawful c ≡ true → (f : Option Fault) (v : ℕ) → Obeys c f v (levels_under c f v) × ((row : List Bool) → Obeys c f v row → row ≡ levels_under c f v)
