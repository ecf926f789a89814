-- Whether a fault is excited: at its pin the levels without it and with it are unlike.
use Rattle.std.specs.Prelude.{ℕ, zero, suc, Bool, false, List, Option, slice_get}
use Rattle.std.specs.Option.{option_map, option_and_then, option_map_or}
use Rattle.values.specs.Pairs.{Pairs, shows}
use Rattle.values.specs.Kind.{Kind}
use Rattle.circuit.specs.Model.{Gate, Circuit, gate_at}
use Rattle.faults.specs.declared.fault.Fault.{Fault}

-- the line that an operand of a line's gate names, by its place among the operands from 0, if there are that gate and that operand
abbrev pub operand_line : Circuit → ℕ → ℕ → Option ℕ
operand_line c line place = option_and_then (λ (g : Gate). slice_get g.operands place) (gate_at c line)

-- What that pin of the fault's line carries if it is the one that sticks, where the lines have these sets: pin 0 the set of the line, which is
-- stuck already, and pin k what the set of the k-th operand's line is stuck to. Nothing, if the circuit lacks the pin.
abbrev pub stuck_at_pin : Kind → Circuit → Fault → List Pairs → ℕ → Option Pairs
stuck_at_pin K c f sets zero = slice_get sets f.line
stuck_at_pin K c f sets (suc place) = option_map (K.values.stick f.level) (option_and_then (slice_get sets) (operand_line c f.line place))

-- what the pin of the fault carries
abbrev pub stuck_set : Kind → Circuit → Fault → List Pairs → Option Pairs
stuck_set K c f sets = stuck_at_pin K c f sets f.pin

-- the fault's pin carries unlike levels, in each pair
abbrev pub excited : Kind → Circuit → Fault → List Pairs → Bool
excited K c f sets = option_map_or shows (stuck_set K c f sets) false
