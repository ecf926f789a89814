-- Which faults a circuit has, and when two are the same.
use Rattle.std.specs.Prelude.{ℕ, Bool, true, false, cond, not, ◌&&◌, Ok, Err, Result, ◌==◌, nat_le, nat_lt}
use Rattle.refusals.specs.declared.layers.FolderRefusal.{FolderRefusal}
use Rattle.refusals.specs.declared.layers.FolderRefusal.TheVariants.{NoSuchLine, NoSuchPin, LevelAboveOne}
use Rattle.circuit.specs.Model.{Circuit, line_count, operand_count}
use Rattle.faults.specs.declared.fault.Fault.{Fault}

-- the fault of these parts
abbrev pub fault : ℕ → ℕ → Bool → Fault
fault line pin level = record { line = line; pin = pin; level = level }

-- The fault of a line, a pin and a level, or the first reason why the circuit has none: it lacks the line, the line
-- lacks the pin (0 is the line itself, k the k-th operand of its gate), or the level is neither 0 nor 1.
abbrev pub fault_made : Circuit → ℕ → ℕ → ℕ → Result Fault FolderRefusal
fault_made c line pin level =
    cond (nat_le (line_count c) line) (Err NoSuchLine)
    (cond (nat_lt (operand_count c line) pin) (Err NoSuchPin)
    (cond (nat_lt 1 level) (Err LevelAboveOne) (Ok (fault line pin (level == 1)))))

-- whether two levels are one
abbrev pub same_level : Bool → Bool → Bool
same_level true b = b
same_level false b = not b

-- whether two faults are one: the same pin of the same line, stuck at the same level
abbrev pub same_fault : Fault → Fault → Bool
same_fault f g = f.line == g.line && (f.pin == g.pin && same_level f.level g.level)
