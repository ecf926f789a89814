-- Where the effect of a fault can be seen.
use Rattle.std.specs.Prelude.{◌≡◌, ℕ, ◌+◌, ◌<◌, ◌≤◌, Bool, true, false, Some, None, Option, length, slice_index_or, All, ◌⊎◌}
use Rattle.circuit.specs.Model.{Circuit, line_count}
use Rattle.faults.specs.declared.fault.Fault.{Fault}
use Rattle.simulator.specs.declared.line_set.LineSet.{LineSet}
use Rattle.simulator.specs.LineSets.{has}
use Rattle.simulator.specs.Fanouts.{operands_at}
use Rattle.simulator.specs.Detection.{levels_under}

-- the level of a line under a vector
abbrev pub level_at : Circuit → Option Fault → ℕ → ℕ → Bool
level_at c f v line = slice_index_or (levels_under c f v) line false

-- no output from that line on has another level with the fault than without it, under any vector
abbrev pub UnseenFrom : Circuit → Option Fault → ℕ → Type 0
UnseenFrom c f end = (v : ℕ) → All (λ (o : ℕ). end ≤ o → level_at c f v o ≡ level_at c None v o) c.outputs

-- The lines that the effect of the fault can reach, by the circuit's shape: the fault's own, and that of each gate which reads
-- such a line.
pub data Reaches (c : Circuit) (f : Fault) : ℕ → Type 0 where
  own_line : Reaches c f f.line
  through_gate : (k i : ℕ) → k < length c.gates → i < length (operands_at c.gates k) → Reaches c f (slice_index_or (operands_at c.gates k) i 0)
      → Reaches c f (length c.inputs + k)

-- each line of the circuit that the effect can reach is in the set
abbrev pub AllReached : Circuit → Fault → LineSet → Type 0
AllReached c f reached = (line : ℕ) → line < line_count c → Reaches c f line → has reached line ≡ true

-- no other line is in the set
abbrev pub OnlyReached : Circuit → Fault → LineSet → Type 0
OnlyReached c f reached = (line : ℕ) → has reached line ≡ true → Reaches c f line

-- the end is the line after the last output that the effect can reach
pub record ReachEnd (c : Circuit) (f : Fault) (end : ℕ) : Type 0 where
  -- each output that the effect can reach stands before the end
  pub before : All (λ (o : ℕ). Reaches c f o → o < end) c.outputs
  -- the end is 0, or just behind an output that the effect can reach
  pub last : (end ≡ 0) ⊎ ((i : ℕ) × (o : ℕ) × (i < length c.outputs) × (o ≡ slice_index_or c.outputs i 0) × Reaches c f o × (end ≡ o + 1))
  -- so no output from the end on has another level with the fault than without it
  pub unseen : UnseenFrom c (Some f) end
