-- Working out again what a change of the cube can have changed.
use Rattle.std.specs.Prelude.{◌≡◌, ℕ, ◌+◌, ◌/◌, ◌%◌, ◌^◌, ◌<◌, ◌≤◌, max, Bool, true, false, Some, None, List, ◌++◌, map, length, take, drop, Option, slice_get, slice_set, bit_or, All}
use Rattle.std.specs.Int.Bits.{bit_xor}
use Rattle.values.specs.Pairs.{Pairs}
use Rattle.values.specs.Kind.{Kind}
use Rattle.circuit.specs.Model.{Circuit, line_count}
use Rattle.faults.specs.declared.fault.Fault.{Fault}
use Rattle.faults.specs.Cubes.{Cube}
use Rattle.simulator.specs.declared.line_set.LineSet.{LineSet}
use Rattle.simulator.specs.LineSets.{has}
use Rattle.simulator.specs.Fanouts.{operands_at}
use Rattle.simulator.specs.Detection.{simulated, set_of}

-- the row begins with the values of the lines under the cube
abbrev pub Holds : {V : Type 0} → Kind → (V → Pairs) → Circuit → Option Fault → Cube → List V → Type 0
Holds K meaning c f q row = map meaning (take (line_count c) row) ≡ simulated K c f q

-- the inputs that two cubes do not drive alike, bit i for input i
abbrev pub changed_inputs : Cube → Cube → ℕ
changed_inputs q t = bit_or (bit_xor q.driven t.driven) (bit_xor q.level t.level)

-- the first of the changed inputs from that one on, if there is one below `inputs`
abbrev pub NextChanged : ℕ → ℕ → ℕ → Option ℕ → Type 0
NextChanged changed from inputs None = (i : ℕ) → from ≤ i → i < inputs → changed / 2 ^ i % 2 ≡ 0
NextChanged changed from inputs (Some next) = (from ≤ next) × (next < inputs) × (changed / 2 ^ next % 2 ≡ 1) × ((i : ℕ) → from ≤ i → i < next → changed / 2 ^ i % 2 ≡ 0)

-- In what follows a row goes from the values of one cube to those of another. The sets of the lines under the first are the old ones, and those
-- under the second the new ones.

-- Each gate waits, or else the lines below the bound that it reads have the sets that they had.
abbrev pub Waits : Circuit → ℕ → LineSet → List Pairs → List Pairs → Type 0
Waits c bound waiting old new =
    (k : ℕ) → k < length c.gates → has waiting (length c.inputs + k) ≡ false → All (λ (o : ℕ). o < bound → set_of old o ≡ set_of new o) (operands_at c.gates k)

-- The row has the new sets' values up to that line, and from there on the old ones'; and each gate waits that reads one of those lines which has another set.
pub record Traced {V : Type 0} (K : Kind) (meaning : V → Pairs) (c : Circuit) (f : Option Fault) (q t : Cube) (line : ℕ) (waiting : LineSet) (row : List V) : Type 0 where
  pub turned : map meaning row ≡ take line (simulated K c f t) ++ drop line (simulated K c f q)
  pub waits : Waits c line waiting (simulated K c f q) (simulated K c f t)

-- Driven anew, a row that has the old sets' values is traced up to the first gate.
abbrev pub Redrives : {V : Type 0} → Kind → (V → Pairs) → Circuit → Option Fault → Cube → Cube → List V → List V → LineSet → Type 0
Redrives K meaning c f q t before after waiting =
    (length after ≡ length before)
    × (map meaning before ≡ simulated K c f q → Traced K meaning c f q t (length c.inputs) waiting after)

-- Settled anew, a row that is traced up to one line is so up to another.
abbrev pub Resettles : {V : Type 0} → Kind → (V → Pairs) → Circuit → Option Fault → ℕ → ℕ → LineSet → LineSet → List V → List V → Type 0
Resettles K meaning c f from end waiting still_waiting before after =
    (length after ≡ length before)
    × ((q t : Cube) → Traced K meaning c f q t from waiting before → Traced K meaning c f q t (max from end) still_waiting after)

-- what writing the value of a line does to a row, and whether it is another one than before
pub record Writes {V : Type 0} (meaning : V → Pairs) (line : ℕ) (value : V) (before after : List V) (other : Bool) : Type 0 where
  pub long : length after ≡ length before
  pub sets : map meaning after ≡ slice_set (map meaning before) line (meaning value)
  pub same : other ≡ false → meaning value ≡ set_of (map meaning before) line
  pub new : other ≡ true → slice_get before line ≡ Some value → ⊥
