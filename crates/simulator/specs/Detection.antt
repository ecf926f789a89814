-- Which cubes are shown to detect a fault, and which vectors do detect it.
use Rattle.std.specs.Prelude.{◌≡◌, ℕ, ◌/◌, ◌%◌, ◌^◌, ◌<◌, Bool, true, false, cond, List, length, None, Option, ◌==◌, slice_index_or, All}
use Rattle.std.specs.List.{list_all, list_any}
use Rattle.values.specs.Pairs.{Pair, Pairs, pair, shows, still, only}
use Rattle.values.specs.Values.{differs, faulty_levels}
use Rattle.values.specs.Kind.{Kind}
use Rattle.circuit.specs.Model.{Circuit}
use Rattle.faults.specs.declared.fault.Fault.{Fault}
use Rattle.faults.specs.Cubes.{Cube}
use Rattle.simulator.specs.declared.verdict.Verdict.{Verdict}
use Rattle.simulator.specs.declared.verdict.Verdict.TheVariants.{Shows, Still, Unsure}
use Rattle.simulator.specs.Lines.{lines}

-- bit i of a word
abbrev pub bit : ℕ → ℕ → Bool
bit word i = word / 2 ^ i % 2 == 1

-- what a cube gives an input: known at its level if it is driven, else open
abbrev pub input_value : Kind → Cube → ℕ → Pairs
input_value K q i = cond (bit q.driven i) (K.values.gates.known (bit q.level i)) K.unknown

-- the sets of the lines under a cube
abbrev pub simulated : Kind → Circuit → Option Fault → Cube → List Pairs
simulated K c f q = lines K.values c f (input_value K q)

-- the set of a line, as a row has it
abbrev pub set_of : List Pairs → ℕ → Pairs
set_of row line = slice_index_or row line (only false false)

-- each of these is a line of the row
abbrev pub AreLines : {V : Type 0} → List ℕ → List V → Type 0
AreLines lines row = All (λ (line : ℕ). line < length row) lines

-- does some output of the row show?
abbrev pub some_shows : List Pairs → List ℕ → Bool
some_shows row outputs = list_any (λ (o : ℕ). shows (set_of row o)) outputs

-- is every output of the row still?
abbrev pub all_still : List Pairs → List ℕ → Bool
all_still row outputs = list_all (λ (o : ℕ). still (set_of row o)) outputs

-- the verdict on a row
abbrev pub judged : List Pairs → List ℕ → Verdict
judged row outputs = cond (some_shows row outputs) Shows (cond (all_still row outputs) Still Unsure)

-- the kind shows the cube to detect the fault
abbrev pub detected : Kind → Circuit → Option Fault → Cube → Bool
detected K c f q = some_shows (simulated K c f q) c.outputs

-- the kind shows that the cube, however it is filled in, cannot detect the fault
abbrev pub is_still : Kind → Circuit → Option Fault → Cube → Bool
is_still K c f q = all_still (simulated K c f q) c.outputs

-- the verdict on a cube
abbrev pub verdict : Kind → Circuit → Option Fault → Cube → Verdict
verdict K c f q = judged (simulated K c f q) c.outputs

-- Two-valued logic. A vector is a number whose bit i is the level of input i.

-- the levels of the lines under a vector, in the circuit with the fault, or without one
abbrev pub levels_under : Circuit → Option Fault → ℕ → List Bool
levels_under c f v = lines faulty_levels c f (bit v)

-- the level of a line under a vector without the fault, and its level with the fault
abbrev pub pair_under : Circuit → Option Fault → ℕ → ℕ → Pair
pair_under c f v line = pair (slice_index_or (levels_under c None v) line false) (slice_index_or (levels_under c f v) line false)

-- the vector detects the fault: some output has unequal levels without the fault and with it
abbrev pub detects : Circuit → Option Fault → ℕ → Bool
detects c f v = list_any (λ (o : ℕ). differs (pair_under c f v o).good (pair_under c f v o).faulty) c.outputs

-- the vector has the cube's level at each input that the cube drives
abbrev pub Fills : ℕ → Cube → Type 0
Fills v q = (i : ℕ) → bit q.driven i ≡ true → bit v i ≡ bit q.level i

-- the cube drives every input of the circuit
abbrev pub DrivesAll : Circuit → Cube → Type 0
DrivesAll c q = (i : ℕ) → i < length c.inputs → bit q.driven i ≡ true
