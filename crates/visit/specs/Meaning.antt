-- What an answer says of vectors and cubes. Nothing here speaks of how it was found.
use Rattle.std.specs.Prelude.{◌≡◌, ℕ, ◌≤◌, true, false, Some, None, count_ones}
use Rattle.values.specs.Kind.{Kind}
use Rattle.circuit.specs.Model.{Circuit}
use Rattle.faults.specs.declared.fault.Fault.{Fault}
use Rattle.faults.specs.Cubes.{Cube, Within}
use Rattle.simulator.specs.Detection.{detected, detects, Fills}
use Rattle.visit.specs.Visiting.{Answer, Fewest, Redundant, Spent}

-- the cube is a test: every vector that fills it in detects the fault
abbrev pub Test : Circuit → Fault → Cube → Type 0
Test c f q = (v : ℕ) → Fills v q → detects c (Some f) v ≡ true

-- no vector detects the fault
abbrev pub Undetectable : Circuit → Fault → Type 0
Undetectable c f = (v : ℕ) → detects c (Some f) v ≡ false

-- Every cube that the kind shows to detect the fault drives at least as many inputs, whichever inputs it drives, also
-- such as the circuit lacks. (A cube has a level only where it drives.)
abbrev pub Unbeaten : Kind → Circuit → Fault → Cube → Type 0
Unbeaten K c f q = (t : Cube) → Within t.driven t.level → detected K c (Some f) t ≡ true → count_ones q.driven ≤ count_ones t.driven

-- the kind shows the cube to detect the fault
abbrev pub Shown : Kind → Circuit → Fault → Cube → Type 0
Shown K c f q = detected K c (Some f) q ≡ true

-- what an answer says of the fault
abbrev pub Means : Kind → Circuit → Fault → Answer → Type 0
Means K c f (Fewest q tries) = Test c f q × Unbeaten K c f q × Shown K c f q
Means K c f (Redundant tries) = Undetectable c f
Means K c f (Spent None tries) = Unit {0}
Means K c f (Spent (Some q) tries) = Test c f q × Shown K c f q
