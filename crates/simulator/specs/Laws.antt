-- What simulations under a lawful kind say of vectors.
use Rattle.std.specs.Prelude.{◌≡◌, ℕ, true, false, Option}
use Rattle.values.specs.Pairs.{◌∈◌}
use Rattle.values.specs.Kind.{Kind}
use Rattle.circuit.specs.Model.{Circuit}
use Rattle.faults.specs.declared.fault.Fault.{Fault}
use Rattle.faults.specs.Cubes.{Cube}
use Rattle.simulator.specs.declared.verdict.Verdict.{Verdict}
use Rattle.simulator.specs.declared.verdict.Verdict.TheVariants.{Shows, Still, Unsure}
use Rattle.simulator.specs.Detection.{simulated, set_of, detected, is_still, pair_under, detects, Fills, DrivesAll}

-- under a cube that a vector fills in, what the vector makes of each line is among the line's set
abbrev pub KeepsVectors : Kind → Type 0
KeepsVectors K =
    (c : Circuit) (f : Option Fault) (q : Cube) (v : ℕ) → Fills v q → (line : ℕ) → pair_under c f v line ∈ set_of (simulated K c f q) line

-- a cube that shows is a test: each vector that fills it in detects the fault
abbrev pub ShownAreTests : Kind → Type 0
ShownAreTests K = (c : Circuit) (f : Option Fault) (q : Cube) (v : ℕ) → detected K c f q ≡ true → Fills v q → detects c f v ≡ true

-- below a still cube no vector detects the fault
abbrev pub StillDetectNothing : Kind → Type 0
StillDetectNothing K = (c : Circuit) (f : Option Fault) (q : Cube) (v : ℕ) → is_still K c f q ≡ true → Fills v q → detects c f v ≡ false

-- a vector that detects the fault, as a cube that drives every input, shows
abbrev pub VectorsAreShown : Kind → Type 0
VectorsAreShown K =
    (c : Circuit) (f : Option Fault) (q : Cube) (v : ℕ) → Fills v q → DrivesAll c q → detects c f v ≡ true → detected K c f q ≡ true

-- the four for one kind
pub record Telling (K : Kind) : Type 0 where
  pub keeps : KeepsVectors K
  pub shown : ShownAreTests K
  pub still : StillDetectNothing K
  pub vectors : VectorsAreShown K

-- What a verdict on a cube says of vectors: after Shows each that fills in the cube detects the fault, after Still none
-- does, and Unsure is never said of a cube that drives every input.
abbrev pub Tells : Circuit → Option Fault → Cube → Verdict → Type 0
Tells c f q Shows = (v : ℕ) → Fills v q → detects c f v ≡ true
Tells c f q Still = (v : ℕ) → Fills v q → detects c f v ≡ false
Tells c f q Unsure = DrivesAll c q → ⊥
