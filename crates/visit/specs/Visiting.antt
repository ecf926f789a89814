-- The visit of cubes that looks for a test that drives the fewest inputs.
use Rattle.std.specs.Prelude.{ℕ, zero, suc, ◌+◌, ◌-◌, ◌*◌, ◌^◌, Bool, true, false, cond, not, ◌&&◌, length, Some, None, Option, count_ones, nat_lt}
use Rattle.values.specs.Kind.{Kind}
use Rattle.circuit.specs.Model.{Circuit}
use Rattle.faults.specs.declared.fault.Fault.{Fault}
use Rattle.faults.specs.Cubes.{Cube, nothing_driven}
use Rattle.simulator.specs.declared.verdict.Verdict.{Verdict}
use Rattle.simulator.specs.declared.verdict.Verdict.TheVariants.{Shows, Still, Unsure}
use Rattle.simulator.specs.Detection.{verdict}
pub use Rattle.visit.specs.declared.answer.Answer.{Answer}
pub use Rattle.visit.specs.declared.answer.Answer.TheVariants.{Fewest, Redundant, Spent}

-- how far a visit has come: the best cube so far, the tries made, and whether a try was due when none was left
pub record Progress : Type 0 where
  pub best : Option Cube
  pub tries : ℕ
  pub spent : Bool

-- the cube drives fewer inputs than the best, or there is no best
abbrev pub fewer : Cube → Option Cube → Bool
fewer q None = true
fewer q (Some best) = nat_lt (count_ones q.driven) (count_ones best.driven)

-- the cube with one more input driven, an input that it leaves open, to level 0 or 1
abbrev pub drive : Cube → ℕ → ℕ → Cube
drive q i level = record { driven = q.driven + 2 ^ i; level = q.level + level * 2 ^ i }

-- one try: the best is the cube from then on, if it shows; below an unsure cube the visit goes on
abbrev pub tried : Verdict → (Progress → Progress) → Cube → Progress → Progress
tried Shows deeper q p = record { best = Some q; tries = p.tries + 1; spent = false }
tried Still deeper q p = record { best = p.best; tries = p.tries + 1; spent = false }
tried Unsure deeper q p = deeper (record { best = p.best; tries = p.tries + 1; spent = false })

-- a try is due: it is made, or the visit is spent
abbrev pub due : (Cube → Verdict) → ℕ → (Cube → Progress → Progress) → Cube → Progress → Progress
due judge budget deeper q p =
    cond (nat_lt p.tries budget) (tried (judge q) (deeper q) q p) (record { best = p.best; tries = p.tries; spent = true })

-- a cube is met: it is passed over once the visit is spent, or where it does not drive fewer inputs than the best
abbrev pub met : (Cube → Verdict) → ℕ → (Cube → Progress → Progress) → Cube → Progress → Progress
met judge budget deeper q p = cond (not p.spent && fewer q p.best) (due judge budget deeper q p) p

-- All cubes below a cube, where the m highest inputs are left to drive: the lowest of these is driven to 0, then to 1,
-- each with all below it, and then the inputs above it have their turn.
abbrev pub below : (Cube → Verdict) → ℕ → ℕ → ℕ → Cube → Progress → Progress
below judge budget inputs zero q p = p
below judge budget inputs (suc m) q p =
    below judge budget inputs m q
    (met judge budget (below judge budget inputs m) (drive q (inputs - suc m) 1)
    (met judge budget (below judge budget inputs m) (drive q (inputs - suc m) 0) p))

-- nothing was tried yet
abbrev pub at_start : Progress
at_start = record { best = None; tries = 0; spent = false }

-- the visit, from the cube that leaves every input open
abbrev pub visited : (Cube → Verdict) → ℕ → ℕ → Progress
visited judge budget inputs = met judge budget (below judge budget inputs inputs) nothing_driven at_start

-- the tries that an answer reports
abbrev pub answer_tries : Answer → ℕ
answer_tries (Fewest q tries) = tries
answer_tries (Redundant tries) = tries
answer_tries (Spent best tries) = tries

abbrev pub answered : Bool → Option Cube → ℕ → Answer
answered true best tries = Spent best tries
answered false None tries = Redundant tries
answered false (Some q) tries = Fewest q tries

abbrev pub progress_answer : Progress → Answer
progress_answer p = answered p.spent p.best p.tries

-- the answer for a fault of a circuit, under a kind and a budget of tries
abbrev pub answer : Kind → Circuit → Fault → ℕ → Answer
answer K c f budget = progress_answer (visited (verdict K c (Some f)) budget (length c.inputs))
