-- What a visit under its setting makes of a branch, in the words of the definition.
use Rattle.std.specs.Prelude.{ℕ, ◌+◌, ◌-◌, ◌<◌, ◌≤◌, Bool, true, false, if◌then◌else◌, List, length, Option, Some, None, Result, Ok, Err}
use Rattle.values.specs.Pairs.{Pairs}
use Rattle.values.specs.Kind.{Kind}
use Rattle.faults.specs.Cubes.{Cube}
use Rattle.simulator.specs.declared.verdict.Verdict.{Verdict}
use Rattle.simulator.specs.Detection.{verdict}
use Rattle.simulator.specs.Callers.{HasRoom}
use Rattle.visit.specs.declared.branch.Branch.{Branch}
use Rattle.simulator.specs.Resimulation.{Holds}
use Rattle.visit.specs.declared.setting.Setting.{Setting}
use Rattle.visit.specs.declared.progress.Progress as code
use Rattle.visit.specs.declared.progress.BudgetSpent.{BudgetSpent}
use Rattle.visit.specs.Visiting.{Progress, drive, met, below}
use Rattle.visit.specs.Visits.{going_on, left}

-- the verdict on a cube, of the setting's circuit with the fault that is plugged
abbrev pub verdict_in : Kind → Setting → Cube → Verdict
verdict_in K s q = verdict K s.circuit.now s.socket.now.fault q

-- how many inputs there are to drive
abbrev pub input_count : Setting → ℕ
input_count s = length s.circuit.now.inputs

-- all cubes below a cube that drive inputs from the next one on, visited
abbrev pub below_from : Kind → Setting → ℕ → Cube → Progress → Progress
below_from K s next q p = below (verdict_in K s) s.budget (input_count s) (input_count s - next) q p

-- all cubes below the branch's cube, visited
abbrev pub below_branch : Kind → Setting → Branch → Progress → Progress
below_branch K s b p = below_from K s b.next b.cube p

-- the branch's cube, met, with all cubes below it
abbrev pub branch_met : Kind → Setting → Branch → Progress → Progress
branch_met K s b p = met (verdict_in K s) s.budget (below_from K s b.next) b.cube p

-- how far a visit has come after an attempt at the branch's cube: on by what is below it, if that is to be met, no further if not, or given up
abbrev pub below_attempted : Kind → Setting → Branch → code.Progress → Result Bool BudgetSpent → Progress
below_attempted K s b p (Ok true) = below_branch K s b (going_on p)
below_attempted K s b p (Ok false) = going_on p
below_attempted K s b p (Err e) = left p (Err e)

-- the cube whose lines the row holds: the branch's, or the one with its next input at that level
abbrev pub row_cube : Branch → Option Bool → Cube
row_cube b None = b.cube
row_cube b (Some level) = drive b.cube b.next (if level then 1 else 0)

-- What is left of the visit below the branch's cube. Where the cube with the next input at some level was tried: the cubes below that
-- one, the one with the input at 1, if it was not that, and the inputs above.
abbrev pub rest_below : Kind → Setting → Branch → Option Bool → Progress → Progress
rest_below K s b None p = below_branch K s b p
rest_below K s b (Some false) p =
    below_from K s (b.next + 1) b.cube
    (met (verdict_in K s) s.budget (below_from K s (b.next + 1)) (drive b.cube b.next 1)
    (below_from K s (b.next + 1) (drive b.cube b.next 0) p))
rest_below K s b (Some true) p = below_from K s (b.next + 1) b.cube (below_from K s (b.next + 1) (drive b.cube b.next 1) p)

-- the row begins with the values of the lines under the cube
abbrev pub HoldsUnder : {V : Type 0} → Kind → (V → Pairs) → Setting → Cube → List V → Type 0
HoldsUnder K meaning s q row = Holds K meaning s.circuit.now s.socket.now.fault q row

-- Where a visit stands below the branch's cube, when the cube with the next input at some level was tried, or none yet: there is an input
-- to drive, row and kept values have room, the row holds the lines under the cube that was tried, or the branch's, and the kept values are
-- those under the branch's.
pub record StandsAt {V : Type 0} (K : Kind) (meaning : V → Pairs) (s : Setting) (b : Branch) (tried : Option Bool) (kept row : List V) : Type 0 where
  pub row_room : HasRoom s.circuit.now row
  pub kept_room : HasRoom s.circuit.now kept
  pub inside : b.next < input_count s
  pub bound : b.next ≤ 63
  pub row_holds : HoldsUnder K meaning s (row_cube b tried) row
  pub kept_holds : HoldsUnder K meaning s b.cube kept
