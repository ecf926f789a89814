-- What a call that visits gives.
use Rattle.std.specs.Prelude.{◌≡◌, ℕ, ◌^◌, ◌≤◌, false, length, Some, None, is_err, IfOk, Result}
use Rattle.std.specs.Result.{result_map_both}
use Rattle.refusals.specs.declared.layers.FolderRefusal.{FolderRefusal}
use Rattle.values.specs.Kind.{Kind}
use Rattle.circuit.specs.Model.{Circuit}
use Rattle.faults.specs.declared.fault.Fault.{Fault}
use Rattle.simulator.specs.Simulation.{row_allowed, drives_beyond}
use Rattle.visit.specs.declared.progress.Progress as code
use Rattle.visit.specs.declared.progress.BudgetSpent.{BudgetSpent}
use Rattle.visit.specs.Visiting.{Progress, Answer, Fewest, Redundant, Spent, answer, answer_tries}
use Rattle.visit.specs.Meaning.{Means}

-- how far a visit has come that goes on
abbrev pub going_on : code.Progress → Progress
going_on p = record { best = p.best; tries = p.tries; spent = false }

-- how far a visit had come that ended: given up for want of a try, or at its end
abbrev pub left : code.Progress → Result (Unit {0}) BudgetSpent → Progress
left p r = record { best = p.best; tries = p.tries; spent = is_err r }

-- the answer for a fault, worked out in a row of so many places, where that has room for each line
abbrev pub answer_in : Kind → Circuit → Fault → ℕ → ℕ → Result Answer FolderRefusal
answer_in K c f budget places = result_map_both (λ _. answer K c f budget) (λ e. e) (row_allowed c places)

-- a visit is spent only where it made as many tries as the budget
abbrev pub UsesUp : ℕ → Answer → Type 0
UsesUp budget (Fewest q tries) = Unit {0}
UsesUp budget (Redundant tries) = Unit {0}
UsesUp budget (Spent best tries) = tries ≡ budget

-- a cube that is answered drives no input that the circuit lacks
abbrev pub Inside : Circuit → Answer → Type 0
Inside c (Fewest q tries) = drives_beyond c q ≡ false
Inside c (Redundant tries) = Unit {0}
Inside c (Spent None tries) = Unit {0}
Inside c (Spent (Some q) tries) = drives_beyond c q ≡ false

-- The definition's answer, what that says of the fault, and what its tries are: no more than the budget, that many where the visit is
-- spent, and no more than there are cubes of the circuit's inputs.
pub record Visits (K : Kind) (c : Circuit) (f : Fault) (budget places : ℕ) (r : Result Answer FolderRefusal) : Type 0 where
  pub answer : r ≡ answer_in K c f budget places
  pub means : IfOk r (Means K c f)
  pub within : IfOk r (λ a. answer_tries a ≤ budget)
  pub used_up : IfOk r (UsesUp budget)
  pub few : IfOk r (λ a. answer_tries a ≤ 3 ^ length c.inputs)
  pub inside : IfOk r (Inside c)
