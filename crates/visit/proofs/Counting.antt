-- How many tries an answer reports: no more than its budget, that many where it is spent, and no more than there are cubes.
use Rattle.std.proofs.Common.{◌≡◌, ℕ, zero, suc, ◌+◌, ◌-◌, ◌^◌, ◌≤◌, Bool, true, false, cond, not, ◌&&◌, ltb, length, Some, None, Option, refl, sym, subst, zero-add, arith}
use Rattle.std.proofs.lemmas.Nat.{pow-add}
use Rattle.std.proofs.lemmas.Bool.{lt-leb}
use Rattle.values.specs.Kind.{Kind}
use Rattle.circuit.specs.Model.{Circuit}
use Rattle.faults.specs.declared.fault.Fault.{Fault}
use Rattle.faults.specs.Cubes.{Cube, nothing_driven}
use Rattle.simulator.specs.declared.verdict.Verdict.{Verdict}
use Rattle.simulator.specs.declared.verdict.Verdict.TheVariants.{Shows, Still, Unsure}
use Rattle.simulator.specs.Detection.{verdict}
use Rattle.visit.specs.Visiting.{Progress, fewer, drive, tried, met, below, at_start, visited, answer, answered, answer_tries}
use Rattle.visit.specs.Visits.{UsesUp, Inside}
use Rattle.visit.proofs.Holding.{Good, visit_good, visit_within, visit_spent}

reported : (spent : Bool) (best : Option Cube) (tries : ℕ) → answer_tries (answered spent best tries) ≡ tries
reported true best tries = refl
reported false None tries = refl
reported false (Some q) tries = refl

-- the tries that an answer reports are no more than the budget
pub answer_within : (K : Kind) (c : Circuit) (f : Fault) (budget : ℕ) → answer_tries (answer K c f budget) ≤ budget
answer_within K c f budget =
    let p : Progress = visited (verdict K c (Some f)) budget (length c.inputs) in
    let P : ℕ → Type 0 = λ n. n ≤ budget in
    subst P (sym (reported p.spent p.best p.tries)) (visit_within (verdict K c (Some f)) budget (length c.inputs))

-- an answer that is spent reports as many
pub answer_used_up : (K : Kind) (c : Circuit) (f : Fault) (budget : ℕ) → UsesUp budget (answer K c f budget)
answer_used_up K c f budget = go p.spent p.best refl
  where
    p : Progress
    p = visited (verdict K c (Some f)) budget (length c.inputs)

    go : (a : Bool) (b : Option Cube) → p.spent ≡ a → UsesUp budget (answered a b p.tries)
    go true b e = omega (arith, visit_within (verdict K c (Some f)) budget (length c.inputs), visit_spent (verdict K c (Some f)) budget (length c.inputs) e)
    go false None e = tt
    go false (Some q) e = tt

-- the cube of an answer is one of the circuit's inputs
pub answer_inside : (K : Kind) (c : Circuit) (f : Fault) (budget : ℕ) → Inside c (answer K c f budget)
answer_inside K c f budget = go p.spent p.best (visit_good judge budget (length c.inputs))
  where
    judge : Cube → Verdict
    judge = verdict K c (Some f)

    p : Progress
    p = visited judge budget (length c.inputs)

    go : (a : Bool) (b : Option Cube) → Good judge budget (length c.inputs) b → Inside c (answered a b p.tries)
    go true None g = tt
    go true (Some q) g = lt-leb _ _ g.1.driven_low
    go false None g = tt
    go false (Some q) g = lt-leb _ _ g.1.driven_low

three_pos : (m : ℕ) → 1 ≤ 3 ^ m
three_pos zero = omega arith
three_pos (suc m) = omega (arith, pow-add 3 m 1, three_pos m)

-- There are 3 ^ m cubes of m inputs, and each is met once at most.
module _ (judge : Cube → Verdict) (budget inputs : ℕ) where
  met_few : (m : ℕ) → ((q : Cube) (s : Progress) → (below judge budget inputs m q s).tries + 1 ≤ s.tries + 3 ^ m)
      → (q : Cube) (s : Progress) → (met judge budget (below judge budget inputs m) q s).tries ≤ s.tries + 3 ^ m
  met_few m few q s = go (not s.spent && fewer q s.best) (ltb s.tries budget) (judge q)
    where
      go : (a b : Bool) (v : Verdict)
          → (cond a (cond b (tried v (below judge budget inputs m q) q s) (record { best = s.best; tries = s.tries; spent = true })) s).tries ≤ s.tries + 3 ^ m
      go false b v = omega arith
      go true false v = omega arith
      go true true Shows = omega (arith, three_pos m)
      go true true Still = omega (arith, three_pos m)
      go true true Unsure = omega (arith, few q (record { best = s.best; tries = s.tries + 1; spent = false }))

  below_few : (m : ℕ) (q : Cube) (s : Progress) → (below judge budget inputs m q s).tries + 1 ≤ s.tries + 3 ^ m
  below_few zero q s = omega arith
  below_few (suc m) q s =
      let low : Progress = met judge budget (below judge budget inputs m) (drive q (inputs - suc m) 0) s in
      let high : Progress = met judge budget (below judge budget inputs m) (drive q (inputs - suc m) 1) low in
      omega (arith, pow-add 3 m 1, below_few m q high, met_few m (below_few m) (drive q (inputs - suc m) 1) low, met_few m (below_few m) (drive q (inputs - suc m) 0) s)

  visit_few : (visited judge budget inputs).tries ≤ 3 ^ inputs
  visit_few = subst (λ (n : ℕ). (visited judge budget inputs).tries ≤ n) (zero-add (3 ^ inputs)) (met_few inputs (below_few inputs) nothing_driven at_start)

pub answer_few : (K : Kind) (c : Circuit) (f : Fault) (budget : ℕ) → answer_tries (answer K c f budget) ≤ 3 ^ length c.inputs
answer_few K c f budget =
    let p : Progress = visited (verdict K c (Some f)) budget (length c.inputs) in
    let P : ℕ → Type 0 = λ n. n ≤ 3 ^ length c.inputs in
    subst P (sym (reported p.spent p.best p.tries)) (visit_few (verdict K c (Some f)) budget (length c.inputs))
