-- One turn of the visit below a cube.
use Rattle.std.proofs.Common.{◌≡◌, ℕ, zero, suc, ◌+◌, ◌-◌, ◌^◌, ◌<◌, ◌≤◌, Bool, true, false, cond, not, ◌&&◌, ltb, Some, None, Ok, Option, if◌then◌else◌, List, subst, sym, refl, ap, ◌∙◌, add_comm, one-mul, arith, pow_mono}
use mathlib.Core.Bool.{false≢true}
use lib.Count.{ones, ones_cat}
use Rattle.values.specs.Pairs.{Pairs}
use Rattle.values.specs.Kind.{Kind}
use Rattle.faults.specs.Cubes.{Cube}
use Rattle.simulator.specs.declared.verdict.Verdict.{Verdict}
use Rattle.visit.specs.declared.branch.Branch.{Branch}
use Rattle.visit.specs.declared.progress.Progress as code
use Rattle.visit.specs.declared.setting.Setting.{Setting}
use Rattle.visit.specs.Visits.{going_on}
use Rattle.visit.specs.Settings.{verdict_in, input_count, below_from, below_branch, branch_met, below_attempted, rest_below, HoldsUnder}
use Rattle.visit.specs.Visiting.{Progress, fewer, drive, due, met, below}

-- how far a visit of the code had come that was given up
abbrev pub given_up : code.Progress → Progress
given_up p = record (going_on p) { spent = true }

module _ (judge : Cube → Verdict) (budget inputs : ℕ) where
  -- a visit that was given up meets no further cube
  met_given_up : (deeper : Cube → Progress → Progress) (q : Cube) (p : Progress) → p.spent ≡ true → met judge budget deeper q p ≡ p
  met_given_up deeper q p h = ap (λ (b : Bool). cond (not b && fewer q p.best) (due judge budget deeper q p) p) h

  below_given_up : (m : ℕ) (q : Cube) (p : Progress) → p.spent ≡ true → below judge budget inputs m q p ≡ p
  below_given_up zero q p h = refl
  below_given_up (suc m) q p h =
      let below_this : Cube → Progress → Progress = below judge budget inputs m in
      ap (λ (x : Progress). below_this q (met judge budget below_this (drive q (inputs - suc m) 1) x)) (met_given_up below_this (drive q (inputs - suc m) 0) p h)
      ∙ ap (below_this q) (met_given_up below_this (drive q (inputs - suc m) 1) p h)
      ∙ below_given_up m q p h

  -- a cube that does not drive fewer inputs than the best is passed over
  met_beaten : (deeper : Cube → Progress → Progress) (q : Cube) (p : Progress) → fewer q p.best ≡ false → met judge budget deeper q p ≡ p
  met_beaten deeper q p h = ap (λ (b : Bool). cond (not p.spent && b) (due judge budget deeper q p) p) h ∙ none p.spent
    where
      none : (b : Bool) → cond (not b && false) (due judge budget deeper q p) p ≡ p
      none true = refl
      none false = refl

  -- and so are all cubes below one, if each drives too many
  below_beaten : (m : ℕ) (q : Cube) (p : Progress) → ((i level : ℕ) → inputs - m ≤ i → fewer (drive q i level) p.best ≡ false) → below judge budget inputs m q p ≡ p
  below_beaten zero q p h = refl
  below_beaten (suc m) q p h =
      let below_this : Cube → Progress → Progress = below judge budget inputs m in
      ap (λ (x : Progress). below_this q (met judge budget below_this (drive q (inputs - suc m) 1) x)) (met_beaten below_this (drive q (inputs - suc m) 0) p (h (inputs - suc m) 0 (omega arith)))
      ∙ ap (below_this q) (met_beaten below_this (drive q (inputs - suc m) 1) p (h (inputs - suc m) 1 (omega arith)))
      ∙ below_beaten m q p (λ i level above. h i level (omega (arith, above)))

-- Each cube with one more input driven, above those that the cube drives, drives one more.
driven_more : (n i : ℕ) → n < 2 ^ i → ones (n + 2 ^ i) ≡ ones n + 1
unfolding ones
driven_more n i h = ap ones (add_comm n (2 ^ i) ∙ ap (λ (x : ℕ). x + n) (sym (one-mul (2 ^ i)))) ∙ ones_cat i 1 n h ∙ add_comm 1 (ones n)

alike_beaten : (q : Cube) (i j level other : ℕ) (best : Option Cube) → q.driven < 2 ^ i → q.driven < 2 ^ j → fewer (drive q i level) best ≡ fewer (drive q j other) best
alike_beaten q i j level other None h k = refl
alike_beaten q i j level other (Some best) h k = ap (λ (n : ℕ). ltb n (ones best.driven)) (driven_more q.driven i h ∙ sym (driven_more q.driven j k))

-- One turn of the visit below the cube q, in which input i is driven.
module _ (K : Kind) (s : Setting) (q : Cube) (i : ℕ) (h : i < input_count s) where
  abbrev judge : Cube → Verdict
  judge = verdict_in K s

  abbrev inputs : ℕ
  inputs = input_count s

  abbrev deeper : Cube → Progress → Progress
  deeper = below_from K s (i + 1)

  -- input i is driven to 0, then to 1, then the inputs above it
  below_turn : (p : Progress) → below_from K s i q p ≡ deeper q (met judge s.budget deeper (drive q i 1) (met judge s.budget deeper (drive q i 0) p))
  below_turn p =
      let m : ℕ = inputs - (i + 1) in
      let left : inputs - i ≡ suc m = omega arith in
      let here : inputs - suc m ≡ i = omega arith in
      ap (λ (n : ℕ). below judge s.budget inputs n q p) left
      ∙ ap (λ (j : ℕ). below judge s.budget inputs m q (met judge s.budget (below judge s.budget inputs m) (drive q j 1) (met judge s.budget (below judge s.budget inputs m) (drive q j 0) p))) here

  -- the progress p0 after meeting the branch in which input i is driven to that level, as the code meets it
  abbrev pub Meets : ℕ → Progress → Progress → Type 0
  Meets level p p0 = (b : Branch) × (b.cube ≡ drive q i level) × (b.next ≡ i + 1) × (p0 ≡ branch_met K s b p)

  meets_is : (level : ℕ) (p p0 : Progress) → Meets level p p0 → p0 ≡ met judge s.budget deeper (drive q i level) p
  meets_is level p p0 (b, is, above, e) =
      e
      ∙ ap (λ (n : ℕ). met judge s.budget (below_from K s n) b.cube p) above
      ∙ ap (λ (x : Cube). met judge s.budget deeper x p) is

  module _ (p p0 : Progress) (zero_met : Meets 0 p p0) where
    -- given up in the branch of 0
    pub given_up_first : p0.spent ≡ true → p0 ≡ below_from K s i q p
    given_up_first spent =
        sym (
        below_turn p
        ∙ ap (λ (x : Progress). deeper q (met judge s.budget deeper (drive q i 1) x)) (sym (meets_is 0 p p0 zero_met))
        ∙ ap (deeper q) (met_given_up judge s.budget inputs deeper (drive q i 1) p0 spent)
        ∙ below_given_up judge s.budget inputs (inputs - (i + 1)) q p0 spent
        )

    -- the progress after one turn
    pub turned : (p1 : Progress) → Meets 1 p0 p1 → deeper q p1 ≡ below_from K s i q p
    turned p1 one_met =
        sym (
        below_turn p
        ∙ ap (λ (x : Progress). deeper q (met judge s.budget deeper (drive q i 1) x)) (sym (meets_is 0 p p0 zero_met))
        ∙ ap (deeper q) (sym (meets_is 1 p0 p1 one_met))
        )

    -- given up in the branch of 1
    pub given_up_second : (p1 : Progress) → Meets 1 p0 p1 → p1.spent ≡ true → p1 ≡ below_from K s i q p
    given_up_second p1 one_met spent = sym (below_given_up judge s.budget inputs (inputs - (i + 1)) q p1 spent) ∙ turned p1 one_met

  -- where the next cube drives too many inputs, all that is left is passed over
  pub below_passed_over : (p : Progress) (low : Cube) → q.driven < 2 ^ i → low ≡ drive q i 0 → fewer low p.best ≡ false → below_from K s i q p ≡ p
  below_passed_over p low lower is beaten =
      below_beaten judge s.budget inputs (inputs - i) q p
      (λ j level above.
      alike_beaten q j i level 0 p.best (omega (arith, lower, pow_mono {i = i} {j = j} (omega (arith, above)))) lower
      ∙ ap (λ (x : Cube). fewer x p.best) (sym is)
      ∙ beaten)

  -- what is left below the cube, from where the cube with input i at that level was tried
  abbrev rest : Bool → Progress → Progress
  rest false p = deeper q (met judge s.budget deeper (drive q i 1) (deeper (drive q i 0) p))
  rest true p = deeper q (deeper (drive q i 1) p)

  rest_is : (level : Bool) (t : Branch) (p : Progress) → t.cube ≡ q → t.next ≡ i → rest_below K s t (Some level) p ≡ rest level p
  rest_is false t p is here =
      ap (λ (x : Cube). below_from K s (t.next + 1) x (met judge s.budget (below_from K s (t.next + 1)) (drive x t.next 1) (below_from K s (t.next + 1) (drive x t.next 0) p))) is
      ∙ ap (λ (j : ℕ). below_from K s (j + 1) q (met judge s.budget (below_from K s (j + 1)) (drive q j 1) (below_from K s (j + 1) (drive q j 0) p))) here
  rest_is true t p is here =
      ap (λ (x : Cube). below_from K s (t.next + 1) x (below_from K s (t.next + 1) (drive x t.next 1) p)) is
      ∙ ap (λ (j : ℕ). below_from K s (j + 1) q (below_from K s (j + 1) (drive q j 1) p)) here

  -- the progress p0 after the visit below the branch in which input i is driven to that level
  abbrev pub Below : ℕ → Progress → Progress → Type 0
  Below level p p0 = (b : Branch) × (b.cube ≡ drive q i level) × (b.next ≡ i + 1) × (p0 ≡ below_branch K s b p)

  below_is : (level : ℕ) (p p0 : Progress) → Below level p p0 → p0 ≡ deeper (drive q i level) p
  below_is level p p0 (b, is, above, e) = e ∙ ap (λ (n : ℕ). below_from K s n b.cube p) above ∙ ap (λ (x : Cube). deeper x p) is

  -- A branch in which input i is driven to that level, at which an attempt was made that leads from p to p0: what is below it gives what meeting it gives.
  abbrev pub LeadsOn : ℕ → Progress → Progress → Type 0
  LeadsOn level p p0 = (b : Branch) × (b.cube ≡ drive q i level) × (b.next ≡ i + 1) × (below_branch K s b p0 ≡ branch_met K s b p)

  leads_on_is : (level : ℕ) (p p0 : Progress) → LeadsOn level p p0 → deeper (drive q i level) p0 ≡ met judge s.budget deeper (drive q i level) p
  leads_on_is level p p0 (b, is, above, e) =
      sym (below_is level p0 (below_branch K s b p0) (b, is, above, refl)) ∙ meets_is level p (below_branch K s b p0) (b, is, above, e)

  module _ (t : Branch) (is : t.cube ≡ q) (here : t.next ≡ i) where
    -- once the cube with 0 leads on
    pub low_leads_on : (p p0 : Progress) → LeadsOn 0 p p0 → rest_below K s t (Some false) p0 ≡ below_from K s i q p
    low_leads_on p p0 leads =
        rest_is false t p0 is here
        ∙ ap (λ (x : Progress). deeper q (met judge s.budget deeper (drive q i 1) x)) (leads_on_is 0 p p0 leads)
        ∙ sym (below_turn p)

    -- once the cube with 1 leads on
    pub high_leads_on : (p p0 p1 : Progress) → Meets 0 p p0 → LeadsOn 1 p0 p1 → rest_below K s t (Some true) p1 ≡ below_from K s i q p
    high_leads_on p p0 p1 zero_met leads =
        rest_is true t p1 is here
        ∙ ap (deeper q) (leads_on_is 1 p0 p1 leads)
        ∙ ap (λ (x : Progress). deeper q (met judge s.budget deeper (drive q i 1) x)) (meets_is 0 p p0 zero_met)
        ∙ sym (below_turn p)

    -- given up below the cube that was tried
    pub rest_given_up : (level : Bool) (p p0 : Progress) → Below (if level then 1 else 0) p p0 → p0.spent ≡ true → p0 ≡ rest_below K s t (Some level) p
    rest_given_up false p p0 below_low spent =
        sym (
        rest_is false t p is here
        ∙ ap (λ (x : Progress). deeper q (met judge s.budget deeper (drive q i 1) x)) (sym (below_is 0 p p0 below_low))
        ∙ ap (deeper q) (met_given_up judge s.budget inputs deeper (drive q i 1) p0 spent)
        ∙ below_given_up judge s.budget inputs (inputs - (i + 1)) q p0 spent
        )
    rest_given_up true p p0 below_high spent =
        sym (
        rest_is true t p is here
        ∙ ap (deeper q) (sym (below_is 1 p p0 below_high))
        ∙ below_given_up judge s.budget inputs (inputs - (i + 1)) q p0 spent
        )

    -- the cube with 1 met after what is below the one with 0, and then the inputs above
    pub rest_after_low : (level : Bool) → level ≡ false → (p p0 p1 : Progress) → Below (if level then 1 else 0) p p0 → Meets 1 p0 p1 → deeper q p1 ≡ rest_below K s t (Some level) p
    rest_after_low true low p p0 p1 below_low one_met = absurd (false≢true (sym low))
    rest_after_low false low p p0 p1 below_low one_met =
        sym (
        rest_is false t p is here
        ∙ ap (λ (x : Progress). deeper q (met judge s.budget deeper (drive q i 1) x)) (sym (below_is 0 p p0 below_low))
        ∙ ap (deeper q) (sym (meets_is 1 p0 p1 one_met))
        )

    pub rest_given_up_high : (level : Bool) → level ≡ false → (p p0 p1 : Progress) → Below (if level then 1 else 0) p p0 → Meets 1 p0 p1 → p1.spent ≡ true → p1 ≡ rest_below K s t (Some level) p
    rest_given_up_high level low p p0 p1 below_low one_met spent =
        sym (below_given_up judge s.budget inputs (inputs - (i + 1)) q p1 spent) ∙ rest_after_low level low p p0 p1 below_low one_met

-- where no input is left, nothing is below
pub below_nothing : (K : Kind) (s : Setting) (i : ℕ) (q : Cube) (p : Progress) → input_count s ≤ i → below_from K s i q p ≡ p
below_nothing K s i q p h =
    let none : input_count s - i ≡ 0 = omega (arith, h) in
    ap (λ (n : ℕ). below (verdict_in K s) s.budget (input_count s) n q p) none

-- An attempt that says whether to go on below the cube: where it says so, what is below gives what meeting the cube gives, and where not, that is all.
module _ (K : Kind) (s : Setting) (b : Branch) (p : Progress) (p0 : code.Progress) where
  pub attempted_on : (on : Bool) → on ≡ true → below_attempted K s b p0 (Ok on) ≡ branch_met K s b p → below_branch K s b (going_on p0) ≡ branch_met K s b p
  attempted_on true is e = e
  attempted_on false is e = absurd (false≢true is)

  pub attempted_done : (on : Bool) → on ≡ false → below_attempted K s b p0 (Ok on) ≡ branch_met K s b p → going_on p0 ≡ branch_met K s b p
  attempted_done false is e = e
  attempted_done true is e = absurd (false≢true (sym is))

-- a row that holds the lines under the cube of a branch in which an input is driven
pub held_driving : {V : Type 0} (K : Kind) (meaning : V → Pairs) (s : Setting) (q : Cube) (i level : ℕ) (t b : Branch) (row : List V)
    → t.cube ≡ q → t.next ≡ i → b.cube ≡ drive q i level → HoldsUnder K meaning s b.cube row → HoldsUnder K meaning s (drive t.cube t.next level) row
held_driving K meaning s q i level t b row same here is =
    subst (λ (x : Cube). HoldsUnder K meaning s x row) (is ∙ sym (ap (λ (x : Cube). drive x t.next level) same ∙ ap (λ (j : ℕ). drive q j level) here))
