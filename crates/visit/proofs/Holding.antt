-- What lasts through a visit: its best cube is a cube of the circuit's inputs that shows, and its tries stay within the budget.
use Rattle.std.proofs.Common.{◌≡◌, ℕ, zero, suc, ◌+◌, ◌-◌, ◌*◌, ◌/◌, ◌%◌, ◌^◌, ◌<◌, ◌≤◌, Bool, true, false, cond, not, ◌&&◌, ltb, ◌⊎◌, Some, None, Option, sym, refl, ap, ◌∙◌, subst, inl, inr, true≢false, zero-add, arith, pow_mono}
use Rattle.std.proofs.lemmas.Nat.{pow-add}
use Rattle.std.proofs.lemmas.Nat.Bits.{bit_at_cat_low, bit_at_cat_high, bit_at_above}
use Rattle.std.proofs.lemmas.Bool.{cases_eq, cases_lt, ltb-true, ltb-false}
use Rattle.faults.specs.Cubes.{Cube, Within, nothing_driven}
use Rattle.simulator.specs.declared.verdict.Verdict.{Verdict}
use Rattle.simulator.specs.declared.verdict.Verdict.TheVariants.{Shows, Still, Unsure}
use Rattle.visit.specs.Visiting.{Progress, fewer, drive, tried, met, below, at_start, visited}

-- a cube of the k lowest inputs, with a level only where it drives
pub record Shape (k : ℕ) (q : Cube) : Type 0 where
  pub driven_low : q.driven < 2 ^ k
  pub level_low : q.level < 2 ^ k
  pub proper : Within q.driven q.level

shape_mono : (k j : ℕ) (q : Cube) → k ≤ j → Shape k q → Shape j q
shape_mono k j q l h = let p = pow_mono l in record { driven_low = omega (arith, h.driven_low); level_low = omega (arith, h.level_low); proper = h.proper }

shape_drive : (k v : ℕ) (q : Cube) → v ≤ 1 → Shape k q → Shape (k + 1) (drive q k v)
shape_drive k v q one h = record { driven_low = omega (arith, pow-add 2 k 1, h.driven_low); level_low = small; proper = λ i e. proper' i e (cases_lt i k) (cases_eq i k) }
  where
    times : (v : ℕ) → v ≤ 1 → v * 2 ^ k ≤ 2 ^ k
    times zero l = omega arith
    times (suc zero) l = omega arith
    times (suc (suc v)) l = absurd (omega arith)

    small : q.level + v * 2 ^ k < 2 ^ (k + 1)
    small = omega (arith, pow-add 2 k 1, h.level_low, times v one)

    -- the bits below the place that is added
    low : (word w place i : ℕ) → place ≡ w * 2 ^ k → i < k → (word + place) / 2 ^ i % 2 ≡ word / 2 ^ i % 2
    low word w place i e l =
        let sum : word + place ≡ w * 2 ^ k + word = omega arith in
        ap (λ (x : ℕ). x / 2 ^ i % 2) sum ∙ bit_at_cat_low w k word i l

    placed : (i : ℕ) → i ≡ k → (q.driven + 2 ^ k) / 2 ^ i % 2 ≡ 1
    placed i same =
        let sum : q.driven + 2 ^ k ≡ 1 * 2 ^ k + q.driven = omega arith in
        let first : i - k ≡ 0 = omega arith in
        ap (λ (x : ℕ). x / 2 ^ i % 2) sum ∙ bit_at_cat_high 1 k q.driven i h.driven_low (omega arith) ∙ ap (λ (x : ℕ). 1 / 2 ^ x % 2) first

    proper' : (i : ℕ) → (q.driven + 2 ^ k) / 2 ^ i % 2 ≡ 0 → (i < k) ⊎ (k ≤ i) → (i ≡ k) ⊎ (i ≡ k → ⊥) → (q.level + v * 2 ^ k) / 2 ^ i % 2 ≡ 0
    proper' i e (inl l) c = low q.level v (v * 2 ^ k) i refl l ∙ h.proper i (sym (low q.driven 1 (2 ^ k) i (omega arith) l) ∙ e)
    proper' i e (inr l) (inl same) = absurd (omega (arith, placed i same))
    proper' i e (inr l) (inr ne) = bit_at_above (q.level + v * 2 ^ k) (k + 1) i small (omega arith)

-- A fact about how far a visit has come lasts to its end, if it holds at the start and each step keeps it: a cube that shows,
-- a cube that does not, and a try for which no budget is left.
module _ (judge : Cube → Verdict) (budget inputs : ℕ) (Fact : Progress → Type 0)
    (shown : (q : Cube) → Shape inputs q → judge q ≡ Shows → (s : Progress) → s.tries < budget → Fact s → Fact (record { best = Some q; tries = s.tries + 1; spent = false }))
    (passed : (s : Progress) → s.tries < budget → Fact s → Fact (record { best = s.best; tries = s.tries + 1; spent = false }))
    (ended : (s : Progress) → budget ≤ s.tries → Fact s → Fact (record { best = s.best; tries = s.tries; spent = true })) where
  tried_keeps : (v : Verdict) (deeper : Progress → Progress) (q : Cube) → judge q ≡ v → Shape inputs q → ((s : Progress) → Fact s → Fact (deeper s)) → (s : Progress) → s.tries < budget → Fact s → Fact (tried v deeper q s)
  tried_keeps Shows deeper q e h d s l g = shown q h e s l g
  tried_keeps Still deeper q e h d s l g = passed s l g
  tried_keeps Unsure deeper q e h d s l g = d _ (passed s l g)

  met_keeps : (deeper : Cube → Progress → Progress) (q : Cube) → Shape inputs q → ((s : Progress) → Fact s → Fact (deeper q s)) → (s : Progress) → Fact s → Fact (met judge budget deeper q s)
  met_keeps deeper q h d s g = go (not s.spent && fewer q s.best) (ltb s.tries budget) refl
    where
      go : (a b : Bool) → ltb s.tries budget ≡ b → Fact (cond a (cond b (tried (judge q) (deeper q) q s) (record { best = s.best; tries = s.tries; spent = true })) s)
      go false b e = g
      go true false e = ended s (ltb-false _ _ e) g
      go true true e = tried_keeps (judge q) (deeper q) q refl h d s (ltb-true _ _ e) g

  below_keeps : (m k : ℕ) → k + m ≡ inputs → (q : Cube) → Shape k q → (s : Progress) → Fact s → Fact (below judge budget inputs m q s)
  below_keeps zero k e q h s g = g
  below_keeps (suc m) k e q h s g =
      let at : k ≡ inputs - suc m = omega arith in
      let shaped : (v : ℕ) → v ≤ 1 → Shape (k + 1) (drive q (inputs - suc m) v) = λ v l. subst (λ (i : ℕ). Shape (k + 1) (drive q i v)) at (shape_drive k v q l h) in
      below_keeps m (k + 1) (omega arith) q (shape_mono k (k + 1) q (omega arith) h) _
      (met_keeps (below judge budget inputs m) (drive q (inputs - suc m) 1) (shape_mono (k + 1) inputs _ (omega arith) (shaped 1 (omega arith))) (below_keeps m (k + 1) (omega arith) (drive q (inputs - suc m) 1) (shaped 1 (omega arith))) _
      (met_keeps (below judge budget inputs m) (drive q (inputs - suc m) 0) (shape_mono (k + 1) inputs _ (omega arith) (shaped 0 (omega arith))) (below_keeps m (k + 1) (omega arith) (drive q (inputs - suc m) 0) (shaped 0 (omega arith))) s g))

  pub visit_keeps : Fact at_start → Fact (visited judge budget inputs)
  visit_keeps start = met_keeps (below judge budget inputs inputs) nothing_driven none
      (below_keeps inputs 0 (zero-add inputs) nothing_driven none0) at_start start
    where
      none0 : Shape 0 nothing_driven
      none0 = record { driven_low = omega arith; level_low = omega arith; proper = λ i e. e }

      none : Shape inputs nothing_driven
      none = shape_mono 0 inputs nothing_driven (omega arith) none0

module _ (judge : Cube → Verdict) (budget inputs : ℕ) where
  abbrev pub Good : Option Cube → Type 0
  Good None = Unit {0}
  Good (Some b) = (judge b ≡ Shows) × Shape inputs b

  -- the best cube shows
  pub visit_good : Good (visited judge budget inputs).best
  visit_good = visit_keeps judge budget inputs (λ (s : Progress). Good s.best) (λ q h e s l g. (e, h)) (λ s l g. g) (λ s l g. g) tt

  -- no more tries were made than the budget
  pub visit_within : (visited judge budget inputs).tries ≤ budget
  visit_within = visit_keeps judge budget inputs (λ (s : Progress). s.tries ≤ budget) (λ q h e s l g. omega arith) (λ s l g. omega arith) (λ s l g. g) (omega arith)

  -- where the visit is spent, no fewer
  pub visit_spent : (visited judge budget inputs).spent ≡ true → budget ≤ (visited judge budget inputs).tries
  visit_spent = visit_keeps judge budget inputs (λ (s : Progress). s.spent ≡ true → budget ≤ s.tries) (λ q h e s l g no. absurd (true≢false (sym no))) (λ s l g no. absurd (true≢false (sym no))) (λ s l g is. l) (λ no. absurd (true≢false (sym no)))
