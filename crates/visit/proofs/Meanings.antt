-- What an answer of the visit means, in words of vectors and cubes.
use Rattle.std.proofs.Common.{◌≡◌, ℕ, ◌-◌, ◌/◌, ◌%◌, ◌^◌, ◌<◌, ◌≤◌, Bool, true, false, cond, eqb, ◌⊎◌, List, length, Some, None, Option, sym, refl, ap, ◌∙◌, subst, inl, inr, true≢false, arith}
use lib.Count.{ones}
use Rattle.std.proofs.lemmas.Nat.{pow_pos, mod_below}
use Rattle.std.proofs.lemmas.Nat.Bits.{bit_at_above, bit_at_ones}
use Rattle.std.proofs.lemmas.Bool.{cases_lt}
use Rattle.values.specs.Pairs.{Pairs}
use Rattle.values.specs.Kind.{Kind, Lawful}
use Rattle.circuit.specs.Model.{Circuit}
use Rattle.faults.specs.declared.fault.Fault.{Fault}
use Rattle.faults.specs.Cubes.{Cube, Within}
use Rattle.simulator.specs.declared.verdict.Verdict.{Verdict}
use Rattle.simulator.specs.declared.verdict.Verdict.TheVariants.{Shows, Still, Unsure}
use Rattle.simulator.specs.Detection.{some_shows, verdict, detected, is_still, detects, Fills}
use Rattle.simulator.proofs.Telling.{shown_are_tests, still_detect_nothing, vectors_are_shown}
use Rattle.visit.specs.Visiting.{Progress, visited, answered, answer}
use Rattle.visit.specs.Meaning.{Test, Means}
use Rattle.visit.proofs.Words.{cut_bit, bit_cut, set_below}
use Rattle.visit.proofs.Finding.{AtMost, cut, cut_ones, visit_finds}
use Rattle.visit.proofs.Holding.{Shape, Good, visit_good}
use Rattle.visit.proofs.Inputs.{simulated_cut}

-- a cube cut to the k lowest inputs is one of these inputs
cut_shape : (k : ℕ) (q : Cube) → Within q.driven q.level → Shape k (cut k q)
cut_shape k q w = record {
  driven_low = mod_below q.driven (2 ^ k) (pow_pos k);
  level_low = mod_below q.level (2 ^ k) (pow_pos k);
  proper = λ i e. go i e (cases_lt i k);
}
  where
    go : (i : ℕ) → q.driven % 2 ^ k / 2 ^ i % 2 ≡ 0 → (i < k) ⊎ (k ≤ i) → q.level % 2 ^ k / 2 ^ i % 2 ≡ 0
    go i e (inl l) = cut_bit q.level k i l ∙ w i (sym (cut_bit q.driven k i l) ∙ e)
    go i e (inr l) = bit_at_above (q.level % 2 ^ k) k i (mod_below q.level (2 ^ k) (pow_pos k)) l

module _ (K : Kind) (M : Pairs → Type 0) (l : Lawful K M) (c : Circuit) (f : Fault) where
  abbrev inputs : ℕ
  inputs = length c.inputs

  abbrev judge : Cube → Verdict
  judge = verdict K c (Some f)

  judge_shows : (q : Cube) → judge q ≡ Shows → detected K c (Some f) q ≡ true
  judge_shows q e = go (detected K c (Some f) q) (is_still K c (Some f) q) e
    where
      go : (a b : Bool) → cond a Shows (cond b Still Unsure) ≡ Shows → a ≡ true
      go true b e = refl
      go false true e = cc
      go false false e = cc

  judge_still : (q : Cube) → judge q ≡ Still → is_still K c (Some f) q ≡ true
  judge_still q e = go (detected K c (Some f) q) (is_still K c (Some f) q) e
    where
      go : (a b : Bool) → cond a Shows (cond b Still Unsure) ≡ Still → b ≡ true
      go true b e = cc
      go false true e = refl
      go false false e = cc

  shows_judged : (q : Cube) → detected K c (Some f) q ≡ true → judge q ≡ Shows
  shows_judged q h = ap (λ (b : Bool). cond b Shows (cond (is_still K c (Some f) q) Still Unsure)) h

  -- the cube's own levels fill it in, and each of its cuts
  fills_cut : (q : Cube) (k : ℕ) → Fills q.level (cut k q)
  fills_cut q k i h = sym (bit_cut q.level k i (set_below (q.driven % 2 ^ k) k i (mod_below q.driven (2 ^ k) (pow_pos k)) h))

  still_misses : (q : Cube) (k : ℕ) → judge (cut k q) ≡ Still → judge q ≡ Shows → ⊥
  still_misses q k s h =
      true≢false
      (sym (shown_are_tests K M l c (Some f) q q.level (judge_shows q h) (λ i e. refl))
      ∙ still_detect_nothing K M l c (Some f) (cut k q) q.level (judge_still (cut k q) s) (fills_cut q k))

  shown_test : (q : Cube) → judge q ≡ Shows → Test c f q
  shown_test q h v fills = shown_are_tests K M l c (Some f) q v (judge_shows q h) fills

  -- the best cube against a bound
  best_at_most : (b : Option Cube) (q : Cube) (x : ℕ) → b ≡ Some q → AtMost b x → ones q.driven ≤ x
  best_at_most b q x e w = subst (λ (b : Option Cube). AtMost b x) e w

  -- the vector v as a cube: every input driven
  whole : ℕ → Cube
  whole v = record { driven = 2 ^ inputs - 1; level = v % 2 ^ inputs }

  whole_within : (v : ℕ) → Within (2 ^ inputs - 1) (v % 2 ^ inputs)
  whole_within v i e = go (cases_lt i inputs)
    where
      go : (i < inputs) ⊎ (inputs ≤ i) → v % 2 ^ inputs / 2 ^ i % 2 ≡ 0
      go (inl l) = absurd (omega (arith, bit_at_ones inputs i l))
      go (inr l) = bit_at_above (v % 2 ^ inputs) inputs i (mod_below v (2 ^ inputs) (pow_pos inputs)) l

  whole_fills : (v : ℕ) → Fills v (whole v)
  unfolding whole
  whole_fills v i h = sym (bit_cut v inputs i (set_below (2 ^ inputs - 1) inputs i (omega (arith, pow_pos inputs)) h))

  whole_shown : (v : ℕ) → detects c (Some f) v ≡ true → detected K c (Some f) (whole v) ≡ true
  unfolding whole
  whole_shown v h = vectors_are_shown K M l c (Some f) (whole v) v (whole_fills v) (λ i l. ap (λ (x : ℕ). eqb x 1) (bit_at_ones inputs i l)) h

  -- a visit that is not spent holds a cube that no shown cube beats
  finds : (budget : ℕ) → (visited judge budget inputs).spent ≡ false → (t : Cube) → Within t.driven t.level
      → detected K c (Some f) t ≡ true → AtMost (visited judge budget inputs).best (ones t.driven)
  finds budget e t w shown =
      let s = cut_shape inputs t w in
      let same = ap (λ (row : List Pairs). some_shows row c.outputs) (simulated_cut K c (Some f) t) in
      weaker (visited judge budget inputs).best (cut_ones judge budget inputs inputs t)
      (visit_finds judge budget inputs still_misses (cut inputs t) s.driven_low s.level_low s.proper (shows_judged (cut inputs t) (same ∙ shown)) e)
    where
      weaker : (b : Option Cube) → ones (cut inputs t).driven ≤ ones t.driven → AtMost b (ones (cut inputs t).driven) → AtMost b (ones t.driven)
      weaker None le w = w
      weaker (Some b) le w = omega arith

  pub answer_means : (budget : ℕ) → Means K c f (answer K c f budget)
  unfolding whole
  answer_means budget = go end.spent end.best refl refl
    where
      end : Progress
      end = visited judge budget inputs

      good : (b : Option Cube) → end.best ≡ b → Good judge budget inputs b
      good b e = subst (Good judge budget inputs) e (visit_good judge budget inputs)

      none : end.spent ≡ false → end.best ≡ None → (v : ℕ) (d : Bool) → detects c (Some f) v ≡ d → detects c (Some f) v ≡ false
      none e g v false h = h
      none e g v true h =
          absurd (subst (λ (b : Option Cube). AtMost b (ones (2 ^ inputs - 1))) g (finds budget e (whole v) (whole_within v) (whole_shown v h)))

      go : (a : Bool) (b : Option Cube) → end.spent ≡ a → end.best ≡ b → Means K c f (answered a b end.tries)
      go true None e g = tt
      go true (Some q) e g = (shown_test q (good (Some q) g).0, judge_shows q (good (Some q) g).0)
      go false None e g = λ v. none e g v (detects c (Some f) v) refl
      go false (Some q) e g = (shown_test q (good (Some q) g).0, λ t w shown. best_at_most end.best q (ones t.driven) g (finds budget e t w shown), judge_shows q (good (Some q) g).0)
