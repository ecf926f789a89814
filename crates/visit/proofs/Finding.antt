-- The visit misses no cube that is worth having.
use Rattle.std.proofs.Common.{◌≡◌, ℕ, zero, suc, ◌+◌, ◌-◌, ◌*◌, ◌/◌, ◌%◌, ◌^◌, ◌<◌, ◌≤◌, Bool, true, false, cond, not, ◌&&◌, ltb, ◌⊎◌, Some, None, Option, sym, refl, ap, ◌∙◌, subst, inl, inr, true≢false, mod-eq_of_lt, add_comm, zero-add, arith, ltb-false, ltb-true}
use native.Mathlib.Nat.{mod-one}
use lib.Count.{ones, ones_cat}
use Rattle.std.proofs.lemmas.Nat.{shr_split, mod-pow-add, mod_below, pow_pos}
use Rattle.faults.specs.Cubes.{Cube, Within}
use Rattle.simulator.specs.declared.verdict.Verdict.{Verdict}
use Rattle.simulator.specs.declared.verdict.Verdict.TheVariants.{Shows, Still, Unsure}
use Rattle.visit.specs.Visiting.{Progress, fewer, drive, tried, due, met, below, at_start, visited}

-- some cube is held that drives at most x inputs
abbrev pub AtMost : Option Cube → ℕ → Type 0
AtMost None x = ⊥
AtMost (Some b) x = ones b.driven ≤ x

-- a step that never forgets: what was held stays as good, and what was spent stays spent
pub record Steady (step : Progress → Progress) : Type 0 where
  pub holds : (s : Progress) (x : ℕ) → AtMost s.best x → AtMost (step s).best x
  pub ends : (s : Progress) → (step s).spent ≡ false → s.spent ≡ false

-- the part of q on its k lowest inputs
abbrev pub cut : ℕ → Cube → Cube
cut k q = record { driven = q.driven % 2 ^ k; level = q.level % 2 ^ k }

module _ (judge : Cube → Verdict) (budget inputs : ℕ) where
  tried_holds : (v : Verdict) (deeper : Progress → Progress) (q : Cube) → Steady deeper → (s : Progress) (x : ℕ) → fewer q s.best ≡ true → AtMost s.best x → AtMost (tried v deeper q s).best x
  tried_holds Shows deeper q d s x f w = go s.best f w
    where
      go : (b : Option Cube) → fewer q b ≡ true → AtMost b x → ones q.driven ≤ x
      go None f w = absurd w
      go (Some b) f w = let lt = ltb-true (ones q.driven) (ones b.driven) f in omega arith
  tried_holds Still deeper q d s x f w = w
  tried_holds Unsure deeper q d s x f w = d.holds _ x w

  due_holds : (deeper : Cube → Progress → Progress) (q : Cube) → Steady (deeper q) → (s : Progress) (x : ℕ) → fewer q s.best ≡ true → AtMost s.best x → AtMost (due judge budget deeper q s).best x
  due_holds deeper q d s x f w = go (ltb s.tries budget)
    where
      go : (b : Bool) → AtMost (cond b (tried (judge q) (deeper q) q s) (record { best = s.best; tries = s.tries; spent = true })).best x
      go true = tried_holds (judge q) (deeper q) q d s x f w
      go false = w

  met_holds : (deeper : Cube → Progress → Progress) (q : Cube) → Steady (deeper q) → (s : Progress) (x : ℕ) → AtMost s.best x → AtMost (met judge budget deeper q s).best x
  met_holds deeper q d s x w = go s.spent (fewer q s.best) refl
    where
      go : (a b : Bool) → fewer q s.best ≡ b → AtMost (cond (not a && b) (due judge budget deeper q s) s).best x
      go true b e = w
      go false true e = due_holds deeper q d s x e w
      go false false e = w

  met_ends : (deeper : Cube → Progress → Progress) (q : Cube) (s : Progress) → (met judge budget deeper q s).spent ≡ false → s.spent ≡ false
  met_ends deeper q s h = go s.spent refl h
    where
      go : (a : Bool) → s.spent ≡ a → (cond (not a && fewer q s.best) (due judge budget deeper q s) s).spent ≡ false → s.spent ≡ false
      go true e h = h
      go false e h = e

  pub below_steady : (m : ℕ) (q : Cube) → Steady (below judge budget inputs m q)
  below_steady zero q = record { holds = λ s x w. w; ends = λ s h. h }
  below_steady (suc m) q =
      let deeper : Cube → Progress → Progress = below judge budget inputs m in
      let q0 : Cube = drive q (inputs - suc m) 0 in
      let q1 : Cube = drive q (inputs - suc m) 1 in
      record {
        holds = λ s x w. (below_steady m q).holds (met judge budget deeper q1 (met judge budget deeper q0 s)) x
            (met_holds deeper q1 (below_steady m q1) (met judge budget deeper q0 s) x (met_holds deeper q0 (below_steady m q0) s x w));
        ends = λ s h. met_ends deeper q0 s (met_ends deeper q1 (met judge budget deeper q0 s) ((below_steady m q).ends (met judge budget deeper q1 (met judge budget deeper q0 s)) h));
      }

  pub cut_ones : (k : ℕ) (q : Cube) → ones (cut k q).driven ≤ ones q.driven
  cut_ones k q =
      let d : ℕ = q.driven in
      let split : ones d ≡ ones (d / 2 ^ k) + ones (d % 2 ^ k) = ap ones (sym (shr_split d k)) ∙ ones_cat k (d / 2 ^ k) (d % 2 ^ k) (mod_below d (2 ^ k) (pow_pos k)) in
      omega (arith, split)

  module _ (still_misses : (q : Cube) (k : ℕ) → judge (cut k q) ≡ Still → judge q ≡ Shows → ⊥) where
    -- q is met, or something below it is: the visit ends with a cube at least as small as t
    met_finds : (deeper : Cube → Progress → Progress) (k : ℕ) (t : Cube) (s : Progress)
        → judge t ≡ Shows
        → ((s : Progress) → judge (cut k t) ≡ Unsure → (deeper (cut k t) s).spent ≡ false → AtMost (deeper (cut k t) s).best (ones t.driven))
        → (met judge budget deeper (cut k t) s).spent ≡ false
        → AtMost (met judge budget deeper (cut k t) s).best (ones t.driven)
    met_finds deeper k t s shown finds h = go s.spent (fewer (cut k t) s.best) refl refl h
      where
        tries : (v : Verdict) → judge (cut k t) ≡ v → (tried v (deeper (cut k t)) (cut k t) s).spent ≡ false → AtMost (tried v (deeper (cut k t)) (cut k t) s).best (ones t.driven)
        tries Shows e h = cut_ones k t
        tries Still e h = absurd (still_misses t k e shown)
        tries Unsure e h = finds _ e h

        isdue : (b : Bool)
            → (cond b (tried (judge (cut k t)) (deeper (cut k t)) (cut k t) s) (record { best = s.best; tries = s.tries; spent = true })).spent ≡ false
            → AtMost (cond b (tried (judge (cut k t)) (deeper (cut k t)) (cut k t) s) (record { best = s.best; tries = s.tries; spent = true })).best (ones t.driven)
        isdue true h = tries (judge (cut k t)) refl h
        isdue false h = absurd (true≢false h)

        held : (b : Option Cube) → fewer (cut k t) b ≡ false → AtMost b (ones t.driven)
        held None e = absurd (true≢false e)
        held (Some b) e = let le = ltb-false (ones (cut k t).driven) (ones b.driven) e in let c = cut_ones k t in omega arith

        go : (a b : Bool) → s.spent ≡ a → fewer (cut k t) s.best ≡ b → (cond (not a && b) (due judge budget deeper (cut k t) s) s).spent ≡ false
            → AtMost (cond (not a && b) (due judge budget deeper (cut k t) s) s).best (ones t.driven)
        go true b y e h = absurd (true≢false (sym y ∙ h))
        go false true y e h = isdue (ltb s.tries budget) h
        go false false y e h = held s.best e

    low : (k n : ℕ) → n % 2 ^ (k + 1) ≡ (n / 2 ^ k % 2) * 2 ^ k + n % 2 ^ k
    low k n = ap (λ (j : ℕ). n % 2 ^ j) (add_comm k 1) ∙ mod-pow-add n 1 k

    -- an input that t does not drive adds nothing, and one that it drives adds its level
    cut_open : (k : ℕ) (t : Cube) → t.driven / 2 ^ k % 2 ≡ 0 → t.level / 2 ^ k % 2 ≡ 0 → cut (k + 1) t ≡ cut k t
    cut_open k t d l = rw (open' t.driven d, open' t.level l) refl
      where
        open' : (n : ℕ) → n / 2 ^ k % 2 ≡ 0 → n % 2 ^ (k + 1) ≡ n % 2 ^ k
        open' n e = low k n ∙ ap (λ (b : ℕ). b * 2 ^ k + n % 2 ^ k) e ∙ omega arith

    cut_driven : (k v : ℕ) (t : Cube) → t.driven / 2 ^ k % 2 ≡ 1 → t.level / 2 ^ k % 2 ≡ v → cut (k + 1) t ≡ drive (cut k t) k v
    cut_driven k v t d l =
        let driven : t.driven % 2 ^ (k + 1) ≡ t.driven % 2 ^ k + 2 ^ k = low k t.driven ∙ ap (λ (b : ℕ). b * 2 ^ k + t.driven % 2 ^ k) d ∙ omega arith in
        let level : t.level % 2 ^ (k + 1) ≡ t.level % 2 ^ k + v * 2 ^ k = low k t.level ∙ ap (λ (b : ℕ). b * 2 ^ k + t.level % 2 ^ k) l ∙ omega arith in
        rw (driven, level) refl

    two : (n : ℕ) → (n % 2 ≡ 0) ⊎ (n % 2 ≡ 1)
    two n = grind arith

    Finds : ℕ → Cube → ℕ → Type 0
    Finds m t k = (s : Progress) → judge (cut k t) ≡ Unsure
        → (below judge budget inputs m (cut k t) s).spent ≡ false → AtMost (below judge budget inputs m (cut k t) s).best (ones t.driven)

    -- below q stand two children and then the rest; t is found at whichever of the three it lies under
    abbrev pair_below : ℕ → Cube → Cube → Cube → Progress → Progress
    pair_below m q c0 c1 s = below judge budget inputs m q (met judge budget (below judge budget inputs m) c1 (met judge budget (below judge budget inputs m) c0 s))

    under_rest : (m k : ℕ) (t q c0 c1 : Cube) (s : Progress) → Finds m t k → cut k t ≡ q → judge q ≡ Unsure
        → (pair_below m q c0 c1 s).spent ≡ false → AtMost (pair_below m q c0 c1 s).best (ones t.driven)
    unfolding Finds
    under_rest m k t q c0 c1 s ih e u h =
        subst (λ (p : Cube). (pair_below m p c0 c1 s).spent ≡ false → AtMost (pair_below m p c0 c1 s).best (ones t.driven)) e
        (λ g. ih _ (ap judge e ∙ u) g) h

    under_low : (m k : ℕ) (t q c0 c1 : Cube) (s : Progress) → judge t ≡ Shows → Finds m t k → cut k t ≡ c0
        → (pair_below m q c0 c1 s).spent ≡ false → AtMost (pair_below m q c0 c1 s).best (ones t.driven)
    unfolding Finds
    under_low m k t q c0 c1 s shown ih e h =
        let deeper : Cube → Progress → Progress = below judge budget inputs m in
        let s0 : Progress = met judge budget deeper c0 s in
        let h1 = (below_steady m q).ends (met judge budget deeper c1 s0) h in
        let h0 = met_ends deeper c1 s0 h1 in
        (below_steady m q).holds (met judge budget deeper c1 s0) (ones t.driven)
        (met_holds deeper c1 (below_steady m c1) s0 (ones t.driven)
        (subst (λ (c : Cube). (met judge budget deeper c s).spent ≡ false → AtMost (met judge budget deeper c s).best (ones t.driven)) e
        (met_finds deeper k t s shown ih) h0))

    under_high : (m k : ℕ) (t q c0 c1 : Cube) (s : Progress) → judge t ≡ Shows → Finds m t k → cut k t ≡ c1
        → (pair_below m q c0 c1 s).spent ≡ false → AtMost (pair_below m q c0 c1 s).best (ones t.driven)
    unfolding Finds
    under_high m k t q c0 c1 s shown ih e h =
        let deeper : Cube → Progress → Progress = below judge budget inputs m in
        let s0 : Progress = met judge budget deeper c0 s in
        let h1 = (below_steady m q).ends (met judge budget deeper c1 s0) h in
        (below_steady m q).holds (met judge budget deeper c1 s0) (ones t.driven)
        (subst (λ (c : Cube). (met judge budget deeper c s0).spent ≡ false → AtMost (met judge budget deeper c s0).best (ones t.driven)) e
        (met_finds deeper k t s0 shown ih) h1)

    below_finds : (m k : ℕ) → k + m ≡ inputs → (t : Cube) → t.driven < 2 ^ inputs → t.level < 2 ^ inputs
        → Within t.driven t.level → judge t ≡ Shows → Finds m t k
    unfolding Finds
    below_finds zero k e t dl ll proper shown s unsure h =
        absurd (let clash : Shows ≡ Unsure = sym shown ∙ ap judge whole ∙ unsure in cc)
      where
        at : k ≡ inputs
        at = omega arith

        whole : t ≡ cut k t
        whole = rw (at, mod-eq_of_lt dl, mod-eq_of_lt ll) refl
    below_finds (suc m) k e t dl ll proper shown s unsure h =
        step (inputs - suc m) (omega arith) (below_finds m (k + 1) (omega arith) t dl ll proper shown) h (two (t.driven / 2 ^ k)) (two (t.level / 2 ^ k))
      where
        step : (i : ℕ) → k ≡ i → Finds m t (k + 1)
            → (pair_below m (cut k t) (drive (cut k t) i 0) (drive (cut k t) i 1) s).spent ≡ false
            → (t.driven / 2 ^ k % 2 ≡ 0) ⊎ (t.driven / 2 ^ k % 2 ≡ 1)
            → (t.level / 2 ^ k % 2 ≡ 0) ⊎ (t.level / 2 ^ k % 2 ≡ 1)
            → AtMost (pair_below m (cut k t) (drive (cut k t) i 0) (drive (cut k t) i 1) s).best (ones t.driven)
        step i same ih h (inl d) l = under_rest m (k + 1) t _ _ _ s ih (cut_open k t d (proper k d)) unsure h
        step i same ih h (inr d) (inl l) = under_low m (k + 1) t _ _ _ s shown ih (cut_driven k 0 t d l ∙ ap (λ (j : ℕ). drive (cut k t) j 0) same) h
        step i same ih h (inr d) (inr l) = under_high m (k + 1) t _ _ _ s shown ih (cut_driven k 1 t d l ∙ ap (λ (j : ℕ). drive (cut k t) j 1) same) h

    -- a visit that ends unspent holds a cube at least as small as any that shows
    pub visit_finds : (t : Cube) → t.driven < 2 ^ inputs → t.level < 2 ^ inputs → Within t.driven t.level
        → judge t ≡ Shows → (visited judge budget inputs).spent ≡ false → AtMost (visited judge budget inputs).best (ones t.driven)
    unfolding Finds
    visit_finds t dl ll proper shown h =
        subst (λ (q : Cube). (met judge budget (below judge budget inputs inputs) q at_start).spent ≡ false → AtMost (met judge budget (below judge budget inputs inputs) q at_start).best (ones t.driven))
        (rw (mod-one t.driven, mod-one t.level) refl)
        (met_finds (below judge budget inputs inputs) 0 t at_start shown (below_finds inputs 0 (zero-add inputs) t dl ll proper shown)) h
