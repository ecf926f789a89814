-- What simulations under a lawful kind say of vectors.
use Rattle.std.proofs.Common.{◌≡◌, ℕ, ◌<◌, Bool, true, false, cond, List, length, get_or, None, Option, sym, refl, ap, ◌∙◌, subst, arith}
use mathlib.Core.Bool.{false≢true}
use Rattle.std.specs.List.{list_all, list_any}
use Rattle.std.proofs.lemmas.List.Folds.{Any-from_list_any, list_any-from_Any, list_any_none, list_any_at}
use Rattle.std.proofs.lemmas.List.Sums.{AllPass-from_list_all, list_all-from_AllPass}
use Rattle.values.specs.Pairs.{Pair, Pairs, pair, has, ◌∈◌, shows, still, only, Single}
use Rattle.values.specs.Values.{differs, pairs}
use Rattle.values.specs.Kind.{Kind, Lawful}
use Rattle.values.specs.Laws.Members.{only_has}
use Rattle.values.proofs.Members.{only_is}
use Rattle.circuit.specs.Model.{Circuit}
use Rattle.faults.specs.declared.fault.Fault.{Fault}
use Rattle.faults.specs.Cubes.{Cube}
use Rattle.simulator.specs.declared.verdict.Verdict.TheVariants.{Shows, Still, Unsure}
use Rattle.simulator.specs.Detection.{bit, input_value, simulated, set_of, detected, is_still, verdict, pair_under, Fills, DrivesAll}
use Rattle.simulator.specs.Reach.{level_at}
use Rattle.simulator.specs.Laws.{KeepsVectors, ShownAreTests, StillDetectNothing, VectorsAreShown, Telling, Tells}
use Rattle.simulator.proofs.Relating.{KeepsGates, KeepsPins, stuck_keeps, line_keeps}
use Rattle.simulator.proofs.Readings.{vector, pair_is}

-- what sets of pairs say of their members

shows_differ : (s : Pairs) (g f : Bool) → shows s ≡ true → has s g f ≡ true → differs g f ≡ true
shows_differ s g f h e = grind arith

still_same : (s : Pairs) (g f : Bool) → still s ≡ true → has s g f ≡ true → differs g f ≡ false
still_same s g f h e = grind arith

only_shows : (g f : Bool) → differs g f ≡ true → shows (only g f) ≡ true
only_shows g f h = grind arith

only_still : (g f : Bool) → shows (only g f) ≡ false → still (only g f) ≡ true
only_still g f h = grind arith

-- one test of a list that follows from another

some_from : {X : Type 0} (p r : X → Bool) → ((x : X) → p x ≡ true → r x ≡ true) → (xs : List X) → list_any p xs ≡ true → list_any r xs ≡ true
some_from p r h xs e = let (k, x, inside, is, passes) = Any-from_list_any p xs e in list_any-from_Any r xs (k, x, inside, is, h x passes)

none_from : {X : Type 0} (p r : X → Bool) → ((x : X) → p x ≡ true → r x ≡ false) → (xs : List X) → list_all p xs ≡ true → list_any r xs ≡ false
none_from p r h xs e = list_any_none r xs (λ k d inside. h (get_or xs k d) (AllPass-from_list_all p xs e k d inside))

every_from : {X : Type 0} (p r : X → Bool) → ((x : X) → p x ≡ false → r x ≡ true) → (xs : List X) → list_any p xs ≡ false → list_all r xs ≡ true
every_from p r h xs e = list_all-from_AllPass r xs (λ k d inside. h (get_or xs k d) (no k d inside (p (get_or xs k d)) refl))
  where
    no : (k : ℕ) (d : _) → k < length xs → (b : Bool) → p (get_or xs k d) ≡ b → p (get_or xs k d) ≡ false
    no k d inside false y = y
    no k d inside true y = absurd (false≢true (sym e ∙ list_any_at p xs k d inside y))

module _ (K : Kind) (M : Pairs → Type 0) (l : Lawful K M) where
  -- a set of the family that has the pair
  abbrev pub Among : Pair → Pairs → Type 0
  Among p s = M s × (p ∈ s)

  pub among : KeepsGates pairs.gates K.values.gates Among
  among = record {
    known = λ b. (l.gates.known_in b, subst (λ (s : Pairs). pair b b ∈ s) (sym (l.gates.known_is b)) (only_has b b));
    negate = λ p s r. (l.gates.negate_in s r.0, l.gates.negate_keeps s p r.0 r.1);
    both = λ p q s t r u. (l.gates.both_in s t r.0 u.0, l.gates.both_keeps s t p q r.0 u.0 r.1 u.1);
    either = λ p q s t r u. (l.gates.either_in s t r.0 u.0, l.gates.either_keeps s t p q r.0 u.0 r.1 u.1);
    differ = λ p q s t r u. (l.gates.differ_in s t r.0 u.0, l.gates.differ_keeps s t p q r.0 u.0 r.1 u.1);
  }

  among_pins : (f : Option Fault) → KeepsPins pairs K.values f f Among
  among_pins = stuck_keeps pairs K.values Among (λ v p s r. (l.stick.stick_in v s r.0, l.stick.stick_keeps v s p r.0 r.1))

  -- a set of the family that has the pair alone
  abbrev Just : Pair → Pairs → Type 0
  Just p s = M s × (s ≡ only p.good p.faulty)

  just_in : (p : Pair) (s : Pairs) → Just p s → p ∈ s
  just_in p s j = subst (λ (t : Pairs). p ∈ t) (sym j.1) (only_has p.good p.faulty)

  -- a set of one pair that has the pair has it alone
  alone : (p : Pair) (s : Pairs) → M s → p ∈ s → Single s → Just p s
  alone p s m h (q, e) =
      (m, e ∙ ap (λ (r : Pair). only r.good r.faulty) (sym (only_is p q.good q.faulty (subst (λ (t : Pairs). p ∈ t) e h))))

  just : KeepsGates pairs.gates K.values.gates Just
  just = record {
    known = λ b. (l.gates.known_in b, l.gates.known_is b);
    negate = λ p s r.
        alone (pairs.gates.negate p) _ (l.gates.negate_in s r.0) (l.gates.negate_keeps s p r.0 (just_in p s r)) (l.gates.negate_single s r.0 (p, r.1));
    both = λ p q s t r u.
        alone (pairs.gates.both p q) _ (l.gates.both_in s t r.0 u.0) (l.gates.both_keeps s t p q r.0 u.0 (just_in p s r) (just_in q t u))
        (l.gates.both_single s t r.0 u.0 (p, r.1) (q, u.1));
    either = λ p q s t r u.
        alone (pairs.gates.either p q) _ (l.gates.either_in s t r.0 u.0) (l.gates.either_keeps s t p q r.0 u.0 (just_in p s r) (just_in q t u))
        (l.gates.either_single s t r.0 u.0 (p, r.1) (q, u.1));
    differ = λ p q s t r u.
        alone (pairs.gates.differ p q) _ (l.gates.differ_in s t r.0 u.0) (l.gates.differ_keeps s t p q r.0 u.0 (just_in p s r) (just_in q t u))
        (l.gates.differ_single s t r.0 u.0 (p, r.1) (q, u.1));
  }

  just_pins : (f : Option Fault) → KeepsPins pairs K.values f f Just
  just_pins =
      stuck_keeps pairs K.values Just
      (λ v p s r. alone (pairs.stick v p) _ (l.stick.stick_in v s r.0) (l.stick.stick_keeps v s p r.0 (just_in p s r)) (l.stick.stick_single v s r.0 (p, r.1)))

  open_among : (b : Bool) → Among (pair b b) K.unknown
  open_among false = (l.gates.unknown_in, l.gates.unknown_00)
  open_among true = (l.gates.unknown_in, l.gates.unknown_11)

  pub input_among : (v : ℕ) (q : Cube) → Fills v q → (i : ℕ) → Among (vector v i) (input_value K q i)
  input_among v q fills i = go (bit q.driven i) refl
    where
      go : (b : Bool) → bit q.driven i ≡ b → Among (vector v i) (cond b (K.values.gates.known (bit q.level i)) K.unknown)
      go true e = subst (λ (x : Bool). Among (pair x x) (K.values.gates.known (bit q.level i))) (sym (fills i e)) (among.known (bit q.level i))
      go false e = open_among (bit v i)

  -- under a cube that a vector fills in, what the vector makes of each line is among the line's set
  pub keeps_vectors : KeepsVectors K
  keeps_vectors c f q v fills line =
      subst (λ (p : Pair). p ∈ set_of (simulated K c f q) line) (sym (pair_is c f v line))
      (line_keeps pairs K.values f f Among among (among_pins f) c (vector v) (input_value K q) (λ i h. input_among v q fills i)
      (pair false false) (only false false) (subst (λ (s : Pairs). Among (pair false false) s) (l.gates.known_is false) (among.known false)) line).1

  -- under a cube that drives every input, it is the line's set
  pub driven_exact : (c : Circuit) (f : Option Fault) (q : Cube) (v : ℕ) → Fills v q → DrivesAll c q → (line : ℕ)
      → set_of (simulated K c f q) line ≡ only (pair_under c f v line).good (pair_under c f v line).faulty
  driven_exact c f q v fills whole line =
      (line_keeps pairs K.values f f Just just (just_pins f) c (vector v) (input_value K q) driven
      (pair false false) (only false false) (subst (λ (s : Pairs). Just (pair false false) s) (l.gates.known_is false) (just.known false)) line).1
      ∙ ap (λ (p : Pair). only p.good p.faulty) (sym (pair_is c f v line))
    where
      driven : (i : ℕ) → i < length c.inputs → Just (vector v i) (input_value K q i)
      driven i h =
          subst (λ (b : Bool). Just (vector v i) (cond b (K.values.gates.known (bit q.level i)) K.unknown)) (sym (whole i h))
          (subst (λ (x : Bool). Just (pair x x) (K.values.gates.known (bit q.level i))) (sym (fills i (whole i h))) (just.known (bit q.level i)))

  -- a line that has the same level with the fault as without it does not show
  pub same_level_does_not_show : (c : Circuit) (f : Option Fault) (q : Cube) (v line : ℕ) → Fills v q → level_at c f v line ≡ level_at c None v line
      → shows (set_of (simulated K c f q) line) ≡ false
  same_level_does_not_show c f q v line fills same = go (shows (set_of (simulated K c f q) line)) refl
    where
      alike : (b : Bool) → differs b b ≡ false
      alike false = refl
      alike true = refl

      go : (b : Bool) → shows (set_of (simulated K c f q) line) ≡ b → shows (set_of (simulated K c f q) line) ≡ false
      go false e = e
      go true e =
          let unlike : differs (level_at c None v line) (level_at c f v line) ≡ true =
          shows_differ (set_of (simulated K c f q) line) (level_at c None v line) (level_at c f v line) e (keeps_vectors c f q v fills line) in
          absurd (false≢true (sym (alike (level_at c None v line)) ∙ ap (differs (level_at c None v line)) (sym same) ∙ unlike))

  -- a cube that shows is a test
  pub shown_are_tests : ShownAreTests K
  shown_are_tests c f q v h fills =
      some_from _ _ (λ o e. let p = pair_under c f v o in shows_differ (set_of (simulated K c f q) o) p.good p.faulty e (keeps_vectors c f q v fills o)) c.outputs h

  -- below a still cube no vector detects
  pub still_detect_nothing : StillDetectNothing K
  still_detect_nothing c f q v h fills =
      none_from _ _ (λ o e. let p = pair_under c f v o in still_same (set_of (simulated K c f q) o) p.good p.faulty e (keeps_vectors c f q v fills o)) c.outputs h

  -- a vector that detects is a cube that shows
  pub vectors_are_shown : VectorsAreShown K
  vectors_are_shown c f q v fills whole h =
      some_from _ _ (λ o e. let p = pair_under c f v o in ap shows (driven_exact c f q v fills whole o) ∙ only_shows p.good p.faulty e) c.outputs h

  pub telling : Telling K
  telling = record { keeps = keeps_vectors; shown = shown_are_tests; still = still_detect_nothing; vectors = vectors_are_shown }

  -- a cube that drives every input, and does not show, is still
  pub driven_decided : (c : Circuit) (f : Option Fault) (q : Cube) → DrivesAll c q → detected K c f q ≡ false → is_still K c f q ≡ true
  driven_decided c f q whole h =
      every_from _ _ (λ o e. let p = pair_under c f q.level o in ap still (exact o) ∙ only_still p.good p.faulty (ap shows (sym (exact o)) ∙ e)) c.outputs h
    where
      exact : (o : ℕ) → set_of (simulated K c f q) o ≡ only (pair_under c f q.level o).good (pair_under c f q.level o).faulty
      exact o = driven_exact c f q q.level (λ i e. refl) whole o

  -- what the verdict says
  pub verdict_tells : (c : Circuit) (f : Option Fault) (q : Cube) → Tells c f q (verdict K c f q)
  verdict_tells c f q = go (detected K c f q) refl (is_still K c f q) refl
    where
      go : (a : Bool) → detected K c f q ≡ a → (b : Bool) → is_still K c f q ≡ b → Tells c f q (cond a Shows (cond b Still Unsure))
      go true d b e = λ v fills. shown_are_tests c f q v d fills
      go false d true e = λ v fills. still_detect_nothing c f q v e fills
      go false d false e = λ whole. false≢true (sym e ∙ driven_decided c f q whole d)
