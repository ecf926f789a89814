-- What the entries of a table keep saying, event by event.
use Rattle.std.proofs.Common.{◌≡◌, ℕ, ◌≤◌, Bool, true, false, cond, not, ◌&&◌, ◌||◌, ◌⊎◌, List, [], ◌∷◌, ◌++◌, map, length, set, Some, None, sym, refl, ap, ◌∙◌, subst, inl, inr, true≢false, arith}
use Rattle.std.proofs.lemmas.List.{length-set, length-map, length_push}
use Rattle.std.proofs.lemmas.Bool.{cases_eq, and_parts, not-true}
use Rattle.std.proofs.lemmas.Option.{slice_get-map, slice_get_within}
use Rattle.std.specs.Option.{option_map}
use Rattle.std.specs.List.{slice_get, list_any}
use Rattle.values.specs.Pairs.{Pairs}
use Rattle.values.specs.Kind.{Kind, Lawful}
use Rattle.circuit.specs.Model.{Circuit}
use Rattle.faults.specs.declared.fault.Fault.{Fault}
use Rattle.faults.specs.Cubes.{Cube}
use Rattle.simulator.specs.Detection.{detected}
use Rattle.simulator.specs.Simulation.{drives_beyond}
use Rattle.simulator.proofs.Telling.{shown_are_tests}
use Rattle.visit.specs.declared.answer.Answer.{Answer}
use Rattle.visit.specs.declared.answer.Answer.TheVariants as answer
use Rattle.visit.specs.Meaning.{Test, Unbeaten, Shown, Undetectable, Means}
use Rattle.visit.specs.Visits.{Inside}
use Rattle.folder.specs.declared.state.State.{State}
use Rattle.folder.specs.declared.state.State.TheVariants.{Open, Spent, Fewest, Redundant, Covered}
use Rattle.folder.specs.Entries.{Entry, opened, with_state, state_settled}
use Rattle.folder.specs.Searching.{filed}
use Rattle.folder.specs.Covering.{is_covered, marked}
use Rattle.law.specs.Histories.{Event}
use Rattle.law.specs.Sound.{is_unspent, is_unspent_search, SearchedUnspent}
use Rattle.law.proofs.Places.{nth_push_old, nth_push_new, nth_set_same, nth_set_other, nth_map_from}

module _ (K : Kind) (c : Circuit) where
  -- no granted search of that entry was unspent
  abbrev pub Unsearched : List Event → ℕ → Type 0
  Unsearched history n = list_any (is_unspent_search n) history ≡ false

  -- the entry of that number is fewest, and its cube is a test for the fault
  abbrev pub Backed : List Entry → Fault → ℕ → Type 0
  Backed table f m = (d : Entry) × (q : Cube) × (tries : ℕ) × (slice_get table m ≡ Some d) × (d.state ≡ Fewest q tries) × Test c f q

  -- what the state of an entry says of its fault and of the calls made
  abbrev pub Known : List Event → List Entry → ℕ → Fault → State → Type 0
  Known history table n f Open = Unsearched history n
  Known history table n f (Spent None tries) = Unsearched history n
  Known history table n f (Spent (Some q) tries) = Unsearched history n × Test c f q × (drives_beyond c q ≡ false)
  Known history table n f (Fewest q tries) = Test c f q × Unbeaten K c f q × Shown K c f q × (drives_beyond c q ≡ false)
  Known history table n f (Redundant tries) = SearchedUnspent history n × Undetectable c f
  Known history table n f (Covered m) = Unsearched history n × Backed table f m

  pub record Kept (history : List Event) (table : List Entry) : Type 0 where
    pub entries : (n : ℕ) (e : Entry) → slice_get table n ≡ Some e → Known history table n e.fault e.state
    pub past : (n : ℕ) → length table ≤ n → Unsearched history n

  pub kept_first : Kept [] []
  kept_first = record { entries = λ n e h. cc; past = λ n h. refl }

  -- an entry that is not settled was not searched to the end
  unsettled_unsearched : (history : List Event) (table : List Entry) (n : ℕ) (f : Fault) (s : State) → state_settled s ≡ false → Known history table n f s → Unsearched history n
  unsettled_unsearched history table n f Open e k = k
  unsettled_unsearched history table n f (Spent None tries) e k = k
  unsettled_unsearched history table n f (Spent (Some q) tries) e k = k.0
  unsettled_unsearched history table n f (Fewest q tries) e k = cc
  unsettled_unsearched history table n f (Redundant tries) e k = cc
  unsettled_unsearched history table n f (Covered m) e k = cc

  -- what is known stays known where the calls say the same of the entry, and entries that back others stay
  known_moves : (history later : List Event) (table after : List Entry) (n : ℕ) (f : Fault) (s : State)
      → list_any (is_unspent_search n) later ≡ list_any (is_unspent_search n) history → ((m : ℕ) → Backed table f m → Backed after f m)
      → Known history table n f s → Known later after n f s
  known_moves history later table after n f Open e b k = e ∙ k
  known_moves history later table after n f (Spent None tries) e b k = e ∙ k
  known_moves history later table after n f (Spent (Some q) tries) e b k = (e ∙ k.0, k.1, k.2)
  known_moves history later table after n f (Fewest q tries) e b k = k
  known_moves history later table after n f (Redundant tries) e b k = (e ∙ k.0, k.1)
  known_moves history later table after n f (Covered m) e b k = (e ∙ k.0, b m k.1)

  module _ (history : List Event) (event : Event) (table : List Entry) (k : Kept history table) where
    -- the event searches no entry to the end
    abbrev Idle : Type 0
    Idle = (n : ℕ) → is_unspent_search n event ≡ false

    idle_same : (n : ℕ) → is_unspent_search n event ≡ false → list_any (is_unspent_search n) (event ∷ history) ≡ list_any (is_unspent_search n) history
    idle_same n e = ap (λ (b : Bool). b || list_any (is_unspent_search n) history) e

    -- the table is left as it was
    pub kept_same : Idle → Kept (event ∷ history) table
    kept_same idle = record {
      entries = λ n e h. known_moves history (event ∷ history) table table n e.fault e.state (idle_same n (idle n)) (λ m b. b) (k.entries n e h);
      past = λ n h. idle_same n (idle n) ∙ k.past n h;
    }

    -- one open entry more
    module _ (f : Fault) (idle : Idle) where
      abbrev longer : List Entry
      longer = table ++ (opened f ∷ [])

      backed_longer : (g : Fault) (m : ℕ) → Backed table g m → Backed longer g m
      backed_longer g m (d, q, tries, at, is, test) = (d, q, tries, nth_push_old table (opened f) m d at, is, test)

      known_longer : (n : ℕ) (e : Entry) → (slice_get table n ≡ Some e) ⊎ ((n ≡ length table) × (e ≡ opened f)) → Known (event ∷ history) longer n e.fault e.state
      known_longer n e (inl h) = known_moves history (event ∷ history) table longer n e.fault e.state (idle_same n (idle n)) (backed_longer e.fault) (k.entries n e h)
      known_longer n e (inr (at, is)) =
          subst (λ (x : Entry). Known (event ∷ history) longer n x.fault x.state) (sym is) (idle_same n (idle n) ∙ k.past n (omega arith))

      pub kept_entered : Kept (event ∷ history) longer
      kept_entered = record {
        entries = λ n e h. known_longer n e (nth_push_new table (opened f) n e h);
        past = λ n h. idle_same n (idle n) ∙ k.past n (omega (arith, length_push table (opened f)));
      }

    -- an answer is filed in an entry that was not settled
    module _ (number : ℕ) (x : Entry) (found : slice_get table number ≡ Some x) (unsettled : state_settled x.state ≡ false) where
      unsearched_before : Unsearched history number
      unsearched_before = unsettled_unsearched history table number x.fault x.state unsettled (k.entries number x found)

      -- an entry that backs another is settled, so it is not this one
      not_backing : (d : Entry) (q : Cube) (tries m : ℕ) → slice_get table m ≡ Some d → d.state ≡ Fewest q tries → m ≡ number → ⊥
      not_backing d q tries m at is e =
          let same : Some d ≡ Some x = sym at ∙ ap (slice_get table) e ∙ found in
          let one : d ≡ x = cc in
          true≢false (sym (ap state_settled is) ∙ ap (λ (y : Entry). state_settled y.state) one ∙ unsettled)

      backed_set : (y : Entry) (g : Fault) (m : ℕ) → Backed table g m → Backed (set table number y) g m
      backed_set y g m (d, q, tries, at, is, test) = (d, q, tries, nth_set_other table number m y (not_backing d q tries m at is) ∙ at, is, test)

      known_here : (after : List Entry) (a : Answer) → Means K c x.fault a → Inside c a → is_unspent_search number event ≡ is_unspent a
          → Known (event ∷ history) after number x.fault (filed a)
      known_here after (answer.Fewest q tries) m i o = (m.0, m.1, m.2, i)
      known_here after (answer.Redundant tries) m i o = (ap (λ (b : Bool). b || list_any (is_unspent_search number) history) o, m)
      known_here after (answer.Spent None tries) m i o = idle_same number o ∙ unsearched_before
      known_here after (answer.Spent (Some q) tries) m i o = (idle_same number o ∙ unsearched_before, m.0, i)

      module _ (a : Answer) (means : Means K c x.fault a) (inside : Inside c a) (others : (n : ℕ) → (n ≡ number → ⊥) → is_unspent_search n event ≡ false) (own : is_unspent_search number event ≡ is_unspent a) where
        abbrev new : Entry
        new = with_state x (filed a)

        known_set : (n : ℕ) (e : Entry) → slice_get (set table number new) n ≡ Some e → (n ≡ number) ⊎ (n ≡ number → ⊥) → Known (event ∷ history) (set table number new) n e.fault e.state
        known_set n e h (inl at) =
            let same : Some e ≡ Some new = sym h ∙ ap (slice_get (set table number new)) at ∙ nth_set_same table number x new found in
            let one : e ≡ new = cc in
            subst (λ (i : ℕ). Known (event ∷ history) (set table number new) i e.fault e.state) (sym at)
            (subst (λ (y : Entry). Known (event ∷ history) (set table number new) number y.fault y.state) (sym one) (known_here (set table number new) a means inside own))
        known_set n e h (inr other) =
            known_moves history (event ∷ history) table (set table number new) n e.fault e.state (idle_same n (others n other)) (backed_set new e.fault)
            (k.entries n e (sym (nth_set_other table number n new other) ∙ h))

        pub kept_filed : Kept (event ∷ history) (set table number new)
        kept_filed = record {
          entries = λ n e h. known_set n e h (cases_eq n number);
          past = λ n h.
              let far : length table ≤ n = omega (arith, length-set table number new) in
              let near = slice_get_within table number x found in
              idle_same n (others n (λ e. omega arith)) ∙ k.past n far;
        }

    -- entries are marked as covered by one that is fewest
    module _ (M : Pairs → Type 0) (l : Lawful K M) (number : ℕ) (x : Entry) (q : Cube) (tries : ℕ) (found : slice_get table number ≡ Some x) (fewest : x.state ≡ Fewest q tries) (idle : Idle) where
      abbrev mark : Entry → Entry
      mark = marked K c number q

      -- a fewest entry is left as it is
      stays : (d : Entry) (p : Cube) (t : ℕ) → d.state ≡ Fewest p t → mark d ≡ d
      stays d p t is = ap (λ (s : State). cond (not (state_settled s) && detected K c (Some d.fault) q) (with_state d (Covered number)) d) is

      backed_marked : (g : Fault) (m : ℕ) → Backed table g m → Backed (map mark table) g m
      backed_marked g m (d, p, t, at, is, test) = (d, p, t, slice_get-map mark table m ∙ ap (option_map mark) at ∙ ap Some (stays d p t is), is, test)

      known_marked : (n : ℕ) (d : Entry) → slice_get table n ≡ Some d → (b : Bool) → is_covered K c q d ≡ b
          → Known (event ∷ history) (map mark table) n (cond b (with_state d (Covered number)) d).fault (cond b (with_state d (Covered number)) d).state
      known_marked n d at true e =
          let parts = and_parts (not (state_settled d.state)) (detected K c (Some d.fault) q) e in (
            idle_same n (idle n) ∙ unsettled_unsearched history table n d.fault d.state (not-true (state_settled d.state) parts.0) (k.entries n d at),
            (x, q, tries, slice_get-map mark table number ∙ ap (option_map mark) found ∙ ap Some (stays x q tries fewest), fewest, λ v fills. shown_are_tests K M l c (Some d.fault) q v parts.1 fills),
          )
      known_marked n d at false e =
          known_moves history (event ∷ history) table (map mark table) n d.fault d.state (idle_same n (idle n)) (backed_marked d.fault) (k.entries n d at)

      known_after : (n : ℕ) (e d : Entry) → slice_get table n ≡ Some d → e ≡ mark d → Known (event ∷ history) (map mark table) n e.fault e.state
      known_after n e d at is =
          subst (λ (y : Entry). Known (event ∷ history) (map mark table) n y.fault y.state) (sym is) (known_marked n d at (is_covered K c q d) refl)

      pub kept_covered : Kept (event ∷ history) (map mark table)
      kept_covered = record {
        entries = λ n e h. let (d, at, is) = nth_map_from mark table n e h in known_after n e d at is;
        past = λ n h. idle_same n (idle n) ∙ k.past n (omega (arith, length-map table mark));
      }
