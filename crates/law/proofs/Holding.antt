-- The law holds after every history.
use Rattle.std.proofs.Math.Bool.{and-false}
use Rattle.std.proofs.Common.{◌≡◌, ℕ, Bool, false, ◌&&◌, List, ◌∷◌, Some, None, Result, sym, refl, ap, ◌∙◌, subst, true≢false}
use Rattle.std.proofs.lemmas.Bool.{eq-eqb, ne_eqb}
use Rattle.std.specs.List.{slice_get}
use Rattle.refusals.specs.declared.cause.Refusal.{Refusal}
use Rattle.values.specs.Pairs.{Pairs}
use Rattle.values.specs.Kind.{Kind, Lawful}
use Rattle.circuit.specs.Model.{Circuit}
use Rattle.faults.specs.declared.fault.Fault.{Fault}
use Rattle.faults.specs.Cubes.{Cube}
use Rattle.simulator.specs.Simulation.{drives_beyond}
use Rattle.visit.specs.Visiting.{answer}
use Rattle.visit.specs.Meaning.{Test, Undetectable}
use Rattle.visit.proofs.Counting.{answer_inside}
use Rattle.visit.proofs.Meanings.{answer_means}
use Rattle.folder.specs.declared.state.State.{State}
use Rattle.folder.specs.declared.state.State.TheVariants.{Open, Spent, Fewest, Redundant, Covered}
use Rattle.folder.specs.Entries.{Entry, state_cube}
use Rattle.folder.specs.Folders.{Folder}
use Rattle.law.specs.declared.call.Call.{Call}
use Rattle.law.specs.declared.call.Outcome.{Outcome}
use Rattle.law.specs.Histories.{Event, event_of, Step, Run, start, next}
use Rattle.law.specs.Sound.{is_unspent, searches, SearchedUnspent, IsRedundant, Sound, KeepsLaw}
use Rattle.law.proofs.Granting.{Change, unchanged, longer, renewed, covered, step_changes}
use Rattle.law.proofs.Changing.{Listed, run_lists}
use Rattle.law.proofs.Keeping.{Known, Kept, kept_first, kept_same, kept_entered, kept_filed, kept_covered}

module _ (K : Kind) (M : Pairs → Type 0) (l : Lawful K M) (c : Circuit) where
  module _ (history : List Event) (before : List Entry) (k : Kept K c history before) (places : ℕ) where
    -- what is kept outlasts an event: only a search that was granted searches an entry to the end
    step_keeps : {call : Call} {r : Result Outcome Refusal} (after : List Entry) → Change K c before call r after → Kept K c (event_of call places r ∷ history) after
    step_keeps after (unchanged call e) = kept_same K c history _ before k (λ n. and-false (searches n call))
    step_keeps after (longer asked f made fresh) = kept_entered K c history _ before k f (λ n. refl)
    step_keeps after (renewed number budget x found unsettled) =
        let a = answer K c x.fault budget in
        kept_filed K c history _ before k number x found unsettled a (answer_means K M l c x.fault budget) (answer_inside K c x.fault budget)
        (λ n ne. ap (λ (b : Bool). b && is_unspent a) (ne_eqb number n (λ e. ne (sym e))))
        (ap (λ (b : Bool). b && is_unspent a) (eq-eqb number number refl))
    step_keeps after (covered number x q tries found fewest) = kept_covered K c history _ before k M l number x q tries found fewest (λ n. refl)

  run_keeps : (history : List Event) (table : List Entry) → Run K c history table → Kept K c history table
  run_keeps history table start = kept_first K c
  run_keeps history table (next {e = e} {history = earlier} {before = before} {after = after} run step) =
      step_keeps earlier before (run_keeps earlier before run) e.places after (step_changes K c before after e step)

  -- what a kept table says, in the words of the law

  cube_known : (history : List Event) (table : List Entry) (n : ℕ) (f : Fault) (s : State) → Known K c history table n f s → (q : Cube) → state_cube s ≡ Some q → Test c f q
  cube_known history table n f Open k q e = cc
  cube_known history table n f (Spent None tries) k q e = cc
  cube_known history table n f (Spent (Some p) tries) k q e = let same : p ≡ q = cc in subst (λ (x : Cube). Test c f x) same k.1
  cube_known history table n f (Fewest p tries) k q e = let same : p ≡ q = cc in subst (λ (x : Cube). Test c f x) same k.0
  cube_known history table n f (Redundant tries) k q e = cc
  cube_known history table n f (Covered m) k q e = cc

  cube_inside : (history : List Event) (table : List Entry) (n : ℕ) (f : Fault) (s : State) → Known K c history table n f s → (q : Cube) → state_cube s ≡ Some q → drives_beyond c q ≡ false
  cube_inside history table n f Open k q e = cc
  cube_inside history table n f (Spent None tries) k q e = cc
  cube_inside history table n f (Spent (Some p) tries) k q e = let same : p ≡ q = cc in subst (λ (x : Cube). drives_beyond c x ≡ false) same k.2
  cube_inside history table n f (Fewest p tries) k q e = let same : p ≡ q = cc in subst (λ (x : Cube). drives_beyond c x ≡ false) same k.3
  cube_inside history table n f (Redundant tries) k q e = cc
  cube_inside history table n f (Covered m) k q e = cc

  -- a fault with a test is detected by some vector
  test_detects : (f : Fault) (q : Cube) → Test c f q → Undetectable c f → ⊥
  test_detects f q test none = true≢false (sym (test q.level (λ i e. refl)) ∙ none q.level)

  searched_redundant : (history : List Event) (table : List Entry) (n : ℕ) (f : Fault) (s : State) → Known K c history table n f s → SearchedUnspent history n → Undetectable c f → IsRedundant s
  searched_redundant history table n f Open k h u = cc
  searched_redundant history table n f (Spent None tries) k h u = cc
  searched_redundant history table n f (Spent (Some q) tries) k h u = cc
  searched_redundant history table n f (Fewest q tries) k h u = absurd (test_detects f q k.0 u)
  searched_redundant history table n f (Redundant tries) k h u = (tries, refl)
  searched_redundant history table n f (Covered m) k h u = cc

  module _ (history : List Event) (table : List Entry) (k : Kept K c history table) (listed : Listed c table) where
    -- what is known of an entry, at its state
    known_at : (n : ℕ) (e : Entry) → slice_get table n ≡ Some e → (s : State) → e.state ≡ s → Known K c history table n e.fault s
    known_at n e at s is = subst (λ (x : State). Known K c history table n e.fault x) is (k.entries n e at)

    kept_sound : Sound K c history table
    kept_sound = record {
      cubes = λ n e at q is. cube_known history table n e.fault e.state (k.entries n e at) q is;
      covered = λ n m e at is. (known_at n e at (Covered m) is).1;
      inside = λ n e at q is. cube_inside history table n e.fault e.state (k.entries n e at) q is;
      fewest = λ n e at q tries is. let k = known_at n e at (Fewest q tries) is in (k.1, k.2);
      redundant = λ n e at r. known_at n e at (Redundant r.0) r.1;
      marked = λ n e at h u. searched_redundant history table n e.fault e.state (k.entries n e at) h u;
      own = listed.own;
      once = listed.once;
    }

  -- the law holds where a history leads
  pub run_sound : (history : List Event) (table : List Entry) → Run K c history table → Sound K c history table
  run_sound history table run = kept_sound history table (run_keeps history table run) (run_lists K c history table run)

  -- one call more
  pub keeps_law : (before after : Folder) (e : Event) → before.circuit ≡ c → after.circuit ≡ c → Step K c e before.table after.table → KeepsLaw K before e after
  keeps_law before after e was is step history run =
      let longer : Run K c (e ∷ history) after.table = next (subst (λ (d : Circuit). Run K d history before.table) was run) step in
      subst (λ (d : Circuit). Run K d (e ∷ history) after.table × Sound K d (e ∷ history) after.table) (sym is)
      (longer, run_sound (e ∷ history) after.table longer)
