-- What an event makes of the table.
use Rattle.std.proofs.Common.{◌≡◌, ℕ, Bool, true, false, cond, not, leb, List, [], ◌∷◌, ◌++◌, map, length, set, Some, Ok, Err, Option, Result, sym, refl, subst, arith}
use Rattle.std.specs.Option.{ok_or}
use Rattle.std.specs.Result.{result_map_both}
use Rattle.std.specs.List.{count_by}
use Rattle.refusals.specs.declared.cause.Refusal.{Refusal}
use Rattle.refusals.specs.declared.cause.Refusal.TheVariants as refusal
use Rattle.refusals.specs.declared.layers.FolderRefusal.{FolderRefusal}
use Rattle.refusals.specs.declared.layers.FolderRefusal.TheVariants.{AlreadyEntered, FolderFull, NoSuchEntry, EntrySettled, BudgetOutOfRange, BudgetNotAbove}
use Rattle.values.specs.Kind.{Kind}
use Rattle.circuit.specs.Model.{Circuit}
use Rattle.faults.specs.declared.fault.Fault.{Fault}
use Rattle.faults.specs.declared.stuck_at.StuckAt.{StuckAt}
use Rattle.faults.specs.Cubes.{Cube}
use Rattle.faults.specs.Faults.{fault_made}
use Rattle.simulator.specs.Simulation.{simulation_allowed, row_allowed}
use Rattle.visit.specs.declared.answer.Answer.{Answer}
use Rattle.visit.specs.Visiting.{answer}
use Rattle.visit.specs.Visits.{answer_in}
use Rattle.folder.specs.declared.state.State.{State}
use Rattle.folder.specs.declared.state.State.TheVariants.{Open, Spent, Fewest, Redundant, Covered}
use Rattle.folder.specs.Entries.{Entry, opened, with_state, has_fault, state_settled, state_count}
use Rattle.folder.specs.Folders.{Folder}
use Rattle.folder.specs.Transitions.{Granted, granted, Follows, and_then, entry_at, entered}
use Rattle.folder.specs.Searching.{filed, budget_in_range, search_allowed, file_answer, search_entry}
use Rattle.folder.specs.Covering.{fewest_cube, is_covered, marked, mark_covered, cover_entry}
use Rattle.law.specs.declared.call.Call.{Call}
use Rattle.law.specs.declared.call.Call.TheVariants.{Enter, Search, Cover}
use Rattle.law.specs.declared.call.Outcome.{Outcome}
use Rattle.law.specs.declared.call.Outcome.TheVariants as outcome
use Rattle.law.specs.Histories.{Event, answered_as, defined, Step}
use Rattle.law.specs.Sound.{EntryAt}

-- The table that a call leaves, by its answer: the same one where the call is refused, else one with one open entry more, one with an answer
-- filed in an entry that was not settled, or one with entries marked by one that is fewest.
pub data Change (K : Kind) (c : Circuit) (before : List Entry) : Call → Result Outcome Refusal → List Entry → Type 0 where
  unchanged : (call : Call) (e : Refusal) → Change K c before call (Err e) before
  longer : (asked : StuckAt) (f : Fault) → fault_made c asked.line asked.pin asked.level ≡ Ok f → has_fault before f ≡ false
      → Change K c before (Enter asked) (Ok (outcome.Entered (length before))) (before ++ (opened f ∷ []))
  renewed : (number budget : ℕ) (x : Entry) → EntryAt before number x → state_settled x.state ≡ false
      → Change K c before (Search number budget) (Ok (outcome.Searched (answer K c x.fault budget))) (set before number (with_state x (filed (answer K c x.fault budget))))
  covered : (number : ℕ) (x : Entry) (q : Cube) (tries : ℕ) → EntryAt before number x → x.state ≡ Fewest q tries
      → Change K c before (Cover number) (Ok (outcome.Covered (count_by (is_covered K c q) before))) (map (marked K c number q) before)

-- both parts of a chain are granted
both_granted : {A B : Type 0} (d : Result A FolderRefusal) (after : A → Result B FolderRefusal) (b : B) → and_then d after ≡ Ok b → (a : A) × (d ≡ Ok a) × (after a ≡ Ok b)
both_granted (Ok a) after b h = (a, refl, h)
both_granted (Err e) after b h = cc

-- an entry that a call went on with is that of its number
found_granted : (o : Option Entry) (e : Entry) → ok_or o NoSuchEntry ≡ Ok e → o ≡ Some e
found_granted o e h = grind arith

-- an entry that may be searched is not settled
allowed_unsettled : (s : State) (budget : ℕ) (u : Unit {0}) → search_allowed s budget ≡ Ok u → state_settled s ≡ false
allowed_unsettled s budget u h = go (state_settled s) refl h
  where
    go : (b : Bool) → state_settled s ≡ b → cond b (Err EntrySettled) (cond (not (budget_in_range budget)) (Err BudgetOutOfRange) (cond (leb budget (state_count s)) (Err BudgetNotAbove) (Ok tt))) ≡ Ok u → state_settled s ≡ false
    go true e h = cc
    go false e h = e

-- an answer that was given is that of the visit
answered_is : (K : Kind) (c : Circuit) (f : Fault) (budget places : ℕ) (a : Answer) → answer_in K c f budget places ≡ Ok a → answer K c f budget ≡ a
answered_is K c f budget places a h = go (row_allowed c places) h
  where
    go : (r : Result (Unit {0}) FolderRefusal) → result_map_both (λ _. answer K c f budget) (λ (e : FolderRefusal). e) r ≡ Ok a → answer K c f budget ≡ a
    go (Err e) h = cc
    go (Ok u) h = cc

-- an entry whose cube was taken is fewest
fewest_state : (s : State) (q : Cube) → fewest_cube s ≡ Ok q → (tries : ℕ) × (s ≡ Fewest q tries)
fewest_state Open q h = cc
fewest_state (Spent cube tries) q h = cc
fewest_state (Fewest cube tries) q h = (tries, cc)
fewest_state (Redundant tries) q h = cc
fewest_state (Covered by) q h = cc

module _ (K : Kind) (c : Circuit) (before : List Entry) where
  abbrev folder : Folder
  folder = record { circuit = c; table = before }

  -- the change that a granted call makes, by its answer under a name and by the table that it leaves
  abbrev GrantedChange : {A : Type 0} → Call → (A → Outcome) → Granted A → Type 0
  GrantedChange call name g = Change K c before call (Ok (name g.answer)) g.table

  -- a fault that is entered was made, no entry had it, and the table has one open entry more
  entered_changes : (asked : StuckAt) (made : Result Fault FolderRefusal) (g : Granted ℕ) → fault_made c asked.line asked.pin asked.level ≡ made → entered before made ≡ Ok g
      → GrantedChange (Enter asked) outcome.Entered g
  entered_changes asked (Err e) g is h = cc
  entered_changes asked (Ok f) g is h = go (has_fault before f) (leb 512 (length before)) refl h
    where
      go : (a b : Bool) → has_fault before f ≡ a → cond a (Err AlreadyEntered) (cond b (Err FolderFull) (Ok (granted (length before) (before ++ (opened f ∷ []))))) ≡ Ok g
          → GrantedChange (Enter asked) outcome.Entered g
      go true b e h = cc
      go false true e h = cc
      go false false e h = let same : granted (length before) (before ++ (opened f ∷ [])) ≡ g = cc in subst (GrantedChange (Enter asked) outcome.Entered) same (longer asked f is e)

  module _ (places : ℕ) where
    -- an entry that is searched was not settled, and the answer of the visit for its fault is filed in it
    searched_changes : (number budget : ℕ) (g : Granted Answer) → search_entry K folder number budget places ≡ Ok g → GrantedChange (Search number budget) outcome.Searched g
    searched_changes number budget g h =
        let (x, found, second) = both_granted (entry_at before number) _ g h in
        let (u, allowed, third) = both_granted (search_allowed x.state budget) _ g second in
        let (a, answered, last) = both_granted (answer_in K c x.fault budget places) _ g third in
        let answer-is = answered_is K c x.fault budget places a answered in
        let same : file_answer before number x (answer K c x.fault budget) ≡ g = cc in
        subst (GrantedChange (Search number budget) outcome.Searched) same (renewed number budget x (found_granted _ x found) (allowed_unsettled x.state budget u allowed))

    -- an entry that covers is fewest, and what its cube covers is marked
    covered_changes : (number : ℕ) (g : Granted ℕ) → cover_entry K folder number places ≡ Ok g → GrantedChange (Cover number) outcome.Covered g
    covered_changes number g h =
        let (x, found, second) = both_granted (entry_at before number) _ g h in
        let (q, taken, third) = both_granted (fewest_cube x.state) _ g second in
        let (u, allowed, last) = both_granted (simulation_allowed c q places) _ g third in
        let (tries, fewest) = fewest_state x.state q taken in
        let same : mark_covered K c before number q ≡ g = cc in
        subst (GrantedChange (Cover number) outcome.Covered) same (covered number x q tries (found_granted _ x found) fewest)

    module _ (after : List Entry) where
      -- an answer under its name
      named_changes : {A : Type 0} (call : Call) (name : A → Outcome) (r : Result (Granted A) FolderRefusal) (o : Outcome) → ((g : Granted A) → r ≡ Ok g → GrantedChange call name g)
          → answered_as name r ≡ Ok (granted o after) → Change K c before call (Ok o) after
      named_changes call name (Ok g) o change h =
          let same : granted (name g.answer) g.table ≡ granted o after = cc in
          subst (λ (x : Granted Outcome). Change K c before call (Ok x.answer) x.table) same (change g refl)
      named_changes call name (Err e) o change h = cc

      -- a call that keeps to its definition makes such a change
      call_changes : (call : Call) (r : Result Outcome Refusal) → Follows (defined K folder call places) before r after → Change K c before call r after
      call_changes (Enter asked) (Ok o) h = named_changes (Enter asked) outcome.Entered _ o (λ g. entered_changes asked _ g refl) h
      call_changes (Search number budget) (Ok o) h = named_changes (Search number budget) outcome.Searched _ o (searched_changes number budget) h
      call_changes (Cover number) (Ok o) h = named_changes (Cover number) outcome.Covered _ o (covered_changes number) h
      call_changes call (Err (refusal.Folder e)) h = subst (Change K c before call _) (sym h.1) (unchanged call _)
      call_changes call (Err refusal.Memory) h = subst (Change K c before call _) (sym h.1) (unchanged call _)
      call_changes call (Err (refusal.Text e)) h = absurd h
      call_changes call (Err (refusal.Form e)) h = absurd h
      call_changes call (Err (refusal.Circuit e)) h = absurd h

  -- an event that leads from the one table to the other
  pub step_changes : (after : List Entry) (e : Event) → Step K c e before after → Change K c before e.call e.result after
  step_changes after e step = call_changes e.places after e.call e.result step.follows
