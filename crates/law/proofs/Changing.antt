-- Which entries come into a table by an event, and which stay.
use Rattle.std.proofs.Common.{◌≡◌, ℕ, Bool, true, false, cond, not, ◌⊎◌, List, length, set, Some, Ok, Err, Result, sym, refl, ap, ◌∙◌, subst, inl, inr, true≢false, arith}
use Rattle.std.proofs.lemmas.Bool.{cases_eq, eq-eqb, not-true, and_parts}
use Rattle.std.proofs.lemmas.List.Folds.{list_any_at}
use Rattle.std.proofs.lemmas.Option.{slice_get-map, slice_get_within, get_or_from_slice_get}
use Rattle.std.specs.Prelude.{nat_le, nat_lt, ◌==◌}
use Rattle.std.specs.Option.{option_map}
use Rattle.std.specs.List.{slice_get}
use Rattle.refusals.specs.declared.cause.Refusal.{Refusal}
use Rattle.refusals.specs.declared.layers.FolderRefusal.TheVariants.{NoSuchLine, NoSuchPin, LevelAboveOne}
use Rattle.values.specs.Kind.{Kind}
use Rattle.circuit.specs.Model.{Circuit, line_count, operand_count}
use Rattle.faults.specs.declared.fault.Fault.{Fault}
use Rattle.faults.specs.Cubes.{Cube}
use Rattle.faults.specs.Faults.{fault, fault_made, same_level, same_fault}
use Rattle.visit.specs.Visiting.{answer}
use Rattle.folder.specs.declared.state.State.{State}
use Rattle.folder.specs.declared.state.State.TheVariants.{Covered}
use Rattle.folder.specs.Entries.{Entry, opened, with_state, has_fault, state_settled}
use Rattle.folder.specs.Searching.{filed}
use Rattle.folder.specs.Covering.{is_covered, marked}
use Rattle.law.specs.declared.call.Call.{Call}
use Rattle.law.specs.declared.call.Outcome.{Outcome}
use Rattle.law.specs.Histories.{Event, Step, Run, start, next}
use Rattle.law.specs.Sound.{EntryAt, IsFaultOf, EntriesStay}
use Rattle.law.proofs.Granting.{Change, unchanged, longer, renewed, covered, step_changes}
use Rattle.law.proofs.Places.{nth_push_old, nth_push_new, nth_set_same, nth_set_other, nth_map_from}

-- a fault that was made is one of the circuit
made_is_of : (c : Circuit) (line pin level : ℕ) (f : Fault) → fault_made c line pin level ≡ Ok f → IsFaultOf c f
made_is_of c line pin level f h =
    let same : f ≡ fault line pin (level == 1) = go (nat_le (line_count c) line) (nat_lt (operand_count c line) pin) (nat_lt 1 level) h in
    (level, subst (λ (g : Fault). fault_made c g.line g.pin level ≡ Ok g) (sym same) (h ∙ ap Ok same))
  where
    go : (a b d : Bool) → cond a (Err NoSuchLine) (cond b (Err NoSuchPin) (cond d (Err LevelAboveOne) (Ok (fault line pin (level == 1))))) ≡ Ok f → f ≡ fault line pin (level == 1)
    go true b d h = cc
    go false true d h = cc
    go false false true h = cc
    go false false false h = cc

same_level_itself : (b : Bool) → same_level b b ≡ true
same_level_itself true = refl
same_level_itself false = refl

same_fault_itself : (f : Fault) → same_fault f f ≡ true
same_fault_itself f = grind (arith, eq-eqb f.line f.line refl, eq-eqb f.pin f.pin refl, same_level_itself f.level)

-- a table has the fault of each of its entries
has_its_faults : (table : List Entry) (n : ℕ) (e : Entry) → EntryAt table n e → has_fault table e.fault ≡ true
has_its_faults table n e at =
    list_any_at (λ (d : Entry). same_fault d.fault e.fault) table n e (slice_get_within table n e at)
    (ap (λ (d : Entry). same_fault d.fault e.fault) (get_or_from_slice_get table n e e at) ∙ same_fault_itself e.fault)

module _ (K : Kind) (c : Circuit) where
  -- an entry that is marked keeps its fault, and one that is settled is not marked
  marked_fault : (number : ℕ) (q : Cube) (e : Entry) → (marked K c number q e).fault ≡ e.fault
  marked_fault number q e = go (is_covered K c q e)
    where
      go : (b : Bool) → (cond b (with_state e (Covered number)) e).fault ≡ e.fault
      go true = refl
      go false = refl

  settled_unmarked : (number : ℕ) (q : Cube) (e : Entry) → state_settled e.state ≡ true → marked K c number q e ≡ e
  settled_unmarked number q e settled = go (is_covered K c q e) refl
    where
      go : (b : Bool) → is_covered K c q e ≡ b → cond b (with_state e (Covered number)) e ≡ e
      go true is = absurd (true≢false (sym settled ∙ not-true (state_settled e.state) (and_parts (not (state_settled e.state)) _ is).0))
      go false is = refl

  -- each entry keeps its number and its fault, and a settled one stays
  stays : {call : Call} {r : Result Outcome Refusal} (before after : List Entry) → Change K c before call r after → EntriesStay before after
  stays before after (unchanged call refusal) n e at = (e, at, refl, λ settled. refl)
  stays before after (longer asked f made fresh) n e at = (e, nth_push_old before (opened f) n e at, refl, λ settled. refl)
  stays before after (renewed number budget x found unsettled) n e at = go (filed (answer K c x.fault budget)) (cases_eq n number)
    where
      go : (s : State) → (n ≡ number) ⊎ (n ≡ number → ⊥) → (d : Entry) × EntryAt (set before number (with_state x s)) n d × (d.fault ≡ e.fault) × (state_settled e.state ≡ true → d ≡ e)
      go s (inl here) =
          let found-there : Some e ≡ Some x = sym at ∙ ap (slice_get before) here ∙ found in
          let one : e ≡ x = cc in (
            with_state x s,
            ap (slice_get (set before number (with_state x s))) here ∙ nth_set_same before number x (with_state x s) found,
            ap (λ (y : Entry). y.fault) (sym one),
            λ settled. absurd (true≢false (sym settled ∙ ap (λ (y : Entry). state_settled y.state) one ∙ unsettled)),
          )
      go s (inr other) = (e, nth_set_other before number n (with_state x s) other ∙ at, refl, λ settled. refl)
  stays before after (covered number x q tries found fewest) n e at = (
    marked K c number q e,
    slice_get-map (marked K c number q) before n ∙ ap (option_map (marked K c number q)) at,
    marked_fault number q e,
    settled_unmarked number q e,
  )

  -- an entry of the table afterwards has the fault of the entry that had its number, or it is new
  abbrev Came : List Entry → ℕ → Entry → Type 0
  Came before n d = ((e : Entry) × EntryAt before n e × (d.fault ≡ e.fault)) ⊎ ((n ≡ length before) × IsFaultOf c d.fault × (has_fault before d.fault ≡ false))

  came : {call : Call} {r : Result Outcome Refusal} (before after : List Entry) → Change K c before call r after → (n : ℕ) (d : Entry) → EntryAt after n d → Came before n d
  came before after (unchanged call refusal) n d at = inl (d, at, refl)
  came before after (longer asked f made fresh) n d at = go (nth_push_new before (opened f) n d at)
    where
      go : EntryAt before n d ⊎ ((n ≡ length before) × (d ≡ opened f)) → Came before n d
      go (inl old) = inl (d, old, refl)
      go (inr (last, new)) =
          inr (last, subst (λ (y : Entry). IsFaultOf c y.fault) (sym new) (made_is_of c asked.line asked.pin asked.level f made), ap (λ (y : Entry). has_fault before y.fault) new ∙ fresh)
  came before after (renewed number budget x found unsettled) n d at = go (filed (answer K c x.fault budget)) at (cases_eq n number)
    where
      go : (s : State) → EntryAt (set before number (with_state x s)) n d → (n ≡ number) ⊎ (n ≡ number → ⊥) → Came before n d
      go s there (inl here) =
          let found-there : Some d ≡ Some (with_state x s) = sym there ∙ ap (slice_get (set before number (with_state x s))) here ∙ nth_set_same before number x (with_state x s) found in
          let one : d ≡ with_state x s = cc in
          inl (x, ap (slice_get before) here ∙ found, ap (λ (y : Entry). y.fault) one)
      go s there (inr other) = inl (d, sym (nth_set_other before number n (with_state x s) other) ∙ there, refl)
  came before after (covered number x q tries found fewest) n d at =
      let (e, old, is) = nth_map_from (marked K c number q) before n d at in
      inl (e, old, ap (λ (y : Entry). y.fault) is ∙ marked_fault number q e)

-- the faults of a table are of the circuit, and no two entries have the same one
pub record Listed (c : Circuit) (table : List Entry) : Type 0 where
  pub own : (n : ℕ) (e : Entry) → EntryAt table n e → IsFaultOf c e.fault
  pub once : (n m : ℕ) (e d : Entry) → EntryAt table n e → EntryAt table m d → e.fault ≡ d.fault → n ≡ m

module _ (K : Kind) (c : Circuit) where
  module _ (before : List Entry) (l : Listed c before) where
    own_after : (n : ℕ) (e : Entry) → Came K c before n e → IsFaultOf c e.fault
    own_after n e (inl (x, old, is)) = subst (IsFaultOf c) (sym is) (l.own n x old)
    own_after n e (inr (last, is, fresh)) = is

    -- the fault of a new entry is that of none that was there
    new_differs : (m : ℕ) (f g : Fault) (x : Entry) → EntryAt before m x → g ≡ x.fault → has_fault before f ≡ false → f ≡ g → ⊥
    new_differs m f g x old is fresh same = true≢false (sym (has_its_faults before m x old) ∙ ap (has_fault before) (sym (same ∙ is)) ∙ fresh)

    once_after : (n m : ℕ) (e d : Entry) → Came K c before n e → Came K c before m d → e.fault ≡ d.fault → n ≡ m
    once_after n m e d (inl (x, old, is)) (inl (y, other, also)) same = l.once n m x y old other (sym is ∙ same ∙ also)
    once_after n m e d (inl (x, old, is)) (inr (last, of, fresh)) same = absurd (new_differs n d.fault e.fault x old is fresh (sym same))
    once_after n m e d (inr (last, of, fresh)) (inl (y, other, also)) same = absurd (new_differs m e.fault d.fault y other also fresh same)
    once_after n m e d (inr (last, of, fresh)) (inr (end, too, new)) same = last ∙ sym end

    change_lists : {call : Call} {r : Result Outcome Refusal} (after : List Entry) → Change K c before call r after → Listed c after
    change_lists after change = record {
      own = λ n e at. own_after n e (came K c before after change n e at);
      once = λ n m e d at there. once_after n m e d (came K c before after change n e at) (came K c before after change m d there);
    }

  pub run_lists : (history : List Event) (table : List Entry) → Run K c history table → Listed c table
  run_lists history table start = record { own = λ n e at. cc; once = λ n m e d at there same. cc }
  run_lists history table (next {e = e} {history = earlier} {before = before} {after = after} run step) =
      change_lists before (run_lists earlier before run) after (step_changes K c before after e step)

  -- an event leaves settled entries as they are
  pub step_stays : (e : Event) (before after : List Entry) → Step K c e before after → EntriesStay before after
  step_stays e before after step = stays K c before after (step_changes K c before after e step)

-- a table that is left as it was keeps its entries
pub same_stays : (before after : List Entry) → after ≡ before → EntriesStay before after
same_stays before after same = subst (EntriesStay before) (sym same) (λ n e at. (e, at, refl, λ settled. refl))
