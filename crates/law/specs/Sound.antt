-- The law of the folder, for a value kind, a circuit and a history of calls: what the entries of the table say of vectors
-- and cubes, and that each has a fault of its own. It speaks of vectors, of cubes that the kind shows to detect a fault, and of the
-- calls made, and of no step of the program. And what a call leaves as it was.
use Rattle.std.specs.Prelude.{◌≡◌, ℕ, Bool, true, false, ◌&&◌, List, ◌∷◌, Some, Ok, Err, Result, ◌==◌}
use Rattle.std.specs.List.{slice_get, list_any}
use Rattle.refusals.specs.declared.cause.Refusal.{Refusal}
use Rattle.values.specs.Kind.{Kind}
use Rattle.circuit.specs.Model.{Circuit}
use Rattle.faults.specs.declared.fault.Fault.{Fault}
use Rattle.faults.specs.Cubes.{Cube}
use Rattle.faults.specs.Faults.{fault_made}
use Rattle.simulator.specs.Simulation.{drives_beyond}
use Rattle.visit.specs.declared.answer.Answer.{Answer}
use Rattle.visit.specs.declared.answer.Answer.TheVariants as answer
use Rattle.visit.specs.Meaning.{Test, Unbeaten, Shown, Undetectable}
use Rattle.folder.specs.declared.state.State.{State}
use Rattle.folder.specs.declared.state.State.TheVariants.{Fewest, Redundant, Covered}
use Rattle.folder.specs.Entries.{Entry, state_cube, state_settled}
use Rattle.folder.specs.Folders.{Folder}
use Rattle.law.specs.declared.call.Call.{Call}
use Rattle.law.specs.declared.call.Call.TheVariants.{Enter, Search, Cover}
use Rattle.law.specs.declared.call.Outcome.{Outcome}
use Rattle.law.specs.declared.call.Outcome.TheVariants as outcome
use Rattle.law.specs.Histories.{Event, Run}

-- an answer that was not spent
abbrev pub is_unspent : Answer → Bool
is_unspent (answer.Fewest cube tries) = true
is_unspent (answer.Redundant tries) = true
is_unspent (answer.Spent best tries) = false

abbrev pub is_unspent_outcome : Outcome → Bool
is_unspent_outcome (outcome.Entered number) = false
is_unspent_outcome (outcome.Searched a) = is_unspent a
is_unspent_outcome (outcome.Covered count) = false

abbrev pub is_granted_unspent : Result Outcome Refusal → Bool
is_granted_unspent (Ok o) = is_unspent_outcome o
is_granted_unspent (Err e) = false

abbrev pub searches : ℕ → Call → Bool
searches number (Enter asked) = false
searches number (Search n budget) = n == number
searches number (Cover n) = false

-- the event searched that entry: it was granted, and not spent
abbrev pub is_unspent_search : ℕ → Event → Bool
is_unspent_search number e = searches number e.call && is_granted_unspent e.result

-- some event searched that entry, was granted, and not spent
abbrev pub SearchedUnspent : List Event → ℕ → Type 0
SearchedUnspent history number = list_any (is_unspent_search number) history ≡ true

abbrev pub IsRedundant : State → Type 0
IsRedundant s = (tries : ℕ) × (s ≡ Redundant tries)

-- the table has that entry under that number
abbrev pub EntryAt : List Entry → ℕ → Entry → Type 0
EntryAt table number e = slice_get table number ≡ Some e

-- The fault is one of the circuit: the circuit has its line, and the line has its pin. So it is made if it is asked for by these and
-- some level.
abbrev pub IsFaultOf : Circuit → Fault → Type 0
IsFaultOf c f = (level : ℕ) × (fault_made c f.line f.pin level ≡ Ok f)

pub record Sound (K : Kind) (c : Circuit) (history : List Event) (table : List Entry) : Type 0 where
  -- every vector that fills in an entry's cube detects the entry's fault
  pub cubes : (n : ℕ) (e : Entry) → EntryAt table n e → (q : Cube) → state_cube e.state ≡ Some q → Test c e.fault q
  -- no entry's cube drives an input that the circuit lacks
  pub inside : (n : ℕ) (e : Entry) → EntryAt table n e → (q : Cube) → state_cube e.state ≡ Some q → drives_beyond c q ≡ false
  -- an entry that is covered by another: that one is fewest, and every vector that fills in its cube detects this one's fault
  pub covered : (n m : ℕ) (e : Entry) → EntryAt table n e → e.state ≡ Covered m
      → (d : Entry) × (q : Cube) × (tries : ℕ) × EntryAt table m d × (d.state ≡ Fewest q tries) × Test c e.fault q
  -- the kind shows the cube of a fewest entry to detect the fault, and no cube that it shows to do so drives fewer inputs
  pub fewest : (n : ℕ) (e : Entry) → EntryAt table n e → (q : Cube) (tries : ℕ) → e.state ≡ Fewest q tries → Unbeaten K c e.fault q × Shown K c e.fault q
  -- a redundant entry was searched, by an event that was granted and not spent, and no vector detects its fault
  pub redundant : (n : ℕ) (e : Entry) → EntryAt table n e → IsRedundant e.state → SearchedUnspent history n × Undetectable c e.fault
  -- an entry that was so searched, and whose fault no vector detects, is redundant
  pub marked : (n : ℕ) (e : Entry) → EntryAt table n e → SearchedUnspent history n → Undetectable c e.fault → IsRedundant e.state
  -- each entry's fault is one of the circuit
  pub own : (n : ℕ) (e : Entry) → EntryAt table n e → IsFaultOf c e.fault
  -- no two entries have the same fault
  pub once : (n m : ℕ) (e d : Entry) → EntryAt table n e → EntryAt table m d → e.fault ≡ d.fault → n ≡ m

-- The law outlasts an event that leads from one folder to the next: after any history that led from the empty table to the first
-- folder's, the history with this event leads to the next folder's table, and the law holds there.
abbrev pub KeepsLaw : Kind → Folder → Event → Folder → Type 0
KeepsLaw K before e after =
    (history : List Event) → Run K before.circuit history before.table
    → Run K after.circuit (e ∷ history) after.table × Sound K after.circuit (e ∷ history) after.table

-- Each entry keeps its number and its fault, and an entry that is settled (fewest, redundant or covered) stays as it is.
abbrev pub EntriesStay : List Entry → List Entry → Type 0
EntriesStay before after =
    (n : ℕ) (e : Entry) → EntryAt before n e
    → (d : Entry) × EntryAt after n d × (d.fault ≡ e.fault) × (state_settled e.state ≡ true → d ≡ e)
