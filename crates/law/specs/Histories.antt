-- Calls of a folder with their answers, one after the other, and the tables that they lead to.
use Rattle.std.specs.Prelude.{◌≡◌, ℕ, Bool, true, false, List, [], ◌∷◌, Err, Result}
use Rattle.std.specs.Result.{result_map_both}
use Rattle.refusals.specs.declared.cause.Refusal.{Refusal}
use Rattle.refusals.specs.declared.cause.Refusal.TheVariants.{Memory}
use Rattle.refusals.specs.declared.layers.FolderRefusal.{FolderRefusal}
use Rattle.values.specs.Kind.{Kind}
use Rattle.circuit.specs.Model.{Circuit}
use Rattle.folder.specs.Entries.{Entry}
use Rattle.folder.specs.Folders.{Folder}
use Rattle.folder.specs.Transitions.{Granted, granted, Follows, enter_fault}
use Rattle.folder.specs.Searching.{search_entry}
use Rattle.folder.specs.Covering.{cover_entry}
use Rattle.law.specs.declared.call.Call.{Call}
use Rattle.law.specs.declared.call.Call.TheVariants.{Enter, Search, Cover}
use Rattle.law.specs.declared.call.Outcome.{Outcome}
use Rattle.law.specs.declared.call.Outcome.TheVariants.{Entered, Searched, Covered}

-- a call, the places of the row that it was given, and its answer or refusal
pub record Event : Type 0 where
  pub call : Call
  pub places : ℕ
  pub result : Result Outcome Refusal

abbrev pub event_of : Call → ℕ → Result Outcome Refusal → Event
event_of call places r = record { call = call; places = places; result = r }

-- an answer under its name
abbrev pub answered_as : {A : Type 0} → (A → Outcome) → Result (Granted A) FolderRefusal → Result (Granted Outcome) FolderRefusal
answered_as {A} name r = result_map_both (λ (g : Granted A). granted (name g.answer) g.table) (λ (e : FolderRefusal). e) r

-- what a call answers and leaves, by the definitions of the folder
abbrev pub defined : Kind → Folder → Call → ℕ → Result (Granted Outcome) FolderRefusal
defined K f (Enter asked) places = answered_as Entered (enter_fault f asked.line asked.pin asked.level)
defined K f (Search number budget) places = answered_as Searched (search_entry K f number budget places)
defined K f (Cover number) places = answered_as Covered (cover_entry K f number places)

-- only entering takes memory
abbrev pub takes_memory : Call → Bool
takes_memory (Enter asked) = true
takes_memory (Search number budget) = false
takes_memory (Cover number) = false

-- an event leads from one table to the next: granted, refused, or want of memory
pub record Step (K : Kind) (c : Circuit) (e : Event) (before after : List Entry) : Type 0 where
  pub follows : Follows (defined K (record { circuit = c; table = before }) e.call e.places) before e.result after
  pub memory : e.result ≡ Err Memory → takes_memory e.call ≡ true

-- A history leads to a table: the empty history to the empty table, and a history with one event more to the table that
-- this event leads to. The newest event stands first.
pub data Run (K : Kind) (c : Circuit) : List Event → List Entry → Type 0 where
  start : Run K c [] []
  next : {e : Event} {history : List Event} {before after : List Entry} → Run K c history before → Step K c e before after → Run K c (e ∷ history) after
