-- A history that is known beforehand, of granted and refused calls and one that lacked memory. The table that it leads to has an
-- entry in each of the five states, so that the law is said of something.
use Rattle.std.specs.Prelude.{ℕ, false, true, Bool, List, [], ◌∷◌, Some, Ok, Err, Result}
use Rattle.refusals.specs.declared.cause.Refusal.{Refusal}
use Rattle.refusals.specs.declared.cause.Refusal.TheVariants.{Folder, Memory}
use Rattle.refusals.specs.declared.layers.FolderRefusal.TheVariants.{AlreadyEntered, EntrySettled}
use Rattle.values.specs.Nine.{nine}
use Rattle.faults.specs.Cubes.{Cube}
use Rattle.faults.specs.Faults.{fault}
use Rattle.visit.specs.declared.answer.Answer.TheVariants as answer
use Rattle.visit.specs.KnownAnswers.{absorbing}
use Rattle.folder.specs.declared.state.State.{State}
use Rattle.folder.specs.declared.state.State.TheVariants.{Open, Spent, Fewest, Redundant, Covered}
use Rattle.folder.specs.Entries.{Entry}
use Rattle.law.specs.declared.call.Call.{Call}
use Rattle.law.specs.declared.call.Call.TheVariants.{Enter, Search, Cover}
use Rattle.law.specs.declared.call.Outcome.{Outcome}
use Rattle.law.specs.declared.call.Outcome.TheVariants.{Entered, Searched, Covered as Marked}
use Rattle.law.specs.Histories.{Event, event_of, Run}

abbrev cube : ℕ → ℕ → Cube
cube driven level = record { driven = driven; level = level }

abbrev enter : ℕ → ℕ → ℕ → Call
enter line pin level = Enter (record { line = line; pin = pin; level = level })

abbrev entry : ℕ → Bool → State → Entry
entry line level state = record { fault = fault line 0 level; state = state }

-- an event in a row of four places, one for each line
abbrev happened : Call → Result Outcome Refusal → Event
happened call r = event_of call 4 r

-- the newest event stands first
abbrev pub known_history : List Event
known_history =
    happened (Search 0 100) (Err (Folder EntrySettled))
    ∷ (happened (Cover 0) (Ok (Marked 1))
    ∷ (happened (Search 3 100) (Ok (Searched (answer.Redundant 9)))
    ∷ (happened (Search 1 4) (Ok (Searched (answer.Spent (Some (cube 3 0)) 4)))
    ∷ (happened (Search 0 100) (Ok (Searched (answer.Fewest (cube 2 2) 7)))
    ∷ (happened (enter 1 0 0) (Err (Folder AlreadyEntered))
    ∷ (happened (enter 0 0 1) (Ok (Entered 4))
    ∷ (happened (enter 0 0 0) (Ok (Entered 3))
    ∷ (happened (enter 3 0 0) (Ok (Entered 2))
    ∷ (happened (enter 3 0 0) (Err Memory)
    ∷ (happened (enter 1 0 1) (Ok (Entered 1))
    ∷ (happened (enter 1 0 0) (Ok (Entered 0)) ∷ [])))))))))))

abbrev pub known_table : List Entry
known_table =
    entry 1 false (Fewest (cube 2 2) 7)
    ∷ (entry 1 true (Spent (Some (cube 3 0)) 4)
    ∷ (entry 3 false (Covered 0)
    ∷ (entry 0 false (Redundant 9)
    ∷ (entry 0 true Open ∷ []))))

abbrev pub KnownHistory : Type 0
KnownHistory = Run nine absorbing known_history known_table
