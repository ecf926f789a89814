-- Entries and their states.
use Rattle.std.specs.Prelude.{ℕ, Bool, true, false, List, Option, codes}
use Rattle.std.specs.declared.option.Option.TheVariants as option
use Rattle.std.specs.List.{list_any}
use Rattle.faults.specs.declared.fault.Fault.{Fault}
use Rattle.faults.specs.Faults.{same_fault}
use Rattle.faults.specs.Cubes.{Cube}
use Rattle.folder.specs.declared.state.State.{State}
use Rattle.folder.specs.declared.state.State.TheVariants.{Open, Spent, Fewest, Redundant, Covered}

-- a fault, and what is known of it
pub record Entry : Type 0 where
  pub fault : Fault
  pub state : State

-- the entry in another state
abbrev pub with_state : Entry → State → Entry
with_state e s = record { fault = e.fault; state = s }

-- a new entry of a fault
abbrev pub opened : Fault → Entry
opened f = record { fault = f; state = Open }

-- the cube that a state holds
abbrev pub state_cube : State → Option Cube
state_cube Open = option.None
state_cube (Spent cube tries) = cube
state_cube (Fewest cube tries) = option.Some cube
state_cube (Redundant tries) = option.None
state_cube (Covered by) = option.None

-- the tries made, or the number of the entry that covers
abbrev pub state_count : State → ℕ
state_count Open = 0
state_count (Spent cube tries) = tries
state_count (Fewest cube tries) = tries
state_count (Redundant tries) = tries
state_count (Covered by) = by

-- whether nothing is left to do
abbrev pub state_settled : State → Bool
state_settled Open = false
state_settled (Spent cube tries) = false
state_settled (Fewest cube tries) = true
state_settled (Redundant tries) = true
state_settled (Covered by) = true

-- whether some entry of a table has that fault
abbrev pub has_fault : List Entry → Fault → Bool
has_fault table f = list_any (λ (e : Entry). same_fault e.fault f) table

-- the word of a state
abbrev pub state_word : State → List ℕ
state_word Open = codes "open"
state_word (Spent cube tries) = codes "spent"
state_word (Fewest cube tries) = codes "fewest"
state_word (Redundant tries) = codes "redundant"
state_word (Covered by) = codes "covered"
