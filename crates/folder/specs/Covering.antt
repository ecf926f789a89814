-- What covering by an entry does to the table.
use Rattle.std.specs.Prelude.{ℕ, Bool, cond, not, ◌&&◌, List, map, Some, Ok, Err, Result}
use Rattle.std.specs.List.{count_by}
use Rattle.refusals.specs.declared.layers.FolderRefusal.{FolderRefusal}
use Rattle.refusals.specs.declared.layers.FolderRefusal.TheVariants.{EntryNotFewest}
use Rattle.values.specs.Kind.{Kind}
use Rattle.circuit.specs.Model.{Circuit}
use Rattle.faults.specs.Cubes.{Cube}
use Rattle.simulator.specs.Detection.{detected}
use Rattle.simulator.specs.Simulation.{simulation_allowed}
use Rattle.folder.specs.declared.state.State.{State}
use Rattle.folder.specs.declared.state.State.TheVariants.{Open, Spent, Fewest, Redundant, Covered}
use Rattle.folder.specs.Entries.{Entry, with_state, state_settled}
use Rattle.folder.specs.Folders.{Folder}
use Rattle.folder.specs.Transitions.{Granted, granted, and_then, entry_at}

-- the cube of an entry that is fewest
abbrev pub fewest_cube : State → Result Cube FolderRefusal
fewest_cube Open = Err EntryNotFewest
fewest_cube (Spent cube tries) = Err EntryNotFewest
fewest_cube (Fewest cube tries) = Ok cube
fewest_cube (Redundant tries) = Err EntryNotFewest
fewest_cube (Covered by) = Err EntryNotFewest

-- an entry that is open or spent, and whose fault the kind shows the cube to detect
abbrev pub is_covered : Kind → Circuit → Cube → Entry → Bool
is_covered K c q e = not (state_settled e.state) && detected K c (Some e.fault) q

-- the entry, marked if the cube of that entry covers it; its own cube is dropped
abbrev pub marked : Kind → Circuit → ℕ → Cube → Entry → Entry
marked K c number q e = cond (is_covered K c q e) (with_state e (Covered number)) e

-- mark what the cube covers, and count it
abbrev pub mark_covered : Kind → Circuit → List Entry → ℕ → Cube → Granted ℕ
mark_covered K c table number q = granted (count_by (is_covered K c q) table) (map (marked K c number q) table)

-- Cover by the entry of that number, with a row of so many places: each open or spent entry whose fault the kind shows its
-- cube to detect is marked, and the answer is how many were marked.
abbrev pub cover_entry : Kind → Folder → ℕ → ℕ → Result (Granted ℕ) FolderRefusal
cover_entry K f number places =
    and_then (entry_at f.table number)
    (λ e. and_then (fewest_cube e.state)
    (λ q. and_then (simulation_allowed f.circuit q places) (λ _. Ok (mark_covered K f.circuit f.table number q))))
