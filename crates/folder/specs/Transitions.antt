-- What each call of a folder does to the table: its answer and the table afterwards, or why it is refused.
use Rattle.std.specs.Prelude.{◌≡◌, ℕ, true, cond, List, [], ◌∷◌, ◌++◌, length, is_ok, Ok, Err, Result, nat_le}
use Rattle.std.specs.Option.{ok_or}
use Rattle.std.specs.List.{slice_get}
use Rattle.refusals.specs.declared.cause.Refusal.{Refusal}
use Rattle.refusals.specs.declared.cause.Refusal.TheVariants as refusal
use Rattle.refusals.specs.declared.layers.FolderRefusal.{FolderRefusal}
use Rattle.refusals.specs.declared.layers.FolderRefusal.TheVariants.{AlreadyEntered, FolderFull, NoSuchEntry}
use Rattle.faults.specs.declared.fault.Fault.{Fault}
use Rattle.faults.specs.Faults.{fault_made}
use Rattle.folder.specs.Entries.{Entry, opened, has_fault}
use Rattle.folder.specs.Folders.{Folder}

-- what a granted call answers, and the table after it
pub record Granted (A : Type 0) : Type 0 where
  pub answer : A
  pub table : List Entry

-- that answer, and that table
abbrev pub granted : {A : Type 0} → A → List Entry → Granted A
granted a table = record { answer = a; table = table }

-- A call keeps to its definition: granted, it gives that answer and leaves that table; refused, it gives that refusal
-- and leaves the table as it was. Where memory is wanting a call that would be granted leaves the table as it was.
abbrev pub Follows : {A : Type 0} → Result (Granted A) FolderRefusal → List Entry → Result A Refusal → List Entry → Type 0
Follows defined before (Ok a) after = defined ≡ Ok (granted a after)
Follows defined before (Err (refusal.Folder e)) after = (defined ≡ Err e) × (after ≡ before)
Follows defined before (Err refusal.Memory) after = (is_ok defined ≡ true) × (after ≡ before)
Follows defined before (Err (refusal.Text e)) after = ⊥
Follows defined before (Err (refusal.Form e)) after = ⊥
Follows defined before (Err (refusal.Circuit e)) after = ⊥

-- The same of a call that takes no memory.
abbrev pub Obeys : {A : Type 0} → Result (Granted A) FolderRefusal → List Entry → Result A FolderRefusal → List Entry → Type 0
Obeys defined before (Ok a) after = defined ≡ Ok (granted a after)
Obeys defined before (Err e) after = (defined ≡ Err e) × (after ≡ before)

-- the first refusal, or what comes after
abbrev pub and_then : {A B : Type 0} → Result A FolderRefusal → (A → Result B FolderRefusal) → Result B FolderRefusal
and_then (Ok a) next = next a
and_then (Err e) next = Err e

-- the entry of that number
abbrev pub entry_at : List Entry → ℕ → Result Entry FolderRefusal
entry_at table number = ok_or (slice_get table number) NoSuchEntry

-- enter what was made of the arguments
abbrev pub entered : List Entry → Result Fault FolderRefusal → Result (Granted ℕ) FolderRefusal
entered table (Err e) = Err e
entered table (Ok f) =
    cond (has_fault table f) (Err AlreadyEntered)
    (cond (nat_le 512 (length table)) (Err FolderFull) (Ok (granted (length table) (table ++ (opened f ∷ [])))))

-- Enter a fault: it must be one of the circuit, not entered before, and the table has room for 512. The new entry is
-- open and the last, and the answer is its number.
abbrev pub enter_fault : Folder → ℕ → ℕ → ℕ → Result (Granted ℕ) FolderRefusal
enter_fault f line pin level = entered f.table (fault_made f.circuit line pin level)
