-- What searching an entry does to the table.
use Rattle.std.specs.Prelude.{ℕ, Bool, cond, not, ◌&&◌, List, Ok, Err, Result, nat_le, slice_set}
use Rattle.refusals.specs.declared.layers.FolderRefusal.{FolderRefusal}
use Rattle.refusals.specs.declared.layers.FolderRefusal.TheVariants.{EntrySettled, BudgetOutOfRange, BudgetNotAbove}
use Rattle.values.specs.Kind.{Kind}
use Rattle.visit.specs.declared.answer.Answer.{Answer}
use Rattle.visit.specs.declared.answer.Answer.TheVariants as answer
use Rattle.visit.specs.Visits.{answer_in}
use Rattle.folder.specs.declared.state.State.{State}
use Rattle.folder.specs.declared.state.State.TheVariants.{Spent, Fewest, Redundant}
use Rattle.folder.specs.Entries.{Entry, with_state, state_count, state_settled}
use Rattle.folder.specs.Folders.{Folder}
use Rattle.folder.specs.Transitions.{Granted, granted, and_then, entry_at}

-- the state that keeps the answer of a visit
abbrev pub filed : Answer → State
filed (answer.Fewest cube tries) = Fewest cube tries
filed (answer.Redundant tries) = Redundant tries
filed (answer.Spent best tries) = Spent best tries

-- a budget is one try at least and a million at most
abbrev pub budget_in_range : ℕ → Bool
budget_in_range budget = nat_le 1 budget && nat_le budget 1000000

-- Whether an entry of that state may be searched with that budget: not if it is settled, if the budget is out of range, or
-- if the entry is spent and the budget does not allow more tries than were made.
abbrev pub search_allowed : State → ℕ → Result (Unit {0}) FolderRefusal
search_allowed s budget =
    cond (state_settled s) (Err EntrySettled)
    (cond (not (budget_in_range budget)) (Err BudgetOutOfRange)
    (cond (nat_le budget (state_count s)) (Err BudgetNotAbove) (Ok tt)))

-- file the answer in the entry of that number
abbrev pub file_answer : List Entry → ℕ → Entry → Answer → Granted Answer
file_answer table number e a = granted a (slice_set table number (with_state e (filed a)))

-- Search the entry of that number, with a row of so many places: the answer of the visit for its fault is filed in it.
abbrev pub search_entry : Kind → Folder → ℕ → ℕ → ℕ → Result (Granted Answer) FolderRefusal
search_entry K f number budget places =
    and_then (entry_at f.table number)
    (λ e. and_then (search_allowed e.state budget)
    (λ _. and_then (answer_in K f.circuit e.fault budget places) (λ a. Ok (file_answer f.table number e a))))
