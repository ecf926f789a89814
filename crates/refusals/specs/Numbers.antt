-- The number of each refusal, and its place.
use Rattle.std.specs.Prelude.{ℕ}
use Rattle.refusals.specs.declared.layers.TextRefusal.{TextRefusal}
use Rattle.refusals.specs.declared.layers.TextRefusal.TheVariants.{ForbiddenByte, MalformedWord, BracketsTooDeep}
use Rattle.refusals.specs.declared.layers.FormRefusal.{FormRefusal}
use Rattle.refusals.specs.declared.layers.FormRefusal.TheVariants.{Misplaced, UnknownWord, WrongOperandCount}
use Rattle.refusals.specs.declared.layers.CircuitRefusal.{CircuitRefusal}
use Rattle.refusals.specs.declared.layers.CircuitRefusal.TheVariants.{UnknownName, NameTaken, LimitPassed, EndsEarly}
use Rattle.refusals.specs.declared.layers.FolderRefusal.{FolderRefusal}
use Rattle.refusals.specs.declared.layers.FolderRefusal.TheVariants.{NoSuchLine, NoSuchPin, LevelAboveOne, AlreadyEntered, FolderFull, NoSuchEntry, EntrySettled, BudgetOutOfRange, BudgetNotAbove, RowTooShort, EntryNotFewest, LevelNotDriven, InputMissing}

abbrev pub text_number : TextRefusal → ℕ
text_number (ForbiddenByte place) = 1
text_number (MalformedWord place) = 2
text_number (BracketsTooDeep place) = 3

abbrev pub text_place : TextRefusal → ℕ
text_place (ForbiddenByte place) = place
text_place (MalformedWord place) = place
text_place (BracketsTooDeep place) = place

abbrev pub form_number : FormRefusal → ℕ
form_number (Misplaced place) = 4
form_number (UnknownWord place) = 5
form_number (WrongOperandCount place) = 6

abbrev pub form_place : FormRefusal → ℕ
form_place (Misplaced place) = place
form_place (UnknownWord place) = place
form_place (WrongOperandCount place) = place

abbrev pub circuit_number : CircuitRefusal → ℕ
circuit_number (UnknownName place) = 7
circuit_number (NameTaken place) = 8
circuit_number (LimitPassed place) = 9
circuit_number (EndsEarly place) = 10

abbrev pub circuit_place : CircuitRefusal → ℕ
circuit_place (UnknownName place) = place
circuit_place (NameTaken place) = place
circuit_place (LimitPassed place) = place
circuit_place (EndsEarly place) = place

abbrev pub folder_number : FolderRefusal → ℕ
folder_number NoSuchLine = 11
folder_number NoSuchPin = 12
folder_number LevelAboveOne = 13
folder_number AlreadyEntered = 14
folder_number FolderFull = 15
folder_number NoSuchEntry = 16
folder_number EntrySettled = 17
folder_number BudgetOutOfRange = 18
folder_number BudgetNotAbove = 19
folder_number RowTooShort = 20
folder_number EntryNotFewest = 21
folder_number LevelNotDriven = 22
folder_number InputMissing = 23
