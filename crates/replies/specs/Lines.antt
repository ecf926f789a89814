-- The lines that the program writes. Each ends with a line feed.
use Rattle.std.specs.Prelude.{ℕ, ◌+◌, Bool, true, false, List, [], ◌∷◌, ◌++◌, length, is_some, codes, decimal, Option, slice_index_or}
use Rattle.std.specs.List.{count_by}
use Rattle.std.specs.declared.option.Option.TheVariants as option
use Rattle.refusals.specs.declared.cause.Cause.{Cause}
use Rattle.refusals.specs.Causes.{cause_text}
use Rattle.circuit.specs.Model.{Circuit, names}
use Rattle.visit.specs.declared.answer.Answer.{Answer}
use Rattle.folder.specs.declared.state.State.{State}
use Rattle.folder.specs.declared.state.State.TheVariants.{Open, Spent, Fewest, Redundant, Covered}
use Rattle.folder.specs.Entries.{Entry, state_cube, state_count, state_word}
use Rattle.folder.specs.Searching.{filed}
use Rattle.jobs.specs.declared.job.Kind.{Kind}
use Rattle.jobs.specs.Kinds.{kind_text}
use Rattle.replies.specs.Texts.{cube_text}

-- the name of a line, or `none`
abbrev pub name_text : Option (List ℕ) → List ℕ
name_text option.None = codes "none"
name_text (option.Some name) = name

abbrev pub level_text : Bool → List ℕ
level_text false = codes "0"
level_text true = codes "1"

-- a state with what it knows: its word, its cube for so many inputs, and its count
abbrev pub state_text : State → ℕ → List ℕ
state_text state inputs =
    state_word state ++ (codes " " ++ (cube_text (state_cube state) inputs ++ (codes " " ++ decimal (state_count state))))

-- an entry's line: number, name, pin, level, and what is known of the fault
abbrev pub fields_line : ℕ → Option (List ℕ) → ℕ → Bool → State → ℕ → List ℕ
fields_line number name pin level state inputs =
    codes "(entry " ++ (decimal number ++ (codes " " ++ (name_text name ++ (codes " " ++ (decimal pin ++ (codes " "
    ++ (level_text level ++ (codes " " ++ (state_text state inputs ++ codes ")\n")))))))))

abbrev pub entry_line : Circuit → ℕ → Entry → List ℕ
entry_line c number e =
    fields_line number (slice_index_or (names c) e.fault.line option.None) e.fault.pin e.fault.level e.state (length c.inputs)

-- the entries from a number on, in order
abbrev pub entry_lines : Circuit → ℕ → List Entry → List ℕ
entry_lines c number [] = []
entry_lines c number (e ∷ es) = entry_line c number e ++ entry_lines c (number + 1) es

-- an entry whose fault is known to be detected: by a cube of its own, or by another entry's
abbrev pub is_tested : State → Bool
is_tested Open = false
is_tested (Spent cube tries) = is_some cube
is_tested (Fewest cube tries) = true
is_tested (Redundant tries) = false
is_tested (Covered by) = true

abbrev pub tested_count : List Entry → ℕ
tested_count es = count_by (λ (e : Entry). is_tested e.state) es

abbrev pub counts_line : ℕ → ℕ → List ℕ
counts_line tested total = codes "(coverage " ++ (decimal tested ++ (codes " " ++ (decimal total ++ codes ")\n")))

abbrev pub listing : Circuit → List Entry → List ℕ
listing c es = entry_lines c 0 es ++ counts_line (tested_count es) (length es)

abbrev pub kind_line : Kind → List ℕ
kind_line k = codes "(kind " ++ (kind_text k ++ codes ")\n")

abbrev pub entered_line : ℕ → List ℕ
entered_line n = codes "(entry " ++ (decimal n ++ codes ")\n")

-- what a search found, for so many inputs
abbrev pub searched_line : Answer → ℕ → List ℕ
searched_line a inputs = codes "(" ++ (state_text (filed a) inputs ++ codes ")\n")

-- how many entries a cover marked
abbrev pub covered_line : ℕ → List ℕ
covered_line n = codes "(covered " ++ (decimal n ++ codes ")\n")

abbrev pub refused_line : Cause → List ℕ
refused_line c = codes "(refused " ++ (cause_text c ++ codes ")\n")
