-- What a session answers to a job line, and what it holds afterwards.
use Rattle.std.specs.Prelude.{ℕ, ◌+◌, min, Bool, true, false, not, List, length, drop, is_some, is_ok, Some, None, Ok, Err, Option, Result, ◌==◌}
use Rattle.std.specs.List.{prefix_len}
use Rattle.refusals.specs.declared.cause.Cause.{Cause}
use Rattle.refusals.specs.declared.layers.FolderRefusal.{FolderRefusal}
use Rattle.refusals.specs.Causes.{cause_of, folder_cause}
use Rattle.words.specs.Lexemes.{lexemes_from}
use Rattle.circuit.specs.Model.{line_count, names}
use Rattle.folder.specs.Entries.{Entry}
use Rattle.folder.specs.Folders.{Folder}
use Rattle.folder.specs.Transitions.{Granted}
use Rattle.law.specs.declared.call.Call.{Call}
use Rattle.law.specs.declared.call.Call.TheVariants.{Enter, Search, Cover}
use Rattle.law.specs.declared.call.Outcome.{Outcome}
use Rattle.law.specs.declared.call.Outcome.TheVariants.{Entered, Searched, Covered}
use Rattle.law.specs.Histories.{defined}
use Rattle.jobs.specs.declared.job.Kind.{Kind}
use Rattle.jobs.specs.declared.job.Job.{Job}
use Rattle.jobs.specs.declared.job.Job.TheVariants as job
use Rattle.jobs.specs.JobLines as lines
use Rattle.jobs.specs.JobLines.{NoMore, Asked, Refused, line_begin, run}
use Rattle.replies.specs.Lines.{kind_line, entered_line, searched_line, covered_line, refused_line, listing}
use Rattle.session.specs.Kinds.{kind_of}

-- a folder, and the kind that was chosen
pub record Session : Type 0 where
  pub folder : Folder
  pub kind : Option Kind

-- the bytes that are written for a job line, the place where the next line begins, and the session afterwards
pub record Answered : Type 0 where
  pub output : List ℕ
  pub next : ℕ
  pub session : Session

abbrev pub with_table : Session → List Entry → Session
with_table s table = record { folder = record { circuit = s.folder.circuit; table = table }; kind = s.kind }

abbrev pub with_kind : Session → Kind → Session
with_kind s k = record { folder = s.folder; kind = Some k }

abbrev pub is_no_feed : ℕ → Bool
is_no_feed b = not (b == 10)

-- the place after the first line feed from place n on, or the text's end
abbrev pub line_after : List ℕ → ℕ → ℕ
line_after text n = min (n + prefix_len is_no_feed (drop n text) + 1) (length text)

-- a refusal by the folder has the place of its line
abbrev pub cause_at : FolderRefusal → ℕ → Cause
cause_at e place = record (folder_cause e) { place = place }

-- what a call answers and leaves, under that kind, in a row with a place for each line
abbrev pub called : Session → Kind → Call → Result (Granted Outcome) FolderRefusal
called s k call = defined (kind_of k) s.folder call (line_count s.folder.circuit)

-- the line of what a granted call answers; a cube is written for so many inputs
abbrev pub outcome_line : ℕ → Outcome → List ℕ
outcome_line inputs (Entered number) = entered_line number
outcome_line inputs (Searched a) = searched_line a inputs
outcome_line inputs (Covered count) = covered_line count

abbrev pub call_answer : Session → ℕ → ℕ → Result (Granted Outcome) FolderRefusal → Answered
call_answer s place next (Ok g) = record { output = outcome_line (length s.folder.circuit.inputs) g.answer; next = next; session = with_table s g.table }
call_answer s place next (Err e) = record { output = refused_line (cause_at e place); next = next; session = s }

-- what a job that was read does
abbrev pub job_answer : Session → ℕ → Job → ℕ → Answered
job_answer s place (job.Kind k) next = record { output = kind_line k; next = next; session = with_kind s k }
job_answer s place (job.Fault k asked) next = call_answer s place next (called s k (Enter asked))
job_answer s place (job.Search k number budget) next = call_answer s place next (called s k (Search number budget))
job_answer s place (job.Cover k number) next = call_answer s place next (called s k (Cover number))
job_answer s place job.List next = record { output = listing s.folder.circuit s.folder.table; next = next; session = s }

-- the jobs that take memory: the row of a kind, a fault that is entered, and a listing
abbrev pub job_stores : Session → Job → Bool
job_stores s (job.Kind k) = true
job_stores s (job.Fault k asked) = is_ok (called s k (Enter asked))
job_stores s job.List = true
job_stores s j = false

abbrev pub outcome_stores : Session → lines.Outcome → Bool
outcome_stores s NoMore = false
outcome_stores s (Asked job next) = job_stores s job
outcome_stores s (Refused e) = not (is_some (cause_of e))

-- a line that was refused is skipped, from the refusal's place to its line feed
abbrev pub refused_answer : Session → List ℕ → Option Cause → Option Answered
refused_answer s text None = None
refused_answer s text (Some c) = Some (record { output = refused_line c; next = line_after text c.place; session = s })

abbrev pub outcome_answer : Session → List ℕ → ℕ → lines.Outcome → Option Answered
outcome_answer s text place NoMore = None
outcome_answer s text place (Asked job next) = Some (job_answer s place job next)
outcome_answer s text place (Refused e) = refused_answer s text (cause_of e)

abbrev pub line_outcome : Session → List ℕ → ℕ → lines.Outcome
line_outcome s text place = run (names s.folder.circuit) s.kind line_begin (lexemes_from text (min place (length text)))

-- the line that begins at a place of the text; nothing where no line begins any more
abbrev pub answered : Session → List ℕ → ℕ → Option Answered
answered s text place = outcome_answer s text place (line_outcome s text place)

-- whether the line that begins at a place asks for a job that takes memory
abbrev pub stores : Session → List ℕ → ℕ → Bool
stores s text place = outcome_stores s (line_outcome s text place)
