-- What a call that answers a job line promises.
use Rattle.std.specs.Prelude.{◌≡◌, ℕ, ◌<◌, Bool, true, List, [], ◌∷◌, ◌++◌, is_ok, Some, None, Ok, Err, Option, Result, MatchResult, ⊤, if◌then◌else◌}
use Rattle.std.specs.Result.{result_map_both}
use Rattle.refusals.specs.declared.cause.Refusal.{Refusal}
use Rattle.refusals.specs.declared.cause.Refusal.TheVariants.{Folder, Memory}
use Rattle.folder.specs.Transitions.{Granted}
use Rattle.law.specs.declared.call.Call.{Call}
use Rattle.law.specs.declared.call.Call.TheVariants.{Enter, Search, Cover}
use Rattle.law.specs.declared.call.Outcome.{Outcome}
use Rattle.law.specs.Histories.{Event, event_of, takes_memory, Step, Run}
use Rattle.law.specs.Sound.{Sound, EntriesStay, KeepsLaw}
use Rattle.circuit.specs.Model.{line_count}
use Rattle.jobs.specs.declared.job.Kind.{Kind}
use Rattle.jobs.specs.declared.job.Job.{Job}
use Rattle.jobs.specs.declared.job.Job.TheVariants as job
use Rattle.jobs.specs.JobLines as lines
use Rattle.replies.specs.declared.reply.Reply.{Reply}
use Rattle.replies.specs.Replies.{reply_text}
use Rattle.session.specs.declared.reply.Answer.{Answer}
use Rattle.session.specs.Kinds.{kind_of}
use Rattle.session.specs.Sessions.{Session, Answered, called, call_answer, job_answer, job_stores, answered, stores}

-- what a reply of the code stands for, with the place where the next line begins and the session after it
abbrev pub replied : Reply → ℕ → Session → Answered
replied r next after = record { output = reply_text r; next = next; session = after }

-- what the code's answer stands for, with the session after it
abbrev pub answer_model : Answer → Session → Answered
answer_model a after = replied a.reply a.next after

-- what a call answers: the definition's answer or refusal, or want of memory
abbrev pub call_result : Session → Kind → Call → Bool → Result Outcome Refusal
call_result s k call had_memory = if had_memory then result_map_both (λ (g : Granted Outcome). g.answer) Folder (called s k call) else Err Memory

-- the event of a call of the session
abbrev pub call_event : Session → Kind → Call → Bool → Event
call_event s k call had_memory = event_of call (line_count s.folder.circuit) (call_result s k call had_memory)

-- the event of a job that makes a call; another job makes none
abbrev pub job_events : Session → Job → Bool → List Event
job_events s (job.Fault k asked) had_memory = call_event s k (Enter asked) had_memory ∷ []
job_events s (job.Search k number budget) had_memory = call_event s k (Search number budget) had_memory ∷ []
job_events s (job.Cover k number) had_memory = call_event s k (Cover number) had_memory ∷ []
job_events s j had_memory = []

-- the same of a line
abbrev pub line_events : Session → lines.Outcome → Bool → List Event
line_events s (lines.Asked job next) had_memory = job_events s job had_memory
line_events s o had_memory = []

-- The session keeps the law of the folder: after any history of calls that led to the folder's table under the chosen kind, the
-- history with these events leads to the table afterwards, and the law holds there.
abbrev pub Keeps : Session → List Event → Session → Type 0
Keeps before events after =
    (k : Kind) → before.kind ≡ Some k → (history : List Event) → Run (kind_of k) before.folder.circuit history before.folder.table
    → Run (kind_of k) after.folder.circuit (events ++ history) after.folder.table
    × Sound (kind_of k) after.folder.circuit (events ++ history) after.folder.table

-- What the row of that kind promises of a call: what the folder's call does, that the law outlasts it, and that entries stay.
pub record Performs (before : Session) (k : Kind) (call : Call) (r : Result Outcome Refusal) (after : Session) : Type 0 where
  pub step : Step (kind_of k) before.folder.circuit (event_of call (line_count before.folder.circuit) r) before.folder.table after.folder.table
  pub law : KeepsLaw (kind_of k) before.folder (event_of call (line_count before.folder.circuit) r) after.folder
  pub settled : EntriesStay before.folder.table after.folder.table
  pub circuit : after.folder.circuit ≡ before.folder.circuit
  pub kind : after.kind ≡ before.kind

-- What answering a call promises: the definition's answer and session, wherever the next line begins; or want of memory, for a
-- call that takes memory and would be granted, with the session as it was.
abbrev pub AnswersCall : Session → ℕ → Kind → Call → Result Reply Refusal → Session → Type 0
AnswersCall before place k call r after =
    MatchResult r (λ reply. (next : ℕ) → replied reply next after ≡ call_answer before place next (called before k call))
    (λ e. (e ≡ Memory) × (after ≡ before) × (is_ok (called before k call) ≡ true) × (takes_memory call ≡ true))

-- What doing a job promises: the definition's answer and session, wherever the next line begins; or want of memory, for a job
-- that takes memory, with the session as it was.
abbrev pub Does : Session → ℕ → Job → Result Reply Refusal → Session → Type 0
Does before place job r after =
    MatchResult r (λ reply. (next : ℕ) → replied reply next after ≡ job_answer before place job next)
    (λ e. (e ≡ Memory) × (after ≡ before) × (job_stores before job ≡ true))

-- The definition's answer and session; or nothing, where no line begins any more; or want of memory, for a job that takes
-- memory. The last two leave the session as it was.
abbrev pub Answers : Session → List ℕ → ℕ → Result (Option Answer) Refusal → Session → Type 0
Answers before text place (Ok None) after = (answered before text place ≡ None) × (after ≡ before)
Answers before text place (Ok (Some a)) after = answered before text place ≡ Some (answer_model a after)
Answers before text place (Err e) after = (e ≡ Memory) × (after ≡ before) × (stores before text place ≡ true)

-- A line that is answered takes at least one byte: the next line begins further on.
abbrev pub Forward : ℕ → Result (Option Answer) Refusal → Type 0
Forward place (Ok (Some a)) = place < a.next
Forward place r = ⊤
