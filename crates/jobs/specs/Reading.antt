-- How the parts of the job reader follow the definition.
use Rattle.std.specs.Prelude.{◌≡◌, ℕ, ◌<◌, ◌≤◌, true, List, length, is_some, Some, None, Ok, Err, Option, Result, MatchOption, MatchResult, ⊤}
use Rattle.refusals.specs.declared.cause.Refusal.{Refusal}
use Rattle.refusals.specs.Causes.{cause_of}
use Rattle.circuit.specs.Model.{names}
use Rattle.words.specs.Left.{left}
use Rattle.jobs.specs.declared.job.Kind.{Kind}
use Rattle.jobs.specs.declared.job.Job.{Job}
use Rattle.jobs.specs.declared.job.Job.TheVariants as job
use Rattle.jobs.specs.declared.job.JobLine.{JobLine}
use Rattle.jobs.specs.declared.parts.JobReader.{JobReader}
use Rattle.jobs.specs.JobLines.{Due, Outcome, NoMore, Asked, Refused, run}

-- granted, reading goes on as before; an error is how it ends
abbrev pub Leads : {X : Type 0} → Outcome → Result X Refusal → (X → Outcome) → Type 0
Leads before r after = MatchResult r (λ x. before ≡ after x) (λ e. before ≡ Refused e)

-- what reading answers from here on, where that is due
abbrev pub at : Due → JobReader → Outcome
at due r = run (names r.circuit.now) r.chosen due (left r.lexer)

-- the answer of a call that reads a job line
abbrev pub job_answer : Outcome → Result (Option JobLine) Refusal
job_answer NoMore = Ok None
job_answer (Asked job next) = Ok (Some (record { job = job; next = next }))
job_answer (Refused e) = Err e

-- the job comes in its turn: the kind where none was chosen, and each other job after that, with the kind that was chosen
abbrev pub InTurn : Option Kind → Job → Type 0
InTurn chosen (job.Kind k) = chosen ≡ None
InTurn chosen (job.Fault k asked) = chosen ≡ Some k
InTurn chosen (job.Search k number budget) = chosen ≡ Some k
InTurn chosen (job.Cover k number) = chosen ≡ Some k
InTurn chosen job.List = is_some chosen ≡ true

-- a job that was read comes in its turn
abbrev pub ReadInTurn : Option Kind → Result (Option JobLine) Refusal → Type 0
ReadInTurn chosen (Ok (Some line)) = InTurn chosen line.job
ReadInTurn chosen r = ⊤

-- what a refusal is reported by has that place, or one further on
abbrev pub RefusedFrom : ℕ → Refusal → Type 0
RefusedFrom place e = MatchOption (cause_of e) ⊤ (λ c. place ≤ c.place)

-- A line that was read takes at least one byte: the next one begins further on. A line that was refused begins before the text's
-- end, and is refused at its begin or further on.
abbrev pub ReadForward : List ℕ → ℕ → Result (Option JobLine) Refusal → Type 0
ReadForward text place (Ok None) = ⊤
ReadForward text place (Ok (Some line)) = place < line.next
ReadForward text place (Err e) = (place < length text) × RefusedFrom place e
