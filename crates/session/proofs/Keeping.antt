-- The law of the folder, over the calls of a session.
use Rattle.std.proofs.Common.{◌≡◌, Bool, true, false, List, [], ◌∷◌, Some, Ok, Err, Option, Result, refl, sym, subst, if◌then◌else◌}
use Rattle.refusals.specs.declared.cause.Refusal.{Refusal}
use Rattle.refusals.specs.declared.cause.Refusal.TheVariants as refusal
use Rattle.refusals.specs.declared.layers.FolderRefusal.{FolderRefusal}
use Rattle.values.specs.Made.{Among}
use Rattle.values.specs.Five.{five, five_sets}
use Rattle.values.specs.Seven.{seven, seven_sets}
use Rattle.values.specs.Nine.{nine, nine_sets}
use Rattle.values.specs.Laws.{five_laws, seven_laws, nine_laws}
use Rattle.circuit.specs.Model.{Circuit, line_count}
use Rattle.folder.specs.Entries.{Entry}
use Rattle.folder.specs.Folders.{Folder}
use Rattle.folder.specs.Transitions.{Granted, Follows}
use Rattle.law.specs.declared.call.Call.{Call}
use Rattle.law.specs.declared.call.Outcome.{Outcome}
use Rattle.law.specs.Histories.{Event, event_of, Run}
use Rattle.law.specs.Sound.{Sound}
use Rattle.law.proofs.Holding.{run_sound}
use Rattle.jobs.specs.declared.job.Kind.{Kind}
use Rattle.jobs.specs.declared.job.Kind.TheVariants.{Five, Seven, Nine}
use Rattle.jobs.specs.declared.job.JobLine.{JobLine}
use Rattle.jobs.specs.JobLines as lines
use Rattle.jobs.specs.Reading.{job_answer}
use Rattle.std.specs.Result.{result_map_both}
use Rattle.session.specs.Kinds.{kind_of}
use Rattle.session.specs.Sessions.{Session, called}
use Rattle.session.specs.Answers.{Performs, Keeps, call_result, call_event, job_events, line_events}

kind_sound : (k : Kind) (c : Circuit) (history : List Event) (table : List Entry) → Run (kind_of k) c history table → Sound (kind_of k) c history table
kind_sound Five = run_sound five (Among five_sets) five_laws
kind_sound Seven = run_sound seven (Among seven_sets) seven_laws
kind_sound Nine = run_sound nine (Among nine_sets) nine_laws

-- no event, and the folder stays
pub keeps_none : (before after : Session) → after.folder ≡ before.folder → Keeps before [] after
keeps_none before after same k chosen history run =
    subst (λ (f : Folder). Run (kind_of k) f.circuit history f.table × Sound (kind_of k) f.circuit history f.table) (sym same)
    (run, kind_sound k before.folder.circuit history before.folder.table run)

-- whether a call had the memory that it takes
abbrev pub had_memory : Result Outcome Refusal → Bool
had_memory (Err refusal.Memory) = false
had_memory r = true

-- the result of a call is the definition's, or want of memory
result_is : (d : Result (Granted Outcome) FolderRefusal) (before : List Entry) (r : Result Outcome Refusal) (after : List Entry) → Follows d before r after
    → r ≡ (if had_memory r then result_map_both (λ (g : Granted Outcome). g.answer) refusal.Folder d else Err refusal.Memory)
result_is d before (Ok o) after h = rw h refl
result_is d before (Err (refusal.Folder e)) after h = rw h.0 refl
result_is d before (Err refusal.Memory) after h = refl
result_is d before (Err (refusal.Text e)) after h = absurd h
result_is d before (Err (refusal.Form e)) after h = absurd h
result_is d before (Err (refusal.Circuit e)) after h = absurd h

-- the event of a call that was performed
pub keeps_call : (before after : Session) (k : Kind) (call : Call) (r : Result Outcome Refusal) (had : Bool) → before.kind ≡ Some k → Performs before k call r after
    → had_memory r ≡ had → Keeps before (call_event before k call had ∷ []) after
keeps_call before after k call r had chosen p memory j also history run =
    let same : k ≡ j = cc in
    let is : r ≡ call_result before k call had =
    subst (λ (b : Bool). r ≡ call_result before k call b) memory (result_is (called before k call) before.folder.table r after.folder.table p.step.follows) in
    let one : Run (kind_of k) before.folder.circuit history before.folder.table =
    subst (λ (i : Kind). Run (kind_of i) before.folder.circuit history before.folder.table) (sym same) run in
    subst (λ (i : Kind). Run (kind_of i) after.folder.circuit (call_event before k call had ∷ history) after.folder.table
    × Sound (kind_of i) after.folder.circuit (call_event before k call had ∷ history) after.folder.table) same
    (subst (λ (x : Result Outcome Refusal). Run (kind_of k) after.folder.circuit (event_of call (line_count before.folder.circuit) x ∷ history) after.folder.table
    × Sound (kind_of k) after.folder.circuit (event_of call (line_count before.folder.circuit) x ∷ history) after.folder.table) is (p.law history one))

-- what is owed of a line, by what reading it answers
abbrev pub Owed : Session → Bool → Session → Result (Option JobLine) Refusal → Type 0
Owed before had after (Ok (Some line)) = Keeps before (job_events before line.job had) after
Owed before had after r = after.folder ≡ before.folder

pub keeps_line : (before : Session) (had : Bool) (after : Session) (o : lines.Outcome) (r : Result (Option JobLine) Refusal) → r ≡ job_answer o → Owed before had after r
    → Keeps before (line_events before o had) after
keeps_line before had after o r is owed = go o (subst (Owed before had after) is owed)
  where
    go : (o : lines.Outcome) → Owed before had after (job_answer o) → Keeps before (line_events before o had) after
    go lines.NoMore same = keeps_none before after same
    go (lines.Asked job next) owed = owed
    go (lines.Refused e) same = keeps_none before after same
