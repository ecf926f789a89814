use Rattle.std.proofs.Common.{Some, None, Ok, Err, Bool, refl, subst, rules}
use Rattle.session.specs.Answers.{Keeps, job_events}
use Rattle.session.proofs.Keeping.{keeps_line}
use Rattle.session.proofs.session.Session.answer.Goals as goal

pub returns-in_err-reply-in-Ok-Some-clause-keeps : goal.returns-in_err-reply-in-Ok-Some-clause-keeps
returns-in_err-reply-in-Ok-Some-clause-keeps c =
    keeps_line c.args.self.now _ c.answer_job.new.self _ (Ok (Some c.in-Ok-Some.field-0-0)) (search rules)
    (subst (λ (b : Bool). Keeps c.args.self.now (job_events c.args.self.now c.in-Ok-Some.field-0-0.job b) c.answer_job.new.self) (search rules) c.answer_job.ensures.keeps)

pub returns-in_ok-reply-in-Ok-Some-clause-keeps : goal.returns-in_ok-reply-in-Ok-Some-clause-keeps
returns-in_ok-reply-in-Ok-Some-clause-keeps c =
    keeps_line c.args.self.now _ c.answer_job.new.self _ (Ok (Some c.in-Ok-Some.field-0-0)) (search rules)
    (subst (λ (b : Bool). Keeps c.args.self.now (job_events c.args.self.now c.in-Ok-Some.field-0-0.job b) c.answer_job.new.self) (search rules) c.answer_job.ensures.keeps)

pub returns-in_err-cause-in-Err-clause-keeps : goal.returns-in_err-cause-in-Err-clause-keeps
returns-in_err-cause-in-Err-clause-keeps c = keeps_line c.args.self.now _ c.args.self.now _ (Err c.in-Err.refusal) (search rules) refl

pub returns-in_ok-cause-in-Err-clause-keeps : goal.returns-in_ok-cause-in-Err-clause-keeps
returns-in_ok-cause-in-Err-clause-keeps c = keeps_line c.args.self.now _ c.args.self.now _ (Err c.in-Err.refusal) (search rules) refl

pub returns-in-Ok-None-clause-keeps : goal.returns-in-Ok-None-clause-keeps
returns-in-Ok-None-clause-keeps c = keeps_line c.args.self.now _ c.args.self.now _ (Ok None) (search rules) refl
