use Rattle.std.proofs.Common.{refl}
use Rattle.session.proofs.Keeping.{keeps_none}
use Rattle.session.proofs.session.Session.answer_job.Goals as goal

pub returns-in_err-text-in-List-clause-keeps : goal.returns-in_err-text-in-List-clause-keeps
returns-in_err-text-in-List-clause-keeps c = rw c.in-List.is (keeps_none c.args.self.now c.args.self.now refl)

pub returns-in_ok-text-in-List-clause-keeps : goal.returns-in_ok-text-in-List-clause-keeps
returns-in_ok-text-in-List-clause-keeps c = rw c.in-List.is (keeps_none c.args.self.now c.args.self.now refl)
