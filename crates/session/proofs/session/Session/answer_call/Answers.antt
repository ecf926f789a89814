use Rattle.std.proofs.Common.{is_ok, rules}
use Rattle.session.proofs.Keeping.{keeps_call}
use Rattle.session.proofs.session.Session.answer_call.Goals as goal
use Rattle.session.proofs.session.Session.answer_call.Goals.{in-Ok, in-Err-Folder, in-Err}

pub returns-clause-keeps : goal.returns-clause-keeps
returns-clause-keeps c =
    keeps_call c.args.self.now c.perform.new.self c.args.kind c.args.call c.perform.result (is_ok c.match-perform.result) c.requires c.perform.ensures
    (elim c.match-perform.branch [ in-Ok w ↦ search rules | in-Err-Folder w ↦ search rules | in-Err w ↦ search rules ])
