use Rattle.std.proofs.Common.{rules}
use Rattle.session.proofs.Describing.{none_described}
use Rattle.session.proofs.opening.open_in.Goals as goal

pub returns-clause-described : goal.returns-clause-described
returns-clause-described c =
    none_described c.args.text.now c.in-Err.refusal c.in_ok-cause-in-Err.cause (search rules) c.in-Err.ensures.follows
