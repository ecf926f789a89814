use Rattle.values.proofs.Members.{made_exactly}
use Rattle.values.proofs.made_is_exact.Goals as goal

pub returns : goal.returns
returns c = made_exactly
