use Rattle.simulator.proofs.Reaching.{Collected}
use Rattle.simulator.proofs.reach.reached_lines.Given as goal

-- the set stands as it is to be after the gates so far
abbrev pub invariant-loop-index : goal.invariant-loop-index
invariant-loop-index l = Collected l.circuit l.fn.fault l.reached l.index
