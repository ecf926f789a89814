use Rattle.simulator.proofs.Logic.{levels_are_logic}
use Rattle.simulator.proofs.simulation.levels_are_logic.Goals as goal

pub returns : goal.returns
returns c = levels_are_logic
