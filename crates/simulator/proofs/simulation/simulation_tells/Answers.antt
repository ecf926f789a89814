use Rattle.simulator.proofs.Telling.{telling}
use Rattle.simulator.proofs.simulation.simulation_tells.Goals as goal

pub returns : goal.returns
returns g c = telling g.V.ValueKind.kind g.V.ValueKind.family g.met.V.ValueKind.lawful
