use Rattle.reader.proofs.DescribesSound.{sound}
use Rattle.reader.proofs.DescribesComplete.{complete, one_circuit}
use Rattle.reader.proofs.reading.read.Goals as goal

pub returns-clause-exact : goal.returns-clause-exact
returns-clause-exact c = λ text d place. (sound text d place, complete text d place)

pub returns-clause-unique : goal.returns-clause-unique
returns-clause-unique c = one_circuit
