use Rattle.std.proofs.Common.{ap, ◌∙◌}
use Rattle.std.proofs.lemmas.List.{get_or-replicate}
use Rattle.simulator.specs.declared.line_set.LineSet.{LineSet}
use Rattle.simulator.specs.LineSets.{has}
use Rattle.simulator.proofs.fanout.FanoutTable.new.Goals as goal

pub returns : goal.returns
returns c = λ k d inside line. ap (λ (s : LineSet). has s line) (get_or-replicate 512 k c.empty.result d inside) ∙ c.empty.ensures line
