use Rattle.std.proofs.Common.{ap, ◌∙◌, arith}
use Rattle.std.proofs.lemmas.List.{get_or-replicate, length-replicate}
use Rattle.simulator.specs.declared.line_set.LineSet.{LineSet}
use Rattle.simulator.specs.LineSets.{has}
use Rattle.simulator.proofs.fanout.SmallFanoutTable.new.Goals as goal

pub returns : goal.returns
returns g c = λ k d inside line.
    ap (λ (s : LineSet). has s line) (get_or-replicate g.row.LINES k c.empty.result d (omega (arith, inside, length-replicate g.row.LINES c.empty.result))) ∙ c.empty.ensures line
