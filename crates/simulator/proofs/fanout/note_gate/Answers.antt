use Rattle.std.proofs.Common.{◌<◌, length, get_or, set, take, arith}
use Rattle.simulator.proofs.Fanouts.{keeps_trans, noted_keeps, noted_more, grown_keeps, grown_noted}
use Rattle.simulator.proofs.fanout.note_gate.Goals as goal

pub loop-operand-preserved : goal.loop-operand-preserved
loop-operand-preserved c =
    let readers = c.loop-operand.readers in
    let operands = c.args.operands.now in
    let index = c.loop-operand.operand-index in
    let operand = get_or operands index 0 in
    let inside : operand < length readers = omega (arith, c.requires.operands index 0 c.loop-operand-test.true, c.loop-operand.auto.readers) in
    let grown = grown_keeps readers operand c.args.line c.add.new.self inside c.add.ensures.more in
    record {
      keeps = keeps_trans c.args.readers.now readers (set readers operand c.add.new.self) c.loop-operand.invariant.keeps grown;
      noted =
          noted_more c.args.line operands index (set readers operand c.add.new.self) c.loop-operand-test.true
          (noted_keeps c.args.line (take index operands) readers (set readers operand c.add.new.self) grown c.loop-operand.invariant.noted)
          (grown_noted readers operand c.args.line c.add.new.self inside c.add.ensures.more c.add.ensures.line);
    }
