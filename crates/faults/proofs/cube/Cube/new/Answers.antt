use Rattle.std.proofs.Common.{sym, rules}
use lib.Bits.{bit_and}
use Rattle.std.proofs.lemmas.Bool.{eqb-true, eqb-false}
use Rattle.faults.proofs.Bits.{within_bits, within_and}
use Rattle.faults.proofs.cube.Cube.new.Goals as goal

pub returns-then-not-lies_within : goal.returns-then-not-lies_within
returns-then-not-lies_within c = record {
  value = search rules;
  rule = λ w. eqb-false (bit_and c.args.level c.args.driven) c.args.level (sym c.if-not-lies_within.ensures) (within_and c.args.driven c.args.level w);
}

pub returns : goal.returns
returns c = record {
  value = search rules;
  rule = within_bits c.args.driven c.args.level (eqb-true (bit_and c.args.level c.args.driven) c.args.level (sym c.if-not-lies_within.ensures));
}
