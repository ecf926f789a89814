use Rattle.std.proofs.Common.{arith, pow_mono}
use Rattle.visit.proofs.branch.Branch.from_input.Goals as goal

pub invariant_of-result : goal.invariant_of-result
invariant_of-result c =
    let more = pow_mono {i = c.args.self.now.next} {j = c.args.input} c.requires in
    record {
      lower = omega (arith, c.args.self.now.lower, more);
      level_lower = omega (arith, c.args.self.now.level_lower, more);
    }
