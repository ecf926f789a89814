use Rattle.std.proofs.Common.{◌+◌, ◌^◌, ◌<◌, sym, ◌∙◌, subst}
use Rattle.faults.specs.Cubes.{Cube}
use Rattle.visit.proofs.Cubes.{branch_lower, driving_branch, drive_lower, drive_level_lower}
use Rattle.visit.proofs.branch.Branch.driving.Goals as goal

pub invariant_of-result : goal.invariant_of-result
invariant_of-result c =
    let low = branch_lower c.args.self.now c.args.input c.requires.above in
    let driven = c.driving.ensures ∙ driving_branch c.args.self.now c.args.input c.args.level c.requires.above c.requires.room in
    record {
      lower = subst (λ (q : Cube). q.driven < 2 ^ (c.args.input + 1)) (sym driven) (drive_lower c.args.self.now.cube c.args.input low.0);
      level_lower = subst (λ (q : Cube). q.level < 2 ^ (c.args.input + 1)) (sym driven) (drive_level_lower c.args.self.now.cube c.args.input c.args.level low.1);
    }

pub returns-clause-cube : goal.returns-clause-cube
returns-clause-cube c = c.driving.ensures ∙ driving_branch c.args.self.now c.args.input c.args.level c.requires.above c.requires.room
