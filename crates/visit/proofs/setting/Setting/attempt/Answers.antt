use Rattle.std.proofs.Common.{◌≡◌, ◌^◌, ◌≤◌, false, arith, pow_mono}
use Rattle.std.proofs.lemmas.Bool.{lt-leb}
use Rattle.simulator.specs.Simulation.{drives_beyond}
use Rattle.visit.specs.declared.branch.Branch.{Branch}
use Rattle.visit.specs.declared.setting.Setting.{Setting}
use Rattle.visit.specs.Settings.{input_count}
use Rattle.visit.proofs.setting.Setting.attempt.Goals as goal

-- a branch drives inputs of the circuit alone
inside_cube : (s : Setting) (b : Branch) → b.next ≤ input_count s → drives_beyond s.circuit.now b.cube ≡ false
inside_cube s b h = lt-leb (2 ^ input_count s) b.cube.driven (omega (arith, pow_mono {i = b.next} {j = input_count s} h, b.lower))

pub verdict_on-requires-clause-inside : goal.verdict_on-requires-clause-inside
verdict_on-requires-clause-inside g c = inside_cube c.args.self.now c.args.branch.now c.requires.inside

pub shows-requires-clause-inside : goal.shows-requires-clause-inside
shows-requires-clause-inside g c = inside_cube c.args.self.now c.args.branch.now c.requires.inside
