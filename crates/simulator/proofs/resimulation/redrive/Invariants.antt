use Rattle.std.proofs.Common.{◌≡◌, ◌-◌, ◌≤◌, map, length}
use Rattle.simulator.specs.Detection.{simulated}
use Rattle.simulator.specs.Resimulation.{Traced}
use Rattle.simulator.proofs.resimulation.redrive.Given as goal

abbrev pub decreases-loop-input : goal.decreases-loop-input
decreases-loop-input g l = l.inputs - l.from

-- the row is traced up to the inputs that come next
abbrev pub invariant-loop-input : goal.invariant-loop-input
invariant-loop-input g l =
    let v = g.V.ValueKind in
    let circuit = l.fn.fanout.circuit.now in
    record {
      within : l.from ≤ l.inputs;
      long : length l.row ≡ length l.initial.row;
      traced : map v.meaning l.initial.row ≡ simulated v.kind circuit l.fn.fault l.fn.before → Traced v.kind v.meaning circuit l.fn.fault l.fn.before l.fn.cube l.from l.waiting l.row;
    }
