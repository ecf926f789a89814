use Rattle.std.proofs.Common.{◌≡◌, ◌-◌, ◌≤◌, length}
use Rattle.faults.specs.Cubes.{Cube}
use Rattle.simulator.specs.Cursors.{Follows}
use Rattle.simulator.specs.Resimulation.{Traced}
use Rattle.simulator.proofs.resimulation.resettle.Given as goal

abbrev pub decreases-lines : goal.decreases-lines
decreases-lines g l = l.end - l.line

-- the row is traced up to this line, which is one of the cursor's word or the next one
abbrev pub invariant-lines : goal.invariant-lines
invariant-lines g l =
    let v = g.V.ValueKind in
    let circuit = l.fn.fanout.circuit.now in
    record {
      from : l.inputs ≤ l.line;
      within : l.line ≤ l.end;
      copy : Follows l.cursor l.waiting l.line;
      same : length l.row ≡ length l.initial.row;
      traced : (q t : Cube) → Traced v.kind v.meaning circuit l.fault q t l.fn.from l.initial.waiting l.initial.row → Traced v.kind v.meaning circuit l.fault q t l.line l.waiting l.row;
    }
