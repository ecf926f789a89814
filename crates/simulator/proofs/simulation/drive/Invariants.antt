use Rattle.std.proofs.Common.{◌≡◌, map, take}
use Rattle.simulator.specs.Lines.{inputs_row}
use Rattle.simulator.specs.Detection.{input_value}
use Rattle.simulator.proofs.simulation.drive.Given as goal

-- the lines so far are those of the first inputs
abbrev pub invariant-loop-input : goal.invariant-loop-input
invariant-loop-input g l =
    let v = g.V.ValueKind in
    map v.meaning (take l.input l.row) ≡ inputs_row v.kind.values l.fault (input_value v.kind l.cube) l.input
