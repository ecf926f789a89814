use Rattle.std.proofs.Common.{◌≡◌, ◌+◌, true, List, map, length, take}
use Rattle.std.specs.Iterator.Adapters.{zip_first, zip_second}
use Rattle.std.specs.Slice.Iter.{iter_rest}
use Rattle.circuit.specs.Model.{Gate}
use Rattle.circuit.specs.Lawful.{gate_fits, each_after}
use Rattle.circuit.specs.Tables.{gate_model}
use Rattle.simulator.specs.Lines.{gates_after}
use Rattle.simulator.proofs.simulation.settle.Given as goal

-- the gates that are left fit the lines that are left; and after the lines so far they give all lines
abbrev pub invariant-loop-line : goal.invariant-loop-line
invariant-loop-line g l =
    let v = g.V.ValueKind in
    let line = (zip_first l.line-iterator).start in
    let gates = iter_rest (zip_second l.line-iterator) in
    record {
      room : line + length gates ≡ length l.row;
      fit : (before : List Gate) × (l.inputs + length before ≡ line) × (each_after (λ (b : List Gate). gate_fits (l.inputs + length b)) before (map gate_model gates) ≡ true);
      left :
          gates_after v.kind.values l.fault (map v.meaning (take line l.row)) (map gate_model gates)
          ≡ gates_after v.kind.values l.fault (map v.meaning (take l.inputs l.initial.row)) (map gate_model l.initial.gates);
    }
