use Rattle.std.proofs.Common.{◌≡◌, ◌+◌, true, List, map, length}
use Rattle.std.specs.Iterator.Adapters.{zip_first, zip_second}
use Rattle.std.specs.Slice.Iter.{iter_rest}
use Rattle.circuit.specs.Model.{Gate}
use Rattle.circuit.specs.Lawful.{gate_fits, each_after}
use Rattle.circuit.specs.Tables.{gate_model}
use Rattle.simulator.specs.declared.line_set.LineSet.{LineSet}
use Rattle.simulator.specs.Fanouts.{Keeps, Complete}
use Rattle.simulator.proofs.fanout.note_gates.Given as goal

-- the gates that are left fit the lines that are left, and once these are noted all are
abbrev pub invariant-loop-line : goal.invariant-loop-line
invariant-loop-line l =
    let line = (zip_first l.line-iterator).start in
    let gates = iter_rest (zip_second l.line-iterator) in
    record {
      same : length l.readers ≡ length l.initial.readers;
      room : line + length gates ≡ l.inputs + length l.initial.gates;
      fit : (before : List Gate) × (l.inputs + length before ≡ line) × (each_after (λ (b : List Gate). gate_fits (l.inputs + length b)) before (map gate_model gates) ≡ true);
      noted : (after : List LineSet) → Keeps l.readers after → Complete line (map gate_model gates) after → Complete l.inputs (map gate_model l.initial.gates) after;
    }
