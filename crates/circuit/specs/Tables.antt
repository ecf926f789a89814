-- What the tables of the code stand for.
use Rattle.std.specs.Prelude.{map, vec_items}
use Rattle.circuit.specs.declared.gate.Gate as code
use Rattle.circuit.specs.declared.tables.Tables.{Tables}
use Rattle.circuit.specs.Model.{Gate, Circuit}

abbrev pub gate_model : code.Gate → Gate
gate_model g = record { name = g.name; op = g.op; operands = vec_items g.operands }

abbrev pub tables_model : Tables → Circuit
tables_model t = record { inputs = vec_items t.inputs; gates = map gate_model (vec_items t.gates); outputs = vec_items t.outputs }
