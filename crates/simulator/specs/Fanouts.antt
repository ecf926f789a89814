-- Which gates read a line: the sets of the lines of those gates, a set for each line.
use Rattle.std.specs.Prelude.{◌≡◌, ℕ, ◌+◌, ◌<◌, true, List, [], length, None, slice_index_or, All}
use Rattle.circuit.specs.declared.op.Op.TheVariants.{And}
use Rattle.circuit.specs.Model.{Gate}
use Rattle.simulator.specs.declared.line_set.LineSet.{LineSet}
use Rattle.simulator.specs.LineSets.{has, Includes}

-- no line, for a line that is not in the table
abbrev pub none_reads : LineSet
none_reads = record { words = [] }

-- the line of a gate is among those that read each of its operands
abbrev pub Noted : ℕ → List ℕ → List LineSet → Type 0
Noted line operands readers = All (λ (o : ℕ). has (slice_index_or readers o none_reads) line ≡ true) operands

-- what the table had it still has
abbrev pub Keeps : List LineSet → List LineSet → Type 0
Keeps before after = (length after ≡ length before) × ((o : ℕ) → Includes (slice_index_or after o none_reads) (slice_index_or before o none_reads))

-- no operands, for a gate that is not there
abbrev pub no_gate : Gate
no_gate = record { name = None; op = And; operands = [] }

-- the operands of a gate, by its place among the gates
abbrev pub operands_at : List Gate → ℕ → List ℕ
operands_at gates k = (slice_index_or gates k no_gate).operands

-- each of these gates, the first of which has that line, is noted
abbrev pub Complete : ℕ → List Gate → List LineSet → Type 0
Complete line gates readers = (k : ℕ) → k < length gates → Noted (line + k) (operands_at gates k) readers
