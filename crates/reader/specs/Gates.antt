-- How the inside of a gate follows the definition of reading.
use Rattle.std.specs.Prelude.{◌≡◌, ℕ, suc, List, ◌∷◌, vec_items}
use Rattle.circuit.specs.Model.{names, line_named}
use Rattle.reader.specs.declared.parser.Parser.{Parser}
use Rattle.reader.specs.declared.pending.PendingGate.{PendingGate}
use Rattle.reader.specs.declared.pending.GatePart.{GatePart}
use Rattle.reader.specs.declared.pending.GatePart.TheVariants.{Name, Opening, Closing}
use Rattle.reader.specs.Reading.{Pending, operator, operand, operand_found, closing_step, Outcome, resumed}
use Rattle.reader.specs.Parsing.{ahead, so_far, at}

-- the pending gate of the definition that one of the code stands for
abbrev pub pending_of : PendingGate → Pending
pending_of g = record { op = g.op; operands = vec_items g.operands }

-- what reading answers inside a gate, once its next part was looked at
abbrev pub going_on : List ℕ → Pending → List Pending → Parser → GatePart → Outcome
going_on name inner pending p (Name w) = resumed (operand_found (so_far p) name inner pending w.place (line_named (names (so_far p)) w.bytes.now)) (ahead p)
going_on name inner pending p (Opening allowed) = at (operator name (inner ∷ pending)) p
going_on name inner pending p (Closing place) = resumed (closing_step (operand name inner pending) (so_far p) place) (ahead p)

-- inside the bracket that was opened one less may be
abbrev pub Opens : ℕ → GatePart → Type 0
Opens allowed (Opening inner) = suc inner ≡ allowed
Opens allowed part = Unit {0}
