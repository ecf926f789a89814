use Rattle.std.proofs.Common.{◌≡◌, length}
use Rattle.reader.specs.Reading.{next_line}
use Rattle.reader.specs.Parsing.{ahead, at}
use Rattle.reader.proofs.parser.Parser.circuit_text.Given as goal

abbrev pub invariant-lines : goal.invariant-lines
invariant-lines l = at next_line l.initial.self ≡ at next_line l.self

abbrev pub decreases-lines : goal.decreases-lines
decreases-lines l = length (ahead l.self)
