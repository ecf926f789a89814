use Rattle.std.proofs.Common.{◌≡◌, length}
use Rattle.reader.specs.Reading.{output_name}
use Rattle.reader.specs.Parsing.{ahead, at}
use Rattle.reader.proofs.parser.Parser.output_names.Given as goal

abbrev pub invariant-names : goal.invariant-names
invariant-names l = at output_name l.initial.self ≡ at output_name l.self

abbrev pub decreases-names : goal.decreases-names
decreases-names l = length (ahead l.self)
