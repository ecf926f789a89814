use Rattle.std.proofs.Common.{◌≡◌, Bool, true, false, refl, arith}
use Rattle.std.proofs.lemmas.Fmt.{decimal_digit}
use Rattle.std.specs.Prelude.{decimal}
use mir.Val.{bool_byte}
use Rattle.std.proofs.Output.{has_written_of_eq}
use Rattle.replies.specs.Lines.{level_text}
use Rattle.replies.proofs.entry_line.EntryLineDisplay.fmt.Goals as goal

pub returns-clause-writes : goal.returns-clause-writes
returns-clause-writes g c = λ plain ok.
    has_written_of_eq g.W.Write.write_str_gives _ _ _ _
    (rw (
      c.line_name.ensures,
      c.line.ensures,
      c.pin-pin.ensures,
      c.from-level.ensures,
      digit c.level.result,
      c.level.ensures,
      c.state.ensures.value,
      c.input_count.ensures.value,
      c.fault-fault.ensures,
    ) refl)
    (c.writeln.ensures.writes plain ok)
  where
    digit : (b : Bool) → decimal (bool_byte b) ≡ level_text b
    digit false = decimal_digit 0 (omega arith)
    digit true = decimal_digit 1 (omega arith)
