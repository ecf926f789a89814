use Rattle.std.proofs.Common.{◌≡◌, ◌++◌, drop, string_bytes}
use Rattle.replies.specs.Lines.{entry_lines}
use Rattle.replies.proofs.listing.listing.Given as goal

-- the lines that are written and those to come are all lines
abbrev pub invariant-loop-number : goal.invariant-loop-number
invariant-loop-number l = string_bytes l.text ++ entry_lines l.circuit l.number (drop l.number l.entries) ≡ entry_lines l.circuit 0 l.entries
