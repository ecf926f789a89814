use Rattle.std.specs.Fmt.{IsPlainFormatter, HasWritten}
use Rattle.replies.specs.Texts.{levels}
use Rattle.replies.proofs.cube_text.write_levels.Given as goal

abbrev pub invariant-loop-input : goal.invariant-loop-input
invariant-loop-input g l = IsPlainFormatter l.initial.f → HasWritten g.W.Write.write_str_gives l.initial.f (levels l.cube.driven l.cube.level 0 l.input) l.f
