use Rattle.std.proofs.Common.{ℕ, ◌++◌, is_ok, ap, ◌∙◌}
use lib.Utf8.{encode}
use Rattle.std.proofs.Output.{has_written_append, has_written_of_eq}
use Rattle.replies.specs.Texts.{levels}
use Rattle.replies.proofs.Levels.{levels_more}
use Rattle.replies.proofs.cube_text.write_levels.Goals as goal

pub loop-input-preserved : goal.loop-input-preserved
loop-input-preserved g c = λ plain.
    let before = c.loop-input.invariant plain in
    let printed = c.write_char.ensures.writes before.plain (ap is_ok c.in_ok-write_char.was) in
    let d = c.args.cube.driven in
    let l = c.args.cube.level in
    has_written_of_eq g.W.Write.write_str_gives _ _ _ _
    (ap (λ (k : ℕ). levels d l 0 c.loop-input.input ++ encode k) c.letter.ensures ∙ levels_more d l c.loop-input.input)
    (has_written_append g.W.Write.write_str_gives _ _ _ _ _ before printed)
