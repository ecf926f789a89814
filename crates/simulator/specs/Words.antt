-- How a verdict is written.
use Rattle.std.specs.Prelude.{ℕ, List, codes}
use Rattle.simulator.specs.declared.verdict.Verdict.{Verdict}
use Rattle.simulator.specs.declared.verdict.Verdict.TheVariants.{Shows, Still, Unsure}

-- the word of a verdict
abbrev pub verdict_word : Verdict → List ℕ
verdict_word Shows = codes "shows"
verdict_word Still = codes "still"
verdict_word Unsure = codes "unsure"
