-- The tries that a state reports.
use Rattle.std.specs.Prelude.{ℕ}
use Rattle.folder.specs.declared.state.State.{State}
use Rattle.folder.specs.declared.state.State.TheVariants.{Open, Spent, Fewest, Redundant, Covered}

-- the tries made; none of an open or a covered entry
abbrev pub tries : State → ℕ
tries Open = 0
tries (Spent cube made) = made
tries (Fewest cube made) = made
tries (Redundant made) = made
tries (Covered by) = 0
