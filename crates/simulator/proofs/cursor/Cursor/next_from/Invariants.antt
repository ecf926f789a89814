use Rattle.std.proofs.Common.{◌≡◌, ℕ, ◌*◌, ◌<◌, ◌≤◌, false}
use Rattle.simulator.specs.LineSets.{has}
use Rattle.simulator.proofs.cursor.Cursor.next_from.Given as goal

-- none of the lines so far is in the set
abbrev pub invariant-loop-index : goal.invariant-loop-index
invariant-loop-index l =
    record {
      same : l.self ≡ l.initial.self;
      none : (k : ℕ) → l.line ≤ k → k < 64 * l.index → has l.lines k ≡ false;
    }
