use Rattle.std.proofs.Common.{◌≡◌, ℕ, ◌+◌, ◌<◌, ◌⊎◌, true, get_or}
use Rattle.simulator.specs.LineSets.{has}
use Rattle.simulator.proofs.reach.reach_end.Given as goal

-- the outputs so far that are in the set stand before the end, which is 0 or just behind one of them
abbrev pub invariant-loop-output : goal.invariant-loop-output
invariant-loop-output l =
    record {
      before : (k : ℕ) → k < l.output-index → has l.reached (get_or l.output-items k 0) ≡ true → get_or l.output-items k 0 < l.end;
      last : (l.end ≡ 0)
          ⊎ ((k : ℕ) × (k < l.output-index) × (has l.reached (get_or l.output-items k 0) ≡ true) × (l.end ≡ get_or l.output-items k 0 + 1));
    }
