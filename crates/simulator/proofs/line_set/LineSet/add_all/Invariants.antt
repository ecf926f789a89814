use Rattle.std.proofs.Common.{◌≡◌, ℕ, ◌<◌, ◌≤◌, length, get_or, bit_or}
use Rattle.simulator.proofs.line_set.LineSet.add_all.Given as goal

-- the words so far are joined, and the others as they were
abbrev pub invariant-loop-index : goal.invariant-loop-index
invariant-loop-index l =
    record {
      long : length l.self.words ≡ 8;
      joined : (k : ℕ) → k < l.index → get_or l.self.words k 0 ≡ bit_or (get_or l.initial.self.words k 0) (get_or l.other.words k 0);
      after : (k : ℕ) → l.index ≤ k → get_or l.self.words k 0 ≡ get_or l.initial.self.words k 0;
    }
