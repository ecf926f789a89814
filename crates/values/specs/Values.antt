-- What gates can combine and what a fault can stick, whatever a line carries.
use Rattle.std.specs.Prelude.{Bool, true, false, not, ◌&&◌, ◌||◌}
use Rattle.values.specs.Pairs.{Pair, pair}

-- values that gates can combine: the value of a known level, and not, and, or, xor
pub record Gates (V : Type 0) : Type 0 where
  pub known : Bool → V
  pub negate : V → V
  pub both : V → V → V
  pub either : V → V → V
  pub differ : V → V → V

-- values that gates can combine and that a fault can stick at a level
pub record Values (V : Type 0) : Type 0 where
  pub gates : Gates V
  pub stick : Bool → V → V

-- the two levels are unequal
abbrev pub differs : Bool → Bool → Bool
differs true b = not b
differs false b = b

-- single levels: two-valued logic
abbrev pub levels : Gates Bool
levels = record { known = λ b. b; negate = not; both = ◌&&◌; either = ◌||◌; differ = differs }

-- one circuit, with a fault or without: sticking puts the stuck level in place
abbrev pub faulty_levels : Values Bool
faulty_levels = record { gates = levels; stick = λ v x. v }

-- both circuits at once: each half of a pair by itself
abbrev pub pairs : Values Pair
pairs = record {
  gates = record {
    known = λ b. pair b b;
    negate = λ p. pair (not p.good) (not p.faulty);
    both = λ p q. pair (p.good && q.good) (p.faulty && q.faulty);
    either = λ p q. pair (p.good || q.good) (p.faulty || q.faulty);
    differ = λ p q. pair (differs p.good q.good) (differs p.faulty q.faulty);
  };
  stick = λ v p. pair p.good v;
}
