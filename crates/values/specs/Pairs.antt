-- Pairs of levels, and sets of pairs.
use Rattle.std.specs.Prelude.{◌≡◌, Bool, true, false, not, ◌&&◌}

-- the level of a line without the fault, and its level with the fault
pub record Pair : Type 0 where
  pub good : Bool
  pub faulty : Bool

abbrev pub pair : Bool → Bool → Pair
pair g f = record { good = g; faulty = f }

-- a set of pairs, by which of the four pairs it has; has10 is of good 1 and faulty 0
pub record Pairs : Type 0 where
  pub has00 : Bool
  pub has01 : Bool
  pub has10 : Bool
  pub has11 : Bool

-- is the pair of these levels in the set?
abbrev pub has : Pairs → Bool → Bool → Bool
has s false false = s.has00
has s false true = s.has01
has s true false = s.has10
has s true true = s.has11

-- p is a member of s
infix 50 ◌∈◌
abbrev pub ◌∈◌ : Pair → Pairs → Type 0
p ∈ s = has s p.good p.faulty ≡ true

-- each member of s is a member of t
infix 50 ◌⊆◌
abbrev pub ◌⊆◌ : Pairs → Pairs → Type 0
s ⊆ t = (p : Pair) → p ∈ s → p ∈ t

-- each member has unequal levels
abbrev pub shows : Pairs → Bool
shows s = not s.has00 && not s.has11

-- each member has equal levels
abbrev pub still : Pairs → Bool
still s = not s.has01 && not s.has10

-- the set of one pair
abbrev pub only : Bool → Bool → Pairs
only false false = record { has00 = true; has01 = false; has10 = false; has11 = false }
only false true = record { has00 = false; has01 = true; has10 = false; has11 = false }
only true false = record { has00 = false; has01 = false; has10 = true; has11 = false }
only true true = record { has00 = false; has01 = false; has10 = false; has11 = true }

-- s has one member
abbrev pub Single : Pairs → Type 0
Single s = (p : Pair) × (s ≡ only p.good p.faulty)

-- the set of no pair
abbrev pub no_pair : Pairs
no_pair = record { has00 = false; has01 = false; has10 = false; has11 = false }

-- the set of all four pairs
abbrev pub every_pair : Pairs
every_pair = record { has00 = true; has01 = true; has10 = true; has11 = true }
