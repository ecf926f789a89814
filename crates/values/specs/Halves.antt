-- Values of two halves: what is known of the good level, and what of the faulty level.
use Rattle.std.specs.Prelude.{Bool, true, false, not, ◌&&◌, ◌||◌, cond}
use Rattle.values.specs.Pairs.{Pairs}
use Rattle.values.specs.Kind.{Kind}
use Rattle.values.specs.declared.half.Half.{Half}
use Rattle.values.specs.declared.half.Half.TheVariants.{Zero, One, Unknown}

-- the half of a known level
abbrev pub level_half : Bool → Half
level_half false = Zero
level_half true = One

abbrev pub is_zero : Half → Bool
is_zero Zero = true
is_zero One = false
is_zero Unknown = false

abbrev pub is_one : Half → Bool
is_one Zero = false
is_one One = true
is_one Unknown = false

abbrev pub is_unknown : Half → Bool
is_unknown Zero = false
is_unknown One = false
is_unknown Unknown = true

-- 0 and 1 change places
abbrev pub half_not : Half → Half
half_not Zero = One
half_not One = Zero
half_not Unknown = Unknown

-- 0 as soon as an operand is 0, and 1 where both are 1
abbrev pub half_and : Half → Half → Half
half_and a b = cond (is_zero a || is_zero b) Zero (cond (is_one a && is_one b) One Unknown)

-- 1 as soon as an operand is 1, and 0 where both are 0
abbrev pub half_or : Half → Half → Half
half_or a b = cond (is_one a || is_one b) One (cond (is_zero a && is_zero b) Zero Unknown)

-- known where both operands are, and then 1 where just one of them is 1
abbrev pub half_xor : Half → Half → Half
half_xor a b = cond (is_unknown a || is_unknown b) Unknown (cond (is_one a) (half_not b) b)

-- does the level agree with the half?
abbrev pub agrees : Half → Bool → Bool
agrees Zero b = not b
agrees One b = b
agrees Unknown b = true

-- the pairs that agree with both halves
abbrev pub of_halves : Half → Half → Pairs
of_halves g f = record {
  has00 = agrees g false && agrees f false;
  has01 = agrees g false && agrees f true;
  has10 = agrees g true && agrees f false;
  has11 = agrees g true && agrees f true;
}

-- what is known of a level, by whether it can be 0 and whether it can be 1
abbrev pub half_from : Bool → Bool → Half
half_from true true = Unknown
half_from true false = Zero
half_from false true = One
half_from false false = Unknown

-- what a set says of the good level
abbrev pub good_half : Pairs → Half
good_half s = half_from (s.has00 || s.has01) (s.has10 || s.has11)

-- what a set says of the faulty level
abbrev pub faulty_half : Pairs → Half
faulty_half s = half_from (s.has00 || s.has10) (s.has01 || s.has11)

-- the kind that works on each half by itself, and makes a set of an answer's halves by join
abbrev pub by_halves : (Half → Half → Pairs) → Kind
by_halves join = record {
  values = record {
    gates = record {
      known = λ b. join (level_half b) (level_half b);
      negate = λ s. join (half_not (good_half s)) (half_not (faulty_half s));
      both = λ s t. join (half_and (good_half s) (good_half t)) (half_and (faulty_half s) (faulty_half t));
      either = λ s t. join (half_or (good_half s) (good_half t)) (half_or (faulty_half s) (faulty_half t));
      differ = λ s t. join (half_xor (good_half s) (good_half t)) (half_xor (faulty_half s) (faulty_half t));
    };
    stick = λ v s. join (good_half s) (level_half v);
  };
  unknown = join Unknown Unknown;
}
