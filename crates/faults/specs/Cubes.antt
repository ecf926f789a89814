-- Cubes of inputs, and when one is refused.
use Rattle.std.specs.Prelude.{◌≡◌, ℕ, ◌/◌, ◌%◌, ◌^◌, Bool, cond, ◌&&◌, Some, None, Ok, Err, Option, Result, ◌==◌, bit_and, bit_or, nat_lt}
use Rattle.refusals.specs.declared.layers.FolderRefusal.{FolderRefusal}
use Rattle.refusals.specs.declared.layers.FolderRefusal.TheVariants.{LevelNotDriven}

-- Bit i of driven says whether input i is driven, and bit i of level to which level.
pub record Cube : Type 0 where
  pub driven : ℕ
  pub level : ℕ

-- no input that is open has a level
abbrev pub Within : ℕ → ℕ → Type 0
Within driven level = (i : ℕ) → driven / 2 ^ i % 2 ≡ 0 → level / 2 ^ i % 2 ≡ 0

-- the cube of two words, refused if some level belongs to an input that is open
abbrev pub cube_made : ℕ → ℕ → Result Cube FolderRefusal
cube_made driven level = cond (bit_and level driven == level) (Ok (record { driven = driven; level = level })) (Err LevelNotDriven)

-- the cube that leaves every input open
abbrev pub nothing_driven : Cube
nothing_driven = record { driven = 0; level = 0 }

-- the level that a cube drives an input to, if it drives it
abbrev pub level_at : Cube → ℕ → Option Bool
level_at q i = cond (q.driven / 2 ^ i % 2 == 1) (Some (q.level / 2 ^ i % 2 == 1)) None

-- a cube has a place for the input, and leaves it open
abbrev pub leaves_open : Cube → ℕ → Bool
leaves_open q i = nat_lt i 64 && q.driven / 2 ^ i % 2 == 0

-- the cube that drives one more input to a level; an input that is driven already keeps its level
abbrev pub driving : Cube → ℕ → Bool → Cube
driving q i level =
    cond (leaves_open q i) (record { driven = bit_or q.driven (2 ^ i); level = bit_or q.level (cond level (2 ^ i) 0) }) q
