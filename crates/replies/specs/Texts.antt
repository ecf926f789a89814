-- What is written.
use Rattle.std.specs.Prelude.{ℕ, zero, suc, ◌+◌, ◌/◌, ◌%◌, ◌^◌, cond, List, [], ◌∷◌, Some, None, codes, Option, ◌==◌}
use Rattle.faults.specs.Cubes.{Cube}

-- x for an input that stays open, else its level (spelled out, so that a cube's text can be read by itself)
abbrev pub level_letter : ℕ → ℕ → ℕ → ℕ
level_letter driven level i = cond (driven / 2 ^ i % 2 == 0) 120 (cond (level / 2 ^ i % 2 == 0) 48 49)

-- the letters of n inputs, from input i on
abbrev pub levels : ℕ → ℕ → ℕ → ℕ → List ℕ
levels driven level i zero = []
levels driven level i (suc n) = level_letter driven level i ∷ levels driven level (i + 1) n

abbrev pub cube_text : Option Cube → ℕ → List ℕ
cube_text None inputs = codes "none"
cube_text (Some q) inputs = levels q.driven q.level 0 inputs
