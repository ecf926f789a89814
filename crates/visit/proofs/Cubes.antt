-- Driving one more input, above those that a cube drives.
use Rattle.std.proofs.Common.{◌≡◌, ℕ, ◌+◌, ◌*◌, ◌/◌, ◌%◌, ◌^◌, ◌<◌, ◌≤◌, Bool, true, false, cond, ◌&&◌, eqb, sym, refl, ap, ◌∙◌, add-zero, add_comm, one-mul, zero-mul, arith, pow_mono}
use native.Mathlib.Nat.{div-eq_of_lt}
use lib.Bits.{bit_or, or_shifted_r, or_zero_r}
use Rattle.std.proofs.lemmas.Nat.{pow-add}
use Rattle.std.proofs.lemmas.Bool.{lt-ltb}
use Rattle.faults.specs.Cubes.{Cube, leaves_open, driving}
use Rattle.visit.specs.declared.branch.Branch.{Branch}
use Rattle.visit.specs.Visiting.{drive}

-- one place above a word
pub or_place : (n i : ℕ) → n < 2 ^ i → bit_or n (2 ^ i) ≡ n + 2 ^ i
or_place n i h = ap (bit_or n) (sym (one-mul (2 ^ i))) ∙ or_shifted_r 1 i n h ∙ ap (λ (x : ℕ). x + n) (one-mul (2 ^ i)) ∙ add_comm (2 ^ i) n

or_level : (n i : ℕ) (level : Bool) → n < 2 ^ i → bit_or n (cond level (2 ^ i) 0) ≡ n + cond level 1 0 * 2 ^ i
or_level n i true h = or_place n i h ∙ ap (λ (x : ℕ). n + x) (sym (one-mul (2 ^ i)))
or_level n i false h = or_zero_r n ∙ sym (ap (λ (x : ℕ). n + x) (zero-mul (2 ^ i)) ∙ add-zero n)

open_above : (q : Cube) (i : ℕ) → i < 64 → q.driven < 2 ^ i → leaves_open q i ≡ true
open_above q i small h =
    ap (λ (b : Bool). b && eqb (q.driven / 2 ^ i % 2) 0) (lt-ltb i 64 small)
    ∙ ap (λ (n : ℕ). eqb (n % 2) 0) (div-eq_of_lt h)

pub driving_above : (q : Cube) (i : ℕ) (level : Bool) → i < 64 → q.driven < 2 ^ i → q.level < 2 ^ i → driving q i level ≡ drive q i (cond level 1 0)
driving_above q i level small h l =
    ap (λ (b : Bool). cond b (record { driven = bit_or q.driven (2 ^ i); level = bit_or q.level (cond level (2 ^ i) 0) }) q) (open_above q i small h)
    ∙ rw (or_place q.driven i h, or_level q.level i level l) refl

-- a branch drives below the first input of the cubes below it, and so below each later one
pub branch_lower : (b : Branch) (i : ℕ) → b.next ≤ i → (b.cube.driven < 2 ^ i) × (b.cube.level < 2 ^ i)
branch_lower b i h =
    let above = pow_mono {i = b.next} {j = i} h in
    (omega (arith, above, b.lower), omega (arith, above, b.level_lower))

pub driving_branch : (b : Branch) (i : ℕ) (level : Bool) → b.next ≤ i → i ≤ 63 → driving b.cube i level ≡ drive b.cube i (cond level 1 0)
driving_branch b i level h small = let low = branch_lower b i h in driving_above b.cube i level (omega arith) low.0 low.1

pub drive_lower : (q : Cube) (i : ℕ) → q.driven < 2 ^ i → q.driven + 2 ^ i < 2 ^ (i + 1)
drive_lower q i h = omega (arith, pow-add 2 i 1)

pub drive_level_lower : (q : Cube) (i : ℕ) (level : Bool) → q.level < 2 ^ i → q.level + cond level 1 0 * 2 ^ i < 2 ^ (i + 1)
drive_level_lower q i true h = omega (arith, pow-add 2 i 1)
drive_level_lower q i false h = omega (arith, pow-add 2 i 1)
