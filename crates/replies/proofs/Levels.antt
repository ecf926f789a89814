-- The letters of a cube, one more at a time.
use Rattle.std.proofs.Common.{◌≡◌, ℕ, zero, suc, ◌+◌, ◌/◌, ◌%◌, ◌^◌, ◌<◌, Bool, true, false, cond, eqb, List, [], ◌∷◌, ◌++◌, sym, ap, ◌∙◌, zero-add, add-one, arith}
use lib.Utf8.{encode}
use Rattle.std.proofs.lemmas.Str.Ascii.{encode_ascii}
use Rattle.replies.specs.Texts.{level_letter, levels}

levels_push : (d l i n : ℕ) → levels d l i (suc n) ≡ levels d l i n ++ (level_letter d l (i + n) ∷ [])
levels_push d l i zero = ap (λ (k : ℕ). level_letter d l k ∷ []) (omega arith)
levels_push d l i (suc n) =
    ap (λ (rest : List ℕ). level_letter d l i ∷ rest)
    (levels_push d l (i + 1) n ∙ ap (λ (k : ℕ). levels d l (i + 1) n ++ (level_letter d l k ∷ [])) (omega arith))

letter_small : (d l i : ℕ) → level_letter d l i < 128
letter_small d l i = go (eqb (d / 2 ^ i % 2) 0) (eqb (l / 2 ^ i % 2) 0)
  where
    go : (a b : Bool) → cond a 120 (cond b 48 49) < 128
    go true b = omega arith
    go false true = omega arith
    go false false = omega arith

pub levels_more : (d l n : ℕ) → levels d l 0 n ++ encode (level_letter d l n) ≡ levels d l 0 (n + 1)
levels_more d l n =
    ap (λ (bs : List ℕ). levels d l 0 n ++ bs) (encode_ascii (level_letter d l n) (letter_small d l n))
    ∙ ap (λ (k : ℕ). levels d l 0 n ++ (level_letter d l k ∷ [])) (sym (zero-add n))
    ∙ sym (levels_push d l 0 n) ∙ ap (levels d l 0) (sym (add-one n))
