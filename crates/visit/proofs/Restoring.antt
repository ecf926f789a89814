-- A row that gets the values back which were kept.
use Rattle.std.proofs.Common.{◌≡◌, ℕ, List, map, take, sym, ap, ◌∙◌}
use Rattle.values.specs.Pairs.{Pairs}

-- they mean what they meant before
pub restored : {V : Type 0} (meaning : V → Pairs) (sets : List Pairs) (count lines : ℕ) (before values after : List V) → lines ≡ count
    → take lines after ≡ take lines values → take lines values ≡ take lines before → map meaning (take count before) ≡ sets → map meaning (take count after) ≡ sets
restored meaning sets count lines before values after same restore keep held =
    ap (λ (n : ℕ). map meaning (take n after)) (sym same)
    ∙ ap (map meaning) (restore ∙ keep)
    ∙ ap (λ (n : ℕ). map meaning (take n before)) same
    ∙ held
