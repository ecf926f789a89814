-- Which gates read a line.
use Rattle.std.proofs.Common.{◌≡◌, ℕ, zero, suc, ◌+◌, ◌<◌, true, List, ◌∷◌, length, get_or, set, take, ◌⊎◌, sym, refl, subst, ap, ◌∙◌, inl, inr, arith}
use Rattle.std.proofs.lemmas.Bool.{cases_eq}
use Rattle.std.proofs.lemmas.List.{length-set, get_or-set_other, get_or-take, length-take, get_or_default}
use Rattle.std.proofs.lemmas.Grind.{get_or-set_at}
use Rattle.circuit.specs.Model.{Gate}
use Rattle.simulator.specs.declared.line_set.LineSet.{LineSet}
use Rattle.simulator.specs.LineSets.{has, Includes}
use Rattle.simulator.specs.Fanouts.{none_reads, operands_at, Noted, Keeps, Complete}

pub keeps_trans : (a b c : List LineSet) → Keeps a b → Keeps b c → Keeps a c
keeps_trans a b c (l, k) (m, n) = (m ∙ l, λ o line e. n o line (k o line e))

-- what was noted stays noted
pub noted_keeps : (line : ℕ) (operands : List ℕ) (a b : List LineSet) → Keeps a b → Noted line operands a → Noted line operands b
noted_keeps line operands a b (l, k) noted = λ i d h. k (get_or operands i d) line (noted i d h)

-- one set of the table grows
module _ (readers : List LineSet) (operand line : ℕ) (more : LineSet) (h : operand < length readers) (m : Includes more (get_or readers operand none_reads)) where
  pub grown_keeps : Keeps readers (set readers operand more)
  grown_keeps = (length-set readers operand more, λ o k e. at o k e (cases_eq o operand))
    where
      at : (o k : ℕ) → has (get_or readers o none_reads) k ≡ true → (o ≡ operand) ⊎ (o ≡ operand → ⊥) → has (get_or (set readers operand more) o none_reads) k ≡ true
      at o k e (inl same) =
          ap (λ (s : LineSet). has s k) (get_or-set_at readers operand o more none_reads same h) ∙ m k (ap (λ (p : ℕ). has (get_or readers p none_reads) k) (sym same) ∙ e)
      at o k e (inr other) = ap (λ (s : LineSet). has s k) (get_or-set_other readers operand o more none_reads other) ∙ e

  pub grown_noted : has more line ≡ true → has (get_or (set readers operand more) operand none_reads) line ≡ true
  grown_noted e = ap (λ (s : LineSet). has s line) (get_or-set_at readers operand operand more none_reads refl h) ∙ e

-- one operand more is noted
pub noted_more : (line : ℕ) (operands : List ℕ) (index : ℕ) (readers : List LineSet) → index < length operands → Noted line (take index operands) readers
    → has (get_or readers (get_or operands index 0) none_reads) line ≡ true → Noted line (take (index + 1) operands) readers
noted_more line operands index readers h noted e i d below = at (cases_eq i index)
  where
    at : (i ≡ index) ⊎ (i ≡ index → ⊥) → has (get_or readers (get_or (take (index + 1) operands) i d) none_reads) line ≡ true
    at (inl same) =
        ap (λ (o : ℕ). has (get_or readers o none_reads) line) (get_or-take (index + 1) operands i d (omega (arith, same)) ∙ ap (λ (j : ℕ). get_or operands j d) same ∙ get_or_default operands index d 0 h) ∙ e
    at (inr other) =
        let low : i < index = omega (arith, other, below, length-take (index + 1) operands) in
        ap (λ (o : ℕ). has (get_or readers o none_reads) line) (get_or-take (index + 1) operands i d (omega arith) ∙ sym (get_or-take index operands i d low))
        ∙ noted i d (omega (arith, length-take index operands))

-- a gate more at the front is noted
pub complete_front : (line : ℕ) (g : Gate) (gates : List Gate) (readers : List LineSet) → Noted line g.operands readers → Complete (line + 1) gates readers
    → Complete line (g ∷ gates) readers
complete_front line g gates readers noted rest zero h = subst (λ (n : ℕ). Noted n g.operands readers) (omega arith) noted
complete_front line g gates readers noted rest (suc k) h = subst (λ (n : ℕ). Noted n (operands_at gates k) readers) (omega arith) (rest k (omega arith))

-- one turn of a loop over gates
pub complete_turn : (start line next : ℕ) (g : Gate) (all rest : List Gate) (readers : List LineSet) → line ≡ start → next ≡ line + 1 → all ≡ g ∷ rest
    → Noted line g.operands readers → Complete next rest readers → Complete start all readers
complete_turn start line next g all rest readers at one gates noted complete =
    subst (λ (n : ℕ). Complete n all readers) at
    (subst (λ (gs : List Gate). Complete line gs readers) (sym gates) (complete_front line g rest readers noted (subst (λ (n : ℕ). Complete n rest readers) one complete)))
