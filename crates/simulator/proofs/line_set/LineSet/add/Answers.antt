use Rattle.std.proofs.Common.{ℕ, ◌*◌, ◌/◌, ◌%◌, ◌^◌, ◌≡◌, inl, inr, refl, sym, ap, ◌∙◌, w64, arith}
use Rattle.std.specs.Int.Bits.{or_zero_l}
use Rattle.std.proofs.lemmas.Bool.{cases_eq, eq-eqb, eqb-true}
use Rattle.std.proofs.lemmas.Nat.Bits.{bit_at_set_same, bit_at_set_other, bit_at-zero}
use Rattle.simulator.proofs.LineSets.{raised_keeps, raised_adds, raised_only}
use Rattle.simulator.proofs.line_set.LineSet.add.Goals as goal

pub returns-clause-more : goal.returns-clause-more
returns-clause-more c = raised_keeps c.args.self.now.words _ _ (omega arith)

pub returns-clause-line : goal.returns-clause-line
returns-clause-line c =
    let place = c.args.line % 64 in
    raised_adds c.args.self.now.words _ _ (omega arith) c.args.line refl
    (eq-eqb _ _ (sym (ap (λ (n : ℕ). n / 2 ^ place % 2) (or_zero_l (1 * 2 ^ place % 18446744073709551616))) ∙ bit_at_set_same w64 0 place (omega arith)))

pub returns-clause-only : goal.returns-clause-only
returns-clause-only c = λ k holds.
    let line = c.args.line in
    let place = line % 64 in
    elim (raised_only c.args.self.now.words _ _ (omega arith) k holds) [
      | inl old ↦ inl old
      | inr (word, new) ↦ elim (cases_eq (k % 64) place) [
        | inl same ↦ inr (omega (arith, word, same))
        | inr other ↦
            let without : 1 * 2 ^ place % 18446744073709551616 / 2 ^ (k % 64) % 2 ≡ 0 / 2 ^ (k % 64) % 2 =
            sym (ap (λ (n : ℕ). n / 2 ^ (k % 64) % 2) (or_zero_l (1 * 2 ^ place % 18446744073709551616))) ∙ bit_at_set_other w64 0 place (omega arith) (k % 64) other in
            absurd (omega (arith, eqb-true _ _ new, without, bit_at-zero (k % 64)))
      ]
    ]
