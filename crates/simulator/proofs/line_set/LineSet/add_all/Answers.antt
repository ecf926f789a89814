use Rattle.std.proofs.Common.{◌≡◌, ℕ, ◌/◌, ◌%◌, ◌^◌, ◌<◌, Bool, true, eqb, length, get_or, bit_or, sym, ap, ◌∙◌, inl, inr, arith, rules}
use Rattle.std.proofs.lemmas.Bool.{cases_eq, cases_lt, eqb-true}
use Rattle.std.proofs.lemmas.Grind.{common_steps, get_or-set_at}
use Rattle.std.proofs.lemmas.List.{get_or-set_other, get_or_past}
use Rattle.std.proofs.lemmas.Nat.Bits.{bit_at-zero}
use Rattle.simulator.proofs.LineSets.{joined_left, joined_right}
use Rattle.simulator.proofs.line_set.LineSet.add_all.Goals as goal

pub loop-index-preserved : goal.loop-index-preserved
loop-index-preserved c =
    let words = c.loop-index.self.words in
    let index = c.loop-index.index in
    let old = get_or c.args.self.now.words in
    let more = get_or c.args.other.now.words in
    let i = c.loop-index.invariant in
    let inside : index < length words = omega (arith, i.long) in
    let word = bit_or (get_or words index 0) (more index 0) in
    record {
      long = grind (arith, common_steps, i.long);
      joined = λ k below. elim (cases_eq k index) [
        | inl same ↦
            get_or-set_at words index k word 0 same inside
            ∙ ap (λ (n : ℕ). bit_or n (more index 0)) (i.after index (omega arith))
            ∙ ap (λ (p : ℕ). bit_or (old p 0) (more p 0)) (sym same)
        | inr other ↦ get_or-set_other words index k word 0 other ∙ i.joined k (omega (arith, below, other))
      ];
      after = λ k from. get_or-set_other words index k word 0 (λ same. omega (arith, same, from)) ∙ i.after k (omega (arith, from));
    }

-- the bit of a line in a word
abbrev bit_in : ℕ → ℕ → Bool
bit_in line word = eqb (word / 2 ^ (line % 64) % 2) 1

pub returns-clause-these : goal.returns-clause-these
returns-clause-these c = λ line e.
    let i = c.loop-index.invariant in
    let p = line / 64 in
    let old = get_or c.args.self.now.words p 0 in
    elim (cases_lt p c.loop-index.index) [
      | inl below ↦ ap (bit_in line) (i.joined p below) ∙ joined_left old (get_or c.args.other.now.words p 0) (line % 64) e
      | inr beyond ↦ ap (bit_in line) (i.after p beyond) ∙ e
    ]

pub returns-clause-those : goal.returns-clause-those
returns-clause-those c = λ line e.
    let i = c.loop-index.invariant in
    let p = line / 64 in
    let old = get_or c.args.self.now.words p 0 in
    let more = c.args.other.now.words in
    elim (cases_lt p 8) [
      | inl below ↦ ap (bit_in line) (i.joined p (omega (arith, below, c.loop-index-test.false))) ∙ joined_right old (get_or more p 0) (line % 64) e
      | inr beyond ↦
          let long : length more ≡ 8 = search rules in
          let none : bit_in line 0 ≡ true = ap (bit_in line) (sym (get_or_past more p 0 (omega (arith, beyond, long)))) ∙ e in
          absurd (omega (arith, eqb-true _ _ none, bit_at-zero (line % 64)))
    ]

pub returns-clause-words : goal.returns-clause-words
returns-clause-words c = λ k below. c.loop-index.invariant.joined k (omega (arith, below, c.loop-index-test.false))
