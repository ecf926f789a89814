use Rattle.std.proofs.Common.{ℕ, ◌/◌, get_or, bit_or, sym, ap, ◌∙◌, arith}
use Rattle.simulator.proofs.cursor.Cursor.add_all.Goals as goal

pub returns-clause-copy : goal.returns-clause-copy
returns-clause-copy c =
    let index = c.args.line / 64 in
    ap (λ (n : ℕ). bit_or n (get_or c.args.other.now.words index 0)) c.requires.copy ∙ sym (c.add_all.ensures.words index (omega (arith, c.requires.few)))
