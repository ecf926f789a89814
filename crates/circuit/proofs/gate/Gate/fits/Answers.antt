use Rattle.std.proofs.Common.{◌≡◌, ℕ, ltb, vec_items, rules, tests}
use Rattle.std.specs.List.{list_all}
use Rattle.std.proofs.lemmas.Iterator.{YieldsList-from_slice}
use Rattle.std.proofs.lemmas.Iterator.Search.{all_from_yields_List}
use Rattle.circuit.proofs.gate.Gate.fits.Goals as goal

pub returns-then-contains : goal.returns-then-contains
returns-then-contains c =
    let below : c.all.result ≡ list_all (λ (o : ℕ). ltb o c.args.line) (vec_items c.args.self.now.operands) = all_from_yields_List (λ (o : ℕ). ltb o c.args.line) _ _ _ c.all.ensures.ran (YieldsList-from_slice (vec_items c.args.self.now.operands) cc) (λ x b q k. search (rules, tests)) in
    search rules
