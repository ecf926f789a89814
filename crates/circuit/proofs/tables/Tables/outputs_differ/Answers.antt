use Rattle.std.proofs.Common.{[], take, vec_items, ◌∙◌, rules, tests}
use Rattle.std.proofs.lemmas.Iterator.{YieldsList-from_slice}
use Rattle.std.proofs.lemmas.Iterator.Consumers.{YieldsList-from_enumerate}
use Rattle.std.proofs.lemmas.Iterator.Search.{all_from_yields_List}
use Rattle.circuit.specs.Model.{line_count}
use Rattle.circuit.specs.Lawful.{new_output}
use Rattle.circuit.specs.Tables.{tables_model}
use Rattle.circuit.proofs.After.{after_paired}
use Rattle.circuit.proofs.tables.Tables.outputs_differ.Goals as goal

pub returns : goal.returns
returns c =
    let outputs = vec_items c.args.self.now.outputs in
    let right = new_output (line_count (tables_model c.args.self.now)) in
    all_from_yields_List (λ p. right (take p.0 outputs) p.1) _ _ _ c.all.ensures.ran (YieldsList-from_enumerate (YieldsList-from_slice outputs (cc)) (cc)) (λ x b q k. search (rules, tests))
    ∙ after_paired right [] outputs
