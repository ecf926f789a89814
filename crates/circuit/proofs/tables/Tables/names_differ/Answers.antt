use Rattle.std.proofs.Common.{[], length, get_or, take, None, ◌∙◌, arith, rules, tests}
use Rattle.std.proofs.lemmas.Iterator.{YieldsList-from_range}
use Rattle.std.proofs.lemmas.Iterator.Search.{all_from_yields_List}
use Rattle.circuit.specs.Model.{names}
use Rattle.circuit.specs.Lawful.{unclaimed}
use Rattle.circuit.specs.Tables.{tables_model}
use Rattle.circuit.proofs.After.{after_numbered}
use Rattle.circuit.proofs.Named.{names_length}
use Rattle.circuit.proofs.tables.Tables.names_differ.Goals as goal

pub returns : goal.returns
returns c =
    let ns = names (tables_model c.args.self.now) in
    all_from_yields_List (λ line. unclaimed (take line ns) (get_or ns line None)) _ _ _ c.all.ensures.ran
    (YieldsList-from_range 0 c.line_count.result (length ns) (cc) (omega (arith, names_length (tables_model c.args.self.now))))
    (λ x b q k. search (rules, tests))
    ∙ after_numbered unclaimed [] ns None
