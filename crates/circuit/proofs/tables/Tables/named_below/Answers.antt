use Rattle.std.proofs.Common.{get_or, None, sym, ◌∙◌, arith, rules, tests}
use Rattle.std.proofs.lemmas.Iterator.Adapters.{option_map_id}
use Rattle.std.proofs.lemmas.Iterator.{YieldsList-from_range}
use Rattle.std.proofs.lemmas.Iterator.Search.{find_from_yields_List}
use Rattle.circuit.specs.Model.{names, has_name}
use Rattle.circuit.specs.Tables.{tables_model}
use Rattle.circuit.proofs.Named.{searched}
use Rattle.circuit.proofs.tables.Tables.named_below.Goals as goal

pub returns : goal.returns
returns c =
    let ns = names (tables_model c.args.self.now) in
    sym (option_map_id c.find.result)
    ∙ find_from_yields_List (λ line. has_name c.args.word.now (get_or ns line None)) _ _ _ c.find.ensures.ran (YieldsList-from_range 0 c.args.count c.args.count (cc) (omega arith)) (λ x b q k. search (rules, tests))
    ∙ searched ns c.args.word.now c.args.count
