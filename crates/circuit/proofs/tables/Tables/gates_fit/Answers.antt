use Rattle.std.proofs.Common.{length, vec_items, sym, ◌∙◌, arith, rules, tests}
use Rattle.std.proofs.lemmas.Iterator.{YieldsList-from_slice, YieldsList-from_range, YieldsList-from_zip}
use Rattle.std.proofs.lemmas.Iterator.Search.{all_from_yields_List}
use Rattle.circuit.specs.Lawful.{gate_fits}
use Rattle.circuit.specs.Tables.{gate_model, tables_model}
use Rattle.circuit.proofs.Sizes.{inputs_count, lines_count}
use Rattle.circuit.proofs.After.{after_counted}
use Rattle.circuit.proofs.tables.Tables.gates_fit.Goals as goal

pub returns : goal.returns
returns c =
    let t = c.args.self.now in
    let gates = vec_items t.gates in
    all_from_yields_List (λ p. gate_fits p.0 (gate_model p.1)) c.all.new.self _ _ c.all.ensures.ran
    (YieldsList-from_zip (YieldsList-from_range c.len.result c.line_count.result (length gates) c.zip.ensures.first (omega (arith, lines_count t, c.len.ensures, c.line_count.ensures, t.gates.ok.0))) (YieldsList-from_slice gates c.zip.ensures.second.0))
    (λ x b q k. search (rules, tests))
    ∙ after_counted gate_fits gate_model (length (tables_model t).inputs) c.len.result gates (c.len.ensures ∙ sym (inputs_count t))
