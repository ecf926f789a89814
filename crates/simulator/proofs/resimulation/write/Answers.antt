use Rattle.std.proofs.Common.{◌≡◌, false, map, set, refl, sym, ap, ◌∙◌}
use mathlib.Core.Bool.{false≢true}
use Rattle.std.proofs.lemmas.Option.{get_or_from_slice_get}
use Rattle.std.proofs.lemmas.List.{get_or-map, set-get_or, length-set, map-set}
use Rattle.values.specs.Pairs.{Pairs, only}
use Rattle.simulator.specs.Detection.{set_of}
use Rattle.simulator.proofs.resimulation.write.Goals as goal

pub returns-then-equals : goal.returns-then-equals
returns-then-equals g c =
    let m = g.V.ValueKind.meaning in
    let row = c.args.row.now in
    let line = c.args.line in
    let is : m c.args.value ≡ set_of (map m row) line =
    ap m (c.equals.ensures.0 c.if-equals.true)
    ∙ ap m c.index-row-line.is
    ∙ sym (get_or-map m row line c.index-row-line.result (only false false) c.requires) in
    record {
      long = refl;
      sets = sym (ap (λ (x : Pairs). set (map m row) line x) is ∙ set-get_or (map m row) line (only false false));
      same = λ e. is;
      new = λ e. absurd (false≢true e);
    }

pub returns : goal.returns
returns g c = record {
  long = length-set c.args.row.now c.args.line c.args.value;
  sets = map-set g.V.ValueKind.meaning c.args.row.now c.args.line c.args.value;
  same = λ e. absurd (false≢true (sym e));
  new = λ e there. absurd (false≢true (sym c.if-equals.false ∙ c.equals.ensures.1 (sym (get_or_from_slice_get c.args.row.now c.args.line c.args.value c.index-row-line.result there) ∙ sym c.index-row-line.is)));
}
