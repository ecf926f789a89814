use Rattle.std.proofs.Common.{◌≡◌, refl, ℕ, ◌+◌, ◌-◌, ◌<◌, false, List, [], ◌∷◌, Option, length, map, take, drop, fold, get_or, sym, ap, ◌∙◌, arith, rules}
use Rattle.std.proofs.lemmas.Grind.{common_steps}
use Rattle.std.proofs.lemmas.List.{get_or-map, drop_more, drop_all}
use Rattle.values.specs.Values.{Values}
use Rattle.circuit.specs.declared.op.Op.{Op}
use Rattle.faults.specs.declared.fault.Fault.{Fault}
use Rattle.simulator.specs.Lines.{at_pin, line_value, join, joined, operands_from}
use Rattle.simulator.proofs.Lines.{below_line}
use Rattle.simulator.proofs.gates.fold_operands.Goals as goal

-- the first operand, and the others joined on
from_first : {V : Type 0} (A : Values V) (op : Op) (f : Option Fault) (row : List V) (line : ℕ) (operands : List ℕ) → 0 < length operands
    → fold (join A.gates op) (at_pin A f line 1 (line_value A row (get_or operands 0 0))) (operands_from A f row line 2 (drop 1 operands))
    ≡ joined A.gates op (operands_from A f row line 1 operands)
from_first A op f row line [] some = absurd (omega (arith, some))
from_first A op f row line (o ∷ os) some = refl

pub loop-index-preserved : goal.loop-index-preserved
loop-index-preserved g c = λ op agrees.
    let v = g.V.ValueKind in
    let A = v.kind.values in
    let row = c.args.row.now in
    let operands = c.args.operands.now in
    let index = c.loop-index.index in
    let operand = get_or (take (length operands - 1) (drop 1 operands)) index 0 in
    let inside : index + 1 < length operands = grind (arith, common_steps, c.loop-index-test.true) in
    let is : operand ≡ get_or operands (index + 1) 0 = grind (arith, common_steps, inside) in
    let rest : drop (index + 1) operands ≡ operand ∷ drop (index + 1 + 1) operands = drop_more operands (index + 1) 0 inside ∙ ap (λ (o : ℕ). o ∷ drop (index + 1 + 1) operands) (sym is) in
    let below : operand < length row = omega (arith, is, below_line (length row) operands c.requires.lines (index + 1) 0 inside) in
    let pin : index + 2 + 1 ≡ index + 1 + 2 = omega arith in
    let read = ap v.meaning c.index-row-operand.is ∙ sym (get_or-map v.meaning row operand c.index-row-operand.result (A.gates.known false) below) in
    let left = rw (rest, pin) at c.loop-index.invariant op agrees in
    rw (agrees _ _ _ c.combine-value.ensures, c.at_pin-in-loop-index.ensures, read) left

pub returns : goal.returns
returns g c = λ op agrees.
    let v = g.V.ValueKind in
    let A = v.kind.values in
    let row = c.args.row.now in
    let operands = c.args.operands.now in
    let first = get_or operands 0 0 in
    let none : drop (c.loop-index.index + 1) operands ≡ [] = drop_all (c.loop-index.index + 1) operands (grind (arith, common_steps, c.loop-index-test.false)) in
    let inside : first < length row = search rules in
    let read = ap v.meaning c.index-row-first.is ∙ sym (get_or-map v.meaning row first c.index-row-first.result (A.gates.known false) inside) in
    rw none at c.loop-index.invariant op agrees
    ∙ ap (λ start. fold (join A.gates op) start (operands_from A c.args.fault (map v.meaning row) (length row) 2 (drop 1 operands))) (c.at_pin-value.ensures ∙ ap (at_pin A c.args.fault (length row) 1) read)
    ∙ from_first A op c.args.fault (map v.meaning row) (length row) operands c.requires.some
