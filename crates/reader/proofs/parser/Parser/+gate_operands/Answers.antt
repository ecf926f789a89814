use Rattle.std.proofs.Common.{◌≡◌, ℕ, suc, ◌∷◌, refl, ap, ◌∙◌, arith}
use Rattle.reader.specs.Gates.{pending_of, going_on}
use Rattle.reader.proofs.Steps.{handed_up, leads_from}
use Rattle.reader.proofs.parser.Parser.+gate_operands.Goals as goal

pub gate-returns-in_err-op-clause-leads : goal.gate-returns-in_err-op-clause-leads
gate-returns-in_err-op-clause-leads t c = λ name pending room. handed_up _ _ _ _ _ c.from_residual.ensures.1 refl (c.in_err-op.ensures.leads name pending room)

pub operands-returns-in_err-word-clause-leads : goal.operands-returns-in_err-word-clause-leads
operands-returns-in_err-word-clause-leads t c = λ name pending room.
    handed_up _ _ _ _ _ c.from_residual.ensures.1 (c.operands.invariant.leads name pending room)
    (c.in_err-word.ensures.leads name pending (omega (arith, room, c.operands.invariant.same)))

pub operands-returns-in_err-line-in-Opening-clause-leads : goal.operands-returns-in_err-line-in-Opening-clause-leads
operands-returns-in_err-line-in-Opening-clause-leads t c =
    let inner = pending_of c.operands.gate in
    let opens : suc c.in-Opening.allowed ≡ c.operands.gate.allowed = rw c.in-Opening.is at c.in_ok-word.ensures.opens in
    λ name pending room.
    handed_up _ _ _ _ _ c.from_residual-in_err-line-in-Opening.ensures.1
    (c.operands.invariant.leads name pending room
    ∙ c.in_ok-word.ensures.leads name pending (omega (arith, room, c.operands.invariant.same))
    ∙ ap (going_on name inner pending c.gate_part.new.self) c.in-Opening.is)
    (c.in_err-line-in-Opening.ensures.leads name (inner ∷ pending) (omega (arith, room, opens, c.operands.invariant.same)))

pub operands-returns-in-Closing-clause-leads : goal.operands-returns-in-Closing-clause-leads
operands-returns-in-Closing-clause-leads t c = λ name pending room.
    leads_from {X = ℕ} _ _ c.close_gate.result _
    (c.operands.invariant.leads name pending room
    ∙ c.in_ok-word.ensures.leads name pending (omega (arith, room, c.operands.invariant.same))
    ∙ ap (going_on name (pending_of c.operands.gate) pending c.gate_part.new.self) c.in-Closing.is)
    (c.close_gate.ensures.leads name pending)
