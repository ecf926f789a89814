-- What the whole visit comes to, as the code makes it.
use Rattle.std.proofs.Common.{◌≡◌, ℕ, ◌-◌, ◌^◌, ◌≤◌, length, Some, Ok, Option, sym, ap, ◌∙◌, subst}
use native.Mathlib.Nat.{sub-zero}
use Rattle.std.specs.Result.{result_map_both}
use Rattle.refusals.specs.declared.layers.FolderRefusal.{FolderRefusal}
use Rattle.values.specs.Pairs.{Pairs}
use Rattle.values.specs.Kind.{Kind, Lawful}
use Rattle.circuit.specs.Model.{Circuit}
use Rattle.faults.specs.declared.fault.Fault.{Fault}
use Rattle.faults.specs.Cubes.{Cube, nothing_driven}
use Rattle.simulator.specs.Detection.{verdict}
use Rattle.simulator.specs.Simulation.{row_allowed}
use Rattle.visit.specs.Visiting.{Progress, met, below, at_start, Answer, progress_answer, answer, answer_tries}
use Rattle.visit.specs.Meaning.{Means}
use Rattle.visit.specs.Visits.{Visits, UsesUp, Inside}
use Rattle.visit.proofs.Counting.{answer_within, answer_used_up, answer_few, answer_inside}
use Rattle.visit.proofs.Meanings.{answer_means}

module _ (K : Kind) (M : Pairs → Type 0) (l : Lawful K M) (c : Circuit) (f : Fault) (budget places : ℕ) where
  abbrev inputs : ℕ
  inputs = length c.inputs

  -- the cube with nothing driven is met with the fault plugged
  pub visit_is : (simulated : Circuit) (plugged : Option Fault) (most : ℕ) (q : Cube) (next : ℕ) (start end : Progress) (r : Answer)
      → simulated ≡ c → plugged ≡ Some f → most ≡ budget → q ≡ nothing_driven → next ≡ 0 → start ≡ at_start
      → end ≡ met (verdict K simulated plugged) most (below (verdict K simulated plugged) most (length simulated.inputs) (length simulated.inputs - next)) q start
      → r ≡ progress_answer end → r ≡ answer K c f budget
  visit_is simulated plugged most q next start end r circuit plug allowed nothing first begin e is =
      is ∙ ap progress_answer e
      ∙ ap (λ (m : ℕ). progress_answer (met (verdict K simulated plugged) m (below (verdict K simulated plugged) m (length simulated.inputs) (length simulated.inputs - next)) q start)) allowed
      ∙ ap (λ (d : Circuit). progress_answer (met (verdict K d plugged) budget (below (verdict K d plugged) budget (length d.inputs) (length d.inputs - next)) q start)) circuit
      ∙ ap (λ (n : ℕ). progress_answer (met (verdict K c plugged) budget (below (verdict K c plugged) budget inputs n) q start)) (ap (λ (n : ℕ). inputs - n) first ∙ sub-zero inputs)
      ∙ ap (λ (o : Option Fault). progress_answer (met (verdict K c o) budget (below (verdict K c o) budget inputs inputs) q start)) plug
      ∙ ap (λ (p : Cube). progress_answer (met (verdict K c (Some f)) budget (below (verdict K c (Some f)) budget inputs inputs) p start)) nothing
      ∙ ap (λ (p : Progress). progress_answer (met (verdict K c (Some f)) budget (below (verdict K c (Some f)) budget inputs inputs) nothing_driven p)) begin

  pub visits : (r : Answer) → Ok tt ≡ row_allowed c places → r ≡ answer K c f budget → Visits K c f budget places (Ok r)
  visits r allowed e = record {
    answer = ap Ok e ∙ ap (result_map_both (λ _. answer K c f budget) (λ (e : FolderRefusal). e)) allowed;
    means = subst (λ (a : Answer). Means K c f a) (sym e) (answer_means K M l c f budget);
    within = subst (λ (a : Answer). answer_tries a ≤ budget) (sym e) (answer_within K c f budget);
    used_up = subst (λ (a : Answer). UsesUp budget a) (sym e) (answer_used_up K c f budget);
    few = subst (λ (a : Answer). answer_tries a ≤ 3 ^ length c.inputs) (sym e) (answer_few K c f budget);
    inside = subst (λ (a : Answer). Inside c a) (sym e) (answer_inside K c f budget);
  }
