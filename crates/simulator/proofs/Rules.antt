-- What the rules of circuits say of an output, and what a granted simulation says of the row.
use Rattle.std.proofs.Common.{◌≡◌, ℕ, zero, suc, ◌<◌, ◌≤◌, Bool, true, false, cond, ltb, List, [], ◌∷◌, ◌++◌, length, get_or, All, Ok, Err, Result, refl, arith}
use Rattle.std.proofs.lemmas.Bool.{and_parts, ltb-true, ltb-false}
use Rattle.refusals.specs.declared.layers.FolderRefusal.{FolderRefusal}
use Rattle.refusals.specs.declared.layers.FolderRefusal.TheVariants.{RowTooShort, InputMissing}
use Rattle.faults.specs.Cubes.{Cube}
use Rattle.simulator.specs.Simulation.{drives_beyond, simulation_allowed}
use Rattle.circuit.specs.Model.{Circuit, line_count}
use Rattle.circuit.specs.Lawful.{each_after, new_output, lawful}

listed_below : (n : ℕ) (before outputs : List ℕ) (k d : ℕ) → k < length outputs → each_after (new_output n) before outputs ≡ true → get_or outputs k d < n
listed_below n before [] k d h e = absurd (omega arith)
listed_below n before (o ∷ os) zero d h e = ltb-true o n (and_parts (ltb o n) _ (and_parts (new_output n before o) _ e).0).0
listed_below n before (o ∷ os) (suc k) d h e = listed_below n (before ++ (o ∷ [])) os k d (omega arith) (and_parts (new_output n before o) _ e).1

-- each output is a line
pub outputs_below : (c : Circuit) → lawful c ≡ true → All (λ (o : ℕ). o < line_count c) c.outputs
outputs_below c e k d h =
    let outputs : each_after (new_output (line_count c)) [] c.outputs ≡ true = grind (arith, and_parts) in
    listed_below (line_count c) [] c.outputs k d h outputs

-- a simulation is granted only in a row with a place for each line
abbrev granted : Result (Unit {0}) FolderRefusal
granted = Ok tt

pub row_has_room : (c : Circuit) (q : Cube) (places : ℕ) → granted ≡ simulation_allowed c q places → line_count c ≤ places
row_has_room c q places allowed = go (drives_beyond c q) (ltb places (line_count c)) refl allowed
  where
    go : (b d : Bool) → ltb places (line_count c) ≡ d → granted ≡ cond b (Err InputMissing) (cond d (Err RowTooShort) granted) → line_count c ≤ places
    go true d e allowed = absurd (let clash = allowed in cc)
    go false true e allowed = absurd (let clash = allowed in cc)
    go false false e allowed = ltb-false _ _ e
