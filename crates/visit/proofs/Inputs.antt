-- Lines carry what the circuit's own inputs give them, and nothing else.
use Rattle.std.proofs.Common.{◌≡◌, ℕ, zero, suc, ◌%◌, ◌^◌, ◌<◌, Bool, cond, List, [], ◌∷◌, ◌++◌, length, Option, refl, ap, ◌∙◌, arith}
use Rattle.values.specs.Pairs.{Pairs}
use Rattle.values.specs.Values.{Values}
use Rattle.values.specs.Kind.{Kind}
use Rattle.circuit.specs.Model.{Circuit}
use Rattle.faults.specs.declared.fault.Fault.{Fault}
use Rattle.faults.specs.Cubes.{Cube}
use Rattle.simulator.specs.Lines.{at_pin, inputs_row, gates_after}
use Rattle.simulator.specs.Detection.{bit, input_value, simulated}
use Rattle.visit.proofs.Finding.{cut}
use Rattle.visit.proofs.Words.{bit_cut}

inputs_same : {V : Type 0} (A : Values V) (f : Option Fault) (x y : ℕ → V) (k : ℕ) → ((i : ℕ) → i < k → x i ≡ y i) → inputs_row A f x k ≡ inputs_row A f y k
inputs_same A f x y zero h = refl
inputs_same {V} A f x y (suc k) h =
    ap (λ (row : List V). row ++ (at_pin A f k 0 (x k) ∷ [])) (inputs_same A f x y k (λ i l. h i (omega arith)))
    ∙ ap (λ (v : V). inputs_row A f y k ++ (at_pin A f k 0 v ∷ [])) (h k (omega arith))

module _ (K : Kind) (c : Circuit) (f : Option Fault) (q : Cube) where
  cut_value : (k i : ℕ) → i < k → input_value K (cut k q) i ≡ input_value K q i
  cut_value k i h =
      ap (λ (b : Bool). cond b (K.values.gates.known (bit (q.level % 2 ^ k) i)) K.unknown) (bit_cut q.driven k i h)
      ∙ ap (λ (b : Bool). cond (bit q.driven i) (K.values.gates.known b) K.unknown) (bit_cut q.level k i h)

  -- what a cube drives beyond the circuit's inputs has no part in it
  pub simulated_cut : simulated K c f (cut (length c.inputs) q) ≡ simulated K c f q
  simulated_cut =
      ap (λ (row : List Pairs). gates_after K.values f row c.gates)
      (inputs_same K.values f (input_value K (cut (length c.inputs) q)) (input_value K q) (length c.inputs) (cut_value (length c.inputs)))
