-- The rules of circuits, over the tables of the code.
use Rattle.std.proofs.Common.{◌≡◌, ℕ, ◌+◌, ◌≤◌, true, leb, length, vec_items, vec_len, sym, ap, ◌∙◌, arith}
use Rattle.std.proofs.lemmas.List.{length-map}
use Rattle.std.proofs.lemmas.Bool.{and_parts, leb-true}
use Rattle.circuit.specs.declared.tables.Tables.{Tables}
use Rattle.circuit.specs.Model.{line_count}
use Rattle.circuit.specs.Lawful.{between, lawful}
use Rattle.circuit.specs.Tables.{gate_model, tables_model}

module _ (t : Tables) where
  pub inputs_count : length (tables_model t).inputs ≡ vec_len t.inputs
  inputs_count = sym t.inputs.ok.0

  pub gates_count : length (tables_model t).gates ≡ vec_len t.gates
  gates_count = length-map (vec_items t.gates) gate_model ∙ sym t.gates.ok.0

  pub lines_count : line_count (tables_model t) ≡ vec_len t.inputs + vec_len t.gates
  lines_count = ap (λ (n : ℕ). n + length (tables_model t).gates) inputs_count ∙ ap (λ (n : ℕ). vec_len t.inputs + n) gates_count

-- a circuit has at most 64 inputs
pub few_inputs : (t : Tables) → lawful (tables_model t) ≡ true → vec_len t.inputs ≤ 64
few_inputs t h =
    let inputs = (and_parts (between 1 64 (length (tables_model t).inputs)) _ h).0 in
    omega (arith, inputs_count t, leb-true (length (tables_model t).inputs) 64 (and_parts (leb 1 (length (tables_model t).inputs)) (leb (length (tables_model t).inputs) 64) inputs).1)
