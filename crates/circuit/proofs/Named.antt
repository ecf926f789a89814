-- The names of lines, by place, and one step of the search for a name.
use Rattle.std.proofs.Common.{zero, take, [], ◌∷◌, ◌≡◌, ℕ, suc, ◌+◌, ◌-◌, ◌<◌, ◌≤◌, List, map, length, get_or, Some, None, vec_items, vec_len, Option, sym, refl, ap, ◌∙◌, zero-add, arith}
use Rattle.std.proofs.lemmas.List.{get_or_append_left, get_or-append_right, get_or-map, get_or_past, length-map, length-append}
use Rattle.std.proofs.Math.Seq.{take-nil}
use Rattle.std.proofs.lemmas.Option.{slice_get_cases}
use Rattle.std.specs.Option.{option_map, option_and_then}
use Rattle.std.specs.List.{find, range_with_len}
use Rattle.circuit.specs.declared.name.Name.{Name}
use Rattle.circuit.specs.declared.tables.Tables.{Tables}
use Rattle.circuit.specs.Model.{Gate, Circuit, names, has_name, line_named, gate_at}
use Rattle.circuit.specs.Tables.{tables_model}

-- the search by number over `count` lines from line k on, where `named` gives the names of the lines
search_from : (named : ℕ → Option (List ℕ)) (word : List ℕ) (count k : ℕ) (ns : List (Option (List ℕ))) → ((i : ℕ) → named (k + i) ≡ get_or ns i None)
    → find (λ line. has_name word (named line)) (range_with_len k count) ≡ option_map (λ m. k + m) (line_named (take count ns) word)
search_from named word zero k ns h = refl
search_from named word (suc count) k [] h =
    let rest = search_from named word count (k + 1) [] (λ i. ap named (omega arith) ∙ h (suc i)) in
    let here = h 0 in
    grind (arith, take-nil)
search_from named word (suc count) k (n ∷ ns) h =
    let rest = search_from named word count (k + 1) ns (λ i. ap named (omega arith) ∙ h (suc i)) in
    let here = h 0 in
    grind arith

pub searched : (ns : List (Option (List ℕ))) (word : List ℕ) (count : ℕ) → find (λ line. has_name word (get_or ns line None)) (range_with_len 0 count) ≡ line_named (take count ns) word
searched ns word count =
    let all = search_from (λ i. get_or ns i None) word count 0 ns (λ i. ap (λ (j : ℕ). get_or ns j None) (zero-add i)) in
    grind arith

module _ (c : Circuit) where
  pub names_length : length (names c) ≡ length c.inputs + length c.gates
  names_length =
      length-append (map Some c.inputs) (map (λ (g : Gate). g.name) c.gates) ∙ simp length-map

  pub input_named : (i : ℕ) (d : List ℕ) → i < length c.inputs → get_or (names c) i None ≡ Some (get_or c.inputs i d)
  input_named i d h =
      get_or_append_left (map Some c.inputs) (map (λ (g : Gate). g.name) c.gates) None i (rw length-map h) ∙ get_or-map Some c.inputs i d None h

  pub gate_named : (i : ℕ) (d : Gate) → length c.inputs ≤ i → i - length c.inputs < length c.gates → get_or (names c) i None ≡ (get_or c.gates (i - length c.inputs) d).name
  gate_named i d h l =
      get_or-append_right (map Some c.inputs) (map (λ (g : Gate). g.name) c.gates) (length c.inputs) i None (length-map c.inputs Some) h
      ∙ get_or-map (λ (g : Gate). g.name) c.gates (i - length c.inputs) d None l

  pub past_named : (i : ℕ) → length c.inputs + length c.gates ≤ i → get_or (names c) i None ≡ None
  past_named i h = get_or_past (names c) i None (rw names_length h)

  -- the name of a line that is no input
  past_inputs : (i : ℕ) (o : Option Gate) → length c.inputs ≤ i → gate_at c i ≡ o → get_or (names c) i None ≡ option_and_then (λ (g : Gate). g.name) o
  past_inputs i o h e = grind (arith, slice_get_cases c.gates (i - length c.inputs), past_named i, gate_named i)

-- the name of a line as the code's tables have it
module _ (t : Tables) (i : ℕ) where
  pub input_name_at : (n : Name) → i < vec_len t.inputs → n ≡ get_or (vec_items t.inputs) i n → Some n ≡ get_or (names (tables_model t)) i None
  input_name_at n h e = sym (input_named (tables_model t) i n (omega (arith, t.inputs.ok.0)) ∙ ap Some (sym e))

  pub gate_name_at : (o : Option Gate) → vec_len t.inputs ≤ i → gate_at (tables_model t) i ≡ o → option_and_then (λ (g : Gate). g.name) o ≡ get_or (names (tables_model t)) i None
  gate_name_at o h e = sym (past_inputs (tables_model t) i o (omega (arith, t.inputs.ok.0)) e)
