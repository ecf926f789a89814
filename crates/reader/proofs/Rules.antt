-- How the rules of circuits last as lines are added one by one.
use Rattle.std.proofs.Common.{◌≡◌, ℕ, suc, ◌+◌, ◌<◌, ◌≤◌, Bool, true, false, cond, ◌&&◌, ltb, List, [], ◌∷◌, ◌++◌, map, length, is_some, Some, None, Option, sym, refl, ap, ◌∙◌, arith}
use mathlib.Core.Bool.{and-true, and_assoc}
use Rattle.std.specs.Option.{option_map}
use Rattle.std.proofs.lemmas.List.{append-nil, append_assoc, map-append, length-append, length-map, length_push}
use Rattle.std.proofs.lemmas.List.Folds.{list_all-append}
use Rattle.std.proofs.lemmas.Bool.{and_parts, and_from, not_from_false, ltb-true, lt-ltb}
use Rattle.std.specs.List.{list_all}
use Rattle.circuit.specs.Lawful.{each_after, gate_fits, unclaimed}
use Rattle.circuit.specs.Model.{Gate, has_name, line_named}
use Rattle.reader.specs.Reading.{last_named}

-- one more element, at the end
pub each_after_push : {X : Type 0} (right : List X → X → Bool) (before xs : List X) (y : X)
    → each_after right before (xs ++ (y ∷ [])) ≡ (each_after right before xs && right (before ++ xs) y)
each_after_push {X} right before [] y = and-true (right before y) ∙ ap (λ (front : List X). right front y) (sym (append-nil before))
each_after_push {X} right before (x ∷ xs) y =
    ap (λ (t : Bool). right before x && t) (each_after_push right (before ++ (x ∷ [])) xs y)
    ∙ sym (and_assoc (right before x) (each_after right (before ++ (x ∷ [])) xs) (right ((before ++ (x ∷ [])) ++ xs) y))
    ∙ ap (λ (front : List X). (right before x && each_after right (before ++ (x ∷ [])) xs) && right front y) (append_assoc before (x ∷ []) xs)

pub all_push : {X : Type 0} (p : X → Bool) (xs : List X) (y : X) → list_all p xs ≡ true → p y ≡ true → list_all p (xs ++ (y ∷ [])) ≡ true
all_push p xs y all this = list_all-append p xs (y ∷ []) ∙ and_from _ _ all (and_from _ _ this refl)

abbrev pub below : ℕ → ℕ → Bool
below lines o = ltb o lines

pub all_below_more : (lines more : ℕ) (xs : List ℕ) → lines ≤ more → list_all (below lines) xs ≡ true → list_all (below more) xs ≡ true
all_below_more lines more [] le all = refl
all_below_more lines more (x ∷ xs) le all =
    let parts = and_parts (below lines x) (list_all (below lines) xs) all in
    let lower = ltb-true x lines parts.0 in
    and_from (below more x) (list_all (below more) xs) (lt-ltb x more (omega arith)) (all_below_more lines more xs le parts.1)

-- a line with no name is found by none
pub line_named_push : (names : List (Option (List ℕ))) (word : List ℕ) → line_named (names ++ (None ∷ [])) word ≡ line_named names word
line_named_push [] word = refl
line_named_push (name ∷ names) word =
    ap (λ (found : Option ℕ). cond (has_name word name) (Some 0) (option_map suc found)) (line_named_push names word)

abbrev pub Below : ℕ → Option ℕ → Type 0
Below lines None = Unit {0}
Below lines (Some line) = line < lines

-- a line that is found is one of the lines
pub found_below : (names : List (Option (List ℕ))) (word : List ℕ) → Below (length names) (line_named names word)
found_below [] word = tt
found_below (name ∷ names) word = first (has_name word name) (later (line_named names word) (found_below names word))
  where
    later : (found : Option ℕ) → Below (length names) found → Below (length (name ∷ names)) (option_map suc found)
    later None h = tt
    later (Some line) h = omega arith

    first : (t : Bool) → Below (length (name ∷ names)) (option_map suc (line_named names word))
        → Below (length (name ∷ names)) (cond t (Some 0) (option_map suc (line_named names word)))
    first true h = omega arith
    first false h = h

abbrev pub named : List ℕ → Gate → Gate
named name g = record { name = Some name; op = g.op; operands = g.operands }

pub last_named_push : (name : List ℕ) (gates : List Gate) (g : Gate) → last_named name (gates ++ (g ∷ [])) ≡ gates ++ (named name g ∷ [])
last_named_push name [] g = refl
last_named_push name (first ∷ []) g = refl
last_named_push name (first ∷ (second ∷ gates)) g = ap (λ (rest : List Gate). first ∷ rest) (last_named_push name (second ∷ gates) g)

-- the names of lines that are inputs and gates, as `names` has them of a circuit
abbrev pub line_names : List (List ℕ) → List Gate → List (Option (List ℕ))
line_names inputs gates = map Some inputs ++ map (λ (g : Gate). g.name) gates

pub length_line_names : (inputs : List (List ℕ)) (gates : List Gate) → length (line_names inputs gates) ≡ length inputs + length gates
length_line_names inputs gates = simp (length-append, length-map)

pub line_names_push : (inputs : List (List ℕ)) (gates : List Gate) (g : Gate)
    → line_names inputs (gates ++ (g ∷ [])) ≡ line_names inputs gates ++ (g.name ∷ [])
line_names_push inputs gates g =
    ap (λ (rest : List (Option (List ℕ))). map Some inputs ++ rest) (map-append (λ (h : Gate). h.name) gates (g ∷ []))
    ∙ sym (append_assoc (map Some inputs) (map (λ (h : Gate). h.name) gates) (g.name ∷ []))

-- a line among them has the name
abbrev pub is_named : List (List ℕ) → List Gate → List ℕ → Bool
is_named inputs gates name = is_some (line_named (line_names inputs gates) name)

-- a gate fits after the gates before it
abbrev pub fits_after : List (List ℕ) → List Gate → Gate → Bool
fits_after inputs before = gate_fits (length inputs + length before)

-- the rules on inputs and gates
pub record Lined (inputs : List (List ℕ)) (gates : List Gate) : Type 0 where
  pub few_inputs : length inputs ≤ 64
  pub few_lines : length inputs + length gates ≤ 512
  pub gates_fit : each_after (fits_after inputs) [] gates ≡ true
  pub names_apart : each_after unclaimed [] (line_names inputs gates) ≡ true

-- what they ask of the next gate
pub record Next (inputs : List (List ℕ)) (gates : List Gate) (g : Gate) : Type 0 where
  pub room : length inputs + length gates < 512
  pub fits : fits_after inputs gates g ≡ true
  pub fresh : unclaimed (line_names inputs gates) g.name ≡ true

module _ (inputs : List (List ℕ)) (gates : List Gate) (g : Gate) where
  gates_fit_push : each_after (fits_after inputs) [] (gates ++ (g ∷ [])) ≡ (each_after (fits_after inputs) [] gates && fits_after inputs gates g)
  gates_fit_push = each_after_push (fits_after inputs) [] gates g

  names_apart_push : each_after unclaimed [] (line_names inputs (gates ++ (g ∷ [])))
      ≡ (each_after unclaimed [] (line_names inputs gates) && unclaimed (line_names inputs gates) g.name)
  names_apart_push = ap (each_after unclaimed []) (line_names_push inputs gates g) ∙ each_after_push unclaimed [] (line_names inputs gates) g.name

  pub lined_push : Lined inputs gates → Next inputs gates g → Lined inputs (gates ++ (g ∷ []))
  lined_push lined next = record {
    few_inputs = lined.few_inputs;
    few_lines = simp length_push (omega arith);
    gates_fit = gates_fit_push ∙ and_from _ _ lined.gates_fit next.fits;
    names_apart = names_apart_push ∙ and_from _ _ lined.names_apart next.fresh;
  }

  pub lined_pop : Lined inputs (gates ++ (g ∷ [])) → Lined inputs gates × Next inputs gates g
  lined_pop lined =
      let fit = and_parts _ _ (sym gates_fit_push ∙ lined.gates_fit) in
      let apart = and_parts _ _ (sym names_apart_push ∙ lined.names_apart) in
      let longer = length_push gates g in (
        record { few_inputs = lined.few_inputs; few_lines = omega arith; gates_fit = fit.0; names_apart = apart.0 },
        record { room = omega arith; fits = fit.1; fresh = apart.1 },
      )

-- a name can be given to the last gate, which has none
pub lined_named : (inputs : List (List ℕ)) (gates : List Gate) (g : Gate) (name : List ℕ) → g.name ≡ None
    → is_named inputs (gates ++ (g ∷ [])) name ≡ false → Lined inputs (gates ++ (g ∷ [])) → Lined inputs (gates ++ (named name g ∷ []))
lined_named inputs gates g name unnamed free lined =
    let parts = lined_pop inputs gates g lined in
    let known = line_names_push inputs gates g ∙ ap (λ (last : Option (List ℕ)). line_names inputs gates ++ (last ∷ [])) unnamed in
    let found = ap (λ (names : List (Option (List ℕ))). line_named names name) known ∙ line_named_push (line_names inputs gates) name in
    lined_push inputs gates (named name g) parts.0 (record {
      room = parts.1.room;
      fits = parts.1.fits;
      fresh = not_from_false _ (sym (ap is_some found) ∙ free);
    })

-- one more input, while there are no gates
pub lined_input : (inputs : List (List ℕ)) (name : List ℕ) → length inputs < 64 → is_named inputs [] name ≡ false
    → Lined inputs [] → Lined (inputs ++ (name ∷ [])) []
lined_input inputs name room free lined =
    let Names = List (Option (List ℕ)) in
    let one_more : line_names (inputs ++ (name ∷ [])) [] ≡ line_names inputs [] ++ (Some name ∷ []) =
    append-nil (map Some (inputs ++ (name ∷ []))) ∙ map-append Some inputs (name ∷ [])
    ∙ ap (λ (front : Names). front ++ (Some name ∷ [])) (sym (append-nil (map Some inputs))) in
    record {
      few_inputs = simp length_push (omega arith);
      few_lines = simp length_push (omega arith);
      gates_fit = refl;
      names_apart =
          ap (each_after unclaimed []) one_more ∙ each_after_push unclaimed [] (line_names inputs []) (Some name)
          ∙ and_from _ _ lined.names_apart (not_from_false _ free);
    }
