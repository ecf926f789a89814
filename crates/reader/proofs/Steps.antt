-- Steps of the definition, at the words that the reader has tested.
use Rattle.std.proofs.Common.{◌≡◌, ℕ, zero, suc, ◌<◌, List, [], ◌∷◌, map, length, get_or, set, Some, vec_items, vec_len, Result, IsErrAnd, MatchResult, sym, refl, ap, ◌∙◌, arith}
use Rattle.std.proofs.lemmas.List.{map-set, get_or-map, length-map}
use Rattle.std.proofs.lemmas.Result.{err_from_is_err_and}
use Rattle.refusals.specs.declared.cause.Refusal.{Refusal}
use Rattle.words.specs.Left.{onward}
use Rattle.words.specs.Lexemes.{Lexeme}
use Rattle.circuit.specs.declared.name.Name.{Name}
use Rattle.circuit.specs.declared.gate.Gate as code
use Rattle.circuit.specs.declared.tables.Tables.{Tables}
use Rattle.circuit.specs.Model.{Gate}
use Rattle.circuit.specs.Tables.{gate_model, tables_model}
use Rattle.reader.specs.Reading.{Due, Outcome, run, last_named, step, resumed}
use Rattle.reader.proofs.DescribesPlaces.{run_step}
use Rattle.reader.specs.declared.parser.Parser.{Parser}
use Rattle.reader.specs.Parsing.{ahead, so_far, at, Refuses, Leads}

-- the tables whose last gate got a name
last_set : (name : List ℕ) (gs : List Gate) (i : ℕ) (g : Gate) → suc i ≡ length gs → g.op ≡ (get_or gs i g).op → g.operands ≡ (get_or gs i g).operands → g.name ≡ Some name → last_named name gs ≡ set gs i g
last_set name [] i g e o p m = absurd (omega arith)
last_set name (h ∷ []) zero g e o p m = rw (o, p, m) refl
last_set name (h ∷ []) (suc i) g e o p m = absurd (omega arith)
last_set name (h ∷ (k ∷ gs)) zero g e o p m = absurd (omega arith)
last_set name (h ∷ (k ∷ gs)) (suc i) g e o p m = ap (λ (rest : List Gate). h ∷ rest) (last_set name (k ∷ gs) i g (omega arith) o p m)

pub gate_renamed : (t : Tables) (name : Name) (i : ℕ) (g : code.Gate) → suc i ≡ vec_len t.gates → g ≡ get_or (vec_items t.gates) i g
    → last_named name (map gate_model (vec_items t.gates)) ≡ map gate_model (set (vec_items t.gates) i (record { name = Some name; op = g.op; operands = g.operands }))
gate_renamed t name i g e r =
    let h : code.Gate = record { name = Some name; op = g.op; operands = g.operands } in
    let inside : i < length (vec_items t.gates) = omega (arith, t.gates.ok.0) in
    let was : gate_model g ≡ get_or (map gate_model (vec_items t.gates)) i (gate_model h) = ap gate_model r ∙ sym (get_or-map gate_model (vec_items t.gates) i g (gate_model h) inside) in
    last_set name (map gate_model (vec_items t.gates)) i (gate_model h)
    (e ∙ sym (length-map (vec_items t.gates) gate_model ∙ sym t.gates.ok.0))
    (ap (λ (k : Gate). k.op) was) (ap (λ (k : Gate). k.operands) was) refl
    ∙ sym (map-set gate_model (vec_items t.gates) i h)

-- one token, which is that lexeme, taken at a due is one step of the definition
pub stepped : (due : Due) (p q : Parser) (t u : Lexeme) → ahead p ≡ t ∷ onward t (ahead q) → q.tables ≡ p.tables → t ≡ u → at due p ≡ resumed (step due (so_far q) u) (onward u (ahead q))
stepped due p q t u taken same is =
    ap (run due (so_far p)) (taken ∙ ap (λ (x : Lexeme). x ∷ onward x (ahead q)) is) ∙ run_step due (so_far p) u (onward u (ahead q))
    ∙ ap (λ (tables : Tables). resumed (step due (tables_model tables) u) (onward u (ahead q))) (sym same)

-- an error that `?` hands up, of a part that began where reading already was
pub handed_up : {X : Type 0} (before mid : Outcome) (r : Result X Refusal) (goes : X → Type 0) (e : Refusal) → IsErrAnd r (λ f. f ≡ e) → before ≡ mid → Refuses mid e → MatchResult r goes (Refuses before)
handed_up before mid r goes e handed same refused = let error = err_from_is_err_and r handed in rw (error.1, error.2, same) refused

-- a part after another
pub leads_from : {X : Type 0} (before mid : Outcome) (r : Result X Refusal) (after : X → Outcome) → before ≡ mid → Leads mid r after → Leads before r after
leads_from before mid r after e h = rw e h
