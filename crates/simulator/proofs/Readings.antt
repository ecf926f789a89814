-- A row of pairs is two rows of levels: the circuit without the fault, and the circuit with it.
use Rattle.std.proofs.Common.{◌≡◌, ℕ, Bool, true, false, cond, not, ◌&&◌, eqb, get_or, Some, None, Option, refl, ap, ◌∙◌}
use Rattle.values.specs.Pairs.{Pair, pair}
use Rattle.values.specs.Values.{levels, faulty_levels, pairs}
use Rattle.circuit.specs.Model.{Circuit}
use Rattle.faults.specs.declared.fault.Fault.{Fault}
use Rattle.simulator.specs.Lines.{lines}
use Rattle.simulator.specs.Detection.{bit, levels_under, pair_under}
use Rattle.simulator.proofs.Relating.{KeepsGates, KeepsPins, stuck_keeps, line_keeps}

good_gates : KeepsGates levels pairs.gates (λ b p. b ≡ p.good)
good_gates = record {
  known = λ b. refl;
  negate = λ x y r. ap not r;
  both = λ x u y w r s. rw (r, s) refl;
  either = λ x u y w r s. rw (r, s) refl;
  differ = λ x u y w r s. rw (r, s) refl;
}

-- sticking leaves the good level
good_pins : (f : Option Fault) → KeepsPins faulty_levels pairs None f (λ b p. b ≡ p.good)
good_pins None line pin x y r = r
good_pins (Some f) line pin x y r = go (eqb f.line line && eqb f.pin pin)
  where
    go : (b : Bool) → x ≡ (cond b (pairs.stick f.level y) y).good
    go true = r
    go false = r

faulty_gates : KeepsGates levels pairs.gates (λ b p. b ≡ p.faulty)
faulty_gates = record {
  known = λ b. refl;
  negate = λ x y r. ap not r;
  both = λ x u y w r s. rw (r, s) refl;
  either = λ x u y w r s. rw (r, s) refl;
  differ = λ x u y w r s. rw (r, s) refl;
}

-- the pair that a vector gives an input
abbrev pub vector : ℕ → ℕ → Pair
vector v i = pair (bit v i) (bit v i)

-- the pair of a line, worked out in pairs
abbrev pub pair_line : Circuit → Option Fault → ℕ → ℕ → Pair
pair_line c f v line = get_or (lines pairs c f (vector v)) line (pair false false)

pub pair_is : (c : Circuit) (f : Option Fault) (v line : ℕ) → pair_under c f v line ≡ pair_line c f v line
pair_is c f v line =
    ap (λ (b : Bool). pair b (get_or (levels_under c f v) line false))
    (line_keeps faulty_levels pairs None f (λ b p. b ≡ p.good) good_gates (good_pins f) c (bit v) (vector v) (λ i h. refl) false (pair false false) refl line)
    ∙ ap (λ (b : Bool). pair (pair_line c f v line).good b)
    (line_keeps faulty_levels pairs f f (λ b p. b ≡ p.faulty) faulty_gates (stuck_keeps faulty_levels pairs (λ b p. b ≡ p.faulty) (λ l x y r. refl) f)
    c (bit v) (vector v) (λ i h. refl) false (pair false false) refl line)
