-- Answers that are known beforehand, of values and of visits, over the definitions that the contracts use.
use Rattle.std.specs.Prelude.{◌≡◌, ℕ, true, false, List, [], ◌∷◌, Some, None, codes}
use Rattle.values.specs.Kind.{Kind}
use Rattle.values.specs.Five.{five}
use Rattle.values.specs.Seven.{seven}
use Rattle.values.specs.Nine.{nine}
use Rattle.values.specs.KnownValues.{KnownValues}
use Rattle.circuit.specs.declared.op.Op.{Op}
use Rattle.circuit.specs.declared.op.Op.TheVariants.{And, Or, Not}
use Rattle.circuit.specs.Model.{Gate, Circuit, blank}
use Rattle.faults.specs.Cubes.{Cube}
use Rattle.faults.specs.Faults.{fault}
use Rattle.visit.specs.Visiting.{Answer, Fewest, Redundant, Spent, answer}

abbrev named : List ℕ → Op → List ℕ → Gate
named name op operands = record { name = Some name; op = op; operands = operands }

abbrev nested : Op → List ℕ → Gate
nested op operands = record { name = None; op = op; operands = operands }

-- y is s, whatever a is: (inputs a s), (gate y (or (and s a) s)), (outputs y)
abbrev pub absorbing : Circuit
absorbing = record {
  inputs = codes "a" ∷ codes "s" ∷ [];
  gates = nested And (1 ∷ 0 ∷ []) ∷ named (codes "y") Or (2 ∷ 1 ∷ []) ∷ [];
  outputs = 3 ∷ [];
}

-- y is a or b, as s chooses: (inputs a b s), (gate y (or (and a (not s)) (and b s))), (outputs y)
abbrev pub multiplexer : Circuit
multiplexer = record {
  inputs = codes "a" ∷ codes "b" ∷ codes "s" ∷ [];
  gates = nested Not (2 ∷ []) ∷ nested And (0 ∷ 3 ∷ []) ∷ nested And (1 ∷ 2 ∷ []) ∷ named (codes "y") Or (4 ∷ 5 ∷ []) ∷ [];
  outputs = 6 ∷ [];
}

-- y is a, whatever the line p is: (inputs a b), (gate p (and a b)), (gate y (or a p)), (outputs y)
abbrev pub masking : Circuit
masking = record {
  inputs = codes "a" ∷ codes "b" ∷ [];
  gates = named (codes "p") And (0 ∷ 1 ∷ []) ∷ named (codes "y") Or (0 ∷ 2 ∷ []) ∷ [];
  outputs = 3 ∷ [];
}

abbrev cube : ℕ → ℕ → Cube
cube driven level = record { driven = driven; level = level }

-- the cube after so many tries
abbrev fewest : ℕ → ℕ → ℕ → Answer
fewest driven level tries = Fewest (cube driven level) tries

-- more tries than any of these visits makes
abbrev plenty : ℕ
plenty = 1000000

-- said of each of the three kinds
abbrev pub EachKind : (Kind → Type 0) → Type 0
EachKind said = said five × said seven × said nine

-- The parts on visits are named by the circuit, then the line or its pin and the level at which it is stuck.
pub record KnownAnswers : Type 0 where
  -- the answers of the kinds on values
  pub values : KnownValues
  -- absorbing, s stuck at 0: nine x1; seven and five 01
  pub absorbing_s_0_nine : answer nine absorbing (fault 1 0 false) plenty ≡ fewest 2 2 7
  pub absorbing_s_0_seven : answer seven absorbing (fault 1 0 false) plenty ≡ fewest 3 2 7
  pub absorbing_s_0_five : answer five absorbing (fault 1 0 false) plenty ≡ fewest 3 2 7
  -- absorbing, s stuck at 1: nine and seven x0; five 00
  pub absorbing_s_1_nine : answer nine absorbing (fault 1 0 true) plenty ≡ fewest 2 0 5
  pub absorbing_s_1_seven : answer seven absorbing (fault 1 0 true) plenty ≡ fewest 2 0 5
  pub absorbing_s_1_five : answer five absorbing (fault 1 0 true) plenty ≡ fewest 3 0 6
  -- absorbing, the second operand of y stuck at 0: nine 01
  pub absorbing_y_2_0_nine : answer nine absorbing (fault 3 2 false) plenty ≡ fewest 3 2 7
  -- masking, p stuck at 0: no vector detects it
  pub masking_p_0 : EachKind (λ K. answer K masking (fault 2 0 false) plenty ≡ Redundant 5)
  -- multiplexer, s stuck at 0: 011, and the budgets before that
  pub multiplexer_s_0 : EachKind (λ K. answer K multiplexer (fault 2 0 false) plenty ≡ fewest 7 6 21)
  pub multiplexer_s_0_in_5 : EachKind (λ K. answer K multiplexer (fault 2 0 false) 5 ≡ Spent None 5)
  pub multiplexer_s_0_in_6 : EachKind (λ K. answer K multiplexer (fault 2 0 false) 6 ≡ Spent (Some (cube 7 6)) 6)
  pub multiplexer_s_0_in_20 : EachKind (λ K. answer K multiplexer (fault 2 0 false) 20 ≡ Spent (Some (cube 7 6)) 20)
  -- the blank circuit, a stuck at 0 and at 1
  pub blank_a_0 : EachKind (λ K. answer K blank (fault 0 0 false) plenty ≡ fewest 1 1 3)
  pub blank_a_1 : EachKind (λ K. answer K blank (fault 0 0 true) plenty ≡ fewest 1 0 2)
