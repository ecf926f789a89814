-- The levels of the lines are those of two-valued logic.
use Rattle.std.proofs.Common.{◌≡◌, ℕ, zero, suc, ◌+◌, ◌-◌, ◌%◌, ◌<◌, ◌≤◌, ◌==◌, Bool, true, false, not, ◌&&◌, ◌||◌, cond, List, [], ◌∷◌, length, take, get_or, leb, fold, count_by, Option, lit≤, sym, refl, ap, ◌∙◌, inl, inr, arith}
use Rattle.std.proofs.lemmas.Bool.{cases_lt, and_parts, leb-true}
use Rattle.std.proofs.lemmas.List.Sums.{sum_by-cons}
use Rattle.std.proofs.lemmas.List.{get_or-take, length-take-le, ext_get_or}
use Rattle.values.specs.Values.{levels, faulty_levels, differs}
use Rattle.circuit.specs.declared.op.Op.{Op}
use Rattle.circuit.specs.declared.op.Op.TheVariants.{And, Nand, Or, Nor, Xor, Xnor, Not, Buf}
use Rattle.circuit.specs.Ops.{fewest_operands, most_operands}
use Rattle.circuit.specs.Model.{Gate, Circuit, line_count}
use Rattle.circuit.specs.Lawful.{between, gate_fits, lawful}
use Rattle.faults.specs.declared.fault.Fault.{Fault}
use Rattle.simulator.specs.Lines.{at_pin, join, joined, negated_by, operands_from}
use Rattle.simulator.specs.Detection.{bit, levels_under}
use Rattle.simulator.specs.Logic.{each_is_1, some_is_1, odd_are_1, operator_level, gate_of, Obeys, LevelsAreLogic}
use Rattle.simulator.proofs.Lines.{operands_same, operands_below, gates_fit, lines_long, lines_input, gate_line}

-- Levels joined two at a time, by any function that does what the operator does.
and_three : (x y z : Bool) → ((x && y) && z) ≡ (x && (y && z))
and_three true y z = refl
and_three false y z = refl

or_three : (x y z : Bool) → ((x || y) || z) ≡ (x || (y || z))
or_three true y z = refl
or_three false y z = refl

joined_all : (j : Bool → Bool → Bool) → ((x y : Bool) → j x y ≡ (x && y)) → (x : Bool) (xs : List Bool) → fold j x xs ≡ each_is_1 (x ∷ xs)
joined_all j is true [] = refl
joined_all j is false [] = refl
joined_all j is x (y ∷ ys) = joined_all j is (j x y) ys ∙ ap (λ (b : Bool). b && each_is_1 ys) (is x y) ∙ and_three x y (each_is_1 ys)

joined_some : (j : Bool → Bool → Bool) → ((x y : Bool) → j x y ≡ (x || y)) → (x : Bool) (xs : List Bool) → fold j x xs ≡ some_is_1 (x ∷ xs)
joined_some j is true [] = refl
joined_some j is false [] = refl
joined_some j is x (y ∷ ys) = joined_some j is (j x y) ys ∙ ap (λ (b : Bool). b || some_is_1 ys) (is x y) ∙ or_three x y (some_is_1 ys)

-- how much an operand counts
abbrev one_if : Bool → ℕ
one_if b = cond b 1 0

-- how many operands are 1
abbrev ones : List Bool → ℕ
ones xs = count_by (λ (x : Bool). x) xs

abbrev odd : ℕ → Bool
odd n = n % 2 == 1

odd_three : (x y : Bool) (n : ℕ) → odd (one_if (differs x y) + n) ≡ odd (one_if x + (one_if y + n))
odd_three true true n = ap (λ (m : ℕ). m == 1) (omega arith)
odd_three true false n = ap (λ (m : ℕ). m == 1) (omega arith)
odd_three false true n = ap (λ (m : ℕ). m == 1) (omega arith)
odd_three false false n = ap (λ (m : ℕ). m == 1) (omega arith)

-- one operand more
odd_more : (x : Bool) (xs : List Bool) → odd_are_1 (x ∷ xs) ≡ odd (one_if x + ones xs)
odd_more x xs = ap odd (sum_by-cons one_if x xs)

joined_odd : (j : Bool → Bool → Bool) → ((x y : Bool) → j x y ≡ differs x y) → (x : Bool) (xs : List Bool) → fold j x xs ≡ odd_are_1 (x ∷ xs)
joined_odd j is true [] = refl
joined_odd j is false [] = refl
joined_odd j is x (y ∷ ys) =
    joined_odd j is (j x y) ys
    ∙ odd_more (j x y) ys
    ∙ ap (λ (b : Bool). odd (one_if b + ones ys)) (is x y)
    ∙ odd_three x y (ones ys)
    ∙ ap (λ (n : ℕ). odd (one_if x + n)) (sym (sum_by-cons one_if y ys))
    ∙ sym (odd_more x (y ∷ ys))

-- one operand alone
alone : (x : Bool) → x ≡ each_is_1 (x ∷ [])
alone true = refl
alone false = refl

-- each operator takes an operand
takes_some : (op : Op) → 1 ≤ fewest_operands op
takes_some And = lit≤ tt
takes_some Nand = lit≤ tt
takes_some Or = lit≤ tt
takes_some Nor = lit≤ tt
takes_some Xor = lit≤ tt
takes_some Xnor = lit≤ tt
takes_some Not = lit≤ tt
takes_some Buf = lit≤ tt

-- as many operands as an operator takes
abbrev Takes : Op → List Bool → Type 0
Takes op xs = between (fewest_operands op) (most_operands op) (length xs) ≡ true

at_least : (op : Op) (xs : List Bool) → Takes op xs → fewest_operands op ≤ length xs
at_least op xs h = leb-true _ _ (and_parts (leb (fewest_operands op) (length xs)) (leb (length xs) (most_operands op)) h).0

at_most : (op : Op) (xs : List Bool) → Takes op xs → length xs ≤ most_operands op
at_most op xs h = leb-true _ _ (and_parts (leb (fewest_operands op) (length xs)) (leb (length xs) (most_operands op)) h).1

-- with as many operands as it takes, an operator comes to its level
operator_is : (op : Op) (xs : List Bool) → Takes op xs → negated_by levels op (joined levels op xs) ≡ operator_level op xs
operator_is op [] h = absurd (omega (arith, takes_some op, at_least op [] h))
operator_is And (x ∷ xs) h = joined_all (join levels And) (λ a b. refl) x xs
operator_is Nand (x ∷ xs) h = ap not (joined_all (join levels Nand) (λ a b. refl) x xs)
operator_is Or (x ∷ xs) h = joined_some (join levels Or) (λ a b. refl) x xs
operator_is Nor (x ∷ xs) h = ap not (joined_some (join levels Nor) (λ a b. refl) x xs)
operator_is Xor (x ∷ xs) h = joined_odd (join levels Xor) (λ a b. refl) x xs
operator_is Xnor (x ∷ xs) h = ap not (joined_odd (join levels Xnor) (λ a b. refl) x xs)
operator_is Not (x ∷ []) h = ap not (alone x)
operator_is Not (x ∷ y ∷ ys) h = absurd (omega (arith, at_most Not (x ∷ y ∷ ys) h))
operator_is Buf (x ∷ []) h = alone x
operator_is Buf (x ∷ y ∷ ys) h = absurd (omega (arith, at_most Buf (x ∷ y ∷ ys) h))

-- as many pins are read as there are operands
operands_long : (f : Option Fault) (row : List Bool) (line pin : ℕ) (os : List ℕ) → length (operands_from faulty_levels f row line pin os) ≡ length os
operands_long f row line pin [] = refl
operands_long f row line pin (o ∷ os) = ap (λ (n : ℕ). suc n) (operands_long f row line (pin + 1) os)

-- what an operator makes of the levels at its pins
abbrev level_of : Option Fault → List Bool → ℕ → Gate → Bool
level_of f row line g = at_pin faulty_levels f line 0 (operator_level g.op (operands_from faulty_levels f row line 1 g.operands))

module _ (c : Circuit) (rules : lawful c ≡ true) (f : Option Fault) (v : ℕ) where
  abbrev row : List Bool
  row = levels_under c f v

  -- the line of a gate has the level that its operator makes of the lines that it reads
  gate_level : (k line : ℕ) → line ≡ length c.inputs + k → k < length c.gates → gate_fits line (gate_of c k) ≡ true → get_or row line false ≡ level_of f row line (gate_of c k)
  gate_level k line is h fits =
      let g : Gate = gate_of c k in
      let front : List Bool = take line row in
      let long : length front ≡ line = length-take-le line row (omega (arith, is, h, lines_long faulty_levels f (bit v) c)) in
      let same : operands_from faulty_levels f front line 1 g.operands ≡ operands_from faulty_levels f row line 1 g.operands =
      operands_same faulty_levels f front row line 1 g.operands (λ i d inside. get_or-take line row (get_or g.operands i d) false (operands_below line g fits i d inside)) in
      let takes : Takes g.op (operands_from faulty_levels f row line 1 g.operands) =
      ap (between (fewest_operands g.op) (most_operands g.op)) (operands_long f row line 1 g.operands)
      ∙ (and_parts (between (fewest_operands g.op) (most_operands g.op) (length g.operands)) _ fits).0 in
      gate_line faulty_levels f (bit v) c k line false is h
      ∙ ap (λ (n : ℕ). at_pin faulty_levels f n 0 (negated_by levels g.op (joined levels g.op (operands_from faulty_levels f front n 1 g.operands)))) long
      ∙ ap (λ (xs : List Bool). at_pin faulty_levels f line 0 (negated_by levels g.op (joined levels g.op xs))) same
      ∙ ap (at_pin faulty_levels f line 0) (operator_is g.op (operands_from faulty_levels f row line 1 g.operands) takes)

  obeys : Obeys c f v row
  obeys = record {
    long = lines_long faulty_levels f (bit v) c;
    inputs = λ i h. lines_input faulty_levels f (bit v) c i false h;
    gates = λ k h. gate_level k (length c.inputs + k) refl h (gates_fit c rules k h);
  }

  module _ (other : List Bool) (o : Obeys c f v other) where
    -- a line below a bound has one level only, since the lines that it reads have
    one_level : (bound line : ℕ) → line < bound → line < line_count c → get_or other line false ≡ get_or row line false
    one_level zero line low inside = absurd (omega (arith, low))
    one_level (suc bound) line low inside = elim (cases_lt line (length c.inputs)) [
      | inl input ↦ o.inputs line input ∙ sym (obeys.inputs line input)
      | inr behind ↦
          let k : ℕ = line - length c.inputs in
          let is : length c.inputs + k ≡ line = omega (arith, behind) in
          let gate : k < length c.gates = omega (arith, is, inside) in
          let g : Gate = gate_of c k in
          ap (λ (n : ℕ). get_or other n false) (sym is)
          ∙ o.gates k gate
          ∙ ap (λ (xs : List Bool). at_pin faulty_levels f (length c.inputs + k) 0 (operator_level g.op xs))
          (operands_same faulty_levels f other row (length c.inputs + k) 1 g.operands (λ i d read.
          let below : get_or g.operands i d < length c.inputs + k = operands_below (length c.inputs + k) g (gates_fit c rules k gate) i d read in
          one_level bound (get_or g.operands i d) (omega (arith, below, is, low)) (omega (arith, below, is, inside))))
          ∙ sym (obeys.gates k gate)
          ∙ ap (λ (n : ℕ). get_or row n false) is
    ]

    one_row : other ≡ row
    one_row = ext_get_or false other row (o.long ∙ sym obeys.long) (λ i h. one_level (i + 1) i (omega arith) (omega (arith, h, o.long)))

pub levels_are_logic : LevelsAreLogic
levels_are_logic c rules f v = (obeys c rules f v, λ row o. one_row c rules f v row o)
