-- One relation between two readings of a circuit: what gates and pins keep, every line keeps.
use Rattle.std.proofs.Common.{◌≡◌, ℕ, zero, suc, ◌+◌, ◌<◌, Bool, true, false, cond, ◌&&◌, eqb, List, [], ◌∷◌, length, get_or, Some, None, fold, Option, sym, subst, arith}
use Rattle.std.specs.List.{AllZip}
use Rattle.std.proofs.lemmas.Slice.Zip.{all_zipped_more, AllZip-long}
use Rattle.values.specs.Values.{Gates, Values}
use Rattle.circuit.specs.declared.op.Op.{Op}
use Rattle.circuit.specs.declared.op.Op.TheVariants.{And, Nand, Or, Nor, Xor, Xnor, Not, Buf}
use Rattle.circuit.specs.Model.{Gate, Circuit}
use Rattle.faults.specs.declared.fault.Fault.{Fault}
use Rattle.simulator.specs.Lines.{at_pin, join, negated_by, joined, line_value, operands_from, gate_value, gates_after, inputs_row, lines}

-- what gates make of related values is related
pub record KeepsGates {V W : Type 0} (G : Gates V) (H : Gates W) (R : V → W → Type 0) : Type 0 where
  pub known : (b : Bool) → R (G.known b) (H.known b)
  pub negate : (x : V) (y : W) → R x y → R (G.negate x) (H.negate y)
  pub both : (x u : V) (y w : W) → R x y → R u w → R (G.both x u) (H.both y w)
  pub either : (x u : V) (y w : W) → R x y → R u w → R (G.either x u) (H.either y w)
  pub differ : (x u : V) (y w : W) → R x y → R u w → R (G.differ x u) (H.differ y w)

-- what a fault in one reading, and a fault or none in the other, make of related values is related
abbrev pub KeepsPins : {V W : Type 0} → Values V → Values W → Option Fault → Option Fault → (V → W → Type 0) → Type 0
KeepsPins {V} {W} A B f g R = (line pin : ℕ) (x : V) (y : W) → R x y → R (at_pin A f line pin x) (at_pin B g line pin y)

-- so it is where both readings have one fault, and sticking keeps the relation
pub stuck_keeps : {V W : Type 0} (A : Values V) (B : Values W) (R : V → W → Type 0)
    → ((v : Bool) (x : V) (y : W) → R x y → R (A.stick v x) (B.stick v y)) → (f : Option Fault) → KeepsPins A B f f R
stuck_keeps A B R k None line pin x y r = r
stuck_keeps A B R k (Some f) line pin x y r = go (eqb f.line line && eqb f.pin pin)
  where
    go : (b : Bool) → R (cond b (A.stick f.level x) x) (cond b (B.stick f.level y) y)
    go true = k f.level x y r
    go false = r

-- rows that are related place by place are so at each line, given the relation for lines that they lack
pub rows_at : {V W : Type 0} (R : V → W → Type 0) (xs : List V) (ys : List W) (d : V) (e : W) (i : ℕ) → AllZip R xs ys → R d e → R (get_or xs i d) (get_or ys i e)
rows_at R [] [] d e i r h = h
rows_at R [] (z ∷ ys) d e i r h = absurd r
rows_at R (z ∷ xs) [] d e i r h = absurd r
rows_at R (z ∷ xs) (w ∷ ys) d e zero r h = r.0
rows_at R (z ∷ xs) (w ∷ ys) d e (suc i) r h = rows_at R xs ys d e i r.1 h

-- what gates make of related operands is related
module _ {V W : Type 0} (G : Gates V) (H : Gates W) (R : V → W → Type 0) (k : KeepsGates G H R) where
  join_keeps : (op : Op) (x u : V) (y w : W) → R x y → R u w → R (join G op x u) (join H op y w)
  join_keeps And = k.both
  join_keeps Nand = k.both
  join_keeps Or = k.either
  join_keeps Nor = k.either
  join_keeps Xor = k.differ
  join_keeps Xnor = k.differ
  join_keeps Not = λ x u y w r s. r
  join_keeps Buf = λ x u y w r s. r

  negated_keeps : (op : Op) (x : V) (y : W) → R x y → R (negated_by G op x) (negated_by H op y)
  negated_keeps And = λ x y r. r
  negated_keeps Nand = k.negate
  negated_keeps Or = λ x y r. r
  negated_keeps Nor = k.negate
  negated_keeps Xor = λ x y r. r
  negated_keeps Xnor = k.negate
  negated_keeps Not = k.negate
  negated_keeps Buf = λ x y r. r

  folded_keeps : (op : Op) (x : V) (y : W) (xs : List V) (ys : List W) → R x y → AllZip R xs ys
      → R (fold (join G op) x xs) (fold (join H op) y ys)
  folded_keeps op x y [] [] r rs = r
  folded_keeps op x y [] (w ∷ ys) r rs = absurd rs
  folded_keeps op x y (u ∷ xs) [] r rs = absurd rs
  folded_keeps op x y (u ∷ xs) (w ∷ ys) r rs = folded_keeps op (join G op x u) (join H op y w) xs ys (join_keeps op x u y w r rs.0) rs.1

  joined_keeps : (op : Op) (xs : List V) (ys : List W) → AllZip R xs ys → R (joined G op xs) (joined H op ys)
  joined_keeps op [] [] r = k.known false
  joined_keeps op [] (w ∷ ys) r = absurd r
  joined_keeps op (u ∷ xs) [] r = absurd r
  joined_keeps op (u ∷ xs) (w ∷ ys) r = folded_keeps op u w xs ys r.0 r.1

  -- the operands joined, and negated if the operator negates
  pub worked_keeps : (op : Op) (xs : List V) (ys : List W) → AllZip R xs ys → R (negated_by G op (joined G op xs)) (negated_by H op (joined H op ys))
  worked_keeps op xs ys r = negated_keeps op _ _ (joined_keeps op xs ys r)

-- operands whose pins are related one by one, the first of which has that number
pub operands_relate : {V W : Type 0} (A : Values V) (B : Values W) (f g : Option Fault) (R : V → W → Type 0) (xs : List V) (ys : List W) (line first : ℕ) (os : List ℕ)
    → ((i pin : ℕ) → i < length os → pin ≡ first + i → R (at_pin A f line pin (line_value A xs (get_or os i 0))) (at_pin B g line pin (line_value B ys (get_or os i 0))))
    → AllZip R (operands_from A f xs line first os) (operands_from B g ys line first os)
operands_relate A B f g R xs ys line first [] h = tt
operands_relate A B f g R xs ys line first (o ∷ os) h =
    (h 0 first (omega arith) (omega arith), operands_relate A B f g R xs ys line (first + 1) os (λ i pin below is. h (suc i) pin (omega (arith, below)) (omega (arith, is))))

-- readings whose gates and pins keep a relation
module _ {V W : Type 0} (A : Values V) (B : Values W) (f g : Option Fault) (R : V → W → Type 0) (k : KeepsGates A.gates B.gates R)
    (p : KeepsPins A B f g R) where
  operands_keep : (xs : List V) (ys : List W) (line pin : ℕ) (os : List ℕ) → AllZip R xs ys
      → AllZip R (operands_from A f xs line pin os) (operands_from B g ys line pin os)
  operands_keep xs ys line pin os r =
      operands_relate A B f g R xs ys line pin os (λ i n below is. p line n _ _ (rows_at R xs ys _ _ (get_or os i 0) r (k.known false)))

  gate_keeps : (xs : List V) (ys : List W) (gate : Gate) → AllZip R xs ys → R (gate_value A f xs gate) (gate_value B g ys gate)
  gate_keeps xs ys gate r =
      subst (λ (n : ℕ). R (gate_value A f xs gate) (at_pin B g n 0 (negated_by B.gates gate.op (joined B.gates gate.op (operands_from B g ys n 1 gate.operands)))))
      (sym (AllZip-long R xs ys r))
      (p (length xs) 0 _ _ (worked_keeps A.gates B.gates R k gate.op _ _ (operands_keep xs ys (length xs) 1 gate.operands r)))

  gates_keep : (gs : List Gate) (xs : List V) (ys : List W) → AllZip R xs ys → AllZip R (gates_after A f xs gs) (gates_after B g ys gs)
  gates_keep [] xs ys r = r
  gates_keep (gate ∷ gs) xs ys r = gates_keep gs _ _ (all_zipped_more R xs ys _ _ r (gate_keeps xs ys gate r))

  inputs_keep : (a : ℕ → V) (b : ℕ → W) (n : ℕ) → ((i : ℕ) → i < n → R (a i) (b i)) → AllZip R (inputs_row A f a n) (inputs_row B g b n)
  inputs_keep a b zero h = tt
  inputs_keep a b (suc n) h =
      all_zipped_more R (inputs_row A f a n) (inputs_row B g b n) _ _ (inputs_keep a b n (λ i l. h i (omega arith))) (p n 0 _ _ (h n (omega arith)))

  -- every line keeps what the inputs have
  pub lines_keep : (c : Circuit) (a : ℕ → V) (b : ℕ → W) → ((i : ℕ) → i < length c.inputs → R (a i) (b i)) → AllZip R (lines A c f a) (lines B c g b)
  lines_keep c a b h = gates_keep c.gates _ _ (inputs_keep a b (length c.inputs) h)

  pub line_keeps : (c : Circuit) (a : ℕ → V) (b : ℕ → W) → ((i : ℕ) → i < length c.inputs → R (a i) (b i)) → (d : V) (e : W) → R d e → (line : ℕ)
      → R (get_or (lines A c f a) line d) (get_or (lines B c g b) line e)
  line_keeps c a b h d e r line = rows_at R _ _ d e line (lines_keep c a b h) r
