-- The operators of gates: their names, and how many operands each takes.
use Rattle.std.specs.Prelude.{◌≡◌, ◌≢◌, ℕ, cond, List, Some, None, codes, Option, Result, MatchResult}
use Rattle.std.specs.Str.{bytes_eq}
use Rattle.circuit.specs.declared.op.Op.{Op}
use Rattle.words.specs.declared.no_such_name.NoSuchName.{NoSuchName}
use Rattle.circuit.specs.declared.op.Op.TheVariants.{And, Nand, Or, Nor, Xor, Xnor, Not, Buf}

abbrev pub op_named : List ℕ → Option Op
op_named word =
    cond (bytes_eq word (codes "and")) (Some And)
    (cond (bytes_eq word (codes "nand")) (Some Nand)
    (cond (bytes_eq word (codes "or")) (Some Or)
    (cond (bytes_eq word (codes "nor")) (Some Nor)
    (cond (bytes_eq word (codes "xor")) (Some Xor)
    (cond (bytes_eq word (codes "xnor")) (Some Xnor)
    (cond (bytes_eq word (codes "not")) (Some Not)
    (cond (bytes_eq word (codes "buf")) (Some Buf) None)))))))

-- the name of an operator
abbrev pub op_word : Op → List ℕ
op_word And = codes "and"
op_word Nand = codes "nand"
op_word Or = codes "or"
op_word Nor = codes "nor"
op_word Xor = codes "xor"
op_word Xnor = codes "xnor"
op_word Not = codes "not"
op_word Buf = codes "buf"

-- the result is the operator that has the word for its name, or an error where none has
abbrev pub Named : List ℕ → Result Op NoSuchName → Type 0
Named word r =
    MatchResult r (λ op. (op_named word ≡ Some op) × (word ≡ op_word op))
    (λ _. (op_named word ≡ None) × ((op : Op) → word ≢ op_word op))

abbrev pub fewest_operands : Op → ℕ
fewest_operands And = 2
fewest_operands Nand = 2
fewest_operands Or = 2
fewest_operands Nor = 2
fewest_operands Xor = 2
fewest_operands Xnor = 2
fewest_operands Not = 1
fewest_operands Buf = 1

abbrev pub most_operands : Op → ℕ
most_operands And = 8
most_operands Nand = 8
most_operands Or = 8
most_operands Nor = 8
most_operands Xor = 8
most_operands Xnor = 8
most_operands Not = 1
most_operands Buf = 1
