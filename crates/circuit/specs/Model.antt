-- Circuits as the definitions speak of them: lists, with names as their bytes.
use Rattle.std.specs.Prelude.{ℕ, suc, ◌+◌, ◌-◌, Bool, false, cond, List, [], ◌∷◌, ◌++◌, map, length, Some, None, Option, nat_lt}
use Rattle.std.specs.Option.{option_map}
use Rattle.std.specs.List.{slice_get}
use Rattle.std.specs.Str.{bytes_eq}
use Rattle.circuit.specs.declared.op.Op.{Op}

-- A gate reads lines by their numbers; one that was written inside another has no name.
pub record Gate : Type 0 where
  pub name : Option (List ℕ)
  pub op : Op
  pub operands : List ℕ

-- Lines are numbered from 0: the inputs in order, then the gates in order. An output is the number of a line.
pub record Circuit : Type 0 where
  pub inputs : List (List ℕ)
  pub gates : List Gate
  pub outputs : List ℕ

abbrev pub line_count : Circuit → ℕ
line_count c = length c.inputs + length c.gates

-- the names of the lines, in the order of the lines
abbrev pub names : Circuit → List (Option (List ℕ))
names c = map Some c.inputs ++ map (λ (g : Gate). g.name) c.gates

abbrev pub has_name : List ℕ → Option (List ℕ) → Bool
has_name word None = false
has_name word (Some name) = bytes_eq name word

-- the number of the first line that has the name
abbrev pub line_named : List (Option (List ℕ)) → List ℕ → Option ℕ
line_named [] word = None
line_named (name ∷ rest) word = cond (has_name word name) (Some 0) (option_map suc (line_named rest word))

-- the gate whose line has that number
abbrev pub gate_at : Circuit → ℕ → Option Gate
gate_at c line = cond (nat_lt line (length c.inputs)) None (slice_get c.gates (line - length c.inputs))

-- how many operands a gate has, if there is one
abbrev pub operands_of : Option Gate → ℕ
operands_of None = 0
operands_of (Some g) = length g.operands

-- how many operands the gate of a line has; an input has none
abbrev pub operand_count : Circuit → ℕ → ℕ
operand_count c line = operands_of (gate_at c line)

-- one input, named a, which is the output
abbrev pub blank : Circuit
blank = record { inputs = (97 ∷ []) ∷ []; gates = []; outputs = 0 ∷ [] }
