-- The rules that every circuit keeps.
use Rattle.std.specs.Prelude.{ℕ, ◌+◌, Bool, true, not, ◌&&◌, List, [], ◌∷◌, ◌++◌, length, is_some, Some, None, Option, nat_eq, nat_le, nat_lt}
use Rattle.std.specs.List.{list_all, list_any}
use Rattle.circuit.specs.Ops.{fewest_operands, most_operands}
use Rattle.circuit.specs.Model.{Gate, Circuit, line_count, names, line_named}

-- each element stands rightly after those before it
abbrev pub each_after : {X : Type 0} → (List X → X → Bool) → List X → List X → Bool
each_after right before [] = true
each_after right before (x ∷ xs) = right before x && each_after right (before ++ (x ∷ [])) xs

abbrev pub between : ℕ → ℕ → ℕ → Bool
between low high n = nat_le low n && nat_le n high

-- a gate with that number has as many operands as its operator takes, and reads only lines with lower numbers
abbrev pub gate_fits : ℕ → Gate → Bool
gate_fits line g =
    between (fewest_operands g.op) (most_operands g.op) (length g.operands) && list_all (λ (o : ℕ). nat_lt o line) g.operands

-- a name that no line before it has, or none
abbrev pub unclaimed : List (Option (List ℕ)) → Option (List ℕ) → Bool
unclaimed before None = true
unclaimed before (Some name) = not (is_some (line_named before name))

-- an output that is a line, and not listed before
abbrev pub new_output : ℕ → List ℕ → ℕ → Bool
new_output lines before o = nat_lt o lines && not (list_any (nat_eq o) before)

-- 1 to 64 inputs, at most 512 lines, 1 to 64 outputs; gates that fit; no name twice; no output twice
abbrev pub lawful : Circuit → Bool
lawful c =
    between 1 64 (length c.inputs)
    && (nat_le (line_count c) 512
    && (between 1 64 (length c.outputs)
    && (each_after (λ (before : List Gate). gate_fits (length c.inputs + length before)) [] c.gates
    && (each_after unclaimed [] (names c)
    && each_after (new_output (line_count c)) [] c.outputs))))
