-- Of what circuit and fault a trace is.
use Rattle.std.specs.Prelude.{◌≡◌, Option, Some, None}
use Rattle.circuit.specs.Model.{Circuit}
use Rattle.faults.specs.declared.fault.Fault.{Fault}
use Rattle.simulator.specs.Reach.{UnseenFrom}
use Rattle.visit.specs.declared.trace.Trace.{Trace}

-- a trace, where there is one, is of that circuit, with that fault injected
abbrev pub Traces : Circuit → Option Fault → Option Trace → Type 0
Traces c f trace = (t : Trace) → trace ≡ Some t → (t.fanout.now.circuit.now ≡ c) × UnseenFrom c f t.end

-- what is owed where there is a trace
abbrev pub WhereTraced : Option Trace → Type 0 → Type 0
WhereTraced None owed = Unit {0}
WhereTraced (Some t) owed = owed
