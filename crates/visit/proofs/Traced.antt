-- What is owed where there is a trace.
use Rattle.std.proofs.Common.{Option, Some, None}
use Rattle.visit.specs.declared.trace.Trace.{Trace}
use Rattle.visit.specs.Traces.{WhereTraced}

-- what holds is owed by nobody
pub where_traced : {A : Type 0} (t : Option Trace) → A → WhereTraced t A
where_traced None a = tt
where_traced (Some t) a = a
