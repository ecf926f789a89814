-- The row and the socket that a caller lends to a call that simulates: what the row must have, and what the call does to both,
-- granted or refused.
use Rattle.std.specs.Prelude.{◌≡◌, ◌≤◌, List, length, None, Result, MatchResult}
use Rattle.circuit.specs.Model.{Circuit, line_count}
use Rattle.simulator.specs.declared.socket.Socket.{Socket}

-- The row has a place for each line of the circuit.
abbrev pub HasRoom : {V : Type 0} → Circuit → List V → Type 0
HasRoom c row = line_count c ≤ length row

-- The row keeps its length, though its values may be others; and refused, it is as it was.
abbrev pub RowKept : {X E V : Type 0} → Result X E → List V → List V → Type 0
RowKept r before after = MatchResult r (λ _. length after ≡ length before) (λ _. after ≡ before)

-- The socket is empty; and refused, it is as it was.
abbrev pub SocketEmptied : {X E : Type 0} → Result X E → Socket → Socket → Type 0
SocketEmptied r before after = MatchResult r (λ _. after.fault ≡ None) (λ _. after ≡ before)

-- A socket that was empty is empty; and refused, it is as it was.
abbrev pub SocketStaysEmpty : {X E : Type 0} → Result X E → Socket → Socket → Type 0
SocketStaysEmpty r before after = MatchResult r (λ _. before.fault ≡ None → after.fault ≡ None) (λ _. after ≡ before)
