use Rattle.std.proofs.Common.{◌≡◌, ◌≤◌, ◌++◌, map, None, take, drop}
use Rattle.std.specs.List.{count_by}
use Rattle.folder.specs.Covering.{is_covered, marked}
use Rattle.folder.proofs.cover.Covering.mark_all.Given as goal

-- the entries so far are marked and counted, the others are as they were
abbrev pub invariant-loop-entry : goal.invariant-loop-entry
invariant-loop-entry g l =
    let K = g.V.ValueKind.kind in
    let c = l.self.circuit.now in
    let i = l.entry-index in
    let before = l.initial.entries in
    record {
      marks : l.entries ≡ map (marked K c l.self.number l.self.cube) (take i before) ++ drop i before;
      counted : l.count ≡ count_by (is_covered K c l.self.cube) (take i before);
      few : l.count ≤ i;
      socket : l.initial.socket.fault ≡ None → l.socket.fault ≡ None;
    }
