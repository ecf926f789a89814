use Rattle.std.proofs.Common.{◌≡◌, ℕ, ◌<◌, ◌≤◌, ◌&&◌, max, false, ltb, List, ◌⊎◌, length, map, get_or, take, Some, Option, sym, ap, subst, ◌∙◌, inl, inr, arith}
use Rattle.std.specs.List.{list_any}
use Rattle.std.proofs.lemmas.Bool.{cases_lt}
use Rattle.std.proofs.lemmas.Grind.{common_steps}
use Rattle.std.proofs.lemmas.Slice.{drop-append-drop}
use Rattle.std.proofs.lemmas.List.{length-map, length-take-le}
use Rattle.values.specs.Pairs.{shows}
use Rattle.circuit.specs.Model.{line_count}
use Rattle.faults.specs.declared.fault.Fault.{Fault}
use Rattle.simulator.specs.Detection.{input_value, simulated, set_of, detected}
use Rattle.simulator.specs.Excitation.{excited}
use Rattle.simulator.specs.Resimulation.{Traced}
use Rattle.simulator.specs.Reach.{UnseenFrom}
use Rattle.simulator.proofs.Lines.{lines_long}
use Rattle.simulator.proofs.Rules.{outputs_below, row_has_room}
use Rattle.simulator.proofs.Reaching.{shown_before, shown_if_before, shows_nothing_without}
use Rattle.simulator.proofs.Exciting.{unexcited_shows_nothing, excited_by_front, lacking_unexcited}
use Rattle.simulator.proofs.Resimulating.{retraced, traced_before}
use Rattle.simulator.proofs.resimulation.reshows.Goals as goal

-- there is no fault
pub returns-in_default-clause-detected : goal.returns-in_default-clause-detected
returns-in_default-clause-detected g c = λ b is holds right.
    let v = g.V.ValueKind in
    let circuit = c.args.fanout.now.circuit.now in
    let one : b ≡ false = cc in
    one
    ∙ sym (shows_nothing_without v.kind v.family g.met.V.ValueKind.lawful circuit c.args.cube)
    ∙ ap (λ (f : Option Fault). detected v.kind circuit f c.args.cube) (sym c.in_default.is)

-- it is at a line that the circuit lacks
pub returns-then-line-row-clause-detected : goal.returns-then-line-row-clause-detected
returns-then-line-row-clause-detected g c = λ b is holds right.
    let v = g.V.ValueKind in
    let fanout = c.args.fanout.now in
    let circuit = fanout.circuit.now in
    let fault = c.in-Some.fault in
    let long : length (simulated v.kind circuit (Some fault) c.args.cube) ≡ line_count circuit = lines_long v.kind.values (Some fault) (input_value v.kind c.args.cube) circuit in
    let room : line_count circuit ≤ length c.args.row.now = row_has_room circuit c.args.cube (length c.args.row.now) c.in_ok-allow_simulation.ensures in
    let past : line_count circuit ≤ fault.line = omega (arith, c.if-line-row.true, c.line.ensures, c.line_count.ensures, room, length-take-le c.line_count.result c.args.row.now (omega (arith, room, c.line_count.ensures))) in
    let one : b ≡ false = cc in
    one
    ∙ sym (unexcited_shows_nothing v.kind v.family g.met.V.ValueKind.lawful circuit fanout.rules fault c.args.cube
    (lacking_unexcited v.kind circuit fault (simulated v.kind circuit (Some fault) c.args.cube) long past))
    ∙ ap (λ (f : Option Fault). detected v.kind circuit f c.args.cube) (sym c.in-Some.is)

-- it is not excited
pub returns-then-not-is_excited-clause-detected : goal.returns-then-not-is_excited-clause-detected
returns-then-not-is_excited-clause-detected g c = λ b is holds right.
    let v = g.V.ValueKind in
    let fanout = c.args.fanout.now in
    let circuit = fanout.circuit.now in
    let fault = c.in-Some.fault in
    let cube = c.args.cube in
    let lines = c.line_count.result in
    let behind = c.max-behind.result in
    let sets = simulated v.kind circuit (Some fault) cube in
    let rows = map v.meaning c.resettle.new.row in
    let room : line_count circuit ≤ length c.args.row.now = row_has_room circuit cube (length c.args.row.now) c.in_ok-allow_simulation.ensures in
    let first_long : length (take lines c.args.row.now) ≡ line_count circuit =
    length-take-le lines c.args.row.now (omega (arith, room, c.line_count.ensures)) ∙ c.line_count.ensures in
    let long : length c.resettle.new.row ≡ line_count circuit = c.resettle.ensures.0 ∙ c.redrive-waiting.ensures.0 ∙ first_long in
    let held : map v.meaning (take lines c.args.row.now) ≡ simulated v.kind circuit (Some fault) c.args.before =
    ap (λ (n : ℕ). map v.meaning (take n c.args.row.now)) c.line_count.ensures ∙ holds ∙ ap (λ (f : Option Fault). simulated v.kind circuit f c.args.before) c.in-Some.is in
    let traced =
    retraced v.kind v.meaning circuit (Some fault) c.args.before cube fanout.inputs behind c.redrive-waiting.result c.resettle.new.waiting (take lines c.args.row.now) c.redrive-waiting.new.row c.resettle.new.row
    fanout.inputs_are held c.redrive-waiting.ensures c.resettle.ensures in
    let alike : (o : ℕ) → o ≤ fault.line → set_of rows o ≡ set_of sets o = λ o low.
    traced_before v.kind v.meaning circuit (Some fault) c.args.before cube fanout.readers.now fanout.complete (max fanout.inputs behind) o c.resettle.new.waiting c.resettle.new.row
    (omega (arith, low, c.max-behind.ensures, c.line-2.ensures))
    (omega (arith, c.max-behind.ensures, c.line-2.ensures, c.line.ensures, c.if-line-row.false, first_long, fanout.inputs_are)) traced in
    let sets_long : length sets ≡ length rows = lines_long v.kind.values (Some fault) (input_value v.kind cube) circuit ∙ sym (length-map c.resettle.new.row v.meaning ∙ long) in
    let unexcited : excited v.kind circuit fault sets ≡ false =
    sym (excited_by_front v.kind circuit fanout.rules fault sets rows sets_long alike) ∙ sym c.is_excited.ensures ∙ c.if-not-is_excited.true in
    let one : b ≡ false = cc in
    one
    ∙ sym (unexcited_shows_nothing v.kind v.family g.met.V.ValueKind.lawful circuit fanout.rules fault cube unexcited)
    ∙ ap (λ (f : Option Fault). detected v.kind circuit f cube) (sym c.in-Some.is)

pub some_shows_before-requires : goal.some_shows_before-requires
some_shows_before-requires g c = λ k d inside.
    let circuit = c.args.fanout.now.circuit.now in
    let lines = c.line_count.result in
    let room : line_count circuit ≤ length c.args.row.now = row_has_room circuit c.args.cube (length c.args.row.now) c.in_ok-allow_simulation.ensures in
    let first_long : length (take lines c.args.row.now) ≡ line_count circuit =
    length-take-le lines c.args.row.now (omega (arith, room, c.line_count.ensures)) ∙ c.line_count.ensures in
    let long : length c.resettle-2.new.row ≡ line_count circuit = c.resettle-2.ensures.0 ∙ c.resettle.ensures.0 ∙ c.redrive-waiting.ensures.0 ∙ first_long in
    omega (arith, long, outputs_below circuit c.outputs.ensures.rules k d (omega (arith, inside, ap length c.outputs.ensures.value)), ap (λ (os : List ℕ). get_or os k d) c.outputs.ensures.value)

pub returns-clause-detected : goal.returns-clause-detected
returns-clause-detected g c = λ b is holds right.
    let v = g.V.ValueKind in
    let fanout = c.args.fanout.now in
    let circuit = fanout.circuit.now in
    let fault = c.in-Some.fault in
    let cube = c.args.cube in
    let lines = c.line_count.result in
    let behind = c.max-behind.result in
    let end = c.min-end.result in
    let sets = simulated v.kind circuit (Some fault) cube in
    let rows = map v.meaning c.resettle-2.new.row in
    let room : line_count circuit ≤ length c.args.row.now = row_has_room circuit cube (length c.args.row.now) c.in_ok-allow_simulation.ensures in
    let first_long : length (take lines c.args.row.now) ≡ line_count circuit =
    length-take-le lines c.args.row.now (omega (arith, room, c.line_count.ensures)) ∙ c.line_count.ensures in
    let row_long : length c.resettle.new.row ≡ line_count circuit = c.resettle.ensures.0 ∙ c.redrive-waiting.ensures.0 ∙ first_long in
    let held : map v.meaning (take lines c.args.row.now) ≡ simulated v.kind circuit (Some fault) c.args.before =
    ap (λ (n : ℕ). map v.meaning (take n c.args.row.now)) c.line_count.ensures ∙ holds ∙ ap (λ (f : Option Fault). simulated v.kind circuit f c.args.before) c.in-Some.is in
    let half =
    retraced v.kind v.meaning circuit (Some fault) c.args.before cube fanout.inputs behind c.redrive-waiting.result c.resettle.new.waiting (take lines c.args.row.now) c.redrive-waiting.new.row c.resettle.new.row
    fanout.inputs_are held c.redrive-waiting.ensures c.resettle.ensures in
    let here : max fanout.inputs behind ≡ behind = omega (arith, c.max-behind.ensures) in
    let traced =
    c.resettle-2.ensures.1 c.args.before cube (subst (λ (n : ℕ). Traced v.kind v.meaning circuit (Some fault) c.args.before cube n c.resettle.new.waiting c.resettle.new.row) here half) in
    let within : max behind end ≤ line_count circuit =
    omega (arith, c.max-behind.ensures, c.line-2.ensures, c.line.ensures, c.if-line-row.false, first_long, fanout.inputs_are, c.min-end.ensures, row_long) in
    let alike : (o : ℕ) → o < end → set_of rows o ≡ set_of sets o = λ o low.
    traced_before v.kind v.meaning circuit (Some fault) c.args.before cube fanout.readers.now fanout.complete (max behind end) o c.resettle-2.new.waiting c.resettle-2.new.row
    (omega (arith, low)) within traced in
    let all : (c.args.end ≤ end) ⊎ (line_count circuit ≤ end) = elim (cases_lt c.args.end (line_count circuit)) [
      | inl low ↦ inl (omega (arith, low, c.min-end.ensures, row_long))
      | inr high ↦ inr (omega (arith, high, c.min-end.ensures, row_long))
    ] in
    let one : b ≡ c.some_shows_before.result = cc in
    let told : b ≡ list_any (λ (o : ℕ). ltb o end && shows (set_of rows o)) circuit.outputs =
    one ∙ c.some_shows_before.ensures ∙ ap (list_any (λ (o : ℕ). ltb o end && shows (set_of rows o))) c.outputs.ensures.value in
    let now : detected v.kind circuit (Some fault) cube ≡ detected v.kind circuit c.args.socket.now.fault cube = ap (λ (f : Option Fault). detected v.kind circuit f cube) (sym c.in-Some.is) in
    elim right [
      | inl it ↦ it ∙ sym (shown_if_before v.kind circuit (Some fault) cube end rows alike (sym told ∙ it)) ∙ now
      | inr unseen ↦
          told
          ∙ shown_before v.kind v.family g.met.V.ValueKind.lawful circuit fanout.rules (Some fault) cube c.args.end end
          (subst (λ (f : Option Fault). UnseenFrom circuit f c.args.end) c.in-Some.is unseen) all rows alike
          ∙ now
    ]

pub returns-clause-rest : goal.returns-clause-rest
returns-clause-rest g c = grind (arith, common_steps, drop-append-drop)
