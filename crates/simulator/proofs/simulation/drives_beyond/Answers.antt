use Rattle.std.proofs.Common.{◌≡◌, ℕ, ◌^◌, ltb, leb, ap, ◌∙◌}
use Rattle.std.proofs.lemmas.Bool.Decides.{Decides-at}
use Rattle.simulator.specs.Simulation.{drives_beyond}
use Rattle.simulator.proofs.Driving.{past_bits, beyond_decides}
use Rattle.simulator.proofs.simulation.drives_beyond.Goals as goal

pub returns : goal.returns
returns c =
    let circuit = c.args.circuit.now in
    let cube = c.args.cube in
    let value : ltb 0 c.unwrap_or.result ≡ drives_beyond circuit cube =
    ap (ltb 0) c.unwrap_or.ensures
    ∙ past_bits c.driven.result c.input_count.result c.checked_shr-past.result c.driven.type_inv c.checked_shr-past.ensures
    ∙ ap (leb (2 ^ c.input_count.result)) c.driven.ensures
    ∙ ap (λ (n : ℕ). leb (2 ^ n) cube.driven) c.input_count.ensures.value in
    record { value = value; rule = Decides-at (ltb 0 c.unwrap_or.result) (drives_beyond circuit cube) value (beyond_decides circuit cube) }
