-- Each step is computed.
use Rattle.std.proofs.Common.{refl}
use lib.Count
use Rattle.law.specs.Histories.{start, next}
use Rattle.law.proofs.known.known_history.Goals as goal

pub returns : goal.returns
unfolding lib.Count.ones
returns c =
    next (next (next (next (next (next (next (next (next (next (next (next start
    (record { follows = refl; memory = λ e. cc }))
    (record { follows = refl; memory = λ e. cc }))
    (record { follows = (refl, refl); memory = λ e. refl }))
    (record { follows = refl; memory = λ e. cc }))
    (record { follows = refl; memory = λ e. cc }))
    (record { follows = refl; memory = λ e. cc }))
    (record { follows = (refl, refl); memory = λ e. cc }))
    (record { follows = refl; memory = λ e. cc }))
    (record { follows = refl; memory = λ e. cc }))
    (record { follows = refl; memory = λ e. cc }))
    (record { follows = refl; memory = λ e. cc }))
    (record { follows = (refl, refl); memory = λ e. cc })
