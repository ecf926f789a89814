use Rattle.std.proofs.Common.{IsUtf8, sym, subst, rules}
use Rattle.circuit.proofs.Ascii.{name_is_text}
use Rattle.circuit.proofs.name.NameDisplay.fmt.Goals as goal

pub unwrap-requires : goal.unwrap-requires
unwrap-requires g c =
    let text : IsUtf8 c.deref.result.now = subst IsUtf8 (sym c.deref.ensures.value) (name_is_text _ c.self.invariant) in
    search rules
