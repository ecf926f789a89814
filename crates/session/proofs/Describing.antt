-- A text that is refused by a number describes no circuit.
use Rattle.std.proofs.Common.{◌≡◌, ℕ, List, Some, arith}
use Rattle.refusals.specs.declared.cause.Cause.{Cause}
use Rattle.refusals.specs.declared.cause.Refusal.{Refusal}
use Rattle.refusals.specs.declared.cause.Refusal.TheVariants as refusal
use Rattle.refusals.specs.Causes.{cause_of}
use Rattle.reader.specs.Promises.{DescribesNone, Undescribed}

pub none_described : (text : List ℕ) (e : Refusal) (c : Cause) → cause_of e ≡ Some c → Undescribed text e → DescribesNone text
none_described text refusal.Memory c h u = grind arith
none_described text (refusal.Text e) c h u = u
none_described text (refusal.Form e) c h u = u
none_described text (refusal.Circuit e) c h u = u
none_described text (refusal.Folder e) c h u = u
