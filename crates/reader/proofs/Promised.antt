-- What a read by the definition says of what the text describes.
use Rattle.std.proofs.Common.{◌≡◌, ℕ, List, Ok, Err, Result, sym, ◌∙◌}
use Rattle.refusals.specs.declared.cause.Refusal.{Refusal}
use Rattle.refusals.specs.declared.cause.Refusal.TheVariants as refusal
use Rattle.circuit.specs.Model.{Circuit}
use Rattle.reader.specs.declared.rest.Rest.{Rest}
use Rattle.reader.specs.Promises.{Reads, DescribesNone, Follows}
use Rattle.reader.specs.Reading.{Refused, reading}
use Rattle.reader.proofs.DescribesComplete.{complete}
use Rattle.reader.proofs.DescribesPlaces.{refused_not_granted}
use Rattle.reader.proofs.DescribesSound.{sound}

none : (text : List ℕ) (e : Refusal) → reading text ≡ Refused e → DescribesNone text
none text e r c place d = refused_not_granted (sym r ∙ complete text c place d)

pub follows : (text : List ℕ) (r : Result Rest Refusal) (c : Circuit) → Reads text r c → Follows text r c
follows text (Ok rest) c h = sound text c rest.place h.0
follows text (Err refusal.Memory) c h = tt
follows text (Err e) c h = none text e h.0
