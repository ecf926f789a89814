-- What the public call promises: by the definition of reading, and by what a text describes.
use Rattle.std.specs.Prelude.{◌≡◌, ℕ, List, drop, Result, MatchResult}
use Rattle.refusals.specs.declared.cause.Refusal.{Refusal}
use Rattle.refusals.specs.declared.cause.Refusal.TheVariants as refusal
use Rattle.circuit.specs.Model.{Circuit, blank}
use Rattle.reader.specs.declared.rest.Rest.{Rest}
use Rattle.reader.specs.Describes.{Describes}
use Rattle.reader.specs.Parsing.{Refuses}
use Rattle.reader.specs.Reading.{Granted, reading}

-- Granted with the circuit and the rest that the definition gives; refused as the definition refuses, or for want of
-- memory, with the blank circuit. The circuit is what the caller's circuit holds afterwards.
abbrev pub Reads : List ℕ → Result Rest Refusal → Circuit → Type 0
Reads text r c =
    MatchResult r
    (λ rest. (reading text ≡ Granted c rest.place) × (rest.bytes.now ≡ drop rest.place text))
    (λ e. Refuses (reading text) e × (c ≡ blank))

abbrev pub DescribesNone : List ℕ → Type 0
DescribesNone text = (c : Circuit) (place : ℕ) → Describes text c place → ⊥

-- a text is refused because it describes no circuit, or for want of memory
abbrev pub Undescribed : List ℕ → Refusal → Type 0
Undescribed text refusal.Memory = Unit {0}
Undescribed text e = DescribesNone text

-- The caller's circuit is the one that the text describes, and the rest begins where that description ends.
abbrev pub Follows : List ℕ → Result Rest Refusal → Circuit → Type 0
Follows text r c = MatchResult r (λ rest. Describes text c rest.place) (Undescribed text)
