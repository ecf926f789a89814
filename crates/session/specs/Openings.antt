-- What a text opens: a session of its circuit, or the reply to a circuit that is refused.
use Rattle.std.specs.Prelude.{◌≡◌, ℕ, List, [], drop, Some, None, Ok, Err, Option, Result, MatchResult, ⊤}
use Rattle.refusals.specs.declared.cause.Cause.{Cause}
use Rattle.refusals.specs.declared.cause.Refusal.{Refusal}
use Rattle.refusals.specs.declared.cause.Refusal.TheVariants.{Memory}
use Rattle.refusals.specs.Causes.{cause_of}
use Rattle.circuit.specs.Model.{Circuit}
use Rattle.reader.specs.Describes.{Describes}
use Rattle.reader.specs.Promises.{DescribesNone}
use Rattle.reader.specs.Reading as reader
use Rattle.reader.specs.Reading.{reading}
use Rattle.replies.specs.Lines.{refused_line}
use Rattle.replies.specs.Replies.{reply_text}
use Rattle.session.specs.declared.opening.Opening.{Opening}
use Rattle.session.specs.declared.opening.Opening.TheVariants as opening
use Rattle.session.specs.Sessions.{Session}

-- A session begins, and its job lines at that place; or these bytes are written, and nothing else.
pub data Opened : Type 0 where
  Begun : Session → ℕ → Opened
  Written : List ℕ → Opened

-- a session with an empty folder, and no kind chosen
abbrev pub new_session : Circuit → Session
new_session c = record { folder = record { circuit = c; table = [] }; kind = None }

abbrev pub refused_opened : Option Cause → Option Opened
refused_opened None = None
refused_opened (Some c) = Some (Written (refused_line c))

abbrev pub outcome_opened : reader.Outcome → Option Opened
outcome_opened (reader.Granted c place) = Some (Begun (new_session c) place)
outcome_opened (reader.Refused e) = refused_opened (cause_of e)

-- what a text opens, by what reading its circuit answers
abbrev pub opened : List ℕ → Option Opened
opened text = outcome_opened (reading text)

-- what the code's opening stands for
abbrev pub opening_model : Opening → Opened
opening_model (opening.Session session rest) = Begun session rest.place
opening_model (opening.Refused reply) = Written (reply_text reply)

-- the opening of the definition, or want of memory
abbrev pub Opens : List ℕ → Result Opening Refusal → Type 0
Opens text r = MatchResult r (λ o. opened text ≡ Some (opening_model o)) (λ e. e ≡ Memory)

-- The session's circuit is the one that the text describes, and the rest, its job lines, is the text from where that description
-- ends. A text that is refused describes none.
abbrev pub OpensDescribed : List ℕ → Result Opening Refusal → Type 0
OpensDescribed text (Ok (opening.Session session rest)) =
    Describes text session.folder.circuit rest.place × (rest.bytes.now ≡ drop rest.place text)
OpensDescribed text (Ok (opening.Refused reply)) = DescribesNone text
OpensDescribed text (Err e) = ⊤
