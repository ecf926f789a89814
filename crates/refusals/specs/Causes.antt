-- What a refusal is reported by: layer, number and place. Want of memory has none of these.
use Rattle.std.specs.Prelude.{ℕ, List, ◌++◌, Some, None, codes, decimal, Option}
use Rattle.refusals.specs.declared.cause.Refusal.{Refusal}
use Rattle.refusals.specs.declared.cause.Refusal.TheVariants.{Text, Form, Circuit, Folder, Memory}
use Rattle.refusals.specs.declared.layers.TextRefusal.{TextRefusal}
use Rattle.refusals.specs.declared.layers.FormRefusal.{FormRefusal}
use Rattle.refusals.specs.declared.layers.CircuitRefusal.{CircuitRefusal}
use Rattle.refusals.specs.declared.layers.FolderRefusal.{FolderRefusal}
use Rattle.refusals.specs.declared.cause.Layer.{Layer}
use Rattle.refusals.specs.declared.cause.Layer.TheVariants as layer
use Rattle.refusals.specs.declared.cause.Cause.{Cause}
use Rattle.refusals.specs.Numbers.{text_number, text_place, form_number, form_place, circuit_number, circuit_place, folder_number}

abbrev cause : Layer → ℕ → ℕ → Cause
cause l n p = record { layer = l; number = n; place = p }

-- what a refusal of each layer is reported by
abbrev pub text_cause : TextRefusal → Cause
text_cause e = cause layer.Text (text_number e) (text_place e)

abbrev pub form_cause : FormRefusal → Cause
form_cause e = cause layer.Form (form_number e) (form_place e)

abbrev pub circuit_cause : CircuitRefusal → Cause
circuit_cause e = cause layer.Circuit (circuit_number e) (circuit_place e)

-- a call without text has place 0
abbrev pub folder_cause : FolderRefusal → Cause
folder_cause e = cause layer.Folder (folder_number e) 0

abbrev pub cause_of : Refusal → Option Cause
cause_of (Text e) = Some (text_cause e)
cause_of (Form e) = Some (form_cause e)
cause_of (Circuit e) = Some (circuit_cause e)
cause_of (Folder e) = Some (folder_cause e)
cause_of Memory = None

-- how a layer is written
abbrev pub layer_text : Layer → List ℕ
layer_text layer.Text = codes "text"
layer_text layer.Form = codes "form"
layer_text layer.Circuit = codes "circuit"
layer_text layer.Folder = codes "folder"

-- how what a refusal is reported by is written
abbrev pub cause_text : Cause → List ℕ
cause_text c = layer_text c.layer ++ (codes " " ++ (decimal c.number ++ (codes " " ++ decimal c.place)))

-- what is written where there may be nothing to report
abbrev reported : Option Cause → List ℕ
reported (Some c) = cause_text c
reported None = codes "out of memory"

-- how a refusal is written
abbrev pub refusal_text : Refusal → List ℕ
refusal_text r = reported (cause_of r)
