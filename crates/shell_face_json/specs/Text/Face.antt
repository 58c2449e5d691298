-- A font as a JSON text.
use Rattle.std.specs.Prelude.{ℕ, List, Result}
use Rattle.std.specs.Option.{ok_or}
use Rattle.serde_json.specs.Read.{read}
use Rattle.shell_json.specs.declared.fault.JsonFault.{JsonFault}
use Rattle.shell_json.specs.declared.fault.JsonFault.TheVariants.{NotJson}
use Rattle.shell_json.specs.Cell.{and_then}
use Rattle.shell_face_json.specs.Face.{face_of}
use Rattle.layout_face.specs.declared.parts.FaceParts.{FaceParts}

-- the font of a text: that of its JSON value, or the fault of a text that is no JSON
abbrev pub face_in : List ℕ → Result FaceParts JsonFault
face_in text = and_then (ok_or (read text) NotJson) face_of
