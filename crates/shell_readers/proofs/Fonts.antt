-- The font of bytes that are a text.
use Rattle.std.proofs.Common.{◌≡◌, ℕ, true, false, List, Option, Some, None, Err, refl}
use Rattle.std.specs.Option.{ok_or}
use Rattle.std.specs.Str.{is_utf8}
use Rattle.serde_json.specs.Data.{Data}
use Rattle.serde_json.specs.Read.{read}
use Rattle.shell_json.specs.declared.fault.JsonFault.TheVariants.{NotJson}
use Rattle.shell_json.specs.Cell.{and_then}
use Rattle.shell_face_json.specs.Face.{face_of}
use Rattle.shell_face_json.specs.Text.Face.{face_in}
use Rattle.shell_readers.specs.declared.fault.RunFault.TheVariants.{Json}
use Rattle.shell_readers.specs.Input.{font_in}
use Rattle.shell_readers.specs.Values.{json_or_fault, of_json, then_run}

of_value : (o : Option Data) → then_run (json_or_fault o) (λ d. of_json (face_of d)) ≡ of_json (and_then (ok_or o NotJson) face_of)
of_value None = refl
of_value (Some d) = refl

pub font_of_text : (bytes : List ℕ) → is_utf8 bytes ≡ true → font_in bytes ≡ of_json (face_in bytes)
unfolding font_in
font_of_text bytes e = rw e (of_value (read bytes))

pub no_font : (bytes : List ℕ) → is_utf8 bytes ≡ false → font_in bytes ≡ Err (Json NotJson)
unfolding font_in
no_font bytes e = rw e refl
