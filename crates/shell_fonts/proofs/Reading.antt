-- A font of a font file that is read over the tables that the library has.
use Rattle.std.proofs.Common.{ℕ, ◌≡◌, List, Ok, Err, Result, refl, sym, ap}
use Rattle.font_file.specs.declared.parts.FontParts.{FontParts}
use Rattle.layout_face.specs.declared.parts.FaceParts.{FaceParts}
use Rattle.shell_default_tables.specs.Binary.{IsRefusalOf}
use Rattle.shell_default_tables.specs.declared.bytes.TheConstants.{TABLES}
use Rattle.shell_readers.specs.declared.fault.RunFault.{RunFault}
use Rattle.shell_readers.specs.declared.fault.RunFault.TheVariants.{Unlawful}
use Rattle.shell_readers.specs.Input.{with_font}
use Rattle.shell_readers.specs.Tables.{RunTables}
use Rattle.shell_fonts.specs.Fonts.{AreLibraryTables, IsFontInput, font_of}
use Rattle.shell_tables_bytes.specs.declared.fault.BinaryFault.{BinaryFault}

pub library_refused : (cause : BinaryFault) → IsRefusalOf TABLES.now cause → AreLibraryTables (Err Unlawful)
library_refused cause is = (refl, cause, is)

module _ (parts : FontParts) (bytes : List ℕ) (index : ℕ) where
  joined : (t : RunTables) (r : Result FaceParts RunFault) → AreLibraryTables (Ok t) → font_of parts bytes index ≡ r → IsFontInput parts bytes index (with_font r t)
  unfolding IsFontInput
  joined t r read is = (Ok t, read, ap (λ (f : Result FaceParts RunFault). with_font f t) (sym is))

  pub both_read : (t : RunTables) (face : FaceParts) → AreLibraryTables (Ok t) → font_of parts bytes index ≡ Ok face
      → IsFontInput parts bytes index (Ok (record { tables = t; font = face }))
  both_read t face read is = joined t (Ok face) read is

  pub font_refused : (t : RunTables) (e : RunFault) → AreLibraryTables (Ok t) → font_of parts bytes index ≡ Err e → IsFontInput parts bytes index (Err e)
  font_refused t e read is = joined t (Err e) read is

  pub tables_faulty : (e : RunFault) → AreLibraryTables (Err e) → IsFontInput parts bytes index (Err e)
  unfolding IsFontInput
  tables_faulty e read = (Err e, read, refl)
