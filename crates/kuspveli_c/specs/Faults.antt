-- Why a font of a font file isn't read, as text.
use Rattle.std.specs.Prelude.{ℕ, ◌≡◌, ◌⊎◌, List, [], codes, length, Result, Ok, Err}
use Rattle.c_text.specs.Written.{with_front}
use Rattle.font_bytes.specs.declared.font_fault.FontFault.{FontFault}
use Rattle.font_bytes.specs.Fault.{message_of}
use Rattle.font_file.specs.declared.parts.FontParts.{FontParts}
use Rattle.font_file.specs.Face.{face_in}
use Rattle.layout_face.specs.declared.parts.FaceParts.{FaceParts}

-- the text of a font's fault, with the table and the offset where it has them; none where the font is read
abbrev pub fault_text : Result FaceParts FontFault → List ℕ
fault_text (Ok face) = []
fault_text (Err e) = message_of e

-- as many bytes of a text as there is room for are written, and all are counted
pub record IsWritten (text room now : List ℕ) (count : ℕ) : Type 0 where
  pub written : now ≡ with_front text room
  pub all : count ≡ length text

-- a text is written, or that of want of memory
abbrev pub HasWritten : List ℕ → List ℕ → List ℕ → ℕ → Type 0
HasWritten text room now count = IsWritten text room now count ⊎ IsWritten (codes "OutOfMemory") room now count

-- the text of why the font with an index of a font file isn't read, or of want of memory, is written
abbrev pub Describes : FontParts → List ℕ → ℕ → List ℕ → List ℕ → ℕ → Type 0
Describes parts bytes index room now count = HasWritten (fault_text (face_in parts bytes index)) room now count
