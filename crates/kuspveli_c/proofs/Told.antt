-- What is told of a font of a font file.
use Rattle.std.proofs.Common.{ℕ, ◌≡◌, List, [], ap, sym, subst, ◌∙◌, inl}
use Rattle.std.specs.Prelude.{Result, Ok, Err}
use Rattle.font_bytes.specs.declared.font_fault.FontFault.{FontFault}
use Rattle.font_bytes.specs.Fault.{message_of}
use Rattle.font_file.specs.declared.parts.FontParts.{FontParts}
use Rattle.font_file.specs.Face.{face_in}
use Rattle.layout_face.specs.declared.parts.FaceParts.{FaceParts}
use Rattle.kuspveli_c.specs.Faults.{Describes, HasWritten, fault_text}
use Rattle.kuspveli_c.proofs.Results.{none_written}

-- a font that is read has no fault
pub read_without_fault : (parts : FontParts) (bytes : List ℕ) (index : ℕ) (face : FaceParts) → face_in parts bytes index ≡ Ok face → fault_text (face_in parts bytes index) ≡ []
read_without_fault parts bytes index face read = ap fault_text read

-- without a fault nothing is written
pub nothing_told : (parts : FontParts) (bytes : List ℕ) (index : ℕ) (room now : List ℕ) (count : ℕ) → fault_text (face_in parts bytes index) ≡ [] → now ≡ room → count ≡ 0
    → Describes parts bytes index room now count
nothing_told parts bytes index room now count none same zero =
    subst (λ t. HasWritten t room now count) (sym none) (inl (record { written = same ∙ sym (none_written room); all = zero }))

-- where the font has a fault, its text is written
pub fault_told : (parts : FontParts) (bytes : List ℕ) (index : ℕ) (e : FontFault) (room now : List ℕ) (count : ℕ) → face_in parts bytes index ≡ Err e → HasWritten (message_of e) room now count
    → Describes parts bytes index room now count
fault_told parts bytes index e room now count refused written =
    let P : Result FaceParts FontFault → Type 0 = λ r. HasWritten (fault_text r) room now count in
    subst P (sym refused) written
