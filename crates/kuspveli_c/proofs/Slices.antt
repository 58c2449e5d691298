-- Slices of a text in a handle's font.
use Rattle.std.proofs.Common.{ℕ, ◌≡◌, List, sym, ap, subst}
use Rattle.std.specs.Prelude.{Option, Some}
use Rattle.c_text.specs.declared.types.kus_slice_t.{kus_slice_t}
use Rattle.c_text.specs.Fonts.{KeptFont, glyphs_of}
use Rattle.c_text.specs.Queries.{AreSlicesOf, IsSlicesFault, IsSlicesRefusal}
use Rattle.buffer_core.specs.Sides.{Sides}

pub slices_of_font : (font : Option KeptFont) (f : KeptFont) (text : List ℕ) (room now : List kus_slice_t) (count : ℕ)
    → font ≡ Some f → AreSlicesOf f.glyphs text room now count → AreSlicesOf (glyphs_of font) text room now count
slices_of_font font f text room now count there are =
    let P : Sides → Type 0 = λ gs. AreSlicesOf gs text room now count in
    subst P (sym (ap glyphs_of there)) are

pub font_refuses_slices : (font : Option KeptFont) (f : KeptFont) (text : List ℕ) (number : ℕ) → font ≡ Some f → IsSlicesRefusal f.glyphs text number → IsSlicesFault font text number
font_refuses_slices font f text number there refused =
    let P : Option KeptFont → Type 0 = λ k. IsSlicesFault k text number in
    subst P (sym there) refused
