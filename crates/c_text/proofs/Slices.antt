-- Slices of a text that C reads.
use Rattle.std.proofs.Common.{ℕ, ◌≡◌, true, List, map, length, ap, subst, ◌∙◌}
use Rattle.std.specs.Str.{is_utf8}
use Rattle.buffer_core.specs.Sides.{Sides, all_glyphs, empty_buffer}
use Rattle.buffer_glyphs.specs.Items.{clusters}
use Rattle.shape_slices.specs.declared.slices.SourceSlice.{SourceSlice}
use Rattle.shape_slices.specs.Fitting.{SlicesFit}
use Rattle.shape_slices.specs.Runs.{AreSourceSlices}
use Rattle.c_text.specs.declared.types.kus_slice_t.{kus_slice_t}
use Rattle.c_text.specs.Fonts.{KeptFont}
use Rattle.c_text.specs.Queries.{AreSlicesOf, IsSlicesRefusal}
use Rattle.c_text.specs.Written.{slice_of, with_front}

-- ---- a font's glyphs, taken out and put back

pub glyphs_put_back : (f taken back : KeptFont) (glyphs : Sides) → glyphs ≡ f.glyphs → taken ≡ record f { glyphs = empty_buffer } → back ≡ record taken { glyphs = glyphs } → back ≡ f
glyphs_put_back f taken back glyphs same out again =
    again ∙ ap (λ (k : KeptFont). record k { glyphs = glyphs }) out ∙ ap (λ gs. record f { glyphs = gs }) same

pub slices_of_taken : (f : KeptFont) (glyphs : Sides) (text : List ℕ) (room now : List kus_slice_t) (count : ℕ)
    → glyphs ≡ f.glyphs → AreSlicesOf glyphs text room now count → AreSlicesOf f.glyphs text room now count
slices_of_taken f glyphs text room now count same are =
    let P : Sides → Type 0 = λ gs. AreSlicesOf gs text room now count in
    subst P same are

pub taken_refuse_slices : (f : KeptFont) (glyphs : Sides) (text : List ℕ) (number : ℕ) → glyphs ≡ f.glyphs → IsSlicesRefusal glyphs text number → IsSlicesRefusal f.glyphs text number
taken_refuse_slices f glyphs text number same refused =
    let P : Sides → Type 0 = λ gs. IsSlicesRefusal gs text number in
    subst P same refused

-- ---- a text's bytes

-- the slices of a text are those of its bytes
pub slices_of_bytes : (glyphs : Sides) (bytes text : List ℕ) (found : List SourceSlice) (room now : List kus_slice_t) (count : ℕ)
    → text ≡ bytes → is_utf8 bytes ≡ true → SlicesFit glyphs text → AreSourceSlices (clusters (all_glyphs glyphs)) (length text) found
    → count ≡ length found → now ≡ with_front (map slice_of found) room → AreSlicesOf glyphs bytes room now count
slices_of_bytes glyphs bytes text found room now count same utf8 fit are all written =
    let F : List ℕ → Type 0 = λ t. SlicesFit glyphs t in
    let A : List ℕ → Type 0 = λ t. AreSourceSlices (clusters (all_glyphs glyphs)) (length t) found in
    record { utf8 = utf8; fit = subst F same fit; slices = found; are = subst A same are; all = all; written = written }
