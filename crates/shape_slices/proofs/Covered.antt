-- Slices cover their text.
use Rattle.std.proofs.Common.{ℕ, ◌≡◌, ◌≤◌, ◌<◌, Bool, true, false, List, [], ◌∷◌, length, map, reverse, arith, refl, sym, ap, subst, ◌∙◌}
use Rattle.std.specs.Prelude.{IsTrue}
use Rattle.std.specs.Str.{IsUtf8}
use Rattle.std.proofs.lemmas.List.{reverse-reverse}
use Rattle.buffer_glyphs.specs.Order.{IsInOrder, IsLeast, has_number}
use Rattle.buffer_parts.specs.Fits.{FitsText}
use Rattle.buffer_parts.specs.Slices.{AreJoined, slices, text_of_slices}
use Rattle.buffer_parts.specs.Lemmas.Slices.{slices_are_text, slices_join}
use Rattle.shape_slices.specs.Fitting.{character_starts}
use Rattle.shape_slices.specs.Runs.{AreSourceSlices, along_glyphs, byte_range}
use Rattle.shape_slices.specs.Laws.{SourceSlicesAreText, SourceSlicesJoin}
use Rattle.shape_slices.specs.declared.slices.SourceSlice.{SourceSlice}
use Rattle.shape_slices.proofs.Starts.{boundary_from_start}

-- clusters that fit a text have 0 as the least, and are less than its length
fits_least : (text ns : List ℕ) → FitsText (character_starts text) ns → IsLeast 0 ns
fits_least text ns f = record { among = f.zero_there; below = λ n h. omega arith }

fits_below : (text ns : List ℕ) → IsUtf8 text → FitsText (character_starts text) ns → (n : ℕ) → IsTrue (has_number ns n) → n < length text
fits_below text ns u f n h = (boundary_from_start text n u (f.starting n h)).0

pub in_text_order : (falls : Bool) (ss : List SourceSlice) (ranges : List (ℕ × ℕ)) → map byte_range ss ≡ along_glyphs falls ranges → along_glyphs falls (map byte_range ss) ≡ ranges
in_text_order false ss ranges e = e
in_text_order true ss ranges e = ap reverse e ∙ reverse-reverse ranges

pub source_slices_join : SourceSlicesJoin
source_slices_join falls text ns ss u f o are =
    subst (AreJoined 0 (length text)) (sym (in_text_order falls ss (slices ns (length text)) (are.bytes falls o))) (slices_join ns (length text) (fits_least text ns f) (fits_below text ns u f))

pub source_slices_are_text : SourceSlicesAreText
source_slices_are_text falls text ns ss u f o are =
    ap (text_of_slices text) (in_text_order falls ss (slices ns (length text)) (are.bytes falls o)) ∙ slices_are_text ns text (fits_least text ns f) (fits_below text ns u f)
