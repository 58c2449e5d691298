-- Items of a syllable.
use Rattle.std.proofs.Common.{ℕ, ◌≡◌, ◌≤◌, ◌<◌, ◌+◌, ◌-◌, List, length, drop, get_or, Some, None, slice_get, ap, ◌∙◌, arith}
use Rattle.std.specs.Prelude.{slice_range}
use Rattle.std.proofs.lemmas.Option.{slice_get-get_or, slice_get_past}
use Rattle.std.proofs.lemmas.List.{length-map, get_or-take, get_or-drop}
use Rattle.buffer_glyphs.proofs.Lists.{get_or_mapped}
use Rattle.buffer_glyphs.specs.declared.info.hb_glyph_info_t.{hb_glyph_info_t}
use Rattle.buffer_glyphs.specs.Items.{item_of, strip}
use Rattle.buffer_stages.specs.Lemmas.Parts.{range_size}
use Rattle.buffer_stages.proofs.Halves.{ranged}

pub there : (gs : List hb_glyph_info_t) (start end index : ℕ) (d : hb_glyph_info_t) → start ≤ end → end ≤ length gs → index < end - start → slice_get (slice_range (strip gs) start end) index ≡ Some (item_of (get_or gs (start + index) d))
there gs start end index d le fits lt =
    let len = length-map gs item_of in
    let inside : index < length (slice_range (strip gs) start end) = omega (arith, range_size start end (strip gs) le (omega (arith, len, fits)), lt) in
    slice_get-get_or (slice_range (strip gs) start end) index (item_of d) inside ∙ ap Some (ranged start end index (item_of d) (strip gs) lt ∙ get_or_mapped item_of gs (start + index) d)

pub none_there : (gs : List hb_glyph_info_t) (start end index : ℕ) → start ≤ end → end ≤ length gs → end - start ≤ index → slice_get (slice_range (strip gs) start end) index ≡ None
none_there gs start end index le fits past =
    let len = length-map gs item_of in
    slice_get_past (slice_range (strip gs) start end) index (omega (arith, range_size start end (strip gs) le (omega (arith, len, fits)), past))
