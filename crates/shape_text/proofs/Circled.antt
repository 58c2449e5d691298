-- A circle in front of a text.
use Rattle.std.proofs.Common.{◌≡◌, ◌≤◌, ◌<◌, ◌+◌, true, false, nat_le, if◌then◌else◌, List, [], ◌∷◌, Ok, Err, length, arith, refl, ap, sym, ◌∙◌}
use Rattle.std.specs.Prelude.{bit_or}
use Rattle.std.proofs.lemmas.Bool.Decides.{nat_tests}
use Rattle.std.proofs.lemmas.List.{length-map, length-replicate}
use Rattle.buffer_glyphs.specs.declared.cause.ShapeCause.TheVariants.{TooLong}
use Rattle.buffer_glyphs.specs.declared.info.hb_glyph_info_t.{hb_glyph_info_t}
use Rattle.buffer_unicode_tables.specs.Tables.{Tables}
use Rattle.layout_face.specs.declared.parts.FaceParts.{FaceParts}
use Rattle.buffer_properties.specs.Properties.{scratch_flags_of}
use Rattle.buffer_glyphs.specs.Items.{item_of, strip, zero_position}
use Rattle.buffer_glyphs.specs.Origins.{origins, origins_circled}
use Rattle.buffer_glyphs.specs.Events.{Circle}
use Rattle.buffer_core.specs.Readings.{View, with_events, as_it_is}
use Rattle.buffer_core.specs.Sides.{Sides, all_glyphs, items_of, stage_flags, view_of, zero_positions}
use Rattle.buffer_stages.specs.Ready.{IsReady}
use Rattle.buffer_stages.specs.Stages.{IsFollowed}
use Rattle.buffer_stages.specs.Lemmas.Written.{happened_followed}
use Rattle.shape_text.proofs.Prepared.{told_once}
use Rattle.shape_text.specs.Circle.{DOTTED_CIRCLE, circled_items, first_circle, glyphs_circled, needs_circle, with_circle, with_circle_put}

items_circled : (t : Tables) (gs : List hb_glyph_info_t) → strip (glyphs_circled t gs) ≡ circled_items t (strip gs)
items_circled t [] = refl
items_circled t (g ∷ gs) = refl

from_circled : (t : Tables) (gs : List hb_glyph_info_t) → 0 < length gs → origins (glyphs_circled t gs) ≡ origins_circled false 0 0 (origins gs)
from_circled t [] lt = absurd (omega arith)
from_circled t (g ∷ gs) lt = refl

many_circled : (t : Tables) (gs : List hb_glyph_info_t) → 0 < length gs → length gs + 1 ≡ length (glyphs_circled t gs)
many_circled t [] lt = absurd (omega arith)
many_circled t (g ∷ gs) lt = omega arith

-- what stages see once a circle is inserted
abbrev circled_view : Tables → Sides → View
circled_view t s = record (view_of s) { items = circled_items t (items_of s); positions = zero_positions (length (items_of s) + 1); scratch_flags = bit_or (stage_flags s.scratch_flags) (scratch_flags_of DOTTED_CIRCLE) }

pub circle_followed : (t : Tables) (font : FaceParts) (s : Sides) → needs_circle s.flags s.pre_context font (items_of s) ≡ true → length (all_glyphs s) + 1 ≤ s.max_len → 0 < length (all_glyphs s) → IsReady s
    → IsFollowed (first_circle t font s.flags s.pre_context) s (with_circle_put t s)
circle_followed t font s needs fits some ready =
    let many = length-map (all_glyphs s) item_of in
    let there : nat_le (length (items_of s) + 1) s.max_len ≡ true = grind (arith, nat_tests, many, fits) in
    happened_followed (Circle false 0 0 ∷ []) (circled_view t s) (first_circle t font s.flags s.pre_context) s (with_circle_put t s)
    (ap (λ xs. record (view_of s) { items = xs; positions = zero_positions (length (all_glyphs s) + 1); scratch_flags = stage_flags (bit_or s.scratch_flags (scratch_flags_of DOTTED_CIRCLE)) }) (items_circled t (all_glyphs s))
    ∙ ap (λ n. record (view_of s) { items = circled_items t (items_of s); positions = zero_positions (n + 1); scratch_flags = stage_flags (bit_or s.scratch_flags (scratch_flags_of DOTTED_CIRCLE)) }) (sym many)
    ∙ ap (λ f. record (view_of s) { items = circled_items t (items_of s); positions = zero_positions (length (items_of s) + 1); scratch_flags = f }) (told_once s.scratch_flags DOTTED_CIRCLE))
    (from_circled t (all_glyphs s) some)
    refl
    (record { closed = ready.closed; front = refl; unread = ready.unread; placed = length-replicate (length (all_glyphs s) + 1) zero_position ∙ many_circled t (all_glyphs s) some; unrefused = ready.unrefused })
    (ap (λ b. if b then with_circle t (view_of s) else as_it_is (view_of s)) needs ∙ ap (λ b. if b then Ok (with_events (Circle false 0 0 ∷ []) (circled_view t s)) else Err TooLong) there)
