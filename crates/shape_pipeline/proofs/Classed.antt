-- Glyphs that are chosen and get their classes in one pass.
use Rattle.std.proofs.Common.{ℕ, ◌≡◌, Bool, true, false, nat_le, if◌then◌else◌, List, [], ◌∷◌, Err, map, refl, sym, ap, ◌∙◌}
use Rattle.buffer_glyphs.specs.declared.cause.ShapeCause.{ShapeCause}
use Rattle.buffer_glyphs.specs.Items.{Item}
use Rattle.buffer_core.specs.Readings.{Stage, View, always, and_then, reading_of, with_events}
use Rattle.buffer_core.specs.Sides.{Sides, items_of, state_of, view_of}
use Rattle.buffer_stages.specs.Buffers.{are_glyphs}
use Rattle.buffer_stages.specs.Ready.{IsDone}
use Rattle.buffer_stages.specs.Settings.{text_settings}
use Rattle.buffer_stages.specs.Stages.{IsFollowed, with_items_mapped}
use Rattle.buffer_stages.proofs.Mapped.{mapped_items}
use Rattle.layout_face.specs.declared.parts.FaceParts.{FaceParts}
use Rattle.layout_gsub.specs.GlyphClasses.{first_props, item_with_font_class, with_font_classes}
use Rattle.layout_gsub.specs.Replacements.{glyph_props_of}
use Rattle.layout_substitution.specs.Substituting.{substitution_stages}
use Rattle.shape_fallback.specs.Classes.{with_fallback_classes}
use Rattle.shape_glyphs.specs.Glyphs.{as_glyph, glyph_or_missing, with_glyphs, with_synthesized_classes}
use Rattle.shape_pipeline.specs.Chains.{in_order, only_if}
use Rattle.shape_pipeline.specs.Glyphs.{as_classed_glyph, glyphs_substituted, glyphs_taken}
use Rattle.shape_pipeline.specs.Shaping.{Shaping, pauses_of}
use Rattle.shape_pipeline.proofs.Lemmas.Chains.{alike_followed, done_followed, four_followed, fourth_refused, in_order_after, in_order_both}
use Rattle.shape_pipeline.proofs.Sets.{done_as_set, refused_as_set, set_as}
use Rattle.shape_glyphs.proofs.Ended.{glyph_if as chosen_if}

-- ---- one item

chosen_fits : (n : ℕ) → nat_le (glyph_or_missing n) 65535 ≡ true
chosen_fits n = chosen_if n (nat_le n 65535) refl

-- the class of a chosen glyph is GDEF's
pub chosen_class : (font : FaceParts) (n : ℕ) → first_props font (glyph_or_missing n) ≡ glyph_props_of font.gdef (glyph_or_missing n)
chosen_class font n = ap (λ (b : Bool). if b then glyph_props_of font.gdef (glyph_or_missing n) else 0) (chosen_fits n)

-- ---- all items

classed_numbers : (font : FaceParts) (xs : List Item) → are_glyphs (map (as_classed_glyph font) xs) ≡ true
classed_numbers font [] = refl
classed_numbers font (x ∷ xs) = rw (chosen_fits x.glyph_index, classed_numbers font xs) refl

-- their numbers are glyphs'
pub classed_glyphs : (font : FaceParts) (old new : Sides) → IsFollowed (always (with_items_mapped (as_classed_glyph font))) old new → are_glyphs (items_of new) ≡ true
classed_glyphs font old new f = ap are_glyphs (mapped_items (as_classed_glyph font) old new f) ∙ classed_numbers font (items_of old)

map_both : (f g : Item → Item) (xs : List Item) → map (λ x. g (f x)) xs ≡ map g (map f xs)
map_both f g [] = refl
map_both f g (x ∷ xs) = ap (λ (ys : List Item). g (f x) ∷ ys) (map_both f g xs)

-- a map of a map is two stages
maps_in_order : (f g : Item → Item) (v : View) → always (with_items_mapped (λ x. g (f x))) v ≡ in_order (always (with_items_mapped f) ∷ always (with_items_mapped g) ∷ []) v
maps_in_order f g v = ap (λ xs. always (λ w. with_events [] (record w { items = xs })) v) (map_both f g v.items)

-- ---- the stages of glyphs and of substitution

abbrev pub taken_and_substituted : Shaping → Stage
taken_and_substituted q = in_order (glyphs_taken q ∷ glyphs_substituted q ∷ [])

abbrev classes_first : Shaping → Stage
classes_first q = only_if q.choices.fallback_mark_positioning (always with_fallback_classes)

abbrev classed_once : Shaping → Stage
classed_once q = always (with_items_mapped (as_classed_glyph q.font))

abbrev synthesized : Shaping → Stage
synthesized q = only_if q.choices.fallback_glyph_classes (always with_synthesized_classes)

abbrev by_font : Shaping → Stage
by_font q v = substitution_stages q.font q.map (pauses_of q) v

abbrev in_one_pass : Shaping → Stage
in_one_pass q = in_order (classes_first q ∷ classed_once q ∷ synthesized q ∷ by_font q ∷ [])

abbrev in_two_passes : Shaping → Stage
in_two_passes q = in_order (classes_first q ∷ always with_glyphs ∷ always (with_font_classes q.font) ∷ synthesized q ∷ by_font q ∷ [])

split_pass : (q : Shaping) (v : View) → in_order (classed_once q ∷ synthesized q ∷ by_font q ∷ []) v ≡ in_order (always with_glyphs ∷ always (with_font_classes q.font) ∷ synthesized q ∷ by_font q ∷ []) v
split_pass q v =
    ap (λ r. and_then r (in_order (synthesized q ∷ by_font q ∷ []))) (maps_in_order as_glyph (item_with_font_class q.font) v)
    ∙ sym (in_order_both (always with_glyphs ∷ always (with_font_classes q.font) ∷ []) (synthesized q ∷ by_font q ∷ []) v)

grouped_passes : (q : Shaping) (v : View) → in_two_passes q v ≡ taken_and_substituted q v
unfolding glyphs_taken glyphs_substituted
grouped_passes q v =
    let first = classes_first q ∷ always with_glyphs ∷ [] in
    let second = always (with_font_classes q.font) ∷ synthesized q ∷ by_font q ∷ [] in
    in_order_both first second v ∙ in_order_after (in_order first) second (in_order second ∷ []) (λ w. in_order_both second [] w) v

one_pass : (q : Shaping) (v : View) → in_one_pass q v ≡ taken_and_substituted q v
one_pass q v =
    in_order_after (classes_first q) (classed_once q ∷ synthesized q ∷ by_font q ∷ []) (always with_glyphs ∷ always (with_font_classes q.font) ∷ synthesized q ∷ by_font q ∷ []) (split_pass q) v
    ∙ grouped_passes q v

pub classed_followed : (q : Shaping) (s a b c new : Sides) → q.settings ≡ text_settings s → IsFollowed (classes_first q) s a → IsFollowed (classed_once q) a b → IsDone (synthesized q) b c
    → IsDone (substitution_stages q.font q.map (pauses_of (set_as c q))) c new → IsFollowed (taken_and_substituted q) s new
classed_followed q s a b c new set f g h k =
    alike_followed (in_one_pass q) (taken_and_substituted q) s new (one_pass q)
    (four_followed (classes_first q) (classed_once q) (synthesized q) (by_font q) s a b c new f g (done_followed (synthesized q) b c h)
    (done_followed (by_font q) c new (done_as_set by_font q s c new set (h.settings ∙ g.settings ∙ f.settings) k)))

pub classed_refused : (q : Shaping) (s a b c : Sides) (cause : ShapeCause) → q.settings ≡ text_settings s → IsFollowed (classes_first q) s a → IsFollowed (classed_once q) a b → IsDone (synthesized q) b c
    → reading_of (substitution_stages q.font q.map (pauses_of (set_as c q))) (state_of c) ≡ Err cause → reading_of (taken_and_substituted q) (state_of s) ≡ Err cause
classed_refused q s a b c cause set f g h e =
    sym (one_pass q (view_of s))
    ∙ fourth_refused (classes_first q) (classed_once q) (synthesized q) (by_font q) [] s a b c cause f g (done_followed (synthesized q) b c h) (refused_as_set by_font q s c cause set (h.settings ∙ g.settings ∙ f.settings) e)
