-- Ranges of glyphs to which features apply.
use Rattle.std.proofs.Common.{ℕ, ◌≡◌, ◌≤◌, ◌-◌, List, [], ◌∷◌, ◌++◌, length, map, take, drop, refl, sym, ap, ◌∙◌}
use Rattle.std.specs.Prelude.{bit_and, slice_range}
use Rattle.std.proofs.lemmas.List.{drop-map, length-map, map-append, map-id, take-map}
use Rattle.std.proofs.lemmas.Nat.{and_or_apart}
use Rattle.buffer_glyphs.specs.declared.info.hb_glyph_info_t.{hb_glyph_info_t}
use Rattle.buffer_glyphs.specs.Items.{Item, item_of, strip}
use Rattle.buffer_glyphs.specs.Origins.{Origin, origin_of, origins}
use Rattle.buffer_core.specs.Readings.{View}
use Rattle.buffer_glyphs.specs.Glyphs.{glyph_flagged, glyphs_flagged}
use Rattle.buffer_glyphs.specs.Lemmas.Glyphs.{cut_out}
use Rattle.buffer_core.specs.Lending.{with_refilled}
use Rattle.buffer_core.specs.Sides.{Sides, all_glyphs, items_of, origins_of}
use Rattle.buffer_stages.specs.Ready.{IsReady}
use Rattle.buffer_stages.specs.Lemmas.Written.{written_becomes}
use Rattle.buffer_stages.specs.Stages.{Becomes}
use Rattle.shape_text.specs.Fractions.{with_features, with_features_within}
use Rattle.buffer_stages.proofs.Lemmas.Masks.{mask_above}

item_flagged : (mask : ℕ) (g : hb_glyph_info_t) → item_of (glyph_flagged mask g) ≡ with_features mask (item_of g)
item_flagged mask g = ap (λ n. record (item_of g) { mask = n }) (mask_above g.mask mask)

origin_flagged : (mask : ℕ) → bit_and mask 7 ≡ 0 → (g : hb_glyph_info_t) → origin_of (glyph_flagged mask g) ≡ origin_of g
origin_flagged mask e g = ap (λ n. record (origin_of g) { flags = n }) (and_or_apart 7 g.mask mask e)

-- ---- what is seen of glyphs

seen_all : {Y : Type 0} (v : hb_glyph_info_t → Y) (f : Y → Y) (mask : ℕ) → ((g : hb_glyph_info_t) → v (glyph_flagged mask g) ≡ f (v g)) → (gs : List hb_glyph_info_t) → map v (map (glyph_flagged mask) gs) ≡ map f (map v gs)
seen_all v f mask same [] = refl
seen_all v f mask same (g ∷ gs) = rw (same g, seen_all v f mask same gs) refl

seen_range : {Y : Type 0} (v : hb_glyph_info_t → Y) (gs : List hb_glyph_info_t) (from to : ℕ) → map v (slice_range gs from to) ≡ slice_range (map v gs) from to
seen_range v gs from to = sym (take-map v (to - from) (drop from gs)) ∙ ap (λ ys. take (to - from) ys) (sym (drop-map v from gs))

seen_within : {Y : Type 0} (v : hb_glyph_info_t → Y) (f : Y → Y) (mask : ℕ) → ((g : hb_glyph_info_t) → v (glyph_flagged mask g) ≡ f (v g)) → (from to : ℕ) (gs : List hb_glyph_info_t)
    → map v (glyphs_flagged mask from to gs) ≡ take from (map v gs) ++ map f (slice_range (map v gs) from to) ++ drop to (map v gs)
seen_within v f mask same from to gs =
    let range = slice_range gs from to in
    map-append v (take from gs ++ map (glyph_flagged mask) range) (drop to gs)
    ∙ ap (λ ys. ys ++ map v (drop to gs)) (map-append v (take from gs) (map (glyph_flagged mask) range))
    ∙ ap (λ ys. ys ++ map v (map (glyph_flagged mask) range) ++ map v (drop to gs)) (sym (take-map v from gs))
    ∙ ap (λ ys. take from (map v gs) ++ ys ++ map v (drop to gs)) (seen_all v f mask same range ∙ ap (λ ys. map f ys) (seen_range v gs from to))
    ∙ ap (λ ys. take from (map v gs) ++ map f (slice_range (map v gs) from to) ++ ys) (sym (drop-map v to gs))

items_flagged : (mask from to : ℕ) (gs : List hb_glyph_info_t) → strip (glyphs_flagged mask from to gs) ≡ with_features_within mask from to (strip gs)
items_flagged mask from to gs = seen_within item_of (with_features mask) mask (item_flagged mask) from to gs

origins_kept : (mask from to : ℕ) (gs : List hb_glyph_info_t) → bit_and mask 7 ≡ 0 → from ≤ to → origins (glyphs_flagged mask from to gs) ≡ origins gs
origins_kept mask from to gs e le =
    seen_within origin_of (λ (o : Origin). o) mask (origin_flagged mask e) from to gs
    ∙ ap (λ ys. take from (origins gs) ++ ys ++ drop to (origins gs)) (map-id (slice_range (origins gs) from to))
    ∙ cut_out from to (origins gs) le

-- ---- on a buffer

pub range_becomes : (mask from to : ℕ) (gs : List hb_glyph_info_t) (s : Sides) → gs ≡ glyphs_flagged mask from to (all_glyphs s) → bit_and mask 7 ≡ 0 → from ≤ to → IsReady s
    → Becomes (with_features_within mask from to (items_of s)) s.positions s (with_refilled gs s)
range_becomes mask from to gs s e flagless le ready =
    let from_same : origins gs ≡ origins_of s = ap origins e ∙ origins_kept mask from to (all_glyphs s) flagless le in
    let many : length gs ≡ length (all_glyphs s) = sym (length-map gs origin_of) ∙ ap (λ (os : List Origin). length os) from_same ∙ length-map (all_glyphs s) origin_of in
    written_becomes gs s (with_features_within mask from to (items_of s)) many (ap strip e ∙ items_flagged mask from to (all_glyphs s)) from_same ready

pub become_both : (xs ys : List Item) (a b c : Sides) → Becomes xs a.positions a b → Becomes ys b.positions b c → Becomes ys a.positions a c
become_both xs ys a b c f g = record {
  view = g.view ∙ ap (λ (v : View). record v { items = ys }) f.view;
  origins = g.origins ∙ f.origins;
  settings = g.settings ∙ f.settings;
  ready = g.ready;
}

pub items_now : (xs : List Item) (a b : Sides) → Becomes xs a.positions a b → items_of b ≡ xs
items_now xs a b f = ap (λ (v : View). v.items) f.view

pub as_many_now : (xs : List Item) (a b : Sides) → Becomes xs a.positions a b → length (all_glyphs b) ≡ length (all_glyphs a)
as_many_now xs a b f = sym (length-map (all_glyphs b) origin_of) ∙ ap (λ (os : List Origin). length os) f.origins ∙ length-map (all_glyphs a) origin_of
