-- Stages that change glyphs and positions of a text without events, and its fragments alike.
use Rattle.std.proofs.Common.{ℕ, suc, ◌≡◌, ◌≤◌, ◌+◌, ◌*◌, Bool, true, false, if◌then◌else◌, List, [], ◌∷◌, ◌++◌, Option, None, Some, length, map, arith, refl, ap, ◌∙◌}
use Rattle.std.proofs.lemmas.List.{length-map, map-append}
use Rattle.buffer_common.specs.declared.constants.BufferFlags.{BufferFlags}
use Rattle.buffer_common.specs.declared.direction.Direction.{Direction}
use Rattle.buffer_glyphs.specs.Items.{Item, Position, zero_position}
use Rattle.buffer_glyphs.specs.LigatureWords.{lig_id}
use Rattle.buffer_core.specs.Readings.{View, always, with_events}
use Rattle.buffer_core.specs.Sides.{zero_positions}
use Rattle.buffer_stages.specs.Stages.{with_items_mapped}
use Rattle.buffer_parts.specs.Breaks.Fragments.{as_they_stand, with_ligature_renamed}
use Rattle.buffer_parts.specs.Breaks.Divisible.{IsFreelyDivisible}
use Rattle.buffer_parts.proofs.BreakLemmas.Division.{items_are_divisible, same_is_divisible}
use Rattle.buffer_properties.specs.Categories.{is_nonspacing_mark}
use Rattle.layout_face.specs.declared.parts.FaceParts.{FaceParts}
use Rattle.layout_gsub.specs.GlyphClasses.{item_with_font_class, with_font_classes}
use Rattle.layout_offsets.specs.Starting.{links_cleared, unattached_position}
use Rattle.shape_fallback.specs.Classes.{fallback_class, item_with_fallback_class, with_fallback_classes}
use Rattle.shape_fallback.specs.Spaces.{space_position, with_spaces}
use Rattle.shape_fallback.specs.Zeroing.{mark_zeroed, with_marks_zeroed}
use Rattle.shape_glyphs.specs.Advances.{default_position, with_default_positions}
use Rattle.shape_glyphs.specs.Glyphs.{as_glyph, item_with_synthesized_class, with_glyphs, with_synthesized_classes}
use Rattle.shape_glyphs.specs.Ignorables.{hidden_item}
use Rattle.shape_glyphs.specs.Selectors.{is_recorded_selector, selector_position, shown_selector, with_selectors, with_selectors_shown}
use Rattle.ucd_category.specs.declared.GeneralCategory.TheVariants.{NonspacingMark}
use Rattle.buffer_unicode.specs.Category.{category_number}
use Rattle.buffer_properties.specs.Properties.{without_bits}
use Rattle.buffer_properties.specs.Characters.{with_category}
use Rattle.shape_glyphs.specs.Widths.{ignorable_position, keeps_widths, zero_widths}
use Rattle.buffer_glyphs.specs.PropertyWords.{is_default_ignorable}
use Rattle.shape_pipeline.specs.Positioning.{adjusts_marks}
use Rattle.shape_laws.specs.Breaks.GlyphLaws.{GlyphStagesDivide}
use Rattle.shape_laws.proofs.BreakLemmas.Changes.{IgnoresLigatures, RenamesAlike}
use Rattle.shape_laws.proofs.BreakLemmas.Changed.{ChangesApart, IsLikeView, apart_in_turn, changed_fragments, eventless_is_divisible, items_apart, items_changed, positions_apart, positions_changed}

-- ---- items

-- a change that is made by a condition, and neither reads nor changes the ligature word
spares_if : (b : Bool) (f : Item → Item) (n : ℕ) (x : Item) → f (record x { lig_props = n }) ≡ record (f x) { lig_props = n } → (if b then f (record x { lig_props = n }) else record x { lig_props = n }) ≡ record (if b then f x else x) { lig_props = n }
spares_if true f n x e = e
spares_if false f n x e = refl

pub fallback_classes_divide : (falls : Bool) → IsFreelyDivisible falls falls (always with_fallback_classes) (always with_fallback_classes) (always with_fallback_classes)
fallback_classes_divide falls = items_are_divisible falls item_with_fallback_class (λ n x. spares_if (is_nonspacing_mark x) (λ (y : Item). record y { class = fallback_class y.number y.class }) n x refl)

pub glyphs_divide : (falls : Bool) → IsFreelyDivisible falls falls (always with_glyphs) (always with_glyphs) (always with_glyphs)
glyphs_divide falls = items_are_divisible falls as_glyph (λ n x. refl)

pub synthesized_divide : (falls : Bool) → IsFreelyDivisible falls falls (always with_synthesized_classes) (always with_synthesized_classes) (always with_synthesized_classes)
synthesized_divide falls = items_are_divisible falls item_with_synthesized_class (λ n x. refl)

classed_alike : (font : FaceParts) → RenamesAlike (item_with_font_class font)
classed_alike font = record {
  renamed = λ name x none. let word : 0 ≡ name 0 * 0x2000_0000 + 0 = omega (arith, none) in ap (λ (n : ℕ). record (item_with_font_class font x) { lig_props = n }) word;
  given = λ last x h. omega arith;
}

pub font_classes_divide : (falls : Bool) (font : FaceParts) → IsFreelyDivisible falls falls (always (with_font_classes font)) (always (with_font_classes font)) (always (with_font_classes font))
font_classes_divide falls font = eventless_is_divisible falls (items_changed (item_with_font_class font)) (items_changed (item_with_font_class font)) (items_changed (item_with_font_class font)) (items_apart falls (item_with_font_class font) (classed_alike font))

-- ---- lists of positions

-- a change of lists of positions does to two lists what it does to each, and keeps their lengths
record IsListwise (h : List Position → List Position) : Type 0 where
  both : (ps qs : List Position) → h (ps ++ qs) ≡ h ps ++ h qs
  many : (ps : List Position) → length (h ps) ≡ length ps

-- a view with another list of positions
abbrev pub with_list : (List Position → List Position) → View → View
with_list h v = record v { positions = h v.positions }

line_listed : (falls : Bool) (h : List Position → List Position) → IsListwise h → (ps qs : List Position) → h (as_they_stand falls ps qs) ≡ as_they_stand falls (h ps) (h qs)
line_listed false h k ps qs = k.both ps qs
line_listed true h k ps qs = k.both qs ps

listed_apart : (falls : Bool) (h : List Position → List Position) → IsListwise h → ChangesApart falls (with_list h) (with_list h) (with_list h)
listed_apart falls h k = record {
  like = λ v e. like v;
  apart = λ c whole earlier later w j.
      changed_fragments falls c whole earlier later (with_list h whole.view) (with_list h earlier.view) (with_list h later.view) j (like whole.view) (like earlier.view) (like later.view) j.names.early_given j.names.late_given j.items
      (ap h j.positions ∙ line_listed falls h k earlier.view.positions later.view.positions);
}
  where
    like : (v : View) → IsLikeView v (with_list h v)
    like v = record { direction = refl; lig_id = refl; items = refl; positions = k.many v.positions }

zeros_both : (ps qs : List Position) → zero_positions (length (ps ++ qs)) ≡ zero_positions (length ps) ++ zero_positions (length qs)
zeros_both [] qs = refl
zeros_both (p ∷ ps) qs = ap (λ zs. zero_position ∷ zs) (zeros_both ps qs)

zeros_many : (ps : List Position) → length (zero_positions (length ps)) ≡ length ps
zeros_many [] = refl
zeros_many (p ∷ ps) = ap suc (zeros_many ps)

pub zeros_divide : (falls : Bool) → IsFreelyDivisible falls falls (always (λ v. with_events [] (with_list (λ ps. zero_positions (length ps)) v))) (always (λ v. with_events [] (with_list (λ ps. zero_positions (length ps)) v))) (always (λ v. with_events [] (with_list (λ ps. zero_positions (length ps)) v)))
zeros_divide falls = eventless_is_divisible falls (with_list (λ ps. zero_positions (length ps))) (with_list (λ ps. zero_positions (length ps))) (with_list (λ ps. zero_positions (length ps))) (listed_apart falls (λ ps. zero_positions (length ps)) (record { both = zeros_both; many = zeros_many }))

pub cleared_divide : (falls : Bool) → IsFreelyDivisible falls falls (always links_cleared) (always links_cleared) (always links_cleared)
cleared_divide falls = eventless_is_divisible falls (with_list (map unattached_position)) (with_list (map unattached_position)) (with_list (map unattached_position)) (listed_apart falls (map unattached_position) (record { both = map-append unattached_position; many = λ ps. length-map ps unattached_position }))

-- ---- positions, each by its item

pub positions_divide : (falls : Bool) (k : Direction → Item → Position → Position) → ((d : Direction) → IgnoresLigatures (k d))
    → IsFreelyDivisible falls falls (always (λ v. with_events [] (positions_changed k v))) (always (λ v. with_events [] (positions_changed k v))) (always (λ v. with_events [] (positions_changed k v)))
positions_divide falls k none = eventless_is_divisible falls (positions_changed k) (positions_changed k) (positions_changed k) (positions_apart falls k none)

pub advances_divide : (falls : Bool) (font : FaceParts) → IsFreelyDivisible falls falls (always (with_default_positions font)) (always (with_default_positions font)) (always (with_default_positions font))
advances_divide falls font = positions_divide falls (λ d. default_position d font) (λ d n x p. refl)

pub spaces_divide : (falls : Bool) (font : FaceParts) → IsFreelyDivisible falls falls (always (with_spaces font)) (always (with_spaces font)) (always (with_spaces font))
spaces_divide falls font = positions_divide falls (λ d. space_position d font) (λ d n x p. refl)

pub zeroing_divides : (falls : Bool) (adjust : Direction → Bool) → IsFreelyDivisible falls falls (always (λ v. with_marks_zeroed (adjust v.direction) v)) (always (λ v. with_marks_zeroed (adjust v.direction) v)) (always (λ v. with_marks_zeroed (adjust v.direction) v))
zeroing_divides falls adjust = positions_divide falls (λ d. mark_zeroed (adjust d)) (λ d n x p. refl)

widths_by : (falls keeps : Bool) → IsFreelyDivisible falls falls (always (λ v. if keeps then with_events [] v else with_events [] (positions_changed (λ d. ignorable_position) v))) (always (λ v. if keeps then with_events [] v else with_events [] (positions_changed (λ d. ignorable_position) v))) (always (λ v. if keeps then with_events [] v else with_events [] (positions_changed (λ d. ignorable_position) v)))
widths_by falls true = same_is_divisible falls
widths_by falls false = positions_divide falls (λ d. ignorable_position) (λ d n x p. refl)

pub widths_divide : (falls : Bool) (flags : BufferFlags) → IsFreelyDivisible falls falls (always (zero_widths flags)) (always (zero_widths flags)) (always (zero_widths flags))
widths_divide falls flags = widths_by falls (keeps_widths flags)

-- ---- variation selectors

renamed_if : (b : Bool) (f : Item → Item) (name : ℕ → ℕ) (x : Item) → f (with_ligature_renamed name x) ≡ with_ligature_renamed name (f x) → (if b then f (with_ligature_renamed name x) else with_ligature_renamed name x) ≡ with_ligature_renamed name (if b then f x else x)
renamed_if true f name x e = e
renamed_if false f name x e = refl

given_if : (b : Bool) (f : Item → Item) (last : ℕ) (x : Item) → lig_id (f x) ≤ last → lig_id x ≤ last → lig_id (if b then f x else x) ≤ last
given_if true f last x h g = h
given_if false f last x h g = g

-- a selector as it is shown
abbrev visible_selector : ℕ → Item → Item
visible_selector glyph x = record x { number = glyph; unicode_props = without_bits 0x400 (with_category (category_number NonspacingMark) x.unicode_props) }

shown_alike : (glyph : ℕ) → RenamesAlike (shown_selector glyph)
shown_alike glyph = record {
  renamed = λ name x none. renamed_if (is_recorded_selector x) (visible_selector glyph) name x refl;
  given = λ last x h. given_if (is_recorded_selector x) (visible_selector glyph) last x h h;
}

shown_divide : (falls : Bool) (glyph : ℕ) → IsFreelyDivisible falls falls (always (with_selectors_shown glyph)) (always (with_selectors_shown glyph)) (always (with_selectors_shown glyph))
shown_divide falls glyph =
    let f = positions_changed (λ d. selector_position) in
    let g = items_changed (shown_selector glyph) in
    eventless_is_divisible falls (λ v. g (f v)) (λ v. g (f v)) (λ v. g (f v)) (apart_in_turn falls f f f g g g (positions_apart falls (λ d. selector_position) (λ d n x p. refl)) (items_apart falls (shown_selector glyph) (shown_alike glyph)))

pub selectors_divide : (falls : Bool) (set : Option ℕ) → IsFreelyDivisible falls falls (always (with_selectors set)) (always (with_selectors set)) (always (with_selectors set))
selectors_divide falls None = same_is_divisible falls
selectors_divide falls (Some glyph) = shown_divide falls glyph

-- ---- default ignorables that get a glyph

pub hidden_divide : (falls : Bool) (glyph : ℕ) → IsFreelyDivisible falls falls (always (with_items_mapped (hidden_item glyph))) (always (with_items_mapped (hidden_item glyph))) (always (with_items_mapped (hidden_item glyph)))
hidden_divide falls glyph = items_are_divisible falls (hidden_item glyph) (λ n x. spares_if (is_default_ignorable x) (λ (y : Item). record y { number = glyph }) n x refl)

-- ---- all of them

pub glyph_stages_divide : GlyphStagesDivide
glyph_stages_divide = record {
  fallback_classes = fallback_classes_divide;
  glyphs = glyphs_divide;
  font_classes = font_classes_divide;
  synthesized_classes = synthesized_divide;
  zero_positions = zeros_divide;
  advances = advances_divide;
  spaces = spaces_divide;
  links = cleared_divide;
  zeroing = λ falls p. zeroing_divides falls (adjusts_marks p);
  widths = widths_divide;
  selectors = selectors_divide;
}
