-- Stages on characters: properties, the first circle, clusters of graphemes, mirrored characters.
use Rattle.std.proofs.Common.{ℕ, suc, ◌≡◌, ◌<◌, ◌+◌, ◌==◌, ◌&&◌, not, Bool, true, false, if◌then◌else◌, nat_le, List, [], ◌∷◌, length, map, Ok, Err, arith, refl, sym, ap, subst, ◌∙◌}
use Rattle.std.specs.Prelude.{Option, Some, None, is_some}
use Rattle.std.specs.Int.RustNames.{bit_or}
use Rattle.std.proofs.lemmas.List.{length-map}
use Rattle.buffer_common.specs.declared.constants.BufferFlags.{BufferFlags}
use Rattle.buffer_common.specs.Direction.{is_backward, is_vertical}
use Rattle.buffer_unicode_tables.specs.Tables.{Tables}
use Rattle.buffer_glyphs.specs.declared.cause.ShapeCause.TheVariants.{TooLong}
use Rattle.buffer_glyphs.specs.declared.level.BufferClusterLevel.{BufferClusterLevel}
use Rattle.buffer_glyphs.specs.declared.level.BufferClusterLevel.TheVariants.{MonotoneGraphemes, MonotoneCharacters, Characters, Graphemes}
use Rattle.buffer_glyphs.specs.Events.{Circle}
use Rattle.buffer_glyphs.specs.Items.{Item}
use Rattle.buffer_parts.specs.Plainly.{ArePlainlyKept, AreSteady}
use Rattle.buffer_parts.specs.Lemmas.Plainly.{circle_kept, steady_kept}
use Rattle.buffer_core.specs.Readings.{View, Reading, as_it_is, with_events}
use Rattle.buffer_core.specs.Sides.{zero_positions}
use Rattle.buffer_parts.specs.PlainStages.{KeepsPlainly}
use Rattle.buffer_parts.specs.Lemmas.PlainStages.{ReadsPlainly, even_plainly, limited_plainly, same_plainly}
use Rattle.buffer_parts.specs.Lemmas.Stages.{at_read}
use Rattle.buffer_properties.specs.Properties.{scratch_flags_of}
use Rattle.layout_face.specs.declared.parts.FaceParts.{FaceParts}
use Rattle.layout_face.specs.Glyphs.{nominal_glyph}
use Rattle.shape_text.specs.declared.graphemes.Before.{Before}
use Rattle.shape_text.specs.Properties.{items_prepared, next_before, scratch_flags_of_items, with_properties}
use Rattle.shape_text.specs.Circle.{DOTTED_CIRCLE, begins_with_mark, circled_items, first_circle, flags_want_circle, needs_circle, with_circle}
use Rattle.shape_text.specs.Clusters.{grapheme_events, grapheme_lengths, has_non_ascii, with_clusters}
use Rattle.shape_text.specs.Rotation.{mapped_where, mirrored_item, with_rotated_characters, with_vertical_form}
use Rattle.shape_parts.specs.Lines.{KeepsDirection}
use Rattle.shape_parts.specs.StageLaws.{CircleStaysInLine, ClustersStayInLine, PropertiesStayInLine, RotationStaysInLine}
use Rattle.shape_parts.proofs.StageLines.{always_in_line, plainly_in_line, reads_in_turn}

-- ---- properties

pub prepared_many : (t : Tables) (before : Option Before) (xs : List Item) → length (items_prepared t before xs) ≡ length xs
prepared_many t before [] = refl
prepared_many t before (x ∷ xs) = ap suc (prepared_many t (Some (next_before t before x.number)) xs)

pub properties_stay : PropertiesStayInLine
properties_stay t = always_in_line (with_properties t) (λ v level. even_plainly [] v (record v { items = items_prepared t None v.items; scratch_flags = scratch_flags_of_items v.items v.scratch_flags }) level tt (prepared_many t None v.items)) (λ v. refl)

-- ---- the first circle

pub marked_some : (xs : List Item) → begins_with_mark xs ≡ true → 0 < length xs
marked_some [] e = cc
marked_some (x ∷ xs) e = omega arith

pub circled_many : (t : Tables) (xs : List Item) → 0 < length xs → length (circled_items t xs) ≡ length xs + 1
circled_many t [] some = absurd (omega (arith, some))
circled_many t (x ∷ xs) some = omega arith

pub third_of_four : (a c d : Bool) → ((a && c) && d) ≡ true → c ≡ true
third_of_four a true d e = refl
third_of_four true false d e = cc
third_of_four false false d e = cc

-- a view with a circle before its first item
abbrev pub circle_view : Tables → View → View
circle_view t v = record v { items = circled_items t v.items; positions = zero_positions (length v.items + 1); scratch_flags = bit_or v.scratch_flags (scratch_flags_of DOTTED_CIRCLE) }

circle_reads : (t : Tables) (v : View) (level : BufferClusterLevel) → 0 < length v.items → ReadsPlainly (length v.items) (with_events (Circle false 0 0 ∷ []) (circle_view t v)) level
circle_reads t v level some = subst (λ (n : ℕ). ArePlainlyKept (Circle false 0 0 ∷ []) (length v.items) n) (sym (circled_many t v.items some)) (circle_kept false 0 0 (length v.items) some)

circle_plainly : (t : Tables) (font : FaceParts) (flags : BufferFlags) (context : List ℕ) → KeepsPlainly (first_circle t font flags context)
circle_plainly t font flags context v r level e = by_test (needs_circle flags context font v.items) refl e
  where
    by_test : (b : Bool) → needs_circle flags context font v.items ≡ b → ◌≡◌ {A = Reading} (if b then with_circle t v else as_it_is v) (Ok r) → ReadsPlainly (length v.items) r level
    by_test true needs f =
        let some = marked_some v.items (third_of_four (flags_want_circle flags && length context == 0) (begins_with_mark v.items) (is_some (nominal_glyph DOTTED_CIRCLE font)) needs) in
        limited_plainly (nat_le (length v.items + 1) v.max_len) TooLong (length v.items) (with_events (Circle false 0 0 ∷ []) (circle_view t v)) r level (circle_reads t v level some) f
    by_test false needs f = same_plainly v r level f

with_circle_direction : (t : Tables) → KeepsDirection (with_circle t)
with_circle_direction t v r e = by_test (nat_le (length v.items + 1) v.max_len) e
  where
    by_test : (b : Bool) → ◌≡◌ {A = Reading} (if b then Ok (with_events (Circle false 0 0 ∷ []) (circle_view t v)) else Err TooLong) (Ok r) → r.view.direction ≡ v.direction
    by_test true f = at_read (λ q. q.view.direction ≡ v.direction) (with_events (Circle false 0 0 ∷ []) (circle_view t v)) r f refl
    by_test false f = cc

circle_direction : (t : Tables) (font : FaceParts) (flags : BufferFlags) (context : List ℕ) → KeepsDirection (first_circle t font flags context)
circle_direction t font flags context v r e = by_test (needs_circle flags context font v.items) e
  where
    by_test : (b : Bool) → ◌≡◌ {A = Reading} (if b then with_circle t v else as_it_is v) (Ok r) → r.view.direction ≡ v.direction
    by_test true f = with_circle_direction t v r f
    by_test false f = at_read (λ q. q.view.direction ≡ v.direction) (with_events [] v) r f refl

pub circle_stays : CircleStaysInLine
circle_stays t font flags context = plainly_in_line (first_circle t font flags context) (circle_plainly t font flags context) (circle_direction t font flags context)

-- ---- clusters of graphemes

pub graphemes_steady : (level : BufferClusterLevel) (at : ℕ) (lens : List ℕ) → AreSteady (grapheme_events level at lens)
graphemes_steady level at [] = tt
graphemes_steady MonotoneGraphemes at (n ∷ lens) = graphemes_steady MonotoneGraphemes (at + n) lens
graphemes_steady MonotoneCharacters at (n ∷ lens) = graphemes_steady MonotoneCharacters (at + n) lens
graphemes_steady Characters at (n ∷ lens) = graphemes_steady Characters (at + n) lens
graphemes_steady Graphemes at (n ∷ lens) = graphemes_steady Graphemes (at + n) lens

pub clusters_steady : (b : Bool) (level : BufferClusterLevel) (lens : List ℕ) → AreSteady (if b then grapheme_events level 0 lens else [])
clusters_steady true level lens = graphemes_steady level 0 lens
clusters_steady false level lens = tt

pub clusters_stay : ClustersStayInLine
clusters_stay = always_in_line with_clusters (λ v level. steady_kept (if has_non_ascii v.scratch_flags then grapheme_events level 0 (grapheme_lengths v.items) else []) (length v.items) (clusters_steady (has_non_ascii v.scratch_flags) level (grapheme_lengths v.items))) (λ v. refl)

-- ---- mirrored characters and vertical forms

mapped_reads : (b : Bool) (k : Item → Item) (v : View) (level : BufferClusterLevel) → ReadsPlainly (length v.items) (mapped_where b k v) level
mapped_reads true k v level = even_plainly [] v (record v { items = map k v.items }) level tt (length-map v.items k)
mapped_reads false k v level = steady_kept [] (length v.items) tt

mapped_direction : (b : Bool) (k : Item → Item) (v : View) → (mapped_where b k v).view.direction ≡ v.direction
mapped_direction true k v = refl
mapped_direction false k v = refl

pub rotation_stays : RotationStaysInLine
rotation_stays t font target mask has_vert =
    let mirrors = is_backward target in
    let rises = is_vertical target && not has_vert in
    always_in_line (with_rotated_characters t font target mask has_vert)
    (λ v level. let m = mapped_where mirrors (mirrored_item t font mask) v in reads_in_turn (length v.items) m (mapped_where rises (with_vertical_form t font) m.view) level (mapped_reads mirrors (mirrored_item t font mask) v level) (mapped_reads rises (with_vertical_form t font) m.view level))
    (λ v. let m = mapped_where mirrors (mirrored_item t font mask) v in mapped_direction rises (with_vertical_form t font) m.view ∙ mapped_direction mirrors (mirrored_item t font mask) v)
