-- Stages on glyphs and positions.
use Rattle.std.proofs.Common.{ℕ, ◌≡◌, ◌<◌, ◌+◌, ◌-◌, ◌==◌, ◌||◌, not, Bool, true, false, if◌then◌else◌, List, [], ◌∷◌, length, map, Option, None, Some, arith, refl, sym, ap, subst, ◌∙◌}
use Rattle.std.proofs.lemmas.Bool.Decides.{nat_tests}
use Rattle.std.proofs.lemmas.Grind.{common_steps}
use Rattle.std.proofs.lemmas.List.{length-map}
use Rattle.buffer_glyphs.specs.declared.level.BufferClusterLevel.{BufferClusterLevel}
use Rattle.buffer_glyphs.specs.Events.{Break, Delete, Spread}
use Rattle.buffer_glyphs.specs.Items.{Item, item_masked}
use Rattle.buffer_lists.specs.Events.{deletions, deletions_from}
use Rattle.buffer_lists.specs.Facts.{items_kept}
use Rattle.buffer_lists.proofs.Lemmas.DeletedEvents.{deletions_are_plain}
use Rattle.buffer_parts.specs.Counts.{AreGiving, count_after, count_after_event}
use Rattle.buffer_parts.specs.Plainly.{ArePlainlyKept, AreSteady}
use Rattle.buffer_parts.specs.Turns.{IsUnturned}
use Rattle.buffer_parts.specs.Lemmas.Plainly.{both_steady, steady_kept}
use Rattle.buffer_glyphs.specs.PropertyWords.{is_default_ignorable}
use Rattle.buffer_core.specs.Readings.{View, Read, always, with_events}
use Rattle.buffer_parts.specs.Lemmas.PlainStages.{ReadsPlainly, even_plainly}
use Rattle.layout_offsets.specs.Finishing.{all_drawn_if, has_attachments, links_followed}
use Rattle.layout_offsets.specs.Starting.{links_cleared}
use Rattle.shape_fallback.specs.Classes.{item_with_fallback_class}
use Rattle.shape_fallback.specs.Marks.{base_events, first_event, marks, with_positioned_marks}
use Rattle.shape_fallback.specs.Spaces.{with_spaces}
use Rattle.shape_fallback.specs.Zeroing.{with_marks_zeroed}
use Rattle.shape_glyphs.specs.Advances.{with_default_positions}
use Rattle.layout_gsub.specs.GlyphClasses.{item_with_font_class}
use Rattle.shape_glyphs.specs.Flags.{with_flags_spread}
use Rattle.shape_glyphs.specs.Glyphs.{as_glyph, item_with_synthesized_class}
use Rattle.shape_glyphs.specs.Ignorables.{hidden_item, ignorables_hidden_by, invisible_glyph, preserves_ignorables}
use Rattle.shape_glyphs.specs.Selectors.{shown_selector, with_selectors, with_selectors_shown}
use Rattle.shape_glyphs.specs.Widths.{ignorable_position, keeps_widths}
use Rattle.buffer_stages.specs.PositionMaps.{with_positions_mapped}
use Rattle.buffer_properties.specs.Characters.{is_mark}
use Rattle.shape_parts.specs.Lines.{StaysInLine}
use Rattle.shape_parts.specs.StageLaws.{AdvancesStayInLine, ClearedLinksStayInLine, FallbackClassesStayInLine, FollowedLinksStayInLine, FontClassesStayInLine, GlyphsStayInLine, IgnorablesStayInLine, PositionedMarksStayInLine, SelectorsStayInLine, SpacesStayInLine, SpreadStaysInLine, SynthesizedClassesStayInLine, ZeroedMarksStayInLine, ZeroedWidthsStayInLine}
use Rattle.shape_parts.proofs.StageLines.{always_in_line, mapped_in_line}

-- ---- glyphs

pub fallback_classes_stay : FallbackClassesStayInLine
fallback_classes_stay = mapped_in_line item_with_fallback_class

pub glyphs_stay : GlyphsStayInLine
glyphs_stay = mapped_in_line as_glyph

pub font_classes_stay : FontClassesStayInLine
font_classes_stay font = mapped_in_line (item_with_font_class font)

pub synthesized_classes_stay : SynthesizedClassesStayInLine
synthesized_classes_stay = mapped_in_line item_with_synthesized_class

selectors_read : (glyph : Option ℕ) (v : View) (level : BufferClusterLevel) → ReadsPlainly (length v.items) (with_selectors glyph v) level
selectors_read None v level = steady_kept [] (length v.items) tt
selectors_read (Some glyph) v level = even_plainly [] v (with_selectors_shown glyph v).view level tt (length-map v.items (shown_selector glyph))

selectors_direction : (glyph : Option ℕ) (v : View) → (with_selectors glyph v).view.direction ≡ v.direction
selectors_direction None v = refl
selectors_direction (Some glyph) v = refl

pub selectors_stay : SelectorsStayInLine
selectors_stay glyph = always_in_line (with_selectors glyph) (selectors_read glyph) (selectors_direction glyph)

pub spread_stays : SpreadStaysInLine
spread_stays = always_in_line with_flags_spread (λ v level. even_plainly (Spread ∷ []) v (record v { items = map (item_masked 0) v.items }) level tt (length-map v.items (item_masked 0))) (λ v. refl)

-- ---- default ignorables

deletions_unturned : (q : Item → Bool) (at : ℕ) (xs : List Item) → IsUnturned (deletions_from q at xs)
deletions_unturned q at [] = tt
deletions_unturned q at (x ∷ xs) = elim (q x) as (λ b. IsUnturned (if b then Delete at ∷ deletions_from q at xs else deletions_from q (at + 1) xs)) [ true ↦ deletions_unturned q at xs | false ↦ deletions_unturned q (at + 1) xs ]

deletions_give : (q : Item → Bool) (at : ℕ) (xs : List Item) → AreGiving (deletions_from q at xs)
deletions_give q at [] = tt
deletions_give q at (x ∷ xs) = elim (q x) as (λ b. AreGiving (if b then Delete at ∷ deletions_from q at xs else deletions_from q (at + 1) xs)) [ true ↦ deletions_give q at xs | false ↦ deletions_give q (at + 1) xs ]

pub one_gone : (at n : ℕ) → at < n → count_after_event n (Delete at) ≡ n - 1
one_gone at n lt = grind (arith, nat_tests, common_steps, lt)

-- so many items were passed, and the others are left
pub deletions_count : (q : Item → Bool) (at : ℕ) (xs : List Item) (n : ℕ) → n ≡ at + length xs → count_after (deletions_from q at xs) n ≡ at + length (items_kept q xs)
deletions_count q at [] n e = e
deletions_count q at (x ∷ xs) n e = by_test (q x) (deletions_count q at xs (n - 1) (omega (arith, e))) (deletions_count q (at + 1) xs n (omega (arith, e)))
  where
    by_test : (b : Bool) → count_after (deletions_from q at xs) (n - 1) ≡ at + length (items_kept q xs) → count_after (deletions_from q (at + 1) xs) n ≡ at + 1 + length (items_kept q xs)
        → count_after (if b then Delete at ∷ deletions_from q at xs else deletions_from q (at + 1) xs) n ≡ at + length (if not b then x ∷ items_kept q xs else items_kept q xs)
    by_test true gone kept = ap (count_after (deletions_from q at xs)) (one_gone at n (omega (arith, e))) ∙ gone
    by_test false gone kept = omega (arith, kept)

deletions_kept : (q : Item → Bool) (xs : List Item) → ArePlainlyKept (deletions q xs) (length xs) (length (items_kept q xs))
deletions_kept q xs = record {
  plain = deletions_are_plain q 0 xs;
  unturned = deletions_unturned q 0 xs;
  giving = deletions_give q 0 xs;
  counted = deletions_count q 0 xs (length xs) (omega arith) ∙ omega arith;
}

hidden_reads : (glyph : Option ℕ) (v : View) (level : BufferClusterLevel) → ReadsPlainly (length v.items) (ignorables_hidden_by glyph v) level
hidden_reads (Some glyph) v level = even_plainly [] v (record v { items = map (hidden_item glyph) v.items }) level tt (length-map v.items (hidden_item glyph))
hidden_reads None v level = deletions_kept is_default_ignorable v.items

hidden_direction : (glyph : Option ℕ) (v : View) → (ignorables_hidden_by glyph v).view.direction ≡ v.direction
hidden_direction (Some glyph) v = refl
hidden_direction None v = refl

pub ignorables_stay : IgnorablesStayInLine
ignorables_stay flags set font = by_test (preserves_ignorables flags)
  where
    by_test : (b : Bool) → StaysInLine (always (λ v. if b then with_events [] v else ignorables_hidden_by (invisible_glyph flags set font) v))
    by_test true = always_in_line (λ v. with_events [] v) (λ v level. steady_kept [] (length v.items) tt) (λ v. refl)
    by_test false = always_in_line (ignorables_hidden_by (invisible_glyph flags set font)) (hidden_reads (invisible_glyph flags set font)) (hidden_direction (invisible_glyph flags set font))

-- ---- positions

same_items : (f : View → Read) → ((v : View) (level : BufferClusterLevel) → AreSteady ((f v).events level)) → ((v : View) → length (f v).view.items ≡ length v.items) → ((v : View) → (f v).view.direction ≡ v.direction) → StaysInLine (always f)
same_items f p q d = always_in_line f (λ v level. subst (λ (n : ℕ). ArePlainlyKept ((f v).events level) (length v.items) n) (sym (q v)) (steady_kept ((f v).events level) (length v.items) (p v level))) d

pub advances_stay : AdvancesStayInLine
advances_stay font = same_items (with_default_positions font) (λ v level. tt) (λ v. refl) (λ v. refl)

pub spaces_stay : SpacesStayInLine
spaces_stay font = same_items (with_spaces font) (λ v level. tt) (λ v. refl) (λ v. refl)

pub cleared_links_stay : ClearedLinksStayInLine
cleared_links_stay = same_items links_cleared (λ v level. tt) (λ v. refl) (λ v. refl)

pub followed_links_stay : FollowedLinksStayInLine
followed_links_stay = same_items links_followed (λ v level. steady (has_attachments v.scratch_flags) v level) (λ v. many (has_attachments v.scratch_flags) v) (λ v. direction (has_attachments v.scratch_flags) v)
  where
    steady : (b : Bool) (v : View) (level : BufferClusterLevel) → AreSteady ((all_drawn_if b v).events level)
    steady true v level = tt
    steady false v level = tt

    many : (b : Bool) (v : View) → length (all_drawn_if b v).view.items ≡ length v.items
    many true v = refl
    many false v = refl

    direction : (b : Bool) (v : View) → (all_drawn_if b v).view.direction ≡ v.direction
    direction true v = refl
    direction false v = refl

pub zeroed_marks_stay : ZeroedMarksStayInLine
zeroed_marks_stay adjusts = same_items (λ v. with_marks_zeroed (adjusts v.direction) v) (λ v level. tt) (λ v. refl) (λ v. refl)

first_steady : (at : ℕ) (xs : List Item) → AreSteady (first_event at xs)
first_steady at [] = tt
first_steady at (x ∷ xs) = elim (is_mark x || marks xs == 0) as (λ b. AreSteady (if b then [] else Break at (at + 1 + marks xs) ∷ [])) [ true ↦ tt | false ↦ tt ]

bases_steady : (at : ℕ) (xs : List Item) → AreSteady (base_events at xs)
bases_steady at [] = tt
bases_steady at (x ∷ xs) = both_steady (first_event at (x ∷ xs)) (base_events (at + 1) xs) (first_steady at (x ∷ xs)) (bases_steady (at + 1) xs)

pub positioned_marks_stay : PositionedMarksStayInLine
positioned_marks_stay font components adjusts = same_items (λ v. with_positioned_marks font components (adjusts v.direction) v) (λ v level. bases_steady 0 v.items) (λ v. refl) (λ v. refl)

pub zeroed_widths_stay : ZeroedWidthsStayInLine
zeroed_widths_stay flags = by_test (keeps_widths flags)
  where
    by_test : (b : Bool) → StaysInLine (always (λ v. if b then with_events [] v else with_positions_mapped ignorable_position v))
    by_test true = same_items (λ v. with_events [] v) (λ v level. tt) (λ v. refl) (λ v. refl)
    by_test false = same_items (with_positions_mapped ignorable_position) (λ v level. tt) (λ v. refl) (λ v. refl)
