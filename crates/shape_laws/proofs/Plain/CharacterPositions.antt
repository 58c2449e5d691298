-- The positions of a plain text's glyphs.
use Rattle.std.proofs.Common.{ℕ, ◌≡◌, ◌&&◌, ◌==◌, Bool, true, false, not, if◌then◌else◌, nat_le, List, [], ◌∷◌, map, length, reverse, refl, sym, ap, subst, ◌∙◌}
use Rattle.std.specs.Prelude.{bit_and, Some}
use Rattle.std.proofs.lemmas.List.{length-map, length-replicate}
use Rattle.std.specs.List.{list_any}
use Rattle.buffer_common.specs.declared.direction.Direction.{Direction}
use Rattle.buffer_common.specs.declared.direction.Direction.TheVariants.{LeftToRight}
use Rattle.buffer_common.specs.Direction.{is_backward}
use Rattle.ucd_category.specs.declared.GeneralCategory.TheVariants.{SpaceSeparator}
use Rattle.buffer_unicode.specs.Category.{category_number}
use Rattle.layout_face.specs.declared.parts.FaceParts.{FaceParts}
use Rattle.buffer_properties.specs.Properties.{properties_of}
use Rattle.buffer_glyphs.specs.Items.{Item, Position, zero_position}
use Rattle.buffer_glyphs.specs.Events.{Reverse}
use Rattle.buffer_core.specs.Readings.{View, always, with_events}
use Rattle.buffer_glyphs.specs.PropertyWords.{is_default_ignorable}
use Rattle.buffer_core.specs.Sides.{zero_positions}
use Rattle.layout_offsets.specs.Finishing.{all_drawn_if, has_attachments, links_followed}
use Rattle.layout_offsets.specs.Starting.{links_cleared, unattached_position}
use Rattle.buffer_glyphs.specs.LigatureWords as ligatures
use Rattle.layout_positioning.specs.Positioning.{positioning_stages}
use Rattle.shape_glyphs.specs.Advances.{default_position, on_line, with_default_positions}
use Rattle.buffer_properties.specs.Characters.{is_mark, is_mark_number, is_space}
use Rattle.buffer_stages.specs.PositionMaps.{with_positions_mapped, positions_mapped}
use Rattle.shape_fallback.specs.Spaces.{is_own_space, space_position, space_of_type, with_spaces}
use Rattle.shape_fallback.specs.Zeroing.{mark_zeroed, zeroed_position}
use Rattle.shape_glyphs.specs.Widths.{ignorable_position, keeps_widths, widthless, zero_widths}
use Rattle.shape_fallback.specs.Marks.{components_direction}
use Rattle.shape_fallback.proofs.Lemmas.Unmarked.{unmarked_stay}
use Rattle.script_plan.specs.declared.planned.TheConstants.{HB_OT_SHAPE_ZERO_WIDTH_MARKS_BY_GDEF_EARLY, HB_OT_SHAPE_ZERO_WIDTH_MARKS_BY_GDEF_LATE}
use Rattle.shape_pipeline.specs.Chains.{only_if}
use Rattle.shape_pipeline.specs.Positioning.{adjusts_marks, visual_order, marks_positioned, marks_zeroed, positions_adjusted, positions_begun, positions_ended, with_zero_positions, zeroes_marks}
use Rattle.shape_pipeline.specs.Reading.{positioning_stage}
use Rattle.shape_pipeline.specs.Shaping.{Shaping, pauses_of}
use Rattle.shape_laws.specs.PlainTexts.{IsPlainShaping, glyph_of, position_of_character}
use Rattle.shape_laws.proofs.Plain.Texts.{Are, IsPlain, Leads, always_leads, are_many, both_lead, either, its_number, last_leads, skipped}
use Rattle.shape_laws.proofs.Plain.Chosen.{Placed}
use Rattle.shape_laws.proofs.Plain.Glyphs.{Based}
use Rattle.shape_laws.proofs.Plain.Words.{word_category, word_mark, word_shown}
use Rattle.buffer_facts.proofs.Truth.{lacks_first as and_if}

-- ---- positions by glyphs

-- each position is what the font says
all_placed : (font : FaceParts) (k : Item → Position → Position) → ((u : ℕ) (x : Item) → Based font u x → k x zero_position ≡ position_of_character font u) → (us : List ℕ) (xs : List Item) → Are (Based font) us xs
    → positions_mapped k xs (zero_positions (length us)) ≡ map (position_of_character font) us
all_placed font k h [] [] a = refl
all_placed font k h [] (x ∷ xs) a = absurd a
all_placed font k h (u ∷ us) [] a = absurd a
all_placed font k h (u ∷ us) (x ∷ xs) a = rw (h u x a.0, all_placed font k h us xs a.1) refl

-- a rule that moves none of them
pub none_moved : (font : FaceParts) (k : Item → Position → Position) → ((u : ℕ) (x : Item) (p : Position) → Based font u x → k x p ≡ p) → (us : List ℕ) (xs : List Item) → Are (Based font) us xs
    → positions_mapped k xs (map (position_of_character font) us) ≡ map (position_of_character font) us
none_moved font k h [] [] a = refl
none_moved font k h [] (x ∷ xs) a = absurd a
none_moved font k h (u ∷ us) [] a = absurd a
none_moved font k h (u ∷ us) (x ∷ xs) a = rw (h u x (position_of_character font u) a.0, none_moved font k h us xs a.1) refl

known_if : (g : ℕ) (p q : Position) → nat_le g 65535 ≡ true → (if nat_le g 65535 then p else q) ≡ p
known_if g p q e = rw e refl

pub positioned_at : (font : FaceParts) (u : ℕ) (x : Item) → Based font u x → default_position LeftToRight font x zero_position ≡ position_of_character font u
positioned_at font u x b =
    ap (λ n. if nat_le n 65535 then on_line LeftToRight font n zero_position else zero_position) b.number
    ∙ known_if (glyph_of font u) (on_line LeftToRight font (glyph_of font u) zero_position) zero_position (its_number font u b.plain)

-- ---- no space, no mark, nothing ignorable

pub kept_if : (b : Bool) (p q : Position) → b ≡ false → (if b then q else p) ≡ p
kept_if true p q e = cc
kept_if false p q e = refl

unspaced : (d : Direction) (font : FaceParts) (u : ℕ) (x : Item) (p : Position) → Based font u x → space_position d font x p ≡ p
unspaced d font u x p b =
    let space : is_space x ≡ false = ap (λ w. bit_and w 0x1F == category_number SpaceSeparator) b.word ∙ ap (λ n. n == category_number SpaceSeparator) (word_category u b.plain.shown) ∙ b.plain.printed in
    kept_if (is_own_space x) p (space_of_type d font x.class p) (and_if (is_space x) _ space)

unzeroed : (adjust : Bool) (font : FaceParts) (u : ℕ) (x : Item) (p : Position) → Based font u x → mark_zeroed adjust x p ≡ p
unzeroed adjust font u x p b = let R : ℕ → Type 0 = λ n. (if ligatures.is_mark (record x { glyph_props = n }) then zeroed_position adjust p else p) ≡ p in subst R (sym b.base) refl

pub not_ignorable : (font : FaceParts) (u w n : ℕ) → IsPlain font u → w ≡ properties_of u → (not (bit_and w 0x20 == 0) && bit_and n 16 == 0) ≡ false
not_ignorable font u w n p e = ap (λ m. not (bit_and m 0x20 == 0) && bit_and n 16 == 0) e ∙ ap (λ m. not (m == 0) && bit_and n 16 == 0) (word_shown u p.shown)

widened : (font : FaceParts) (u : ℕ) (x : Item) (p : Position) → Based font u x → ignorable_position x p ≡ p
widened font u x p b = kept_if (is_default_ignorable x) p (widthless p) (not_ignorable font u x.unicode_props x.glyph_props b.plain b.word)

pub not_mark : (font : FaceParts) (u : ℕ) (x : Item) → Based font u x → is_mark x ≡ false
not_mark font u x b = ap (λ w. is_mark_number (bit_and w 0x1F)) b.word ∙ word_mark false u b.plain.shown ∙ b.plain.unmarked

none_marked : (font : FaceParts) (us : List ℕ) (xs : List Item) → Are (Based font) us xs → list_any is_mark xs ≡ false
none_marked font [] [] a = refl
none_marked font [] (x ∷ xs) a = absurd a
none_marked font (u ∷ us) [] a = absurd a
none_marked font (u ∷ us) (x ∷ xs) a = rw (not_mark font u x a.0, none_marked font us xs a.1) refl

-- ---- the stages

-- glyphs with their positions
abbrev pub AtPositions : FaceParts → List ℕ → View → Type 0
AtPositions font us v = Placed (Based font) (map (position_of_character font) us) us v

-- other positions that are the same
moved : (font : FaceParts) (us : List ℕ) (v : View) (ps : List Position) → ps ≡ map (position_of_character font) us → AtPositions font us v → AtPositions font us (record v { positions = ps })
moved font us v ps e a = let s = a.stands in record { stands = record { items = s.items; line = s.line; scratch_flags = s.scratch_flags; room = s.room }; positions = e }

placed_stands : (font : FaceParts) (k : Item → Position → Position) → ((u : ℕ) (x : Item) (p : Position) → Based font u x → k x p ≡ p) → (us : List ℕ) (v : View) → AtPositions font us v → AtPositions font us (with_positions_mapped k v).view
placed_stands font k h us v a = moved font us v (positions_mapped k v.items v.positions) (ap (positions_mapped k v.items) a.positions ∙ none_moved font k h us v.items a.stands.items) a

unlinked : (font : FaceParts) (us : List ℕ) → map unattached_position (map (position_of_character font) us) ≡ map (position_of_character font) us
unlinked font [] = refl
unlinked font (u ∷ us) = rw (unlinked font us) refl

nothing_stands : (font : FaceParts) (us : List ℕ) (v : View) → Placed (Based font) (zero_positions (length us)) us v → Placed (Based font) (zero_positions (length us)) us (with_zero_positions v).view
nothing_stands font us v a =
    let s = a.stands in
    record { stands = record { items = s.items; line = s.line; scratch_flags = s.scratch_flags; room = s.room }; positions = ap (λ ps. zero_positions (length ps)) a.positions ∙ ap zero_positions (length-replicate (length us) zero_position) }

defaults_stand : (font : FaceParts) (us : List ℕ) (v : View) → Placed (Based font) (zero_positions (length us)) us v → AtPositions font us (with_default_positions font v).view
defaults_stand font us v a =
    let s = a.stands in
    let e : positions_mapped (default_position v.direction font) v.items v.positions ≡ map (position_of_character font) us =
    ap (λ d. positions_mapped (default_position d font) v.items v.positions) s.line ∙ ap (positions_mapped (default_position LeftToRight font) v.items) a.positions ∙ all_placed font (default_position LeftToRight font) (positioned_at font) us v.items s.items in
    record { stands = record { items = s.items; line = s.line; scratch_flags = s.scratch_flags; room = s.room }; positions = e }

begun_positions : (p : Shaping) (us : List ℕ) → Leads (Placed (Based p.font) (zero_positions (length us)) us) (AtPositions p.font us) (positions_begun p)
unfolding positions_begun
begun_positions p us =
    let Z = Placed (Based p.font) (zero_positions (length us)) us in
    let A = AtPositions p.font us in
    both_lead Z Z A (always with_zero_positions) (always (with_default_positions p.font) ∷ always (with_spaces p.font) ∷ always links_cleared ∷ []) (always_leads Z Z with_zero_positions (nothing_stands p.font us))
    (both_lead Z A A (always (with_default_positions p.font)) (always (with_spaces p.font) ∷ always links_cleared ∷ []) (always_leads Z A (with_default_positions p.font) (defaults_stand p.font us))
    (both_lead A A A (always (with_spaces p.font)) (always links_cleared ∷ []) (always_leads A A (with_spaces p.font) (λ v a. placed_stands p.font (space_position v.direction p.font) (λ u x q b. unspaced v.direction p.font u x q b) us v a))
    (last_leads A A (always links_cleared) (always_leads A A links_cleared (λ v a. moved p.font us v (map unattached_position v.positions) (ap (map unattached_position) a.positions ∙ unlinked p.font us) a)))))

zeroed_leads : (p : Shaping) (us : List ℕ) → Leads (AtPositions p.font us) (AtPositions p.font us) (always (marks_zeroed p))
zeroed_leads p us = always_leads (AtPositions p.font us) (AtPositions p.font us) (marks_zeroed p) (λ v a. placed_stands p.font (mark_zeroed (adjusts_marks p v.direction)) (λ u x q b. unzeroed (adjusts_marks p v.direction) p.font u x q b) us v a)

adjusted_positions : (p : Shaping) (us : List ℕ) → IsPlainShaping p → Leads (AtPositions p.font us) (AtPositions p.font us) (positions_adjusted p)
unfolding positions_adjusted
adjusted_positions p us plain =
    let A = AtPositions p.font us in
    let early = zeroes_marks HB_OT_SHAPE_ZERO_WIDTH_MARKS_BY_GDEF_EARLY p in
    let late = zeroes_marks HB_OT_SHAPE_ZERO_WIDTH_MARKS_BY_GDEF_LATE p in
    let lookups = only_if p.choices.apply_gpos (positioning_stages p.font p.map (pauses_of p)) in
    both_lead A A A (only_if early (always (marks_zeroed p))) (lookups ∷ only_if late (always (marks_zeroed p)) ∷ []) (either A early (always (marks_zeroed p)) (zeroed_leads p us))
    (both_lead A A A lookups (only_if late (always (marks_zeroed p)) ∷ []) (skipped A p.choices.apply_gpos (positioning_stages p.font p.map (pauses_of p)) plain.gpos)
    (last_leads A A (only_if late (always (marks_zeroed p))) (either A late (always (marks_zeroed p)) (zeroed_leads p us))))

widths_stand : (font : FaceParts) (b : Bool) (us : List ℕ) (v : View) → AtPositions font us v → AtPositions font us (if b then with_events [] v else with_positions_mapped ignorable_position v).view
widths_stand font true us v a = a
widths_stand font false us v a = placed_stands font ignorable_position (widened font) us v a

links_stand : (font : FaceParts) (us : List ℕ) (v : View) → AtPositions font us v → AtPositions font us (links_followed v).view
links_stand font us v a =
    let none : has_attachments v.scratch_flags ≡ false = ap (λ n. not (n == 0)) a.stands.scratch_flags in
    let R : Bool → Type 0 = λ b. AtPositions font us (all_drawn_if b v).view in
    subst R (sym none) a

around_stand : (p : Shaping) (us : List ℕ) (v : View) → AtPositions p.font us v → AtPositions p.font us (marks_positioned p v).view
around_stand p us v a =
    let many : length v.positions ≡ length v.items = ap length a.positions ∙ length-map us (position_of_character p.font) ∙ sym (are_many (Based p.font) us v.items a.stands.items) in
    let ps = (marks_positioned p v).view.positions in
    moved p.font us v ps (unmarked_stay p.font (components_direction p.direction (Some p.script)) (adjusts_marks p v.direction) v (none_marked p.font us v.items a.stands.items) many ∙ a.positions) a

drawn_stand : (font : FaceParts) (us : List ℕ) (v : View) → AtPositions font us v → AtPositions font us (visual_order v).view
drawn_stand font us v a =
    let forward : is_backward v.direction ≡ false = ap is_backward a.stands.line in
    let R : Bool → Type 0 = λ b. AtPositions font us (if b then with_events (Reverse ∷ []) (record v { items = reverse v.items; positions = reverse v.positions }) else with_events [] v).view in
    subst R (sym forward) a

ended_positions : (p : Shaping) (us : List ℕ) → Leads (AtPositions p.font us) (AtPositions p.font us) (positions_ended p)
unfolding positions_ended
ended_positions p us =
    let A = AtPositions p.font us in
    both_lead A A A (always (zero_widths p.settings.flags)) (always links_followed ∷ only_if p.choices.fallback_mark_positioning (always (marks_positioned p)) ∷ always visual_order ∷ [])
    (always_leads A A (zero_widths p.settings.flags) (widths_stand p.font (keeps_widths p.settings.flags) us))
    (both_lead A A A (always links_followed) (only_if p.choices.fallback_mark_positioning (always (marks_positioned p)) ∷ always visual_order ∷ []) (always_leads A A links_followed (links_stand p.font us))
    (both_lead A A A (only_if p.choices.fallback_mark_positioning (always (marks_positioned p))) (always visual_order ∷ [])
    (either A p.choices.fallback_mark_positioning (always (marks_positioned p)) (always_leads A A (marks_positioned p) (around_stand p us)))
    (last_leads A A (always visual_order) (always_leads A A visual_order (drawn_stand p.font us)))))

pub positioned_leads : (p : Shaping) (us : List ℕ) → IsPlainShaping p → Leads (Placed (Based p.font) (zero_positions (length us)) us) (AtPositions p.font us) (positioning_stage p)
unfolding positioning_stage
positioned_leads p us plain =
    let Z = Placed (Based p.font) (zero_positions (length us)) us in
    let A = AtPositions p.font us in
    both_lead Z A A (positions_begun p) (positions_adjusted p ∷ positions_ended p ∷ []) (begun_positions p us)
    (both_lead A A A (positions_adjusted p) (positions_ended p ∷ []) (adjusted_positions p us plain) (last_leads A A (positions_ended p) (ended_positions p us)))
