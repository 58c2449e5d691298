-- The whole reading of a plain text.
use Rattle.std.proofs.Common.{ℕ, ◌≡◌, ◌==◌, Bool, true, false, not, if◌then◌else◌, List, [], ◌∷◌, map, length, refl, sym, ap, subst, ◌∙◌}
use Rattle.std.specs.Prelude.{bit_and, Option, Some, None}
use Rattle.std.specs.List.{list_all}
use Rattle.std.proofs.lemmas.Bool.{and_parts}
use Rattle.layout_face.specs.declared.parts.FaceParts.{FaceParts}
use Rattle.buffer_glyphs.specs.Items.{Item, Position, item_masked}
use Rattle.buffer_core.specs.Readings.{View, always, as_it_is, with_events}
use Rattle.buffer_glyphs.specs.PropertyWords.{is_default_ignorable}
use Rattle.buffer_core.specs.Sides.{zero_positions}
use Rattle.buffer_lists.specs.Facts.{items_kept, positions_kept}
use Rattle.buffer_stages.specs.PositionMaps.{positions_mapped}
use Rattle.shape_glyphs.specs.Flags.{with_flags_spread}
use Rattle.shape_glyphs.specs.Ignorables.{ignorables_hidden, ignorables_hidden_by, hidden_item, invisible_glyph, preserves_ignorables}
use Rattle.shape_glyphs.specs.Selectors.{is_recorded_selector, selector_position, shown_selector, with_selectors}
use Rattle.shape_glyphs.specs.Widths.{widthless}
use Rattle.script_plan.specs.Rules.{ShaperRules}
use Rattle.shape_pipeline.specs.Characters.{characters_chosen, text_begun}
use Rattle.shape_pipeline.specs.Endings.{text_ended}
use Rattle.shape_pipeline.specs.Glyphs.{glyphs_substituted, glyphs_taken}
use Rattle.shape_pipeline.specs.Limits.{final_view}
use Rattle.shape_pipeline.specs.Masks.{masks_set, ranges_set}
use Rattle.shape_pipeline.specs.Reading.{after_ranges, before_ranges, clusters_after, positioning_stage, reading, shaping_stage}
use Rattle.shape_pipeline.specs.Shaping.{Shaping, postprocessing_stage}
use Rattle.shape_laws.specs.PlainTexts.{IsPlainShaping, PlainTextsShowGlyphs, characters, glyph_of, is_plain, position_of_character}
use Rattle.shape_laws.proofs.Plain.Texts.{Are, Leads, Stands, always_leads, are_same, both_lead, last_leads, leads_as, plain_facts, rests}
use Rattle.shape_laws.proofs.Plain.Begun.{Given, IsText, Ordered, begun_leads}
use Rattle.shape_laws.proofs.Plain.Chosen.{Chosen, Placed, chosen_leads, masks_lead, ranges_lead}
use Rattle.shape_laws.proofs.Plain.Glyphs.{Based, Shown, mapped_stand, substituted_leads, taken_leads, unchanged_if as item_if}
use Rattle.shape_laws.proofs.Plain.CharacterPositions.{AtPositions, none_moved, not_ignorable, positioned_leads, kept_if as position_if}
use Rattle.shape_laws.proofs.Plain.Words.{word_unmarked}

-- ---- the end

no_selector : (font : FaceParts) (u : ℕ) (x : Item) → Based font u x → is_recorded_selector x ≡ false
no_selector font u x b = ap (λ w. not (bit_and w 0x400 == 0)) b.word ∙ ap (λ n. not (n == 0)) (word_unmarked u b.plain.shown)

ignorable_none : (font : FaceParts) (u : ℕ) (x : Item) → Based font u x → is_default_ignorable x ≡ false
ignorable_none font u x b = not_ignorable font u x.unicode_props x.glyph_props b.plain b.word

-- items and positions that stay as they are
same_stand : (font : FaceParts) (us : List ℕ) (v : View) (xs : List Item) (ps : List Position) → xs ≡ v.items → ps ≡ v.positions → AtPositions font us v → AtPositions font us (record v { items = xs; positions = ps })
same_stand font us v xs ps e f a =
    let P : List Item → Type 0 = λ ys. AtPositions font us (record v { items = ys; positions = ps }) in
    let R : List Position → Type 0 = λ qs. AtPositions font us (record v { positions = qs }) in
    subst P (sym e) (subst R (sym f) a)

selectors_same : (font : FaceParts) (g : ℕ) (u : ℕ) (x : Item) → Based font u x → shown_selector g x ≡ x
selectors_same font g u x b = item_if (is_recorded_selector x) x _ (no_selector font u x b)

selectors_stay : (font : FaceParts) (u : ℕ) (x : Item) (p : Position) → Based font u x → selector_position x p ≡ p
selectors_stay font u x p b = position_if (is_recorded_selector x) p (widthless p) (no_selector font u x b)

selected_stand : (font : FaceParts) (set : Option ℕ) (us : List ℕ) (v : View) → AtPositions font us v → AtPositions font us (with_selectors set v).view
selected_stand font None us v a = a
selected_stand font (Some g) us v a =
    same_stand font us v (map (shown_selector g) v.items) (positions_mapped selector_position v.items v.positions) (are_same (Based font) (shown_selector g) (selectors_same font g) us v.items a.stands.items)
    (ap (positions_mapped selector_position v.items) a.positions ∙ none_moved font selector_position (selectors_stay font) us v.items a.stands.items ∙ sym a.positions) a

hidden_same : (font : FaceParts) (g : ℕ) (u : ℕ) (x : Item) → Based font u x → hidden_item g x ≡ x
hidden_same font g u x b = item_if (is_default_ignorable x) x (record x { number = g }) (ignorable_none font u x b)

kept_next : (b : Bool) (x : Item) (xs ys : List Item) → b ≡ false → ys ≡ xs → (if not b then x ∷ ys else ys) ≡ x ∷ xs
kept_next true x xs ys e f = cc
kept_next false x xs ys e f = ap (λ zs. x ∷ zs) f

none_gone : (font : FaceParts) (us : List ℕ) (xs : List Item) → Are (Based font) us xs → items_kept is_default_ignorable xs ≡ xs
none_gone font [] [] a = refl
none_gone font [] (x ∷ xs) a = absurd a
none_gone font (u ∷ us) [] a = absurd a
none_gone font (u ∷ us) (x ∷ xs) a = kept_next (is_default_ignorable x) x xs (items_kept is_default_ignorable xs) (ignorable_none font u x a.0) (none_gone font us xs a.1)

position_next : (b : Bool) (p : Position) (ps qs : List Position) → b ≡ false → qs ≡ ps → (if b then qs else p ∷ qs) ≡ p ∷ ps
position_next true p ps qs e f = cc
position_next false p ps qs e f = ap (λ zs. p ∷ zs) f

no_place_gone : (font : FaceParts) (us : List ℕ) (xs : List Item) → Are (Based font) us xs → positions_kept is_default_ignorable xs (map (position_of_character font) us) ≡ map (position_of_character font) us
no_place_gone font [] [] a = refl
no_place_gone font [] (x ∷ xs) a = absurd a
no_place_gone font (u ∷ us) [] a = absurd a
no_place_gone font (u ∷ us) (x ∷ xs) a =
    position_next (is_default_ignorable x) (position_of_character font u) (map (position_of_character font) us) (positions_kept is_default_ignorable xs (map (position_of_character font) us)) (ignorable_none font u x a.0) (no_place_gone font us xs a.1)

hidden_by_stand : (font : FaceParts) (o : Option ℕ) (us : List ℕ) (v : View) → AtPositions font us v → AtPositions font us (ignorables_hidden_by o v).view
hidden_by_stand font (Some g) us v a = same_stand font us v (map (hidden_item g) v.items) v.positions (are_same (Based font) (hidden_item g) (hidden_same font g) us v.items a.stands.items) refl a
hidden_by_stand font None us v a =
    same_stand font us v (items_kept is_default_ignorable v.items) (positions_kept is_default_ignorable v.items v.positions) (none_gone font us v.items a.stands.items)
    (ap (positions_kept is_default_ignorable v.items) a.positions ∙ no_place_gone font us v.items a.stands.items ∙ sym a.positions) a

hidden_stand : (font : FaceParts) (b : Bool) (o : Option ℕ) (us : List ℕ) (v : View) → AtPositions font us v → AtPositions font us (if b then with_events [] v else ignorables_hidden_by o v).view
hidden_stand font true o us v a = a
hidden_stand font false o us v a = hidden_by_stand font o us v a

postprocessed_same : (p : Shaping) → IsPlainShaping p → (v : View) → postprocessing_stage p v ≡ as_it_is v
postprocessed_same p plain v = ap (λ (r : ShaperRules). r.postprocesses p.font p.settings v) plain.rules

-- the glyphs and their positions, whatever flags and limits are
record Printed (font : FaceParts) (us : List ℕ) (v : View) : Type 0 where
  pub glyphs : map (λ (x : Item). x.number) v.items ≡ map (glyph_of font) us
  pub positions : v.positions ≡ map (position_of_character font) us

numbers_of : (font : FaceParts) (us : List ℕ) (xs : List Item) → Are (Based font) us xs → map (λ (x : Item). x.number) xs ≡ map (glyph_of font) us
numbers_of font [] [] a = refl
numbers_of font [] (x ∷ xs) a = absurd a
numbers_of font (u ∷ us) [] a = absurd a
numbers_of font (u ∷ us) (x ∷ xs) a = let b = a.0 in rw (b.number, numbers_of font us xs a.1) refl

masked_based : (font : FaceParts) (u : ℕ) (x : Item) → Based font u x → Based font u (item_masked 0 x)
masked_based font u x b = record { number = b.number; plain = b.plain; word = b.word; base = b.base }

ended_leads : (p : Shaping) (us : List ℕ) → IsPlainShaping p → Leads (AtPositions p.font us) (Printed p.font us) (text_ended p)
unfolding text_ended
ended_leads p us plain =
    let A = AtPositions p.font us in
    let E = Printed p.font us in
    let selectors = always (with_selectors p.settings.not_found_variation_selector) in
    let hides = always (ignorables_hidden p.settings.flags p.settings.invisible p.font) in
    both_lead A A E selectors (hides ∷ postprocessing_stage p ∷ always with_flags_spread ∷ always (final_view p.direction) ∷ []) (always_leads A A (with_selectors p.settings.not_found_variation_selector) (selected_stand p.font p.settings.not_found_variation_selector us))
    (both_lead A A E hides (postprocessing_stage p ∷ always with_flags_spread ∷ always (final_view p.direction) ∷ [])
    (always_leads A A (ignorables_hidden p.settings.flags p.settings.invisible p.font) (hidden_stand p.font (preserves_ignorables p.settings.flags) (invisible_glyph p.settings.flags p.settings.invisible p.font) us))
    (both_lead A A E (postprocessing_stage p) (always with_flags_spread ∷ always (final_view p.direction) ∷ []) (leads_as A A as_it_is (postprocessing_stage p) (postprocessed_same p plain) (rests A))
    (both_lead A A E (always with_flags_spread) (always (final_view p.direction) ∷ []) (always_leads A A with_flags_spread (λ v a. mapped_stand (Based p.font) (Based p.font) (map (position_of_character p.font) us) (item_masked 0) (masked_based p.font) us v a))
    (last_leads A E (always (final_view p.direction)) (always_leads A E (final_view p.direction) (λ v a. record { glyphs = numbers_of p.font us v.items a.stands.items; positions = a.positions }))))))

-- ---- all stages

before_leads : (p : Shaping) (us : List ℕ) → IsPlainShaping p → Leads (IsText p.font us) (Placed (Chosen p.font) (zero_positions (length us)) us) (before_ranges p)
unfolding before_ranges
before_leads p us plain =
    let T = IsText p.font us in
    let O = Stands (Ordered p.font) us in
    let C = Placed (Chosen p.font) (zero_positions (length us)) us in
    both_lead T O C (text_begun p) (characters_chosen p ∷ masks_set p ∷ []) (begun_leads p us plain)
    (both_lead O C C (characters_chosen p) (masks_set p ∷ []) (chosen_leads p us plain) (last_leads C C (masks_set p) (masks_lead p (zero_positions (length us)) us plain)))

after_leads : (p : Shaping) (us : List ℕ) → IsPlainShaping p → Leads (Placed (Chosen p.font) (zero_positions (length us)) us) (Printed p.font us) (after_ranges p)
unfolding after_ranges
after_leads p us plain =
    let zeros = zero_positions (length us) in
    let C = Placed (Chosen p.font) zeros us in
    let S = Placed (Shown p.font) zeros us in
    let B = Placed (Based p.font) zeros us in
    let A = AtPositions p.font us in
    let E = Printed p.font us in
    both_lead C S E (glyphs_taken p) (glyphs_substituted p ∷ positioning_stage p ∷ text_ended p ∷ []) (taken_leads p zeros us)
    (both_lead S B E (glyphs_substituted p) (positioning_stage p ∷ text_ended p ∷ []) (substituted_leads p zeros us plain)
    (both_lead B A E (positioning_stage p) (text_ended p ∷ []) (positioned_leads p us plain) (last_leads A E (text_ended p) (ended_leads p us plain))))

shaped_leads : (p : Shaping) (ns us : List ℕ) → IsPlainShaping p → Leads (IsText p.font us) (Printed p.font us) (shaping_stage p ns)
unfolding shaping_stage
shaped_leads p ns us plain =
    let T = IsText p.font us in
    let C = Placed (Chosen p.font) (zero_positions (length us)) us in
    let E = Printed p.font us in
    both_lead T C E (before_ranges p) (ranges_set p ns ∷ after_ranges p ∷ []) (before_leads p us plain)
    (both_lead C C E (ranges_set p ns) (after_ranges p ∷ []) (ranges_lead p (zero_positions (length us)) ns us) (last_leads C E (after_ranges p) (after_leads p us plain)))

-- ---- the text

are_given : (font : FaceParts) (xs : List Item) → list_all (is_plain font) (map (λ (x : Item). x.number) xs) ≡ true → Are (Given font) (map (λ (x : Item). x.number) xs) xs
are_given font [] h = tt
are_given font (x ∷ xs) h =
    let both = and_parts (is_plain font x.number) (list_all (is_plain font) (map (λ (y : Item). y.number) xs)) h in
    (record { number = refl; plain = plain_facts font x.number both.0 }, are_given font xs both.1)

pub plain_texts_show_glyphs : PlainTextsShowGlyphs
unfolding reading
plain_texts_show_glyphs p run plain line room all =
    let us = characters run in
    let ns = clusters_after (before_ranges p run.view) run in
    let (r, (e, s)) = shaped_leads p ns us plain run.view (record { items = are_given p.font run.view.items all; line = line; room = room }) in
    (r, record { is = e; glyphs = s.glyphs; positions = s.positions })
