-- The characters of equivalent texts are chosen alike.
use Rattle.std.proofs.Common.{ℕ, ◌≡◌, Bool, true, false, if◌then◌else◌, List, [], ◌∷◌, length, refl, sym, ap, subst, ◌∙◌}
use Rattle.std.specs.Prelude.{nat_le, codes, Ok, Err}
use Rattle.buffer_common.specs.declared.direction.Direction.{Direction}
use Rattle.buffer_common.specs.declared.direction.Direction.TheVariants.{LeftToRight}
use Rattle.buffer_glyphs.specs.declared.cause.ShapeCause.TheVariants.{TooLong}
use Rattle.buffer_glyphs.specs.Items.{Item}
use Rattle.buffer_core.specs.Readings.{Read, Reading, Stage, View, always, as_it_is, with_events}
use Rattle.buffer_core.specs.Sides.{Sides, view_of, zero_positions}
use Rattle.buffer_stages.specs.Appending.{with_arranged}
use Rattle.buffer_stages.specs.Settings.{TextSettings, text_settings}
use Rattle.buffer_unicode_tables.specs.Tables.{Tables}
use Rattle.buffer_properties.specs.Characters.{items_of_text}
use Rattle.buffer_properties.specs.Expanding.{expanded_list}
use Rattle.buffer_properties.specs.NormalizedList.{normalized_items}
use Rattle.buffer_properties.specs.Premises.{IsRegular}
use Rattle.buffer_properties.proofs.Alike.{equivalents_normalize_alike}
use Rattle.buffer_properties.proofs.Preserved.{normalizing_keeps_equivalence}
use Rattle.buffer_properties.proofs.Short.{expansion_keeps_runs_short}
use Rattle.layout_face.specs.declared.parts.FaceParts.{FaceParts}
use Rattle.layout_map.specs.Masks.{mask_at_one}
use Rattle.shape_normalize.specs.Rounds.{normalization}
use Rattle.shape_premises.specs.Texts.{IsRegularText, starts_with_mark}
use Rattle.shape_text.specs.Rotation.{with_rotated_characters}
use Rattle.shape_pipeline.specs.Characters.{characters_chosen, normalizer, text_begun, turned_to_line}
use Rattle.shape_pipeline.specs.Shaping.{Shaping, preprocessing_stage}
use Rattle.shape_laws.specs.Shapers.{NormalizesAsUnicode}
use Rattle.shape_laws.specs.Stages.{characters_stage}
use Rattle.shape_laws.specs.Texts.{AreEquivalentTexts, RunsFromLeft, begun_item, text_characters}
use Rattle.shape_laws.specs.Laws.{AreChosenAlike, ChosenTextsAreEquivalent, EquivalentsAreChosenAlike, TextsBeginAsItems}
use Rattle.shape_laws.proofs.Begun.{IsBegun, RunsForth, begun_view, text_is_begun, text_reaches}
use Rattle.shape_laws.proofs.Passing.{Reaches, always_led, in_order_passes, reached_is, reaches_read, read_is}
use Rattle.shape_laws.proofs.Shapers.{normalizers_are_of_unicode}

-- the settings that a text has, as its `Shaping` knows them
script_runs : (p : Shaping) (text : Sides) → p.settings ≡ text_settings text → RunsFromLeft text → RunsForth p.settings.script
script_runs p text e runs = subst (λ (s : TextSettings). RunsForth s.script) (sym e) runs.writing

begun_is : (p : Shaping) (text : Sides) (r : Read) → RunsFromLeft text → p.settings ≡ text_settings text → starts_with_mark (text_characters text) ≡ false → text_begun p (view_of text) ≡ Ok r → IsBegun p text r.view
begun_is p text r runs set unmarked e =
    subst (IsBegun p text) (sym (reached_is (text_begun p) (view_of text) (begun_view p text) r (text_reaches p text runs (script_runs p text set runs) unmarked) e)) (text_is_begun p text runs)

pub texts_begin_as_items : TextsBeginAsItems
texts_begin_as_items p text r runs set unmarked e = let b = begun_is p text r runs set unmarked e in (b.items, b.max_ops)

-- ---- normalizing

pub rotated_view : (t : Tables) (font : FaceParts) (d : Direction) (mask : ℕ) (b : Bool) (v : View) → d ≡ LeftToRight → (with_rotated_characters t font d mask b v).view ≡ v
rotated_view t font d mask b v e = let P : Direction → Type 0 = λ c. (with_rotated_characters t font c mask b v).view ≡ v in subst P (sym e) refl

limited_view : (b : Bool) (r s : Read) → ◌≡◌ {A = Reading} (if b then Ok r else Err TooLong) (Ok s) → r.view ≡ s.view
limited_view true r s e = read_is r s e
limited_view false r s e = cc

-- the view that normalizing leaves
abbrev pub normalized_view : Shaping → View → View
normalized_view p v = (with_arranged (normalized_items (normalizer p) v.items) v).view

reached_same : (v w : View) (stage : Stage) → stage v ≡ as_it_is v → Reaches stage v w → v ≡ w
reached_same v w stage h k = sym (reached_is stage v v k.read (record { read = with_events [] v; is = h; view = refl }) k.is) ∙ k.view

turned_same : (p : Shaping) (v w : View) → p.direction ≡ LeftToRight → Reaches (always (turned_to_line p)) v w → v ≡ w
turned_same p v w line k = sym (rotated_view p.tables p.font p.direction (mask_at_one (codes "rtlm") p.map) p.choices.has_vert v line) ∙ always_led (turned_to_line p) v w k

-- the way of a text through the stages on characters
pub chosen_is : (p : Shaping) (text : Sides) (r : Read) → p.direction ≡ LeftToRight → NormalizesAsUnicode p.traits p.rules → RunsFromLeft text → p.settings ≡ text_settings text → starts_with_mark (text_characters text) ≡ false
    → characters_stage p (view_of text) ≡ Ok r → (v : View) × IsBegun p text v × (r.view ≡ normalized_view p v)
unfolding characters_stage characters_chosen
chosen_is p text r line n runs set unmarked e =
    let (v, begun, (end, chosen, same)) = in_order_passes (text_begun p ∷ characters_chosen p ∷ []) (view_of text) r.view (reaches_read (characters_stage p) (view_of text) r e) in
    let start : IsBegun p text v = subst (IsBegun p text) begun.view (begun_is p text begun.read runs set unmarked begun.is) in
    let (first, stays, (second, turns, (third, normal, last))) = in_order_passes (preprocessing_stage p ∷ always (turned_to_line p) ∷ normalization (normalizer p) ∷ []) v end chosen in
    let unchanged : v ≡ first = reached_same v first (preprocessing_stage p) (n.preprocesses p.font p.tables p.settings v) stays in
    let unturned : first ≡ second = turned_same p first second line turns in
    let there : normalized_view p second ≡ normal.read.view =
    limited_view (nat_le (length (expanded_list (normalizer p) second.items).items) second.max_len) (with_arranged (normalized_items (normalizer p) second.items) second) normal.read normal.is in
    (v, start, sym same ∙ (sym last ∙ (sym normal.view ∙ (sym there ∙ ap (normalized_view p) (sym unturned ∙ sym unchanged)))))

-- ---- equivalent texts

regular_is : (p : Shaping) (us : List ℕ) → IsRegularText p.font p.tables us → IsRegular (normalizer p) us
regular_is p us h = record { has_later_mark = h.has_later_mark; has_no_selector = h.has_no_selector; has_short_runs = h.has_short_runs; in_font = h.in_font }

-- the normalised lists of two equivalent texts
lists_alike : (p : Shaping) (a b : Sides) → AreEquivalentTexts p.font p.tables a b → NormalizesAsUnicode p.traits p.rules
    → (normalized_items (normalizer p) (items_of_text p.tables (begun_item p.map.global_mask) (text_characters a))).items ≡ (normalized_items (normalizer p) (items_of_text p.tables (begun_item p.map.global_mask) (text_characters b))).items
lists_alike p a b texts n =
    let u = normalizers_are_of_unicode p n texts.tables.characters in
    equivalents_normalize_alike (normalizer p) (begun_item p.map.global_mask) (text_characters a) (text_characters b) texts.tables.shallow texts.tables.lawful u.splits u.expands texts.equivalent (regular_is p (text_characters a) texts.first) (regular_is p (text_characters b) texts.second)

list_begun : (p : Shaping) (text : Sides) (v : View) → IsBegun p text v → (normalized_items (normalizer p) v.items).items ≡ (normalized_items (normalizer p) (items_of_text p.tables (begun_item p.map.global_mask) (text_characters text))).items
list_begun p text v b = ap (λ xs. (normalized_items (normalizer p) xs).items) b.items

-- two views that normalizing leaves agree where the views before it do
pub views_alike : (p : Shaping) (a b : Sides) (v w : View) (r s : Read) → AreEquivalentTexts p.font p.tables a b → NormalizesAsUnicode p.traits p.rules → IsBegun p a v → IsBegun p b w → r.view ≡ normalized_view p v → s.view ≡ normalized_view p w → AreChosenAlike r s
views_alike p a b v w r s texts n x y e f =
    let same = list_begun p a v x ∙ (lists_alike p a b texts n ∙ sym (list_begun p b w y)) in
    record {
      items = ap (λ (z : View). z.items) e ∙ (same ∙ sym (ap (λ (z : View). z.items) f));
      positions = ap (λ (z : View). z.positions) e ∙ (ap (λ (xs : List Item). zero_positions (length xs)) same ∙ sym (ap (λ (z : View). z.positions) f));
      lig_id = ap (λ (z : View). z.lig_id) e ∙ (x.lig_id ∙ sym y.lig_id ∙ sym (ap (λ (z : View). z.lig_id) f));
      random = ap (λ (z : View). z.random) e ∙ (x.random ∙ sym y.random ∙ sym (ap (λ (z : View). z.random) f));
      direction = ap (λ (z : View). z.direction) e ∙ (x.direction ∙ sym y.direction ∙ sym (ap (λ (z : View). z.direction) f));
    }

pub equivalents_are_chosen_alike : EquivalentsAreChosenAlike
equivalents_are_chosen_alike p a b r s one texts n e f =
    let (v, first, left) = chosen_is p a r one.line n one.first_runs one.first_settings texts.first.starts_unmarked e in
    let (w, second, right) = chosen_is p b s one.line n one.second_runs one.second_settings texts.second.starts_unmarked f in
    views_alike p a b v w r s texts n first second left right

pub chosen_texts_are_equivalent : ChosenTextsAreEquivalent
chosen_texts_are_equivalent p text r tables n line runs set unmarked unselected short e =
    let u = normalizers_are_of_unicode p n tables.characters in
    let c = normalizer p in
    let x = begun_item p.map.global_mask in
    let us = text_characters text in
    let (v, begun, normal) = chosen_is p text r line n runs set unmarked e in
    let runs_short = expansion_keeps_runs_short c x us tables.shallow tables.lawful u.splits unselected short in
    let kept = normalizing_keeps_equivalence c x us tables.lawful u.splits u.composes u.reorders unselected runs_short in
    let same : r.view.items ≡ (normalized_items c (items_of_text p.tables x us)).items = ap (λ (z : View). z.items) normal ∙ list_begun p text v begun in
    rw same kept
