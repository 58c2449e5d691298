-- A text begins as the items of its characters.
use Rattle.std.proofs.Common.{ℕ, ◌≡◌, ◌+◌, ◌&&◌, ◌==◌, Bool, true, false, if◌then◌else◌, List, [], ◌∷◌, map, length, suc, refl, ap, ◌∙◌, arith}
use Rattle.std.specs.Prelude.{bit_and, bit_or, nat_le, Option, Some, None, is_some}
use Rattle.std.specs.List.{All}
use Rattle.std.proofs.lemmas.Nat.{and_or_apart}
use Rattle.std.proofs.lemmas.List.{length-map}
use Rattle.buffer_common.specs.declared.constants.BufferFlags.{BufferFlags}
use Rattle.buffer_common.specs.declared.direction.Direction.{Direction}
use Rattle.buffer_common.specs.declared.direction.Direction.TheVariants.{Invalid, LeftToRight, RightToLeft, TopToBottom, BottomToTop}
use Rattle.buffer_common.specs.declared.script.Script.{Script}
use Rattle.buffer_unicode.specs.Character.{is_default_ignorable_character}
use Rattle.buffer_unicode_tables.specs.Tables.{Tables}
use Rattle.buffer_glyphs.specs.declared.info.hb_glyph_info_t.{hb_glyph_info_t}
use Rattle.buffer_glyphs.specs.Items.{Item, item_masked, item_of, strip}
use Rattle.buffer_core.specs.Readings.{Read, Stage, View, always, as_it_is, with_events}
use Rattle.buffer_core.specs.Settings.{steps_limit}
use Rattle.buffer_core.specs.Sides.{Sides, all_glyphs, view_of}
use Rattle.buffer_properties.specs.Characters.{items_of_text, standing_for}
use Rattle.buffer_properties.specs.Properties.{bit_if, character_class, scratch_flags_of}
use Rattle.buffer_wrappers.specs.Wrappers.{IsCharacter}
use Rattle.layout_face.specs.declared.parts.FaceParts.{FaceParts}
use Rattle.layout_face.specs.Glyphs.{nominal_glyph}
use Rattle.shape_text.specs.Masks.{with_one_mask}
use Rattle.shape_premises.specs.Texts as premises
use Rattle.shape_text.specs.declared.graphemes.Before.{Before}
use Rattle.shape_text.specs.Graphemes.{continues}
use Rattle.shape_text.specs.Properties.{next_before, items_prepared, prepared_item, scratch_flags_of_items, with_properties}
use Rattle.shape_text.specs.Circle.{DOTTED_CIRCLE, flags_want_circle, begins_with_mark, first_circle, with_circle}
use Rattle.shape_text.specs.Clusters.{with_clusters}
use Rattle.shape_text.specs.NativeOrder.{is_number_text, is_reversed, native_order, runs_against, script_direction, reversed_text, with_numbers, without_continuation}
use Rattle.shape_pipeline.specs.Characters.{text_begun}
use Rattle.shape_pipeline.specs.Limits.{initial_view}
use Rattle.shape_pipeline.specs.Shaping.{Shaping}
use Rattle.shape_laws.specs.Texts.{RunsFromLeft, begun_item, text_characters}
use Rattle.shape_laws.specs.Stages.{budget_of}
use Rattle.shape_laws.proofs.Words.{word_alone, word_mark}
use Rattle.shape_laws.proofs.Passing.{Reaches, always_reaches, passes_in_order, reaches_as}

-- the writing of a script does not run against a line from left to right
abbrev pub RunsForth : Option Script → Type 0
RunsForth script = runs_against LeftToRight (script_direction script) ≡ false

-- ---- items

numbers_of : List hb_glyph_info_t → List ℕ
numbers_of gs = map (λ (g : hb_glyph_info_t). g.glyph_id) gs

first_is : (g : hb_glyph_info_t) (gs : List hb_glyph_info_t) → All IsCharacter (g ∷ gs) → IsCharacter g
first_is g gs h = h 0 g (omega arith)

others_are : (g : hb_glyph_info_t) (gs : List hb_glyph_info_t) → All IsCharacter (g ∷ gs) → All IsCharacter gs
others_are g gs h = λ k d l. h (suc k) d (omega (arith, l))

-- a character's item with its properties, without the bit of a continuation
item_begun : (t : Tables) (m : ℕ) (b : Bool) (g : hb_glyph_info_t) → IsCharacter g → without_continuation (prepared_item t b (item_masked m (item_of g))) ≡ standing_for t g.glyph_id (begun_item m)
item_begun t m b g c =
    ap (λ (h : hb_glyph_info_t). without_continuation (prepared_item t b (item_masked m (item_of h)))) c.plain
    ∙ ap (λ w. record (begun_item m) { number = g.glyph_id; unicode_props = w; class = character_class t g.glyph_id }) (word_alone b g.glyph_id)

items_begun : (t : Tables) (m : ℕ) (before : Option Before) (gs : List hb_glyph_info_t) → All IsCharacter gs
    → map without_continuation (items_prepared t before (map (item_masked m) (strip gs))) ≡ items_of_text t (begun_item m) (map (λ (g : hb_glyph_info_t). g.glyph_id) gs)
items_begun t m before [] h = refl
items_begun t m before (g ∷ gs) h =
    ap (λ x. x ∷ map without_continuation (items_prepared t (Some (next_before t before g.glyph_id)) (map (item_masked m) (strip gs)))) (item_begun t m (continues t before g.glyph_id) g (first_is g gs h))
    ∙ ap (λ xs. standing_for t g.glyph_id (begun_item m) ∷ xs) (items_begun t m (Some (next_before t before g.glyph_id)) gs (others_are g gs h))

first_marked : (t : Tables) (m : ℕ) (gs : List hb_glyph_info_t) → begins_with_mark (items_prepared t None (map (item_masked m) (strip gs))) ≡ premises.starts_with_mark (map (λ (g : hb_glyph_info_t). g.glyph_id) gs)
first_marked t m [] = refl
first_marked t m (g ∷ gs) = word_mark t (item_of g) (continues t None g.glyph_id) g.glyph_id

-- ---- scratch flags

pub no_attachment : (a b c : Bool) → bit_and (bit_if a 1 + (bit_if b 2 + bit_if c 16)) 8 ≡ 0
no_attachment true true true = refl
no_attachment true true false = refl
no_attachment true false true = refl
no_attachment true false false = refl
no_attachment false true true = refl
no_attachment false true false = refl
no_attachment false false true = refl
no_attachment false false false = refl

-- characters attach no glyph
pub none_attached : (xs : List Item) (scratch_flags : ℕ) → bit_and scratch_flags 8 ≡ 0 → bit_and (scratch_flags_of_items xs scratch_flags) 8 ≡ 0
none_attached [] scratch_flags h = h
none_attached (x ∷ xs) scratch_flags h =
    let u = x.number in
    none_attached xs (bit_or scratch_flags (scratch_flags_of u)) (and_or_apart 8 scratch_flags (scratch_flags_of u) (no_attachment (nat_le 0x80 u) (is_default_ignorable_character u) (u == 0x034F)) ∙ h)

-- ---- no circle, and the order of the writing

pub no_circle : (a c d : Bool) → c ≡ false → ((a && c) && d) ≡ false
no_circle a true d e = cc
no_circle true false d e = refl
no_circle false false d e = refl

abbrev circle_if : Bool → Tables → Stage
circle_if b t v = if b then with_circle t v else as_it_is v

uncircled : (font : FaceParts) (t : Tables) (flags : BufferFlags) (context : List ℕ) (v : View) → begins_with_mark v.items ≡ false → first_circle t font flags context v ≡ as_it_is v
uncircled font t flags context v e = ap (λ b. circle_if b t v) (no_circle (flags_want_circle flags && length context == 0) (begins_with_mark v.items) (is_some (nominal_glyph DOTTED_CIRCLE font)) e)

pub stays : (b : Bool) (d : Direction) → runs_against LeftToRight d ≡ false → runs_against LeftToRight (with_numbers b LeftToRight d) ≡ false
stays b RightToLeft h = cc
stays true Invalid h = refl
stays true LeftToRight h = refl
stays true TopToBottom h = refl
stays true BottomToTop h = refl
stays false Invalid h = refl
stays false LeftToRight h = refl
stays false TopToBottom h = refl
stays false BottomToTop h = refl

not_turned : (script : Option Script) (d : Direction) (xs : List Item) → RunsForth script → d ≡ LeftToRight → is_reversed script d xs ≡ false
not_turned script d xs w e =
    ap (λ t. runs_against t (with_numbers (is_number_text xs) t (script_direction script))) e ∙ stays (is_number_text xs) (script_direction script) w

abbrev ordered_if : Bool → View → Read
ordered_if b v = if b then reversed_text v else with_events [] v

-- a view without the bits of continuations
abbrev settled : View → View
settled v = record v { items = map without_continuation v.items }

ordered_view : (script : Option Script) (v : View) → RunsForth script → v.direction ≡ LeftToRight → (native_order script v).view ≡ settled v
ordered_view script v w e = ap (λ b. settled (ordered_if b v).view) (not_turned script v.direction v.items w e)

-- ---- the first stage

-- a view with one mask, properties and limits
abbrev prepared_view : Shaping → View → View
prepared_view p v = (with_properties p.tables (with_one_mask p.map.global_mask (initial_view v).view).view).view

reaches_settled : (p : Shaping) (v : View) → RunsForth p.settings.script → v.direction ≡ LeftToRight → begins_with_mark (prepared_view p v).items ≡ false → Reaches (text_begun p) v (settled (prepared_view p v))
unfolding text_begun
reaches_settled p v w e unmarked =
    let v1 = (initial_view v).view in
    let v2 = (with_one_mask p.map.global_mask v1).view in
    let v3 = (with_properties p.tables v2).view in
    let circle = first_circle p.tables p.font p.settings.flags p.settings.pre_context in
    passes_in_order (always initial_view ∷ always (with_one_mask p.map.global_mask) ∷ always (with_properties p.tables) ∷ circle ∷ always with_clusters ∷ always (native_order p.settings.script) ∷ []) v (settled v3) (
      v1,
      always_reaches initial_view v,
      (
        v2,
        always_reaches (with_one_mask p.map.global_mask) v1,
        (
          v3,
          always_reaches (with_properties p.tables) v2,
          (
            v3,
            reaches_as as_it_is circle v3 v3 (uncircled p.font p.tables p.settings.flags p.settings.pre_context v3 unmarked) (record { read = with_events [] v3; is = refl; view = refl }),
            (
              v3,
              always_reaches with_clusters v3,
              (
                settled v3,
                record { read = native_order p.settings.script v3; is = refl; view = ordered_view p.settings.script v3 w e },
                refl,
              ),
            ),
          ),
        ),
      ),
    )

-- the view of a text after the first stage
pub record IsBegun (p : Shaping) (text : Sides) (v : View) : Type 0 where
  pub items : v.items ≡ items_of_text p.tables (begun_item p.map.global_mask) (text_characters text)
  pub lig_id : v.lig_id ≡ 0
  pub max_ops : v.max_ops ≡ budget_of text
  pub random : v.random ≡ 1
  pub direction : v.direction ≡ LeftToRight
  pub attached : bit_and v.scratch_flags 8 ≡ 0

-- the view that the first stage leads to
abbrev pub begun_view : Shaping → Sides → View
begun_view p text = settled (prepared_view p (view_of text))

pub text_reaches : (p : Shaping) (text : Sides) → RunsFromLeft text → RunsForth p.settings.script → premises.starts_with_mark (text_characters text) ≡ false → Reaches (text_begun p) (view_of text) (begun_view p text)
text_reaches p text runs w unmarked = reaches_settled p (view_of text) w runs.line (first_marked p.tables p.map.global_mask (all_glyphs text) ∙ unmarked)

pub text_is_begun : (p : Shaping) (text : Sides) → RunsFromLeft text → IsBegun p text (begun_view p text)
text_is_begun p text runs = record {
  items = items_begun p.tables p.map.global_mask None (all_glyphs text) runs.is_text.characters;
  lig_id = refl;
  max_ops = ap (λ n. steps_limit n text.max_ops) (length-map (all_glyphs text) item_of);
  random = refl;
  direction = runs.line;
  attached = none_attached (map (item_masked p.map.global_mask) (strip (all_glyphs text))) 0 refl;
}
