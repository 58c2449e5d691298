-- What `shape` leaves of a plain text.
use Rattle.std.proofs.Common.{ℕ, ◌≡◌, ◌≤◌, ◌==◌, ◌&&◌, Bool, true, false, not, if◌then◌else◌, List, [], ◌∷◌, map, length, Ok, refl, sym, ap, subst, ◌∙◌, arith}
use Rattle.std.specs.Prelude.{⊤, Option, None, is_some}
use Rattle.std.specs.List.{list_all}
use Rattle.std.proofs.lemmas.Bool.{eqb-true}
use Rattle.std.proofs.lemmas.List.{length-map, nil_from_length}
use Rattle.buffer_common.specs.declared.direction.Direction.{Direction}
use Rattle.buffer_common.specs.declared.direction.Direction.TheVariants.{LeftToRight}
use Rattle.buffer_common.specs.declared.script.Script.{Script}
use Rattle.buffer_common.specs.declared.tag.Tag.{Tag}
use Rattle.buffer_common.specs.ScriptTags.{wanted_tags}
use Rattle.buffer_tags.specs.declared.feature.Feature.{Feature}
use Rattle.layout_face.specs.declared.parts.FaceParts.{FaceParts}
use Rattle.layout_face.specs.declared.positioning.PositioningTable.{PositioningTable}
use Rattle.layout_face.specs.declared.substitution.SubstitutionTable.{SubstitutionTable}
use Rattle.buffer_unicode_tables.specs.Tables.{Tables}
use Rattle.buffer_glyphs.specs.declared.info.hb_glyph_info_t.{hb_glyph_info_t}
use Rattle.buffer_glyphs.specs.Items.{Item, item_of, strip}
use Rattle.buffer_core.specs.Readings.{Follows, Read, BufferState}
use Rattle.buffer_core.specs.Segment.{after_guess_segment_properties}
use Rattle.buffer_core.specs.Sides.{Sides, all_glyphs, items_of, state_of, view_of}
use Rattle.layout_map.specs.Chosen.{chosen_substitution, script_tag}
use Rattle.layout_map.specs.Compiled.{OtMapValue}
use Rattle.script_plan.specs.Plans.{choices, disables_gpos, planned_shaper, text_map, text_plan}
use Rattle.script_plan.specs.declared.plan.hb_script_plan_t.{hb_script_plan_t}
use Rattle.script_plan.specs.Rules.{Spans}
use Rattle.script_plan.specs.Traits.{ShaperTraits}
use Rattle.script_dispatch.specs.Dispatch.{shaper_of}
use Rattle.script_dispatch.specs.Requests.{any_kind}
use Rattle.script_dispatch.specs.Rules.{rules_of}
use Rattle.script_dispatch.specs.Shapers.{traits_of}
use Rattle.script_dispatch.specs.declared.any_shaper.hb_ot_any_shaper_t.{hb_ot_any_shaper_t}
use Rattle.script_dispatch.specs.declared.any_shaper.hb_ot_any_shaper_t.TheVariants as any
use Rattle.shape_pipeline.specs.Limits.{unshaped_text}
use Rattle.shape_pipeline.specs.Reading.{reading}
use Rattle.shape_pipeline.specs.Results.{IsResultOf, IsShapedBy}
use Rattle.shape_pipeline.specs.Shaped.{by_text, language_tags, text_reading}
use Rattle.shape_pipeline.specs.Shaping.{Shaping}
use Rattle.shape_laws.specs.PlainTexts.{IsPlainShaping, IsPlainText, PlainTextsShowGlyphs, ShowsCharacters, characters, glyph_numbers, glyph_of, is_plain, position_of_character}

-- ---- the plan of a plain text

-- a font without substitutions serves no script, so the text's own script alone tells its shaper
default_shaper : (font : FaceParts) (languages : List Tag) (d : Direction) (script : Option Script) → font.gsub ≡ None → d ≡ LeftToRight → shaper_of script LeftToRight None ≡ any.Default → planned_shaper any_kind font languages d script ≡ any.Default
unfolding planned_shaper
default_shaper font languages d script gsub line shaper =
    ap (λ (t : Option SubstitutionTable). shaper_of script d (script_tag (chosen_substitution (wanted_tags script) languages t))) gsub ∙ ap (λ e. shaper_of script e None) line ∙ shaper

no_positioning : (traits : ShaperTraits) (font : FaceParts) (m : OtMapValue) → font.gpos ≡ None → (choices traits font m).apply_gpos ≡ false
no_positioning traits font m gpos = ap (λ (t : Option PositioningTable). is_some t && not (disables_gpos traits.gpos_tag m.tables.gpos.chosen_script)) gpos

module _ (font : FaceParts) (tables : Tables) (tags : List ℕ → List Tag) (spans : Spans) (features : List Feature) (t : Sides) (plain : IsPlainText font t) where
  abbrev shaper : hb_ot_any_shaper_t
  shaper = planned_shaper any_kind font (language_tags tags t) t.direction t.script

  abbrev plan : hb_script_plan_t ⊤
  plan = text_plan any_kind font (language_tags tags t) t.direction t.script features

  is_default : shaper ≡ any.Default
  is_default = default_shaper font (language_tags tags t) t.direction t.script plain.gsub plain.line plain.shaper

  unplaced : plan.choices.apply_gpos ≡ false
  unfolding text_plan
  unplaced = no_positioning (traits_of shaper) font (text_map any_kind font (language_tags tags t) t.direction t.script features) plain.gpos

  made_classes : plan.choices.fallback_glyph_classes ≡ true
  unfolding text_plan
  made_classes = ap (λ o. not (is_some o)) plain.classes

  planned_line : plan.direction ≡ LeftToRight
  unfolding text_plan
  planned_line = plain.line

  pub plain_shaping : IsPlainShaping (by_text font tables tags spans features t)
  plain_shaping = record {
    gsub = plain.gsub;
    gpos = unplaced;
    classes = plain.classes;
    synthesized = made_classes;
    line = planned_line;
    writing = plain.writing;
    mode = ap (λ s. (traits_of s).normalization) is_default;
    rules = ap (λ s. rules_of s plan) is_default;
  }

-- ---- the result

numbers_seen : (gs : List hb_glyph_info_t) → map (λ (x : Item). x.number) (strip gs) ≡ map (λ (g : hb_glyph_info_t). g.glyph_id) gs
numbers_seen [] = refl
numbers_seen (g ∷ gs) = ap (λ ns. g.glyph_id ∷ ns) (numbers_seen gs)

shown_by : (p : Shaping) (text result : Sides) (r : Read) → Follows (Ok r) (state_of text) (state_of result) → map (λ (x : Item). x.number) r.view.items ≡ map (glyph_of p.font) (characters (state_of text)) → r.view.positions ≡ map (position_of_character p.font) (characters (state_of text))
    → ShowsCharacters p.font text result
shown_by p text result r f glyphs positions = record {
  glyphs = sym (numbers_seen (all_glyphs result)) ∙ ap (λ (run : BufferState). map (λ (x : Item). x.number) run.view.items) f ∙ glyphs ∙ ap (map (glyph_of p.font)) (numbers_seen (all_glyphs text));
  positions = ap (λ (run : BufferState). run.view.positions) f ∙ positions ∙ ap (map (position_of_character p.font)) (numbers_seen (all_glyphs text));
}

none_shown : (font : FaceParts) (text result : Sides) → all_glyphs text ≡ [] → items_of result ≡ items_of text → length result.positions ≡ length (all_glyphs result) → ShowsCharacters font text result
none_shown font text result none items placed =
    let no_items : items_of result ≡ [] = items ∙ ap strip none in
    let count : length (all_glyphs result) ≡ 0 = sym (length-map (all_glyphs result) item_of) ∙ ap length no_items in
    let bare : all_glyphs result ≡ [] = nil_from_length (all_glyphs result) count in
    let numbers : glyph_numbers text ≡ [] = ap (map (λ (g : hb_glyph_info_t). g.glyph_id)) none in
    record {
      glyphs = ap (map (λ (g : hb_glyph_info_t). g.glyph_id)) bare ∙ sym (ap (map (glyph_of font)) numbers);
      positions = nil_from_length result.positions (placed ∙ count) ∙ sym (ap (map (position_of_character font)) numbers);
    }

by_count : PlainTextsShowGlyphs → (p : Shaping) (text result : Sides) → IsPlainShaping p → text.direction ≡ LeftToRight → length (all_glyphs text) ≤ text.max_len → list_all (is_plain p.font) (glyph_numbers text) ≡ true → length result.positions ≡ length (all_glyphs result)
    → (b : Bool) → (length (items_of text) == 0) ≡ b → Follows (if b then Ok (unshaped_text (view_of text)) else reading p (state_of text)) (state_of text) (state_of result) → ShowsCharacters p.font text result
by_count law p text result plain line room all placed true empty f =
    let none : all_glyphs text ≡ [] = nil_from_length (all_glyphs text) (sym (length-map (all_glyphs text) item_of) ∙ eqb-true (length (items_of text)) 0 empty) in
    none_shown p.font text result none (ap (λ (run : BufferState). run.view.items) f) placed
by_count law p text result plain line room all placed false some f =
    let counted : length (items_of text) ≤ text.max_len = let e = length-map (all_glyphs text) item_of in omega (arith, e, room) in
    let are : list_all (is_plain p.font) (characters (state_of text)) ≡ true = ap (list_all (is_plain p.font)) (numbers_seen (all_glyphs text)) ∙ all in
    let (r, s) = law p (state_of text) plain line counted are in
    shown_by p text result r (subst (λ q. Follows q (state_of text) (state_of result)) s.is f) s.glyphs s.positions

pub plain_texts_are_shown : PlainTextsShowGlyphs → (font : FaceParts) (tables : Tables) (tags : List ℕ → List Tag) (spans : Spans) (features : List Feature) (text result : Sides) → IsPlainText font (after_guess_segment_properties text)
    → IsShapedBy (by_text font tables tags spans features (after_guess_segment_properties text)) (after_guess_segment_properties text) result → IsResultOf (after_guess_segment_properties text) result → ShowsCharacters font (after_guess_segment_properties text) result
unfolding text_reading
plain_texts_are_shown law font tables tags spans features text result plain shaped of =
    let t = after_guess_segment_properties text in
    by_count law (by_text font tables tags spans features t) t result (plain_shaping font tables tags spans features t plain) plain.line plain.room plain.characters of.placed (length (items_of t) == 0) refl shaped
