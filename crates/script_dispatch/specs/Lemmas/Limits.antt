-- The rules of scripts depend on no limit of length, and only count the budget of nested lookups.
use Rattle.std.proofs.Common.{ℕ, Bool, List, [], ◌++◌, length, Option, None, Some, Err, refl}
use Rattle.std.specs.Prelude.{⊤, codes, nat_le}
use Rattle.std.specs.List.{list_all, list_any}
use Rattle.buffer_glyphs.specs.declared.cause.ShapeCause.TheVariants.{StretchRange, TooLong, UnknownSyllableKind}
use Rattle.buffer_common.specs.declared.constants.BufferFlags.{BufferFlags}
use Rattle.buffer_common.specs.declared.script.Script.{Script}
use Rattle.buffer_unicode_tables.specs.Tables.{Tables}
use Rattle.layout_face.specs.declared.parts.FaceParts.{FaceParts}
use Rattle.buffer_glyphs.specs.Items.{Item}
use Rattle.buffer_core.specs.Sides.{zero_positions}
use Rattle.buffer_core.specs.Readings.{Read, View, always, as_it_is, with_events}
use Rattle.layout_map.specs.Compiled.{OtMapValue}
use Rattle.buffer_glyphs.specs.Rewriting.{Arrangement}
use Rattle.buffer_stages.specs.Rewriting.{by_syllable}
use Rattle.buffer_stages.specs.Settings.{TextSettings}
use Rattle.buffer_stages.specs.Stages.{with_items_mapped}
use Rattle.buffer_stages.specs.SyllableBuffers.{with_rule}
use Rattle.script_arabic.specs.TilePositions.{all_positions}
use Rattle.layout_map.specs.Masks.{has_mask, mask_at_one}
use Rattle.script_categories.specs.Pauses.{pause_of_number}
use Rattle.script_plan.specs.Rules.{DependsOnNoLimit, RulesDependOnNoLimit, Spans}
use Rattle.script_plan.specs.Lemmas.Limits.{always_by, chosen_by, either_by, limited_by, refused_by, same_by, then_by}
use Rattle.script_plan.specs.Lemmas.Unchanged.{plain_rules_depend_on_no_limit}
use Rattle.script_plan.specs.declared.plan.hb_script_plan_t.{hb_script_plan_t}
use Rattle.script_categories.specs.declared.pause.hb_script_pause_t.{hb_script_pause_t}
use Rattle.script_categories.specs.declared.pause.hb_script_pause_t.TheVariants.{RecordStch, SetupSyllables, ReorderKhmer, ReorderMyanmar, ClearSyllables, ClearSubstitutionFlags, RecordRphf, RecordPref, ReorderUse, InitialReordering, FinalReordering}
use Rattle.script_categories.specs.declared.shaper.hb_ot_script_shaper_t.{hb_ot_script_shaper_t}
use Rattle.script_categories.specs.declared.shaper.hb_ot_script_shaper_t.TheVariants.{ARABIC_SHAPER, HANGUL_SHAPER, HEBREW_SHAPER, INDIC_SHAPER, KHMER_SHAPER, MYANMAR_SHAPER, MYANMAR_ZAWGYI_SHAPER, THAI_SHAPER, UNIVERSAL_SHAPER}
use Rattle.script_thai.specs.ThaiPrivate.{with_private}
use Rattle.script_thai.specs.ThaiVowel as thai
use Rattle.script_hangul.specs.Hangul.{events_after, jamo_rule, syllables_formed, text_after, wants_circles}
use Rattle.script_syllabic.specs.Graphemes.{with_graphemes_merged}
use Rattle.script_hangul.specs.Masks.{with_letter_mask}
use Rattle.script_indic_reordering.specs.Base.{Forms}
use Rattle.script_indic_reordering.specs.Orders.{consonant_with_position, final_order, initial_syllable}
use Rattle.script_indic_reordering.specs.declared.script.IndicMasks.{IndicMasks}
use Rattle.script_indic_reordering.specs.declared.script.RephMode.{RephMode}
use Rattle.script_indic.specs.Categories.{with_properties}
use Rattle.script_indic.specs.Config.{indic_config}
use Rattle.script_indic.specs.FontForms.{font_forms}
use Rattle.script_indic.specs.Masks.{indic_masks}
use Rattle.script_indic.specs.Reordering.{circles_order, consonants_updated, indic_circles, initial_stage, virama_glyph}
use Rattle.script_joining.specs.Joining.{letters_with_forms}
use Rattle.script_khmer.specs.Khmer.{khmer_syllable}
use Rattle.script_myanmar.specs.Myanmar.{myanmar_syllable}
use Rattle.script_universal.specs.Reordering.{universal_syllable}
use Rattle.buffer_stages.specs.Cuts.{Syllable, syllables}
use Rattle.script_syllabic.specs.declared.circles.CircleRule.{CircleRule}
use Rattle.script_syllabic.specs.declared.forms.FormMasks.{FormMasks}
use Rattle.script_syllabic.specs.Bytes.{bytes_of, bytes_set, is_known, itself, syllables_set, text_syllables}
use Rattle.script_syllabic.specs.Circles.{circle_events, circled_items, circles_by, circles_put, is_broken, with_circles}
use Rattle.script_syllabic.specs.Features.{pref_recorded, rphf_masked, rphf_recorded, topography}
use Rattle.script_syllabic.specs.Spans.{categories_counted, counted_index, universal_set}
use Rattle.script_syllabic.specs.Categories.{categories_set, ot_category_of, with_category}
use Rattle.script_universal.specs.Categories.{universal_category_of}
use Rattle.script_arabic.specs.Copying.{with_tile_copies, events_from}
use Rattle.script_arabic.specs.Laying.{is_in_range, tiles}
use Rattle.script_arabic.specs.Stretch.{text_runs, text_stretch_events, tiles_laid, with_tiles_laid}
use Rattle.script_universal.specs.Pauses.{forms_set, universal_circles, universal_syllables_set}
use Rattle.script_khmer.specs.Pauses.{khmer_circles}
use Rattle.script_myanmar.specs.Pauses.{myanmar_circles}
use Rattle.buffer_stages.specs.LayoutStages.{item_not_substituted}
use Rattle.script_syllabic.specs.Syllables.{syllables_by, then_syllables, without_syllable}
use Rattle.script_arabic.specs.Tiles.{tile_recorded}
use Rattle.script_thai.specs.Texts.{has_private_forms, private_if}
use Rattle.script_dispatch.specs.Hooks.{masks_set_by, pause_done, pause_if, postprocessing_by, preprocessing_by, syllables_found_by}
use Rattle.layout_map.specs.Masks.{joining_masks}
use Rattle.script_universal.specs.Masks.{form_masks, letters_joined_if, letters_join, universal_masks_set}
use Rattle.script_joining.specs.Joining.{is_mongolian, letters_joined}
use Rattle.script_hangul.specs.MapMasks.{jamo_masks}
use Rattle.script_khmer.specs.Masks.{khmer_masks}
use Rattle.script_dispatch.specs.Rules.{rules_of, script_rules}
use Rattle.script_dispatch.specs.declared.any_shaper.hb_ot_any_shaper_t.{hb_ot_any_shaper_t}
use Rattle.script_dispatch.specs.declared.any_shaper.hb_ot_any_shaper_t.TheVariants as any

-- ---- texts

-- what is read where the limit allows it
abbrev thai_read : View → Read
thai_read v = record { view = record v { items = thai.text_with_splits [] v.items; positions = zero_positions (length (thai.text_with_splits [] v.items)) }; events = λ level. thai.split_events [] v.items }

merged_limits : (rule : List Item → ℕ) → DependsOnNoLimit (always (with_graphemes_merged rule))
merged_limits rule = always_by (with_graphemes_merged rule) record { seen = λ v limit scratch_flags. refl; scratch_flags = λ v. refl; tested = λ change v. refl; budgeted = λ change v. refl; budget = λ v. refl }

thai_limits : DependsOnNoLimit thai.vowels_split
thai_limits = limited_by (λ v. nat_le (length (thai.text_with_splits [] v.items)) v.max_len) thai_read TooLong
    record { seen = λ v limit scratch_flags. refl; scratch_flags = λ v. refl; tested = λ change v. refl; budgeted = λ change v. refl; budget = λ v. refl }

abbrev hangul_read : FaceParts → Bool → View → Read
hangul_read font circles v =
    let xs : List Item = text_after font circles (length v.items) 0 [] v.items in
    record { view = record v { items = xs; positions = zero_positions (length xs) }; events = λ level. events_after font circles level (length v.items) 0 [] v.items }

hangul_limits : (font : FaceParts) (flags : BufferFlags) → DependsOnNoLimit (syllables_formed font flags)
hangul_limits font flags = limited_by (λ v. nat_le (length (text_after font (wants_circles flags) (length v.items) 0 [] v.items)) v.max_len) (hangul_read font (wants_circles flags)) TooLong
    record { seen = λ v limit scratch_flags. refl; scratch_flags = λ v. refl; tested = λ change v. refl; budgeted = λ change v. refl; budget = λ v. refl }

private_limits : (t : Tables) (font : FaceParts) → DependsOnNoLimit (always (with_private t font))
private_limits t font = always_by (with_private t font) record { seen = λ v limit scratch_flags. refl; scratch_flags = λ v. refl; tested = λ change v. refl; budgeted = λ change v. refl; budget = λ v. refl }

text_limits : (shaper : hb_ot_script_shaper_t) (m : OtMapValue) (s : Option Script) (font : FaceParts) (t : Tables) (settings : TextSettings) → DependsOnNoLimit (preprocessing_by shaper m s font t settings)
text_limits THAI_SHAPER m s font t settings =
    then_by thai.vowels_decomposed (private_if (has_private_forms m s) t font) (then_by (always (with_graphemes_merged thai.vowel_rule)) thai.vowels_split (merged_limits thai.vowel_rule) thai_limits) (either_by (always (with_private t font)) as_it_is (private_limits t font) same_by (has_private_forms m s))
text_limits HANGUL_SHAPER m s font t settings = then_by (always (with_graphemes_merged (jamo_rule font))) (syllables_formed font settings.flags) (merged_limits (jamo_rule font)) (hangul_limits font settings.flags)
text_limits ARABIC_SHAPER m s font t settings = same_by
text_limits HEBREW_SHAPER m s font t settings = same_by
text_limits INDIC_SHAPER m s font t settings = same_by
text_limits KHMER_SHAPER m s font t settings = same_by
text_limits MYANMAR_SHAPER m s font t settings = same_by
text_limits MYANMAR_ZAWGYI_SHAPER m s font t settings = same_by
text_limits UNIVERSAL_SHAPER m s font t settings = same_by

-- ---- masks

mapped_limits : (k : Item → Item) → DependsOnNoLimit (always (with_items_mapped k))
mapped_limits k = always_by (with_items_mapped k) record { seen = λ v limit scratch_flags. refl; scratch_flags = λ v. refl; tested = λ change v. refl; budgeted = λ change v. refl; budget = λ v. refl }

joined_limits : (masks : List ℕ) (s : Option Script) (t : Tables) (pre post : List ℕ) → DependsOnNoLimit (letters_joined masks s t pre post)
joined_limits masks s t pre post = always_by (letters_with_forms t (is_mongolian s) masks pre post) record { seen = λ v limit scratch_flags. refl; scratch_flags = λ v. refl; tested = λ change v. refl; budgeted = λ change v. refl; budget = λ v. refl }

universal_limits : (m : OtMapValue) (s : Option Script) (t : Tables) (pre post : List ℕ) → DependsOnNoLimit (universal_masks_set m s t pre post)
universal_limits m s t pre post =
    then_by (letters_joined_if m s t pre post) (categories_set (universal_category_of t)) (either_by (letters_joined (joining_masks m) s t pre post) as_it_is (joined_limits (joining_masks m) s t pre post) same_by (letters_join s)) (mapped_limits (with_category (universal_category_of t)))

masks_limits : (shaper : hb_ot_script_shaper_t) (m : OtMapValue) (s : Option Script) (t : Tables) (settings : TextSettings) → DependsOnNoLimit (masks_set_by shaper m s t settings)
masks_limits ARABIC_SHAPER m s t settings = joined_limits (joining_masks m) s t settings.pre_context settings.post_context
masks_limits HANGUL_SHAPER m s t settings = mapped_limits (with_letter_mask (jamo_masks m))
masks_limits KHMER_SHAPER m s t settings = mapped_limits (with_category (ot_category_of t))
masks_limits MYANMAR_SHAPER m s t settings = mapped_limits (with_category (ot_category_of t))
masks_limits UNIVERSAL_SHAPER m s t settings = universal_limits m s t settings.pre_context settings.post_context
masks_limits HEBREW_SHAPER m s t settings = same_by
masks_limits INDIC_SHAPER m s t settings = mapped_limits (with_properties t)
masks_limits MYANMAR_ZAWGYI_SHAPER m s t settings = same_by
masks_limits THAI_SHAPER m s t settings = same_by

-- ---- syllables

rule_limits : (rule : List Item → Arrangement) → DependsOnNoLimit (always (with_rule rule))
rule_limits rule = always_by (with_rule rule) record { seen = λ v limit scratch_flags. refl; scratch_flags = λ v. refl; tested = λ change v. refl; budgeted = λ change v. refl; budget = λ v. refl }

bytes_limits : (shaper : hb_ot_script_shaper_t) (at : List Item → ℕ → ℕ) (ss : List Item → List Syllable) → DependsOnNoLimit (λ v. bytes_of shaper (at v.items) (ss v.items) v)
bytes_limits shaper at ss = limited_by (λ v. list_all (is_known shaper) (ss v.items)) (λ v. with_rule (bytes_set (at v.items) 0 (ss v.items)) v) UnknownSyllableKind
    record { seen = λ v limit scratch_flags. refl; scratch_flags = λ v. refl; tested = λ change v. refl; budgeted = λ change v. refl; budget = λ v. refl }

set_limits : (spans : Spans) (shaper : hb_ot_script_shaper_t) → DependsOnNoLimit (syllables_set spans shaper)
set_limits spans shaper = bytes_limits shaper (λ xs. itself) (text_syllables spans shaper)

universal_set_limits : (spans : Spans) → DependsOnNoLimit (universal_set spans)
universal_set_limits spans = bytes_limits UNIVERSAL_SHAPER counted_index (λ xs. syllables (spans UNIVERSAL_SHAPER (categories_counted xs)) (length (categories_counted xs)))

forms_limits : (forms : Option FormMasks) → DependsOnNoLimit (forms_set forms)
forms_limits None = same_by
forms_limits (Some masks) = rule_limits (topography masks)

universal_syllables_limits : (spans : Spans) (rphf : ℕ) (forms : Option FormMasks) → DependsOnNoLimit (universal_syllables_set spans rphf forms)
universal_syllables_limits spans rphf forms =
    then_by (then_syllables (universal_set spans) (rphf_masked rphf)) (forms_set forms) (then_by (universal_set spans) (syllables_by (rphf_masked rphf)) (universal_set_limits spans) (rule_limits (by_syllable (rphf_masked rphf)))) (forms_limits forms)

found_limits : (shaper : hb_ot_script_shaper_t) (m : OtMapValue) (s : Option Script) (spans : Spans) → DependsOnNoLimit (syllables_found_by shaper m s spans)
found_limits UNIVERSAL_SHAPER m s spans = universal_syllables_limits spans (mask_at_one (codes "rphf") m) (form_masks m s)
found_limits ARABIC_SHAPER m s spans = set_limits spans ARABIC_SHAPER
found_limits HANGUL_SHAPER m s spans = set_limits spans HANGUL_SHAPER
found_limits HEBREW_SHAPER m s spans = set_limits spans HEBREW_SHAPER
found_limits INDIC_SHAPER m s spans = set_limits spans INDIC_SHAPER
found_limits KHMER_SHAPER m s spans = set_limits spans KHMER_SHAPER
found_limits MYANMAR_SHAPER m s spans = set_limits spans MYANMAR_SHAPER
found_limits MYANMAR_ZAWGYI_SHAPER m s spans = set_limits spans MYANMAR_ZAWGYI_SHAPER
found_limits THAI_SHAPER m s spans = set_limits spans THAI_SHAPER

-- ---- circles and orders

circles_limits : (rule : Option CircleRule) → DependsOnNoLimit (circles_by rule)
circles_limits None = same_by
circles_limits (Some r) = chosen_by (λ v. list_any (is_broken r) v.items) (λ v. circles_put (with_circles r v.items) v) as_it_is (λ v limit scratch_flags. refl) (λ change v. refl)
    (limited_by (λ v. nat_le (length (circled_items (with_circles r v.items))) v.max_len) (λ v. let ys = with_circles r v.items in with_events (circle_events 0 ys) (record v { items = circled_items ys; positions = zero_positions (length (circled_items ys)) })) TooLong
    record { seen = λ v limit scratch_flags. refl; scratch_flags = λ v. refl; tested = λ change v. refl; budgeted = λ change v. refl; budget = λ v. refl }) same_by

order_limits : (circles : Option CircleRule) (rule : List Item → Arrangement) → DependsOnNoLimit (then_syllables (circles_by circles) rule)
order_limits circles rule = then_by (circles_by circles) (syllables_by rule) (circles_limits circles) (rule_limits (by_syllable rule))

consonants_limits : (forms : Forms) (virama : Option ℕ) → DependsOnNoLimit (consonants_updated forms virama)
consonants_limits forms None = same_by
consonants_limits forms (Some virama) = mapped_limits (consonant_with_position forms virama)

initial_limits : (font : FaceParts) (flags : BufferFlags) (forms : Forms) (virama : Option ℕ) (mode : RephMode) (masks : IndicMasks) → DependsOnNoLimit (initial_stage font flags forms virama mode masks)
initial_limits font flags forms virama mode masks =
    then_by (consonants_updated forms virama) (circles_order font flags (initial_syllable mode masks forms)) (consonants_limits forms virama) (order_limits (indic_circles font flags) (initial_syllable mode masks forms))

pause_limits : (shaper : hb_ot_script_shaper_t) (m : OtMapValue) (s : Option Script) (font : FaceParts) (spans : Spans) (settings : TextSettings) (pause : hb_script_pause_t) → DependsOnNoLimit (pause_done shaper m s font spans settings pause)
pause_limits shaper m s font spans settings RecordStch = either_by (always (with_items_mapped tile_recorded)) as_it_is (mapped_limits tile_recorded) same_by (has_mask (codes "stch") m)
pause_limits shaper m s font spans settings SetupSyllables = found_limits shaper m s spans
pause_limits shaper m s font spans settings ReorderKhmer = order_limits (khmer_circles font settings.flags) (khmer_syllable (khmer_masks m))
pause_limits shaper m s font spans settings ReorderMyanmar = order_limits (myanmar_circles font settings.flags) myanmar_syllable
pause_limits shaper m s font spans settings ClearSyllables = mapped_limits without_syllable
pause_limits shaper m s font spans settings ClearSubstitutionFlags = mapped_limits item_not_substituted
pause_limits shaper m s font spans settings RecordRphf = rule_limits (by_syllable (rphf_recorded (mask_at_one (codes "rphf") m)))
pause_limits shaper m s font spans settings RecordPref = rule_limits (by_syllable pref_recorded)
pause_limits shaper m s font spans settings ReorderUse = order_limits (universal_circles font settings.flags) universal_syllable
pause_limits shaper m s font spans settings InitialReordering =
    initial_limits font settings.flags (font_forms (indic_config s).zero_context m font) (virama_glyph (indic_config s).virama font) (indic_config s).reph_mode (indic_masks (indic_config s).blwf_mode m)
pause_limits shaper m s font spans settings FinalReordering = rule_limits (final_order (indic_config s).reph_pos (indic_masks (indic_config s).blwf_mode m))

pauses_limits : (shaper : hb_ot_script_shaper_t) (m : OtMapValue) (s : Option Script) (font : FaceParts) (spans : Spans) (settings : TextSettings) (pause : Option hb_script_pause_t) → DependsOnNoLimit (pause_if shaper m s font spans settings pause)
pauses_limits shaper m s font spans settings None = same_by
pauses_limits shaper m s font spans settings (Some pause) = pause_limits shaper m s font spans settings pause

-- ---- tiles

tiles_limits : (font : FaceParts) → DependsOnNoLimit (tiles_laid font)
tiles_limits font = chosen_by (λ v. list_all is_in_range (text_runs font v)) (λ v. with_tiles_laid (tiles font v.items (text_runs font v)) v) (λ v. Err StretchRange) (λ v limit scratch_flags. refl) (λ change v. refl)
    (limited_by (λ v. nat_le (length (with_tile_copies v.items (tiles font v.items (text_runs font v)))) v.max_len)
    (λ v. let ts = tiles font v.items (text_runs font v) in with_events (text_stretch_events v.items ++ events_from 0 ts) (record v { items = with_tile_copies v.items ts; positions = all_positions v.positions ts })) TooLong
    record { seen = λ v limit scratch_flags. refl; scratch_flags = λ v. refl; tested = λ change v. refl; budgeted = λ change v. refl; budget = λ v. refl })
    (refused_by StretchRange)

glyphs_limits : (shaper : hb_ot_script_shaper_t) (font : FaceParts) → DependsOnNoLimit (postprocessing_by shaper font)
glyphs_limits ARABIC_SHAPER font = tiles_limits font
glyphs_limits HANGUL_SHAPER font = same_by
glyphs_limits HEBREW_SHAPER font = same_by
glyphs_limits INDIC_SHAPER font = same_by
glyphs_limits KHMER_SHAPER font = same_by
glyphs_limits MYANMAR_SHAPER font = same_by
glyphs_limits MYANMAR_ZAWGYI_SHAPER font = same_by
glyphs_limits THAI_SHAPER font = same_by
glyphs_limits UNIVERSAL_SHAPER font = same_by

-- ---- all

script_limits : (shaper : hb_ot_script_shaper_t) (plan : hb_script_plan_t ⊤) → RulesDependOnNoLimit (script_rules shaper plan)
script_limits shaper plan = record {
  preprocesses = λ font t settings. text_limits shaper plan.map plan.script font t settings;
  sets_masks = λ font t settings. masks_limits shaper plan.map plan.script t settings;
  pauses = λ font t spans settings n. pauses_limits shaper plan.map plan.script font spans settings (pause_of_number n);
  postprocesses = λ font settings. glyphs_limits shaper font;
}

pub rules_depend_on_no_limit : (shaper : hb_ot_any_shaper_t) (plan : hb_script_plan_t ⊤) → RulesDependOnNoLimit (rules_of shaper plan)
rules_depend_on_no_limit any.Default plan = plain_rules_depend_on_no_limit
rules_depend_on_no_limit any.Dumber plan = plain_rules_depend_on_no_limit
rules_depend_on_no_limit (any.Script shaper) plan = script_limits shaper plan
