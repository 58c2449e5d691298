-- The shapers of this stack leave the direction of a text.
use Rattle.std.proofs.Common.{ℕ, ◌≡◌, Bool, true, false, if◌then◌else◌, nat_le, List, [], length, Option, None, Some, Ok, Err, refl}
use Rattle.std.specs.List.{list_all, list_any}
use Rattle.std.specs.Prelude.{⊤, codes}
use Rattle.buffer_common.specs.declared.constants.BufferFlags.{BufferFlags}
use Rattle.buffer_common.specs.declared.script.Script.{Script}
use Rattle.buffer_unicode_tables.specs.Tables.{Tables}
use Rattle.layout_face.specs.declared.parts.FaceParts.{FaceParts}
use Rattle.layout_map.specs.Compiled.{OtMapValue}
use Rattle.layout_map.specs.Masks.{has_mask, joining_masks, mask_at_one}
use Rattle.buffer_glyphs.specs.declared.cause.ShapeCause.{ShapeCause}
use Rattle.buffer_glyphs.specs.declared.cause.ShapeCause.TheVariants.{TooLong, UnknownSyllableKind}
use Rattle.buffer_glyphs.specs.Items.{Item}
use Rattle.buffer_glyphs.specs.Rewriting.{Arrangement}
use Rattle.buffer_core.specs.Readings.{Read, Reading, Stage, View, always, and_then, as_it_is, with_events}
use Rattle.buffer_core.specs.Sides.{zero_positions}
use Rattle.buffer_stages.specs.Cuts.{Syllable, syllables}
use Rattle.buffer_stages.specs.Settings.{TextSettings}
use Rattle.buffer_stages.specs.Stages.{with_items_mapped}
use Rattle.buffer_stages.specs.SyllableBuffers.{with_rule}
use Rattle.buffer_parts.specs.Lemmas.Stages.{at_read}
use Rattle.script_categories.specs.Pauses.{pause_of_number}
use Rattle.script_categories.specs.declared.pause.hb_script_pause_t.{hb_script_pause_t}
use Rattle.script_categories.specs.declared.pause.hb_script_pause_t.TheVariants.{RecordStch, SetupSyllables, ReorderKhmer, ReorderMyanmar, ClearSyllables, ClearSubstitutionFlags, RecordRphf, RecordPref, ReorderUse, InitialReordering, FinalReordering}
use Rattle.script_categories.specs.declared.shaper.hb_ot_script_shaper_t.{hb_ot_script_shaper_t}
use Rattle.script_categories.specs.declared.shaper.hb_ot_script_shaper_t.TheVariants.{ARABIC_SHAPER, HANGUL_SHAPER, HEBREW_SHAPER, INDIC_SHAPER, KHMER_SHAPER, MYANMAR_SHAPER, MYANMAR_ZAWGYI_SHAPER, THAI_SHAPER, UNIVERSAL_SHAPER}
use Rattle.script_arabic.specs.Tiles.{tile_recorded}
use Rattle.script_hangul.specs.Hangul.{events_after, hangul_text, jamo_rule, syllables_formed, text_after, wants_circles}
use Rattle.script_indic.specs.Config.{indic_config}
use Rattle.script_indic.specs.FontForms.{font_forms}
use Rattle.script_indic.specs.Masks.{indic_masks}
use Rattle.script_indic.specs.Reordering.{circles_order, consonants_updated, indic_circles, indic_initial, virama_glyph}
use Rattle.script_indic_reordering.specs.Base.{Forms}
use Rattle.script_indic_reordering.specs.Orders.{initial_syllable}
use Rattle.script_joining.specs.Joining.{is_mongolian, letters_joined, letters_with_forms}
use Rattle.script_khmer.specs.Khmer.{khmer_syllable}
use Rattle.script_khmer.specs.Masks.{khmer_masks}
use Rattle.script_khmer.specs.Pauses.{khmer_circles}
use Rattle.script_myanmar.specs.Myanmar.{myanmar_syllable}
use Rattle.script_myanmar.specs.Pauses.{myanmar_circles}
use Rattle.script_syllabic.specs.Bytes.{bytes_of, bytes_set, is_known, itself, syllables_set, text_syllables}
use Rattle.script_syllabic.specs.declared.forms.FormMasks.{FormMasks}
use Rattle.script_syllabic.specs.declared.circles.CircleRule.{CircleRule}
use Rattle.script_syllabic.specs.Circles.{CircledItem, circle_events, circled_items, circles_by, circles_put, is_broken, with_circles}
use Rattle.script_syllabic.specs.Features.{rphf_masked}
use Rattle.script_syllabic.specs.Spans.{categories_counted, counted_index, universal_set}
use Rattle.script_syllabic.specs.Syllables.{syllables_by, then_syllables}
use Rattle.script_thai.specs.Texts.{has_private_forms, private_if}
use Rattle.script_thai.specs.ThaiPrivate.{with_private}
use Rattle.script_thai.specs.ThaiVowel.{split_events, text_with_splits, vowel_rule, vowels_decomposed, vowels_split}
use Rattle.script_syllabic.specs.Graphemes.{with_graphemes_merged}
use Rattle.script_universal.specs.Masks.{form_masks, letters_join, letters_joined_if}
use Rattle.script_universal.specs.Reordering.{universal_syllable}
use Rattle.script_universal.specs.Pauses.{forms_set, universal_circles}
use Rattle.script_plan.specs.Plans.{planned_shaper, text_plan}
use Rattle.script_plan.specs.Rules.{Spans, plain_rules}
use Rattle.script_plan.specs.declared.plan.hb_script_plan_t.{hb_script_plan_t}
use Rattle.script_dispatch.specs.Hooks.{masks_set_by, pause_done, pause_if, preprocessing_by, syllables_found_by}
use Rattle.script_dispatch.specs.Requests.{any_kind}
use Rattle.script_dispatch.specs.Rules.{rules_of}
use Rattle.script_dispatch.specs.declared.any_shaper.hb_ot_any_shaper_t.{hb_ot_any_shaper_t}
use Rattle.script_dispatch.specs.declared.any_shaper.hb_ot_any_shaper_t.TheVariants as any
use Rattle.shape_pipeline.specs.Shaped.{language_tags}
use Rattle.shape_parts.specs.Lines.{KeepsDirection}
use Rattle.shape_parts.proofs.StageLines.{always_direction, same_in_line}
use Rattle.shape_parts.specs.Premises.{RulesKeepDirection}
use Rattle.shape_parts.specs.TextLaws.{ShapersKeepDirection}
use Rattle.shape_parts.proofs.Directions.{stages_direction, same_direction as same}

-- ---- forms of stages

mapped : (k : Item → Item) → KeepsDirection (always (with_items_mapped k))
mapped k = always_direction (with_items_mapped k) (λ v. refl)

ruled : (rule : List Item → Arrangement) → KeepsDirection (always (with_rule rule))
ruled rule = always_direction (with_rule rule) (λ v. refl)

-- a read where a test holds, else a refusal
limited : (t : Bool) (cause : ShapeCause) (v : View) (s r : Read) → s.view.direction ≡ v.direction → ◌≡◌ {A = Reading} (if t then Ok s else Err cause) (Ok r) → r.view.direction ≡ v.direction
limited true cause v s r p e = at_read (λ q. q.view.direction ≡ v.direction) s r e p
limited false cause v s r p e = cc

either : (b : Bool) (s t : Stage) → KeepsDirection s → KeepsDirection t → KeepsDirection (λ v. if b then s v else t v)
either true s t p q = p
either false s t p q = q

-- ---- the text

thai_keeps : (m : OtMapValue) (s : Option Script) (t : Tables) (font : FaceParts) → KeepsDirection (λ v. and_then (vowels_decomposed v) (private_if (has_private_forms m s) t font))
thai_keeps m s t font =
    stages_direction vowels_decomposed (private_if (has_private_forms m s) t font)
    (stages_direction (always (with_graphemes_merged vowel_rule)) vowels_split (always_direction (with_graphemes_merged vowel_rule) (λ v. refl))
    (λ v r e. limited (nat_le (length (text_with_splits [] v.items)) v.max_len) TooLong v (record { view = record v { items = text_with_splits [] v.items; positions = zero_positions (length (text_with_splits [] v.items)) }; events = λ level. split_events [] v.items }) r refl e))
    (either (has_private_forms m s) (always (with_private t font)) as_it_is (always_direction (with_private t font) (λ v. refl)) same)

formed_keeps : (font : FaceParts) (flags : BufferFlags) → KeepsDirection (syllables_formed font flags)
formed_keeps font flags v r e =
    let xs = text_after font (wants_circles flags) (length v.items) 0 [] v.items in
    limited (nat_le (length xs) v.max_len) TooLong v (record { view = record v { items = xs; positions = zero_positions (length xs) }; events = λ level. events_after font (wants_circles flags) level (length v.items) 0 [] v.items }) r refl e

hangul_keeps : (font : FaceParts) (flags : BufferFlags) → KeepsDirection (hangul_text font flags)
hangul_keeps font flags =
    stages_direction (always (with_graphemes_merged (jamo_rule font))) (syllables_formed font flags) (always_direction (with_graphemes_merged (jamo_rule font)) (λ v. refl)) (formed_keeps font flags)

text_keeps : (shaper : hb_ot_script_shaper_t) (m : OtMapValue) (s : Option Script) (font : FaceParts) (t : Tables) (settings : TextSettings) → KeepsDirection (preprocessing_by shaper m s font t settings)
text_keeps THAI_SHAPER m s font t settings = thai_keeps m s t font
text_keeps HANGUL_SHAPER m s font t settings = hangul_keeps font settings.flags
text_keeps ARABIC_SHAPER m s font t settings = same
text_keeps HEBREW_SHAPER m s font t settings = same
text_keeps INDIC_SHAPER m s font t settings = same
text_keeps KHMER_SHAPER m s font t settings = same
text_keeps MYANMAR_SHAPER m s font t settings = same
text_keeps MYANMAR_ZAWGYI_SHAPER m s font t settings = same
text_keeps UNIVERSAL_SHAPER m s font t settings = same

-- ---- masks

joined_keeps : (masks : List ℕ) (s : Option Script) (t : Tables) (pre post : List ℕ) → KeepsDirection (letters_joined masks s t pre post)
joined_keeps masks s t pre post = always_direction (letters_with_forms t (is_mongolian s) masks pre post) (λ v. refl)

masks_keep : (shaper : hb_ot_script_shaper_t) (m : OtMapValue) (s : Option Script) (t : Tables) (settings : TextSettings) → KeepsDirection (masks_set_by shaper m s t settings)
masks_keep ARABIC_SHAPER m s t settings = joined_keeps (joining_masks m) s t settings.pre_context settings.post_context
masks_keep HANGUL_SHAPER m s t settings = mapped _
masks_keep KHMER_SHAPER m s t settings = mapped _
masks_keep MYANMAR_SHAPER m s t settings = mapped _
masks_keep UNIVERSAL_SHAPER m s t settings =
    stages_direction (letters_joined_if m s t settings.pre_context settings.post_context) _
    (either (letters_join s) (letters_joined (joining_masks m) s t settings.pre_context settings.post_context) as_it_is (joined_keeps (joining_masks m) s t settings.pre_context settings.post_context) same) (mapped _)
masks_keep HEBREW_SHAPER m s t settings = same
masks_keep INDIC_SHAPER m s t settings = mapped _
masks_keep MYANMAR_ZAWGYI_SHAPER m s t settings = same
masks_keep THAI_SHAPER m s t settings = same

-- ---- pauses

bytes_keep : (shaper : hb_ot_script_shaper_t) (at : ℕ → ℕ) (ss : List Syllable) → KeepsDirection (bytes_of shaper at ss)
bytes_keep shaper at ss v r e = limited (list_all (is_known shaper) ss) UnknownSyllableKind v (with_rule (bytes_set at 0 ss) v) r refl e

found_keeps : (spans : Spans) (shaper : hb_ot_script_shaper_t) → KeepsDirection (syllables_set spans shaper)
found_keeps spans shaper v r e = bytes_keep shaper itself (text_syllables spans shaper v.items) v r e

universal_found_keeps : (spans : Spans) → KeepsDirection (universal_set spans)
universal_found_keeps spans v r e =
    bytes_keep UNIVERSAL_SHAPER (counted_index v.items) (syllables (spans UNIVERSAL_SHAPER (categories_counted v.items)) (length (categories_counted v.items))) v r e

put_keeps : (ys : List CircledItem) → KeepsDirection (circles_put ys)
put_keeps ys v r e = limited (nat_le (length (circled_items ys)) v.max_len) TooLong v (with_events (circle_events 0 ys) (record v { items = circled_items ys; positions = zero_positions (length (circled_items ys)) })) r refl e

circles_keep : (rule : Option CircleRule) → KeepsDirection (circles_by rule)
circles_keep None v r e = same v r e
circles_keep (Some rule) v r e = by_test (list_any (is_broken rule) v.items) e
  where
    by_test : (b : Bool) → ◌≡◌ {A = Reading} (if b then circles_put (with_circles rule v.items) v else as_it_is v) (Ok r) → r.view.direction ≡ v.direction
    by_test true f = put_keeps (with_circles rule v.items) v r f
    by_test false f = same v r f

then_keeps : (s : Stage) (rule : List Item → Arrangement) → KeepsDirection s → KeepsDirection (then_syllables s rule)
then_keeps s rule p = stages_direction s (syllables_by rule) p (ruled _)

updated_keep : (forms : Forms) (virama : Option ℕ) → KeepsDirection (consonants_updated forms virama)
updated_keep forms None = same
updated_keep forms (Some virama) = mapped _

indic_keeps : (m : OtMapValue) (s : Option Script) (font : FaceParts) (flags : BufferFlags) → KeepsDirection (indic_initial m s font flags)
indic_keeps m s font flags =
    let forms = font_forms (indic_config s).zero_context m font in
    let virama = virama_glyph (indic_config s).virama font in
    let rule = initial_syllable (indic_config s).reph_mode (indic_masks (indic_config s).blwf_mode m) forms in
    stages_direction (consonants_updated forms virama) (circles_order font flags rule) (updated_keep forms virama) (then_keeps (circles_by (indic_circles font flags)) rule (circles_keep (indic_circles font flags)))

forms_keep : (o : Option FormMasks) → KeepsDirection (forms_set o)
forms_keep None = same
forms_keep (Some masks) = ruled _

syllables_keep : (shaper : hb_ot_script_shaper_t) (m : OtMapValue) (s : Option Script) (spans : Spans) → KeepsDirection (syllables_found_by shaper m s spans)
syllables_keep UNIVERSAL_SHAPER m s spans =
    let rule = rphf_masked (mask_at_one (codes "rphf") m) in
    stages_direction (then_syllables (universal_set spans) rule) (forms_set (form_masks m s)) (then_keeps (universal_set spans) rule (universal_found_keeps spans)) (forms_keep (form_masks m s))
syllables_keep ARABIC_SHAPER m s spans = found_keeps spans ARABIC_SHAPER
syllables_keep HANGUL_SHAPER m s spans = found_keeps spans HANGUL_SHAPER
syllables_keep HEBREW_SHAPER m s spans = found_keeps spans HEBREW_SHAPER
syllables_keep INDIC_SHAPER m s spans = found_keeps spans INDIC_SHAPER
syllables_keep KHMER_SHAPER m s spans = found_keeps spans KHMER_SHAPER
syllables_keep MYANMAR_SHAPER m s spans = found_keeps spans MYANMAR_SHAPER
syllables_keep MYANMAR_ZAWGYI_SHAPER m s spans = found_keeps spans MYANMAR_ZAWGYI_SHAPER
syllables_keep THAI_SHAPER m s spans = found_keeps spans THAI_SHAPER

pause_keeps : (shaper : hb_ot_script_shaper_t) (m : OtMapValue) (s : Option Script) (font : FaceParts) (spans : Spans) (settings : TextSettings) (pause : hb_script_pause_t) → KeepsDirection (pause_done shaper m s font spans settings pause)
pause_keeps shaper m s font spans settings RecordStch = either (has_mask (codes "stch") m) (always (with_items_mapped tile_recorded)) as_it_is (mapped tile_recorded) same
pause_keeps shaper m s font spans settings SetupSyllables = syllables_keep shaper m s spans
pause_keeps shaper m s font spans settings ReorderKhmer = then_keeps (circles_by (khmer_circles font settings.flags)) (khmer_syllable (khmer_masks m)) (circles_keep (khmer_circles font settings.flags))
pause_keeps shaper m s font spans settings ReorderMyanmar = then_keeps (circles_by (myanmar_circles font settings.flags)) myanmar_syllable (circles_keep (myanmar_circles font settings.flags))
pause_keeps shaper m s font spans settings ClearSyllables = mapped _
pause_keeps shaper m s font spans settings ClearSubstitutionFlags = mapped _
pause_keeps shaper m s font spans settings RecordRphf = ruled _
pause_keeps shaper m s font spans settings RecordPref = ruled _
pause_keeps shaper m s font spans settings ReorderUse = then_keeps (circles_by (universal_circles font settings.flags)) universal_syllable (circles_keep (universal_circles font settings.flags))
pause_keeps shaper m s font spans settings InitialReordering = indic_keeps m s font settings.flags
pause_keeps shaper m s font spans settings FinalReordering = ruled _

pauses_keep : (shaper : hb_ot_script_shaper_t) (m : OtMapValue) (s : Option Script) (font : FaceParts) (spans : Spans) (settings : TextSettings) (pause : Option hb_script_pause_t) → KeepsDirection (pause_if shaper m s font spans settings pause)
pauses_keep shaper m s font spans settings None = same
pauses_keep shaper m s font spans settings (Some pause) = pause_keeps shaper m s font spans settings pause

-- ---- rules

plain_keep : RulesKeepDirection plain_rules
plain_keep = record { preprocesses = λ font t settings. same; sets_masks = λ font t settings. same; pauses = λ font t spans settings n. same }

rules_keep : (shaper : hb_ot_any_shaper_t) (plan : hb_script_plan_t ⊤) → RulesKeepDirection (rules_of shaper plan)
rules_keep any.Default plan = plain_keep
rules_keep any.Dumber plan = plain_keep
rules_keep (any.Script shaper) plan = record {
  preprocesses = λ font t settings. text_keeps shaper plan.map plan.script font t settings;
  sets_masks = λ font t settings. masks_keep shaper plan.map plan.script t settings;
  pauses = λ font t spans settings n. pauses_keep shaper plan.map plan.script font spans settings (pause_of_number n);
}

pub shapers_keep_direction : ShapersKeepDirection
shapers_keep_direction font tables tags spans features text =
    rules_keep (planned_shaper any_kind font (language_tags tags text) text.direction text.script) (text_plan any_kind font (language_tags tags text) text.direction text.script features)
