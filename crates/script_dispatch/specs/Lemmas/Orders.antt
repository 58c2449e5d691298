-- Runs of marks keep their count, and each rule of a shaper keeps the parts of a text.
use Rattle.std.proofs.Common.{◌≡◌, List, length, Option, None, Some, refl}
use Rattle.std.specs.Prelude.{⊤, codes}
use Rattle.buffer_common.specs.declared.script.Script.{Script}
use Rattle.buffer_unicode_tables.specs.Tables.{Tables}
use Rattle.layout_face.specs.declared.parts.FaceParts.{FaceParts}
use Rattle.buffer_glyphs.specs.Items.{Item}
use Rattle.buffer_core.specs.Readings.{always, as_it_is}
use Rattle.layout_map.specs.Compiled.{OtMapValue}
use Rattle.buffer_stages.specs.Settings.{TextSettings}
use Rattle.layout_map.specs.Masks.{has_mask, joining_masks, mask_at_one}
use Rattle.script_plan.specs.declared.plan.hb_script_plan_t.{hb_script_plan_t}
use Rattle.buffer_parts.specs.PlainStages.{KeepsPlainly}
use Rattle.buffer_parts.specs.Lemmas.PlainStages.{either_plainly, plain_stages_keep_parts, same_plainly, then_plainly}
use Rattle.buffer_glyphs.specs.Rewriting.{eventless_arrangement}
use Rattle.script_plan.specs.Rules.{EndAfterStart, IsArrangedInLine, RulesKeepParts, Spans}
use Rattle.script_plan.specs.Lemmas.Arranged.{steady_arranged}
use Rattle.script_plan.specs.Lemmas.Unchanged.{plain_rules_keep_parts}
use Rattle.script_categories.specs.declared.pause.hb_script_pause_t.{hb_script_pause_t}
use Rattle.script_categories.specs.declared.pause.hb_script_pause_t.TheVariants.{RecordStch, SetupSyllables, ReorderKhmer, ReorderMyanmar, ClearSyllables, ClearSubstitutionFlags, RecordRphf, RecordPref, ReorderUse, InitialReordering, FinalReordering}
use Rattle.script_categories.specs.Pauses.{pause_of_number}
use Rattle.script_categories.specs.declared.shaper.hb_ot_script_shaper_t.{hb_ot_script_shaper_t}
use Rattle.script_categories.specs.declared.shaper.hb_ot_script_shaper_t.TheVariants.{ARABIC_SHAPER, HANGUL_SHAPER, HEBREW_SHAPER, INDIC_SHAPER, KHMER_SHAPER, MYANMAR_SHAPER, MYANMAR_ZAWGYI_SHAPER, THAI_SHAPER, UNIVERSAL_SHAPER}
use Rattle.script_thai.specs.ThaiPrivate.{with_private}
use Rattle.script_thai.specs.ThaiVowel.{vowels_decomposed}
use Rattle.script_arabic.specs.MarkOrder.{arabic_order}
use Rattle.script_hebrew.specs.MarkOrder.{hebrew_order}
use Rattle.script_arabic.proofs.MarkCounts.{arabic_length, arabic_steady}
use Rattle.script_hebrew.proofs.MarkCounts.{hebrew_length, hebrew_steady}
use Rattle.script_syllabic.specs.Categories.{ot_category_of}
use Rattle.script_universal.specs.Masks.{form_masks}
use Rattle.script_hangul.specs.MapMasks.{jamo_masks}
use Rattle.script_khmer.specs.Masks.{khmer_masks}
use Rattle.script_arabic.proofs.Plainly.{tiles_keep_plainly}
use Rattle.script_dispatch.specs.Lemmas.Keeping.Hangul.{texts_keep_plainly}
use Rattle.script_dispatch.specs.Lemmas.Keeping.Masks.{masks_keep_plainly}
use Rattle.script_dispatch.specs.Lemmas.Keeping.Orders.{orders_keep_plainly}
use Rattle.script_dispatch.specs.Lemmas.Keeping.Syllables.{syllables_keep_plainly}
use Rattle.script_thai.specs.Texts.{has_private_forms, private_if}
use Rattle.script_dispatch.specs.Hooks.{masks_set_by, pause_done, pause_if, pauses_by, postprocessing_by, preprocessing_by, reorders_by, syllables_found_by}
use Rattle.script_dispatch.specs.declared.any_shaper.hb_ot_any_shaper_t.{hb_ot_any_shaper_t}
use Rattle.script_dispatch.specs.declared.any_shaper.hb_ot_any_shaper_t.TheVariants as any
use Rattle.script_dispatch.specs.Rules.{rules_of, script_rules}

-- ---- how many marks

count_by : (shaper : hb_ot_script_shaper_t) (run : List Item) → length (reorders_by shaper run).items ≡ length run
count_by ARABIC_SHAPER run = arabic_length run
count_by HEBREW_SHAPER run = hebrew_length run
count_by HANGUL_SHAPER run = refl
count_by INDIC_SHAPER run = refl
count_by KHMER_SHAPER run = refl
count_by MYANMAR_SHAPER run = refl
count_by MYANMAR_ZAWGYI_SHAPER run = refl
count_by THAI_SHAPER run = refl
count_by UNIVERSAL_SHAPER run = refl

pub keeps_count : (shaper : hb_ot_any_shaper_t) (plan : hb_script_plan_t ⊤) (run : List Item) → length ((rules_of shaper plan).reorders run).items ≡ length run
keeps_count any.Default plan run = refl
keeps_count any.Dumber plan run = refl
keeps_count (any.Script shaper) plan run = count_by shaper run

-- ---- the parts of texts

text_kept : (shaper : hb_ot_script_shaper_t) (m : OtMapValue) (s : Option Script) (font : FaceParts) (t : Tables) (settings : TextSettings) → KeepsPlainly (preprocessing_by shaper m s font t settings)
text_kept THAI_SHAPER m s font t settings =
    then_plainly vowels_decomposed (private_if (has_private_forms m s) t font) texts_keep_plainly.thai
    (either_plainly (always (with_private t font)) as_it_is (texts_keep_plainly.private_forms t font) same_plainly (has_private_forms m s))
text_kept HANGUL_SHAPER m s font t settings = texts_keep_plainly.hangul font settings.flags
text_kept ARABIC_SHAPER m s font t settings = same_plainly
text_kept HEBREW_SHAPER m s font t settings = same_plainly
text_kept INDIC_SHAPER m s font t settings = same_plainly
text_kept KHMER_SHAPER m s font t settings = same_plainly
text_kept MYANMAR_SHAPER m s font t settings = same_plainly
text_kept MYANMAR_ZAWGYI_SHAPER m s font t settings = same_plainly
text_kept UNIVERSAL_SHAPER m s font t settings = same_plainly

marks_arranged : (shaper : hb_ot_script_shaper_t) (run : List Item) → IsArrangedInLine run (reorders_by shaper run)
marks_arranged ARABIC_SHAPER run = steady_arranged run (arabic_order run) (arabic_steady run)
marks_arranged HEBREW_SHAPER run = steady_arranged run (hebrew_order run) (hebrew_steady run)
marks_arranged HANGUL_SHAPER run = steady_arranged run (eventless_arrangement run) tt
marks_arranged INDIC_SHAPER run = steady_arranged run (eventless_arrangement run) tt
marks_arranged KHMER_SHAPER run = steady_arranged run (eventless_arrangement run) tt
marks_arranged MYANMAR_SHAPER run = steady_arranged run (eventless_arrangement run) tt
marks_arranged MYANMAR_ZAWGYI_SHAPER run = steady_arranged run (eventless_arrangement run) tt
marks_arranged THAI_SHAPER run = steady_arranged run (eventless_arrangement run) tt
marks_arranged UNIVERSAL_SHAPER run = steady_arranged run (eventless_arrangement run) tt

masks_kept : (shaper : hb_ot_script_shaper_t) (m : OtMapValue) (s : Option Script) (t : Tables) (settings : TextSettings) → KeepsPlainly (masks_set_by shaper m s t settings)
masks_kept ARABIC_SHAPER m s t settings = masks_keep_plainly.joined (joining_masks m) s t settings.pre_context settings.post_context
masks_kept HANGUL_SHAPER m s t settings = masks_keep_plainly.letters (jamo_masks m)
masks_kept KHMER_SHAPER m s t settings = masks_keep_plainly.categories (ot_category_of t)
masks_kept MYANMAR_SHAPER m s t settings = masks_keep_plainly.categories (ot_category_of t)
masks_kept UNIVERSAL_SHAPER m s t settings = masks_keep_plainly.universal m s t settings.pre_context settings.post_context
masks_kept HEBREW_SHAPER m s t settings = same_plainly
masks_kept INDIC_SHAPER m s t settings = masks_keep_plainly.indic t
masks_kept MYANMAR_ZAWGYI_SHAPER m s t settings = same_plainly
masks_kept THAI_SHAPER m s t settings = same_plainly

found_kept : (shaper : hb_ot_script_shaper_t) (m : OtMapValue) (s : Option Script) (spans : Spans) → EndAfterStart spans → KeepsPlainly (syllables_found_by shaper m s spans)
found_kept UNIVERSAL_SHAPER m s spans after = syllables_keep_plainly.universal spans (mask_at_one (codes "rphf") m) (form_masks m s) after
found_kept ARABIC_SHAPER m s spans after = syllables_keep_plainly.bytes spans ARABIC_SHAPER after
found_kept HANGUL_SHAPER m s spans after = syllables_keep_plainly.bytes spans HANGUL_SHAPER after
found_kept HEBREW_SHAPER m s spans after = syllables_keep_plainly.bytes spans HEBREW_SHAPER after
found_kept INDIC_SHAPER m s spans after = syllables_keep_plainly.bytes spans INDIC_SHAPER after
found_kept KHMER_SHAPER m s spans after = syllables_keep_plainly.bytes spans KHMER_SHAPER after
found_kept MYANMAR_SHAPER m s spans after = syllables_keep_plainly.bytes spans MYANMAR_SHAPER after
found_kept MYANMAR_ZAWGYI_SHAPER m s spans after = syllables_keep_plainly.bytes spans MYANMAR_ZAWGYI_SHAPER after
found_kept THAI_SHAPER m s spans after = syllables_keep_plainly.bytes spans THAI_SHAPER after

pause_kept : (shaper : hb_ot_script_shaper_t) (m : OtMapValue) (s : Option Script) (font : FaceParts) (spans : Spans) (settings : TextSettings) (pause : hb_script_pause_t) → EndAfterStart spans → KeepsPlainly (pause_done shaper m s font spans settings pause)
pause_kept shaper m s font spans settings RecordStch after = masks_keep_plainly.tiles (has_mask (codes "stch") m)
pause_kept shaper m s font spans settings SetupSyllables after = found_kept shaper m s spans after
pause_kept shaper m s font spans settings ReorderKhmer after = orders_keep_plainly.khmer font settings.flags (khmer_masks m)
pause_kept shaper m s font spans settings ReorderMyanmar after = orders_keep_plainly.myanmar font settings.flags
pause_kept shaper m s font spans settings ClearSyllables after = syllables_keep_plainly.cleared
pause_kept shaper m s font spans settings ClearSubstitutionFlags after = syllables_keep_plainly.forgotten
pause_kept shaper m s font spans settings RecordRphf after = syllables_keep_plainly.rphf (mask_at_one (codes "rphf") m)
pause_kept shaper m s font spans settings RecordPref after = syllables_keep_plainly.pref
pause_kept shaper m s font spans settings ReorderUse after = orders_keep_plainly.universal font settings.flags
pause_kept shaper m s font spans settings InitialReordering after = orders_keep_plainly.indic_initial m s font settings.flags
pause_kept shaper m s font spans settings FinalReordering after = orders_keep_plainly.indic_final m s

pauses_kept : (shaper : hb_ot_script_shaper_t) (m : OtMapValue) (s : Option Script) (font : FaceParts) (spans : Spans) (settings : TextSettings) (pause : Option hb_script_pause_t) → EndAfterStart spans → KeepsPlainly (pause_if shaper m s font spans settings pause)
pauses_kept shaper m s font spans settings None after = same_plainly
pauses_kept shaper m s font spans settings (Some pause) after = pause_kept shaper m s font spans settings pause after

glyphs_kept : (shaper : hb_ot_script_shaper_t) (font : FaceParts) → KeepsPlainly (postprocessing_by shaper font)
glyphs_kept ARABIC_SHAPER font = tiles_keep_plainly font
glyphs_kept HANGUL_SHAPER font = same_plainly
glyphs_kept HEBREW_SHAPER font = same_plainly
glyphs_kept INDIC_SHAPER font = same_plainly
glyphs_kept KHMER_SHAPER font = same_plainly
glyphs_kept MYANMAR_SHAPER font = same_plainly
glyphs_kept MYANMAR_ZAWGYI_SHAPER font = same_plainly
glyphs_kept THAI_SHAPER font = same_plainly
glyphs_kept UNIVERSAL_SHAPER font = same_plainly

script_parts : (shaper : hb_ot_script_shaper_t) (plan : hb_script_plan_t ⊤) → RulesKeepParts (script_rules shaper plan)
script_parts shaper plan = record {
  preprocesses = λ font t settings. plain_stages_keep_parts (preprocessing_by shaper plan.map plan.script font t settings) (text_kept shaper plan.map plan.script font t settings);
  reorders = marks_arranged shaper;
  sets_masks = λ font t settings. plain_stages_keep_parts (masks_set_by shaper plan.map plan.script t settings) (masks_kept shaper plan.map plan.script t settings);
  pauses = λ font t spans settings n after. plain_stages_keep_parts (pauses_by shaper plan.map plan.script font spans settings n) (pauses_kept shaper plan.map plan.script font spans settings (pause_of_number n) after);
  postprocesses = λ font settings. plain_stages_keep_parts (postprocessing_by shaper font) (glyphs_kept shaper font);
}

pub rules_keep_parts : (shaper : hb_ot_any_shaper_t) (plan : hb_script_plan_t ⊤) → RulesKeepParts (rules_of shaper plan)
rules_keep_parts any.Default plan = plain_rules_keep_parts
rules_keep_parts any.Dumber plan = plain_rules_keep_parts
rules_keep_parts (any.Script shaper) plan = script_parts shaper plan
