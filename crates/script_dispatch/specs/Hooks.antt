-- The hooks of the scripts' shapers, as stages on a text.
use Rattle.std.specs.Prelude.{ℕ, Bool, List, Option, Some, None, codes}
use Rattle.buffer_common.specs.declared.script.Script.{Script}
use Rattle.buffer_unicode_tables.specs.Expansion.{Splits}
use Rattle.buffer_unicode_tables.specs.Tables.{Tables, pair_of, split_of}
use Rattle.layout_face.specs.declared.parts.FaceParts.{FaceParts}
use Rattle.buffer_glyphs.specs.Items.{Item}
use Rattle.buffer_core.specs.Readings.{Stage, always, as_it_is}
use Rattle.layout_map.specs.Compiled.{OtMapValue}
use Rattle.layout_map.specs.Masks.{has_mask, joining_masks, mask_at_one}
use Rattle.buffer_stages.specs.Pauses.{Pauses}
use Rattle.buffer_stages.specs.Settings.{TextSettings}
use Rattle.buffer_glyphs.specs.Rewriting.{Arrangement, eventless_arrangement}
use Rattle.buffer_stages.specs.Stages.{with_items_mapped}
use Rattle.script_categories.specs.declared.pause.hb_script_pause_t.{hb_script_pause_t}
use Rattle.script_categories.specs.declared.pause.hb_script_pause_t.TheVariants.{RecordStch, SetupSyllables, ReorderKhmer, ReorderMyanmar, ClearSyllables, ClearSubstitutionFlags, RecordRphf, RecordPref, ReorderUse, InitialReordering, FinalReordering}
use Rattle.script_categories.specs.Pauses.{pause_of_number}
use Rattle.script_categories.specs.declared.shaper.hb_ot_script_shaper_t.{hb_ot_script_shaper_t}
use Rattle.script_categories.specs.declared.shaper.hb_ot_script_shaper_t.TheVariants.{ARABIC_SHAPER, HANGUL_SHAPER, HEBREW_SHAPER, INDIC_SHAPER, KHMER_SHAPER, MYANMAR_SHAPER, THAI_SHAPER, UNIVERSAL_SHAPER}
use Rattle.script_hebrew.specs.Hebrew.{hebrew_pair}
use Rattle.script_hebrew.specs.MarkOrder.{hebrew_order}
use Rattle.script_thai.specs.Texts.{thai_text}
use Rattle.script_hangul.specs.Hangul.{hangul_text}
use Rattle.script_hangul.specs.MapMasks.{jamo_masks}
use Rattle.script_hangul.specs.Masks.{with_letter_mask}
use Rattle.script_khmer.specs.Khmer.{khmer_split}
use Rattle.script_khmer.specs.Masks.{khmer_masks}
use Rattle.script_khmer.specs.Pauses.{khmer_order}
use Rattle.script_indic.specs.Categories.{properties_set}
use Rattle.script_indic.specs.Characters.{indic_pair, indic_split}
use Rattle.script_indic.specs.Reordering.{indic_final, indic_initial}
use Rattle.script_myanmar.specs.Pauses.{myanmar_order}
use Rattle.script_universal.specs.Masks.{form_masks, universal_masks_set}
use Rattle.script_universal.specs.Pauses.{universal_order, universal_syllables_set}
use Rattle.script_joining.specs.Joining.{letters_joined}
use Rattle.script_arabic.specs.MarkOrder.{arabic_order}
use Rattle.script_arabic.specs.Stretch.{tiles_laid}
use Rattle.script_arabic.specs.Tiles.{tiles_recorded}
use Rattle.script_syllabic.specs.Bytes.{syllables_set}
use Rattle.script_syllabic.specs.Categories.{categories_set, ot_category_of}
use Rattle.script_syllabic.specs.Characters.{unmarked_pair}
use Rattle.script_syllabic.specs.Features.{pref_recorded, rphf_recorded}
use Rattle.buffer_stages.specs.LayoutStages.{substitutions_cleared}
use Rattle.script_syllabic.specs.Syllables.{syllables_by, syllables_cleared}

-- ---- the text

-- the stage before normalizing: vowels of Thai and Lao, syllables of Hangul (HarfBuzz: preprocess_text)
abbrev pub preprocessing_by : hb_ot_script_shaper_t → OtMapValue → Option Script → FaceParts → Tables → TextSettings → Stage
preprocessing_by THAI_SHAPER m s font t settings = thai_text m s t font
preprocessing_by HANGUL_SHAPER m s font t settings = hangul_text font settings.flags
preprocessing_by _ m s font t settings = as_it_is

-- ---- characters

-- the decompositions of characters: Unicode's, but for Khmer vowels with a left half and Indic letters that fonts have
-- whole (HarfBuzz: decompose)
abbrev pub splits_by : hb_ot_script_shaper_t → Tables → Splits
splits_by INDIC_SHAPER t = indic_split t
splits_by KHMER_SHAPER t = khmer_split t
splits_by _ t = split_of t

-- the compositions of characters: Unicode's, with presentation forms in Hebrew where the font has no GPOS mark
-- positioning (HarfBuzz: compose)
abbrev pub composes_by : hb_ot_script_shaper_t → Bool → Tables → ℕ → ℕ → Option ℕ
composes_by HEBREW_SHAPER has_gpos_mark t = hebrew_pair t has_gpos_mark
composes_by INDIC_SHAPER has_gpos_mark t = indic_pair t
composes_by KHMER_SHAPER has_gpos_mark t = unmarked_pair t
composes_by UNIVERSAL_SHAPER has_gpos_mark t = unmarked_pair t
composes_by _ has_gpos_mark t = pair_of t

-- the order of a run of marks that is sorted by class (HarfBuzz: reorder_marks)
abbrev pub reorders_by : hb_ot_script_shaper_t → List Item → Arrangement
reorders_by ARABIC_SHAPER = arabic_order
reorders_by HEBREW_SHAPER = hebrew_order
reorders_by _ = λ run. eventless_arrangement run

-- ---- masks

-- the stage that sets letters' forms, jamo masks and categories (HarfBuzz: setup_masks)
abbrev pub masks_set_by : hb_ot_script_shaper_t → OtMapValue → Option Script → Tables → TextSettings → Stage
masks_set_by ARABIC_SHAPER m s t settings = letters_joined (joining_masks m) s t settings.pre_context settings.post_context
masks_set_by HANGUL_SHAPER m s t settings = always (with_items_mapped (with_letter_mask (jamo_masks m)))
masks_set_by INDIC_SHAPER m s t settings = properties_set t
masks_set_by KHMER_SHAPER m s t settings = categories_set (ot_category_of t)
masks_set_by MYANMAR_SHAPER m s t settings = categories_set (ot_category_of t)
masks_set_by UNIVERSAL_SHAPER m s t settings = universal_masks_set m s t settings.pre_context settings.post_context
masks_set_by _ m s t settings = as_it_is

-- ---- pauses

-- the machines' answer: where syllables end
abbrev pub Spans : Type 0
Spans = hb_ot_script_shaper_t → List ℕ → ℕ → ℕ × ℕ

-- the stage that finds the syllables of a shaper
abbrev pub syllables_found_by : hb_ot_script_shaper_t → OtMapValue → Option Script → Spans → Stage
syllables_found_by UNIVERSAL_SHAPER m s spans = universal_syllables_set spans (mask_at_one (codes "rphf") m) (form_masks m s)
syllables_found_by shaper m s spans = syllables_set spans shaper

-- the stage of a pause
abbrev pub pause_done : hb_ot_script_shaper_t → OtMapValue → Option Script → FaceParts → Spans → TextSettings → hb_script_pause_t → Stage
pause_done shaper m s font spans settings RecordStch = tiles_recorded (has_mask (codes "stch") m)
pause_done shaper m s font spans settings SetupSyllables = syllables_found_by shaper m s spans
pause_done shaper m s font spans settings ReorderKhmer = khmer_order font settings.flags (khmer_masks m)
pause_done shaper m s font spans settings ReorderMyanmar = myanmar_order font settings.flags
pause_done shaper m s font spans settings ClearSyllables = syllables_cleared
pause_done shaper m s font spans settings ClearSubstitutionFlags = substitutions_cleared
pause_done shaper m s font spans settings RecordRphf = syllables_by (rphf_recorded (mask_at_one (codes "rphf") m))
pause_done shaper m s font spans settings RecordPref = syllables_by pref_recorded
pause_done shaper m s font spans settings ReorderUse = universal_order font settings.flags
pause_done shaper m s font spans settings InitialReordering = indic_initial m s font settings.flags
pause_done shaper m s font spans settings FinalReordering = indic_final m s

-- the stage of a pause, if there is one
abbrev pub pause_if : hb_ot_script_shaper_t → OtMapValue → Option Script → FaceParts → Spans → TextSettings → Option hb_script_pause_t → Stage
pause_if shaper m s font spans settings None = as_it_is
pause_if shaper m s font spans settings (Some pause) = pause_done shaper m s font spans settings pause

-- the stage of the pause with a number
abbrev pub pauses_by : hb_ot_script_shaper_t → OtMapValue → Option Script → FaceParts → Spans → TextSettings → Pauses
pauses_by shaper m s font spans settings n = pause_if shaper m s font spans settings (pause_of_number n)

-- ---- glyphs

-- the stage on glyphs in visual order: Arabic tiles are laid over their words (HarfBuzz: postprocess_glyphs)
abbrev pub postprocessing_by : hb_ot_script_shaper_t → FaceParts → Stage
postprocessing_by ARABIC_SHAPER font = tiles_laid font
postprocessing_by _ font = as_it_is
