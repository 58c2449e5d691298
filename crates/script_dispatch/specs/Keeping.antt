-- The rules of scripts keep the parts of a text whatever its clusters are.
use Rattle.std.specs.Prelude.{ℕ, Bool, List, Option}
use Rattle.buffer_common.specs.declared.constants.BufferFlags.{BufferFlags}
use Rattle.buffer_common.specs.declared.script.Script.{Script}
use Rattle.buffer_unicode_tables.specs.Tables.{Tables}
use Rattle.layout_face.specs.declared.parts.FaceParts.{FaceParts}
use Rattle.buffer_core.specs.Readings.{always}
use Rattle.layout_map.specs.Compiled.{OtMapValue}
use Rattle.buffer_stages.specs.Stages.{with_items_mapped}
use Rattle.buffer_parts.specs.PlainStages.{KeepsPlainly}
use Rattle.script_plan.specs.Rules.{EndAfterStart, Spans}
use Rattle.script_categories.specs.declared.shaper.hb_ot_script_shaper_t.{hb_ot_script_shaper_t}
use Rattle.script_thai.specs.ThaiPrivate.{with_private}
use Rattle.script_thai.specs.ThaiVowel.{vowels_decomposed}
use Rattle.script_hangul.specs.declared.masks.JamoMasks.{JamoMasks}
use Rattle.script_hangul.specs.Hangul.{hangul_text}
use Rattle.script_hangul.specs.Masks.{with_letter_mask}
use Rattle.script_syllabic.specs.Bytes.{syllables_set}
use Rattle.script_khmer.specs.declared.khmer.KhmerMasks.{KhmerMasks}
use Rattle.script_syllabic.specs.declared.forms.FormMasks.{FormMasks}
use Rattle.script_syllabic.specs.Features.{pref_recorded, rphf_recorded}
use Rattle.script_syllabic.specs.Categories.{categories_set}
use Rattle.script_indic.specs.Categories.{properties_set}
use Rattle.script_indic.specs.Reordering.{indic_final, indic_initial}
use Rattle.script_khmer.specs.Pauses.{khmer_order}
use Rattle.script_myanmar.specs.Pauses.{myanmar_order}
use Rattle.buffer_stages.specs.LayoutStages.{substitutions_cleared}
use Rattle.script_syllabic.specs.Syllables.{syllables_by, syllables_cleared}
use Rattle.script_universal.specs.Pauses.{universal_order, universal_syllables_set}
use Rattle.script_joining.specs.Joining.{letters_joined}
use Rattle.script_universal.specs.Masks.{universal_masks_set}
use Rattle.script_arabic.specs.Tiles.{tiles_recorded}

-- vowels of Thai and Lao, private forms of Thai, and syllables of Hangul
pub record TextsKeepPlainly : Type 0 where
  pub thai : KeepsPlainly vowels_decomposed
  pub private_forms : (t : Tables) (font : FaceParts) → KeepsPlainly (always (with_private t font))
  pub hangul : (font : FaceParts) (flags : BufferFlags) → KeepsPlainly (hangul_text font flags)

-- where syllables are, the features of their glyphs and what is recorded
pub record SyllablesKeepPlainly : Type 0 where
  pub bytes : (span_of : Spans) (shaper : hb_ot_script_shaper_t) → EndAfterStart span_of → KeepsPlainly (syllables_set span_of shaper)
  pub universal : (span_of : Spans) (rphf : ℕ) (forms : Option FormMasks) → EndAfterStart span_of → KeepsPlainly (universal_syllables_set span_of rphf forms)
  pub rphf : (mask : ℕ) → KeepsPlainly (syllables_by (rphf_recorded mask))
  pub pref : KeepsPlainly (syllables_by pref_recorded)
  pub cleared : KeepsPlainly syllables_cleared
  pub forgotten : KeepsPlainly substitutions_cleared

-- dotted circles and the order of syllables
pub record OrdersKeepPlainly : Type 0 where
  pub indic_initial : (m : OtMapValue) (s : Option Script) (font : FaceParts) (flags : BufferFlags) → KeepsPlainly (indic_initial m s font flags)
  pub indic_final : (m : OtMapValue) (s : Option Script) → KeepsPlainly (indic_final m s)
  pub khmer : (font : FaceParts) (flags : BufferFlags) (masks : KhmerMasks) → KeepsPlainly (khmer_order font flags masks)
  pub myanmar : (font : FaceParts) (flags : BufferFlags) → KeepsPlainly (myanmar_order font flags)
  pub universal : (font : FaceParts) (flags : BufferFlags) → KeepsPlainly (universal_order font flags)

-- the forms of letters, their positions in syllables, the categories of characters, and which glyphs are tiles
pub record MasksKeepPlainly : Type 0 where
  pub joined : (masks : List ℕ) (s : Option Script) (t : Tables) (pre post : List ℕ) → KeepsPlainly (letters_joined masks s t pre post)
  pub letters : (masks : JamoMasks) → KeepsPlainly (always (with_items_mapped (with_letter_mask masks)))
  pub categories : (category_of : ℕ → ℕ) → KeepsPlainly (categories_set category_of)
  pub indic : (t : Tables) → KeepsPlainly (properties_set t)
  pub universal : (m : OtMapValue) (s : Option Script) (t : Tables) (pre post : List ℕ) → KeepsPlainly (universal_masks_set m s t pre post)
  pub tiles : (has_stch : Bool) → KeepsPlainly (tiles_recorded has_stch)
