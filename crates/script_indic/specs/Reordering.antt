-- The pauses of the Indic shaper as stages (OpenType specification, script development for Indic scripts; HarfBuzz:
-- initial_reordering_indic, final_reordering_indic).
use Rattle.std.specs.Prelude.{ℕ, List, Option, None, Some}
use Rattle.buffer_common.specs.declared.constants.BufferFlags.{BufferFlags}
use Rattle.buffer_common.specs.declared.script.Script.{Script}
use Rattle.layout_face.specs.declared.parts.FaceParts.{FaceParts}
use Rattle.layout_face.specs.Glyphs.{nominal_glyph}
use Rattle.layout_map.specs.Compiled.{OtMapValue}
use Rattle.script_categories.specs.declared.ot_category_t.TheConstants as category
use Rattle.script_categories.specs.declared.ot_position_t.TheConstants as position
use Rattle.script_categories.specs.declared.syllable_kinds.indic.TheConstants as indic
use Rattle.buffer_glyphs.specs.Items.{Item}
use Rattle.buffer_glyphs.specs.Rewriting.{Arrangement}
use Rattle.buffer_core.specs.Readings.{Stage, always, and_then, as_it_is}
use Rattle.buffer_stages.specs.Stages.{with_items_mapped}
use Rattle.buffer_stages.specs.SyllableBuffers.{with_rule}
use Rattle.script_syllabic.specs.declared.circles.CircleRule.{CircleRule}
use Rattle.script_syllabic.specs.Circles.{circles_by}
use Rattle.script_syllabic.specs.Rules.{circle_rule}
use Rattle.script_syllabic.specs.Syllables.{then_syllables}
use Rattle.script_indic_reordering.specs.declared.script.IndicMasks.{IndicMasks}
use Rattle.script_indic_reordering.specs.declared.script.RephMode.{RephMode}
use Rattle.script_indic_reordering.specs.Base.{Forms}
use Rattle.script_indic_reordering.specs.Orders.{consonant_with_position, final_order, initial_syllable}
use Rattle.script_indic.specs.Config.{indic_config}
use Rattle.script_indic.specs.FontForms.{font_forms}
use Rattle.script_indic.specs.Masks.{indic_masks}

-- the glyph of a script's virama, where the script has one and the font has a glyph
abbrev pub virama_glyph : Option ℕ → FaceParts → Option ℕ
virama_glyph None font = None
virama_glyph (Some virama) font = nominal_glyph virama font

-- the stage that gives consonants the positions of their forms with a virama; without the virama's glyph no form is below
-- the base or after it (HarfBuzz: update_consonant_positions_indic)
abbrev pub consonants_updated : Forms → Option ℕ → Stage
consonants_updated forms None = as_it_is
consonants_updated forms (Some virama) = always (with_items_mapped (consonant_with_position forms virama))

-- the rule of dotted circles for Indic scripts: after a repha, with the last syllabic position
abbrev pub indic_circles : FaceParts → BufferFlags → Option CircleRule
indic_circles font flags =
    circle_rule font flags indic.BROKEN_CLUSTER category.OT_DOTTEDCIRCLE (Some category.OT_Repha) (Some position.POS_END)

-- the stage that inserts dotted circles and then rewrites each syllable by a rule
abbrev pub circles_order : FaceParts → BufferFlags → (List Item → Arrangement) → Stage
circles_order font flags rule = then_syllables (circles_by (indic_circles font flags)) rule

-- the stage of the initial reordering, by the forms of a font, the glyph of a virama, how a reph is encoded, and masks
abbrev pub initial_stage : FaceParts → BufferFlags → Forms → Option ℕ → RephMode → IndicMasks → Stage
initial_stage font flags forms virama mode masks v =
    and_then (consonants_updated forms virama v) (circles_order font flags (initial_syllable mode masks forms))

-- the stage of the final reordering, by the position that a reph moves to, and masks
abbrev pub final_stage : ℕ → IndicMasks → Stage
final_stage reph_pos masks = always (with_rule (final_order reph_pos masks))

-- the stage of the initial reordering for the map and the script of a text
abbrev pub indic_initial : OtMapValue → Option Script → FaceParts → BufferFlags → Stage
indic_initial m script font flags =
    initial_stage font flags (font_forms (indic_config script).zero_context m font) (virama_glyph (indic_config script).virama font)
    (indic_config script).reph_mode (indic_masks (indic_config script).blwf_mode m)

-- the stage of the final reordering for the map and the script of a text
abbrev pub indic_final : OtMapValue → Option Script → Stage
indic_final m script = final_stage (indic_config script).reph_pos (indic_masks (indic_config script).blwf_mode m)
