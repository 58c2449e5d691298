-- The texts of Thai and Lao before they are normalized.
use Rattle.std.specs.Prelude.{◌==◌, ◌&&◌, not, Bool, false, if◌then◌else◌, Option, Some, None}
use Rattle.buffer_common.specs.declared.script.Script.{Script}
use Rattle.buffer_common.specs.declared.script.TheConstants as script
use Rattle.buffer_unicode_tables.specs.Tables.{Tables}
use Rattle.layout_face.specs.declared.parts.FaceParts.{FaceParts}
use Rattle.layout_map.specs.Compiled.{OtMapValue}
use Rattle.buffer_core.specs.Readings.{Stage, always, and_then, as_it_is}
use Rattle.script_thai.specs.ThaiPrivate.{with_private}
use Rattle.script_thai.specs.ThaiVowel.{vowels_decomposed}

-- a text's script is Thai
abbrev pub is_thai : Option Script → Bool
is_thai None = false
is_thai (Some s) = s.0.0 == script.THAI.0.0

-- the text is Thai and the font has no GSUB script for it, so it may have private-use forms of its marks
abbrev pub has_private_forms : OtMapValue → Option Script → Bool
has_private_forms m s = is_thai s && not m.tables.gsub.found_script

-- the stage of Thai private-use forms, if a condition holds
abbrev pub private_if : Bool → Tables → FaceParts → Stage
private_if b t font v = if b then always (with_private t font) v else as_it_is v

-- the stage of Thai and Lao texts: vowels are decomposed, then marks replaced by private-use forms (HarfBuzz:
-- preprocess_text_thai)
abbrev pub thai_text : OtMapValue → Option Script → Tables → FaceParts → Stage
thai_text m s t font v = and_then (vowels_decomposed v) (private_if (has_private_forms m s) t font)
