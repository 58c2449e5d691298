-- The choice of a shaper for a script (HarfBuzz: hb_ot_shape_complex_categorize).
use Rattle.std.specs.Prelude.{◌==◌, Bool, false, ◌&&◌, ◌||◌, not, List, [], ◌∷◌, Option, Some, None, ℕ, ◌%◌, codes, if◌then◌else◌}
use Rattle.buffer_common.specs.declared.tag.Tag.{Tag}
use Rattle.buffer_common.specs.Tag.{tag_of}
use Rattle.buffer_common.specs.declared.script.Script.{Script}
use Rattle.buffer_common.specs.declared.script.TheConstants as script
use Rattle.buffer_common.specs.declared.direction.Direction.{Direction}
use Rattle.buffer_common.specs.Direction.{is_among, is_horizontal}
use Rattle.script_categories.specs.declared.shaper.hb_ot_script_shaper_t.TheVariants.{ARABIC_SHAPER, HANGUL_SHAPER, HEBREW_SHAPER, INDIC_SHAPER, KHMER_SHAPER, MYANMAR_SHAPER, MYANMAR_ZAWGYI_SHAPER, THAI_SHAPER, UNIVERSAL_SHAPER}
use Rattle.script_dispatch.specs.declared.any_shaper.hb_ot_any_shaper_t.{hb_ot_any_shaper_t}
use Rattle.script_dispatch.specs.declared.any_shaper.hb_ot_any_shaper_t.TheVariants as any

-- the font's script has the tag
abbrev pub is_tag : List ℕ → Option Tag → Bool
is_tag name None = false
is_tag name (Some t) = t.0 == (tag_of name).0

-- the font has the script only as DFLT or latn, so it was not made for the script's shaper
abbrev pub is_default_or_latin : Option Tag → Bool
is_default_or_latin chosen = is_tag (codes "DFLT") chosen || is_tag (codes "latn") chosen

-- the character 3, as the last byte of a tag
abbrev pub digit_three : ℕ
digit_three = 0x33

-- the font's script tag ends in 3
abbrev pub ends_in_three : Option Tag → Bool
ends_in_three None = false
ends_in_three (Some t) = t.0 % 256 == digit_three

-- the nine scripts of the Indic shaper
abbrev pub indic_scripts : List Script
indic_scripts =
    script.BENGALI ∷ script.DEVANAGARI ∷ script.GUJARATI ∷ script.GURMUKHI ∷ script.KANNADA ∷ script.MALAYALAM ∷ script.ORIYA ∷ script.TAMIL ∷ script.TELUGU ∷ []

-- the scripts of the universal shaper
abbrev pub universal_scripts : List Script
universal_scripts =
    script.TIBETAN ∷
    script.MONGOLIAN ∷
    script.SINHALA ∷
    script.BUHID ∷
    script.HANUNOO ∷
    script.TAGALOG ∷
    script.TAGBANWA ∷
    script.LIMBU ∷
    script.TAI_LE ∷
    script.BUGINESE ∷
    script.KHAROSHTHI ∷
    script.SYLOTI_NAGRI ∷
    script.TIFINAGH ∷
    script.BALINESE ∷
    script.NKO ∷
    script.PHAGS_PA ∷
    script.CHAM ∷
    script.KAYAH_LI ∷
    script.LEPCHA ∷
    script.REJANG ∷
    script.SAURASHTRA ∷
    script.SUNDANESE ∷
    script.EGYPTIAN_HIEROGLYPHS ∷
    script.JAVANESE ∷
    script.KAITHI ∷
    script.MEETEI_MAYEK ∷
    script.TAI_THAM ∷
    script.TAI_VIET ∷
    script.BATAK ∷
    script.BRAHMI ∷
    script.MANDAIC ∷
    script.CHAKMA ∷
    script.MIAO ∷
    script.SHARADA ∷
    script.TAKRI ∷
    script.DUPLOYAN ∷
    script.GRANTHA ∷
    script.KHOJKI ∷
    script.KHUDAWADI ∷
    script.MAHAJANI ∷
    script.MANICHAEAN ∷
    script.MODI ∷
    script.PAHAWH_HMONG ∷
    script.PSALTER_PAHLAVI ∷
    script.SIDDHAM ∷
    script.TIRHUTA ∷
    script.AHOM ∷
    script.MULTANI ∷
    script.ADLAM ∷
    script.BHAIKSUKI ∷
    script.MARCHEN ∷
    script.NEWA ∷
    script.MASARAM_GONDI ∷
    script.SOYOMBO ∷
    script.ZANABAZAR_SQUARE ∷
    script.DOGRA ∷
    script.GUNJALA_GONDI ∷
    script.HANIFI_ROHINGYA ∷
    script.MAKASAR ∷
    script.MEDEFAIDRIN ∷
    script.OLD_SOGDIAN ∷
    script.SOGDIAN ∷
    script.ELYMAIC ∷
    script.NANDINAGARI ∷
    script.NYIAKENG_PUACHUE_HMONG ∷
    script.WANCHO ∷
    script.CHORASMIAN ∷
    script.DIVES_AKURU ∷
    script.KHITAN_SMALL_SCRIPT ∷
    script.YEZIDI ∷
    script.CYPRO_MINOAN ∷
    script.OLD_UYGHUR ∷
    script.TANGSA ∷
    script.TOTO ∷
    script.VITHKUQI ∷
    script.KAWI ∷
    script.NAG_MUNDARI ∷
    script.GARAY ∷
    script.GURUNG_KHEMA ∷
    script.KIRAT_RAI ∷
    script.OL_ONAL ∷
    script.SUNUWAR ∷
    script.TODHRI ∷
    script.TULU_TIGALARI ∷
    []

-- two scripts are equal
abbrev pub is_script : Script → Script → Bool
is_script s t = s.0.0 == t.0.0

-- the shaper of an Indic script, by the font's script tag: default, universal or Indic
abbrev pub indic_shaper : Option Tag → hb_ot_any_shaper_t
indic_shaper chosen =
    if is_default_or_latin chosen then any.Default else if ends_in_three chosen then any.Script UNIVERSAL_SHAPER else any.Script INDIC_SHAPER

-- the shaper of Myanmar, by the font's script tag
abbrev pub myanmar_shaper : Option Tag → hb_ot_any_shaper_t
myanmar_shaper chosen = if is_default_or_latin chosen || is_tag (codes "mymr") chosen then any.Default else any.Script MYANMAR_SHAPER

-- the shaper of a script of the universal shaper, by the font's script tag
abbrev pub universal_shaper : Option Tag → hb_ot_any_shaper_t
universal_shaper chosen = if is_default_or_latin chosen then any.Default else any.Script UNIVERSAL_SHAPER

-- a text has the Arabic shaper: horizontal lines in Arabic, or in Syriac where the font has a script for it
abbrev pub connects_letters : Script → Direction → Option Tag → Bool
connects_letters s direction chosen =
    is_horizontal direction && (is_script s script.ARABIC || is_script s script.SYRIAC && not (is_tag (codes "DFLT") chosen))

-- the shaper of a script whose choice doesn't depend on the font
abbrev pub own_shaper : Script → hb_ot_any_shaper_t
own_shaper s =
    if is_script s script.THAI || is_script s script.LAO then any.Script THAI_SHAPER
    else if is_script s script.HANGUL then any.Script HANGUL_SHAPER
    else if is_script s script.HEBREW then any.Script HEBREW_SHAPER
    else if is_script s script.KHMER then any.Script KHMER_SHAPER
    else if is_script s script.MYANMAR_ZAWGYI then any.Script MYANMAR_ZAWGYI_SHAPER
    else any.Default

-- the shaper of a text by its script, its direction, and the chosen GSUB script
abbrev pub script_shaper : Script → Direction → Option Tag → hb_ot_any_shaper_t
script_shaper s direction chosen =
    if connects_letters s direction chosen then any.Script ARABIC_SHAPER
    else if is_among indic_scripts s then indic_shaper chosen
    else if is_script s script.MYANMAR then myanmar_shaper chosen
    else if is_among universal_scripts s then universal_shaper chosen
    else own_shaper s

-- the shaper of a text; one without a script has the default shaper
abbrev pub shaper_of : Option Script → Direction → Option Tag → hb_ot_any_shaper_t
shaper_of None direction chosen = any.Default
shaper_of (Some s) direction chosen = script_shaper s direction chosen
