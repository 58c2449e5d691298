-- A hook that is not there changes nothing.
use Rattle.std.proofs.Common.{refl}
use Rattle.script_categories.specs.declared.shaper.hb_ot_script_shaper_t.TheVariants.{ARABIC_SHAPER, HANGUL_SHAPER, HEBREW_SHAPER, INDIC_SHAPER, KHMER_SHAPER, MYANMAR_SHAPER, MYANMAR_ZAWGYI_SHAPER, THAI_SHAPER, UNIVERSAL_SHAPER}
use Rattle.script_dispatch.specs.Present.{RequestsNothing, ComposesAsUnicode, LeavesGlyphs, LeavesMarks, LeavesMasks, LeavesText, OverridesNothing, SplitsAsUnicode}

pub asks_nothing : RequestsNothing
asks_nothing ARABIC_SHAPER s has_rclt absent = cc
asks_nothing HANGUL_SHAPER s has_rclt absent = cc
asks_nothing HEBREW_SHAPER s has_rclt absent = refl
asks_nothing INDIC_SHAPER s has_rclt absent = cc
asks_nothing KHMER_SHAPER s has_rclt absent = cc
asks_nothing MYANMAR_SHAPER s has_rclt absent = cc
asks_nothing MYANMAR_ZAWGYI_SHAPER s has_rclt absent = refl
asks_nothing THAI_SHAPER s has_rclt absent = refl
asks_nothing UNIVERSAL_SHAPER s has_rclt absent = cc

pub overrides_nothing : OverridesNothing
overrides_nothing ARABIC_SHAPER absent = refl
overrides_nothing HANGUL_SHAPER absent = cc
overrides_nothing HEBREW_SHAPER absent = refl
overrides_nothing INDIC_SHAPER absent = cc
overrides_nothing KHMER_SHAPER absent = cc
overrides_nothing MYANMAR_SHAPER absent = refl
overrides_nothing MYANMAR_ZAWGYI_SHAPER absent = refl
overrides_nothing THAI_SHAPER absent = refl
overrides_nothing UNIVERSAL_SHAPER absent = refl

pub leaves_text : LeavesText
leaves_text ARABIC_SHAPER m s font t settings absent = refl
leaves_text HANGUL_SHAPER m s font t settings absent = cc
leaves_text HEBREW_SHAPER m s font t settings absent = refl
leaves_text INDIC_SHAPER m s font t settings absent = cc
leaves_text KHMER_SHAPER m s font t settings absent = refl
leaves_text MYANMAR_SHAPER m s font t settings absent = refl
leaves_text MYANMAR_ZAWGYI_SHAPER m s font t settings absent = refl
leaves_text THAI_SHAPER m s font t settings absent = cc
leaves_text UNIVERSAL_SHAPER m s font t settings absent = cc

pub leaves_masks : LeavesMasks
leaves_masks ARABIC_SHAPER m s t settings absent = cc
leaves_masks HANGUL_SHAPER m s t settings absent = cc
leaves_masks HEBREW_SHAPER m s t settings absent = refl
leaves_masks INDIC_SHAPER m s t settings absent = cc
leaves_masks KHMER_SHAPER m s t settings absent = cc
leaves_masks MYANMAR_SHAPER m s t settings absent = cc
leaves_masks MYANMAR_ZAWGYI_SHAPER m s t settings absent = refl
leaves_masks THAI_SHAPER m s t settings absent = refl
leaves_masks UNIVERSAL_SHAPER m s t settings absent = cc

pub leaves_glyphs : LeavesGlyphs
leaves_glyphs ARABIC_SHAPER font absent = cc
leaves_glyphs HANGUL_SHAPER font absent = refl
leaves_glyphs HEBREW_SHAPER font absent = refl
leaves_glyphs INDIC_SHAPER font absent = refl
leaves_glyphs KHMER_SHAPER font absent = refl
leaves_glyphs MYANMAR_SHAPER font absent = refl
leaves_glyphs MYANMAR_ZAWGYI_SHAPER font absent = refl
leaves_glyphs THAI_SHAPER font absent = refl
leaves_glyphs UNIVERSAL_SHAPER font absent = refl

pub splits_as_unicode : SplitsAsUnicode
splits_as_unicode ARABIC_SHAPER t absent = refl
splits_as_unicode HANGUL_SHAPER t absent = refl
splits_as_unicode HEBREW_SHAPER t absent = refl
splits_as_unicode INDIC_SHAPER t absent = cc
splits_as_unicode KHMER_SHAPER t absent = cc
splits_as_unicode MYANMAR_SHAPER t absent = refl
splits_as_unicode MYANMAR_ZAWGYI_SHAPER t absent = refl
splits_as_unicode THAI_SHAPER t absent = refl
splits_as_unicode UNIVERSAL_SHAPER t absent = refl

pub composes_as_unicode : ComposesAsUnicode
composes_as_unicode ARABIC_SHAPER has_gpos_mark t absent = refl
composes_as_unicode HANGUL_SHAPER has_gpos_mark t absent = refl
composes_as_unicode HEBREW_SHAPER has_gpos_mark t absent = cc
composes_as_unicode INDIC_SHAPER has_gpos_mark t absent = cc
composes_as_unicode KHMER_SHAPER has_gpos_mark t absent = cc
composes_as_unicode MYANMAR_SHAPER has_gpos_mark t absent = refl
composes_as_unicode MYANMAR_ZAWGYI_SHAPER has_gpos_mark t absent = refl
composes_as_unicode THAI_SHAPER has_gpos_mark t absent = refl
composes_as_unicode UNIVERSAL_SHAPER has_gpos_mark t absent = cc

pub leaves_marks : LeavesMarks
leaves_marks ARABIC_SHAPER run absent = cc
leaves_marks HANGUL_SHAPER run absent = refl
leaves_marks HEBREW_SHAPER run absent = cc
leaves_marks INDIC_SHAPER run absent = refl
leaves_marks KHMER_SHAPER run absent = refl
leaves_marks MYANMAR_SHAPER run absent = refl
leaves_marks MYANMAR_ZAWGYI_SHAPER run absent = refl
leaves_marks THAI_SHAPER run absent = refl
leaves_marks UNIVERSAL_SHAPER run absent = refl
