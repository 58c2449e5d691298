-- Scripts of ISO 15924 and Unicode, by their tags.
use Rattle.std.specs.Prelude.{◌≡◌, ◌==◌, if◌then◌else◌, ℕ, List, [], ◌∷◌, Option, Some, None, Result, map, codes, find, All, unwrap_or}
use Rattle.std.specs.List.{list_all}
use Rattle.std.specs.Option.{option_map, ok_or}
use Rattle.std.specs.Char.{to_ascii_uppercase, to_ascii_lowercase, is_ascii_alphabetic}
use Rattle.buffer_common.specs.declared.tag.Tag.{Tag}
use Rattle.buffer_common.specs.declared.script.Script.{Script}
use Rattle.buffer_common.specs.declared.script.InvalidScript.{InvalidScript}
use Rattle.buffer_common.specs.declared.script.TheConstants as script
use Rattle.buffer_common.specs.Tag.{tag_of, bytes_of, tag_of_text}

-- a text with its first letter a capital, the others small
abbrev pub title_case : List ℕ → List ℕ
title_case [] = []
title_case (first ∷ rest) = to_ascii_uppercase first ∷ map to_ascii_lowercase rest

-- tags of ISO 15924 for a variant of a script, and private ones from before a script had its own
abbrev pub aliases : List (Tag × Script)
aliases =
    (tag_of (codes "Qaai"), script.INHERITED) ∷
    (tag_of (codes "Qaac"), script.COPTIC) ∷
    (tag_of (codes "Aran"), script.ARABIC) ∷
    (tag_of (codes "Cyrs"), script.CYRILLIC) ∷
    (tag_of (codes "Geok"), script.GEORGIAN) ∷
    (tag_of (codes "Hans"), script.HAN) ∷
    (tag_of (codes "Hant"), script.HAN) ∷
    (tag_of (codes "Jamo"), script.HANGUL) ∷
    (tag_of (codes "Latf"), script.LATIN) ∷
    (tag_of (codes "Latg"), script.LATIN) ∷
    (tag_of (codes "Syre"), script.SYRIAC) ∷
    (tag_of (codes "Syrj"), script.SYRIAC) ∷
    (tag_of (codes "Syrn"), script.SYRIAC) ∷
    []

-- the script of a tag's row
abbrev pub alias_in : List (Tag × Script) → Tag → Option Script
alias_in rows title = option_map (λ row. row.1) (find (λ row. row.0.0 == title.0) rows)

-- the script that a tag in title case names
abbrev pub script_named : Tag → Script
script_named title = unwrap_or (alias_in aliases title) (record { 0 = title })

-- the script of a tag in any case: none for the zero tag, Zzzz for a tag that is not four letters
abbrev pub script_of_tag : Tag → Option Script
script_of_tag tag =
    if tag.0 == 0 then None
    else if list_all is_ascii_alphabetic (bytes_of tag) then Some (script_named (tag_of (title_case (bytes_of tag))))
    else Some script.UNKNOWN

-- the script of the tag that a text begins with
abbrev pub script_of_text : List ℕ → Result Script InvalidScript
script_of_text text = ok_or (script_of_tag (tag_of_text text)) (record {})

-- each script of Unicode with its tag in ISO 15924
abbrev pub named_scripts : List (Script × List ℕ)
named_scripts =
    (script.COMMON, codes "Zyyy") ∷
    (script.INHERITED, codes "Zinh") ∷
    (script.ARABIC, codes "Arab") ∷
    (script.ARMENIAN, codes "Armn") ∷
    (script.BENGALI, codes "Beng") ∷
    (script.CYRILLIC, codes "Cyrl") ∷
    (script.DEVANAGARI, codes "Deva") ∷
    (script.GEORGIAN, codes "Geor") ∷
    (script.GREEK, codes "Grek") ∷
    (script.GUJARATI, codes "Gujr") ∷
    (script.GURMUKHI, codes "Guru") ∷
    (script.HANGUL, codes "Hang") ∷
    (script.HAN, codes "Hani") ∷
    (script.HEBREW, codes "Hebr") ∷
    (script.HIRAGANA, codes "Hira") ∷
    (script.KANNADA, codes "Knda") ∷
    (script.KATAKANA, codes "Kana") ∷
    (script.LAO, codes "Laoo") ∷
    (script.LATIN, codes "Latn") ∷
    (script.MALAYALAM, codes "Mlym") ∷
    (script.ORIYA, codes "Orya") ∷
    (script.TAMIL, codes "Taml") ∷
    (script.TELUGU, codes "Telu") ∷
    (script.THAI, codes "Thai") ∷
    (script.TIBETAN, codes "Tibt") ∷
    (script.BOPOMOFO, codes "Bopo") ∷
    (script.BRAILLE, codes "Brai") ∷
    (script.CANADIAN_SYLLABICS, codes "Cans") ∷
    (script.CHEROKEE, codes "Cher") ∷
    (script.ETHIOPIC, codes "Ethi") ∷
    (script.KHMER, codes "Khmr") ∷
    (script.MONGOLIAN, codes "Mong") ∷
    (script.MYANMAR, codes "Mymr") ∷
    (script.OGHAM, codes "Ogam") ∷
    (script.RUNIC, codes "Runr") ∷
    (script.SINHALA, codes "Sinh") ∷
    (script.SYRIAC, codes "Syrc") ∷
    (script.THAANA, codes "Thaa") ∷
    (script.YI, codes "Yiii") ∷
    (script.DESERET, codes "Dsrt") ∷
    (script.GOTHIC, codes "Goth") ∷
    (script.OLD_ITALIC, codes "Ital") ∷
    (script.BUHID, codes "Buhd") ∷
    (script.HANUNOO, codes "Hano") ∷
    (script.TAGALOG, codes "Tglg") ∷
    (script.TAGBANWA, codes "Tagb") ∷
    (script.CYPRIOT, codes "Cprt") ∷
    (script.LIMBU, codes "Limb") ∷
    (script.LINEAR_B, codes "Linb") ∷
    (script.OSMANYA, codes "Osma") ∷
    (script.SHAVIAN, codes "Shaw") ∷
    (script.TAI_LE, codes "Tale") ∷
    (script.UGARITIC, codes "Ugar") ∷
    (script.BUGINESE, codes "Bugi") ∷
    (script.COPTIC, codes "Copt") ∷
    (script.GLAGOLITIC, codes "Glag") ∷
    (script.KHAROSHTHI, codes "Khar") ∷
    (script.NEW_TAI_LUE, codes "Talu") ∷
    (script.OLD_PERSIAN, codes "Xpeo") ∷
    (script.SYLOTI_NAGRI, codes "Sylo") ∷
    (script.TIFINAGH, codes "Tfng") ∷
    (script.UNKNOWN, codes "Zzzz") ∷
    (script.BALINESE, codes "Bali") ∷
    (script.CUNEIFORM, codes "Xsux") ∷
    (script.NKO, codes "Nkoo") ∷
    (script.PHAGS_PA, codes "Phag") ∷
    (script.PHOENICIAN, codes "Phnx") ∷
    (script.CARIAN, codes "Cari") ∷
    (script.CHAM, codes "Cham") ∷
    (script.KAYAH_LI, codes "Kali") ∷
    (script.LEPCHA, codes "Lepc") ∷
    (script.LYCIAN, codes "Lyci") ∷
    (script.LYDIAN, codes "Lydi") ∷
    (script.OL_CHIKI, codes "Olck") ∷
    (script.REJANG, codes "Rjng") ∷
    (script.SAURASHTRA, codes "Saur") ∷
    (script.SUNDANESE, codes "Sund") ∷
    (script.VAI, codes "Vaii") ∷
    (script.AVESTAN, codes "Avst") ∷
    (script.BAMUM, codes "Bamu") ∷
    (script.EGYPTIAN_HIEROGLYPHS, codes "Egyp") ∷
    (script.IMPERIAL_ARAMAIC, codes "Armi") ∷
    (script.INSCRIPTIONAL_PAHLAVI, codes "Phli") ∷
    (script.INSCRIPTIONAL_PARTHIAN, codes "Prti") ∷
    (script.JAVANESE, codes "Java") ∷
    (script.KAITHI, codes "Kthi") ∷
    (script.LISU, codes "Lisu") ∷
    (script.MEETEI_MAYEK, codes "Mtei") ∷
    (script.OLD_SOUTH_ARABIAN, codes "Sarb") ∷
    (script.OLD_TURKIC, codes "Orkh") ∷
    (script.SAMARITAN, codes "Samr") ∷
    (script.TAI_THAM, codes "Lana") ∷
    (script.TAI_VIET, codes "Tavt") ∷
    (script.BATAK, codes "Batk") ∷
    (script.BRAHMI, codes "Brah") ∷
    (script.MANDAIC, codes "Mand") ∷
    (script.CHAKMA, codes "Cakm") ∷
    (script.MEROITIC_CURSIVE, codes "Merc") ∷
    (script.MEROITIC_HIEROGLYPHS, codes "Mero") ∷
    (script.MIAO, codes "Plrd") ∷
    (script.SHARADA, codes "Shrd") ∷
    (script.SORA_SOMPENG, codes "Sora") ∷
    (script.TAKRI, codes "Takr") ∷
    (script.BASSA_VAH, codes "Bass") ∷
    (script.CAUCASIAN_ALBANIAN, codes "Aghb") ∷
    (script.DUPLOYAN, codes "Dupl") ∷
    (script.ELBASAN, codes "Elba") ∷
    (script.GRANTHA, codes "Gran") ∷
    (script.KHOJKI, codes "Khoj") ∷
    (script.KHUDAWADI, codes "Sind") ∷
    (script.LINEAR_A, codes "Lina") ∷
    (script.MAHAJANI, codes "Mahj") ∷
    (script.MANICHAEAN, codes "Mani") ∷
    (script.MENDE_KIKAKUI, codes "Mend") ∷
    (script.MODI, codes "Modi") ∷
    (script.MRO, codes "Mroo") ∷
    (script.NABATAEAN, codes "Nbat") ∷
    (script.OLD_NORTH_ARABIAN, codes "Narb") ∷
    (script.OLD_PERMIC, codes "Perm") ∷
    (script.PAHAWH_HMONG, codes "Hmng") ∷
    (script.PALMYRENE, codes "Palm") ∷
    (script.PAU_CIN_HAU, codes "Pauc") ∷
    (script.PSALTER_PAHLAVI, codes "Phlp") ∷
    (script.SIDDHAM, codes "Sidd") ∷
    (script.TIRHUTA, codes "Tirh") ∷
    (script.WARANG_CITI, codes "Wara") ∷
    (script.AHOM, codes "Ahom") ∷
    (script.ANATOLIAN_HIEROGLYPHS, codes "Hluw") ∷
    (script.HATRAN, codes "Hatr") ∷
    (script.MULTANI, codes "Mult") ∷
    (script.OLD_HUNGARIAN, codes "Hung") ∷
    (script.SIGNWRITING, codes "Sgnw") ∷
    (script.ADLAM, codes "Adlm") ∷
    (script.BHAIKSUKI, codes "Bhks") ∷
    (script.MARCHEN, codes "Marc") ∷
    (script.OSAGE, codes "Osge") ∷
    (script.TANGUT, codes "Tang") ∷
    (script.NEWA, codes "Newa") ∷
    (script.MASARAM_GONDI, codes "Gonm") ∷
    (script.NUSHU, codes "Nshu") ∷
    (script.SOYOMBO, codes "Soyo") ∷
    (script.ZANABAZAR_SQUARE, codes "Zanb") ∷
    (script.DOGRA, codes "Dogr") ∷
    (script.GUNJALA_GONDI, codes "Gong") ∷
    (script.HANIFI_ROHINGYA, codes "Rohg") ∷
    (script.MAKASAR, codes "Maka") ∷
    (script.MEDEFAIDRIN, codes "Medf") ∷
    (script.OLD_SOGDIAN, codes "Sogo") ∷
    (script.SOGDIAN, codes "Sogd") ∷
    (script.ELYMAIC, codes "Elym") ∷
    (script.NANDINAGARI, codes "Nand") ∷
    (script.NYIAKENG_PUACHUE_HMONG, codes "Hmnp") ∷
    (script.WANCHO, codes "Wcho") ∷
    (script.CHORASMIAN, codes "Chrs") ∷
    (script.DIVES_AKURU, codes "Diak") ∷
    (script.KHITAN_SMALL_SCRIPT, codes "Kits") ∷
    (script.YEZIDI, codes "Yezi") ∷
    (script.CYPRO_MINOAN, codes "Cpmn") ∷
    (script.OLD_UYGHUR, codes "Ougr") ∷
    (script.TANGSA, codes "Tnsa") ∷
    (script.TOTO, codes "Toto") ∷
    (script.VITHKUQI, codes "Vith") ∷
    (script.KAWI, codes "Kawi") ∷
    (script.NAG_MUNDARI, codes "Nagm") ∷
    (script.GARAY, codes "Gara") ∷
    (script.GURUNG_KHEMA, codes "Gukh") ∷
    (script.KIRAT_RAI, codes "Krai") ∷
    (script.OL_ONAL, codes "Onao") ∷
    (script.SUNUWAR, codes "Sunu") ∷
    (script.TODHRI, codes "Todr") ∷
    (script.TULU_TIGALARI, codes "Tutg") ∷
    (script.SCRIPT_MATH, codes "Zmth") ∷
    (script.MYANMAR_ZAWGYI, codes "Qaag") ∷
    []

-- each script has its ISO 15924 tag
abbrev pub ScriptsAreNamed : Type 0
ScriptsAreNamed = All (λ named. named.0.0 ≡ tag_of named.1) named_scripts

-- the tag of each script gives back the script
abbrev pub TagsLeadBack : Type 0
TagsLeadBack = All (λ named. script_of_tag named.0.0 ≡ Some named.0) named_scripts
