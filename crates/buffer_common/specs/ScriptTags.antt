-- Script tags of OpenType's registry for a script, and language system tags for a language.
use Rattle.std.specs.Prelude.{◌==◌, if◌then◌else◌, ℕ, List, [], ◌∷◌, ◌++◌, Option, Some, None, take, find, unwrap_or, codes}
use Rattle.std.specs.Option.{option_map, option_map_or, option_to_list}
use Rattle.std.specs.Char.{to_ascii_lowercase}
use Rattle.buffer_common.specs.declared.tag.Tag.{Tag}
use Rattle.buffer_common.specs.declared.script.Script.{Script}
use Rattle.buffer_common.specs.declared.script.TheConstants as script
use Rattle.buffer_common.specs.declared.language.Language.{Language}
use Rattle.buffer_common.specs.Tag.{tag_of, bytes_of}
use Rattle.buffer_common.specs.Language.{language_text}
use Rattle.buffer_common.specs.Direction.{is_among}

-- the tag of a script's row
abbrev pub tag_of_row : List (Script × Tag) → Script → Option Tag
tag_of_row rows s = option_map (λ row. row.1) (find (λ row. row.0.0.0 == s.0.0) rows)

-- script tags of the second shaping model (OpenType registry)
abbrev pub new_tags : List (Script × Tag)
new_tags =
    (script.BENGALI, tag_of (codes "bng2")) ∷
    (script.DEVANAGARI, tag_of (codes "dev2")) ∷
    (script.GUJARATI, tag_of (codes "gjr2")) ∷
    (script.GURMUKHI, tag_of (codes "gur2")) ∷
    (script.KANNADA, tag_of (codes "knd2")) ∷
    (script.MALAYALAM, tag_of (codes "mlm2")) ∷
    (script.ORIYA, tag_of (codes "ory2")) ∷
    (script.TAMIL, tag_of (codes "tml2")) ∷
    (script.TELUGU, tag_of (codes "tel2")) ∷
    (script.MYANMAR, tag_of (codes "mym2")) ∷
    []

-- the script's tag of the second shaping model
abbrev pub new_tag : Script → Option Tag
new_tag s = tag_of_row new_tags s

-- the script's tag of the third shaping model, which ends in 3; Myanmar has none
abbrev pub newest_tag : Script → Option Tag
newest_tag s =
    if s.0.0 == script.MYANMAR.0.0 then None
    else option_map (λ tag. tag_of (take 3 (bytes_of tag) ++ codes "3")) (new_tag s)

-- old tags that are not the script's own tag in small letters
abbrev pub old_tags : List (Script × Tag)
old_tags =
    (script.HIRAGANA, tag_of (codes "kana")) ∷
    (script.LAO, tag_of (codes "lao ")) ∷
    (script.YI, tag_of (codes "yi  ")) ∷
    (script.NKO, tag_of (codes "nko ")) ∷
    (script.VAI, tag_of (codes "vai ")) ∷
    (script.SCRIPT_MATH, tag_of (codes "math")) ∷
    []

-- a text with a small first letter
abbrev pub small_first : List ℕ → List ℕ
small_first [] = []
small_first (first ∷ rest) = to_ascii_lowercase first ∷ rest

-- the script's old tag; none for Common, Inherited and Unknown
abbrev pub old_tag : Script → Option Tag
old_tag s =
    if is_among (script.COMMON ∷ script.INHERITED ∷ script.UNKNOWN ∷ []) s then None
    else Some (unwrap_or (tag_of_row old_tags s) (tag_of (small_first (bytes_of s.0))))

-- the tags of a script, the newest first
abbrev pub wanted_tags : Option Script → List Tag
wanted_tags None = []
wanted_tags (Some s) = option_to_list (newest_tag s) ++ option_to_list (new_tag s) ++ option_to_list (old_tag s)

-- the tags of a language, where the text has one
abbrev pub wanted_language_tags : (List ℕ → List Tag) → Option Language → List Tag
wanted_language_tags tags_of language = option_map_or (λ found. tags_of (language_text found)) language []
