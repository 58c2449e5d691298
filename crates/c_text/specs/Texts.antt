-- The text that C passes, as the buffer that is shaped.
use Rattle.std.specs.Prelude.{ℕ, ◌≡◌, ◌≢◌, true, Bool, ◌&&◌, if◌then◌else◌, List, [], map, take, reverse, Option, Some, None}
use Rattle.std.specs.Str.{chars, is_utf8, str_to_ascii_lowercase}
use Rattle.buffer_common.specs.declared.language.Language.{Language}
use Rattle.buffer_common.specs.Language.{language_text}
use Rattle.buffer_tags.specs.declared.feature.Feature.{Feature}
use Rattle.buffer_tags.specs.FeatureGrammar.{IsRequest}
use Rattle.buffer_core.specs.Segment.{with_segment}
use Rattle.buffer_core.specs.Settings.{with_language, with_post_context, with_pre_context}
use Rattle.buffer_core.specs.Sides.{Sides, empty_buffer, with_added, with_flags, with_level}
use Rattle.buffer_core.specs.Text.{added_text, fits_text}
use Rattle.buffer_glyphs.specs.declared.cause.ShapeCause.TheVariants.{TooLong}
use Rattle.shell_readers.specs.declared.fault.RunFault.{RunFault}
use Rattle.shell_readers.specs.declared.fault.RunFault.TheVariants.{NotUtf8, Shape}
use Rattle.buffer_glyphs.specs.declared.info.hb_glyph_info_t.{hb_glyph_info_t}
use Rattle.c_characters.specs.Characters.{characters_of, encoding_around, scalars_of}
use Rattle.c_characters.specs.declared.characters.Encoding.{Encoding}
use Rattle.c_characters.specs.Texts.{added_characters, fits_characters}
use Rattle.c_text.specs.declared.types.kus_feature_t.{kus_feature_t}
use Rattle.c_text.specs.declared.types.kus_text_t.{kus_text_t}
use Rattle.c_text.specs.Numbers.{direction_numbered, encoding_numbered, level_numbered, requests_numbered, script_numbered}

-- a request for a feature
abbrev pub feature_of : kus_feature_t → Feature
feature_of f = record { tag = record { 0 = f.tag }; value = f.value; start = f.start; end = f.end }

-- the requests for features of a text
abbrev pub features_of : kus_text_t → List Feature
features_of t = map feature_of t.features.now

-- a text of UTF-8 writes no request for a feature
abbrev pub IsNoRequest : List ℕ → Type 0
IsNoRequest text = is_utf8 text ≡ true → (feature : Feature) → ¬ IsRequest text feature

-- a language is that of a tag's bytes (BCP 47), in small letters; no bytes set none
abbrev pub IsLanguage : List ℕ → Option Language → Type 0
IsLanguage tag None = tag ≡ []
IsLanguage tag (Some l) = (tag ≢ []) × (language_text l ≡ str_to_ascii_lowercase tag)

-- whether a text, the texts around it and its language are UTF-8
abbrev pub are_utf8 : kus_text_t → Bool
are_utf8 t = is_utf8 t.language.now && (is_utf8 t.before.now && (is_utf8 t.after.now && is_utf8 t.text.now))

-- whether what has to be UTF-8 is so: all of a text where no encoding is set, else its language alone
abbrev pub is_valid : Option Encoding → kus_text_t → Bool
is_valid None t = are_utf8 t
is_valid (Some encoding) t = is_utf8 t.language.now

-- the characters of a text before or after another one: of UTF-8 where no encoding is set
abbrev pub characters_around : Option Encoding → List ℕ → List ℕ
characters_around None bytes = chars bytes
characters_around (Some encoding) bytes = scalars_of (encoding_around encoding) bytes

-- the settings of a text, in a buffer without characters, with some characters before it and after it
abbrev pub buffer_between : kus_text_t → List ℕ → List ℕ → Option Language → Sides
buffer_between t before after l =
    with_post_context after (with_pre_context before
    (with_language l (with_segment (direction_numbered t.direction) (script_numbered t.script)
    (with_flags (requests_numbered t.flags) (with_level (level_numbered t.cluster_level) empty_buffer)))))

-- the settings of a text with the characters around it that count: five before it, nearest first, and five after it
abbrev pub set_buffer : Option Encoding → kus_text_t → Option Language → Sides
set_buffer encoding t l =
    buffer_between t (take 5 (reverse (characters_around encoding t.before.now))) (take 5 (characters_around encoding t.after.now)) l

-- the glyphs of a text's characters: of UTF-8 each in the cluster of its first byte's index, else each in its own cluster
abbrev pub text_glyphs : Option Encoding → List ℕ → List hb_glyph_info_t
text_glyphs None bytes = added_text bytes
text_glyphs (Some encoding) bytes = added_characters (characters_of encoding bytes)

-- whether a buffer can hold a text's characters, and 32 bits the number of each cluster
abbrev pub fits : Option Encoding → List ℕ → Bool
fits None bytes = fits_text bytes empty_buffer
fits (Some encoding) bytes = fits_characters (characters_of encoding bytes) empty_buffer

-- the buffer of a text: its characters, each in its cluster, and its settings
abbrev pub text_buffer : Option Encoding → kus_text_t → Option Language → Sides
text_buffer encoding t l = with_added (text_glyphs encoding t.text.now) (set_buffer encoding t l)

-- the fault of a text that no font can shape: bytes that are not UTF-8, then too many characters
abbrev pub fault_in : Option Encoding → kus_text_t → Option RunFault
fault_in encoding t = if is_valid encoding t then (if fits encoding t.text.now then None else Some (Shape TooLong)) else Some NotUtf8

-- the fault of a text in the encoding that its flags name
abbrev pub text_fault : kus_text_t → Option RunFault
text_fault t = fault_in (encoding_numbered t.flags) t

-- a text in an encoding is valid, is not too long, and has the buffer
pub record IsTextIn (encoding : Option Encoding) (t : kus_text_t) (buffer : Sides) : Type 0 where
  pub utf8 : is_valid encoding t ≡ true
  pub held : fits encoding t.text.now ≡ true
  pub language : Option Language
  pub is_language : IsLanguage t.language.now language
  pub same : buffer ≡ text_buffer encoding t language

-- a text in the encoding that its flags name has the buffer
abbrev pub IsTextOf : kus_text_t → Sides → Type 0
IsTextOf t buffer = IsTextIn (encoding_numbered t.flags) t buffer
