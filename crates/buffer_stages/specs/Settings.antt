-- The settings of a text that its reading depends on.
use Rattle.std.specs.Prelude.{ℕ, List, Option}
use Rattle.std.specs.Int.RustNames.{bit_and}
use Rattle.buffer_common.specs.declared.constants.BufferFlags.{BufferFlags}
use Rattle.buffer_common.specs.declared.script.Script.{Script}
use Rattle.buffer_core.specs.Sides.{Sides, Settings, settings_of}

-- the settings without the cluster level and the requests for glyph flags
pub record TextSettings : Type 0 where
  pub script : Option Script
  -- the characters before the text and after it, nearest first
  pub pre_context : List ℕ
  pub post_context : List ℕ
  -- the glyphs that replace invisible characters, and variation selectors that the font does not support
  pub invisible : Option ℕ
  pub not_found_variation_selector : Option ℕ
  -- the glyph of characters that the font lacks
  pub not_found : ℕ
  pub flags : BufferFlags

-- the requests without those for glyph flags: PRODUCE_UNSAFE_TO_CONCAT (64), PRODUCE_SAFE_TO_INSERT_TATWEEL (128) and
-- PRODUCE_SAFE_BREAKS (256)
abbrev pub text_flags : BufferFlags → BufferFlags
text_flags flags = record { 0 = bit_and flags.0 0x3F }

-- the text settings of a buffer's settings
abbrev pub text_settings_of : Settings → TextSettings
text_settings_of s = record {
  script = s.script;
  pre_context = s.pre_context;
  post_context = s.post_context;
  invisible = s.invisible;
  not_found_variation_selector = s.not_found_variation_selector;
  not_found = s.not_found;
  flags = text_flags s.flags;
}

-- the text settings of a buffer
abbrev pub text_settings : Sides → TextSettings
text_settings s = text_settings_of (settings_of s)
