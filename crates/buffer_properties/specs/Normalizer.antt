-- The parameters of normalisation.
use Rattle.std.specs.Prelude.{ℕ, Bool, true, false, List, Option, is_some}
use Rattle.buffer_unicode_tables.specs.Expansion.{Splits}
use Rattle.buffer_unicode_tables.specs.Tables.{Tables}
use Rattle.buffer_glyphs.specs.Items.{Item}
use Rattle.buffer_properties.specs.declared.normal_mode.NormalizationMode.{NormalizationMode}
use Rattle.buffer_properties.specs.declared.normal_mode.NormalizationMode.TheVariants as mode
use Rattle.buffer_glyphs.specs.Rewriting.{Arrangement}
use Rattle.buffer_properties.specs.SupportedExpansion.{Reach, Least, Greatest}

-- the tables, the font, the buffer's glyphs for what it lacks, and the shaper's preference and hooks
pub record Normalizer : Type 0 where
  pub tables : Tables
  pub mode : NormalizationMode
  -- the font's glyph for a character, and for a character with a variation selector
  pub glyph_of : ℕ → Option ℕ
  pub variant_of : ℕ → ℕ → Option ℕ
  -- the glyphs for invisible characters, and for variation selectors that the font doesn't join
  pub invisible : Option ℕ
  pub unjoined_glyph : Option ℕ
  -- the glyph of characters that the font lacks
  pub not_found : ℕ
  -- how characters split and compose, and what the shaper makes of a sorted run of combining marks
  pub splits : Splits
  pub composes : ℕ → ℕ → Option ℕ
  pub reorders : List Item → Arrangement

-- whether the font has a character
abbrev pub has_character : Normalizer → ℕ → Bool
has_character c u = is_some (c.glyph_of u)

-- how far a character without combining marks is split
abbrev pub reach_alone : NormalizationMode → Reach
reach_alone mode.None = Least
reach_alone mode.Decomposed = Greatest
reach_alone mode.ComposedDiacritics = Least
reach_alone mode.ComposedDiacriticsNoShortCircuit = Greatest
reach_alone mode.Auto = Least

-- how far a character with combining marks, and each of its marks, is split
abbrev pub reach_with_marks : NormalizationMode → Reach
reach_with_marks mode.None = Least
reach_with_marks mode.Decomposed = Greatest
reach_with_marks mode.ComposedDiacritics = Greatest
reach_with_marks mode.ComposedDiacriticsNoShortCircuit = Greatest
reach_with_marks mode.Auto = Greatest

-- whether combining marks are composed with their base
abbrev pub is_composing : NormalizationMode → Bool
is_composing mode.None = false
is_composing mode.Decomposed = false
is_composing mode.ComposedDiacritics = true
is_composing mode.ComposedDiacriticsNoShortCircuit = true
is_composing mode.Auto = true
