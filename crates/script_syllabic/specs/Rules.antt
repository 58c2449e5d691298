-- What one step of putting circles does to a buffer.
use Rattle.std.specs.Prelude.{ℕ, ◌≡◌, ◌≢◌, ◌<◌, [], ◌∷◌, ◌++◌, length, Option, option_map, unwrap_or, false}
use Rattle.buffer_common.specs.declared.constants.BufferFlags.{BufferFlags}
use Rattle.layout_face.specs.declared.parts.FaceParts.{FaceParts}
use Rattle.buffer_glyphs.specs.declared.cause.ShapeCause.{ShapeCause}
use Rattle.buffer_glyphs.specs.declared.cause.ShapeCause.TheVariants.{OutOfMemory, TooLong}
use Rattle.buffer_glyphs.specs.declared.info.hb_glyph_info_t.{hb_glyph_info_t}
use Rattle.buffer_glyphs.specs.Items.{Item, strip}
use Rattle.buffer_core.specs.Sides.{Sides, origins_of, origins_by}
use Rattle.script_syllabic.specs.declared.circles.CircleRule.{CircleRule}
use Rattle.script_syllabic.specs.Circles.{circle_event, circle_glyph}

-- the rule of a shaper's dotted circles, where the font has the glyph and DO_NOT_INSERT_DOTTED_CIRCLE is not set
abbrev pub circle_rule : FaceParts → BufferFlags → ℕ → ℕ → Option ℕ → Option ℕ → Option CircleRule
circle_rule font flags kind category repha position =
    option_map (λ (g : ℕ). record { glyph = g; kind = kind; category = category; repha = repha; position = unwrap_or position 0 }) (circle_glyph flags font)

-- a circle was appended to the output, whose last items were that many rephas of its syllable
pub record IsCircled (circle : Item) (rephas : ℕ) (old new : Sides) : Type 0 where
  pub behind : strip new.behind ≡ strip old.behind ++ circle ∷ []
  pub ahead : new.ahead ≡ old.ahead
  pub origins : origins_of new ≡ origins_by (circle_event (length old.behind) rephas ∷ []) old
  pub rest : record new { behind = []; is_apart = false } ≡ record old { behind = []; is_apart = false }

-- a refusal for another reason than memory: a list of that many glyphs is too long
abbrev pub IsTooLong : ℕ → Sides → ShapeCause → Type 0
IsTooLong n s e = e ≢ OutOfMemory → (e ≡ TooLong) × (s.max_len < n)

-- a glyph with a syllable byte
abbrev pub glyph_with_byte : ℕ → hb_glyph_info_t → hb_glyph_info_t
glyph_with_byte byte g = record g { syllable = byte }
