-- The scratch flags without HAS_GLYPH_FLAGS.
use Rattle.std.proofs.Common.{ℕ, ◌≡◌, Bool, true, false, refl}
use Rattle.std.proofs.lemmas.Nat.{and_or_apart}
use Rattle.buffer_core.specs.Sides.{stage_flags}
use Rattle.buffer_core.specs.Merging.{with_has_glyph_flags}

-- that there are glyph flags is not among it
pub stage_flags_ignore_glyph_flags : (any : Bool) (flags : ℕ) → stage_flags (with_has_glyph_flags any flags) ≡ stage_flags flags
stage_flags_ignore_glyph_flags true flags = and_or_apart 0xFFFF_FFDF flags 32 refl
stage_flags_ignore_glyph_flags false flags = refl
