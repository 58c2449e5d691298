-- Glyphs whose clusters no other glyph has.
use Rattle.std.specs.Prelude.{ℕ, ◌≡◌, ◌-◌, Bool, true, false, nat_lt, List, length, slice_get, Option, Some, None}
use Rattle.std.specs.Option.{option_map}
use Rattle.buffer_glyphs.specs.declared.info.hb_glyph_info_t.{hb_glyph_info_t}
use Rattle.buffer_glyphs.specs.Items.{clusters}
use Rattle.buffer_glyphs.specs.Levels.{InList, Unites, manner}
use Rattle.buffer_glyphs.specs.Order.{IsRising}
use Rattle.buffer_core.specs.Sides.{Sides, all_glyphs, requests_breaks}

-- the cluster of the glyph at an index, if there is one
abbrev pub cluster_at : ℕ → List hb_glyph_info_t → Option ℕ
cluster_at i gs = option_map (λ (g : hb_glyph_info_t). g.cluster) (slice_get gs i)

-- the first number is less than the second, or one of them isn't there
abbrev pub is_below : Option ℕ → Option ℕ → Bool
is_below None high = true
is_below (Some low) None = true
is_below (Some low) (Some high) = nat_lt low high

-- clusters rise, and the next `count` glyphs ahead are of other clusters than all others; merges unite clusters, and
-- glyphs that leave hand on no flags
pub record IsAlone (count : ℕ) (s : Sides) : Type 0 where
  pub unites : manner InList s.level ≡ Unites
  pub unasked : requests_breaks s ≡ false
  pub rising : IsRising (clusters (all_glyphs s))
  pub before : is_below (cluster_at (length s.behind - 1) s.behind) (cluster_at 0 s.ahead) ≡ true
  pub after : is_below (cluster_at (count - 1) s.ahead) (cluster_at count s.ahead) ≡ true
