-- The glyph flags of clusters.
use Rattle.std.specs.Prelude.{ℕ, List, [], ◌∷◌, Option, Some, None}
use Rattle.buffer_glyphs.specs.declared.info.hb_glyph_info_t.{hb_glyph_info_t}
use Rattle.buffer_glyphs.specs.Origins.{Asks, Origin, origin_of, origins, run_flags, settled_flags, spread_flags}
use Rattle.buffer_lists.specs.declared.flags.AskedFlags.{AskedFlags}

-- the requests for glyph flags
abbrev pub flag_requests_of : AskedFlags → Asks
flag_requests_of a = record { concat = a.concat; tatweel = a.tatweel; breaks = a.breaks }

-- the origin of a neighbour before, if there is one
abbrev pub before_of : Option hb_glyph_info_t → Option Origin
before_of None = None
before_of (Some g) = Some (origin_of g)

-- the flags of the first cluster of a list, with the glyph before it
abbrev pub cluster_flags : Asks → Option hb_glyph_info_t → List hb_glyph_info_t → ℕ
cluster_flags asks before [] = 0
cluster_flags asks before (g ∷ gs) = spread_flags (before_of before) g.cluster (settled_flags asks (run_flags g.cluster (origins (g ∷ gs))))
