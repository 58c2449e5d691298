-- Limits, ligature numbers and the text around.
use Rattle.std.specs.Prelude.{ℕ, ℤ, pos, ◌+◌, ◌*◌, nat_le, nat_lt, max, if◌then◌else◌, List, [], ◌∷◌, length, min, Option, Some, None}
use Rattle.buffer_glyphs.specs.declared.info.hb_glyph_info_t.{hb_glyph_info_t}
use Rattle.buffer_glyphs.specs.declared.names.GlyphId.{GlyphId}
use Rattle.buffer_glyphs.specs.Origins.{Origin}
use Rattle.buffer_common.specs.declared.language.Language.{Language}
use Rattle.buffer_core.specs.Merging.{with_glyphs}
use Rattle.buffer_core.specs.Sides.{Sides, all_glyphs}

-- a buffer with another limit of nested lookups
abbrev pub with_max_ops : ℤ → Sides → Sides
with_max_ops n s = record s { max_ops = n }

-- a buffer with another language
abbrev pub with_language : Option Language → Sides → Sides
with_language l s = record s { language = l }

-- the number of a glyph, where one is set
abbrev pub number_set : Option GlyphId → Option ℕ
number_set None = None
number_set (Some glyph) = Some glyph.0

-- a buffer with another glyph for invisible characters, or with none
abbrev pub with_invisible : Option ℕ → Sides → Sides
with_invisible g s = record s { invisible = g }

-- a buffer with another glyph for unsupported variation selectors
abbrev pub with_not_found_variation_selector : Option ℕ → Sides → Sides
with_not_found_variation_selector g s = record s { not_found_variation_selector = g }

-- a buffer with another glyph for characters that the font lacks
abbrev pub with_not_found : ℕ → Sides → Sides
with_not_found g s = record s { not_found = g }

-- the ligature number after another: 1 to 7, and then again 1 (`allocate_lig_id`)
abbrev pub next_lig_id : ℕ → ℕ
next_lig_id n = if nat_lt n 7 then n + 1 else 1

-- a buffer with another last ligature number
abbrev pub with_lig_id : ℕ → Sides → Sides
with_lig_id n s = record s { lig_id = n }

-- the limit of the length while n glyphs are shaped; the old limit where the product does not fit 64 bits
abbrev pub length_limit : ℕ → ℕ → ℕ
length_limit count limit = if nat_le (count * 64) 0xFFFF_FFFF_FFFF_FFFF then max (count * 64) 16384 else limit

-- the limit of the steps while n glyphs are shaped; the old limit where the product does not fit 31 bits
abbrev pub steps_limit : ℕ → ℤ → ℤ
steps_limit count limit = if nat_le (count * 1024) 0x7FFF_FFFF then pos (max (count * 1024) 16384) else limit

-- the buffer at the start of shaping: limits by the number of glyphs, no ligature number given out, no scratch flag
-- (`enter`)
abbrev pub after_enter : Sides → Sides
after_enter s = record s { max_len = length_limit (length (all_glyphs s)) s.max_len; max_ops = steps_limit (length (all_glyphs s)) s.max_ops; lig_id = 0; scratch_flags = 0 }

-- the buffer at the end of shaping: the default limits, but never less than what is held (`leave`)
abbrev pub after_leave : Sides → Sides
after_leave s = record s { max_len = max 0x3FFF_FFFF (length (all_glyphs s)); max_ops = pos 0x1FFF_FFFF; lig_id = 0 }

-- a buffer with other text before it, nearest first
abbrev pub with_pre_context : List ℕ → Sides → Sides
with_pre_context cs s = record s { pre_context = cs }

-- a buffer with other text after it, nearest first
abbrev pub with_post_context : List ℕ → Sides → Sides
with_post_context cs s = record s { post_context = cs }

-- the greatest cluster number, `u32::MAX`
abbrev pub most_cluster : ℕ
most_cluster = 0xFFFF_FFFF

-- glyphs in clusters from a number on, each one more than the one before, up to the greatest
abbrev pub glyphs_counted : ℕ → List hb_glyph_info_t → List hb_glyph_info_t
glyphs_counted n [] = []
glyphs_counted n (g ∷ gs) = record g { cluster = min n most_cluster } ∷ glyphs_counted (n + 1) gs

-- origins in clusters from a number on, each one more than the one before, up to the greatest
abbrev pub origins_counted : ℕ → List Origin → List Origin
origins_counted n [] = []
origins_counted n (o ∷ os) = record o { cluster = min n most_cluster } ∷ origins_counted (n + 1) os

-- all glyphs in clusters from 0 on (`reset_clusters`)
abbrev pub with_reset_clusters : Sides → Sides
with_reset_clusters s = with_glyphs (glyphs_counted 0 (all_glyphs s)) s
