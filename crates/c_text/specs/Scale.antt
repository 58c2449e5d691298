-- Positions in a client's scale.
use Rattle.std.specs.Prelude.{ℕ, ℤ, pos, ◌==◌, ◌+ℤ◌, ◌-ℤ◌, ◌*ℤ◌, max, not, ◌||◌, Bool, if◌then◌else◌, List, [], ◌∷◌}
use Rattle.std.specs.Int.{int_shr, saturate_signed, w32, w64}
use Rattle.std.specs.Int.RustNames.{int_div}
use Rattle.std.specs.Ordering.{int_eq}
use Rattle.buffer_glyphs.specs.declared.info.hb_glyph_info_t.{hb_glyph_info_t}
use Rattle.buffer_glyphs.specs.Items.{Position}
use Rattle.c_text.specs.declared.scale.Multipliers.{Multipliers}
use Rattle.c_text.specs.declared.scale.Pen.{Pen}
use Rattle.c_text.specs.declared.scale.Pens.{Pens}
use Rattle.c_text.specs.declared.scale.Scale.{Scale}
use Rattle.c_text.specs.declared.scale.TheConstants.{NO_PENS}
use Rattle.c_text.specs.declared.types.kus_glyph_position_t.{kus_glyph_position_t}

-- whether a client set a scale: 0 on both axes stands for font units
abbrev pub is_set : Scale → Bool
is_set s = not (int_eq s.x (pos 0)) || not (int_eq s.y (pos 0))

-- 65536 times what a font unit is on an axis of an em of some units, rounded toward zero (`hb_font_t::mults_changed`)
abbrev pub multiplier : ℕ → ℤ → ℤ
multiplier upem scale = int_div (scale *ℤ pos 65536) (pos (max upem 1))

-- the multipliers of both axes
abbrev pub multipliers : ℕ → Scale → Multipliers
multipliers upem s = record { x = multiplier upem s.x; y = multiplier upem s.y }

-- the number of 64 bits that is nearest to a number: sums and products are kept within them
abbrev pub within_64 : ℤ → ℤ
within_64 z = saturate_signed w64 z

-- the number of 32 bits that is nearest to a number: what is handed out is kept within them
abbrev pub within_32 : ℤ → ℤ
within_32 z = saturate_signed w32 z

-- font units by a multiplier, rounded to the nearest number, a half upward (`hb_font_t::em_mult`)
abbrev pub scaled_units : ℤ → ℤ → ℤ
scaled_units by units = int_shr (within_64 (within_64 (units *ℤ by) +ℤ pos 32768)) 16

-- an advance, which is rounded by itself
abbrev pub scaled_advance : ℤ → ℤ → ℤ
scaled_advance by advance = within_32 (scaled_units by advance)

-- an offset: from the pen that the advances handed out lead to, to the point where the glyph is drawn, which is rounded once
abbrev pub scaled_offset : ℤ → Pen → ℤ → ℤ
scaled_offset by pen offset = within_32 (within_64 (scaled_units by (within_64 (pen.units +ℤ offset)) -ℤ pen.scaled))

-- the pen after a glyph's advance
abbrev pub pen_after : ℤ → Pen → ℤ → Pen
pen_after by pen advance = record {
  units = within_64 (pen.units +ℤ advance);
  scaled = within_64 (pen.scaled +ℤ scaled_advance by advance);
}

-- a glyph's position in the scale, by the pens of both axes from the first pen of its cluster
abbrev pub scaled_position : Multipliers → Pens → Position → kus_glyph_position_t
scaled_position by pens p = record {
  x_advance = scaled_advance by.x p.x_advance;
  y_advance = scaled_advance by.y p.y_advance;
  x_offset = scaled_offset by.x pens.x p.x_offset;
  y_offset = scaled_offset by.y pens.y p.y_offset;
  var = 0;
}

-- the pens after a glyph
abbrev pub pens_after : Multipliers → Pens → Position → Pens
pens_after by pens p = record { x = pen_after by.x pens.x p.x_advance; y = pen_after by.y pens.y p.y_advance }

-- the pens at a glyph: those that the glyph before it left, at a new cluster those of its first glyph
abbrev pub pens_at : ℕ → ℕ → Pens → Pens
pens_at before cluster pens = if before == cluster then pens else NO_PENS

-- the positions of glyphs in the scale, after a glyph of a cluster that left the pens
abbrev pub positions_from : Multipliers → ℕ → Pens → List hb_glyph_info_t → List Position → List kus_glyph_position_t
positions_from by before pens [] ps = []
positions_from by before pens (g ∷ gs) [] = []
positions_from by before pens (g ∷ gs) (p ∷ ps) =
    scaled_position by (pens_at before g.cluster pens) p ∷ positions_from by g.cluster (pens_after by (pens_at before g.cluster pens) p) gs ps

-- the positions of glyphs in the scale
abbrev pub scaled_positions : Multipliers → List hb_glyph_info_t → List Position → List kus_glyph_position_t
scaled_positions by gs ps = positions_from by 0 NO_PENS gs ps
