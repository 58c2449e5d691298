-- Characters that were mirrored or set upright.
use Rattle.std.proofs.Common.{ℕ, ◌≡◌, Bool, true, false, if◌then◌else◌, [], refl, sym, ap, ◌∙◌}
use Rattle.std.specs.Int.RustNames.{bit_or}
use Rattle.std.specs.Int.Bits.{or_zero_r}
use Rattle.buffer_glyphs.specs.declared.info.hb_glyph_info_t.{hb_glyph_info_t}
use Rattle.buffer_glyphs.specs.Items.{Item}
use Rattle.buffer_core.specs.Readings.{always, state_after, with_events}
use Rattle.buffer_core.specs.Sides.{Sides, state_of, view_of}
use Rattle.buffer_stages.specs.Ready.{IsReady}
use Rattle.buffer_stages.specs.Stages.{IsFollowed, with_items_mapped}
use Rattle.shape_text.specs.Rotation.{glyph_with_mask, mapped_where}

pub where_followed : (k : Item → Item) (b : Bool) (s new : Sides) → b ≡ true → IsFollowed (always (with_items_mapped k)) s new → IsFollowed (always (mapped_where b k)) s new
where_followed k b s new e f = record {
  follows = f.follows ∙ ap (λ c. state_after (if c then with_items_mapped k (view_of s) else with_events [] (view_of s)) (state_of s)) (sym e);
  settings = f.settings;
  ready = f.ready;
}

pub where_none : (k : Item → Item) (b : Bool) (s : Sides) → b ≡ false → IsReady s → IsFollowed (always (mapped_where b k)) s s
where_none k b s e ready = record {
  follows = ap (λ c. state_after (if c then with_items_mapped k (view_of s) else with_events [] (view_of s)) (state_of s)) (sym e);
  settings = refl;
  ready = ready;
}

-- no mask is added
pub none_added : (mask : ℕ) (g : hb_glyph_info_t) → mask ≡ 0 → g ≡ glyph_with_mask mask g
none_added mask g e = ap (λ m. record g { mask = m }) (sym (ap (bit_or g.mask) e ∙ or_zero_r g.mask))
