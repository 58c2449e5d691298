-- Numbers of glyphs and of their items.
use Rattle.std.proofs.Common.{◌≡◌, ◌∙◌, ◌&&◌, Bool, List, [], ◌∷◌, nat_le, refl, sym, ap}
use Rattle.std.specs.List.{list_all}
use Rattle.buffer_glyphs.specs.declared.info.hb_glyph_info_t.{hb_glyph_info_t}
use Rattle.buffer_glyphs.specs.Items.{Item, item_of, strip}
use Rattle.buffer_core.specs.Sides.{Sides, all_glyphs, items_of}
use Rattle.buffer_stages.specs.Buffers.{are_glyphs}

pub all_items : (p : Item → Bool) (gs : List hb_glyph_info_t) → list_all p (strip gs) ≡ list_all (λ g. p (item_of g)) gs
all_items p [] = refl
all_items p (g ∷ gs) = ap (λ b. p (item_of g) && b) (all_items p gs)

pub items_fit : (b : Bool) (gs : List hb_glyph_info_t) (s : Sides) → b ≡ list_all (λ (g : hb_glyph_info_t). nat_le g.glyph_id 65535) gs → gs ≡ all_glyphs s → b ≡ are_glyphs (items_of s)
items_fit b gs s e glyphs =
    e ∙ ap (λ hs. list_all (λ (g : hb_glyph_info_t). nat_le g.glyph_id 65535) hs) glyphs ∙ sym (all_items (λ (x : Item). nat_le x.number 65535) (all_glyphs s))
