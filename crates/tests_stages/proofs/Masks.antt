-- Masks without glyph flags, and what each glyph is.
use Rattle.std.proofs.Common.{ℕ, ◌≡◌, ◌*◌, ◌∙◌, Bool, List, arith, sym, ap}
use Rattle.std.specs.Int.RustNames.{bit_and}
use Rattle.std.specs.List.{list_all}
use Rattle.std.proofs.lemmas.Nat.{and_mask}
use Rattle.buffer_glyphs.specs.declared.info.hb_glyph_info_t.{hb_glyph_info_t}
use Rattle.buffer_glyphs.specs.Items.{Item}
use Rattle.buffer_core.specs.Sides.{Sides, all_glyphs, items_of}
use Rattle.buffer_stages.proofs.GlyphNumbers.{all_items}
use Rattle.shape_text.specs.Properties.{are_characters}
use lib.Utf8.{scalar}

pub eightfold : (n : ℕ) → bit_and (n * 8) 7 ≡ 0
eightfold n = and_mask (n * 8) 3 ∙ omega arith

pub items_spell : (b : Bool) (gs : List hb_glyph_info_t) (s : Sides) → b ≡ list_all (λ (g : hb_glyph_info_t). scalar g.glyph_id) gs → gs ≡ all_glyphs s → b ≡ are_characters (items_of s)
items_spell b gs s e glyphs =
    e ∙ ap (λ hs. list_all (λ (g : hb_glyph_info_t). scalar g.glyph_id) hs) glyphs ∙ sym (all_items (λ (x : Item). scalar x.number) (all_glyphs s))
