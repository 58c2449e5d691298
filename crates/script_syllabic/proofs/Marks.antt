-- The next glyph but grapheme joiners.
use Rattle.std.proofs.Common.{ℕ, ◌≡◌, ◌≤◌, ◌+◌, Bool, true, false, if◌then◌else◌, List, Some, length, drop, slice_get, ap, sym, ◌∙◌}
use Rattle.std.specs.Prelude.{find, not}
use Rattle.std.proofs.lemmas.List.{drop_all}
use Rattle.buffer_properties.specs.Characters.{is_mark}
use Rattle.buffer_glyphs.specs.declared.info.hb_glyph_info_t.{hb_glyph_info_t}
use Rattle.buffer_glyphs.specs.Items.{Item, item_of, strip}
use Rattle.script_syllabic.specs.Spans.{is_grapheme_joiner, mark_or_none, precedes_mark}
use Rattle.buffer_stages.proofs.Lemmas.Elements.{split_at}

abbrev first_is : Item → List Item → Bool → Bool
first_is x xs t = mark_or_none (if not t then Some x else find (λ y. not (is_grapheme_joiner y)) xs)

pub next_met : (gs : List hb_glyph_info_t) (i : ℕ) (g : hb_glyph_info_t) (b t : Bool) → slice_get gs i ≡ Some g → is_grapheme_joiner (item_of g) ≡ false → precedes_mark (strip (drop i gs)) ≡ b → t ≡ is_mark (item_of g) → t ≡ b
next_met gs i g b t at e f m = m ∙ sym (ap (first_is (item_of g) (strip (drop (i + 1) gs))) e) ∙ ap (λ hs. precedes_mark (strip hs)) (sym (split_at gs i g at)) ∙ f

pub joiner_passed : (gs : List hb_glyph_info_t) (i : ℕ) (g : hb_glyph_info_t) (b : Bool) → slice_get gs i ≡ Some g → is_grapheme_joiner (item_of g) ≡ true → precedes_mark (strip (drop i gs)) ≡ b → precedes_mark (strip (drop (i + 1) gs)) ≡ b
joiner_passed gs i g b at e f = sym (ap (first_is (item_of g) (strip (drop (i + 1) gs))) e) ∙ ap (λ hs. precedes_mark (strip hs)) (sym (split_at gs i g at)) ∙ f

pub none_left : (gs : List hb_glyph_info_t) (i : ℕ) (b : Bool) → length gs ≤ i → precedes_mark (strip (drop i gs)) ≡ b → false ≡ b
none_left gs i b past f = ap (λ hs. precedes_mark (strip hs)) (sym (drop_all i gs past)) ∙ f
