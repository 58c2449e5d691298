-- Tiles that are measured one after another.
use Rattle.std.proofs.Common.{ℕ, ℤ, ◌≡◌, ◌≤◌, ◌+◌, ◌*◌, ◌^◌, Bool, true, false, if◌then◌else◌, List, Some, length, drop, slice_get, refl, sym, ap, ◌∙◌, arith}
use Rattle.std.proofs.lemmas.List.{drop_all}
use Rattle.buffer_glyphs.specs.declared.info.hb_glyph_info_t.{hb_glyph_info_t}
use Rattle.layout_face.specs.declared.parts.FaceParts.{FaceParts}
use Rattle.buffer_glyphs.specs.Items.{Item, item_of, strip}
use Rattle.script_arabic.specs.declared.runs.Run.{Run}
use Rattle.script_arabic.specs.Tiles.{is_tile}
use Rattle.script_arabic.specs.Runs.{unmeasured_run, with_tile, with_tiles}
use Rattle.buffer_stages.proofs.Lemmas.Elements.{split_at}

-- so many tiles were measured, and each made the run so much wider at most
pub record IsMeasured (font : FaceParts) (word : ℤ) (gs : List hb_glyph_info_t) (i : ℕ) (r : Run) : Type 0 where
  pub rest : with_tiles font r (strip (drop i gs)) ≡ with_tiles font (unmeasured_run word) (strip gs)
  pub fixed : r.fixed ≤ i * 2 ^ 32
  pub repeating : r.repeating ≤ i * 2 ^ 32
  pub tiles : r.tiles ≤ i

pub none_measured : (font : FaceParts) (word : ℤ) (gs : List hb_glyph_info_t) → IsMeasured font word gs 0 (unmeasured_run word)
none_measured font word gs = record { rest = refl; fixed = omega arith; repeating = omega arith; tiles = omega arith }

abbrev met : FaceParts → Run → Item → List Item → Bool → Run
met font r x xs t = if t then with_tiles font (with_tile font r x) xs else r

pub one_measured : (font : FaceParts) (word : ℤ) (gs : List hb_glyph_info_t) (i : ℕ) (r s : Run) (g : hb_glyph_info_t) → slice_get gs i ≡ Some g → is_tile (item_of g) ≡ true → IsMeasured font word gs i r → s ≡ with_tile font r (item_of g)
    → s.fixed ≤ r.fixed + 2 ^ 32 → s.repeating ≤ r.repeating + 2 ^ 32 → s.tiles ≤ r.tiles + 1 → IsMeasured font word gs (i + 1) s
one_measured font word gs i r s g at e m is a b c =
    let f = m.fixed in
    let h = m.repeating in
    let k = m.tiles in
    record {
      rest = ap (λ q. with_tiles font q (strip (drop (i + 1) gs))) is ∙ sym (ap (met font r (item_of g) (strip (drop (i + 1) gs))) e) ∙ ap (λ hs. with_tiles font r (strip hs)) (sym (split_at gs i g at)) ∙ m.rest;
      fixed = omega (arith, f, a);
      repeating = omega (arith, h, b);
      tiles = omega (arith, k, c);
    }

pub others_stay : (font : FaceParts) (word : ℤ) (gs : List hb_glyph_info_t) (i : ℕ) (r : Run) (g : hb_glyph_info_t) → slice_get gs i ≡ Some g → is_tile (item_of g) ≡ false → IsMeasured font word gs i r → r ≡ with_tiles font (unmeasured_run word) (strip gs)
others_stay font word gs i r g at e m = sym (ap (met font r (item_of g) (strip (drop (i + 1) gs))) e) ∙ ap (λ hs. with_tiles font r (strip hs)) (sym (split_at gs i g at)) ∙ m.rest

pub all_measured : (font : FaceParts) (word : ℤ) (gs : List hb_glyph_info_t) (i : ℕ) (r : Run) → length gs ≤ i → IsMeasured font word gs i r → r ≡ with_tiles font (unmeasured_run word) (strip gs)
all_measured font word gs i r past m = ap (λ hs. with_tiles font r (strip hs)) (sym (drop_all i gs past)) ∙ m.rest
