-- The tiles of a text, one after another.
use Rattle.std.proofs.Common.{ℕ, ◌≡◌, ◌≤◌, ◌<◌, ◌+◌, Bool, true, false, List, [], ◌∷◌, ◌++◌, Option, length, drop, get_or, refl, sym, ap, ◌∙◌, append_assoc, append-nil, arith}
use Rattle.std.specs.List.{list_all}
use Rattle.std.proofs.lemmas.List.{drop_all, drop_more, length-map}
use Rattle.std.proofs.lemmas.List.Folds.{list_all_at}
use Rattle.buffer_glyphs.specs.declared.info.hb_glyph_info_t.{hb_glyph_info_t}
use Rattle.layout_face.specs.declared.parts.FaceParts.{FaceParts}
use Rattle.buffer_glyphs.specs.Items.{Item, Position, item_of, strip}
use Rattle.script_arabic.specs.declared.runs.Run.{Run}
use Rattle.script_arabic.specs.declared.runs.Before.{Before}
use Rattle.script_arabic.specs.Runs.{next_before, runs}
use Rattle.script_arabic.specs.declared.tile.Tile.{Tile}
use Rattle.script_arabic.specs.Laying.{is_in_range, tile_of, tiles}

-- the tiles of so many glyphs
pub record AreTiles (font : FaceParts) (gs : List hb_glyph_info_t) (rs : List (Option Run)) (at : ℕ) (ts : List (Option Tile)) : Type 0 where
  pub done : ts ++ tiles font (strip (drop at gs)) (drop at rs) ≡ tiles font (strip gs) rs

pub none_listed : (font : FaceParts) (gs : List hb_glyph_info_t) (rs : List (Option Run)) → AreTiles font gs rs 0 []
none_listed font gs rs = record { done = refl }

pub one_listed : (font : FaceParts) (gs : List hb_glyph_info_t) (rs : List (Option Run)) (at : ℕ) (ts new : List (Option Tile)) (d : hb_glyph_info_t) (e : Option Run) → at < length gs → length rs ≡ length gs → AreTiles font gs rs at ts
    → new ≡ ts ++ tile_of font (item_of (get_or gs at d)) (get_or rs at e) ∷ [] → AreTiles font gs rs (at + 1) new
one_listed font gs rs at ts new d e lt same h is =
    let t = tile_of font (item_of (get_or gs at d)) (get_or rs at e) in
    let rest = tiles font (strip (drop (at + 1) gs)) (drop (at + 1) rs) in
    record {
      done = ap (λ us. us ++ rest) is ∙ append_assoc ts (t ∷ []) rest
          ∙ ap (λ qs. ts ++ tiles font (item_of (get_or gs at d) ∷ strip (drop (at + 1) gs)) qs) (sym (drop_more rs at e (omega (arith, lt, same))))
          ∙ ap (λ hs. ts ++ tiles font (strip hs) (drop at rs)) (sym (drop_more gs at d lt)) ∙ h.done;
    }

pub all_listed : (font : FaceParts) (gs : List hb_glyph_info_t) (rs : List (Option Run)) (at : ℕ) (ts : List (Option Tile)) → length gs ≤ at → AreTiles font gs rs at ts → ts ≡ tiles font (strip gs) rs
all_listed font gs rs at ts past h = sym (ap (λ hs. ts ++ tiles font (strip hs) (drop at rs)) (drop_all at gs past) ∙ append-nil ts) ∙ h.done

by_test : (t s : Bool) → t ≡ true → (s ≡ false → t ≡ false) → s ≡ true
by_test t true e f = refl
by_test t false e f = let g = f refl in cc

-- each run of a list in range is in range
pub run_there : (rs : List (Option Run)) (at : ℕ) (d : Option Run) → at < length rs → list_all is_in_range rs ≡ true → is_in_range (get_or rs at d) ≡ true
run_there rs at d lt e = by_test (list_all is_in_range rs) (is_in_range (get_or rs at d)) e (list_all_at is_in_range rs at d lt)

-- there is a run for each glyph, and a tile
pub runs_long : (font : FaceParts) (before : Before) (xs : List Item) (ps : List Position) → length ps ≡ length xs → length (runs font before xs ps) ≡ length xs
runs_long font before [] ps e = refl
runs_long font before (x ∷ xs) [] e = absurd (omega (arith, e))
runs_long font before (x ∷ xs) (p ∷ ps) e = let a = runs_long font (next_before font before (x ∷ xs) p) xs ps (omega (arith, e)) in omega (arith, a)

pub tiles_long : (font : FaceParts) (xs : List Item) (rs : List (Option Run)) → length rs ≡ length xs → length (tiles font xs rs) ≡ length xs
tiles_long font [] rs e = refl
tiles_long font (x ∷ xs) [] e = absurd (omega (arith, e))
tiles_long font (x ∷ xs) (r ∷ rs) e = let a = tiles_long font xs rs (omega (arith, e)) in omega (arith, a)

pub runs_cover : (font : FaceParts) (before : Before) (gs : List hb_glyph_info_t) (ps : List Position) (rs : List (Option Run)) → rs ≡ runs font before (strip gs) ps → length ps ≡ length gs → length rs ≡ length gs
runs_cover font before gs ps rs e same = ap (λ (qs : List (Option Run)). length qs) e ∙ runs_long font before (strip gs) ps (same ∙ sym (length-map gs item_of)) ∙ length-map gs item_of

pub tiles_cover : (font : FaceParts) (gs : List hb_glyph_info_t) (rs : List (Option Run)) (ts : List (Option Tile)) → ts ≡ tiles font (strip gs) rs → length rs ≡ length gs → length ts ≡ length gs
tiles_cover font gs rs ts e same = ap (λ (us : List (Option Tile)). length us) e ∙ tiles_long font (strip gs) rs (same ∙ sym (length-map gs item_of)) ∙ length-map gs item_of
