-- The runs of a text's tiles, one glyph after another.
use Rattle.std.proofs.Common.{ℕ, ℤ, zero, suc, pos, ◌≡◌, ◌≤◌, ◌<◌, ◌+◌, ◌-◌, ◌*◌, ◌^◌, Bool, false, if◌then◌else◌, List, [], ◌∷◌, ◌++◌, Option, length, take, drop, get_or, refl, sym, ap, subst, ◌∙◌, arith, append_assoc, append-nil}
use Rattle.std.proofs.lemmas.List.{drop_all, take_all, length-drop}
use Rattle.buffer_glyphs.specs.declared.info.hb_glyph_info_t.{hb_glyph_info_t}
use Rattle.layout_face.specs.declared.parts.FaceParts.{FaceParts}
use Rattle.buffer_glyphs.specs.Items.{Item, Position, item_of, strip}
use Rattle.buffer_glyphs.specs.Coordinates.{IsNear}
use Rattle.script_arabic.specs.declared.runs.Run.{Run}
use Rattle.script_arabic.specs.declared.runs.Before.{Before}
use Rattle.script_arabic.specs.declared.runs.Before.TheVariants.{Word, Tiles}
use Rattle.script_arabic.specs.Tiles.{is_tile}
use Rattle.script_arabic.specs.Runs.{next_before, run_here, runs, tile_run, word_before, word_after}

runs_next : (font : FaceParts) (before : Before) (i : ℕ) (gs : List hb_glyph_info_t) (ps : List Position) (d : Position) → i < length gs → length ps ≡ length gs
    → runs font before (strip (drop i gs)) (drop i ps) ≡ tile_run (next_before font before (strip (drop i gs)) (get_or ps i d)) ∷ runs font (next_before font before (strip (drop i gs)) (get_or ps i d)) (strip (drop (suc i) gs)) (drop (suc i) ps)
runs_next font before i [] ps d lt e = absurd (omega arith)
runs_next font before i (g ∷ gs) [] d lt e = absurd (omega (arith, e))
runs_next font before zero (g ∷ gs) (p ∷ ps) d lt e = refl
runs_next font before (suc i) (g ∷ gs) (p ∷ ps) d lt e = runs_next font before i gs ps d (omega arith) (omega (arith, e))

-- the runs of that many glyphs, and what is before the next one
pub record AreRun (font : FaceParts) (gs : List hb_glyph_info_t) (ps : List Position) (i : ℕ) (before : Before) (rs : List (Option Run)) : Type 0 where
  pub done : rs ++ runs font before (strip (drop i gs)) (drop i ps) ≡ runs font (Word (pos 0)) (strip gs) ps
  pub near : IsNear (i * 2 ^ 31) (word_before before)

pub none_run : (font : FaceParts) (gs : List hb_glyph_info_t) (ps : List Position) → AreRun font gs ps 0 (Word (pos 0)) []
none_run font gs ps = record { done = refl; near = record { low = omega arith; high = omega arith } }

pub one_run : (font : FaceParts) (gs : List hb_glyph_info_t) (ps : List Position) (i : ℕ) (before next : Before) (rs : List (Option Run)) (d : Position) → i < length gs → length ps ≡ length gs → AreRun font gs ps i before rs
    → next ≡ next_before font before (strip (drop i gs)) (get_or ps i d) → IsNear (i * 2 ^ 31 + 2 ^ 31) (word_before next) → AreRun font gs ps (i + 1) next (rs ++ tile_run next ∷ [])
one_run font gs ps i before next rs d lt e r is near =
    let n : i + 1 ≡ suc i = omega arith in
    let far : (i + 1) * 2 ^ 31 ≡ i * 2 ^ 31 + 2 ^ 31 = omega arith in
    record {
      done = append_assoc rs (tile_run next ∷ []) (runs font next (strip (drop (i + 1) gs)) (drop (i + 1) ps))
          ∙ ap (λ m. rs ++ tile_run next ∷ runs font next (strip (drop m gs)) (drop m ps)) n
          ∙ ap (λ b. rs ++ tile_run b ∷ runs font b (strip (drop (suc i) gs)) (drop (suc i) ps)) is
          ∙ ap (λ ys. rs ++ ys) (sym (runs_next font before i gs ps d lt e)) ∙ r.done;
      near = subst (λ m. IsNear m (word_before next)) (sym far) near;
    }

abbrev after_if : FaceParts → Before → Item → List Item → Position → Bool → Before
after_if font before x xs p t = if t then Tiles (run_here font before (x ∷ xs)) else Word (word_after before x p)

-- after an item that is no tile there is a word
pub after_is : (font : FaceParts) (before next : Before) (gs : List hb_glyph_info_t) (d : hb_glyph_info_t) (p : Position) (w v : ℤ) → 0 < length gs → is_tile (item_of (get_or gs 0 d)) ≡ false → w ≡ word_after before (item_of (get_or gs 0 d)) p → v ≡ w → next ≡ Word v
    → next ≡ next_before font before (strip gs) p
after_is font before next [] d p w v lt e f same g = absurd (omega (arith, lt))
after_is font before next (h ∷ hs) d p w v lt e f same g = g ∙ ap Word (same ∙ f) ∙ sym (ap (after_if font before (item_of h) (strip hs) p) e)

pub after_near : (b : ℕ) (next : Before) (w v : ℤ) → v ≡ w → next ≡ Word v → IsNear b w → IsNear b (word_before next)
after_near b next w v same g h = let e : next ≡ Word w = g ∙ ap Word same in subst (λ n. IsNear b (word_before n)) (sym e) h

-- the glyphs from one on, as a slice to the end
pub from_there : (font : FaceParts) (gs : List hb_glyph_info_t) (i : ℕ) (before next : Before) (p : Position) → next ≡ next_before font before (strip (take (length gs - i) (drop i gs))) p → next ≡ next_before font before (strip (drop i gs)) p
from_there font gs i before next p e = e ∙ ap (λ hs. next_before font before (strip hs) p) (take_all (length gs - i) (drop i gs) (omega (arith, length-drop i gs)))

pub one_pushed : (font : FaceParts) (gs : List hb_glyph_info_t) (ps : List Position) (i : ℕ) (next : Before) (rs new : List (Option Run)) (t : Option Run) → new ≡ rs ++ t ∷ [] → t ≡ tile_run next → AreRun font gs ps i next (rs ++ tile_run next ∷ []) → AreRun font gs ps i next new
one_pushed font gs ps i next rs new t e f r = subst (AreRun font gs ps i next) (sym (e ∙ ap (λ u. rs ++ u ∷ []) f)) r

pub all_run : (font : FaceParts) (gs : List hb_glyph_info_t) (ps : List Position) (i : ℕ) (before : Before) (rs : List (Option Run)) → length gs ≤ i → AreRun font gs ps i before rs → rs ≡ runs font (Word (pos 0)) (strip gs) ps
all_run font gs ps i before rs past r =
    sym (ap (λ hs. rs ++ runs font before (strip hs) (drop i ps)) (drop_all i gs past) ∙ append-nil rs) ∙ r.done
