-- A text without tiles.
use Rattle.std.proofs.Common.{ℕ, ℤ, zero, suc, pos, ◌≡◌, ◌≤◌, ◌+◌, ◌||◌, Bool, true, false, nat_le, if◌then◌else◌, List, [], ◌∷◌, ◌++◌, Option, None, Ok, Err, length, refl, sym, ap, subst, ◌∙◌, arith}
use Rattle.std.specs.Prelude.{replicate}
use Rattle.std.specs.List.{list_all, list_any}
use Rattle.std.proofs.lemmas.Bool.Decides.{nat_tests}
use Rattle.std.proofs.lemmas.List.{length-map}
use Rattle.buffer_glyphs.specs.declared.cause.ShapeCause.TheVariants.{StretchRange, TooLong}
use Rattle.buffer_glyphs.specs.declared.info.hb_glyph_info_t.{hb_glyph_info_t}
use Rattle.layout_face.specs.declared.parts.FaceParts.{FaceParts}
use Rattle.buffer_glyphs.specs.Items.{Item, Position, item_of, strip}
use Rattle.buffer_glyphs.specs.Events.{Event}
use Rattle.buffer_core.specs.Readings.{Follows, Reading, View, as_it_is, with_events}
use Rattle.buffer_core.specs.Sides.{Sides, all_glyphs, items_of, state_of, view_of}
use Rattle.buffer_stages.specs.Ready.{IsDone, IsReady}
use Rattle.script_arabic.specs.declared.runs.Before.TheVariants.{Tiles, Word}
use Rattle.script_arabic.specs.Runs.{next_before, run_here, runs, tile_run, word_after}
use Rattle.script_arabic.specs.Tiles.{is_tile}
use Rattle.script_arabic.specs.declared.tile.Tile.{Tile}
use Rattle.script_arabic.specs.Laying.{is_in_range, tiles}
use Rattle.script_arabic.specs.Copying.{with_tile_copies, events_from}
use Rattle.script_arabic.specs.TilePositions.{all_positions}
use Rattle.script_arabic.specs.Stretch.{text_stretch_events, with_tiles_laid, text_runs, tiles_laid}
use Rattle.script_arabic.proofs.WordsFlagged.{no_text_events}
use Rattle.std.proofs.lemmas.Bool.{or_parts}

pub any_seen : (gs : List hb_glyph_info_t) → list_any (λ (g : hb_glyph_info_t). is_tile (item_of g)) gs ≡ list_any is_tile (strip gs)
any_seen [] = refl
any_seen (g ∷ gs) = ap (λ b. is_tile (item_of g) || b) (any_seen gs)

pub no_runs : (font : FaceParts) (w : ℤ) (xs : List Item) (ps : List Position) → list_any is_tile xs ≡ false → length ps ≡ length xs → runs font (Word w) xs ps ≡ replicate (length xs) None
no_runs font w [] ps e long = refl
no_runs font w (x ∷ xs) [] e long = absurd (omega (arith, long))
no_runs font w (x ∷ xs) (p ∷ ps) e long =
    let n = or_parts (is_tile x) (list_any is_tile xs) e in
    let v = word_after (Word w) x p in
    let b : next_before font (Word w) (x ∷ xs) p ≡ Word v = ap (λ t. if t then Tiles (run_here font (Word w) (x ∷ xs)) else Word v) n.0 in
    ap (λ q. tile_run q ∷ runs font q xs ps) b ∙ ap (λ rs. None ∷ rs) (no_runs font v xs ps n.1 (omega (arith, long)))

pub none_in_range : (n : ℕ) → list_all is_in_range (replicate n None) ≡ true
none_in_range zero = refl
none_in_range (suc n) = none_in_range n

pub no_tiles : (font : FaceParts) (xs : List Item) → tiles font xs (replicate (length xs) None) ≡ replicate (length xs) None
no_tiles font [] = refl
no_tiles font (x ∷ xs) = ap (λ ts. None ∷ ts) (no_tiles font xs)

pub none_copied : (xs : List Item) → with_tile_copies xs (replicate (length xs) None) ≡ xs
none_copied [] = refl
none_copied (x ∷ xs) = ap (λ ys. x ∷ ys) (none_copied xs)

pub none_laid : (ps : List Position) → all_positions ps (replicate (length ps) None) ≡ ps
none_laid [] = refl
none_laid (p ∷ ps) = ap (λ qs. p ∷ qs) (none_laid ps)

pub no_events : (at n : ℕ) → events_from at (replicate n None) ≡ []
no_events at zero = refl
no_events at (suc n) = no_events (at + 1) n

abbrev read_if : Bool → List Item → List Position → List Event → View → Reading
read_if b xs ps es v = if b then Ok (with_events es (record v { items = xs; positions = ps })) else Err TooLong

abbrev laid_if : Bool → List (Option Tile) → View → Reading
laid_if b ts v = if b then with_tiles_laid ts v else Err StretchRange

stays : (v : View) → list_any is_tile v.items ≡ false → length v.positions ≡ length v.items → length v.items ≤ v.max_len → with_tiles_laid (replicate (length v.items) None) v ≡ as_it_is v
stays v none long le =
    let ts : List (Option Tile) = replicate (length v.items) None in
    let es = text_stretch_events v.items ++ events_from 0 ts in
    let items : with_tile_copies v.items ts ≡ v.items = none_copied v.items in
    let positions : all_positions v.positions ts ≡ v.positions = ap (λ n. all_positions v.positions (replicate n None)) (sym long) ∙ none_laid v.positions in
    let fits : nat_le (length v.items) v.max_len ≡ true = grind (arith, nat_tests, le) in
    ap (λ xs. read_if (nat_le (length xs) v.max_len) xs (all_positions v.positions ts) es v) items
    ∙ ap (λ ps. read_if (nat_le (length v.items) v.max_len) v.items ps es v) positions
    ∙ ap (λ fs. read_if (nat_le (length v.items) v.max_len) v.items v.positions (text_stretch_events v.items ++ fs) v) (no_events 0 (length v.items))
    ∙ ap (λ fs. read_if (nat_le (length v.items) v.max_len) v.items v.positions (fs ++ []) v) (no_text_events v.items none)
    ∙ ap (λ t. read_if t v.items v.positions [] v) fits

-- without a tile a text stays as it is
pub untouched_done : (font : FaceParts) (s : Sides) → IsReady s → list_any is_tile (items_of s) ≡ false → length (all_glyphs s) ≤ s.max_len → IsDone (tiles_laid font) s s
untouched_done font s ready e le =
    let v = view_of s in
    let count : length (items_of s) ≡ length (all_glyphs s) = length-map (all_glyphs s) item_of in
    let long : length s.positions ≡ length (items_of s) = ready.placed ∙ sym count in
    let rs : text_runs font v ≡ replicate (length v.items) None = no_runs font (pos 0) v.items s.positions e long in
    let is : tiles_laid font v ≡ as_it_is v =
    ap (λ qs. laid_if (list_all is_in_range qs) (tiles font v.items qs) v) rs
    ∙ ap (λ t. laid_if t (tiles font v.items (replicate (length v.items) None)) v) (none_in_range (length v.items))
    ∙ ap (λ ts. with_tiles_laid ts v) (no_tiles font v.items)
    ∙ stays v e long (omega (arith, count, le)) in
    record {
      follows = subst (λ (q : Reading). Follows q (state_of s) (state_of s)) (sym is) refl;
      settings = refl;
      ready = ready;
      numbers = λ h. h;
    }
