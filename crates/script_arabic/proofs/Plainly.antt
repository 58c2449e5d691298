-- The events of copies.
use Rattle.std.proofs.Common.{ℕ, zero, suc, ◌≡◌, ◌≤◌, ◌<◌, ◌+◌, Bool, true, false, nat_le, if◌then◌else◌, List, [], ◌∷◌, ◌++◌, Option, Ok, Err, length, replicate, arith, refl, ap, subst}
use Rattle.std.proofs.lemmas.List.{length-append, length-replicate}
use Rattle.std.specs.List.{list_all}
use Rattle.buffer_glyphs.specs.declared.cause.ShapeCause.TheVariants.{StretchRange, TooLong}
use Rattle.buffer_glyphs.specs.Items.{Item}
use Rattle.buffer_glyphs.specs.Events.{Event, Replace}
use Rattle.buffer_core.specs.Readings.{Reading, with_events}
use Rattle.layout_face.specs.declared.parts.FaceParts.{FaceParts}
use Rattle.buffer_parts.specs.Plainly.{ArePlainlyKept}
use Rattle.buffer_parts.specs.Lemmas.Plainly.{plainly_in_turn, replacement_kept, steady_kept}
use Rattle.buffer_parts.specs.Lemmas.PlainStages.{ReadsPlainly, limited_plainly}
use Rattle.script_arabic.specs.declared.runs.Run.{Run}
use Rattle.script_arabic.specs.declared.tile.Tile.{Tile}
use Rattle.script_arabic.specs.Laying.{is_in_range, tiles}
use Rattle.script_arabic.specs.Copying.{with_tile_copies, copies_in, copy_events, events_from}
use Rattle.script_arabic.specs.TilePositions.{all_positions}
use Rattle.script_arabic.specs.Stretch.{text_stretch_events, with_tiles_laid, text_runs}
use Rattle.script_arabic.proofs.WordsFlagged.{text_steady}
use Rattle.script_arabic.specs.TileLaws.{TilesKeepPlainly}

-- one copy before a glyph that is there
copy_kept : (at n : ℕ) → 0 < n → at ≤ n → ArePlainlyKept (Replace at 0 1 ∷ []) n (n + 1)
copy_kept at n some le = replacement_kept at 0 1 n (n + 1) (omega arith) some le (omega (arith, le))

-- the same numbers of glyphs, in other forms
pub kept_between : (es : List Event) (a b c d : ℕ) → a ≡ b → c ≡ d → ArePlainlyKept es a c → ArePlainlyKept es b d
kept_between es a b c d e f p = subst (λ (n : ℕ). ArePlainlyKept es b n) f (subst (λ (n : ℕ). ArePlainlyKept es n c) e p)

copies_kept : (at k n : ℕ) → 0 < n → at ≤ n → ArePlainlyKept (copy_events at k) n (n + k)
copies_kept at zero n some le = let same : n ≡ n + 0 = omega arith in kept_between [] n n n (n + 0) refl same (steady_kept [] n tt)
copies_kept at (suc k) n some le =
    let same : n + 1 + k ≡ n + suc k = omega arith in
    kept_between (copy_events at (suc k)) n n (n + 1 + k) (n + suc k) refl same
    (plainly_in_turn (Replace at 0 1 ∷ []) (copy_events (at + 1) k) n (n + 1) (n + 1 + k) (copy_kept at n some le) (copies_kept (at + 1) k (n + 1) (omega arith) (omega (arith, le))))

-- items with their tiles, after so many items that were copied before
events_kept : {X : Type 0} (at : ℕ) (xs : List X) (ts : List (Option Tile)) → length ts ≡ length xs → ArePlainlyKept (events_from at ts) (at + length xs) (at + length (with_tile_copies xs ts))
events_kept at [] [] e = steady_kept [] (at + 0) tt
events_kept at [] (t ∷ ts) e = cc
events_kept at (x ∷ xs) [] e = cc
events_kept at (x ∷ xs) (t ∷ ts) e =
    let k = copies_in t in
    let n = at + suc (length xs) in
    let left = at + (k + 1) + length (with_tile_copies xs ts) in
    let here : length ts ≡ length xs = omega (arith, e) in
    let long = length-append (replicate (k + 1) x) (with_tile_copies xs ts) in
    let many = length-replicate (k + 1) x in
    let mid : n + k ≡ at + (k + 1) + length xs = omega arith in
    let end : left ≡ at + length (replicate (k + 1) x ++ with_tile_copies xs ts) = omega (arith, long, many) in
    let copies : ArePlainlyKept (copy_events at k) n (at + (k + 1) + length xs) = kept_between (copy_events at k) n n (n + k) (at + (k + 1) + length xs) refl mid (copies_kept at k n (omega arith) (omega arith)) in
    kept_between (events_from at (t ∷ ts)) n n left (at + length (replicate (k + 1) x ++ with_tile_copies xs ts)) refl end
    (plainly_in_turn (copy_events at k) (events_from (at + (k + 1)) ts) n (at + (k + 1) + length xs) left copies (events_kept (at + (k + 1)) xs ts here))

-- from the first item on
all_kept : (xs : List Item) (ts : List (Option Tile)) → length ts ≡ length xs → ArePlainlyKept (events_from 0 ts) (length xs) (length (with_tile_copies xs ts))
all_kept xs ts e =
    let before : 0 + length xs ≡ length xs = omega arith in
    let after : 0 + length (with_tile_copies xs ts) ≡ length (with_tile_copies xs ts) = omega arith in
    kept_between (events_from 0 ts) (0 + length xs) (length xs) (0 + length (with_tile_copies xs ts)) (length (with_tile_copies xs ts)) before after (events_kept 0 xs ts e)

tiles_even : (font : FaceParts) (xs : List Item) (rs : List (Option Run)) → length (tiles font xs rs) ≡ length xs
tiles_even font [] rs = refl
tiles_even font (x ∷ xs) [] = ap suc (tiles_even font xs [])
tiles_even font (x ∷ xs) (r ∷ rs) = ap suc (tiles_even font xs rs)

pub tiles_keep_plainly : TilesKeepPlainly
tiles_keep_plainly font v r level = by_test (list_all is_in_range (text_runs font v))
  where
    by_test : (b : Bool) → ◌≡◌ {A = Reading} (if b then with_tiles_laid (tiles font v.items (text_runs font v)) v else Err StretchRange) (Ok r) → ReadsPlainly (length v.items) r level
    by_test true e =
        let ts : List (Option Tile) = tiles font v.items (text_runs font v) in
        limited_plainly (nat_le (length (with_tile_copies v.items ts)) v.max_len) TooLong (length v.items) (with_events (text_stretch_events v.items ++ events_from 0 ts) (record v { items = with_tile_copies v.items ts; positions = all_positions v.positions ts })) r level
        (plainly_in_turn (text_stretch_events v.items) (events_from 0 ts) (length v.items) (length v.items) (length (with_tile_copies v.items ts)) (steady_kept (text_stretch_events v.items) (length v.items) (text_steady v.items)) (all_kept v.items ts (tiles_even font v.items (text_runs font v)))) e
    by_test false e = cc
