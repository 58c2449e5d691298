-- The last stage of Arabic texts that have no tiles.
use Rattle.std.proofs.Common.{ℕ, ℤ, zero, suc, pos, ◌≡◌, ◌+◌, Bool, true, false, nat_le, if◌then◌else◌, List, [], ◌∷◌, ◌++◌, Option, None, Ok, Err, length, arith, refl, sym, ap, subst, ◌∙◌}
use Rattle.std.specs.Prelude.{replicate}
use Rattle.std.specs.List.{list_all, list_any}
use Rattle.std.proofs.lemmas.Bool.{or_parts}
use Rattle.buffer_glyphs.specs.declared.cause.ShapeCause.TheVariants.{StretchRange, TooLong}
use Rattle.buffer_glyphs.specs.Events.{Event}
use Rattle.buffer_glyphs.specs.Items.{Item, Position}
use Rattle.buffer_parts.specs.Counting.{is_left}
use Rattle.buffer_parts.specs.Lemmas.Stages.{same_read}
use Rattle.buffer_core.specs.Readings.{Read, Reading, View, with_events}
use Rattle.layout_face.specs.declared.parts.FaceParts.{FaceParts}
use Rattle.script_arabic.specs.declared.runs.Before.TheVariants.{Tiles, Word}
use Rattle.script_arabic.specs.declared.stretch.WordWalk.{WordWalk}
use Rattle.script_arabic.specs.declared.tile.Tile.{Tile}
use Rattle.script_arabic.specs.Copying.{events_from, with_tile_copies}
use Rattle.script_arabic.specs.Laying.{is_in_range, tiles}
use Rattle.script_arabic.specs.Runs.{next_before, run_here, runs, tile_run, word_after}
use Rattle.script_arabic.specs.Stretch.{stretch_event, stretch_events, text_runs, text_stretch_events, tiles_laid, with_tiles_laid, word_start}
use Rattle.script_arabic.specs.TilePositions.{all_positions}
use Rattle.script_arabic.specs.Tiles.{is_tile}
use Rattle.shape_pipeline.specs.Shaping.{Shaping, postprocessing_stage}
use Rattle.shape_laws.specs.Breaks.Apart.{EndsPlainly, before_end}
use Rattle.script_arabic.proofs.Untouched.{none_copied, none_laid, no_tiles, no_runs, no_events, none_in_range}

-- ---- a text without tiles

-- the word without tiles that starts at an index
abbrev word_from : ℕ → WordWalk
word_from start = record { start = start; has_tiles = false }

no_words : (start at : ℕ) (xs : List Item) → list_any is_tile xs ≡ false → stretch_events (word_from start) at xs ≡ []
no_words start at [] e = refl
no_words start at (x ∷ xs) e =
    let n = or_parts (is_tile x) (list_any is_tile xs) e in
    ap (λ b. (if b then [] else stretch_event (word_from start) at) ++ stretch_events (if b then record (word_from start) { has_tiles = true } else word_from (word_start (word_from start) at x)) (at + 1) xs) n.0
    ∙ no_words (word_start (word_from start) at x) (at + 1) xs n.1

-- ---- what is read of it

abbrev read_if : Bool → List Item → List Position → List Event → View → Reading
read_if b xs ps es v = if b then Ok (with_events es (record v { items = xs; positions = ps })) else Err TooLong

abbrev laying_if : Bool → List (Option Tile) → View → Reading
laying_if b ts v = if b then with_tiles_laid ts v else Err StretchRange

laid_is : (v : View) → list_any is_tile v.items ≡ false → length v.positions ≡ length v.items → with_tiles_laid (replicate (length v.items) None) v ≡ read_if (nat_le (length v.items) v.max_len) v.items v.positions [] v
laid_is v none long =
    let ts : List (Option Tile) = replicate (length v.items) None in
    let es = text_stretch_events v.items ++ events_from 0 ts in
    let positions : all_positions v.positions ts ≡ v.positions = ap (λ n. all_positions v.positions (replicate n None)) (sym long) ∙ none_laid v.positions in
    ap (λ xs. read_if (nat_le (length xs) v.max_len) xs (all_positions v.positions ts) es v) (none_copied v.items)
    ∙ ap (λ ps. read_if (nat_le (length v.items) v.max_len) v.items ps es v) positions
    ∙ ap (λ fs. read_if (nat_le (length v.items) v.max_len) v.items v.positions (text_stretch_events v.items ++ fs) v) (no_events 0 (length v.items))
    ∙ ap (λ fs. read_if (nat_le (length v.items) v.max_len) v.items v.positions (fs ++ []) v) (no_words 0 0 v.items none)

untiled_is : (font : FaceParts) (v : View) → list_any is_tile v.items ≡ false → length v.positions ≡ length v.items → tiles_laid font v ≡ read_if (nat_le (length v.items) v.max_len) v.items v.positions [] v
untiled_is font v none long =
    let rs : text_runs font v ≡ replicate (length v.items) None = no_runs font (pos 0) v.items v.positions none long in
    ap (λ qs. laying_if (list_all is_in_range qs) (tiles font v.items qs) v) rs
    ∙ ap (λ t. laying_if t (tiles font v.items (replicate (length v.items) None)) v) (none_in_range (length v.items))
    ∙ ap (λ ts. with_tiles_laid ts v) (no_tiles font v.items)
    ∙ laid_is v none long

read_fits : (b : Bool) (v : View) (r : Read) → read_if b v.items v.positions [] v ≡ Ok r → r ≡ with_events [] v
read_fits true v r e = sym (same_read (with_events [] v) r e)
read_fits false v r e = cc

-- a text without tiles stays as it is
untiled_stays : (font : FaceParts) (v : View) (r : Read) → list_any is_tile v.items ≡ false → length v.positions ≡ length v.items → tiles_laid font v ≡ Ok r → r ≡ with_events [] v
untiled_stays font v r none long e = read_fits (nat_le (length v.items) v.max_len) v r (sym (untiled_is font v none long) ∙ e)

-- ---- tiles spend no budget

laid_budget : (b : Bool) (xs : List Item) (ps : List Position) (es : List Event) (v : View) (r : Read) → read_if b xs ps es v ≡ Ok r → r.view.max_ops ≡ v.max_ops
laid_budget true xs ps es v r e = sym (ap (λ (x : Read). x.view.max_ops) (same_read (with_events es (record v { items = xs; positions = ps })) r e))
laid_budget false xs ps es v r e = cc

tiled_budget : (b : Bool) (ts : List (Option Tile)) (v : View) (r : Read) → laying_if b ts v ≡ Ok r → r.view.max_ops ≡ v.max_ops
tiled_budget true ts v r e = laid_budget (nat_le (length (with_tile_copies v.items ts)) v.max_len) (with_tile_copies v.items ts) (all_positions v.positions ts) (text_stretch_events v.items ++ events_from 0 ts) v r e
tiled_budget false ts v r e = cc

tiles_budget : (font : FaceParts) (v : View) (r : Read) → tiles_laid font v ≡ Ok r → r.view.max_ops ≡ v.max_ops
tiles_budget font v r e = tiled_budget (list_all is_in_range (text_runs font v)) (tiles font v.items (text_runs font v)) v r e

-- ---- the shaper's last stage

-- the last stage of a shaper that lays tiles leaves a text as it is that comes to it without tiles
pub untiled_end : (p : Shaping) (v : View) → ((w : View) → postprocessing_stage p w ≡ tiles_laid p.font w) → ((a : Read) → before_end p v ≡ Ok a → list_any is_tile a.view.items ≡ false) → EndsPlainly p v
untiled_end p v lays none = record {
  same = λ a r is_a many is. untiled_stays p.font a.view r (none a is_a) many (sym (lays a.view) ∙ is);
  budget = λ w r is left. subst (λ (n : ℤ). is_left n ≡ true) (tiles_budget p.font w r (sym (lays w) ∙ is)) left;
}
