-- Tiles that were copied and then placed.
use Rattle.std.proofs.Common.{ℕ, ℤ, zero, suc, ◌≡◌, ◌+◌, ◌&&◌, Bool, true, false, nat_le, if◌then◌else◌, List, [], ◌∷◌, ◌++◌, Option, None, Some, Ok, Err, length, refl, sym, ap, subst, ◌∙◌, arith}
use Rattle.std.specs.Prelude.{replicate}
use Rattle.std.proofs.lemmas.List.{length-append, length-map, length-replicate}
use Rattle.buffer_glyphs.specs.declared.cause.ShapeCause.{ShapeCause}
use Rattle.buffer_glyphs.specs.declared.cause.ShapeCause.TheVariants.{TooLong}
use Rattle.buffer_glyphs.specs.Items.{Item, Position, item_of}
use Rattle.buffer_glyphs.specs.Events.{Event}
use Rattle.buffer_core.specs.Readings.{View, BufferState, Reading, Follows, always, reading_of, then_reading, with_events}
use Rattle.buffer_core.specs.Sides.{Sides, all_glyphs, items_of, state_of, view_of, zero_positions}
use Rattle.buffer_core.specs.Lending.{with_positions_refilled}
use Rattle.buffer_stages.specs.Buffers.{are_glyphs}
use Rattle.buffer_stages.specs.Ready.{IsDone, IsReady}
use Rattle.buffer_stages.specs.Lemmas.Written.{happens_followed, refilled_whole}
use Rattle.buffer_stages.specs.Stages.{Happens, IsFollowed}
use Rattle.script_syllabic.proofs.Quiet.{followed_then}
use Rattle.script_arabic.specs.declared.tile.Tile.{Tile}
use Rattle.script_arabic.specs.Copying.{with_tile_copies, copies_in, events_from, tiles_copied}
use Rattle.script_arabic.specs.TilePositions.{begin, copy_positions, all_positions, tile_positions}
use Rattle.script_arabic.specs.Stretch.{text_stretch_events, with_tiles_laid}

copies_long : (p : Position) (t : Tile) (x : ℤ) (n : ℕ) → length (copy_positions p t x n) ≡ n + 1
copies_long p t x zero = refl
copies_long p t x (suc n) = let a = copies_long p t x n in omega (arith, a)

placed_long : (p : Position) (t : Option Tile) (x : ℤ) → length (tile_positions p t x) ≡ copies_in t + 1
placed_long p None x = refl
placed_long p (Some t) x = copies_long p t x t.copies

-- there is a position for each item and for each copy
pub laid_long : {X : Type 0} (xs : List X) (ps : List Position) (ts : List (Option Tile)) → length ps ≡ length xs → length (all_positions ps ts) ≡ length (with_tile_copies xs ts)
laid_long [] [] ts e = refl
laid_long [] (p ∷ ps) ts e = absurd (omega (arith, e))
laid_long (x ∷ xs) [] ts e = absurd (omega (arith, e))
laid_long (x ∷ xs) (p ∷ ps) [] e = refl
laid_long (x ∷ xs) (p ∷ ps) (t ∷ ts) e =
    let a = laid_long xs ps ts (omega (arith, e)) in
    let b = length-append (tile_positions p t (begin ts)) (all_positions ps ts) in
    let c = length-append (replicate (copies_in t + 1) x) (with_tile_copies xs ts) in
    omega (arith, a, b, c, placed_long p t (begin ts), length-replicate (copies_in t + 1) x)

front_back : (t b c : Bool) → (b ≡ true → c ≡ true) → (t && b) ≡ true → (t && c) ≡ true
front_back true b c f e = f e
front_back false b c f e = cc

both_glyphs : (xs ys : List Item) → are_glyphs xs ≡ true → are_glyphs ys ≡ true → are_glyphs (xs ++ ys) ≡ true
both_glyphs [] ys a b = b
both_glyphs (x ∷ xs) ys a b = front_back (nat_le x.number 65535) (are_glyphs xs) (are_glyphs (xs ++ ys)) (λ e. both_glyphs xs ys e b) a

copies_glyphs : (n : ℕ) (x : Item) → nat_le x.number 65535 ≡ true → are_glyphs (replicate n x) ≡ true
copies_glyphs zero x e = refl
copies_glyphs (suc n) x e = front_back true (nat_le x.number 65535) (are_glyphs (replicate (suc n) x)) (λ f. rw f (copies_glyphs n x e)) e

split_glyphs : (t b c d : Bool) → (t ≡ true → c ≡ true) → (b ≡ true → d ≡ true) → (t && b) ≡ true → (c ≡ true) × (d ≡ true)
split_glyphs true b c d f g e = (f refl, g e)
split_glyphs false b c d f g e = cc

copied_glyphs : (xs : List Item) (ts : List (Option Tile)) → are_glyphs xs ≡ true → are_glyphs (with_tile_copies xs ts) ≡ true
copied_glyphs [] ts e = refl
copied_glyphs (x ∷ xs) [] e = refl
copied_glyphs (x ∷ xs) (t ∷ ts) e =
    let n = copies_in t + 1 in
    let both = split_glyphs (nat_le x.number 65535) (are_glyphs xs) (are_glyphs (replicate n x)) (are_glyphs (with_tile_copies xs ts)) (λ f. copies_glyphs n x f) (λ f. copied_glyphs xs ts f) e in
    both_glyphs (replicate n x) (with_tile_copies xs ts) both.0 both.1

-- other positions on the way of a reading
abbrev placed_if : Bool → List Item → List Position → List Event → View → Reading
placed_if b xs ps es v = if b then Ok (with_events es (record v { items = xs; positions = ps })) else Err TooLong

replaced : (b : Bool) (xs : List Item) (ps qs : List Position) (es : List Event) (s t : Sides) → Follows (placed_if b xs ps es (view_of s)) (state_of s) (state_of t)
    → (items_of t ≡ xs) × Follows (placed_if b xs qs es (view_of s)) (state_of s) (state_of (record t { positions = qs }))
replaced true xs ps qs es s t h = (ap (λ (r : BufferState). r.view.items) h, ap (λ (r : BufferState). record r { view = record (r.view) { positions = qs } }) h)
replaced false xs ps qs es s t h = absurd h

flagged_first : (b : Bool) (xs : List Item) (ps : List Position) (es fs : List Event) (v : View) → then_reading (with_events es v) (placed_if b xs ps fs v) ≡ placed_if b xs ps (es ++ fs) v
flagged_first true xs ps es fs v = refl
flagged_first false xs ps es fs v = refl

-- flagged, and then copied
copied_after : (ts : List (Option Tile)) (es : List Event) (s mid t : Sides) → Happens es s mid → IsFollowed (tiles_copied ts) mid t
    → Follows (placed_if (nat_le (length (with_tile_copies (items_of s) ts)) s.max_len) (with_tile_copies (items_of s) ts) (zero_positions (length (with_tile_copies (items_of s) ts))) (es ++ events_from 0 ts) (view_of s)) (state_of s) (state_of t)
copied_after ts es s mid t h f =
    let xs = with_tile_copies (items_of s) ts in
    let both = followed_then (always (with_events es)) (tiles_copied ts) s mid t (happens_followed es s mid (always (with_events es)) h refl) f in
    subst (λ q. Follows q (state_of s) (state_of t)) (flagged_first (nat_le (length xs) s.max_len) xs (zero_positions (length xs)) es (events_from 0 ts) (view_of s)) both.follows

-- flagged, copied, and then placed
pub laid_done : (ts : List (Option Tile)) (ps : List Position) (s mid t new : Sides) → IsReady s → Happens (text_stretch_events (items_of s)) s mid → IsFollowed (tiles_copied ts) mid t
    → ps ≡ all_positions mid.positions ts → new ≡ record t { positions = ps } → IsDone (with_tiles_laid ts) s new
laid_done ts ps s mid t new ready flagged h e is =
    let xs = with_tile_copies (items_of s) ts in
    let es = text_stretch_events (items_of s) ++ events_from 0 ts in
    let qs = all_positions s.positions ts in
    let both = replaced (nat_le (length xs) s.max_len) xs (zero_positions (length xs)) qs es s t (copied_after ts (text_stretch_events (items_of s)) s mid t flagged h) in
    let r = h.ready in
    let same : ps ≡ qs = e ∙ ap (λ (v : View). all_positions v.positions ts) flagged.view in
    let long : length qs ≡ length (all_glyphs t) =
    laid_long (items_of s) s.positions ts (ready.placed ∙ sym (length-map (all_glyphs s) item_of)) ∙ ap (λ (ys : List Item). length ys) (sym both.0) ∙ length-map (all_glyphs t) item_of in
    subst (λ (n : Sides). IsDone (with_tiles_laid ts) s n) (sym (is ∙ ap (λ rs. record t { positions = rs }) same)) (record {
      follows = both.1;
      settings = h.settings ∙ flagged.settings;
      ready = record { closed = r.closed; front = r.front; unread = r.unread; placed = long; unrefused = r.unrefused };
      numbers = λ f. ap are_glyphs both.0 ∙ copied_glyphs (items_of s) ts f;
    })

-- there is an index for each position
pub room_for_positions : (ts : List (Option Tile)) (ps : List Position) (s t : Sides) → IsReady s → IsFollowed (tiles_copied ts) s t → ps ≡ all_positions s.positions ts → length ps ≡ length t.positions
room_for_positions ts ps s t ready h e =
    let xs = with_tile_copies (items_of s) ts in
    let both = replaced (nat_le (length xs) s.max_len) xs (zero_positions (length xs)) ps (events_from 0 ts) s t h.follows in
    ap (λ (qs : List Position). length qs) e ∙ laid_long (items_of s) s.positions ts (ready.placed ∙ sym (length-map (all_glyphs s) item_of)) ∙ ap (λ (ys : List Item). length ys) (sym both.0) ∙ length-map (all_glyphs t) item_of ∙ sym h.ready.placed

same_refusal : (b : Bool) (xs : List Item) (ps qs : List Position) (es fs : List Event) (v : View) (e : ShapeCause) → placed_if b xs ps es v ≡ Err e → placed_if b xs qs fs v ≡ Err e
same_refusal true xs ps qs es fs v e h = cc
same_refusal false xs ps qs es fs v e h = h

pub laid_refused : (ts : List (Option Tile)) (s mid : Sides) (e : ShapeCause) → Happens (text_stretch_events (items_of s)) s mid → reading_of (tiles_copied ts) (state_of mid) ≡ Err e → reading_of (with_tiles_laid ts) (state_of s) ≡ Err e
laid_refused ts s mid e flagged h =
    let xs = with_tile_copies (items_of s) ts in
    let there : tiles_copied ts (view_of s) ≡ Err e = sym (ap (tiles_copied ts) flagged.view) ∙ h in
    same_refusal (nat_le (length xs) s.max_len) xs (zero_positions (length xs)) (all_positions s.positions ts) (events_from 0 ts) (text_stretch_events (items_of s) ++ events_from 0 ts) (view_of s) e there

-- as many positions come back as were lent
pub positions_back : (ps : List Position) (s new : Sides) → new ≡ with_positions_refilled ps s → length ps ≡ length s.positions → new ≡ record s { positions = ps }
positions_back ps s new e long = e ∙ ap (λ qs. record s { positions = qs }) (refilled_whole ps s.positions long)
