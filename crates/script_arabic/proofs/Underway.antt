-- A text whose tiles are copied one after another.
use Rattle.std.proofs.Common.{ℕ, ◌≡◌, ◌≢◌, ◌<◌, ◌≤◌, ◌+◌, true, false, nat_le, List, [], ◌∷◌, ◌++◌, Option, Err, length, drop, get_or, refl, sym, ap, subst, ◌∙◌, append_assoc, arith}
use Rattle.std.specs.Prelude.{replicate}
use Rattle.std.proofs.lemmas.Bool.Decides.{nat_tests}
use Rattle.std.proofs.lemmas.List.{append-nil, length-append, length-map, length-replicate, drop_more, drop_all}
use Rattle.buffer_glyphs.specs.declared.cause.ShapeCause.{ShapeCause}
use Rattle.buffer_glyphs.specs.declared.cause.ShapeCause.TheVariants.{OutOfMemory, TooLong}
use Rattle.buffer_glyphs.specs.declared.info.hb_glyph_info_t.{hb_glyph_info_t}
use Rattle.buffer_glyphs.specs.Items.{Item, item_of, strip}
use Rattle.buffer_glyphs.specs.Events.{Event}
use Rattle.buffer_core.specs.Readings.{reading_of}
use Rattle.buffer_core.specs.Sides.{Sides, all_glyphs, items_of, state_of, with_output, after_sync, fits_joined}
use Rattle.buffer_stages.specs.Ready.{IsReady}
use Rattle.buffer_stages.specs.Stages.{IsFollowed}
use Rattle.buffer_stages.specs.Walks.{RefusesLength, HasWalked}
use Rattle.buffer_stages.proofs.Lemmas.Walked.{both_walked, nothing_walked, walked_followed}
use Rattle.script_arabic.specs.declared.tile.Tile.{Tile}
use Rattle.script_arabic.specs.Copying.{with_tile_copies, copies_in, copy_events, events_from, tiles_copied}
use Rattle.buffer_stages.proofs.Lemmas.Fitting.{limit_same, written_exceed, written_fit}

-- the glyphs before an index are output with their copies
pub record IsUnderway (ts : List (Option Tile)) (at : ℕ) (s t : Sides) : Type 0 where
  pub events : List Event
  pub walked : HasWalked (strip t.behind) (strip t.ahead) events s t
  pub items : strip t.behind ++ with_tile_copies (strip t.ahead) (drop at ts) ≡ with_tile_copies (items_of s) ts
  pub whole : events ++ events_from (length t.behind) (drop at ts) ≡ events_from 0 ts
  pub count : length t.ahead + at ≡ length ts

pub begun : (ts : List (Option Tile)) (s : Sides) → length ts ≡ length (all_glyphs s) → IsUnderway ts 0 (with_output s) (with_output s)
begun ts s e = record { events = []; walked = nothing_walked (with_output s) refl; items = refl; whole = refl; count = (let n : length (all_glyphs s) + 0 ≡ length (all_glyphs s) = omega arith in n ∙ sym e) }

-- one glyph more
pub more : (ts : List (Option Tile)) (at : ℕ) (d : Option Tile) (s t u : Sides) → at < length ts → IsUnderway ts at s t
    → ((x : Item) (xs : List Item) → strip t.ahead ≡ x ∷ xs → HasWalked (strip t.behind ++ replicate (copies_in (get_or ts at d) + 1) x) xs (copy_events (length t.behind) (copies_in (get_or ts at d))) t u)
    → IsUnderway ts (at + 1) s u
more ts at d s t u lt h step = by_ahead t.ahead refl
  where
    by_ahead : (gs : List hb_glyph_info_t) → t.ahead ≡ gs → IsUnderway ts (at + 1) s u
    by_ahead [] e = absurd (let none = ap (λ (ys : List hb_glyph_info_t). length ys) e in let c = h.count in omega (arith, none, c, lt))
    by_ahead (g ∷ gs) e =
        let x = item_of g in
        let xs = strip gs in
        let n = copies_in (get_or ts at d) in
        let rest = drop (at + 1) ts in
        let w = step x xs (ap strip e) in
        let es = copy_events (length t.behind) n in
        let both = both_walked (strip t.behind) (strip t.ahead) (strip t.behind ++ replicate (n + 1) x) xs h.events es s t u h.walked w in
        let many = ap (λ (ys : List hb_glyph_info_t). length ys) e in
        let left : length u.ahead ≡ length gs = sym (length-map u.ahead item_of) ∙ ap (λ (ys : List Item). length ys) w.ahead ∙ length-map gs item_of in
        let out : length u.behind ≡ length t.behind + (n + 1) =
        sym (length-map u.behind item_of) ∙ ap (λ (ys : List Item). length ys) w.behind ∙ length-append (strip t.behind) (replicate (n + 1) x)
        ∙ ap (λ k. k + length (replicate (n + 1) x)) (length-map t.behind item_of) ∙ ap (λ k. length t.behind + k) (length-replicate (n + 1) x) in
        let c = h.count in
        record {
          events = h.events ++ es;
          walked = record { behind = refl; ahead = refl; happened = both.happened; view = both.view; settings = both.settings; opened = both.opened; unrefused = both.unrefused };
          items =
              ap (λ os. os ++ with_tile_copies (strip u.ahead) rest) w.behind ∙ ap (λ r. (strip t.behind ++ replicate (n + 1) x) ++ with_tile_copies r rest) w.ahead
              ∙ append_assoc (strip t.behind) (replicate (n + 1) x) (with_tile_copies xs rest)
              ∙ ap (λ us. strip t.behind ++ with_tile_copies (x ∷ xs) us) (sym (drop_more ts at d lt))
              ∙ ap (λ r. strip t.behind ++ with_tile_copies r (drop at ts)) (sym (ap strip e)) ∙ h.items;
          whole =
              append_assoc h.events es (events_from (length u.behind) rest)
              ∙ ap (λ k. h.events ++ (es ++ events_from k rest)) out
              ∙ ap (λ us. h.events ++ events_from (length t.behind) us) (sym (drop_more ts at d lt)) ∙ h.whole;
          count = omega (arith, many, left, c);
        }

-- all glyphs
all_walked : (ts : List (Option Tile)) (at : ℕ) (s t : Sides) → length ts ≤ at → IsUnderway ts at s t → HasWalked (with_tile_copies (items_of s) ts) [] (events_from 0 ts) s t
all_walked ts at s t past h = by_ahead t.ahead refl
  where
    by_ahead : (gs : List hb_glyph_info_t) → t.ahead ≡ gs → HasWalked (with_tile_copies (items_of s) ts) [] (events_from 0 ts) s t
    by_ahead (g ∷ gs) e = absurd (let some = ap (λ (ys : List hb_glyph_info_t). length ys) e in let c = h.count in omega (arith, some, c, past))
    by_ahead [] e =
        let none : strip t.ahead ≡ [] = ap strip e in
        let w = h.walked in
        let out : strip t.behind ≡ with_tile_copies (items_of s) ts = sym (append-nil (strip t.behind)) ∙ ap (λ r. strip t.behind ++ with_tile_copies r (drop at ts)) (sym none) ∙ h.items in
        let es : h.events ≡ events_from 0 ts = sym (append-nil h.events) ∙ ap (λ us. h.events ++ events_from (length t.behind) us) (sym (drop_all at ts past)) ∙ h.whole in
        subst (λ fs. HasWalked (with_tile_copies (items_of s) ts) [] fs s t) es
        (record { behind = out; ahead = none; happened = w.happened; view = w.view; settings = w.settings; opened = w.opened; unrefused = w.unrefused })

pub text_followed : (ts : List (Option Tile)) (at : ℕ) (s t new : Sides) → IsReady s → length ts ≤ at → IsUnderway ts at (with_output s) t → (fits_joined t ≡ true) × (new ≡ after_sync t) → IsFollowed (tiles_copied ts) s new
text_followed ts at s t new ready past h done =
    let w = all_walked ts at (with_output s) t past h in
    let xs = with_tile_copies (items_of s) ts in
    let within = written_fit xs (events_from 0 ts) s t w done.0 in
    walked_followed (tiles_copied ts) xs (events_from 0 ts) (λ level. events_from 0 ts) s t new ready w done.1 (rw within refl) refl

pub text_too_long : (ts : List (Option Tile)) (at : ℕ) (e : ShapeCause) (s t : Sides) → IsReady s → length ts ≤ at → IsUnderway ts at (with_output s) t → (e ≢ OutOfMemory → (e ≡ TooLong) × (fits_joined t ≡ false)) → e ≢ OutOfMemory
    → reading_of (tiles_copied ts) (state_of s) ≡ Err e
text_too_long ts at e s t ready past h over other =
    let w = all_walked ts at (with_output s) t past h in
    let xs = with_tile_copies (items_of s) ts in
    let o = over other in
    let within = written_exceed xs (events_from 0 ts) s t ready w o.1 in
    rw within (ap Err (sym o.0))

-- a glyph whose copies were too many
pub too_long : (ts : List (Option Tile)) (at : ℕ) (d : Option Tile) (e : ShapeCause) (s t : Sides) → at < length ts → IsUnderway ts at (with_output s) t → RefusesLength (length t.behind + (copies_in (get_or ts at d) + 1)) e t → e ≢ OutOfMemory
    → reading_of (tiles_copied ts) (state_of s) ≡ Err e
too_long ts at d e s t lt h over other = by_ahead t.ahead refl
  where
    by_ahead : (gs : List hb_glyph_info_t) → t.ahead ≡ gs → reading_of (tiles_copied ts) (state_of s) ≡ Err e
    by_ahead [] is = absurd (let none = ap (λ (ys : List hb_glyph_info_t). length ys) is in let c = h.count in omega (arith, none, c, lt))
    by_ahead (g ∷ gs) is =
        let o = over other in
        let n = copies_in (get_or ts at d) in
        let x = item_of g in
        let rest = with_tile_copies (strip gs) (drop (at + 1) ts) in
        let limit = limit_same (strip t.behind) (strip t.ahead) h.events (with_output s) t h.walked in
        let total : strip t.behind ++ (replicate (n + 1) x ++ rest) ≡ with_tile_copies (items_of s) ts =
        ap (λ us. strip t.behind ++ with_tile_copies (x ∷ strip gs) us) (sym (drop_more ts at d lt)) ∙ ap (λ r. strip t.behind ++ with_tile_copies r (drop at ts)) (sym (ap strip is)) ∙ h.items in
        let a = length-append (strip t.behind) (replicate (n + 1) x ++ rest) in
        let b = length-append (replicate (n + 1) x) rest in
        let c = length-replicate (n + 1) x in
        let k = length-map t.behind item_of in
        let many : length (strip t.behind ++ (replicate (n + 1) x ++ rest)) ≡ length (with_tile_copies (items_of s) ts) = ap (λ (ys : List Item). length ys) total in
        let past = o.1 in
        let over_limit : s.max_len < length (with_tile_copies (items_of s) ts) = omega (arith, limit, a, b, c, k, many, past) in
        let within : nat_le (length (with_tile_copies (items_of s) ts)) s.max_len ≡ false = grind (arith, nat_tests, over_limit) in
        rw within (ap Err (sym o.0))
