-- Texts on their way through an open output.
use Rattle.std.proofs.Common.{ℕ, ◌≡◌, ◌≤◌, ◌+◌, ◌==◌, true, List, [], ◌∷◌, ◌++◌, Ok, Err, length, take, drop, refl, sym, ap, subst, ◌∙◌, arith}
use Rattle.std.specs.Prelude.{bit_and, Result, IfErr, IsErrAnd}
use Rattle.std.proofs.lemmas.List.{append-nil, map-append, length-append, length-map, length-replicate, take-append-drop, take-map, drop-map}
use Rattle.std.proofs.Math.Seq.{take-append_seam, drop-append_seam}
use Rattle.buffer_glyphs.specs.declared.info.hb_glyph_info_t.{hb_glyph_info_t}
use Rattle.buffer_glyphs.specs.declared.level.BufferClusterLevel.{BufferClusterLevel}
use Rattle.buffer_glyphs.specs.Items.{Item, item_of, strip, zero_position}
use Rattle.buffer_glyphs.specs.Origins.{origin_of, origins, with_range_arranged, manner, origins_merged_as}
use Rattle.buffer_glyphs.specs.Levels.{InOutput}
use Rattle.buffer_glyphs.specs.Events.{Event, Merge, Move, origins_after}
use Rattle.buffer_core.specs.Readings.{View, Stage, Follows}
use Rattle.buffer_glyphs.specs.Lemmas.Origins.{origins_after_both}
use Rattle.buffer_core.specs.Sides.{Sides, Settings, all_glyphs, flag_requests_of, items_of, origins_of, origins_by, settings_of, view_of, state_of, with_output, after_sync, after_next_glyphs, zero_positions}
use Rattle.buffer_core.specs.Merging.{with_output_merged, output_merged_at}
use Rattle.buffer_stages.specs.Ready.{IsReady}
use Rattle.buffer_stages.specs.Stages.{IsFollowed}
use Rattle.buffer_stages.specs.Moves.{with_range_moved, order_of_move}
use Rattle.buffer_stages.specs.Walks.{HasWalked}
use Rattle.buffer_stages.specs.Lemmas.Moves.{arranged_moved, moved_front, moved_seen, order_long}
use Rattle.buffer_stages.specs.Lemmas.Rewritings.{by_settings}

pub nothing_walked : (s : Sides) → s.is_open ≡ true → HasWalked (strip s.behind) (strip s.ahead) [] s s
nothing_walked s opened = record { behind = refl; ahead = refl; happened = refl; view = refl; settings = refl; opened = opened; unrefused = refl }

-- one way, and then another
pub both_walked : (o r p q : List Item) (es fs : List Event) (a b c : Sides) → HasWalked o r es a b → HasWalked p q fs b c → HasWalked p q (es ++ fs) a c
both_walked o r p q es fs a b c h k = record {
  behind = k.behind;
  ahead = k.ahead;
  happened = k.happened ∙ by_settings fs a b h.settings ∙ ap (λ os. origins_after (flag_requests_of a) a.level fs os) h.happened ∙ sym (origins_after_both (flag_requests_of a) a.level es fs (origins_of a));
  view = k.view ∙ ap (λ (v : View). record v { items = items_of c }) h.view;
  settings = k.settings ∙ h.settings;
  opened = k.opened;
  unrefused = k.unrefused ∙ h.unrefused;
}

-- the cursor moved over one
pub one_walked : (s new : Sides) → new ≡ after_next_glyphs 1 s → s.is_open ≡ true → all_glyphs new ≡ all_glyphs s → HasWalked (strip s.behind ++ take 1 (strip s.ahead)) (drop 1 (strip s.ahead)) [] s new
one_walked s new e opened kept =
    let P : Sides → Type 0 = λ n. all_glyphs n ≡ all_glyphs s → HasWalked (strip s.behind ++ take 1 (strip s.ahead)) (drop 1 (strip s.ahead)) [] s n in
    subst P (sym e) (λ same. record {
      behind = map-append item_of s.behind (take 1 s.ahead) ∙ ap (λ xs. strip s.behind ++ xs) (sym (take-map item_of 1 s.ahead));
      ahead = sym (drop-map item_of 1 s.ahead);
      happened = ap origins same;
      view = refl;
      settings = refl;
      opened = opened;
      unrefused = refl;
    }) kept

-- both sides have as many glyphs as before, and the same items
pub sides_kept : (n : ℕ) (gs : List hb_glyph_info_t) (xs ys : List Item) → n ≡ length xs → strip gs ≡ xs ++ ys → (strip (take n gs) ≡ xs) × (strip (drop n gs) ≡ ys)
sides_kept n gs xs ys long e = (
  sym (take-map item_of n gs) ∙ ap (take n) e ∙ ap (λ k. take k (xs ++ ys)) long ∙ take-append_seam xs ys,
  sym (drop-map item_of n gs) ∙ ap (drop n) e ∙ ap (λ k. drop k (xs ++ ys)) long ∙ drop-append_seam xs ys,
)

-- a range of the output merged
pub merge_walked : (from to : ℕ) (s new : Sides) → new ≡ with_output_merged from to s → items_of new ≡ items_of s → origins_of new ≡ origins_by (Merge InOutput from to ∷ []) s → s.is_open ≡ true
    → HasWalked (strip s.behind) (strip s.ahead) (Merge InOutput from to ∷ []) s new
merge_walked from to s new e items from_where opened =
    let P : Sides → Type 0 = λ n. items_of n ≡ items_of s → origins_of n ≡ origins_by (Merge InOutput from to ∷ []) s → HasWalked (strip s.behind) (strip s.ahead) (Merge InOutput from to ∷ []) s n in
    let gs = output_merged_at s.level from to (all_glyphs s) in
    subst P (sym e) (λ same o.
    let whole : strip gs ≡ strip s.behind ++ strip s.ahead = ap strip (sym (take-append-drop (length s.behind) gs)) ∙ same ∙ map-append item_of s.behind s.ahead in
    let parts = sides_kept (length s.behind) gs (strip s.behind) (strip s.ahead) (sym (length-map s.behind item_of)) whole in
    record { behind = parts.0; ahead = parts.1; happened = o; view = refl; settings = refl; opened = opened; unrefused = refl }) items from_where

-- glyphs of the output that merged and then moved
pub move_walked : (start n k end : ℕ) (gs : List hb_glyph_info_t) (s mid new : Sides) → start + (n + k) ≡ end → end ≤ length s.behind → HasWalked (strip s.behind) (strip s.ahead) (Merge InOutput start end ∷ []) s mid
    → gs ≡ with_range_moved start n k mid.behind → new ≡ record mid { behind = gs }
    → HasWalked (with_range_moved start n k (strip s.behind)) (strip s.ahead) (Move InOutput start (order_of_move n k) ∷ []) s new
move_walked start n k end gs s mid new at le h e is =
    let P : Sides → Type 0 = λ t. HasWalked (with_range_moved start n k (strip s.behind)) (strip s.ahead) (Move InOutput start (order_of_move n k) ∷ []) s t in
    let order = order_of_move n k in
    let long : length mid.behind ≡ length s.behind = sym (length-map mid.behind item_of) ∙ ap (λ (xs : List Item). length xs) h.behind ∙ length-map s.behind item_of in
    let many = length-map mid.behind origin_of in
    let all = length-append (origins mid.behind) (origins mid.ahead) in
    let whole : origins_of mid ≡ origins mid.behind ++ origins mid.ahead = map-append origin_of mid.behind mid.ahead in
    let after : origins_of mid ≡ origins_merged_as (manner InOutput s.level) start (start + length order) (origins_of s) =
    h.happened ∙ ap (λ m. origins_merged_as (manner InOutput s.level) start m (origins_of s)) (sym at ∙ ap (λ m. start + m) (sym (order_long n k))) in
    let settled : HasWalked (with_range_moved start n k (strip s.behind)) (strip s.ahead) (Move InOutput start order ∷ []) s (record mid { behind = gs }) = record {
      behind = ap strip e ∙ moved_seen item_of start n k mid.behind ∙ ap (with_range_moved start n k) h.behind;
      ahead = h.ahead;
      happened =
          map-append origin_of gs mid.ahead ∙ ap (λ os. os ++ origins mid.ahead) (ap origins e ∙ moved_seen origin_of start n k mid.behind)
          ∙ sym (moved_front start n k (origins mid.behind) (origins mid.ahead) (omega (arith, at, le, long, many)))
          ∙ sym (arranged_moved start n k (origins mid.behind ++ origins mid.ahead) (omega (arith, at, le, long, many, all)))
          ∙ ap (with_range_arranged start order) (sym whole ∙ after);
      view = ap (λ (v : View). record v { items = strip (gs ++ mid.ahead) }) h.view;
      settings = h.settings;
      opened = h.opened;
      unrefused = h.unrefused;
    } in
    subst P (sym is) settled

-- a text that went through the output whole
pub walked_followed : (stage : Stage) (out : List Item) (es : List Event) (events : BufferClusterLevel → List Event) (s t new : Sides) → IsReady s → HasWalked out [] es (with_output s) t → new ≡ after_sync t
    → stage (view_of s) ≡ Ok (record { view = record (view_of s) { items = out; positions = zero_positions (length out) }; events = events }) → events s.level ≡ es → IsFollowed stage s new
walked_followed stage out es events s t new ready w is e f =
    let items : items_of t ≡ out = map-append item_of t.behind t.ahead ∙ ap (λ xs. strip t.behind ++ xs) w.ahead ∙ append-nil (strip t.behind) ∙ w.behind in
    let many : length (all_glyphs t) ≡ length out = sym (length-map (all_glyphs t) item_of) ∙ ap (λ (xs : List Item). length xs) items in
    let v : View = record (view_of s) { items = out; positions = zero_positions (length out) } in
    let view : view_of (after_sync t) ≡ v =
    ap (λ (w : View). record w { items = items_of t; positions = zero_positions (length (all_glyphs t)) }) w.view
    ∙ ap (λ xs. record (view_of s) { items = xs; positions = zero_positions (length (all_glyphs t)) }) items
    ∙ ap (λ n. record (view_of s) { items = out; positions = zero_positions n }) many in
    let whole : IsFollowed stage s (after_sync t) = record {
      follows = subst (λ q. Follows q (state_of s) (state_of (after_sync t))) (sym e)
          (ap (λ w. record { view = w; origins = origins_of t; level = t.level; asks = flag_requests_of t }) view
          ∙ ap (λ os. record { view = v; origins = os; level = t.level; asks = flag_requests_of t }) (w.happened ∙ ap (λ fs. origins_by fs s) (sym f))
          ∙ ap (λ (st : Settings). record { view = v; origins = origins_by (events s.level) s; level = st.level; asks = record { concat = bit_and st.flags.0 64 == 64; tatweel = bit_and st.flags.0 128 == 128; breaks = bit_and st.flags.0 256 == 256 } }) w.settings);
      settings = w.settings;
      ready = record { closed = refl; front = refl; unread = refl; placed = length-replicate (length (all_glyphs t)) zero_position; unrefused = w.unrefused ∙ ready.unrefused };
    } in
    subst (λ n. IsFollowed stage s n) (sym is) whole
