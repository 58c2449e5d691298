-- A mark that is composed with the last starter, in an open output.
use Rattle.std.proofs.Common.{zero, suc, ℕ, ◌≡◌, ◌≤◌, ◌<◌, ◌+◌, List, [], ◌∷◌, ◌++◌, length, map, take, drop, refl, sym, ap, ap₂, ◌∙◌, arith}
use Rattle.std.specs.Prelude.{slice_get, slice_set, option_map, Some}
use Rattle.std.proofs.lemmas.Option.{slice_get-map}
use Rattle.std.proofs.lemmas.List.{map-append, length-map, length-append, length-drop, take-map, drop-map, length-take-le}
use Rattle.std.proofs.Math.Seq.{take-append_seam, drop-append_seam}
use Rattle.buffer_glyphs.specs.declared.info.hb_glyph_info_t.{hb_glyph_info_t}
use Rattle.buffer_glyphs.specs.Items.{Item, item_of, strip}
use Rattle.buffer_glyphs.specs.Levels.{InOutput}
use Rattle.buffer_glyphs.specs.Origins.{origin_of, origins}
use Rattle.buffer_glyphs.specs.Events.{Merge, Replace, origins_after}
use Rattle.buffer_core.specs.Sides.{Sides, all_glyphs, flag_requests_of, items_of, origins_of, origins_by, after_next_glyphs}
use Rattle.buffer_core.specs.Merging.{with_output_merged, with_glyph_skipped}
use Rattle.buffer_core.proofs.HandedOn.{skipped_ahead, skipped_behind}
use Rattle.buffer_core.specs.Lending.{with_glyph_ahead}
use Rattle.buffer_core.specs.Moving.{after_move_to}
use Rattle.buffer_stages.specs.Appending.{frame_of}
use Rattle.shape_normalize.specs.Composed.{composition_events, HasRoom, IsComposed, IsWritten}
use Rattle.shape_normalize.proofs.Room.{room_kept}
use Rattle.buffer_facts.proofs.Lists.{length_set}

pub one_behind : (s a : Sides) → 0 < length s.ahead → a ≡ after_next_glyphs 1 s → length a.behind ≡ length s.behind + 1
one_behind s a some next = ap (λ (t : Sides). length t.behind) next ∙ length-append s.behind (take 1 s.ahead) ∙ ap (λ n. length s.behind + n) (length-take-le 1 s.ahead (omega (arith, some)))

merged_count : (s a b : Sides) → all_glyphs a ≡ all_glyphs s → items_of b ≡ items_of a → length (all_glyphs b) ≡ length (all_glyphs s)
merged_count s a b kept items = sym (length-map (all_glyphs b) item_of) ∙ ap length items ∙ length-map (all_glyphs a) item_of ∙ ap length kept

-- room for what comes next
pub room_walked : (n : ℕ) (s a : Sides) → HasRoom s → a ≡ after_next_glyphs n s → all_glyphs a ≡ all_glyphs s → HasRoom a
room_walked n s a room next kept = let same = ap length kept in room_kept s a (ap frame_of next) (omega (arith, same)) room

pub room_passed : (s a : Sides) → HasRoom s → a ≡ after_next_glyphs 1 s → all_glyphs a ≡ all_glyphs s → HasRoom a
room_passed s a = room_walked 1 s a

seen_all : (s a b : Sides) → all_glyphs a ≡ all_glyphs s → items_of b ≡ items_of a → strip (all_glyphs b) ≡ strip s.behind ++ strip s.ahead
seen_all s a b kept items = items ∙ ap strip kept ∙ map-append item_of s.behind s.ahead

pub mark_behind : (s a b d e : Sides) → all_glyphs a ≡ all_glyphs s → items_of b ≡ items_of a → d ≡ after_move_to (length s.behind) b → e ≡ with_glyph_skipped d → strip e.behind ≡ strip s.behind
mark_behind s a b d e kept items back gone =
    ap (λ (t : Sides). strip t.behind) gone ∙ skipped_behind d ∙ ap (λ (t : Sides). strip t.behind) back ∙ sym (take-map item_of (length s.behind) (all_glyphs b)) ∙ ap (take (length s.behind)) (seen_all s a b kept items)
    ∙ ap (λ n. take n (strip s.behind ++ strip s.ahead)) (sym (length-map s.behind item_of)) ∙ take-append_seam (strip s.behind) (strip s.ahead)

pub mark_ahead : (s a b d e : Sides) → all_glyphs a ≡ all_glyphs s → items_of b ≡ items_of a → d ≡ after_move_to (length s.behind) b → e ≡ with_glyph_skipped d → strip e.ahead ≡ drop 1 (strip s.ahead)
mark_ahead s a b d e kept items back gone =
    ap (λ (t : Sides). strip t.ahead) gone ∙ skipped_ahead d ∙ ap (λ (t : Sides). drop 1 (strip t.ahead)) back ∙ ap (drop 1)
    (sym (drop-map item_of (length s.behind) (all_glyphs b)) ∙ ap (drop (length s.behind)) (seen_all s a b kept items)
    ∙ ap (λ n. drop n (strip s.behind ++ strip s.ahead)) (sym (length-map s.behind item_of)) ∙ drop-append_seam (strip s.behind) (strip s.ahead))

pub set_seen : {X Y : Type 0} (f : X → Y) (xs : List X) (i : ℕ) (x : X) → map f (slice_set xs i x) ≡ slice_set (map f xs) i (f x)
set_seen f [] i x = refl
set_seen f (y ∷ xs) zero x = refl
set_seen f (y ∷ xs) (suc i) x = ap (λ ys. f y ∷ ys) (set_seen f xs i x)

pub set_same : {X : Type 0} (xs : List X) (i : ℕ) (x : X) → slice_get xs i ≡ Some x → slice_set xs i x ≡ xs
set_same [] i x at = refl
set_same (y ∷ xs) zero x at = let e : y ≡ x = cc in ap (λ z. z ∷ xs) (sym e)
set_same (y ∷ xs) (suc i) x at = ap (λ ys. y ∷ ys) (set_same xs i x at)

-- ---- a glyph of the output, written by way of the cursor

set_across : {X : Type 0} (xs ys : List X) (i : ℕ) (x : X) → i < length xs → take i (xs ++ ys) ++ slice_set (drop i (xs ++ ys)) 0 x ≡ slice_set xs i x ++ ys
set_across [] ys i x lt = absurd (omega (arith, lt))
set_across (z ∷ xs) ys zero x lt = refl
set_across (z ∷ xs) ys (suc i) x lt = ap (λ zs. z ∷ zs) (set_across xs ys i x (omega (arith, lt)))

written_all : (at : ℕ) (g : hb_glyph_info_t) (s a b : Sides) → at < length s.behind → a ≡ after_move_to at s → b ≡ with_glyph_ahead 0 g a → all_glyphs b ≡ slice_set s.behind at g ++ s.ahead
written_all at g s a b lt is set = ap all_glyphs set ∙ ap (λ (t : Sides). t.behind ++ slice_set t.ahead 0 g) is ∙ set_across s.behind s.ahead at g lt

written_count : (at : ℕ) (g : hb_glyph_info_t) (s a b : Sides) → at < length s.behind → a ≡ after_move_to at s → b ≡ with_glyph_ahead 0 g a → length (all_glyphs b) ≡ length s.behind + length s.ahead
written_count at g s a b lt is set = ap length (written_all at g s a b lt is set) ∙ length-append (slice_set s.behind at g) s.ahead ∙ ap (λ n. n + length s.ahead) (length_set s.behind at g)

pub back_within : (at : ℕ) (g : hb_glyph_info_t) (s a b : Sides) → at < length s.behind → a ≡ after_move_to at s → b ≡ with_glyph_ahead 0 g a → length s.behind ≤ length (all_glyphs b)
back_within at g s a b lt is set = let count = written_count at g s a b lt is set in omega (arith, count)

pub glyph_written : (at n : ℕ) (g : hb_glyph_info_t) (s a b d : Sides) → at < length s.behind → n ≡ length s.behind → a ≡ after_move_to at s → b ≡ with_glyph_ahead 0 g a → d ≡ after_move_to n b → IsWritten at g s d
glyph_written at n g s a b d lt count is set back =
    let all = written_all at g s a b lt is set in
    let len : n ≡ length (slice_set s.behind at g) = count ∙ sym (length_set s.behind at g) in
    record {
      behind = ap (λ (t : Sides). t.behind) back ∙ ap (take n) all ∙ ap (λ k. take k (slice_set s.behind at g ++ s.ahead)) len ∙ take-append_seam (slice_set s.behind at g) s.ahead;
      ahead = ap (λ (t : Sides). t.ahead) back ∙ ap (drop n) all ∙ ap (λ k. drop k (slice_set s.behind at g ++ s.ahead)) len ∙ drop-append_seam (slice_set s.behind at g) s.ahead;
      frame = ap frame_of back ∙ ap frame_of set ∙ ap frame_of is;
    }

-- ---- a mark and its starter

-- a mark that is gone, and the starter written
pub composed_is : (starter : ℕ) (g info : hb_glyph_info_t) (x y : Item) (old mid new : Sides) → strip mid.behind ≡ strip old.behind → strip mid.ahead ≡ drop 1 (strip old.ahead)
    → origins_of mid ≡ origins_by (composition_events starter (length old.behind)) old → frame_of mid ≡ frame_of old
    → slice_get mid.behind starter ≡ Some g → item_of info ≡ y → origin_of info ≡ origin_of g → IsWritten starter info mid new → IsComposed starter y old new
composed_is starter g info x y old mid new behind ahead happened frame at item same is = record {
  behind = ap strip is.behind ∙ set_seen item_of mid.behind starter info ∙ ap (slice_set (strip mid.behind) starter) item ∙ ap (λ xs. slice_set xs starter y) behind;
  ahead = ap strip is.ahead ∙ ahead;
  happened =
      let there : slice_get (origins mid.behind) starter ≡ Some (origin_of g) = slice_get-map origin_of mid.behind starter ∙ ap (option_map origin_of) at in
      let stays : origins (slice_set mid.behind starter info) ≡ origins mid.behind = set_seen origin_of mid.behind starter info ∙ ap (slice_set (origins mid.behind) starter) same ∙ set_same (origins mid.behind) starter (origin_of g) there in
      ap₂ (λ gs hs. origins (gs ++ hs)) is.behind is.ahead ∙ map-append origin_of (slice_set mid.behind starter info) mid.ahead ∙ ap (λ os. os ++ origins mid.ahead) stays ∙ sym (map-append origin_of mid.behind mid.ahead) ∙ happened;
  frame = is.frame ∙ frame;
}

pub item_same : (starter : ℕ) (g : hb_glyph_info_t) (x : Item) (old mid : Sides) → strip mid.behind ≡ strip old.behind → slice_get mid.behind starter ≡ Some g → slice_get (strip old.behind) starter ≡ Some x → item_of g ≡ x
item_same starter g x old mid behind at seen =
    let both : Some (item_of g) ≡ Some x = sym (slice_get-map item_of mid.behind starter ∙ ap (option_map item_of) at) ∙ ap (λ xs. slice_get xs starter) behind ∙ seen in
    cc
