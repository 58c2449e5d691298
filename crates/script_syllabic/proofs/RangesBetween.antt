-- A run between two ranges that are unchanged is reordered.
use Rattle.std.proofs.Common.{ℕ, suc, ◌≡◌, ◌≤◌, ◌+◌, ◌-◌, Bool, List, [], ◌∷◌, ◌++◌, length, map, take, drop, sym, ap, ◌∙◌, arith, append_assoc, false}
use Rattle.std.specs.Prelude.{max, slice_range}
use Rattle.std.proofs.lemmas.List.{take-append-le, drop-append-le, take_all, append-nil}
use Rattle.buffer_glyphs.specs.Items.{Item}
use Rattle.buffer_glyphs.specs.Origins.{with_range_changed}
use Rattle.buffer_core.specs.Readings.{Read, BufferState, View, always}
use Rattle.buffer_core.specs.Sides.{Settings, Sides, origins_by, settings_of, view_of}
use Rattle.buffer_stages.specs.Ready.{IsReady}
use Rattle.buffer_stages.specs.Stages.{IsFollowed}
use Rattle.buffer_glyphs.specs.Rewriting.{Arrangement, shifted_event}
use Rattle.buffer_stages.specs.Appending.{frame_of}
use Rattle.buffer_stages.specs.Rearranged.{IsRearranged}
use Rattle.buffer_stages.specs.Moves.{with_range_moved}
use Rattle.buffer_stages.specs.Lemmas.Moves.{moved_front}

-- ---- after a front

take_past : {X : Type 0} (front ys : List X) (n : ℕ) → take (length front + n) (front ++ ys) ≡ front ++ take n ys
take_past [] ys n = let same : 0 + n ≡ n = omega arith in ap (λ m. take m ys) same
take_past (x ∷ front) ys n = let same : length (x ∷ front) + n ≡ suc (length front + n) = omega arith in ap (λ m. take m (x ∷ (front ++ ys))) same ∙ ap (λ zs. x ∷ zs) (take_past front ys n)

drop_past : {X : Type 0} (front ys : List X) (n : ℕ) → drop (length front + n) (front ++ ys) ≡ drop n ys
drop_past [] ys n = let same : 0 + n ≡ n = omega arith in ap (λ m. drop m ys) same
drop_past (x ∷ front) ys n = let same : length (x ∷ front) + n ≡ suc (length front + n) = omega arith in ap (λ m. drop m (x ∷ (front ++ ys))) same ∙ drop_past front ys n

drop_past_to : {X : Type 0} (front ys : List X) (m n : ℕ) → m ≡ length front + n → drop m (front ++ ys) ≡ drop n ys
drop_past_to front ys m n e = ap (λ k. drop k (front ++ ys)) e ∙ drop_past front ys n

moved_past : {X : Type 0} (front ys : List X) (start n k : ℕ) → with_range_moved (length front + start) n k (front ++ ys) ≡ front ++ with_range_moved start n k ys
moved_past {X = X} front ys start n k =
    rw (
      take_past front ys start,
      drop_past_to front ys (length front + start + n) (start + n) (omega arith),
      drop_past front ys start,
      drop_past_to front ys (length front + start + (n + k)) (start + (n + k)) (omega arith),
    )
    (sides front (take start ys) (take k (drop (start + n) ys) ++ take n (drop start ys)) (drop (start + (n + k)) ys))
  where
    sides : (a b c d : List X) → (a ++ b) ++ c ++ d ≡ a ++ (b ++ c ++ d)
    sides a b c d = simp append_assoc

pub moved_between : {X : Type 0} (front run rest : List X) (start n k : ℕ) → start + (n + k) ≤ length run → with_range_moved (length front + start) n k (front ++ (run ++ rest)) ≡ front ++ (with_range_moved start n k run ++ rest)
moved_between front run rest start n k le = moved_past front (run ++ rest) start n k ∙ ap (λ ys. front ++ ys) (moved_front start n k run rest le)

pub changed_between : (f : Item → Item) (front run rest : List Item) (n : ℕ) → n ≤ length run → with_range_changed f (length front + 0) (length front + n) (front ++ (run ++ rest)) ≡ front ++ (with_range_changed f 0 n run ++ rest)
changed_between f front run rest n le =
    let most : max (length front + 0) (length front + n) ≡ length front + n = omega arith in
    let all : max 0 n ≡ n = omega arith in
    let count : length front + n - (length front + 0) ≡ n = omega arith in
    let none : n - 0 ≡ n = omega arith in
    rw (most, all, count, none, take_past front (run ++ rest) 0, drop_past front (run ++ rest) 0, drop_past front (run ++ rest) n, take-append-le n run rest le, drop-append-le n run rest le)
    (sides front (map f (take n run)) (drop n run) rest)
  where
    sides : (a b c d : List Item) → (a ++ []) ++ b ++ (c ++ d) ≡ a ++ (([] ++ b ++ c) ++ d)
    sides a b c d = simp (append_assoc, append-nil)

pub run_seen : {X : Type 0} (front run rest : List X) (start end : ℕ) → length front ≡ start → start + length run ≡ end → slice_range (front ++ (run ++ rest)) start end ≡ run
run_seen front run rest start end a b =
    let n : end - start ≡ length run = omega (arith, b) in
    let at : start ≡ length front + 0 = omega (arith, a) in
    ap (λ m. take m (drop start (front ++ (run ++ rest)))) n ∙ ap (take (length run)) (drop_past_to front (run ++ rest) start 0 at) ∙ take-append-le (length run) run rest (omega arith) ∙ take_all (length run) run (omega arith)

-- ---- what stays of a buffer

abbrev framed : View → Settings → Bool → Bool → Sides
framed v st opened refused = record {
  behind = [];
  ahead = [];
  positions = v.positions;
  is_open = opened;
  is_apart = false;
  read = 0;
  has_refused = refused;
  max_len = v.max_len;
  max_ops = v.max_ops;
  lig_id = v.lig_id;
  level = st.level;
  direction = v.direction;
  script = st.script;
  language = st.language;
  pre_context = st.pre_context;
  post_context = st.post_context;
  invisible = st.invisible;
  not_found_variation_selector = st.not_found_variation_selector;
  not_found = st.not_found;
  scratch_flags = v.scratch_flags;
  flags = st.flags;
}

frame_stays : (xs : List Item) (a b : Sides) → view_of b ≡ record (view_of a) { items = xs } → settings_of b ≡ settings_of a → IsReady a → IsReady b → frame_of b ≡ frame_of a
frame_stays xs a b view settings ready after =
    ap (λ v. framed v (settings_of b) b.is_open b.has_refused) view
    ∙ ap (λ st. framed (view_of a) st b.is_open b.has_refused) settings
    ∙ ap (λ t. framed (view_of a) (settings_of a) t b.has_refused) (after.closed ∙ sym ready.closed)
    ∙ ap (λ t. framed (view_of a) (settings_of a) a.is_open t) (after.unrefused ∙ sym ready.unrefused)

-- a stage that puts a run in order rearranges it
pub stage_rearranges : (r : View → Read) (order : Arrangement) (front rest : List Item) (a b : Sides) → IsReady a → IsFollowed (always r) a b
    → (r (view_of a)).view ≡ record (view_of a) { items = front ++ (order.items ++ rest) } → (r (view_of a)).events a.level ≡ map (shifted_event (length front)) order.events → IsRearranged front order rest a b
stage_rearranges r order front rest a b ready f view events =
    let seen : view_of b ≡ record (view_of a) { items = front ++ (order.items ++ rest) } = ap (λ (run : BufferState). run.view) f.follows ∙ view in
    record {
      items = ap (λ (v : View). v.items) seen;
      happened = ap (λ (run : BufferState). run.origins) f.follows ∙ ap (λ es. origins_by es a) events;
      frame = frame_stays (front ++ (order.items ++ rest)) a b seen f.settings ready f.ready;
      ready = f.ready;
    }
