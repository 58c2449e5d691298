-- Circles that are inserted before the input.
use Rattle.std.proofs.Common.{ℕ, zero, suc, ◌≡◌, ◌≢◌, ◌≤◌, ◌<◌, ◌+◌, ◌*◌, ◌-◌, ◌==◌, ◌&&◌, Bool, true, false, nat_le, not, if◌then◌else◌, List, [], ◌∷◌, ◌++◌, length, map, take, drop, Option, Some, None, Ok, Err, slice_get, refl, sym, ap, subst, ◌∙◌, arith, append_assoc}
use Rattle.std.specs.List.{prefix_len}
use Rattle.std.proofs.lemmas.Bool.Decides.{nat_tests}
use Rattle.std.proofs.lemmas.Grind.{common_steps}
use Rattle.std.proofs.lemmas.List.{append-nil, map-append, length-map, length-append, length-drop, take-append-drop, take-map, drop-map, length-replicate, drop-drop, length-take-le}
use Rattle.std.proofs.lemmas.List.Sums.{prefix_len-le-length}
use Rattle.std.proofs.Math.Seq.{take-add}
use Rattle.buffer_glyphs.specs.declared.cause.ShapeCause.{ShapeCause}
use Rattle.buffer_glyphs.specs.declared.cause.ShapeCause.TheVariants.{OutOfMemory, TooLong}
use Rattle.buffer_glyphs.specs.declared.info.hb_glyph_info_t.{hb_glyph_info_t}
use Rattle.buffer_glyphs.specs.Items.{Item, item_of, strip, zero_position}
use Rattle.buffer_glyphs.specs.Origins.{origins}
use Rattle.buffer_glyphs.specs.Events.{Event, origins_after}
use Rattle.buffer_core.specs.Readings.{View, with_events}
use Rattle.buffer_core.specs.Sides.{Sides, all_glyphs, items_of, after_next_glyphs, origins_by, origins_of, settings_of, after_sync, view_of, with_output, zero_positions, fits_joined, has_room, flag_requests_of}
use Rattle.buffer_stages.specs.Ready.{IsReady}
use Rattle.buffer_stages.specs.Stages.{IsFollowed}
use Rattle.buffer_stages.specs.Lemmas.Written.{happened_followed}
use Rattle.script_syllabic.specs.declared.circles.CircleRule.{CircleRule}
use Rattle.script_syllabic.specs.Circles.{CircledItem, There, Inserted, Due, begins, circled_at_start, circle_event, circle_events, circle_item, circled_rest, circled_items, circles_put, is_repha, with_circles}
use Rattle.script_syllabic.specs.Rules.{IsCircled, IsTooLong}

-- ---- what the list becomes where a syllable begins

abbrev there : List Item → List CircledItem
there xs = map There xs

-- a circle that is due comes in once the rephas are over
due_passed : (r : CircleRule) (byte : ℕ) (xs : List Item) (n : ℕ) (c : Item)
    → circled_rest r xs byte (Some (record { rephas = n; circle = c })) ≡ there (take (prefix_len (is_repha r byte) xs) xs) ++ (Inserted (n + prefix_len (is_repha r byte) xs) c ∷ circled_rest r (drop (prefix_len (is_repha r byte) xs) xs) byte None)
due_passed r byte [] n c = let e : n + 0 ≡ n = omega arith in rw e refl
due_passed r byte (x ∷ xs) n c = by_test (is_repha r byte x) (due_passed r byte xs (suc n) c)
  where
    by_test : (t : Bool)
        → circled_rest r xs byte (Some (record { rephas = suc n; circle = c })) ≡ there (take (prefix_len (is_repha r byte) xs) xs) ++ (Inserted (suc n + prefix_len (is_repha r byte) xs) c ∷ circled_rest r (drop (prefix_len (is_repha r byte) xs) xs) byte None)
        → (if t then There x ∷ circled_rest r xs byte (Some (record { rephas = suc n; circle = c })) else Inserted n c ∷ circled_at_start r byte x (circled_rest r xs))
        ≡ there (take (if t then 1 + prefix_len (is_repha r byte) xs else 0) (x ∷ xs)) ++ (Inserted (n + (if t then 1 + prefix_len (is_repha r byte) xs else 0)) c ∷ circled_rest r (drop (if t then 1 + prefix_len (is_repha r byte) xs else 0) (x ∷ xs)) byte None)
    by_test true later =
        let k = prefix_len (is_repha r byte) xs in
        let a : suc n + k ≡ n + (1 + k) = omega arith in
        let b : 1 + k ≡ suc k = omega arith in
        ap (λ ys. There x ∷ ys) later ∙ ap (λ m. There x ∷ (there (take k xs) ++ (Inserted m c ∷ circled_rest r (drop k xs) byte None))) a
        ∙ ap (λ m. there (take m (x ∷ xs)) ++ (Inserted (n + (1 + k)) c ∷ circled_rest r (drop m (x ∷ xs)) byte None)) (sym b)
    by_test false later = let e : n + 0 ≡ n = omega arith in ap (λ m. Inserted m c ∷ circled_at_start r byte x (circled_rest r xs)) (sym e)

no_second : (r : CircleRule) (x : Item) (xs : List Item) → circled_rest r (x ∷ xs) x.syllable None ≡ There x ∷ circled_rest r xs x.syllable None
no_second r x xs = let e : (x.syllable == x.syllable) ≡ true = grind (arith, nat_tests, common_steps) in rw e refl

-- an item that begins a broken syllable: its rephas, the circle, and the rest
pub begun_passed : (r : CircleRule) (last : ℕ) (x : Item) (xs : List Item) → begins r last x ≡ true
    → circled_rest r (x ∷ xs) last None ≡ there (take (prefix_len (is_repha r x.syllable) (x ∷ xs)) (x ∷ xs)) ++ (Inserted (prefix_len (is_repha r x.syllable) (x ∷ xs)) (circle_item r x) ∷ circled_rest r (drop (prefix_len (is_repha r x.syllable) (x ∷ xs)) (x ∷ xs)) x.syllable None)
begun_passed r last x xs e =
    ap (λ b. if b then (if is_repha r x.syllable x then There x ∷ circled_rest r xs x.syllable (Some (record { rephas = 1; circle = circle_item r x })) else Inserted 0 (circle_item r x) ∷ There x ∷ circled_rest r xs x.syllable None) else There x ∷ circled_rest r xs last None) e
    ∙ by_test (is_repha r x.syllable x)
  where
    by_test : (t : Bool) → (if t then There x ∷ circled_rest r xs x.syllable (Some (record { rephas = 1; circle = circle_item r x })) else Inserted 0 (circle_item r x) ∷ There x ∷ circled_rest r xs x.syllable None)
        ≡ there (take (if t then 1 + prefix_len (is_repha r x.syllable) xs else 0) (x ∷ xs)) ++ (Inserted (if t then 1 + prefix_len (is_repha r x.syllable) xs else 0) (circle_item r x) ∷ circled_rest r (drop (if t then 1 + prefix_len (is_repha r x.syllable) xs else 0) (x ∷ xs)) x.syllable None)
    by_test true =
        let k = prefix_len (is_repha r x.syllable) xs in
        let b : 1 + k ≡ suc k = omega arith in
        ap (λ ys. There x ∷ ys) (due_passed r x.syllable xs 1 (circle_item r x))
        ∙ ap (λ m. there (take m (x ∷ xs)) ++ (Inserted (1 + k) (circle_item r x) ∷ circled_rest r (drop m (x ∷ xs)) x.syllable None)) (sym b)
    by_test false = ap (λ ys. Inserted 0 (circle_item r x) ∷ ys) (sym (no_second r x xs))

-- ---- items and events of such lists

items_there : (xs : List Item) (ys : List CircledItem) → circled_items (there xs ++ ys) ≡ xs ++ circled_items ys
items_there [] ys = refl
items_there (x ∷ xs) ys = ap (λ zs. x ∷ zs) (items_there xs ys)

events_there : (at : ℕ) (xs : List Item) (ys : List CircledItem) → circle_events at (there xs ++ ys) ≡ circle_events (at + length xs) ys
events_there at [] ys = let e : at + 0 ≡ at = omega arith in rw e refl
events_there at (x ∷ xs) ys = let e : at + 1 + length xs ≡ at + length (x ∷ xs) = omega arith in events_there (at + 1) xs ys ∙ ap (λ n. circle_events n ys) e

-- no item is deleted
pub at_least : (r : CircleRule) (xs : List Item) (last : ℕ) (d : Option Due) → length xs ≤ length (circled_items (circled_rest r xs last d))
at_least r [] last d = omega arith
at_least r (x ∷ xs) last None = at_least_begun r last x xs (circled_rest r xs) (at_least r xs)
  where
    at_least_begun : (q : CircleRule) (n : ℕ) (y : Item) (ys : List Item) (rest : ℕ → Option Due → List CircledItem) → ((m : ℕ) (e : Option Due) → length ys ≤ length (circled_items (rest m e))) → length (y ∷ ys) ≤ length (circled_items (circled_at_start q n y rest))
    at_least_begun q n y ys rest h = by_tests (begins q n y) (is_repha q y.syllable y)
      where
        by_tests : (s t : Bool) → length (y ∷ ys) ≤ length (circled_items (if s then (if t then There y ∷ rest y.syllable (Some (record { rephas = 1; circle = circle_item q y })) else Inserted 0 (circle_item q y) ∷ There y ∷ rest y.syllable None) else There y ∷ rest n None))
        by_tests true true = let le = h y.syllable (Some (record { rephas = 1; circle = circle_item q y })) in omega (arith, le)
        by_tests true false = let le = h y.syllable None in omega (arith, le)
        by_tests false t = let le = h n None in omega (arith, le)
at_least r (x ∷ xs) last (Some d) = by_test (is_repha r last x) (at_least r xs)
  where
    begun_least : ((m : ℕ) (e : Option Due) → length xs ≤ length (circled_items (circled_rest r xs m e))) → (s t : Bool)
        → length (x ∷ xs) ≤ length (circled_items (if s then (if t then There x ∷ circled_rest r xs x.syllable (Some (record { rephas = 1; circle = circle_item r x })) else Inserted 0 (circle_item r x) ∷ There x ∷ circled_rest r xs x.syllable None) else There x ∷ circled_rest r xs last None))
    begun_least h true true = let le = h x.syllable (Some (record { rephas = 1; circle = circle_item r x })) in omega (arith, le)
    begun_least h true false = let le = h x.syllable None in omega (arith, le)
    begun_least h false t = let le = h last None in omega (arith, le)

    by_test : (t : Bool) → ((m : ℕ) (e : Option Due) → length xs ≤ length (circled_items (circled_rest r xs m e)))
        → length (x ∷ xs) ≤ length (circled_items (if t then There x ∷ circled_rest r xs last (Some (record { rephas = suc d.rephas; circle = d.circle })) else Inserted d.rephas d.circle ∷ circled_at_start r last x (circled_rest r xs)))
    by_test true h = let le = h last (Some (record { rephas = suc d.rephas; circle = d.circle })) in omega (arith, le)
    by_test false h = let le = begun_least h (begins r last x) (is_repha r x.syllable x) in omega (arith, le)

-- ---- the walk

-- a buffer but for its glyphs, how many were read, and whether the output is apart
abbrev pub frame_of : Sides → Sides
frame_of s = record s { behind = []; ahead = []; is_apart = false; read = 0 }

-- circles were inserted before the input: the result for the rest is the result for the whole list
pub record IsUnderway (r : CircleRule) (last : ℕ) (old now : Sides) : Type 0 where
  pub opened : now.is_open ≡ true
  pub frame : frame_of now ≡ frame_of (with_output old)
  pub items : strip now.behind ++ circled_items (circled_rest r (strip now.ahead) last None) ≡ circled_items (with_circles r (items_of old))
  pub origins : origins_by (circle_events (length now.behind) (circled_rest r (strip now.ahead) last None)) now ≡ origins_by (circle_events 0 (with_circles r (items_of old))) old

pub underway : (r : CircleRule) (old : Sides) → IsUnderway r 0 old (with_output old)
underway r old = record { opened = refl; frame = refl; items = refl; origins = refl }

-- events depend on requests for flags and on the level, which a frame has
by_frame : (es : List Event) (a b : Sides) → frame_of b ≡ frame_of a → origins_by es b ≡ origins_after (flag_requests_of a) a.level es (origins_of b)
by_frame es a b e = ap (λ (s : Sides). origins_after (flag_requests_of s) s.level es (origins_of b)) e

whole_count : (r : CircleRule) (last : ℕ) (old now : Sides) → IsUnderway r last old now → length now.behind + length (circled_items (circled_rest r (strip now.ahead) last None)) ≡ length (circled_items (with_circles r (items_of old)))
whole_count r last old now u =
    let n = length-map now.behind item_of in
    let e = ap (λ (xs : List Item). length xs) u.items in
    omega (arith, n, e, length-append (strip now.behind) (circled_items (circled_rest r (strip now.ahead) last None)))

-- a list of so many glyphs is too long, so the whole is
pub refused_all : (r : CircleRule) (last n : ℕ) (old now : Sides) (e : ShapeCause) → IsUnderway r last old now → n ≤ length now.behind + length now.ahead → IsTooLong n now e
    → IsTooLong (length (circled_items (with_circles r (items_of old)))) old e
refused_all r last n old now e u le h = λ other.
    let w = whole_count r last old now u in
    let m = length-map now.ahead item_of in
    let a = at_least r (strip now.ahead) last None in
    let limit = ap (λ (s : Sides). s.max_len) u.frame in
    let why = h other in
    let more = why.1 in
    (why.0, omega (arith, w, m, a, limit, more, le))

-- the cursor moved over a glyph that begins no broken syllable
pub passed : (r : CircleRule) (last : ℕ) (g : hb_glyph_info_t) (old now next : Sides) → IsUnderway r last old now → slice_get now.ahead 0 ≡ Some g → begins r last (item_of g) ≡ false → next ≡ after_next_glyphs 1 now
    → IsUnderway r last old next
passed r last g old now next u at not_begun e = by_ahead now.ahead refl at
  where
    by_ahead : (gs : List hb_glyph_info_t) → now.ahead ≡ gs → slice_get gs 0 ≡ Some g → IsUnderway r last old next
    by_ahead [] a there = cc
    by_ahead (h ∷ hs) a there =
        let same : h ≡ g = cc in
        let x = item_of h in
        let xs = strip hs in
        let begin : begins r last x ≡ false = ap (λ k. begins r last (item_of k)) same ∙ not_begun in
        let ys = circled_rest r xs last None in
        let first : circled_rest r (strip now.ahead) last None ≡ There x ∷ ys = ap (λ (ks : List hb_glyph_info_t). circled_rest r (strip ks) last None) a
        ∙ ap (λ b. if b then (if is_repha r x.syllable x then There x ∷ circled_rest r xs x.syllable (Some (record { rephas = 1; circle = circle_item r x })) else Inserted 0 (circle_item r x) ∷ There x ∷ circled_rest r xs x.syllable None) else There x ∷ circled_rest r xs last None) begin in
        let behind : next.behind ≡ now.behind ++ (h ∷ []) = ap (λ (s : Sides). s.behind) e ∙ ap (λ ks. now.behind ++ take 1 ks) a in
        let ahead : next.ahead ≡ hs = ap (λ (s : Sides). s.ahead) e ∙ ap (λ ks. drop 1 ks) a in
        let all : all_glyphs next ≡ all_glyphs now = ap all_glyphs e ∙ append_assoc now.behind (take 1 now.ahead) (drop 1 now.ahead) ∙ ap (λ ks. now.behind ++ ks) (take-append-drop 1 now.ahead) in
        let count : length next.behind ≡ length now.behind + 1 = ap (λ (ks : List hb_glyph_info_t). length ks) behind ∙ length-append now.behind (h ∷ []) in
        let frame : frame_of next ≡ frame_of now = ap frame_of e in
        let rest : circled_rest r (strip next.ahead) last None ≡ ys = ap (λ (ks : List hb_glyph_info_t). circled_rest r (strip ks) last None) ahead in
        record {
          opened = ap (λ (s : Sides). s.is_open) frame ∙ u.opened;
          frame = frame ∙ u.frame;
          items = ap (λ zs. strip next.behind ++ circled_items zs) rest ∙ ap (λ ks. strip ks ++ circled_items ys) behind ∙ ap (λ zs. zs ++ circled_items ys) (map-append item_of now.behind (h ∷ [])) ∙ append_assoc (strip now.behind) (x ∷ []) (circled_items ys)
              ∙ ap (λ zs. strip now.behind ++ circled_items zs) (sym first) ∙ u.items;
          origins = ap (λ zs. origins_by (circle_events (length next.behind) zs) next) rest ∙ ap (λ n. origins_by (circle_events n ys) next) count
              ∙ by_frame (circle_events (length now.behind + 1) ys) now next frame ∙ ap (λ ks. origins_after (flag_requests_of now) now.level (circle_events (length now.behind + 1) ys) (origins ks)) all
              ∙ ap (λ zs. origins_by (circle_events (length now.behind) zs) now) (sym first) ∙ u.origins;
        }

-- a broken syllable began: the cursor moved over its rephas, and its circle came in
pub circle_put : (r : CircleRule) (last n : ℕ) (g : hb_glyph_info_t) (old now moved next : Sides) → IsUnderway r last old now → slice_get now.ahead 0 ≡ Some g → begins r last (item_of g) ≡ true
    → n ≡ prefix_len (is_repha r g.syllable) (strip now.ahead) → moved ≡ after_next_glyphs n now → n ≤ length now.ahead → IsCircled (circle_item r (item_of g)) n moved next → IsUnderway r g.syllable old next
circle_put r last n g old now moved next u at begun_is count_is e le c = by_ahead now.ahead refl at
  where
    by_ahead : (gs : List hb_glyph_info_t) → now.ahead ≡ gs → slice_get gs 0 ≡ Some g → IsUnderway r g.syllable old next
    by_ahead [] a there_is = cc
    by_ahead (h ∷ hs) a there_is =
        let same : h ≡ g = cc in
        let x = item_of g in
        let xs = strip now.ahead in
        let shape : xs ≡ x ∷ strip hs = ap strip a ∙ ap (λ k. item_of k ∷ strip hs) same in
        let ys = circled_rest r (drop n xs) x.syllable None in
        let first : circled_rest r xs last None ≡ there (take n xs) ++ (Inserted n (circle_item r x) ∷ ys) =
        subst (λ zs. prefix_len (is_repha r x.syllable) xs ≡ n → circled_rest r zs last None ≡ there (take (prefix_len (is_repha r x.syllable) zs) zs) ++ (Inserted (prefix_len (is_repha r x.syllable) zs) (circle_item r x) ∷ circled_rest r (drop (prefix_len (is_repha r x.syllable) zs) zs) x.syllable None)) (sym shape) (λ m. begun_passed r last x (strip hs) begun_is) (sym count_is)
        ∙ ap (λ m. there (take m xs) ++ (Inserted m (circle_item r x) ∷ circled_rest r (drop m xs) x.syllable None)) (sym count_is) in
        let behind : moved.behind ≡ now.behind ++ take n now.ahead = ap (λ (s : Sides). s.behind) e in
        let ahead : next.ahead ≡ drop n now.ahead = c.ahead ∙ ap (λ (s : Sides). s.ahead) e in
        let all : all_glyphs moved ≡ all_glyphs now = ap all_glyphs e ∙ append_assoc now.behind (take n now.ahead) (drop n now.ahead) ∙ ap (λ ks. now.behind ++ ks) (take-append-drop n now.ahead) in
        let size : length (take n now.ahead) ≡ n = length-take-le n now.ahead le in
        let at_circle : length moved.behind ≡ length now.behind + n = ap (λ (ks : List hb_glyph_info_t). length ks) behind ∙ length-append now.behind (take n now.ahead) ∙ ap (λ m. length now.behind + m) size in
        let strip_behind : strip moved.behind ≡ strip now.behind ++ take n xs = ap strip behind ∙ map-append item_of now.behind (take n now.ahead) ∙ ap (λ zs. strip now.behind ++ zs) (sym (take-map item_of n now.ahead)) in
        let count : length next.behind ≡ length moved.behind + 1 = sym (length-map next.behind item_of) ∙ ap (λ (zs : List Item). length zs) c.behind ∙ length-append (strip moved.behind) (circle_item r x ∷ []) ∙ ap (λ m. m + 1) (length-map moved.behind item_of) in
        let frame_moved : frame_of moved ≡ frame_of now = ap frame_of e in
        let frame : frame_of next ≡ frame_of moved = ap (λ (s : Sides). frame_of s) c.rest in
        let rest : circled_rest r (strip next.ahead) x.syllable None ≡ ys = ap (λ (ks : List hb_glyph_info_t). circled_rest r (strip ks) x.syllable None) ahead ∙ ap (λ zs. circled_rest r zs x.syllable None) (sym (drop-map item_of n now.ahead)) in
        let es = circle_events (length moved.behind + 1) ys in
        let events : circle_events (length now.behind) (circled_rest r xs last None) ≡ circle_event (length moved.behind) n ∷ es =
        ap (circle_events (length now.behind)) first ∙ events_there (length now.behind) (take n xs) (Inserted n (circle_item r x) ∷ ys)
        ∙ ap (λ m. circle_event m n ∷ circle_events (m + 1) ys) (ap (λ m. length now.behind + m) (ap (λ (zs : List Item). length zs) (take-map item_of n now.ahead) ∙ length-map (take n now.ahead) item_of ∙ size) ∙ sym at_circle) in
        record {
          opened = ap (λ (s : Sides). s.is_open) frame ∙ ap (λ (s : Sides). s.is_open) frame_moved ∙ u.opened;
          frame = frame ∙ frame_moved ∙ u.frame;
          items = ap (λ zs. strip next.behind ++ circled_items zs) rest ∙ ap (λ zs. zs ++ circled_items ys) (c.behind ∙ ap (λ zs. zs ++ circle_item r x ∷ []) strip_behind)
              ∙ four (strip now.behind) (take n xs) (circle_item r x) (circled_items ys)
              ∙ ap (λ zs. strip now.behind ++ zs) (sym (ap circled_items first ∙ items_there (take n xs) (Inserted n (circle_item r x) ∷ ys))) ∙ u.items;
          origins = ap (λ zs. origins_by (circle_events (length next.behind) zs) next) rest ∙ ap (λ m. origins_by (circle_events m ys) next) count
              ∙ by_frame es moved next frame ∙ ap (λ os. origins_after (flag_requests_of moved) moved.level es os) c.origins
              ∙ by_frame (circle_event (length moved.behind) n ∷ es) now moved frame_moved
              ∙ ap (λ ks. origins_after (flag_requests_of now) now.level (circle_event (length moved.behind) n ∷ es) (origins ks)) all
              ∙ ap (λ fs. origins_by fs now) (sym events) ∙ u.origins;
        }
      where
        four : (ws bs : List Item) (x : Item) (cs : List Item) → ((ws ++ bs) ++ x ∷ []) ++ cs ≡ ws ++ (bs ++ (x ∷ cs))
        four ws bs x cs = append_assoc (ws ++ bs) (x ∷ []) cs ∙ append_assoc ws bs (x ∷ cs)

-- ---- the end

no_more : (r : CircleRule) (last : ℕ) (old now : Sides) → IsUnderway r last old now → length now.ahead ≡ 0 → (items_of now ≡ circled_items (with_circles r (items_of old))) × (origins_of now ≡ origins_by (circle_events 0 (with_circles r (items_of old))) old)
no_more r last old now u none = by_ahead now.ahead refl none
  where
    by_ahead : (gs : List hb_glyph_info_t) → now.ahead ≡ gs → length gs ≡ 0 → (items_of now ≡ circled_items (with_circles r (items_of old))) × (origins_of now ≡ origins_by (circle_events 0 (with_circles r (items_of old))) old)
    by_ahead [] a n = (
      ap (λ ks. strip (now.behind ++ ks)) a ∙ map-append item_of now.behind [] ∙ ap (λ (ks : List hb_glyph_info_t). strip now.behind ++ circled_items (circled_rest r (strip ks) last None)) (sym a) ∙ u.items,
      ap (λ (ks : List hb_glyph_info_t). origins_by (circle_events (length now.behind) (circled_rest r (strip ks) last None)) now) (sym a) ∙ u.origins,
    )
    by_ahead (h ∷ hs) a n = absurd (omega (arith, n))

pub joined : (r : CircleRule) (last : ℕ) (old now new : Sides) → IsReady old → IsUnderway r last old now → length now.ahead ≡ 0 → fits_joined now ≡ true → new ≡ after_sync now
    → IsFollowed (λ v. circles_put (with_circles r v.items) v) old new
joined r last old now new ready u none fits e =
    let done = no_more r last old now u none in
    let ys = with_circles r (items_of old) in
    let count : length (all_glyphs now) ≡ length (circled_items ys) = sym (length-map (all_glyphs now) item_of) ∙ ap (λ (xs : List Item). length xs) done.0 in
    let limit = ap (λ (s : Sides). s.max_len) u.frame in
    let unrefused : now.has_refused ≡ false = ap (λ (s : Sides). s.has_refused) u.frame ∙ ready.unrefused in
    let room : has_room 0 now ≡ true = sym (ap (λ b. not b && has_room 0 now) unrefused) ∙ fits in
    let le : length (circled_items ys) ≤ old.max_len = omega (arith, count, limit, few (length (all_glyphs now)) now.max_len room) in
    let ok : nat_le (length (circled_items ys)) old.max_len ≡ true = grind (arith, nat_tests, le) in
    let v : View = record (view_of old) { items = circled_items ys; positions = zero_positions (length (circled_items ys)) } in
    happened_followed (circle_events 0 ys) v (λ w. circles_put (with_circles r w.items) w) old new
    (ap view_of e ∙ ap (λ (s : Sides). record (view_of s) { items = items_of now; positions = zero_positions (length (all_glyphs now)) }) u.frame
    ∙ ap (λ xs. record (view_of old) { items = xs; positions = zero_positions (length (all_glyphs now)) }) done.0 ∙ ap (λ n. record (view_of old) { items = circled_items ys; positions = zero_positions n }) count)
    (ap origins_of e ∙ done.1)
    (ap (λ (s : Sides). settings_of s) e ∙ ap (λ (s : Sides). settings_of s) u.frame)
    (subst IsReady (sym e) (record { closed = refl; front = refl; unread = refl; placed = length-replicate (length (all_glyphs now)) zero_position; unrefused = unrefused }))
    (ap (λ b. if b then Ok (with_events (circle_events 0 ys) v) else Err TooLong) ok)
  where
    few : (n m : ℕ) → nat_le (n + 0) m ≡ true → n ≤ m
    few n m t = grind (arith, nat_tests, common_steps, t)

-- joining both sides refuses where the whole is too long
pub unjoined : (r : CircleRule) (last : ℕ) (old now : Sides) → IsReady old → IsUnderway r last old now → length now.ahead ≡ 0 → fits_joined now ≡ false → old.max_len < length (circled_items (with_circles r (items_of old)))
unjoined r last old now ready u none fits =
    let done = no_more r last old now u none in
    let ys = with_circles r (items_of old) in
    let count : length (all_glyphs now) ≡ length (circled_items ys) = sym (length-map (all_glyphs now) item_of) ∙ ap (λ (xs : List Item). length xs) done.0 in
    let limit = ap (λ (s : Sides). s.max_len) u.frame in
    let unrefused : now.has_refused ≡ false = ap (λ (s : Sides). s.has_refused) u.frame ∙ ready.unrefused in
    let room : has_room 0 now ≡ false = sym (ap (λ b. not b && has_room 0 now) unrefused) ∙ fits in
    omega (arith, count, limit, many (length (all_glyphs now)) now.max_len room)
  where
    many : (n m : ℕ) → nat_le (n + 0) m ≡ false → m < n
    many n m t = grind (arith, nat_tests, common_steps, t)

-- what is too long is refused by the reading
pub too_long_refused : (r : CircleRule) (s : Sides) (e : ShapeCause) → IsTooLong (length (circled_items (with_circles r (items_of s)))) s e → e ≢ OutOfMemory → circles_put (with_circles r (items_of s)) (view_of s) ≡ Err e
too_long_refused r s e h other =
    let why = h other in
    let more = why.1 in
    let ys = with_circles r (items_of s) in
    let no : nat_le (length (circled_items ys)) s.max_len ≡ false = grind (arith, nat_tests, more) in
    ap (λ b. if b then Ok (with_events (circle_events 0 ys) (record (view_of s) { items = circled_items ys; positions = zero_positions (length (circled_items ys)) })) else Err TooLong) no ∙ ap (λ c. Err c) (sym why.0)

-- ---- how much is left to do

-- twice as many steps as glyphs, and one more where the next one gets a circle
abbrev pub left_to_do : CircleRule → ℕ → List Item → ℕ
left_to_do r last [] = 0
left_to_do r last (x ∷ xs) = 2 * length (x ∷ xs) + (if begins r last x then 1 else 0)

at_most : (r : CircleRule) (last : ℕ) (xs : List Item) → left_to_do r last xs ≤ 2 * length xs + 1
at_most r last [] = omega arith
at_most r last (x ∷ xs) = by_test (begins r last x)
  where
    by_test : (t : Bool) → 2 * length (x ∷ xs) + (if t then 1 else 0) ≤ 2 * length (x ∷ xs) + 1
    by_test true = omega arith
    by_test false = omega arith

-- fewer glyphs are less to do
fewer : (r : CircleRule) (last next : ℕ) (xs ys : List Item) → length ys < length xs → left_to_do r next ys < left_to_do r last xs
fewer r last next [] ys lt = absurd (omega (arith, lt))
fewer r last next (x ∷ xs) ys lt = let m = at_most r next ys in by_test (begins r last x) m
  where
    by_test : (t : Bool) → left_to_do r next ys ≤ 2 * length ys + 1 → left_to_do r next ys < 2 * length (x ∷ xs) + (if t then 1 else 0)
    by_test true m = omega (arith, m, lt)
    by_test false m = omega (arith, m, lt)

same_byte : (r : CircleRule) (x : Item) → begins r x.syllable x ≡ false
same_byte r x = let e : (x.syllable == x.syllable) ≡ true = grind (arith, nat_tests, common_steps) in rw e refl

pub less_circled : (r : CircleRule) (last n : ℕ) (g : hb_glyph_info_t) (now moved next : Sides) → slice_get now.ahead 0 ≡ Some g → begins r last (item_of g) ≡ true → moved ≡ after_next_glyphs n now → n ≤ length now.ahead → next.ahead ≡ moved.ahead
    → left_to_do r g.syllable (strip next.ahead) < left_to_do r last (strip now.ahead)
less_circled r last zero g now moved next at begun_is e le same = by_ahead now.ahead refl at
  where
    by_ahead : (gs : List hb_glyph_info_t) → now.ahead ≡ gs → slice_get gs 0 ≡ Some g → left_to_do r g.syllable (strip next.ahead) < left_to_do r last (strip now.ahead)
    by_ahead [] a there_is = cc
    by_ahead (h ∷ hs) a there_is =
        let first : h ≡ g = cc in
        let all : now.ahead ≡ g ∷ hs = a ∙ ap (λ k. k ∷ hs) first in
        let ahead : next.ahead ≡ g ∷ hs = same ∙ ap (λ (s : Sides). s.ahead) e ∙ all in
        let x = item_of g in
        let old : left_to_do r last (strip now.ahead) ≡ 2 * length (g ∷ hs) + 1 = ap (λ ks. left_to_do r last (strip ks)) all ∙ ap (λ (t : Bool). 2 * length (x ∷ strip hs) + (if t then 1 else 0)) begun_is ∙ ap (λ m. 2 * suc m + 1) (length-map hs item_of) in
        let new : left_to_do r g.syllable (strip next.ahead) ≡ 2 * length (g ∷ hs) + 0 = ap (λ ks. left_to_do r g.syllable (strip ks)) ahead ∙ ap (λ (t : Bool). 2 * length (x ∷ strip hs) + (if t then 1 else 0)) (same_byte r x) ∙ ap (λ m. 2 * suc m + 0) (length-map hs item_of) in
        omega (arith, old, new)
less_circled r last (suc n) g now moved next at begun_is e le same =
    let few : length (strip next.ahead) ≡ length now.ahead - suc n = length-map next.ahead item_of ∙ ap (λ (ks : List hb_glyph_info_t). length ks) (same ∙ ap (λ (s : Sides). s.ahead) e) ∙ length-drop (suc n) now.ahead in
    fewer r last g.syllable (strip now.ahead) (strip next.ahead) (omega (arith, few, le, length-map now.ahead item_of))

-- ---- rephas

-- so many rephas were passed, and those that follow make up the rest
pub record ArePassed (r : CircleRule) (byte n : ℕ) (old now : Sides) : Type 0 where
  pub moved : now ≡ after_next_glyphs n old
  pub more : n + prefix_len (is_repha r byte) (strip now.ahead) ≡ prefix_len (is_repha r byte) (strip old.ahead)
  pub opened : now.is_open ≡ true
  pub all : all_glyphs now ≡ all_glyphs old
  pub limit : now.max_len ≡ old.max_len
  pub left : length now.ahead + n ≡ length old.ahead

pub none_passed : (r : CircleRule) (byte : ℕ) (s : Sides) → s.is_open ≡ true → ArePassed r byte 0 s s
none_passed r byte s is_open = record { moved = sym (ap (λ xs. record s { behind = xs; read = s.read + 0 }) (append-nil s.behind) ∙ ap (λ n. record s { read = n }) (let e : s.read + 0 ≡ s.read = omega arith in e)); more = let e : 0 + prefix_len (is_repha r byte) (strip s.ahead) ≡ prefix_len (is_repha r byte) (strip s.ahead) = omega arith in e; opened = is_open; all = refl; limit = refl; left = let e : length s.ahead + 0 ≡ length s.ahead = omega arith in e }

moved_further : (n : ℕ) (s : Sides) → after_next_glyphs 1 (after_next_glyphs n s) ≡ after_next_glyphs (n + 1) s
moved_further n s =
    let behind : s.behind ++ take n s.ahead ++ take 1 (drop n s.ahead) ≡ s.behind ++ take (n + 1) s.ahead = append_assoc s.behind (take n s.ahead) (take 1 (drop n s.ahead)) ∙ ap (λ xs. s.behind ++ xs) (sym (take-add n 1 s.ahead)) in
    let ahead : drop 1 (drop n s.ahead) ≡ drop (n + 1) s.ahead = drop-drop 1 n s.ahead in
    let read : s.read + n + 1 ≡ s.read + (n + 1) = omega arith in
    rw (behind, ahead, read) refl

pub one_passed : (r : CircleRule) (byte n : ℕ) (g : hb_glyph_info_t) (old now next : Sides) → ArePassed r byte n old now → slice_get now.ahead 0 ≡ Some g → is_repha r byte (item_of g) ≡ true → next ≡ after_next_glyphs 1 now → ArePassed r byte (n + 1) old next
one_passed r byte n g old now next p at is_one e = record {
  moved = e ∙ ap (after_next_glyphs 1) p.moved ∙ moved_further n old;
  more = by_ahead now.ahead refl at;
  opened = ap (λ (s : Sides). s.is_open) e ∙ p.opened;
  all = ap all_glyphs e ∙ append_assoc now.behind (take 1 now.ahead) (drop 1 now.ahead) ∙ ap (λ ks. now.behind ++ ks) (take-append-drop 1 now.ahead) ∙ p.all;
  limit = ap (λ (s : Sides). s.max_len) e ∙ p.limit;
  left = one_less now.ahead (ap (λ (s : Sides). s.ahead) e) at p.left;
}
  where
    one_less : (gs : List hb_glyph_info_t) → next.ahead ≡ drop 1 gs → slice_get gs 0 ≡ Some g → length gs + n ≡ length old.ahead → length next.ahead + (n + 1) ≡ length old.ahead
    one_less [] f there_is q = cc
    one_less (h ∷ hs) f there_is q = let m : length next.ahead ≡ length hs = ap (λ (ks : List hb_glyph_info_t). length ks) f in omega (arith, m, q)

    by_ahead : (gs : List hb_glyph_info_t) → now.ahead ≡ gs → slice_get gs 0 ≡ Some g → n + 1 + prefix_len (is_repha r byte) (strip next.ahead) ≡ prefix_len (is_repha r byte) (strip old.ahead)
    by_ahead [] a there_is = cc
    by_ahead (h ∷ hs) a there_is =
        let first : h ≡ g = cc in
        let rest : next.ahead ≡ hs = ap (λ (s : Sides). s.ahead) e ∙ ap (λ ks. drop 1 ks) a in
        let yes_h : is_repha r byte (item_of h) ≡ true = ap (λ k. is_repha r byte (item_of k)) first ∙ is_one in
        let count : prefix_len (is_repha r byte) (strip now.ahead) ≡ 1 + prefix_len (is_repha r byte) (strip hs) = ap (λ ks. prefix_len (is_repha r byte) (strip ks)) a ∙ ap (λ (t : Bool). if t then 1 + prefix_len (is_repha r byte) (strip hs) else 0) yes_h in
        let more = p.more in
        ap (λ ks. n + 1 + prefix_len (is_repha r byte) (strip ks)) rest ∙ omega (arith, count, more)

-- none more follows
pub all_passed : (r : CircleRule) (byte n : ℕ) (old now : Sides) → ArePassed r byte n old now → prefix_len (is_repha r byte) (strip now.ahead) ≡ 0
    → (n ≡ prefix_len (is_repha r byte) (strip old.ahead)) × (now ≡ after_next_glyphs (prefix_len (is_repha r byte) (strip old.ahead)) old)
all_passed r byte n old now p none =
    let more = p.more in
    let e : n ≡ prefix_len (is_repha r byte) (strip old.ahead) = omega (arith, more, none) in
    (e, p.moved ∙ ap (λ m. after_next_glyphs m old) e)

pub other_ahead : (r : CircleRule) (byte : ℕ) (g : hb_glyph_info_t) (s : Sides) → slice_get s.ahead 0 ≡ Some g → is_repha r byte (item_of g) ≡ false → prefix_len (is_repha r byte) (strip s.ahead) ≡ 0
other_ahead r byte g s at is_none = by_ahead s.ahead at
  where
    by_ahead : (gs : List hb_glyph_info_t) → slice_get gs 0 ≡ Some g → prefix_len (is_repha r byte) (strip gs) ≡ 0
    by_ahead [] there_is = cc
    by_ahead (h ∷ hs) there_is =
        let first : h ≡ g = cc in
        let no_h : is_repha r byte (item_of h) ≡ false = ap (λ k. is_repha r byte (item_of k)) first ∙ is_none in
        ap (λ (t : Bool). if t then 1 + prefix_len (is_repha r byte) (strip hs) else 0) no_h

-- ---- refusals of the walk

abbrev IsRefused : CircleRule → Sides → ShapeCause → Type 0
IsRefused r s e = e ≢ OutOfMemory → circles_put (with_circles r (items_of s)) (view_of s) ≡ Err e

refused_at : (r : CircleRule) (last n : ℕ) (old now : Sides) (e : ShapeCause) → IsUnderway r last old now → n ≤ length now.behind + length now.ahead → IsTooLong n now e → IsRefused r old e
refused_at r last n old now e u le h = too_long_refused r old e (refused_all r last n old now e u le h)

-- a glyph that the output can't hold
pub glyph_refused : (r : CircleRule) (last : ℕ) (old now : Sides) (e : ShapeCause) → IsUnderway r last old now → 0 < length now.ahead → IsTooLong (length now.behind + 1) now e → IsRefused r old e
glyph_refused r last old now e u some h = refused_at r last (length now.behind + 1) old now e u (omega (arith, some)) h

-- rephas that the output can't hold
pub rephas_refused : (r : CircleRule) (last : ℕ) (old now : Sides) (e : ShapeCause) → IsUnderway r last old now → IsTooLong (length (all_glyphs now)) now e → IsRefused r old e
rephas_refused r last old now e u h = refused_at r last (length (all_glyphs now)) old now e u (omega (arith, length-append now.behind now.ahead)) h

-- a circle that the output can't hold
pub circle_refused : (r : CircleRule) (last n : ℕ) (g : hb_glyph_info_t) (old now moved : Sides) (e : ShapeCause) → IsUnderway r last old now → slice_get now.ahead 0 ≡ Some g → begins r last (item_of g) ≡ true
    → n ≡ prefix_len (is_repha r g.syllable) (strip now.ahead) → moved ≡ after_next_glyphs n now → n ≤ length now.ahead → IsTooLong (length moved.behind + 1) moved e → IsRefused r old e
circle_refused r last n g old now moved e u at begun_is count_is m le h = too_long_refused r old e (λ other. by_ahead now.ahead refl at (h other))
  where
    by_ahead : (gs : List hb_glyph_info_t) → now.ahead ≡ gs → slice_get gs 0 ≡ Some g → (e ≡ TooLong) × (moved.max_len < length moved.behind + 1) → (e ≡ TooLong) × (old.max_len < length (circled_items (with_circles r (items_of old))))
    by_ahead [] a there_is why = cc
    by_ahead (k ∷ ks) a there_is why =
        let same : k ≡ g = cc in
        let x = item_of g in
        let xs = strip now.ahead in
        let shape : xs ≡ x ∷ strip ks = ap strip a ∙ ap (λ j. item_of j ∷ strip ks) same in
        let ys = circled_rest r (drop n xs) x.syllable None in
        let first : circled_rest r xs last None ≡ there (take n xs) ++ (Inserted n (circle_item r x) ∷ ys) =
        subst (λ zs. prefix_len (is_repha r x.syllable) xs ≡ n → circled_rest r zs last None ≡ there (take (prefix_len (is_repha r x.syllable) zs) zs) ++ (Inserted (prefix_len (is_repha r x.syllable) zs) (circle_item r x) ∷ circled_rest r (drop (prefix_len (is_repha r x.syllable) zs) zs) x.syllable None)) (sym shape) (λ q. begun_passed r last x (strip ks) begun_is) (sym count_is)
        ∙ ap (λ q. there (take q xs) ++ (Inserted q (circle_item r x) ∷ circled_rest r (drop q xs) x.syllable None)) (sym count_is) in
        let items : circled_items (circled_rest r xs last None) ≡ take n xs ++ (circle_item r x ∷ circled_items ys) = ap circled_items first ∙ items_there (take n xs) (Inserted n (circle_item r x) ∷ ys) in
        let size : length (take n xs) ≡ n = length-take-le n xs (omega (arith, length-map now.ahead item_of, le)) in
        let whole = whole_count r last old now u in
        let many : length (circled_items (circled_rest r xs last None)) ≡ n + suc (length (circled_items ys)) = ap (λ (zs : List Item). length zs) items ∙ length-append (take n xs) (circle_item r x ∷ circled_items ys) ∙ ap (λ q. q + length (circle_item r x ∷ circled_items ys)) size in
        let at_circle : length moved.behind ≡ length now.behind + n = ap (λ (s : Sides). length s.behind) m ∙ length-append now.behind (take n now.ahead) ∙ ap (λ q. length now.behind + q) (length-take-le n now.ahead le) in
        let limit = ap (λ (s : Sides). s.max_len) u.frame in
        let limit_moved = ap (λ (s : Sides). s.max_len) m in
        let more = why.1 in
        (why.0, omega (arith, whole, many, at_circle, limit, limit_moved, more))

-- ---- what the calls of the walk require

pub rephas_within : (r : CircleRule) (byte n : ℕ) (s moved : Sides) → n ≡ prefix_len (is_repha r byte) (strip s.ahead) → moved ≡ after_next_glyphs n s → (n ≤ length s.ahead) × (n ≤ length moved.behind)
rephas_within r byte n s moved e m =
    let le : n ≤ length s.ahead = omega (arith, e, prefix_len-le-length (is_repha r byte) (strip s.ahead), length-map s.ahead item_of) in
    let count : length moved.behind ≡ length s.behind + n = ap (λ (t : Sides). length t.behind) m ∙ length-append s.behind (take n s.ahead) ∙ ap (λ q. length s.behind + q) (length-take-le n s.ahead le) in
    (le, omega (arith, count))

-- the first glyph of the syllable is where the rephas begin
pub first_stands : (n : ℕ) (g : hb_glyph_info_t) (s moved : Sides) → slice_get s.ahead 0 ≡ Some g → moved ≡ after_next_glyphs n s → n ≤ length s.ahead → slice_get (all_glyphs moved) (length moved.behind - n) ≡ Some g
first_stands n g s moved at m le =
    let all : all_glyphs moved ≡ all_glyphs s = ap all_glyphs m ∙ append_assoc s.behind (take n s.ahead) (drop n s.ahead) ∙ ap (λ ks. s.behind ++ ks) (take-append-drop n s.ahead) in
    let count : length moved.behind ≡ length s.behind + n = ap (λ (t : Sides). length t.behind) m ∙ length-append s.behind (take n s.ahead) ∙ ap (λ q. length s.behind + q) (length-take-le n s.ahead le) in
    let i : length moved.behind - n ≡ length s.behind = omega (arith, count) in
    ap (λ j. slice_get (all_glyphs moved) j) i ∙ ap (λ ks. slice_get ks (length s.behind)) all ∙ past s.behind
  where
    past : (bs : List hb_glyph_info_t) → slice_get (bs ++ s.ahead) (length bs) ≡ Some g
    past [] = at
    past (b ∷ bs) = past bs
