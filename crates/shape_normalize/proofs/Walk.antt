-- The walk from starter to starter.
use Rattle.std.proofs.Common.{ℕ, ◌≡◌, ◌≢◌, ◌≤◌, ◌<◌, ◌+◌, ◌==◌, ◌-◌, ◌&&◌, Ok, Err, nat_lt, Bool, true, false, List, [], ◌∷◌, ◌++◌, length, map, take, drop, refl, sym, ap, ap₂, ◌∙◌, append_assoc, arith}
use Rattle.std.specs.Prelude.{slice_get, slice_set, option_map, Option, Some, None, if◌then◌else◌, Result, IfOk}
use Rattle.std.specs.Option.{option_map_or, option_and_then}
use Rattle.std.proofs.lemmas.Option.{slice_get-map}
use Rattle.std.proofs.lemmas.Bool.{cond-true, cond-false}
use Rattle.std.proofs.lemmas.List.{append-nil, map-append, length-map, length-append, take-map, drop-map, take_at}
use Rattle.std.proofs.Math.Seq.{drop-append_seam}
use Rattle.buffer_glyphs.specs.declared.info.hb_glyph_info_t.{hb_glyph_info_t}
use Rattle.buffer_glyphs.specs.Items.{Item, item_of, strip}
use Rattle.buffer_glyphs.specs.Origins.{origins}
use Rattle.buffer_glyphs.specs.Events.{Event, origins_after}
use Rattle.buffer_glyphs.specs.Lemmas.Origins.{origins_after_both}
use Rattle.buffer_core.specs.Sides.{Sides, all_glyphs, flag_requests_of, items_of, origins_of, origins_by, after_next_glyphs}
use Rattle.buffer_glyphs.specs.Rewriting.{Arrangement, eventless_arrangement, shifted_event}
use Rattle.buffer_properties.specs.Characters.{is_mark, mark_class}
use Rattle.buffer_properties.specs.Composing.{becoming, composite, composition_from, composed_list, with_composition, is_not_blocked, last_class}
use Rattle.buffer_properties.specs.Normalizer.{Normalizer}
use Rattle.buffer_stages.specs.Appending.{AppendsArrangement, frame_of}
use Rattle.shape_normalize.specs.Composed.{composition_events, HasRoom}
use Rattle.shape_normalize.specs.Starters.{IsAt, IsUncomposed, Joins, Composes}
use Rattle.shape_normalize.proofs.Room.{room_kept}
use Rattle.shape_normalize.proofs.Compositions.{room_passed, room_walked}
use Rattle.buffer_lists.specs.Lemmas.Picked.{got_after as get_seam}
use Rattle.buffer_stages.specs.Lemmas.Shifts.{shift_none as all_shifted_none}

-- events, and then an arrangement
abbrev before : List Event → Arrangement → Arrangement
before es a = record { items = a.items; events = es ++ a.events }

before_both : (es fs : List Event) (a : Arrangement) → before es (before fs a) ≡ before (es ++ fs) a
before_both es fs a = ap (λ gs. record { items = a.items; events = gs }) (sym (append_assoc es fs a.events))

-- that many items were walked over since an index before which no mark is composed; the last starter is there, and the
-- whole list becomes `goal`
pub record IsComposing (c : Normalizer) (goal : Arrangement) (count at n : ℕ) (start now : Sides) : Type 0 where
  pub done : List Item
  pub x : Item
  pub between : List Item
  pub ys : List Item
  pub es : List Event
  pub behind : strip now.behind ≡ done ++ x ∷ between
  pub ahead : strip now.ahead ≡ ys
  pub starts : length done ≡ n
  pub left : length ys + at ≡ count
  pub happened : origins_of now ≡ origins_by es start
  pub frame : frame_of now ≡ frame_of start
  pub room : HasRoom now
  pub whole : goal ≡ before es (composition_from c done x between ys)

items_passed : (s p : Sides) → s.behind ≡ [] → all_glyphs p ≡ all_glyphs s → items_of p ≡ strip s.ahead
items_passed s p front kept = ap strip kept ∙ ap (λ hs. strip (hs ++ s.ahead)) front

pub composing_begun : (c : Normalizer) (at n count : ℕ) (s p : Sides) → HasRoom s → s.behind ≡ [] → count ≡ length s.ahead → at < count → IsUncomposed c at n (strip s.ahead) → p ≡ after_next_glyphs at s → all_glyphs p ≡ all_glyphs s
    → IsComposing c (composed_list c (items_of p)) count at n p p
composing_begun c at n count s p room front len lt w next kept =
    let ends = w.ends in
    let met : length (w.done ++ w.x ∷ w.between) ≡ at = let sides = length-append w.done (w.x ∷ w.between) in omega (arith, sides, ends) in
    let seam : strip s.ahead ≡ (w.done ++ w.x ∷ w.between) ++ w.ys = w.pieces ∙ sym (append_assoc w.done (w.x ∷ w.between) w.ys) in
    record {
      done = w.done;
      x = w.x;
      between = w.between;
      ys = w.ys;
      es = [];
      behind = ap (λ (t : Sides). strip t.behind) next ∙ ap (λ hs. strip (hs ++ take at s.ahead)) front ∙ sym (take-map item_of at s.ahead) ∙ ap (take at) seam ∙ take_at (w.done ++ w.x ∷ w.between) w.ys at met;
      ahead =
          ap (λ (t : Sides). strip t.ahead) next ∙ sym (drop-map item_of at s.ahead) ∙ ap (drop at) seam ∙ ap (λ k. drop k ((w.done ++ w.x ∷ w.between) ++ w.ys)) (sym met)
          ∙ drop-append_seam (w.done ++ w.x ∷ w.between) w.ys;
      starts = w.starts;
      left =
          let all = ap length seam in
          let sides = length-append (w.done ++ w.x ∷ w.between) w.ys in
          omega (arith, all, sides, met, len, length-map s.ahead item_of);
      happened = refl;
      frame = refl;
      room = room_walked at s p room next kept;
      whole = ap (composed_list c) (items_passed s p front kept) ∙ w.whole;
    }

pub composing_behind : (c : Normalizer) (goal : Arrangement) (count at n : ℕ) (start now : Sides) → IsComposing c goal count at n start now → n < length now.behind
composing_behind c goal count at n start now w =
    let seen = ap length w.behind in
    let starts = w.starts in
    omega (arith, seen, starts, length-map now.behind item_of, length-append w.done (w.x ∷ w.between))

pub set_seam : {X : Type 0} (xs : List X) (x : X) (ys : List X) (z : X) → slice_set (xs ++ x ∷ ys) (length xs) z ≡ xs ++ z ∷ ys
set_seam [] x ys z = refl
set_seam (w ∷ xs) x ys z = ap (λ zs. w ∷ zs) (set_seam xs x ys z)

-- events from a state with the same frame
pub by_frame : (fs : List Event) (es : List Event) (start now next : Sides) → frame_of now ≡ frame_of start → origins_of now ≡ origins_by es start → origins_of next ≡ origins_by fs now → origins_of next ≡ origins_by (es ++ fs) start
by_frame fs es start now next frame before after =
    after ∙ ap (λ q. origins_after q now.level fs (origins_of now)) (ap flag_requests_of frame) ∙ ap (λ l. origins_after (flag_requests_of start) l fs (origins_of now)) (ap (λ (t : Sides). t.level) frame)
    ∙ ap (origins_after (flag_requests_of start) start.level fs) before ∙ sym (origins_after_both (flag_requests_of start) start.level es fs (origins_of start))

both_sides : (a b : Sides) → length (strip a.behind) ≡ length (strip b.behind) → length (strip a.ahead) ≤ length (strip b.ahead) → length (all_glyphs a) ≤ length (all_glyphs b)
both_sides a b front back =
    let a1 = length-map a.behind item_of in
    let a2 = length-map a.ahead item_of in
    let b1 = length-map b.behind item_of in
    let b2 = length-map b.ahead item_of in
    let a3 = length-append a.behind a.ahead in
    let b3 = length-append b.behind b.ahead in
    omega (arith, front, back, a1, a2, b1, b2, a3, b3)

count_at : (done : List Item) (x : Item) (between : List Item) (s : Sides) → strip s.behind ≡ done ++ x ∷ between → length s.behind ≡ length done + 1 + length between
count_at done x between s e =
    let one = ap length e in
    let two = length-append done (x ∷ between) in
    let three = length-map s.behind item_of in
    omega (arith, one, two, three)

joined_from : (c : Normalizer) (done : List Item) (x z : Item) (between : List Item) (y : Item) (ys : List Item) (n : ℕ) → composite c x between y ≡ Some z → n ≡ length done + 1 + length between
    → composition_from c done x between (y ∷ ys) ≡ before (composition_events (length done) n) (composition_from c done z between ys)
joined_from c done x z between y ys n found count =
    ap (λ o. option_map_or (λ composed. with_composition (length done) (length done + 1 + length between) (composition_from c done composed between ys)) o
    (if mark_class y == 0 then composition_from c (done ++ x ∷ between) y [] ys else composition_from c done x (between ++ y ∷ []) ys)) found
    ∙ ap (λ k. with_composition (length done) k (composition_from c done z between ys)) (sym count)

pub passed_from : (c : Normalizer) (done : List Item) (x : Item) (between : List Item) (y : Item) (ys : List Item) → composite c x between y ≡ None
    → composition_from c done x between (y ∷ ys) ≡ (if mark_class y == 0 then composition_from c (done ++ x ∷ between) y [] ys else composition_from c done x (between ++ y ∷ []) ys)
passed_from c done x between y ys none =
    ap (λ o. option_map_or (λ composed. with_composition (length done) (length done + 1 + length between) (composition_from c done composed between ys)) o
    (if mark_class y == 0 then composition_from c (done ++ x ∷ between) y [] ys else composition_from c done x (between ++ y ∷ []) ys)) none

pub composing_more : (c : Normalizer) (goal : Arrangement) (count at n m : ℕ) (start now next : Sides) → at < count → IsComposing c goal count at n start now → Composes c n m now next → IsComposing c goal count (at + 1) m start next
composing_more c goal count at n m start now next lt w goes = by_case w.ys refl
  where
    by_case : (zs : List Item) → w.ys ≡ zs → IsComposing c goal count (at + 1) m start next
    by_case [] e = absurd (let none = ap length e in let left = w.left in omega (arith, none, left, lt))
    by_case (y ∷ ys) e =
        by_found y ys e (composite c w.x w.between y) refl
        (goes w.done w.x w.between y ys (record { behind = w.behind; starts = w.starts; ahead = w.ahead ∙ e }))
      where
        by_found : (y : Item) (ys : List Item) → w.ys ≡ y ∷ ys → (o : Option Item) → composite c w.x w.between y ≡ o → Joins o n m y now next → IsComposing c goal count (at + 1) m start next
        by_found y ys e (Some z) found goes =
            let is = goes.1 in
            let there = count_at w.done w.x w.between now w.behind in
            let back : strip next.behind ≡ w.done ++ z ∷ w.between =
            is.behind ∙ ap (λ xs. slice_set xs n z) w.behind ∙ ap (λ k. slice_set (w.done ++ w.x ∷ w.between) k z) (sym w.starts) ∙ set_seam w.done w.x w.between z in
            let rest : strip next.ahead ≡ ys = is.ahead ∙ ap (drop 1) (w.ahead ∙ e) in
            let fs = composition_events (length w.done) (length now.behind) in
            record {
              done = w.done;
              x = z;
              between = w.between;
              ys = ys;
              es = w.es ++ fs;
              behind = back;
              ahead = rest;
              starts = w.starts ∙ sym goes.0;
              left = let left = w.left in let some = ap length e in omega (arith, left, some);
              happened = by_frame fs w.es start now next w.frame w.happened (is.happened ∙ ap (λ k. origins_by (composition_events k (length now.behind)) now) (sym w.starts));
              frame = is.frame ∙ w.frame;
              room =
                  let one = ap length back in
                  let two = ap length w.behind in
                  let three = length-append w.done (z ∷ w.between) in
                  let four = length-append w.done (w.x ∷ w.between) in
                  let five = ap length rest in
                  let six = ap length (w.ahead ∙ e) in
                  room_kept now next is.frame (both_sides next now (omega (arith, one, two, three, four)) (omega (arith, five, six))) w.room;
              whole =
                  w.whole ∙ ap (λ zs. before w.es (composition_from c w.done w.x w.between zs)) e
                  ∙ ap (before w.es) (joined_from c w.done w.x z w.between y ys (length now.behind) found there)
                  ∙ before_both w.es fs (composition_from c w.done z w.between ys);
            }
        by_found y ys e None found goes = by_class (mark_class y == 0) refl
          where
            next_behind : strip next.behind ≡ (w.done ++ w.x ∷ w.between) ++ y ∷ []
            next_behind =
                ap (λ (t : Sides). strip t.behind) goes.moved ∙ map-append item_of now.behind (take 1 now.ahead)
                ∙ ap₂ (λ xs zs. xs ++ zs) w.behind (sym (take-map item_of 1 now.ahead) ∙ ap (take 1) (w.ahead ∙ e))

            next_ahead : strip next.ahead ≡ ys
            next_ahead = ap (λ (t : Sides). strip t.ahead) goes.moved ∙ sym (drop-map item_of 1 now.ahead) ∙ ap (drop 1) (w.ahead ∙ e)

            less : length ys + (at + 1) ≡ count
            less = let left = w.left in let some = ap length e in omega (arith, left, some)

            stays : origins_of next ≡ origins_by w.es start
            stays = ap origins goes.kept ∙ w.happened

            holds : frame_of next ≡ frame_of start
            holds = ap frame_of goes.moved ∙ w.frame

            by_class : (t : Bool) → (mark_class y == 0) ≡ t → IsComposing c goal count (at + 1) m start next
            by_class true t = record {
              done = w.done ++ w.x ∷ w.between;
              x = y;
              between = [];
              ys = ys;
              es = w.es;
              behind = next_behind;
              ahead = next_ahead;
              starts =
                  let there = count_at w.done w.x w.between now w.behind in
                  let all = length-append w.done (w.x ∷ w.between) in
                  let is = goes.starter ∙ cond-true _ _ _ t in
                  omega (arith, there, all, is);
              left = less;
              happened = stays;
              frame = holds;
              room = room_passed now next w.room goes.moved goes.kept;
              whole =
                  w.whole ∙ ap (λ zs. before w.es (composition_from c w.done w.x w.between zs)) e
                  ∙ ap (before w.es) (passed_from c w.done w.x w.between y ys found ∙ cond-true _ _ _ t);
            }
            by_class false t = record {
              done = w.done;
              x = w.x;
              between = w.between ++ y ∷ [];
              ys = ys;
              es = w.es;
              behind = next_behind ∙ append_assoc w.done (w.x ∷ w.between) (y ∷ []);
              ahead = next_ahead;
              starts = w.starts ∙ sym (goes.starter ∙ cond-false _ _ _ t);
              left = less;
              happened = stays;
              frame = holds;
              room = room_passed now next w.room goes.moved goes.kept;
              whole =
                  w.whole ∙ ap (λ zs. before w.es (composition_from c w.done w.x w.between zs)) e
                  ∙ ap (before w.es) (passed_from c w.done w.x w.between y ys found ∙ cond-false _ _ _ t);
            }

pub composing_done : (c : Normalizer) (count at from n : ℕ) (s p now : Sides) → count ≤ at → s.behind ≡ [] → p ≡ after_next_glyphs from s → all_glyphs p ≡ all_glyphs s → IsComposing c (composed_list c (items_of p)) count at n p now
    → AppendsArrangement (composed_list c (strip s.ahead)) [] s now
composing_done c count at from n s p now le front next same w = by_case w.ys refl
  where
    by_case : (zs : List Item) → w.ys ≡ zs → AppendsArrangement (composed_list c (strip s.ahead)) [] s now
    by_case (y ∷ ys) f = absurd (let more = ap length f in let left = w.left in omega (arith, more, left, le))
    by_case [] f =
        let is : composed_list c (strip s.ahead) ≡ before w.es (eventless_arrangement (w.done ++ w.x ∷ w.between)) = ap (composed_list c) (sym (items_passed s p front same)) ∙ w.whole ∙ ap (λ zs. before w.es (composition_from c w.done w.x w.between zs)) f in
        let frame : frame_of p ≡ frame_of s = ap frame_of next in
        record {
          behind = w.behind ∙ ap (λ (a : Arrangement). a.items) (sym is) ∙ ap (λ hs. strip hs ++ (composed_list c (strip s.ahead)).items) (sym front);
          ahead = w.ahead ∙ f;
          happened =
              let events : (composed_list c (strip s.ahead)).events ≡ w.es = ap (λ (a : Arrangement). a.events) is ∙ append-nil w.es in
              w.happened ∙ ap (λ (t : Sides). origins_after (flag_requests_of t) t.level w.es (origins_of p)) frame ∙ ap (λ hs. origins_after (flag_requests_of s) s.level w.es (origins hs)) same
              ∙ ap (λ fs. origins_by fs s) (sym events ∙ sym (all_shifted_none (composed_list c (strip s.ahead)).events))
              ∙ ap (λ k. origins_by (map (shifted_event k) (composed_list c (strip s.ahead)).events) s) (ap length (sym front));
          frame = w.frame ∙ frame;
        }

-- ---- what a mark reaches

pub starter_there : (n : ℕ) (done : List Item) (x : Item) (between : List Item) (y : Item) (ys : List Item) (s : Sides) → IsAt n done x between y ys s → slice_get (strip s.behind) n ≡ Some x
starter_there n done x between y ys s at = ap (λ xs. slice_get xs n) at.behind ∙ ap (slice_get (done ++ x ∷ between)) (sym at.starts) ∙ get_seam done x between

pub starter_item : (n : ℕ) (done : List Item) (x : Item) (between : List Item) (y : Item) (ys : List Item) (g : hb_glyph_info_t) (s : Sides) → IsAt n done x between y ys s → slice_get s.behind n ≡ Some g → item_of g ≡ x
starter_item n done x between y ys g s at there =
    let both : Some (item_of g) ≡ Some x = sym (slice_get-map item_of s.behind n ∙ ap (option_map item_of) there) ∙ starter_there n done x between y ys s at in
    cc

pub current_item : (n : ℕ) (done : List Item) (x : Item) (between : List Item) (y : Item) (ys : List Item) (g : hb_glyph_info_t) (s : Sides) → IsAt n done x between y ys s → slice_get s.ahead 0 ≡ Some g → item_of g ≡ y
current_item n done x between y ys g s at there =
    let both : Some (item_of g) ≡ Some y = sym (slice_get-map item_of s.ahead 0 ∙ ap (option_map item_of) there) ∙ ap (λ xs. slice_get xs 0) at.ahead in
    cc

last_at : (xs : List Item) (z : Item) (zs : List Item) (w : Item) → slice_get (xs ++ z ∷ zs) (length xs + length zs) ≡ Some w → last_class (mark_class z) zs ≡ mark_class w
last_at xs z [] w e =
    let both : Some z ≡ Some w = sym (get_seam xs z []) ∙ ap (slice_get (xs ++ z ∷ [])) (none_more (length xs)) ∙ e in
    let same : z ≡ w = cc in
    ap mark_class same
  where
    none_more : (n : ℕ) → n ≡ n + 0
    none_more n = omega arith
last_at xs z (v ∷ zs) w e =
    last_at (xs ++ z ∷ []) v zs w
    (ap₂ slice_get (append_assoc xs (z ∷ []) (v ∷ zs)) (let one = length-append xs (z ∷ []) in omega (arith, one)) ∙ e)

pub reaches_past : (n : ℕ) (done : List Item) (x : Item) (between : List Item) (y : Item) (ys : List Item) (g h : hb_glyph_info_t) (s : Sides) → IsAt n done x between y ys s → length s.behind ≢ n + 1
    → slice_get s.behind (length s.behind - 1) ≡ Some g → slice_get s.ahead 0 ≡ Some h → is_not_blocked between y ≡ nat_lt (mark_class (item_of g)) (mark_class (item_of h))
reaches_past n done x [] y ys g h s at some last next =
    let there = count_at done x [] s at.behind in
    let starts = at.starts in
    absurd (some (omega (arith, there, starts)))
reaches_past n done x (z ∷ zs) y ys g h s at some last next =
    let there = count_at done x (z ∷ zs) s at.behind in
    let sides = length-append done (x ∷ []) in
    let index : length (done ++ x ∷ []) + length zs ≡ length s.behind - 1 = omega (arith, there, sides) in
    let seen : slice_get ((done ++ x ∷ []) ++ z ∷ zs) (length (done ++ x ∷ []) + length zs) ≡ Some (item_of g) =
    ap₂ slice_get (append_assoc done (x ∷ []) (z ∷ zs) ∙ sym at.behind) index ∙ (slice_get-map item_of s.behind (length s.behind - 1) ∙ ap (option_map item_of) last) in
    ap₂ nat_lt (last_at (done ++ x ∷ []) z zs (item_of g) seen) (ap mark_class (sym (current_item n done x (z ∷ zs) y ys h s at next)))

-- ---- what becomes of a mark and a starter

pub no_mark : (c : Normalizer) (x : Item) (between : List Item) (y : Item) → is_mark y ≡ false → composite c x between y ≡ None
unfolding composite
no_mark c x between y e = cond-false _ _ _ (ap (λ t. t && is_not_blocked between y) e)

pub out_of_reach : (c : Normalizer) (x : Item) (between : List Item) (y : Item) → is_mark y ≡ true → is_not_blocked between y ≡ false → composite c x between y ≡ None
unfolding composite
out_of_reach c x between y m e = cond-false _ _ _ (ap₂ (λ t u. t && u) m e)

pub in_reach : (c : Normalizer) (x : Item) (between : List Item) (y : Item) → is_mark y ≡ true → is_not_blocked between y ≡ true → composite c x between y ≡ option_and_then (becoming c x) (c.composes x.number y.number)
unfolding composite
in_reach c x between y m e = cond-true _ _ _ (ap₂ (λ t u. t && u) m e)

pub if_ok : {A E : Type 0} (P Q : A → Type 0) (r : Result A E) → ((a : A) → P a → Q a) → IfOk r P → IfOk r Q
if_ok P Q (Ok a) f h = f a h
if_ok P Q (Err e) f h = tt
