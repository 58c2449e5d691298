-- Grapheme joiners that are shown, one after another.
use Rattle.std.proofs.Common.{ℕ, ◌≡◌, ◌≢◌, ◌≤◌, ◌<◌, ◌+◌, ◌-◌, ◌==◌, ◌&&◌, ◌||◌, nat_le, Bool, true, false, List, [], ◌∷◌, ◌++◌, length, refl, sym, ap, ap₂, ◌∙◌, append_assoc, arith}
use Rattle.std.specs.Prelude.{slice_get, slice_set, option_map, Some}
use Rattle.std.specs.List.{list_any}
use Rattle.std.proofs.lemmas.Bool.{cond-true, cond-false}
use Rattle.std.proofs.lemmas.Bool.Decides.{nat_tests}
use Rattle.std.proofs.lemmas.List.{length-map, length-append}
use Rattle.std.proofs.lemmas.Option.{slice_get-map}
use Rattle.buffer_glyphs.specs.declared.info.hb_glyph_info_t.{hb_glyph_info_t}
use Rattle.buffer_glyphs.specs.Items.{Item, item_of, strip}
use Rattle.buffer_glyphs.specs.Origins.{origin_of, origins}
use Rattle.buffer_core.specs.Sides.{Sides, all_glyphs, items_of}
use Rattle.buffer_core.specs.Lending.{with_glyph_ahead}
use Rattle.buffer_stages.specs.Ready.{IsReady}
use Rattle.buffer_properties.specs.Characters.{mark_class, visible_item}
use Rattle.buffer_properties.specs.Ordering.{joiner_between, joiners_shown, separates_nothing, with_joiners_shown}
use Rattle.buffer_stages.specs.Appending.{frame_of}
use Rattle.shape_normalize.specs.Runs.{HasItems, ShowsAt}
use Rattle.shape_normalize.proofs.Compositions.{set_seen, set_same}
use Rattle.shape_normalize.proofs.Walk.{set_seam}
use Rattle.buffer_lists.specs.Lemmas.Picked.{got_after as get_seam}
use Rattle.buffer_facts.proofs.Lists.{length_set}

all_ahead : (s : Sides) → IsReady s → all_glyphs s ≡ s.ahead
all_ahead s ready = ap (λ hs. hs ++ s.ahead) ready.front

seen_at : (i : ℕ) (front : List Item) (x : Item) (ys : List Item) (g : hb_glyph_info_t) (s : Sides) → IsReady s → items_of s ≡ front ++ x ∷ ys → length front ≡ i → slice_get s.ahead i ≡ Some g → item_of g ≡ x
seen_at i front x ys g s ready e len at =
    let ahead : strip s.ahead ≡ front ++ x ∷ ys = ap strip (sym (all_ahead s ready)) ∙ e in
    let both : Some (item_of g) ≡ Some x = sym (slice_get-map item_of s.ahead i ∙ ap (option_map item_of) at) ∙ ap₂ slice_get ahead (sym len) ∙ get_seam front x ys in
    cc

seen_next : (i : ℕ) (front : List Item) (x y : Item) (ys : List Item) (g : hb_glyph_info_t) (s : Sides) → IsReady s → items_of s ≡ front ++ (x ∷ y ∷ ys) → length front ≡ i → slice_get s.ahead (i + 1) ≡ Some g → item_of g ≡ y
seen_next i front x y ys g s ready e len at =
    seen_at (i + 1) (front ++ x ∷ []) y ys g s ready (e ∙ sym (append_assoc front (x ∷ []) (y ∷ ys))) (let all = length-append front (x ∷ []) in omega (arith, all, len)) at

stays : (xs : List Item) (s : Sides) → items_of s ≡ xs → IsReady s → HasItems xs s s
stays xs s e ready = record { items = e; origins = refl; frame = refl; ready = ready }

not_joined : (before x y : Item) → (x.number == 0x034F && separates_nothing before y) ≡ false → joiner_between before x y ≡ x
not_joined before x y e = cond-false _ _ _ e

-- what is no joiner stays
pub no_joiner : (k i n : ℕ) (g : hb_glyph_info_t) (s : Sides) → IsReady s → slice_get s.ahead i ≡ Some g → n ≡ mark_class (item_of g) → g.glyph_id ≢ 0x034F → ShowsAt k i n s s
no_joiner k i n g s ready at class other front before x y ys e len met =
    let same = seen_at i front x (y ∷ ys) g s ready e len at in
    let number = ap (λ (z : Item). z.number) same in
    let t : (x.number == 0x034F) ≡ false = grind (arith, nat_tests, number, other) in
    let is = not_joined before x y (ap (λ b. b && separates_nothing before y) t) in
    (class ∙ ap mark_class same, stays (front ++ (joiner_between before x y ∷ y ∷ ys)) s (e ∙ ap (λ z. front ++ (z ∷ y ∷ ys)) (sym is)) ready)

apart : (k m : ℕ) (before y : Item) → mark_class before ≡ k → m ≡ mark_class y → (m == 0 || nat_le k m) ≡ separates_nothing before y
apart k m before y met next = ap₂ (λ a b. b == 0 || nat_le a b) (sym met) next

-- a joiner that keeps two items apart stays
pub apart_stays : (k i n m : ℕ) (g h : hb_glyph_info_t) (s : Sides) → IsReady s → slice_get s.ahead i ≡ Some g → n ≡ mark_class (item_of g) → slice_get s.ahead (i + 1) ≡ Some h → m ≡ mark_class (item_of h)
    → (m == 0 || nat_le k m) ≡ false → ShowsAt k i n s s
apart_stays k i n m g h s ready at class there next off front before x y ys e len met =
    let same = seen_at i front x (y ∷ ys) g s ready e len at in
    let behind = next ∙ ap mark_class (seen_next i front x y ys h s ready e len there) in
    let off_too : separates_nothing before y ≡ false = sym (apart k m before y met behind) ∙ off in
    let is = not_joined before x y (ap (λ b. x.number == 0x034F && b) off_too ∙ never (x.number == 0x034F)) in
    (class ∙ ap mark_class same, stays (front ++ (joiner_between before x y ∷ y ∷ ys)) s (e ∙ ap (λ z. front ++ (z ∷ y ∷ ys)) (sym is)) ready)
  where
    never : (b : Bool) → (b && false) ≡ false
    never true = refl
    never false = refl

-- a joiner that keeps nothing apart is shown
pub joiner_shown : (k i n m : ℕ) (g h j : hb_glyph_info_t) (s t : Sides) → IsReady s → slice_get s.ahead i ≡ Some g → n ≡ mark_class (item_of g) → slice_get s.ahead (i + 1) ≡ Some h → m ≡ mark_class (item_of h)
    → g.glyph_id ≡ 0x034F → (m == 0 || nat_le k m) ≡ true → item_of j ≡ visible_item (item_of g) → origin_of j ≡ origin_of g → t ≡ with_glyph_ahead i j s → ShowsAt k i n s t
joiner_shown k i n m g h j s t ready at class there next number on item origin is front before x y ys e len met =
    let same = seen_at i front x (y ∷ ys) g s ready e len at in
    let behind = next ∙ ap mark_class (seen_next i front x y ys h s ready e len there) in
    let named = ap (λ (z : Item). z.number) same in
    let one : (x.number == 0x034F) ≡ true = grind (arith, nat_tests, named, number) in
    let two : separates_nothing before y ≡ true = sym (apart k m before y met behind) ∙ on in
    let becomes : joiner_between before x y ≡ visible_item x = cond-true _ _ _ (ap₂ (λ a b. a && b) one two) in
    let ahead : strip s.ahead ≡ front ++ (x ∷ y ∷ ys) = ap strip (sym (all_ahead s ready)) ∙ e in
    let front_too : t.behind ≡ [] = ap (λ (q : Sides). q.behind) is ∙ ready.front in
    let all : all_glyphs t ≡ slice_set s.ahead i j = ap₂ (λ hs ks. hs ++ ks) front_too (ap (λ (q : Sides). q.ahead) is) in (
      class ∙ ap mark_class same,
      record {
        items =
            ap strip all ∙ set_seen item_of s.ahead i j ∙ ap₂ (λ xs z. slice_set xs i z) ahead (item ∙ ap visible_item same ∙ sym becomes)
            ∙ ap (λ n. slice_set (front ++ (x ∷ y ∷ ys)) n (joiner_between before x y)) (sym len) ∙ set_seam front x (y ∷ ys) (joiner_between before x y);
        origins =
            let there : slice_get (origins s.ahead) i ≡ Some (origin_of g) = slice_get-map origin_of s.ahead i ∙ ap (option_map origin_of) at in
            ap origins all ∙ set_seen origin_of s.ahead i j ∙ ap (slice_set (origins s.ahead) i) origin ∙ set_same (origins s.ahead) i (origin_of g) there ∙ ap origins (sym (all_ahead s ready));
        frame = ap frame_of is;
        ready = record {
          closed = ap (λ (q : Sides). q.is_open) is ∙ ready.closed;
          front = front_too;
          unread = ap (λ (q : Sides). q.read) is ∙ ready.unread;
          placed =
              ap (λ (q : Sides). length q.positions) is ∙ ready.placed ∙ ap (λ (gs : List hb_glyph_info_t). length gs) (all_ahead s ready) ∙ sym (length_set s.ahead i j)
              ∙ ap (λ (gs : List hb_glyph_info_t). length gs) (sym all);
          unrefused = ap (λ (q : Sides). q.has_refused) is ∙ ready.unrefused;
        };
      },
    )

-- ---- all of them

-- the items in front of an index were shown; the class of the last of them
pub record IsShowing (count at k : ℕ) (s now : Sides) : Type 0 where
  pub done : List Item
  pub before : Item
  pub rest : List Item
  pub has : HasItems (done ++ rest) s now
  pub met : length done ≡ at
  pub class : mark_class before ≡ k
  pub left : length rest + at ≡ count
  pub whole : done ++ with_joiners_shown before rest ≡ joiners_shown (items_of s)

pub showing_begun : (count n : ℕ) (g : hb_glyph_info_t) (s : Sides) → IsReady s → count ≡ length s.ahead → 2 ≤ count → slice_get s.ahead 0 ≡ Some g → n ≡ mark_class (item_of g) → IsShowing count 1 n s s
showing_begun count n g s ready len some at class = by_case s.ahead refl
  where
    by_case : (gs : List hb_glyph_info_t) → s.ahead ≡ gs → IsShowing count 1 n s s
    by_case [] e = absurd (let none = ap length e in omega (arith, none, len, some))
    by_case (h ∷ gs) e =
        let items : items_of s ≡ item_of h ∷ strip gs = ap strip (all_ahead s ready ∙ e) in
        let both : Some h ≡ Some g = sym (ap (λ hs. slice_get hs 0) e) ∙ at in
        let first : h ≡ g = cc in
        record {
          done = item_of h ∷ [];
          before = item_of h;
          rest = strip gs;
          has = stays (item_of h ∷ strip gs) s items ready;
          met = refl;
          class = ap (λ q. mark_class (item_of q)) first ∙ sym class;
          left = let all = ap length e in omega (arith, all, len, length-map gs item_of);
          whole = ap joiners_shown (sym items);
        }

count_now : (count at k : ℕ) (s now : Sides) → IsShowing count at k s now → length now.ahead ≡ count
count_now count at k s now w =
    let all = ap (λ (xs : List Item). length xs) w.has.items in
    let met = w.met in
    let left = w.left in
    let there = ap (λ (gs : List hb_glyph_info_t). length gs) (all_ahead now w.has.ready) in
    omega (arith, all, met, left, there, length-map (all_glyphs now) item_of, length-append w.done w.rest)

pub showing_more : (count at k n : ℕ) (s now next : Sides) → 2 ≤ count → at < count - 1 → IsShowing count at k s now → ShowsAt k at n now next → IsShowing count (at + 1) n s next
showing_more count at k n s now next some lt w goes = by_case w.rest refl
  where
    by_case : (zs : List Item) → w.rest ≡ zs → IsShowing count (at + 1) n s next
    by_case [] e = absurd (let none = ap length e in let left = w.left in omega (arith, none, left, lt, some))
    by_case (x ∷ []) e = absurd (let none = ap length e in let left = w.left in omega (arith, none, left, lt, some))
    by_case (x ∷ y ∷ ys) e =
        let is = goes w.done w.before x y ys (w.has.items ∙ ap (λ zs. w.done ++ zs) e) w.met w.class in
        let joined : (w.done ++ joiner_between w.before x y ∷ []) ++ (y ∷ ys) ≡ w.done ++ (joiner_between w.before x y ∷ y ∷ ys) = append_assoc w.done (joiner_between w.before x y ∷ []) (y ∷ ys) in
        record {
          done = w.done ++ joiner_between w.before x y ∷ [];
          before = x;
          rest = y ∷ ys;
          has = record { items = is.1.items ∙ sym joined; origins = is.1.origins ∙ w.has.origins; frame = is.1.frame ∙ w.has.frame; ready = is.1.ready };
          met = let met = w.met in omega (arith, met, length-append w.done (joiner_between w.before x y ∷ []));
          class = sym is.0;
          left = let left = w.left in let all = ap length e in omega (arith, left, all);
          whole = append_assoc w.done (joiner_between w.before x y ∷ []) (with_joiners_shown x (y ∷ ys)) ∙ ap (λ zs. w.done ++ with_joiners_shown w.before zs) (sym e) ∙ w.whole;
        }

pub showing_done : (count at k : ℕ) (s now : Sides) → 2 ≤ count → count - 1 ≤ at → at ≤ count - 1 → IsShowing count at k s now → HasItems (joiners_shown (items_of s)) s now
showing_done count at k s now some le ge w = by_case w.rest refl
  where
    by_case : (zs : List Item) → w.rest ≡ zs → HasItems (joiners_shown (items_of s)) s now
    by_case [] e = absurd (let none = ap length e in let left = w.left in omega (arith, none, left, le, ge, some))
    by_case (x ∷ y ∷ ys) e = absurd (let none = ap length e in let left = w.left in omega (arith, none, left, le, ge, some))
    by_case (x ∷ []) e = record {
      items = w.has.items ∙ ap (λ zs. w.done ++ zs) e ∙ ap (λ zs. w.done ++ with_joiners_shown w.before zs) (sym e) ∙ w.whole;
      origins = w.has.origins;
      frame = w.has.frame;
      ready = w.has.ready;
    }

-- ---- no joiner at all

none_shown : (before : Item) (gs : List hb_glyph_info_t) → list_any (λ (g : hb_glyph_info_t). g.glyph_id == 0x034F) gs ≡ false → with_joiners_shown before (strip gs) ≡ strip gs
none_shown before [] none = refl
none_shown before (g ∷ []) none = refl
none_shown before (g ∷ h ∷ gs) none =
    let other : (g.glyph_id == 0x034F) ≡ false = (neither (g.glyph_id == 0x034F) (list_any (λ (k : hb_glyph_info_t). k.glyph_id == 0x034F) (h ∷ gs)) none).0 in
    let rest = (neither (g.glyph_id == 0x034F) (list_any (λ (k : hb_glyph_info_t). k.glyph_id == 0x034F) (h ∷ gs)) none).1 in
    ap₂ (λ x xs. x ∷ xs) (not_joined before (item_of g) (item_of h) (ap (λ b. b && separates_nothing before (item_of h)) other)) (none_shown (item_of g) (h ∷ gs) rest)
  where
    neither : (a b : Bool) → (a || b) ≡ false → (a ≡ false) × (b ≡ false)
    neither false false e = (refl, refl)
    neither false true e = absurd (let bad = e in cc)
    neither true b e = absurd (let bad = e in cc)

pub none_stays : (s : Sides) → IsReady s → list_any (λ (g : hb_glyph_info_t). g.glyph_id == 0x034F) (all_glyphs s) ≡ false → HasItems (joiners_shown (items_of s)) s s
none_stays s ready none = by_case (all_glyphs s) refl none
  where
    by_case : (gs : List hb_glyph_info_t) → all_glyphs s ≡ gs → list_any (λ (g : hb_glyph_info_t). g.glyph_id == 0x034F) gs ≡ false → HasItems (joiners_shown (items_of s)) s s
    by_case [] e none = stays (joiners_shown (items_of s)) s (ap strip e ∙ ap joiners_shown (sym (ap strip e))) ready
    by_case (g ∷ gs) e none =
        let later = rest_of (g.glyph_id == 0x034F) (list_any (λ (k : hb_glyph_info_t). k.glyph_id == 0x034F) gs) none in
        stays (joiners_shown (items_of s)) s (ap strip e ∙ ap (λ xs. item_of g ∷ xs) (sym (none_shown (item_of g) gs later)) ∙ ap joiners_shown (sym (ap strip e))) ready
      where
        rest_of : (a b : Bool) → (a || b) ≡ false → b ≡ false
        rest_of false b e = e
        rest_of true b e = absurd (let bad = e in cc)
