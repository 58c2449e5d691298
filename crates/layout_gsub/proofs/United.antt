-- Parts that become a ligature, and what stands between them.
use Rattle.std.proofs.Common.{ℕ, suc, zero, ◌≡◌, ◌≤◌, ◌<◌, ◌+◌, ◌-◌, true, false, nat_le, Bool, List, [], ◌∷◌, ◌++◌, length, map, take, drop, refl, sym, ap, subst, ◌∙◌, arith, append_assoc, Some, get_or, slice_get}
use Rattle.std.specs.Prelude.{slice_set, slice_range}
use Rattle.std.proofs.lemmas.List.{map-append, length-append, length-map, length-take-le, drop-map, drop-drop, take-append-drop, append-nil, drop_more, drop_all}
use Rattle.std.proofs.lemmas.Bool.Decides.{nat_tests}
use Rattle.buffer_glyphs.specs.declared.info.hb_glyph_info_t.{hb_glyph_info_t}
use Rattle.buffer_glyphs.specs.declared.level.BufferClusterLevel.{BufferClusterLevel}
use Rattle.buffer_glyphs.proofs.Lists.{take_next, drop_next}
use Rattle.buffer_glyphs.specs.Items.{Item, item_of, strip}
use Rattle.buffer_glyphs.specs.Parts.{copies}
use Rattle.buffer_glyphs.specs.Origins.{Asks, origin_of, origins}
use Rattle.buffer_glyphs.specs.Events.{Replace, origins_after}
use Rattle.buffer_core.specs.Sides.{Sides, flag_requests_of, fits_next, has_output_room, after_next_glyphs, origins_of, origins_by}
use Rattle.buffer_core.specs.Lending.{with_glyph_ahead}
use Rattle.buffer_core.specs.Merging.{with_glyph_skipped}
use Rattle.buffer_core.proofs.HandedOn.{skipped_ahead, skipped_behind}
use Rattle.buffer_glyphs.specs.LigatureWords.{lig_num_comps}
use Rattle.layout_gsub.specs.Ligating.{component_count, components_at, component_deletions, passed_item, passed_items}
use Rattle.layout_gsub.specs.Uniting.{ArePassedAs, AreRising, AreUnited, IsPassedAs, end_of}
use Rattle.layout_gsub.proofs.Parted.{counted_cons}

-- ---- one glyph

taken_set : (gs : List hb_glyph_info_t) (info : hb_glyph_info_t) → 0 < length gs → take 1 (slice_set gs 0 info) ≡ info ∷ []
taken_set [] info lt = absurd (omega (arith, lt))
taken_set (g ∷ gs) info lt = refl

dropped_set : (gs : List hb_glyph_info_t) (info : hb_glyph_info_t) → drop 1 (slice_set gs 0 info) ≡ drop 1 gs
dropped_set [] info = refl
dropped_set (g ∷ gs) info = refl

first_from : (gs : List hb_glyph_info_t) (info : hb_glyph_info_t) → 0 < length gs → ((g : hb_glyph_info_t) → slice_get gs 0 ≡ Some g → origin_of info ≡ origin_of g) → origin_of info ∷ [] ≡ take 1 (origins gs)
first_from [] info lt h = absurd (omega (arith, lt))
first_from (g ∷ gs) info lt h = ap (λ o. o ∷ []) (h g refl)

room_there : (info : hb_glyph_info_t) (s mid : Sides) (b : Bool) → s.is_open ≡ true → mid ≡ with_glyph_ahead 0 info s → b ≡ fits_next 1 mid → has_output_room 1 s ≡ b
room_there info s mid b opened there held = sym (held ∙ ap (fits_next 1) there ∙ rw opened refl)

pub passed_as : (info : hb_glyph_info_t) (s mid new : Sides) (b : Bool) → 0 < length s.ahead → s.is_open ≡ true → ((g : hb_glyph_info_t) → slice_get s.ahead 0 ≡ Some g → origin_of info ≡ origin_of g) → mid ≡ with_glyph_ahead 0 info s → b ≡ fits_next 1 mid → b ≡ true → new ≡ after_next_glyphs 1 mid → IsPassedAs (item_of info) s new
passed_as info s mid new b lt opened from there held is after =
    let same : new ≡ after_next_glyphs 1 (with_glyph_ahead 0 info s) = after ∙ ap (after_next_glyphs 1) there in
    let behind : new.behind ≡ s.behind ++ info ∷ [] = ap (λ (t : Sides). t.behind) same ∙ ap (λ gs. s.behind ++ gs) (taken_set s.ahead info lt) in
    let room : has_output_room 1 s ≡ true = room_there info s mid b opened there held ∙ is in
    let long : length new.behind ≡ length s.behind + 1 = ap length behind ∙ length-append s.behind (info ∷ []) in
    let limit : new.max_len ≡ s.max_len = ap (λ (t : Sides). t.max_len) same in
    let fits : nat_le (length s.behind + 1) s.max_len ≡ true = room in
    record {
      items = ap strip behind ∙ map-append item_of s.behind (info ∷ []);
      origin = ap origins behind ∙ map-append origin_of s.behind (info ∷ []) ∙ ap (λ os. origins s.behind ++ os) (first_from s.ahead info lt from);
      others = same ∙ ap (λ (gs : List hb_glyph_info_t). record s { behind = s.behind ++ take 1 (slice_set s.ahead 0 info); ahead = gs; read = s.read + 1 }) (dropped_set s.ahead info) ∙ ap (λ (gs : List hb_glyph_info_t). record s { behind = gs; ahead = drop 1 s.ahead; read = s.read + 1 }) (sym (ap (λ (t : Sides). t.behind) same));
      within = grind (arith, nat_tests, long, limit, fits);
    }

-- ---- some glyphs

pub none_passed : (f : Item → Item) (s : Sides) → ArePassedAs f 0 s s
none_passed f s = record {
  items = sym (append-nil (strip s.behind));
  origin = sym (append-nil (origins s.behind));
  others = let same : s.read ≡ s.read + 0 = omega arith in ap (λ (n : ℕ). record s { read = n }) same;
  within = λ le. le;
}

first_taken : (f : Item → Item) (gs : List hb_glyph_info_t) (g : hb_glyph_info_t) → slice_get gs 0 ≡ Some g → f (item_of g) ∷ [] ≡ map f (take 1 (strip gs))
first_taken f [] g at = cc
first_taken f (h ∷ gs) g at = let same : h ≡ g = cc in ap (λ x. f (item_of x) ∷ []) (sym same)

pub one_passed : (f : Item → Item) (i : ℕ) (s now next : Sides) (g : hb_glyph_info_t) → slice_get now.ahead 0 ≡ Some g → ArePassedAs f i s now → IsPassedAs (f (item_of g)) now next → ArePassedAs f (i + 1) s next
one_passed f i s now next g at a p =
    let xs = strip s.ahead in
    let os = origins s.ahead in
    let ahead : now.ahead ≡ drop i s.ahead = ap (λ (t : Sides). t.ahead) a.others in
    let left : strip now.ahead ≡ drop i xs = ap strip ahead ∙ sym (drop-map item_of i s.ahead) in
    let from : origins now.ahead ≡ drop i os = ap origins ahead ∙ sym (drop-map origin_of i s.ahead) in
    let more : map f (take i xs) ++ f (item_of g) ∷ [] ≡ map f (take (i + 1) xs) = ap (λ ys. map f (take i xs) ++ ys) (first_taken f now.ahead g at ∙ ap (λ ys. map f (take 1 ys)) left) ∙ sym (map-append f (take i xs) (take 1 (drop i xs))) ∙ ap (map f) (sym (take_next xs i)) in
    let also : take i os ++ take 1 (origins now.ahead) ≡ take (i + 1) os = ap (λ ys. take i os ++ take 1 ys) from ∙ sym (take_next os i) in
    let read : s.read + i + 1 ≡ s.read + (i + 1) = omega arith in
    record {
      items = p.items ∙ ap (λ ys. ys ++ f (item_of g) ∷ []) a.items ∙ append_assoc (strip s.behind) (map f (take i xs)) (f (item_of g) ∷ []) ∙ ap (λ ys. strip s.behind ++ ys) more;
      origin = p.origin ∙ ap (λ ys. ys ++ take 1 (origins now.ahead)) a.origin ∙ append_assoc (origins s.behind) (take i os) (take 1 (origins now.ahead)) ∙ ap (λ ys. origins s.behind ++ ys) also;
      others = p.others ∙ ap (λ (t : Sides). record t { behind = next.behind; ahead = drop 1 t.ahead; read = t.read + 1 }) a.others ∙ ap (λ (gs : List hb_glyph_info_t). record s { behind = next.behind; ahead = gs; read = s.read + i + 1 }) (drop_next s.ahead i) ∙ ap (λ (n : ℕ). record s { behind = next.behind; ahead = drop (i + 1) s.ahead; read = n }) read;
      within = λ le. p.within;
    }

-- how long the output is then
passed_count : (f : Item → Item) (n : ℕ) (s new : Sides) → n ≤ length s.ahead → ArePassedAs f n s new → length new.behind ≡ length s.behind + n
passed_count f n s new le a =
    let whole = sym (length-map new.behind item_of) ∙ ap length a.items ∙ length-append (strip s.behind) (map f (take n (strip s.ahead))) in
    let front = length-map s.behind item_of in
    let all = length-map s.ahead item_of in
    let some = length-map (take n (strip s.ahead)) f ∙ length-take-le n (strip s.ahead) (omega (arith, all, le)) in
    omega (arith, whole, front, some)

-- where they come from does not change
between_from : (f : Item → Item) (n : ℕ) (s new : Sides) → ArePassedAs f n s new → origins_of new ≡ origins_of s
between_from f n s new a =
    let ahead : new.ahead ≡ drop n s.ahead = ap (λ (t : Sides). t.ahead) a.others in
    map-append origin_of new.behind new.ahead ∙ ap (λ os. os ++ origins new.ahead) a.origin ∙ ap (λ os. (origins s.behind ++ take n (origins s.ahead)) ++ os) (ap origins ahead ∙ sym (drop-map origin_of n s.ahead)) ∙ append_assoc (origins s.behind) (take n (origins s.ahead)) (drop n (origins s.ahead))
    ∙ ap (λ os. origins s.behind ++ os) (take-append-drop n (origins s.ahead)) ∙ sym (map-append origin_of s.behind s.ahead)

one_from : (x : Item) (s new : Sides) → IsPassedAs x s new → origins_of new ≡ origins_of s
one_from x s new a =
    let ahead : new.ahead ≡ drop 1 s.ahead = ap (λ (t : Sides). t.ahead) a.others in
    map-append origin_of new.behind new.ahead ∙ ap (λ os. os ++ origins new.ahead) a.origin ∙ ap (λ os. (origins s.behind ++ take 1 (origins s.ahead)) ++ os) (ap origins ahead ∙ sym (drop-map origin_of 1 s.ahead)) ∙ append_assoc (origins s.behind) (take 1 (origins s.ahead)) (drop 1 (origins s.ahead))
    ∙ ap (λ os. origins s.behind ++ os) (take-append-drop 1 (origins s.ahead)) ∙ sym (map-append origin_of s.behind s.ahead)

-- ---- components

-- some components went: what there is now and what is left to pass and to go is all
pub record IsUniting (first : Item) (renumbers : Bool) (id e0 o0 : ℕ) (places : List ℕ) (s : Sides) (k from e o : ℕ) (now : Sides) : Type 0 where
  pub items : strip now.behind ++ passed_items renumbers id e o from (drop k places) (strip s.ahead) ≡ strip s.behind ++ first ∷ passed_items renumbers id e0 o0 1 places (strip s.ahead)
  pub origin : origins_after (flag_requests_of s) s.level (component_deletions (length s.behind) k (drop k places)) (origins_of now) ≡ origins_by (component_deletions (length s.behind) 0 places) s
  pub count : length now.behind + k ≡ length s.behind + from
  pub ahead : strip now.ahead ≡ drop from (strip s.ahead)
  pub others : now ≡ record s { behind = now.behind; ahead = now.ahead; read = s.read + from }
  pub rising : AreRising from (drop k places)
  pub end_is : end_of from (drop k places) ≡ end_of 1 places
  pub within : length now.behind ≤ now.max_len

-- a buffer with other glyphs
same_others : (s new : Sides) (front back : List hb_glyph_info_t) (n : ℕ) → new ≡ record s { behind = front; ahead = back; read = n } → new ≡ record s { behind = new.behind; ahead = new.ahead; read = n }
same_others s new front back n e = let P : Sides → Type 0 = λ t. t ≡ record s { behind = t.behind; ahead = t.ahead; read = n } in subst P (sym e) refl

pub none_united : (x : Item) (renumbers : Bool) (id ended own : ℕ) (places : List ℕ) (s now : Sides) → AreRising 1 places → IsPassedAs x s now → IsUniting x renumbers id ended own places s 0 1 ended own now
none_united x renumbers id ended own places s now rising p =
    let long : length now.behind ≡ length s.behind + 1 = sym (length-map now.behind item_of) ∙ ap length p.items ∙ length-append (strip s.behind) (x ∷ []) ∙ ap (λ n. n + 1) (length-map s.behind item_of) in
    record {
      items = ap (λ xs. xs ++ passed_items renumbers id ended own 1 places (strip s.ahead)) p.items ∙ append_assoc (strip s.behind) (x ∷ []) (passed_items renumbers id ended own 1 places (strip s.ahead));
      origin = ap (origins_after (flag_requests_of s) s.level (component_deletions (length s.behind) 0 places)) (one_from x s now p);
      count = omega (arith, long);
      ahead = ap (λ (t : Sides). strip t.ahead) p.others ∙ sym (drop-map item_of 1 s.ahead);
      others = same_others s now now.behind (drop 1 s.ahead) (s.read + 1) p.others;
      rising = rising;
      end_is = refl;
      within = p.within;
    }

components_there : (i : ℕ) (xs : List Item) (x : Item) → slice_get xs i ≡ Some x → components_at i xs ≡ lig_num_comps x
components_there i xs x at =
    let none : lig_num_comps x + 0 ≡ lig_num_comps x = omega arith in
    ap (λ o. component_count (copies 1 o)) at ∙ counted_cons x [] ∙ none

get_dropped : (i : ℕ) (gs : List hb_glyph_info_t) (g : hb_glyph_info_t) → slice_get (drop i gs) 0 ≡ Some g → slice_get (strip gs) i ≡ Some (item_of g)
get_dropped zero [] g at = cc
get_dropped zero (h ∷ gs) g at = let same : h ≡ g = cc in ap (λ x. Some (item_of x)) same
get_dropped (suc i) [] g at = cc
get_dropped (suc i) (h ∷ gs) g at = get_dropped i gs g at

count_dropped : {X : Type 0} (m : ℕ) (xs : List X) → length (drop m xs) ≡ length xs - m
count_dropped zero xs = omega arith
count_dropped (suc m) [] = omega arith
count_dropped (suc m) (x ∷ xs) = let here = count_dropped m xs in omega (arith, here)

get_further : (from n i : ℕ) (xs : List Item) → n + from ≡ i → slice_get (drop from xs) n ≡ slice_get xs i
get_further zero n i xs e = ap (slice_get xs) (omega (arith, e))
get_further (suc from) n i [] e = refl
get_further (suc from) n zero (x ∷ xs) e = absurd (omega (arith, e))
get_further (suc from) n (suc i) (x ∷ xs) e = get_further from n i xs (omega (arith, e))

-- how many glyphs are ahead then
pub ahead_left : (x : Item) (renumbers : Bool) (id ended own : ℕ) (places : List ℕ) (s : Sides) (k from e o : ℕ) (now : Sides) → IsUniting x renumbers id ended own places s k from e o now → length now.ahead ≡ length s.ahead - from
ahead_left x renumbers id ended own places s k from e o now u = sym (length-map now.ahead item_of) ∙ ap length u.ahead ∙ count_dropped from (strip s.ahead) ∙ ap (λ n. n - from) (length-map s.ahead item_of)

-- one more went
component_gone : (x : Item) (renumbers : Bool) (id ended own : ℕ) (places : List ℕ) (s : Sides) (k from e o i : ℕ) (rest : List ℕ) (now mid next : Sides) (g : hb_glyph_info_t) → drop k places ≡ i ∷ rest → drop (k + 1) places ≡ rest → i < length s.ahead → slice_get mid.ahead 0 ≡ Some g
    → IsUniting x renumbers id ended own places s k from e o now → from ≤ i → AreRising (i + 1) rest → ArePassedAs (passed_item renumbers id e o) (i - from) now mid → next ≡ with_glyph_skipped mid → origins_of next ≡ origins_by (Replace (length mid.behind) 1 0 ∷ []) mid
    → IsUniting x renumbers id ended own places s (k + 1) (i + 1) (e + lig_num_comps (item_of g)) (lig_num_comps (item_of g)) next
component_gone x renumbers id ended own places s k from e o i rest now mid next g left after lt at u le rising a is gone =
    let xs = strip s.ahead in
    let f = passed_item renumbers id e o in
    let n = i - from in
    let at-s = length s.behind in
    let c = lig_num_comps (item_of g) in
    let items-left : strip now.ahead ≡ drop from xs = u.ahead in
    let sum : n + from ≡ i = omega (arith, le) in
    let mid-ahead : mid.ahead ≡ drop n now.ahead = ap (λ (t : Sides). t.ahead) a.others in
    let mid-left : strip mid.ahead ≡ drop i xs = ap strip mid-ahead ∙ sym (drop-map item_of n now.ahead) ∙ ap (drop n) items-left ∙ drop-drop n from xs ∙ ap (λ m. drop m xs) (omega (arith, le)) in
    let there : slice_get xs i ≡ Some (item_of g) = sym (get_further from n i xs sum) ∙ ap (λ ys. slice_get ys n) (sym items-left) ∙ get_dropped n now.ahead g (ap (λ gs. slice_get gs 0) (sym mid-ahead) ∙ at) in
    let own-now : components_at i xs ≡ c = components_there i xs (item_of g) there in
    let passed : map f (take n (strip now.ahead)) ≡ map f (slice_range xs from i) = ap (λ ys. map f (take n ys)) items-left in
    let whole : passed_items renumbers id e o from (drop k places) xs ≡ map f (slice_range xs from i) ++ passed_items renumbers id (e + c) c (i + 1) (drop (k + 1) places) xs =
    ap (λ ps. passed_items renumbers id e o from ps xs) left ∙ ap (λ m. map f (slice_range xs from i) ++ passed_items renumbers id (e + m) m (i + 1) rest xs) own-now ∙ ap (λ ps. map f (slice_range xs from i) ++ passed_items renumbers id (e + c) c (i + 1) ps xs) (sym after) in
    let behind : strip next.behind ≡ strip mid.behind = ap (λ (t : Sides). strip t.behind) is ∙ skipped_behind mid in
    let same : length next.behind ≡ length mid.behind = sym (length-map next.behind item_of) ∙ ap length behind ∙ length-map mid.behind item_of in
    let more = passed_items renumbers id (e + c) c (i + 1) (drop (k + 1) places) xs in
    let all-ahead = ahead_left x renumbers id ended own places s k from e o now u in
    let long : length mid.behind ≡ length now.behind + n = passed_count f n now mid (omega (arith, all-ahead, lt, le)) a in
    let counted = u.count in
    let place : length mid.behind ≡ at-s + i - k = omega (arith, long, counted, le) in
    let mid-is : mid ≡ record s { behind = mid.behind; ahead = mid.ahead; read = mid.read } = part_of_it mid now s n from a u.others in
    let from-mid : origins_of next ≡ origins_after (flag_requests_of s) s.level (Replace (at-s + i - k) 1 0 ∷ []) (origins_of now) =
    gone ∙ ap (λ m. origins_by (Replace m 1 0 ∷ []) mid) place ∙ ap (λ (t : Asks). origins_after t mid.level (Replace (at-s + i - k) 1 0 ∷ []) (origins_of mid)) (ap flag_requests_of mid-is) ∙ ap (λ (l : BufferClusterLevel). origins_after (flag_requests_of s) l (Replace (at-s + i - k) 1 0 ∷ []) (origins_of mid)) (ap (λ (t : Sides). t.level) mid-is)
    ∙ ap (origins_after (flag_requests_of s) s.level (Replace (at-s + i - k) 1 0 ∷ [])) (between_from f n now mid a) in
    let mid-read : mid.read ≡ s.read + from + n = ap (λ (t : Sides). t.read) a.others ∙ ap (λ (t : Sides). t.read + n) u.others in
    let read : mid.read + 1 ≡ s.read + (i + 1) = omega (arith, mid-read, le) in
    record {
      items = ap (λ ys. ys ++ more) behind ∙ ap (λ ys. ys ++ more) a.items ∙ append_assoc (strip now.behind) (map f (take n (strip now.ahead))) more ∙ ap (λ ys. strip now.behind ++ (ys ++ more)) passed ∙ ap (λ ys. strip now.behind ++ ys) (sym whole) ∙ u.items;
      origin = ap (origins_after (flag_requests_of s) s.level (component_deletions at-s (k + 1) (drop (k + 1) places))) from-mid ∙ ap (λ ps. origins_after (flag_requests_of s) s.level (component_deletions at-s (k + 1) ps) (origins_after (flag_requests_of s) s.level (Replace (at-s + i - k) 1 0 ∷ []) (origins_of now))) after
          ∙ ap (λ ps. origins_after (flag_requests_of s) s.level (component_deletions at-s k ps) (origins_of now)) (sym left) ∙ u.origin;
      count = omega (arith, same, long, counted, le);
      ahead = ap (λ (t : Sides). strip t.ahead) is ∙ skipped_ahead mid ∙ ap (drop 1) mid-left ∙ drop_next xs i;
      others =
          let t : Sides = record s { behind = mid.behind; ahead = mid.ahead; read = mid.read } in
          same_others s next (with_glyph_skipped t).behind (with_glyph_skipped t).ahead (s.read + (i + 1)) (is ∙ ap with_glyph_skipped mid-is ∙ ap (λ (m : ℕ). record (with_glyph_skipped t) { read = m }) read);
      rising = let P : List ℕ → Type 0 = AreRising (i + 1) in subst P (sym after) rising;
      end_is = ap (end_of (i + 1)) after ∙ ap (end_of from) (sym left) ∙ u.end_is;
      within =
          let w = a.within u.within in
          let limit : next.max_len ≡ mid.max_len = ap (λ (t : Sides). t.max_len) is in
          omega (arith, w, limit, same);
    }
  where
    part_of_it : (mid now s : Sides) (n from : ℕ) → ArePassedAs (passed_item renumbers id e o) n now mid → now ≡ record s { behind = now.behind; ahead = now.ahead; read = s.read + from } → mid ≡ record s { behind = mid.behind; ahead = mid.ahead; read = mid.read }
    part_of_it mid now s n from a u =
        let read : mid.read ≡ now.read + n = ap (λ (t : Sides). t.read) a.others in
        same_others s mid mid.behind (drop n now.ahead) mid.read (a.others ∙ ap (λ (t : Sides). record t { behind = mid.behind; ahead = drop n now.ahead; read = now.read + n }) u ∙ ap (λ (m : ℕ). record s { behind = mid.behind; ahead = drop n now.ahead; read = m }) (sym read))

-- the next component goes
pub next_gone : (x : Item) (renumbers : Bool) (id ended own : ℕ) (places : List ℕ) (s : Sides) (k from e o i : ℕ) (now mid next : Sides) (g : hb_glyph_info_t) → k < length places → i ≡ get_or places k 0 → i < length s.ahead → slice_get mid.ahead 0 ≡ Some g
    → IsUniting x renumbers id ended own places s k from e o now → ArePassedAs (passed_item renumbers id e o) (i - from) now mid → next ≡ with_glyph_skipped mid → origins_of next ≡ origins_by (Replace (length mid.behind) 1 0 ∷ []) mid
    → IsUniting x renumbers id ended own places s (k + 1) (i + 1) (e + lig_num_comps (item_of g)) (lig_num_comps (item_of g)) next
next_gone x renumbers id ended own places s k from e o i now mid next g lt is there at u a after gone =
    let left : drop k places ≡ i ∷ drop (k + 1) places = drop_more places k 0 lt ∙ ap (λ n. n ∷ drop (k + 1) places) (sym is) in
    let P : List ℕ → Type 0 = AreRising from in
    let rising = subst P left u.rising in
    component_gone x renumbers id ended own places s k from e o i (drop (k + 1) places) now mid next g left refl there at u rising.0 rising.1 a after gone

-- the next component stands at the cursor or ahead of it
pub next_ahead : (x : Item) (renumbers : Bool) (id ended own : ℕ) (places : List ℕ) (s : Sides) (k from e o i : ℕ) (now : Sides) → k < length places → i ≡ get_or places k 0 → IsUniting x renumbers id ended own places s k from e o now → from ≤ i
next_ahead x renumbers id ended own places s k from e o i now lt is u =
    let left : drop k places ≡ i ∷ drop (k + 1) places = drop_more places k 0 lt ∙ ap (λ n. n ∷ drop (k + 1) places) (sym is) in
    let P : List ℕ → Type 0 = AreRising from in
    (subst P left u.rising).0

-- all went
pub all_united : (x : Item) (renumbers : Bool) (id ended own : ℕ) (places : List ℕ) (s : Sides) (k from e o : ℕ) (now : Sides) → length places ≤ k → IsUniting x renumbers id ended own places s k from e o now → AreUnited x (passed_items renumbers id ended own 1 places (strip s.ahead)) places s now
all_united x renumbers id ended own places s k from e o now le u =
    let none : drop k places ≡ [] = drop_all k places le in
    let end : from ≡ end_of 1 places = ap (end_of from) (sym none) ∙ u.end_is in
    record {
      items = sym (append-nil (strip now.behind)) ∙ ap (λ ps. strip now.behind ++ passed_items renumbers id e o from ps (strip s.ahead)) (sym none) ∙ u.items;
      origin = ap (λ ps. origins_after (flag_requests_of s) s.level (component_deletions (length s.behind) k ps) (origins_of now)) (sym none) ∙ u.origin;
      ahead = u.ahead ∙ ap (λ (n : ℕ). drop n (strip s.ahead)) end;
      others = u.others ∙ ap (λ (n : ℕ). record s { behind = now.behind; ahead = now.ahead; read = s.read + n }) end;
      within = u.within;
    }

-- where what is before a component finds no room, there is none for all
pub unite_refused : (x : Item) (renumbers : Bool) (id ended own : ℕ) (places : List ℕ) (s : Sides) (k from e o i : ℕ) (now : Sides) → k < length places → i ≡ get_or places k 0 → i < length s.ahead → IsUniting x renumbers id ended own places s k from e o now → has_output_room (i - from) now ≡ false
    → nat_le (length s.behind + (1 + length (passed_items renumbers id ended own 1 places (strip s.ahead)))) s.max_len ≡ false
unite_refused x renumbers id ended own places s k from e o i now lt is there u full =
    let xs = strip s.ahead in
    let left : drop k places ≡ i ∷ drop (k + 1) places = drop_more places k 0 lt ∙ ap (λ n. n ∷ drop (k + 1) places) (sym is) in
    let le = next_ahead x renumbers id ended own places s k from e o i now lt is u in
    let between = map (passed_item renumbers id e o) (slice_range xs from i) in
    let more = passed_items renumbers id (e + components_at i xs) (components_at i xs) (i + 1) (drop (k + 1) places) xs in
    let passed = passed_items renumbers id ended own 1 places xs in
    let whole : strip now.behind ++ (between ++ more) ≡ strip s.behind ++ x ∷ passed = ap (λ ps. strip now.behind ++ passed_items renumbers id e o from ps xs) (sym left) ∙ u.items in
    let sides = ap length whole in
    let first = length-append (strip now.behind) (between ++ more) in
    let second = length-append between more in
    let third = length-append (strip s.behind) (x ∷ passed) in
    let behind = length-map now.behind item_of in
    let start = length-map s.behind item_of in
    let all = length-map s.ahead item_of in
    let rest = count_dropped from xs in
    let some = length-map (slice_range xs from i) (passed_item renumbers id e o) ∙ length-take-le (i - from) (drop from xs) (omega (arith, rest, all, there, le)) in
    let limit : now.max_len ≡ s.max_len = ap (λ (t : Sides). t.max_len) u.others in
    let past : nat_le (length now.behind + (i - from)) now.max_len ≡ false = full in
    let long : length now.behind + (i - from) ≤ length s.behind + (1 + length passed) = omega (arith, sides, first, second, third, behind, start, some) in
    grind (arith, nat_tests, past, limit, long)

pub first_refused : (passed : List Item) (s : Sides) → has_output_room 1 s ≡ false → nat_le (length s.behind + (1 + length passed)) s.max_len ≡ false
first_refused passed s full = let past : nat_le (length s.behind + 1) s.max_len ≡ false = full in grind (arith, nat_tests, past)

-- the component itself is then at the cursor
pub component_there : (x : Item) (renumbers : Bool) (id ended own : ℕ) (places : List ℕ) (s : Sides) (k from e o i : ℕ) (f : Item → Item) (now mid : Sides) → k < length places → i ≡ get_or places k 0 → i < length s.ahead → IsUniting x renumbers id ended own places s k from e o now → ArePassedAs f (i - from) now mid → 0 < length mid.ahead
component_there x renumbers id ended own places s k from e o i f now mid lt is there u a =
    let le = next_ahead x renumbers id ended own places s k from e o i now lt is u in
    let left = ahead_left x renumbers id ended own places s k from e o now u in
    let rest = ap (λ (t : Sides). length t.ahead) a.others ∙ count_dropped (i - from) now.ahead in
    omega (arith, le, left, rest, there)
