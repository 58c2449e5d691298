-- Glyphs whose clusters no other glyph has, merged and replaced by the first of them.
use Rattle.std.proofs.Common.{ℕ, zero, suc, ◌≡◌, ◌<◌, ◌≤◌, ◌+◌, ◌-◌, ◌==◌, ◌||◌, Bool, true, false, if◌then◌else◌, List, [], ◌∷◌, ◌++◌, Option, Some, None, length, map, take, drop, arith, refl, sym, ap, ap₂, subst, ◌∙◌, append_assoc}
use Rattle.std.specs.Prelude.{fold, min, slice_get}
use Rattle.std.specs.Option.{option_map}
use Rattle.std.proofs.lemmas.Bool.{cond-true, cond-false}
use Rattle.std.proofs.lemmas.Bool.Decides.{nat_tests}
use Rattle.std.proofs.lemmas.List.{append-nil, length-append, length-map, length-take-le, map-append, take-append-drop, take_at, drop-map, take-map, drop-drop, length-drop}
use Rattle.std.proofs.Math.Seq.{drop-append_seam, drop-append-add}
use Rattle.buffer_glyphs.specs.declared.info.hb_glyph_info_t.{hb_glyph_info_t}
use Rattle.buffer_glyphs.specs.declared.level.BufferClusterLevel.{BufferClusterLevel}
use Rattle.buffer_glyphs.specs.declared.level.BufferClusterLevel.TheVariants.{MonotoneGraphemes, MonotoneCharacters}
use Rattle.buffer_glyphs.specs.Items.{Item, clusters, item_of, strip}
use Rattle.buffer_glyphs.specs.Origins.{Asks, Origin, cast, numbers, origin_of, origins, origins_handed_if, origins_merged, origins_merged_as}
use Rattle.buffer_glyphs.specs.Levels.{InList, Unites, manner}
use Rattle.buffer_glyphs.specs.Merges.{least_number, merged_number}
use Rattle.buffer_glyphs.specs.Order.{AllFrom, IsRising, has_number}
use Rattle.buffer_glyphs.specs.Parts.{elements_replaced, range_of}
use Rattle.buffer_glyphs.specs.Events.{Replace, origins_after}
use Rattle.buffer_glyphs.specs.Replacements.{glyph_numbered}
use Rattle.buffer_lists.specs.Known.{HasOrder}
use Rattle.buffer_lists.specs.declared.order.KnownOrder.{KnownOrder}
use Rattle.buffer_lists.specs.declared.order.KnownOrder.TheVariants.{Rising}
use Rattle.buffer_core.specs.Sides.{HasCurrent, Sides, all_glyphs, flag_requests_of, has_output_room, requests_breaks}
use Rattle.buffer_glyphs.specs.Deleting.{sides_handed_if}
use Rattle.buffer_glyphs.specs.Lemmas.Origins.{numbers_origins}
use Rattle.buffer_core.specs.Merging.{with_glyph_passed, with_glyph_skipped, with_replaced_glyph, with_sides}
use Rattle.buffer_core.proofs.MergedOrigins.{cast_self}
use Rattle.buffer_stages.specs.Walks.{HasWalked, renumbered_first}
use Rattle.script_hangul.specs.Alone.{IsAlone, cluster_at, is_below}
use Rattle.buffer_facts.proofs.Numbers.{test_of_itself}

-- ---- rising numbers

-- each number is at most the next ones
abbrev AllAbove : ℕ → List ℕ → Type 0
AllAbove m ns = AllFrom (λ x y. x ≤ y) m ns

all_front : (m : ℕ) (xs ys : List ℕ) → AllAbove m (xs ++ ys) → AllAbove m xs
all_front m [] ys all = record {}
all_front m (x ∷ xs) ys all = (all.0, all_front m xs ys all.1)

rising_front : (xs ys : List ℕ) → IsRising (xs ++ ys) → IsRising xs
rising_front [] ys r = record {}
rising_front (x ∷ xs) ys r = (all_front x xs ys r.0, rising_front xs ys r.1)

rising_back : (xs ys : List ℕ) → IsRising (xs ++ ys) → IsRising ys
rising_back [] ys r = r
rising_back (x ∷ xs) ys r = rising_back xs ys r.1

none_above : (n m : ℕ) (ns : List ℕ) → n < m → AllAbove m ns → has_number ns n ≡ false
none_above n m [] lt all = refl
none_above n m (x ∷ xs) lt all =
    let le = all.0 in
    let apart : (x == n) ≡ false = grind (arith, nat_tests, lt, le) in
    ap₂ (λ a b. a || b) apart (none_above n m xs lt all.1)

least_first : (c : ℕ) (ns : List ℕ) → AllAbove c ns → fold min c ns ≡ c
least_first c [] all = refl
least_first c (x ∷ xs) all =
    let le : c ≤ x = all.0 in
    let least : min c x ≡ c = omega (arith, le) in
    ap (λ n. fold min n xs) least ∙ least_first c xs all.1

-- ---- glyphs below a number

abbrev AllBelow : ℕ → List hb_glyph_info_t → Type 0
AllBelow m [] = Unit {0}
AllBelow m (g ∷ gs) = (g.cluster < m) × AllBelow m gs

is_less : (a b : ℕ) → is_below (Some a) (Some b) ≡ true → a < b
is_less a b e = grind (arith, nat_tests, e)

last_below : (gs : List hb_glyph_info_t) (m : ℕ) → IsRising (clusters gs) → is_below (cluster_at (length gs - 1) gs) (Some m) ≡ true → AllBelow m gs
last_below [] m r e = record {}
last_below (g ∷ []) m r e = (is_less g.cluster m e, record {})
last_below (g ∷ h ∷ gs) m r e =
    let n : length (g ∷ h ∷ gs) - 1 ≡ suc (length (h ∷ gs) - 1) = omega arith in
    let rest = last_below (h ∷ gs) m r.1 (ap (λ i. is_below (cluster_at i (g ∷ h ∷ gs)) (Some m)) (sym n) ∙ e) in
    let le : g.cluster ≤ h.cluster = r.0.0 in
    let lt : h.cluster < m = rest.0 in
    (omega (arith, le, lt), rest)

none_below : (n m : ℕ) (gs : List hb_glyph_info_t) → AllBelow m gs → m ≤ n → has_number (clusters gs) n ≡ false
none_below n m [] all le = refl
none_below n m (g ∷ gs) all le =
    let lt = all.0 in
    let apart : (g.cluster == n) ≡ false = grind (arith, nat_tests, lt, le) in
    ap₂ (λ a b. a || b) apart (none_below n m gs all.1 le)

-- ---- origins of clusters that do not occur in a range

abbrev NoneIn : List ℕ → List Origin → Type 0
NoneIn ns [] = Unit {0}
NoneIn ns (o ∷ os) = (has_number ns o.cluster ≡ false) × NoneIn ns os

before_range : (c : ℕ) (ns : List ℕ) (gs : List hb_glyph_info_t) → AllBelow c gs → AllAbove c ns → NoneIn ns (origins gs)
before_range c ns [] below above = record {}
before_range c ns (g ∷ gs) below above = (none_above g.cluster c ns below.0 above, before_range c ns gs below.1 above)

after_range : (m : ℕ) (range gs : List hb_glyph_info_t) → AllBelow m range → AllAbove m (clusters gs) → NoneIn (clusters range) (origins gs)
after_range m range [] below above = record {}
after_range m range (g ∷ gs) below above = (none_below g.cluster m range below above.0, after_range m range gs below above.1)

abbrev united : List ℕ → Origin → Origin
united ns o = cast (merged_number ns o.cluster) 0 o

others_stay : (ns : List ℕ) (os : List Origin) → NoneIn ns os → map (united ns) os ≡ os
others_stay ns [] none = refl
others_stay ns (o ∷ os) none = ap₂ (λ (p : Origin) (ps : List Origin). p ∷ ps) (cast_self (merged_number ns o.cluster) o (cond-false _ _ _ none.0)) (others_stay ns os none.1)

first_stays : (o : Origin) (ns : List ℕ) → AllAbove o.cluster ns → united (o.cluster ∷ ns) o ≡ o
first_stays o ns above =
    let among : has_number (o.cluster ∷ ns) o.cluster ≡ true = ap (λ b. b || has_number ns o.cluster) (test_of_itself o.cluster) in
    cast_self (merged_number (o.cluster ∷ ns) o.cluster) o (cond-true _ _ _ among ∙ least_first o.cluster ns above)

-- ---- the range replaced

-- a range in the middle of three lists replaced by its first element
middle_replaced : {X : Type 0} (xs : List X) (y : X) (ys zs : List X) (k : ℕ) → k ≡ suc (length ys) → elements_replaced (length xs) k 1 (xs ++ ((y ∷ ys) ++ zs)) ≡ xs ++ (y ∷ zs)
middle_replaced xs y ys zs k e =
    let front : take (length xs) (xs ++ ((y ∷ ys) ++ zs)) ≡ xs = take_at xs ((y ∷ ys) ++ zs) (length xs) refl in
    let back : drop (length xs) (xs ++ ((y ∷ ys) ++ zs)) ≡ (y ∷ ys) ++ zs = drop-append_seam xs ((y ∷ ys) ++ zs) in
    let n : length xs + k ≡ length xs + length (y ∷ ys) = omega (arith, e) in
    let rest : drop (length xs + k) (xs ++ ((y ∷ ys) ++ zs)) ≡ zs =
    ap (λ j. drop j (xs ++ ((y ∷ ys) ++ zs))) n ∙ drop-append-add xs ((y ∷ ys) ++ zs) (length (y ∷ ys)) ∙ drop-append_seam (y ∷ ys) zs in
    rw (front, back, rest) (append_assoc xs (y ∷ []) zs)

range_middle : (xs ys zs : List ℕ) (k : ℕ) → k ≡ length ys → range_of (length xs) (length xs + k) (xs ++ (ys ++ zs)) ≡ ys
range_middle xs ys zs k e =
    let n : length xs + k - length xs ≡ k = omega arith in
    ap₂ (λ j ws. take j ws) n (drop-append_seam xs (ys ++ zs)) ∙ take_at ys zs k (sym e)

-- the merge changes none but those that leave
merged_alone : (bs ts rs : List hb_glyph_info_t) (g : hb_glyph_info_t) → AllAbove g.cluster (clusters ts) → NoneIn (clusters (g ∷ ts)) (origins bs) → NoneIn (clusters (g ∷ ts)) (origins rs)
    → origins_merged (clusters (g ∷ ts)) (origins (bs ++ ((g ∷ ts) ++ rs))) ≡ origins bs ++ ((origin_of g ∷ map (united (clusters (g ∷ ts))) (origins ts)) ++ origins rs)
merged_alone bs ts rs g above before after =
    let f : Origin → Origin = united (clusters (g ∷ ts)) in
    ap (map f) (map-append origin_of bs ((g ∷ ts) ++ rs) ∙ ap (λ os. origins bs ++ os) (map-append origin_of (g ∷ ts) rs))
    ∙ map-append f (origins bs) (origins (g ∷ ts) ++ origins rs)
    ∙ ap₂ (λ (ps qs : List Origin). ps ++ qs) (others_stay (clusters (g ∷ ts)) (origins bs) before)
    (map-append f (origins (g ∷ ts)) (origins rs) ∙ ap₂ (λ (o : Origin) (qs : List Origin). (o ∷ map f (origins ts)) ++ qs) (first_stays (origin_of g) (clusters ts) above) (others_stay (clusters (g ∷ ts)) (origins rs) after))

replaced_origins : (asks : Asks) (level : BufferClusterLevel) (bs ts rs : List hb_glyph_info_t) (g : hb_glyph_info_t) (count : ℕ) → asks.breaks ≡ false → manner InList level ≡ Unites → count ≡ suc (length ts)
    → AllAbove g.cluster (clusters ts) → NoneIn (clusters (g ∷ ts)) (origins bs) → NoneIn (clusters (g ∷ ts)) (origins rs)
    → origins_after asks level (Replace (length bs) count 1 ∷ []) (origins (bs ++ ((g ∷ ts) ++ rs))) ≡ origins bs ++ (origin_of g ∷ origins rs)
replaced_origins asks level bs ts rs g count unasked unites many above before after =
    let os : List Origin = origins (bs ++ ((g ∷ ts) ++ rs)) in
    let merged : List Origin = origins bs ++ ((origin_of g ∷ map (united (clusters (g ∷ ts))) (origins ts)) ++ origins rs) in
    let same : length bs ≡ length (origins bs) = sym (length-map bs origin_of) in
    let seen : numbers os ≡ clusters bs ++ (clusters (g ∷ ts) ++ clusters rs) =
    numbers_origins (bs ++ ((g ∷ ts) ++ rs)) ∙ map-append (λ (h : hb_glyph_info_t). h.cluster) bs ((g ∷ ts) ++ rs) ∙ ap (λ ns. clusters bs ++ ns) (map-append (λ (h : hb_glyph_info_t). h.cluster) (g ∷ ts) rs) in
    let b : length (clusters bs) ≡ length bs = length-map bs (λ (h : hb_glyph_info_t). h.cluster) in
    let long : count ≡ length (clusters (g ∷ ts)) = let n = length-map ts (λ (h : hb_glyph_info_t). h.cluster) in omega (arith, many, n) in
    let range : range_of (length bs) (length bs + count) (numbers os) ≡ clusters (g ∷ ts) =
    ap (range_of (length bs) (length bs + count)) seen ∙ ap (λ n. range_of n (n + count) (clusters bs ++ (clusters (g ∷ ts) ++ clusters rs))) (sym b) ∙ range_middle (clusters bs) (clusters (g ∷ ts)) (clusters rs) count long in
    let united_all : origins_merged_as (manner InList level) (length bs) (length bs + count) os ≡ merged =
    ap (λ m. origins_merged_as m (length bs) (length bs + count) os) unites ∙ ap (λ ns. origins_merged ns os) range ∙ merged_alone bs ts rs g above before after in
    let size : count ≡ suc (length (map (united (clusters (g ∷ ts))) (origins ts))) =
    let n = length-map (origins ts) (united (clusters (g ∷ ts))) in let m = length-map ts origin_of in omega (arith, many, n, m) in
    ap (λ t. origins_handed_if t (take count (drop (length bs) (origins_merged_as (manner InList level) (length bs) (length bs + count) os))) (length bs + 1) (elements_replaced (length bs) count 1 (origins_merged_as (manner InList level) (length bs) (length bs + count) os))) unasked
    ∙ ap (elements_replaced (length bs) count 1) united_all
    ∙ ap (λ n. elements_replaced n count 1 merged) same
    ∙ middle_replaced (origins bs) (origin_of g) (map (united (clusters (g ∷ ts))) (origins ts)) (origins rs) count size

-- ---- on a buffer

all_first : (h : hb_glyph_info_t) (gs : List hb_glyph_info_t) → IsRising (clusters (h ∷ gs)) → AllAbove h.cluster (clusters (h ∷ gs))
all_first h gs r = (omega arith, r.0)

rest_none : (range rs : List hb_glyph_info_t) → IsRising (clusters range) → IsRising (clusters rs) → is_below (cluster_at (length range - 1) range) (cluster_at 0 rs) ≡ true → NoneIn (clusters range) (origins rs)
rest_none range [] r s e = record {}
rest_none range (h ∷ hs) r s e = after_range h.cluster range (h ∷ hs) (last_below range h.cluster r e) (all_first h hs s)

origins_alone : (asks : Asks) (level : BufferClusterLevel) (bs ts rs : List hb_glyph_info_t) (g : hb_glyph_info_t) (count : ℕ) → asks.breaks ≡ false → manner InList level ≡ Unites → count ≡ suc (length ts)
    → IsRising (clusters (bs ++ ((g ∷ ts) ++ rs))) → is_below (cluster_at (length bs - 1) bs) (Some g.cluster) ≡ true → is_below (cluster_at (length (g ∷ ts) - 1) (g ∷ ts)) (cluster_at 0 rs) ≡ true
    → origins_after asks level (Replace (length bs) count 1 ∷ []) (origins (bs ++ ((g ∷ ts) ++ rs))) ≡ origins bs ++ (origin_of g ∷ origins rs)
origins_alone asks level bs ts rs g count unasked unites many rising before after =
    let of : hb_glyph_info_t → ℕ = λ (h : hb_glyph_info_t). h.cluster in
    let all : IsRising (clusters bs ++ clusters ((g ∷ ts) ++ rs)) = subst IsRising (map-append of bs ((g ∷ ts) ++ rs)) rising in
    let two : IsRising (clusters (g ∷ ts) ++ clusters rs) = subst IsRising (map-append of (g ∷ ts) rs) (rising_back (clusters bs) (clusters ((g ∷ ts) ++ rs)) all) in
    let range : IsRising (clusters (g ∷ ts)) = rising_front (clusters (g ∷ ts)) (clusters rs) two in
    let front : IsRising (clusters bs) = rising_front (clusters bs) (clusters ((g ∷ ts) ++ rs)) all in
    let back : IsRising (clusters rs) = rising_back (clusters (g ∷ ts)) (clusters rs) two in
    replaced_origins asks level bs ts rs g count unasked unites many range.0
    (before_range g.cluster (clusters (g ∷ ts)) bs (last_below bs g.cluster front before) (all_first g ts range))
    (rest_none (g ∷ ts) rs range back after)

-- the cluster at an index of a front
at_front : (i k : ℕ) (gs : List hb_glyph_info_t) → i < k → cluster_at i (take k gs) ≡ cluster_at i gs
at_front i zero gs lt = absurd (omega (arith, lt))
at_front i (suc k) [] lt = refl
at_front zero (suc k) (g ∷ gs) lt = refl
at_front (suc i) (suc k) (g ∷ gs) lt = at_front i k gs (omega (arith, lt))

-- the cluster at the seam of a front
at_seam : (k : ℕ) (gs : List hb_glyph_info_t) → cluster_at 0 (drop k gs) ≡ cluster_at k gs
at_seam zero gs = refl
at_seam (suc k) [] = refl
at_seam (suc k) (g ∷ gs) = at_seam k gs

walked_of : (count n : ℕ) (s : Sides) (hs : List hb_glyph_info_t) → s.is_open ≡ true → 0 < count → count ≤ length hs → IsAlone count (record s { ahead = hs })
    → HasWalked (strip s.behind ++ renumbered_first n (strip hs)) (drop count (strip hs)) (Replace (length s.behind) count 1 ∷ []) (record s { ahead = hs })
    (record s { behind = s.behind ++ map (λ (g : hb_glyph_info_t). glyph_numbered g n) (take 1 hs); ahead = drop (count - 1) (drop 1 hs); read = s.read + 1 + (count - 1) })
walked_of count n s [] opened some there alone = absurd (omega (arith, some, there))
walked_of count n s (g ∷ gs) opened some there alone =
    let k : ℕ = count - 1 in
    let one_more : count ≡ suc k = omega (arith, some) in
    let whole : (g ∷ take k gs) ++ drop k gs ≡ g ∷ gs = ap (λ ks. g ∷ ks) (take-append-drop k gs) in
    let long : length (take k gs) ≡ k = length-take-le k gs (omega (arith, there, some)) in
    let last : cluster_at (length (g ∷ take k gs) - 1) (g ∷ take k gs) ≡ cluster_at k (g ∷ gs) =
    (let m : length (g ∷ take k gs) - 1 ≡ k = omega (arith, long) in ap (λ i. cluster_at i (g ∷ take k gs)) m ∙ at_front k (suc k) (g ∷ gs) (omega arith)) in
    let next : cluster_at 0 (drop k gs) ≡ cluster_at count (g ∷ gs) = at_seam k gs ∙ ap (λ i. cluster_at i (g ∷ gs)) (sym one_more) in
    let from = origins_alone (flag_requests_of s) s.level s.behind (take k gs) (drop k gs) g count alone.unasked alone.unites (omega (arith, one_more, long))
    (subst (λ ks. IsRising (clusters (s.behind ++ ks))) (sym whole) alone.rising) alone.before (ap₂ is_below last next ∙ alone.after) in
    record {
      behind = map-append item_of s.behind (glyph_numbered g n ∷ []);
      ahead = sym (drop-map item_of k gs) ∙ ap (λ i. drop i (strip (g ∷ gs))) (sym one_more);
      happened =
          map-append origin_of (s.behind ++ glyph_numbered g n ∷ []) (drop k gs) ∙ ap (λ os. os ++ origins (drop k gs)) (map-append origin_of s.behind (glyph_numbered g n ∷ []))
          ∙ append_assoc (origins s.behind) (origin_of g ∷ []) (origins (drop k gs))
          ∙ sym (ap (λ ks. origins_after (flag_requests_of s) s.level (Replace (length s.behind) count 1 ∷ []) (origins (s.behind ++ ks))) (sym whole) ∙ from);
      view = refl;
      settings = refl;
      opened = opened;
      unrefused = refl;
    }

pub replaced_alone : (count n : ℕ) (s m t : Sides) → s.is_open ≡ true → 0 < count → count ≤ length s.ahead → IsAlone count s → m ≡ with_replaced_glyph n s → t ≡ record m { ahead = drop (count - 1) m.ahead; read = m.read + (count - 1) }
    → HasWalked (strip s.behind ++ renumbered_first n (strip s.ahead)) (drop count (strip s.ahead)) (Replace (length s.behind) count 1 ∷ []) s t
replaced_alone count n s m t opened some there alone is skipped =
    subst (HasWalked (strip s.behind ++ renumbered_first n (strip s.ahead)) (drop count (strip s.ahead)) (Replace (length s.behind) count 1 ∷ []) s)
    (sym (skipped ∙ ap (λ (q : Sides). record q { ahead = drop (count - 1) q.ahead; read = q.read + (count - 1) }) is))
    (walked_of count n s s.ahead opened some there alone)

-- ---- glyphs that are skipped

skipped_once : (s : Sides) → requests_breaks s ≡ false → with_glyph_skipped s ≡ record s { ahead = drop 1 s.ahead; read = s.read + 1 }
skipped_once s e = ap (λ b. with_sides (sides_handed_if b (take 1 s.ahead) (record { front = s.behind; back = drop 1 s.ahead })) (with_glyph_passed s)) e

pub none_skipped : (s : Sides) → s ≡ record s { ahead = drop 0 s.ahead; read = s.read + 0 }
none_skipped s = let same : s.read ≡ s.read + 0 = omega arith in ap (λ n. record s { read = n }) same

pub one_more_skipped : (i : ℕ) (s now next : Sides) → requests_breaks s ≡ false → now ≡ record s { ahead = drop i s.ahead; read = s.read + i } → next ≡ with_glyph_skipped now → next ≡ record s { ahead = drop (i + 1) s.ahead; read = s.read + (i + 1) }
one_more_skipped i s now next unasked is skips =
    let sum : s.read + i + 1 ≡ s.read + (i + 1) = omega arith in
    skips ∙ ap with_glyph_skipped is ∙ skipped_once (record s { ahead = drop i s.ahead; read = s.read + i }) unasked
    ∙ ap₂ (λ (gs : List hb_glyph_info_t) (n : ℕ). record s { ahead = gs; read = n }) (drop-drop 1 i s.ahead) sum

pub current_left : (i count : ℕ) (s now : Sides) → s.is_open ≡ true → now ≡ record s { ahead = drop i s.ahead; read = s.read + i } → i < count → count ≤ length s.ahead → HasCurrent now
current_left i count s now opened is lt le = subst HasCurrent (sym is) (record { opened = opened; current = let n = length-drop i s.ahead in omega (arith, n, lt, le) })

pub rest_there : (count n : ℕ) (s m : Sides) → 0 < count → count ≤ length s.ahead → m ≡ with_replaced_glyph n s → count - 1 ≤ length m.ahead
rest_there count n s m some there is =
    let one = length-drop 1 s.ahead in
    let same = ap (λ (q : Sides). length q.ahead) is in
    omega (arith, one, same, some, there)

pub rest_unasked : (n : ℕ) (s m : Sides) → m ≡ with_replaced_glyph n s → requests_breaks s ≡ false → requests_breaks m ≡ false
rest_unasked n s m is e = ap requests_breaks is ∙ e

pub current_there : (count : ℕ) (s : Sides) → s.is_open ≡ true → 0 < count → count ≤ length s.ahead → HasCurrent s
current_there count s opened some there = record { opened = opened; current = omega (arith, some, there) }

-- ---- the tests

pub known_alone : (count : ℕ) (known : KnownOrder) (s : Sides) → manner InList s.level ≡ Unites → requests_breaks s ≡ false → known ≡ Rising → HasOrder known (clusters (all_glyphs s))
    → is_below (cluster_at (length s.behind - 1) s.behind) (cluster_at 0 s.ahead) ≡ true → is_below (cluster_at (count - 1) s.ahead) (cluster_at count s.ahead) ≡ true → IsAlone count s
known_alone count known s unites unasked rises order before after = record {
  unites = unites;
  unasked = unasked;
  rising = subst (λ k. HasOrder k (clusters (all_glyphs s))) rises order;
  before = before;
  after = after;
}

pub none_behind : (gs : List hb_glyph_info_t) → length gs ≡ 0 → None ≡ cluster_at (length gs - 1) gs
none_behind [] e = refl
none_behind (g ∷ gs) e = absurd (omega (arith, e))

pub seen_behind : (gs : List hb_glyph_info_t) (g : hb_glyph_info_t) → slice_get gs (length gs - 1) ≡ Some g → Some g.cluster ≡ cluster_at (length gs - 1) gs
seen_behind gs g e = sym (ap (λ (o : Option hb_glyph_info_t). option_map (λ (h : hb_glyph_info_t). h.cluster) o) e)

pub none_ahead : (i : ℕ) (gs : List hb_glyph_info_t) → length gs ≤ i → None ≡ cluster_at i gs
none_ahead i [] le = refl
none_ahead zero (g ∷ gs) le = absurd (omega (arith, le))
none_ahead (suc i) (g ∷ gs) le = none_ahead i gs (omega (arith, le))

pub seen_ahead : (i : ℕ) (gs : List hb_glyph_info_t) (g : hb_glyph_info_t) → slice_get gs i ≡ Some g → Some g.cluster ≡ cluster_at i gs
seen_ahead i gs g e = sym (ap (λ (o : Option hb_glyph_info_t). option_map (λ (h : hb_glyph_info_t). h.cluster) o) e)
