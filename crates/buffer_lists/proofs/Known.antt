-- What is known of the order of clusters, and stays known.
use Rattle.std.proofs.Common.{ℕ, suc, ◌≡◌, ◌≤◌, ◌<◌, ◌+◌, ◌-◌, true, false, List, [], ◌∷◌, ◌++◌, length, take, reverse, get_or, set, arith, refl, ap, sym, subst, ◌∙◌}
use Rattle.std.proofs.lemmas.List.{set-get_or, get_or-map, take_more, map-append}
use Rattle.buffer_glyphs.specs.declared.info.hb_glyph_info_t.{hb_glyph_info_t}
use Rattle.buffer_glyphs.specs.Items.{clusters}
use Rattle.buffer_glyphs.specs.Parts.{ReverseParts, last_from}
use Rattle.buffer_glyphs.specs.Order.{AllFrom, IsInOrder, IsRising}
use Rattle.buffer_glyphs.specs.Lemmas.Parts.{event_keeps_order}
use Rattle.buffer_lists.specs.declared.order.KnownOrder.{KnownOrder}
use Rattle.buffer_lists.specs.declared.order.KnownOrder.TheVariants.{Unknown, Rising, Falling}
use Rattle.buffer_lists.specs.Known.{HasOrder, IsRisingTo}

-- any glyph, for what stands past the end of a list
abbrev pub no_glyph : hb_glyph_info_t
no_glyph = record { glyph_id = 0; mask = 0; cluster = 0; glyph_index = 0; unicode_props = record { 0 = 0 }; modified_combining_class = 0; glyph_props = record { 0 = 0 }; lig_props = 0; syllable = 0; category = 0; auxiliary = 0 }

-- a number that is put where it stands
pub back_in_place : (gs : List hb_glyph_info_t) (i c : ℕ) (d : hb_glyph_info_t) → i < length gs → (get_or gs i d).cluster ≡ c → set (clusters gs) i c ≡ clusters gs
back_in_place gs i c d lt e =
    let cluster_of : hb_glyph_info_t → ℕ = λ g. g.cluster in
    let seen : get_or (clusters gs) i c ≡ c = get_or-map cluster_of gs i d c lt ∙ e in
    ap (set (clusters gs) i) (sym seen) ∙ set-get_or (clusters gs) i c

pub rises_turned : (ns : List ℕ) → IsInOrder false ns → IsInOrder true (reverse ns)
rises_turned ns h = event_keeps_order ReverseParts false ns h

pub falls_turned : (ns : List ℕ) → IsInOrder true ns → IsInOrder false (reverse ns)
falls_turned ns h = event_keeps_order ReverseParts true ns h

all_least : (m n : ℕ) (ns : List ℕ) → m ≤ n → AllFrom (λ x y. x ≤ y) m ns → AllFrom (λ x y. x ≤ y) m (ns ++ n ∷ [])
all_least m n [] le h = (le, tt)
all_least m n (k ∷ ks) le h = (h.0, all_least m n ks le h.1)

-- a number behind others that is not below the last
pub rising_push : (x n : ℕ) (xs : List ℕ) → IsRising (x ∷ xs) → last_from x xs ≤ n → IsRising ((x ∷ xs) ++ n ∷ [])
rising_push x n [] h le = ((le, tt), (tt, tt))
rising_push x n (y ∷ ys) h le =
    let rest = rising_push y n ys h.1 le in
    let first : x ≤ y = h.0.0 in
    let last : y ≤ last_from y ys = up_to y ys h.1 in
    (all_least x n (y ∷ ys) (omega (arith, first, last, le)) h.0, rest)
  where
    up_to : (z : ℕ) (zs : List ℕ) → IsRising (z ∷ zs) → z ≤ last_from z zs
    up_to z [] k = omega arith
    up_to z (w ∷ ws) k = let there = up_to w ws k.1 in omega (arith, k.0.0, there)

pub last_got : (g : hb_glyph_info_t) (gs : List hb_glyph_info_t) (d : hb_glyph_info_t) → (get_or (g ∷ gs) (length gs) d).cluster ≡ last_from g.cluster (clusters gs)
last_got g [] d = refl
last_got g (h ∷ hs) d = last_got h hs d

-- a number alone
pub known_alone : (o : KnownOrder) (n : ℕ) → HasOrder o (n ∷ [])
known_alone Unknown n = tt
known_alone Rising n = (tt, tt)
known_alone Falling n = (tt, tt)

pub known_last_alone : (o : KnownOrder) (gs : List hb_glyph_info_t) (c : ℕ) → length gs < 1 → HasOrder o (clusters gs ++ c ∷ [])
known_last_alone o [] c lt = known_alone o c
known_last_alone o (g ∷ gs) c lt = absurd (omega arith)

pub known_first_alone : (o : KnownOrder) (gs : List hb_glyph_info_t) (c : ℕ) → length gs < 1 → HasOrder o (c ∷ clusters gs)
known_first_alone o [] c lt = known_alone o c
known_first_alone o (g ∷ gs) c lt = absurd (omega arith)

-- a glyph that is not above the first of others
from_front : (c n : ℕ) (ns : List ℕ) → c ≤ n → AllFrom (λ x y. x ≤ y) n ns → AllFrom (λ x y. x ≤ y) c ns
from_front c n [] le h = tt
from_front c n (m ∷ ms) le h = (omega (arith, le, h.0), from_front c n ms le h.1)

pub rises_front : (gs : List hb_glyph_info_t) (d : hb_glyph_info_t) (c : ℕ) → 1 ≤ length gs → c ≤ (get_or gs 0 d).cluster → IsRising (clusters gs) → IsRising (c ∷ clusters gs)
rises_front [] d c le first h = absurd (omega arith)
rises_front (g ∷ gs) d c le first h = ((first, from_front c g.cluster (clusters gs) first h.0), h)

pub rises_behind : (gs : List hb_glyph_info_t) (d : hb_glyph_info_t) (c : ℕ) → 1 ≤ length gs → (get_or gs (length gs - 1) d).cluster ≤ c → IsRising (clusters gs) → IsRising (clusters gs ++ c ∷ [])
rises_behind [] d c le last h = absurd (omega arith)
rises_behind (g ∷ gs) d c le last h =
    let less : suc (length gs) - 1 ≡ length gs = omega arith in
    let seen : last_from g.cluster (clusters gs) ≤ c = subst (λ (n : ℕ). n ≤ c) (last_got g gs d) (subst (λ (n : ℕ). (get_or (g ∷ gs) n d).cluster ≤ c) less last) in
    rising_push g.cluster c (clusters gs) h seen

pub last_append : (x n : ℕ) (xs : List ℕ) → last_from x (xs ++ n ∷ []) ≡ n
last_append x n [] = refl
last_append x n (y ∷ ys) = last_append y n ys

-- one number more
pub rising_to_more : (start m n : ℕ) (xs : List ℕ) → IsRisingTo start xs m → m ≤ n → IsRisingTo start (xs ++ n ∷ []) n
rising_to_more start m n xs h le = record { rises = rising_push start n xs h.rises (omega (arith, h.last, le)); last = last_append start n xs }

pub rising_to_next : (start m : ℕ) (gs : List hb_glyph_info_t) (i : ℕ) (d : hb_glyph_info_t) → i < length gs → IsRisingTo start (clusters (take i gs)) m → m ≤ (get_or gs i d).cluster
    → IsRisingTo start (clusters (take (i + 1) gs)) (get_or gs i d).cluster
rising_to_next start m gs i d lt h le =
    let cluster_of : hb_glyph_info_t → ℕ = λ g. g.cluster in
    let cut : clusters (take (i + 1) gs) ≡ clusters (take i gs) ++ (get_or gs i d).cluster ∷ [] = ap clusters (take_more gs i d lt) ∙ map-append cluster_of (take i gs) (get_or gs i d ∷ []) in
    rw cut (rising_to_more start m (get_or gs i d).cluster (clusters (take i gs)) h le)

-- two lists, one after the other
pub rises_on : (start m n : ℕ) (xs ys : List ℕ) → IsRisingTo start xs m → IsRisingTo m ys n → IsRising (xs ++ ys)
rises_on start m n xs ys h k = (chain start xs h.rises (rw (← h.last) at k.rises)).1
  where
    all : (x y : ℕ) (fs ks : List ℕ) → x ≤ y → AllFrom (λ p q. p ≤ q) y ks → AllFrom (λ p q. p ≤ q) x fs → AllFrom (λ p q. p ≤ q) x (fs ++ ks)
    all x y [] [] le a b = tt
    all x y [] (z ∷ ks) le a b = (omega (arith, a.0), all x y [] ks le a.1 b)
    all x y (z ∷ fs) ks le a b = (b.0, all x y fs ks le a b.1)

    up_to : (z : ℕ) (zs : List ℕ) → IsRising (z ∷ zs) → z ≤ last_from z zs
    up_to z [] a = omega arith
    up_to z (w ∷ ws) a = let there = up_to w ws a.1 in omega (arith, a.0.0, there)

    chain : (s : ℕ) (fs : List ℕ) → IsRising (s ∷ fs) → IsRising (last_from s fs ∷ ys) → IsRising (s ∷ (fs ++ ys))
    chain s [] a b = b
    chain s (z ∷ fs) a b = (all s (last_from z fs) (z ∷ fs) ys (let up = up_to z fs a.1 in omega (arith, a.0.0, up)) b.0 a.0, chain z fs a.1 b)
