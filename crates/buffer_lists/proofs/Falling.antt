-- Clusters that are seen to fall, one after another.
use Rattle.std.proofs.Common.{ℕ, suc, ◌≡◌, ◌≤◌, ◌<◌, ◌+◌, ◌-◌, List, [], ◌∷◌, ◌++◌, length, take, get_or, arith, ap, subst, ◌∙◌}
use Rattle.std.proofs.lemmas.List.{take_more, map-append}
use Rattle.buffer_glyphs.specs.declared.info.hb_glyph_info_t.{hb_glyph_info_t}
use Rattle.buffer_glyphs.specs.Items.{clusters}
use Rattle.buffer_glyphs.specs.Parts.{last_from}
use Rattle.buffer_glyphs.specs.Order.{AllFrom, IsFalling}
use Rattle.buffer_lists.specs.Known.{IsFallingTo}
use Rattle.buffer_lists.proofs.Known.{last_got, last_append}

all_most : (m n : ℕ) (ns : List ℕ) → n ≤ m → AllFrom (λ x y. y ≤ x) m ns → AllFrom (λ x y. y ≤ x) m (ns ++ n ∷ [])
all_most m n [] le h = (le, tt)
all_most m n (k ∷ ks) le h = (h.0, all_most m n ks le h.1)

down_to : (z : ℕ) (zs : List ℕ) → IsFalling (z ∷ zs) → last_from z zs ≤ z
down_to z [] k = omega arith
down_to z (w ∷ ws) k = let there = down_to w ws k.1 in omega (arith, k.0.0, there)

-- a number behind others that is not above the last
falling_push : (x n : ℕ) (xs : List ℕ) → IsFalling (x ∷ xs) → n ≤ last_from x xs → IsFalling ((x ∷ xs) ++ n ∷ [])
falling_push x n [] h le = ((le, tt), (tt, tt))
falling_push x n (y ∷ ys) h le =
    let rest = falling_push y n ys h.1 le in
    let first : y ≤ x = h.0.0 in
    let last : last_from y ys ≤ y = down_to y ys h.1 in
    (all_most x n (y ∷ ys) (omega (arith, first, last, le)) h.0, rest)

pub falls_behind : (gs : List hb_glyph_info_t) (d : hb_glyph_info_t) (c : ℕ) → 1 ≤ length gs → c ≤ (get_or gs (length gs - 1) d).cluster → IsFalling (clusters gs) → IsFalling (clusters gs ++ c ∷ [])
falls_behind [] d c le last h = absurd (omega arith)
falls_behind (g ∷ gs) d c le last h =
    let less : suc (length gs) - 1 ≡ length gs = omega arith in
    let seen : c ≤ last_from g.cluster (clusters gs) = subst (λ (n : ℕ). c ≤ n) (last_got g gs d) (subst (λ (n : ℕ). c ≤ (get_or (g ∷ gs) n d).cluster) less last) in
    falling_push g.cluster c (clusters gs) h seen

-- a glyph that is not below the first of others
from_front : (c n : ℕ) (ns : List ℕ) → n ≤ c → AllFrom (λ x y. y ≤ x) n ns → AllFrom (λ x y. y ≤ x) c ns
from_front c n [] le h = tt
from_front c n (m ∷ ms) le h = (omega (arith, le, h.0), from_front c n ms le h.1)

pub falls_front : (gs : List hb_glyph_info_t) (d : hb_glyph_info_t) (c : ℕ) → 1 ≤ length gs → (get_or gs 0 d).cluster ≤ c → IsFalling (clusters gs) → IsFalling (c ∷ clusters gs)
falls_front [] d c le first h = absurd (omega arith)
falls_front (g ∷ gs) d c le first h = ((first, from_front c g.cluster (clusters gs) first h.0), h)

-- one number more
falling_to_more : (start m n : ℕ) (xs : List ℕ) → IsFallingTo start xs m → n ≤ m → IsFallingTo start (xs ++ n ∷ []) n
falling_to_more start m n xs h le = record { falls = falling_push start n xs h.falls (omega (arith, h.last, le)); last = last_append start n xs }

pub falling_to_next : (start m : ℕ) (gs : List hb_glyph_info_t) (i : ℕ) (d : hb_glyph_info_t) → i < length gs → IsFallingTo start (clusters (take i gs)) m → (get_or gs i d).cluster ≤ m
    → IsFallingTo start (clusters (take (i + 1) gs)) (get_or gs i d).cluster
falling_to_next start m gs i d lt h le =
    let cluster_of : hb_glyph_info_t → ℕ = λ g. g.cluster in
    let cut : clusters (take (i + 1) gs) ≡ clusters (take i gs) ++ (get_or gs i d).cluster ∷ [] = ap clusters (take_more gs i d lt) ∙ map-append cluster_of (take i gs) (get_or gs i d ∷ []) in
    rw cut (falling_to_more start m (get_or gs i d).cluster (clusters (take i gs)) h le)

-- two lists, one after the other
pub falls_on : (start m n : ℕ) (xs ys : List ℕ) → IsFallingTo start xs m → IsFallingTo m ys n → IsFalling (xs ++ ys)
falls_on start m n xs ys h k = (chain start xs h.falls (rw (← h.last) at k.falls)).1
  where
    all : (x y : ℕ) (fs ks : List ℕ) → y ≤ x → AllFrom (λ p q. q ≤ p) y ks → AllFrom (λ p q. q ≤ p) x fs → AllFrom (λ p q. q ≤ p) x (fs ++ ks)
    all x y [] [] le a b = tt
    all x y [] (z ∷ ks) le a b = (omega (arith, a.0), all x y [] ks le a.1 b)
    all x y (z ∷ fs) ks le a b = (b.0, all x y fs ks le a b.1)

    chain : (s : ℕ) (fs : List ℕ) → IsFalling (s ∷ fs) → IsFalling (last_from s fs ∷ ys) → IsFalling (s ∷ (fs ++ ys))
    chain s [] a b = b
    chain s (z ∷ fs) a b = (all s (last_from z fs) (z ∷ fs) ys (let down = down_to z fs a.1 in omega (arith, a.0.0, down)) b.0 a.0, chain z fs a.1 b)
