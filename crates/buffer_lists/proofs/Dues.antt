-- A run that takes the cluster of one glyph after another takes that of the last.
use Rattle.std.proofs.Common.{ℕ, ◌≡◌, ◌≢◌, ◌≤◌, ◌<◌, ◌+◌, ◌==◌, ◌&&◌, inl, inr, Bool, true, false, if◌then◌else◌, List, [], ◌∷◌, ◌++◌, Option, Some, None, length, map, arith, refl, ap, sym, subst, ◌∙◌}
use Rattle.std.specs.List.{list_all}
use Rattle.std.proofs.lemmas.Grind.{common_steps}
use Rattle.std.proofs.lemmas.List.{length-map}
use Rattle.std.specs.Int.RustNames.{bit_and}
use Rattle.buffer_glyphs.specs.declared.info.hb_glyph_info_t.{hb_glyph_info_t as Glyph}
use Rattle.buffer_glyphs.specs.Items.{clusters}
use Rattle.buffer_glyphs.specs.Parts.{last_of, last_from}
use Rattle.buffer_glyphs.specs.Order.{IsOrdered}
use Rattle.buffer_glyphs.specs.Lemmas.Numbers.{Has, has_here, has_more, has_last_from}
use Rattle.buffer_glyphs.specs.Lemmas.Parts.{Stands, stands_self}
use Rattle.buffer_glyphs.specs.Lemmas.Ends.{to_last}
use Rattle.buffer_glyphs.specs.Lemmas.Merges.{chain_left, chain_across}
use Rattle.buffer_glyphs.specs.Lemmas.Deletions.{last_is}
use Rattle.buffer_glyphs.specs.Deleting.{recast, end_recast_from, end_recast}
use Rattle.buffer_glyphs.proofs.Deleted.{recast_cluster, flags_put}
use Rattle.buffer_lists.specs.DeletionWalk.{IsDue, settled_glyphs}
use Rattle.buffer_glyphs.proofs.OneDeleted.{has_last}
use Rattle.buffer_lists.proofs.Walking.{last_recast}
use Rattle.buffer_facts.proofs.Numbers.{same_by_test as test_equal, test_of_apart as apart_test, test_of_same as equal_test}

-- a glyph that went to one cluster and then to another
recast_twice : (c d k m : ℕ) (h : Glyph) → h.cluster ≢ c → h.cluster ≢ d → c ≢ d → recast d m (recast c k h) ≡ recast d m h
recast_twice c d k m h off away apart =
    let one : (h.cluster == c) ≡ false = apart_test h.cluster c off in
    let two : (h.cluster == d) ≡ false = apart_test h.cluster d away in
    let three : (c == d) ≡ false = apart_test c d apart in
    rw (one, two, three) (ap (λ (n : ℕ). record h { cluster = d; mask = n + bit_and m 7 }) (flags_put h.mask k))

all_recast : (p : ℕ) (g d : Glyph) (hs : List Glyph) → list_all (λ (k : Glyph). k.cluster == p) hs ≡ true → d.cluster < p → g.cluster < d.cluster
    → map (recast g.cluster g.mask) (map (recast d.cluster d.mask) hs) ≡ map (recast g.cluster g.mask) hs
all_recast p g d [] all low less = refl
all_recast p g d (h ∷ hs) all low less =
    let first : (h.cluster == p) ≡ true = (both_true (h.cluster == p) (list_all (λ (k : Glyph). k.cluster == p) hs) all).0 in
    let rest = (both_true (h.cluster == p) (list_all (λ (k : Glyph). k.cluster == p) hs) all).1 in
    let is = test_equal h.cluster p first in
    let once = recast_twice d.cluster g.cluster d.mask g.mask h (λ e. absurd (omega (arith, e, is))) (λ e. absurd (omega (arith, e, is))) (λ e. absurd (omega (arith, e))) in
    ap (λ k. k ∷ map (recast g.cluster g.mask) (map (recast d.cluster d.mask) hs)) once ∙ ap (λ ks. recast g.cluster g.mask h ∷ ks) (all_recast p g d hs rest low less)
  where
    both_true : (s t : Bool) → (s && t) ≡ true → (s ≡ true) × (t ≡ true)
    both_true true t e = (refl, e)
    both_true false t e = cc

all_there : (g : Glyph) (hs : List Glyph) → list_all (λ (k : Glyph). k.cluster == g.cluster) (map (recast g.cluster g.mask) hs) ≡ true
all_there g [] = refl
all_there g (h ∷ hs) =
    let here : ((recast g.cluster g.mask h).cluster == g.cluster) ≡ true = equal_test (recast g.cluster g.mask h).cluster g.cluster (recast_cluster g.cluster g.mask h) in
    rw (here, all_there g hs) refl

end_twice : (p : ℕ) (g d : Glyph) (hs : List Glyph) → d.cluster < p → g.cluster < d.cluster → ((n : ℕ) → Has (clusters hs) n → d.cluster < n)
    → end_recast_from d.cluster g (end_recast_from p d hs) ≡ end_recast_from p g hs
end_twice p g d [] low less above = refl
end_twice p g d (h ∷ hs) low less above = by_test (list_all (λ (k : Glyph). k.cluster == p) (h ∷ hs)) refl (end_twice p g d hs low less (λ n has. above n (has_more h.cluster n (clusters hs) has)))
  where
    by_test : (t : Bool) → list_all (λ (k : Glyph). k.cluster == p) (h ∷ hs) ≡ t → end_recast_from d.cluster g (end_recast_from p d hs) ≡ end_recast_from p g hs
        → end_recast_from d.cluster g (if t then map (recast d.cluster d.mask) (h ∷ hs) else h ∷ end_recast_from p d hs) ≡ (if t then map (recast g.cluster g.mask) (h ∷ hs) else h ∷ end_recast_from p g hs)
    by_test true e rest = let there = all_there d (h ∷ hs) in rw there (all_recast p g d (h ∷ hs) e low less)
    by_test false e rest =
        let far = above h.cluster (has_here h.cluster (clusters hs)) in
        let off : (h.cluster == d.cluster) ≡ false = apart_test h.cluster d.cluster (λ same. absurd (omega (arith, same, far))) in
        rw off (ap (λ ks. h ∷ ks) rest)

-- what is due, and then a glyph of a lesser cluster
pub recast_due : (due : Option Glyph) (in_order : Bool) (g : Glyph) (hs : List Glyph) (p : ℕ) → IsDue in_order due hs → last_of (clusters (settled_glyphs due hs)) ≡ Some p → g.cluster < p → end_recast g hs ≡ end_recast g (settled_glyphs due hs)
recast_due None in_order g hs p is last lt = refl
recast_due (Some d) in_order g hs p is last lt =
    let f : Glyph → ℕ = λ h. h.cluster in
    let old = has_last (clusters hs) (omega (arith, is.1, length-map hs f)) in
    let new = last_recast d hs is.1 in
    let same : p ≡ d.cluster = some_is (sym last ∙ new) in
    let low : d.cluster < old.0 = is.2 old.0 (last_has (clusters hs) old.0 old.1) in
    let first : end_recast d hs ≡ end_recast_from old.0 d hs = let o = old.1 in rw o refl in
    let second : end_recast g hs ≡ end_recast_from old.0 g hs = let o = old.1 in rw o refl in
    let third : end_recast g (end_recast d hs) ≡ end_recast_from d.cluster g (end_recast d hs) = rw new refl in
    second ∙ sym (end_twice old.0 g d hs low (omega (arith, lt, same)) is.2) ∙ sym (ap (end_recast_from d.cluster g) first) ∙ sym third
  where
    some_is : {m n : ℕ} → Some m ≡ Some n → m ≡ n
    some_is e = cc

    last_has : (ns : List ℕ) (n : ℕ) → last_of ns ≡ Some n → Has ns n
    last_has [] n e = cc
    last_has (x ∷ xs) n e = subst (Has (x ∷ xs)) (some_is (sym (last_is x xs) ∙ e)) (has_last_from x xs)

-- a glyph that is less than the last of others in order is less than all of them
less_than_all : (ns : List ℕ) (p n : ℕ) (back : List ℕ) → IsOrdered (ns ++ n ∷ back) → last_of ns ≡ Some p → n < p → (m : ℕ) → Has ns m → n < m
less_than_all [] p n back o last lt m has = cc
less_than_all (x ∷ xs) p n back o last lt m has =
    let is : last_from x xs ≡ p = some_is (sym (last_is x xs) ∙ last) in
    elim o [
      | inl rises ↦ absurd (let up : last_from x xs ≤ n = chain_across (Stands false) (last_from x xs) n (x ∷ xs) (n ∷ back) rises (has_last_from x xs) (has_here n back) in omega (arith, up, is))
      | inr falls ↦ let down : last_from x xs ≤ m = to_last (Stands true) (stands_self true) x m xs (chain_left (Stands true) (x ∷ xs) (n ∷ back) falls) has in omega (arith, down, is)
    ]
  where
    some_is : {i j : ℕ} → Some i ≡ Some j → i ≡ j
    some_is e = cc

pub due_new : (due : Option Glyph) (in_order : Bool) (g : Glyph) (hs back : List Glyph) (p : ℕ) → in_order ≡ true → 0 < length hs → IsDue in_order due hs → IsOrdered (clusters (settled_glyphs due hs) ++ clusters (g ∷ back)) → last_of (clusters (settled_glyphs due hs)) ≡ Some p → g.cluster < p
    → IsDue in_order (Some g) hs
due_new None in_order g hs back p sure some is o last lt = (sure, some, less_than_all (clusters hs) p g.cluster (clusters back) o last lt)
due_new (Some d) in_order g hs back p sure some is o last lt =
    let same : p ≡ d.cluster = some_is (sym last ∙ last_recast d hs some) in
    (sure, some, λ n has. omega (arith, is.2 n has, same))
  where
    some_is : {m n : ℕ} → Some m ≡ Some n → m ≡ n
    some_is e = cc
