-- What is known of the order of clusters, once glyphs were written.
use Rattle.std.proofs.Common.{ℕ, ◌≡◌, ◌≤◌, ◌+◌, ◌-◌, ◌==◌, ◌&&◌, Bool, true, List, [], ◌∷◌, ◌++◌, length, take, drop, arith, refl, ap, sym, subst, ◌∙◌, append_assoc}
use Rattle.std.specs.Prelude.{slice_range}
use Rattle.std.specs.List.{list_all}
use Rattle.std.proofs.lemmas.Grind.{common_steps}
use Rattle.std.proofs.lemmas.List.{append-nil, drop-drop, drop-map, length-map, map-append, take-append-drop, take-map, take-take}
use Rattle.std.proofs.lemmas.List.Folds.{list_all-append, list_all-map}
use Rattle.buffer_glyphs.specs.declared.info.hb_glyph_info_t.{hb_glyph_info_t}
use Rattle.buffer_glyphs.specs.Items.{clusters}
use Rattle.buffer_glyphs.specs.Order.{IsInOrder}
use Rattle.buffer_lists.specs.declared.order.KnownOrder.{KnownOrder}
use Rattle.buffer_lists.specs.Known.{HasOrder}
use Rattle.buffer_core.specs.Sides.{Sides, all_glyphs}
use Rattle.buffer_core.specs.Lending.{with_refilled}
use Rattle.buffer_stages.specs.Lemmas.Written.{written_all}
use Rattle.buffer_stages.specs.Moves.{MoveToFront, IsGrowing, all_moved, are_one_cluster, with_range_moved, reach}
use Rattle.buffer_stages.specs.Lemmas.Moves.{moved_seen, take_both}
use Rattle.buffer_stages.specs.Lemmas.Nested.{all_moved_seen, reach_grows}

-- such a number after a list of it
one_after : (c : ℕ) (ns : List ℕ) → list_all (λ n. n == c) ns ≡ true → ns ++ c ∷ [] ≡ c ∷ ns
one_after c [] e = refl
one_after c (n ∷ ns) e =
    let first : n ≡ c = grind (arith, common_steps, e) in
    let rest : list_all (λ m. m == c) ns ≡ true = grind (arith, common_steps, e) in
    ap (λ ms. n ∷ ms) (one_after c ns rest) ∙ ap (λ m. m ∷ c ∷ ns) first ∙ ap (λ m. c ∷ m ∷ ns) (sym first)

both_ways : (c : ℕ) (ms ns : List ℕ) → list_all (λ n. n == c) ms ≡ true → list_all (λ n. n == c) ns ≡ true → ns ++ ms ≡ ms ++ ns
both_ways c ms [] a b = sym (append-nil ms)
both_ways c ms (n ∷ ns) a b =
    let first : n ≡ c = grind (arith, common_steps, b) in
    let rest : list_all (λ m. m == c) ns ≡ true = grind (arith, common_steps, b) in
    ap (λ ks. n ∷ ks) (both_ways c ms ns a rest) ∙ ap (λ m. m ∷ (ms ++ ns)) first ∙ ap (λ ks. ks ++ ns) (sym (one_after c ms a)) ∙ append_assoc ms (c ∷ []) ns ∙ ap (λ m. ms ++ m ∷ ns) (sym first)

both_all : (p : ℕ → Bool) (ms ns : List ℕ) → list_all p (ms ++ ns) ≡ true → (list_all p ms ≡ true) × (list_all p ns ≡ true)
both_all p ms ns e =
    let both : (list_all p ms && list_all p ns) ≡ true = sym (list_all-append p ms ns) ∙ e in
    (grind (arith, common_steps, both), grind (arith, common_steps, both))

-- numbers that are all the same
numbers_moved : (c start n k : ℕ) (ns : List ℕ) → list_all (λ m. m == c) (take (n + k) (drop start ns)) ≡ true → with_range_moved start n k ns ≡ ns
numbers_moved c start n k ns e =
    let ms = drop start ns in
    let both = both_all (λ m. m == c) (take n ms) (take k (drop n ms)) (ap (list_all (λ m. m == c)) (sym (take_both n k ms)) ∙ e) in
    let swapped : take k (drop n ms) ++ take n ms ≡ take (n + k) ms = both_ways c (take n ms) (take k (drop n ms)) both.0 both.1 ∙ sym (take_both n k ms) in
    rw (← drop-drop n start ns, ← drop-drop (n + k) start ns, swapped) (append_assoc (take start ns) (take (n + k) ms) (drop (n + k) ms) ∙ ap (λ zs. take start ns ++ zs) (take-append-drop (n + k) ms) ∙ take-append-drop start ns)

one_all : {P : Type 0} (gs : List hb_glyph_info_t) → are_one_cluster gs ≡ true → ((c : ℕ) → list_all (λ n. n == c) (clusters gs) ≡ true → P) → P
one_all [] e k = k 0 refl
one_all (g ∷ gs) e k =
    let cluster_of : hb_glyph_info_t → ℕ = λ h. h.cluster in
    let self : (g.cluster == g.cluster) ≡ true = grind (arith, common_steps) in
    k g.cluster (rw self (list_all-map (λ n. n == g.cluster) cluster_of gs ∙ e))

-- glyphs of one cluster that were permuted
pub clusters_moved : (start n k : ℕ) (gs : List hb_glyph_info_t) → are_one_cluster (take (n + k) (drop start gs)) ≡ true → clusters (with_range_moved start n k gs) ≡ clusters gs
clusters_moved start n k gs e =
    let cluster_of : hb_glyph_info_t → ℕ = λ g. g.cluster in
    one_all (take (n + k) (drop start gs)) e (λ c all.
    let seen : take (n + k) (drop start (clusters gs)) ≡ clusters (take (n + k) (drop start gs)) = ap (take (n + k)) (drop-map cluster_of start gs) ∙ take-map cluster_of (n + k) (drop start gs) in
    moved_seen cluster_of start n k gs ∙ numbers_moved c start n k (clusters gs) (ap (list_all (λ m. m == c)) seen ∙ all))

-- a part in front
all_before : (p : ℕ → Bool) (i j : ℕ) (ns : List ℕ) → i ≤ j → list_all p (take j ns) ≡ true → list_all p (take i ns) ≡ true
all_before p i j ns le e =
    ap (list_all p) (sym (take-take i j ns le)) ∙ (both_all p (take i (take j ns)) (drop i (take j ns)) (ap (list_all p) (take-append-drop i (take j ns)) ∙ e)).0

numbers_all_moved : (c start n : ℕ) (ms : List MoveToFront) (ns : List ℕ) → IsGrowing n ms → list_all (λ m. m == c) (take (reach n ms) (drop start ns)) ≡ true → all_moved start ms ns ≡ ns
numbers_all_moved c start n [] ns g e = refl
numbers_all_moved c start n (m ∷ ms) ns g e =
    let r = m.passed + m.taken in
    let first = all_before (λ k. k == c) r (reach r ms) (drop start ns) (reach_grows r ms g.1) e in
    ap (all_moved start ms) (numbers_moved c start m.passed m.taken ns first) ∙ numbers_all_moved c start r ms ns g.1 e

-- glyphs of one cluster that moved to the front, one after another
pub clusters_all_moved : (start : ℕ) (ms : List MoveToFront) (gs : List hb_glyph_info_t) → IsGrowing 1 ms → are_one_cluster (take (reach 1 ms) (drop start gs)) ≡ true → clusters (all_moved start ms gs) ≡ clusters gs
clusters_all_moved start ms gs grow e =
    let cluster_of : hb_glyph_info_t → ℕ = λ g. g.cluster in
    let n = reach 1 ms in
    one_all (take n (drop start gs)) e (λ c all.
    let seen : take n (drop start (clusters gs)) ≡ clusters (take n (drop start gs)) = ap (take n) (drop-map cluster_of start gs) ∙ take-map cluster_of n (drop start gs) in
    all_moved_seen cluster_of start ms gs ∙ numbers_all_moved c start 1 ms (clusters gs) grow (ap (list_all (λ m. m == c)) seen ∙ all))

as_many : (c : ℕ) (ms ns : List ℕ) → list_all (λ n. n == c) ms ≡ true → list_all (λ n. n == c) ns ≡ true → length ms ≡ length ns → ms ≡ ns
as_many c [] [] a b e = refl
as_many c [] (n ∷ ns) a b e = absurd (omega (arith, e))
as_many c (m ∷ ms) [] a b e = absurd (omega (arith, e))
as_many c (m ∷ ms) (n ∷ ns) a b e =
    let first : m ≡ n = grind (arith, common_steps, a, b) in
    let ours : list_all (λ n. n == c) ms ≡ true = grind (arith, common_steps, a) in
    let theirs : list_all (λ n. n == c) ns ≡ true = grind (arith, common_steps, b) in
    ap (λ ks. m ∷ ks) (as_many c ms ns ours theirs (omega (arith, e))) ∙ ap (λ k. k ∷ ns) first

-- glyphs of one cluster instead of as many, of which the same order is known
pub clusters_among : (gs hs : List hb_glyph_info_t) → are_one_cluster gs ≡ true → length hs ≡ length gs → ((p : hb_glyph_info_t → Bool) → list_all p gs ≡ true → list_all p hs ≡ true) → clusters hs ≡ clusters gs
clusters_among gs hs one many scratch_flags =
    let cluster_of : hb_glyph_info_t → ℕ = λ g. g.cluster in
    one_all gs one (λ c all.
    let is_c : ℕ → Bool = λ n. n == c in
    let ours : list_all (λ g. is_c (cluster_of g)) gs ≡ true = sym (list_all-map is_c cluster_of gs) ∙ all in
    let theirs : list_all is_c (clusters hs) ≡ true = list_all-map is_c cluster_of hs ∙ scratch_flags (λ g. is_c (cluster_of g)) ours in
    as_many c (clusters hs) (clusters gs) theirs all (length-map hs cluster_of ∙ many ∙ sym (length-map gs cluster_of)))

-- what is known of glyphs of which a range of the output is permuted, if it is of one cluster
pub order_moved_behind : (o p : KnownOrder) (is_one : Bool) (start end : ℕ) (gs hs : List hb_glyph_info_t) → ((old new : List ℕ) → ((falls : Bool) → is_one ≡ true → IsInOrder falls old → IsInOrder falls new) → HasOrder o old → HasOrder p new)
    → is_one ≡ are_one_cluster (slice_range gs start end) → HasOrder o (clusters (gs ++ hs)) → (n k : ℕ) → start + (n + k) ≡ end → HasOrder p (clusters (with_range_moved start n k gs ++ hs))
order_moved_behind o p is_one start end gs hs kept one h n k at =
    let cluster_of : hb_glyph_info_t → ℕ = λ g. g.cluster in
    let wide : n + k ≡ end - start = omega (arith, at) in
    kept (clusters (gs ++ hs)) (clusters (with_range_moved start n k gs ++ hs)) (λ falls is_one h.
    let same : are_one_cluster (take (n + k) (drop start gs)) ≡ true = ap (λ m. are_one_cluster (take m (drop start gs))) wide ∙ sym one ∙ is_one in
    let all : clusters (with_range_moved start n k gs ++ hs) ≡ clusters (gs ++ hs) = map-append cluster_of (with_range_moved start n k gs) hs ∙ ap (λ ns. ns ++ clusters hs) (clusters_moved start n k gs same) ∙ sym (map-append cluster_of gs hs) in
    subst (IsInOrder falls) (sym all) h) h

-- glyphs whose clusters are as they were
pub order_written : (o : KnownOrder) (gs : List hb_glyph_info_t) (s : Sides) → length gs ≡ length (all_glyphs s) → clusters gs ≡ clusters (all_glyphs s) → HasOrder o (clusters (all_glyphs s)) → HasOrder o (clusters (all_glyphs (with_refilled gs s)))
order_written o gs s long same h = subst (HasOrder o) (sym (ap clusters (written_all gs s long) ∙ same)) h
