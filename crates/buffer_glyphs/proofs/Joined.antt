-- A merge in order, part by part.
use Rattle.std.specs.Prelude.{slice_range}
use Rattle.std.proofs.Common.{ℕ, zero, suc, ◌≡◌, ◌≤◌, ◌<◌, ◌+◌, ◌-◌, inl, inr, Bool, true, false, List, [], ◌∷◌, ◌++◌, Some, slice_get, length, map, take, drop, get_or, min, arith, refl, ap, sym, subst, ◌∙◌, append_assoc}
use Rattle.std.proofs.lemmas.List.{map-append, drop-drop, length-map}
use Rattle.buffer_glyphs.specs.declared.info.hb_glyph_info_t.{hb_glyph_info_t}
use Rattle.buffer_glyphs.specs.Items.{clusters}
use Rattle.buffer_glyphs.specs.Parts.{first_of, last_of, range_of, last_from}
use Rattle.buffer_glyphs.specs.Order.{IsChain, IsOrdered}
use Rattle.buffer_glyphs.specs.Merges.{least_number}
use Rattle.buffer_glyphs.specs.Glyphs.{in_cluster, glyphs_merged, glyphs_renumbered}
use Rattle.buffer_glyphs.specs.Lemmas.Parts.{Stands, stands_self}
use Rattle.buffer_glyphs.specs.Lemmas.Ends.{from_first, to_last}
use Rattle.buffer_glyphs.specs.Lemmas.Glyphs.{cut_out, nothing_merged}
use Rattle.buffer_glyphs.specs.Lemmas.Deletions.{last_is}
use Rattle.buffer_glyphs.specs.Lemmas.Merges.{least_number_is, chain_left, chain_right, chain_across}
use Rattle.buffer_glyphs.specs.Lemmas.Numbers.{Has, has_here, has_last_from}
use Rattle.buffer_glyphs.proofs.Parts.{merged_parts}
use Rattle.buffer_glyphs.proofs.Ends.{Turned, merged_end, stands_anti, turned_anti, by_order}

pub first_cluster_is : (gs : List hb_glyph_info_t) (d : hb_glyph_info_t) → 0 < length gs → first_of (clusters gs) ≡ Some (get_or gs 0 d).cluster
first_cluster_is [] d lt = absurd (omega arith)
first_cluster_is (g ∷ gs) d lt = refl

got_cluster : (gs : List hb_glyph_info_t) (i : ℕ) (d : hb_glyph_info_t) → i < length gs → slice_get (clusters gs) i ≡ Some (get_or gs i d).cluster
got_cluster [] i d lt = absurd (omega arith)
got_cluster (g ∷ gs) zero d lt = refl
got_cluster (g ∷ gs) (suc i) d lt = got_cluster gs i d (omega arith)

pub last_cluster_is : (gs : List hb_glyph_info_t) (d : hb_glyph_info_t) → 0 < length gs → last_of (clusters gs) ≡ Some (get_or gs (length gs - 1) d).cluster
last_cluster_is gs d lt =
    let cluster_of : hb_glyph_info_t → ℕ = λ g. g.cluster in
    ap (λ n. slice_get (clusters gs) (n - 1)) (length-map gs cluster_of) ∙ got_cluster gs (length gs - 1) d (omega arith)

some_is : {m n : ℕ} → Some m ≡ Some n → m ≡ n
some_is e = cc

ordered_from : (falls : Bool) (ns : List ℕ) → IsChain (Stands falls) ns → IsOrdered ns
ordered_from false ns h = inl h
ordered_from true ns h = inr h

-- the numbers before a range, the range and those after it
record IsCut (ns front range back : List ℕ) : Type 0 where
  whole : ns ≡ front ++ (range ++ back)

cut_at : (gs : List hb_glyph_info_t) (i j : ℕ) → i ≤ j → IsCut (clusters gs) (clusters (take i gs)) (clusters (slice_range gs i j)) (clusters (drop j gs))
cut_at gs i j le =
    let cluster_of : hb_glyph_info_t → ℕ = λ g. g.cluster in
    record { whole = ap clusters (sym (cut_out i j gs le)) ∙ map-append cluster_of (take i gs ++ slice_range gs i j) (drop j gs) ∙ ap (λ ns. ns ++ clusters (drop j gs)) (map-append cluster_of (take i gs) (slice_range gs i j)) ∙ append_assoc (clusters (take i gs)) (clusters (slice_range gs i j)) (clusters (drop j gs)) }

first_front : (R : ℕ → ℕ → Type 0) (front : List ℕ) (x : ℕ) (xs back : List ℕ) → IsChain R (front ++ ((x ∷ xs) ++ back)) → IsChain R (front ++ x ∷ [])
first_front R front x xs back h = chain_left R (front ++ x ∷ []) (xs ++ back) (subst (IsChain R) (sym (append_assoc front (x ∷ []) (xs ++ back))) h)

last_back : (R : ℕ → ℕ → Type 0) (x : ℕ) (xs back : List ℕ) → IsChain R ((x ∷ xs) ++ back) → IsChain R (last_from x xs ∷ back)
last_back R x [] back h = h
last_back R x (y ∷ ys) back h = last_back R y ys back h.1

pub by_range : {P : Type 0} (range : List ℕ) (first last : ℕ) → first_of range ≡ Some first → last_of range ≡ Some last → ((xs : List ℕ) → range ≡ first ∷ xs → last ≡ last_from first xs → P) → P
by_range [] first last f l k = cc
by_range (x ∷ xs) first last f l k =
    let is : x ≡ first = some_is f in
    k xs (ap (λ n. n ∷ xs) is) (sym (some_is (sym (last_is x xs) ∙ l)) ∙ ap (λ n. last_from n xs) is)

-- the cluster that begins a range is in order after those before it
pub order_front : (gs : List hb_glyph_info_t) (i j first last : ℕ) → i ≤ j → first_of (clusters (slice_range gs i j)) ≡ Some first → last_of (clusters (slice_range gs i j)) ≡ Some last → IsOrdered (clusters gs) → IsOrdered (clusters (take i gs) ++ first ∷ [])
order_front gs i j first last le f l o = by_range (clusters (slice_range gs i j)) first last f l (λ xs is _. by_order (clusters gs) o (λ falls chain.
    let whole = subst (IsChain (Stands falls)) ((cut_at gs i j le).whole ∙ ap (λ ns. clusters (take i gs) ++ (ns ++ clusters (drop j gs))) is) chain in
    ordered_from falls (clusters (take i gs) ++ first ∷ []) (first_front (Stands falls) (clusters (take i gs)) first xs (clusters (drop j gs)) whole)))

-- and the one that ends it before those after it
pub order_back : (gs : List hb_glyph_info_t) (i j first last : ℕ) → i ≤ j → first_of (clusters (slice_range gs i j)) ≡ Some first → last_of (clusters (slice_range gs i j)) ≡ Some last → IsOrdered (clusters gs) → IsOrdered (last ∷ clusters (drop (j - i) (drop i gs)))
order_back gs i j first last le f l o =
    let there : i + (j - i) ≡ j = omega arith in
    let beyond : drop (j - i) (drop i gs) ≡ drop j gs = drop-drop (j - i) i gs ∙ ap (λ n. drop n gs) there in
    rw beyond (by_range (clusters (slice_range gs i j)) first last f l (λ xs is end. by_order (clusters gs) o (λ falls chain.
    let whole = subst (IsChain (Stands falls)) ((cut_at gs i j le).whole ∙ ap (λ ns. clusters (take i gs) ++ (ns ++ clusters (drop j gs))) is) chain in
    let rest = last_back (Stands falls) first xs (clusters (drop j gs)) (chain_right (Stands falls) (clusters (take i gs)) ((first ∷ xs) ++ clusters (drop j gs)) whole) in
    ordered_from falls (last ∷ clusters (drop j gs)) (subst (λ (n : ℕ). IsChain (Stands falls) (n ∷ clusters (drop j gs))) (sym end) rest))))

-- a range of a list in order is in order
pub order_range : (gs : List hb_glyph_info_t) (i j : ℕ) → i ≤ j → IsOrdered (clusters gs) → IsOrdered (clusters (slice_range gs i j))
order_range gs i j le o = by_order (clusters gs) o (λ falls chain.
    let range = clusters (slice_range gs i j) in
    let back = clusters (drop j gs) in
    let whole = subst (IsChain (Stands falls)) (cut_at gs i j le).whole chain in
    ordered_from falls range (chain_left (Stands falls) range back (chain_right (Stands falls) (clusters (take i gs)) (range ++ back) whole)))

-- in order, the least is at one of the ends
least_of_ends : (falls : Bool) (x : ℕ) (xs : List ℕ) → IsChain (Stands falls) (x ∷ xs) → min x (last_from x xs) ≡ least_number (x ∷ xs)
least_of_ends falls x xs chain = by_case falls chain
  where
    low : ℕ
    low = least_number (x ∷ xs)

    under_first : low ≤ x
    under_first = (least_number_is x xs).below x (has_here x xs)

    under_last : low ≤ last_from x xs
    under_last = (least_number_is x xs).below (last_from x xs) (has_last_from x xs)

    by_case : (f : Bool) → IsChain (Stands f) (x ∷ xs) → min x (last_from x xs) ≡ least_number (x ∷ xs)
    by_case false h = let over : x ≤ low = from_first (Stands false) (stands_self false) x low xs h.0 (least_number_is x xs).among in omega (arith, over, under_first, under_last)
    by_case true h = let over : last_from x xs ≤ low = to_last (Stands true) (stands_self true) x low xs h (least_number_is x xs).among in omega (arith, over, under_first, under_last)

pub least_at_ends : (ns : List ℕ) (first last : ℕ) → first_of ns ≡ Some first → last_of ns ≡ Some last → IsOrdered ns → min first last ≡ least_number ns
least_at_ends ns first last f l o = by_range ns first last f l (λ xs is end. by_order ns o (λ falls chain.
    let ends : min first (last_from first xs) ≡ least_number (first ∷ xs) = least_of_ends falls first xs (subst (IsChain (Stands falls)) is chain) in
    ap (min first) end ∙ ends ∙ ap least_number (sym is)))

pub order_second : (ms ns : List ℕ) → IsOrdered (ms ++ ns) → IsOrdered ns
order_second ms ns o = by_order (ms ++ ns) o (λ falls chain. ordered_from falls ns (chain_right (Stands falls) ms ns chain))

by_first : {P : Type 0} (range : List ℕ) (first : ℕ) → first_of range ≡ Some first → ((xs : List ℕ) → range ≡ first ∷ xs → P) → P
by_first [] first f k = cc
by_first (x ∷ xs) first f k = k xs (ap (λ n. n ∷ xs) (some_is f))

-- the glyphs before a range
pub merged_front : (range : List ℕ) (first : ℕ) (gs : List hb_glyph_info_t) → first_of range ≡ Some first → IsOrdered (clusters gs ++ range) → glyphs_renumbered first (least_number range) gs ≡ glyphs_merged range gs
merged_front range first gs f o = by_first range first f (λ xs is. by_order (clusters gs ++ range) o (λ falls chain.
    let whole = subst (λ (ns : List ℕ). IsChain (Stands falls) (clusters gs ++ ns)) is chain in
    let own = chain_right (Stands falls) (clusters gs) (first ∷ xs) whole in
    rw is (sym (merged_end (Turned (Stands falls)) (turned_anti falls) (first ∷ xs) first (has_here first xs)
    (λ n h. from_first (Stands falls) (stands_self falls) first n xs own.0 h) gs
    (λ n h. chain_across (Stands falls) n first (clusters gs) (first ∷ xs) whole h (has_here first xs))))))

pub order_beside : (range : List ℕ) (first : ℕ) (ns : List ℕ) → first_of range ≡ Some first → IsOrdered (ns ++ range) → IsOrdered (ns ++ first ∷ [])
order_beside range first ns f o = by_first range first f (λ xs is. by_order (ns ++ range) o (λ falls chain.
    let whole = subst (λ (ms : List ℕ). IsChain (Stands falls) (ns ++ ms)) is chain in
    ordered_from falls (ns ++ first ∷ []) (chain_left (Stands falls) (ns ++ first ∷ []) xs (subst (IsChain (Stands falls)) (sym (append_assoc ns (first ∷ []) xs)) whole))))

pub renamed_beside : (range : List ℕ) (first low : ℕ) (gs hs : List hb_glyph_info_t) → first_of range ≡ Some first → low ≡ least_number range → IsOrdered (clusters gs ++ range) → hs ≡ glyphs_renumbered first low gs → hs ≡ glyphs_merged range gs
renamed_beside range first low gs hs f is o e = e ∙ ap (λ n. glyphs_renumbered first n gs) is ∙ merged_front range first gs f o

-- and those after it
merged_back : (range : List ℕ) (first last : ℕ) (gs : List hb_glyph_info_t) → first_of range ≡ Some first → last_of range ≡ Some last → IsOrdered (range ++ clusters gs) → glyphs_renumbered last (least_number range) gs ≡ glyphs_merged range gs
merged_back range first last gs f l o = by_range range first last f l (λ xs is end. by_order (range ++ clusters gs) o (λ falls chain.
    let whole = subst (λ (ns : List ℕ). IsChain (Stands falls) (ns ++ clusters gs)) is chain in
    let own = chain_left (Stands falls) (first ∷ xs) (clusters gs) whole in
    let last_among : Has (first ∷ xs) last = subst (Has (first ∷ xs)) (sym end) (has_last_from first xs) in
    rw is (sym (merged_end (Stands falls) (stands_anti falls) (first ∷ xs) last last_among
    (λ n h. subst (Stands falls n) (sym end) (to_last (Stands falls) (stands_self falls) first n xs own h)) gs
    (λ n h. chain_across (Stands falls) last n (first ∷ xs) (clusters gs) whole last_among h)))))

by_first_and_last : {P : Type 0} (range : List ℕ) (last : ℕ) → last_of range ≡ Some last → ((first : ℕ) → first_of range ≡ Some first → P) → P
by_first_and_last [] last l k = cc
by_first_and_last (x ∷ xs) last l k = k x refl

-- the cluster that ends a range, before those after it
pub order_after : (range : List ℕ) (last : ℕ) (ns : List ℕ) → last_of range ≡ Some last → IsOrdered (range ++ ns) → IsOrdered (last ∷ ns)
order_after range last ns l o = by_first_and_last range last l (λ first f. by_range range first last f l (λ xs is end. by_order (range ++ ns) o (λ falls chain.
    let whole = subst (λ (ms : List ℕ). IsChain (Stands falls) (ms ++ ns)) is chain in
    ordered_from falls (last ∷ ns) (subst (λ (n : ℕ). IsChain (Stands falls) (n ∷ ns)) (sym end) (last_back (Stands falls) first xs ns whole)))))

pub renamed_after : (range : List ℕ) (last low : ℕ) (gs hs : List hb_glyph_info_t) → last_of range ≡ Some last → low ≡ least_number range → IsOrdered (range ++ clusters gs) → hs ≡ glyphs_renumbered last low gs → hs ≡ glyphs_merged range gs
renamed_after range last low gs hs l is o e = by_first_and_last range last l (λ first f. e ∙ ap (λ n. glyphs_renumbered last n gs) is ∙ merged_back range first last gs f l o)

pub joined_parts : (gs : List hb_glyph_info_t) (i j low first last : ℕ) (front range back : List hb_glyph_info_t) → i ≤ j → IsOrdered (clusters gs)
    → first_of (clusters (slice_range gs i j)) ≡ Some first → last_of (clusters (slice_range gs i j)) ≡ Some last → low ≡ least_number (clusters (slice_range gs i j))
    → front ≡ glyphs_renumbered first low (take i gs)
    → range ≡ map (in_cluster low) (slice_range gs i j)
    → back ≡ glyphs_renumbered last low (drop (j - i) (drop i gs))
    → front ++ (range ++ back) ≡ glyphs_merged (range_of i j (clusters gs)) gs
joined_parts gs i j low first last front range back le o f l is fe re be =
    let there : i + (j - i) ≡ j = omega arith in
    let beyond : drop (j - i) (drop i gs) ≡ drop j gs = drop-drop (j - i) i gs ∙ ap (λ n. drop n gs) there in
    let cut = (cut_at gs i j le).whole in
    let ns = clusters (slice_range gs i j) in
    let near : IsOrdered (clusters (take i gs) ++ ns) = by_order (clusters gs) o (λ falls chain. ordered_from falls (clusters (take i gs) ++ ns) (chain_left (Stands falls) (clusters (take i gs) ++ ns) (clusters (drop j gs)) (subst (IsChain (Stands falls)) (cut ∙ sym (append_assoc (clusters (take i gs)) ns (clusters (drop j gs)))) chain))) in
    let far : IsOrdered (ns ++ clusters (drop j gs)) = by_order (clusters gs) o (λ falls chain. ordered_from falls (ns ++ clusters (drop j gs)) (chain_right (Stands falls) (clusters (take i gs)) (ns ++ clusters (drop j gs)) (subst (IsChain (Stands falls)) cut chain))) in
    merged_parts gs i j front range back
    (fe ∙ ap (λ n. glyphs_renumbered first n (take i gs)) is ∙ merged_front ns first (take i gs) f near)
    (re ∙ ap (λ n. map (in_cluster n) (slice_range gs i j)) is)
    (be ∙ ap (λ n. glyphs_renumbered last n (drop (j - i) (drop i gs))) is ∙ ap (glyphs_renumbered last (least_number ns)) beyond ∙ merged_back ns first last (drop j gs) f l far ∙ ap (glyphs_merged ns) (sym beyond))

pub none_merged : (i j : ℕ) (gs : List hb_glyph_info_t) → i ≡ j → gs ≡ glyphs_merged (range_of i j (clusters gs)) gs
none_merged i j gs e = let none : j - i ≡ 0 = omega arith in rw none (sym (nothing_merged gs))

pub nothing_beside : (range gs : List hb_glyph_info_t) → length range ≡ 0 → gs ≡ glyphs_merged (clusters range) gs
nothing_beside [] gs e = sym (nothing_merged gs)
nothing_beside (g ∷ range) gs e = cc
