-- Glyphs of one cluster, outside of which a range has none.
use Rattle.std.specs.Prelude.{slice_range}
use Rattle.std.specs.List.{list_any}
use Rattle.std.proofs.Common.{ℕ, ◌≡◌, ◌≤◌, ◌<◌, ◌-◌, ◌==◌, ◌||◌, not, inl, inr, Bool, true, false, if◌then◌else◌, List, [], ◌∷◌, length, map, get_or, arith, refl, ap, sym, subst, ◌∙◌}
use Rattle.std.proofs.lemmas.Grind.{common_steps}
use Rattle.buffer_glyphs.specs.declared.info.hb_glyph_info_t.{hb_glyph_info_t}
use Rattle.buffer_glyphs.specs.Items.{clusters}
use Rattle.buffer_glyphs.specs.Parts.{range_of, last_from}
use Rattle.buffer_glyphs.specs.Order.{IsOrdered, has_number}
use Rattle.buffer_glyphs.specs.Merges.{least_number}
use Rattle.buffer_glyphs.specs.Glyphs.{in_cluster, glyphs_merged, marked_outside, glyphs_marked, has_several_numbers}
use Rattle.buffer_glyphs.specs.Lemmas.Parts.{Stands, stands_self}
use Rattle.buffer_glyphs.specs.Lemmas.Ends.{from_first, to_last}
use Rattle.buffer_glyphs.specs.Lemmas.Glyphs.{cut_out, range_clusters, same_cluster}
use Rattle.buffer_glyphs.specs.Lemmas.Merges.{least_number_is}
use Rattle.buffer_glyphs.specs.Lemmas.Numbers.{Has, has_here, has_more, has_cases}
use Rattle.buffer_glyphs.proofs.Ends.{stands_anti, by_order}
use Rattle.buffer_glyphs.proofs.Joined.{by_range, first_cluster_is, last_cluster_is}
use Rattle.buffer_facts.proofs.Numbers.{same_by_test as equal_test}

none_any : (low : ℕ) (ns : List ℕ) → ((n : ℕ) → Has ns n → n ≡ low) → list_any (λ n. not (n == low)) ns ≡ false
none_any low [] all = refl
none_any low (n ∷ ns) all =
    let same : (n == low) ≡ true = let is = all n (has_here n ns) in grind (arith, common_steps, is) in
    let rest = none_any low ns (λ m h. all m (has_more n m ns h)) in
    rw (same, rest) refl

-- in order, numbers that end as they begin are all the same
all_alike : (x : ℕ) (xs : List ℕ) → IsOrdered (x ∷ xs) → x ≡ last_from x xs → (n : ℕ) → Has (x ∷ xs) n → n ≡ x
all_alike x xs o e n h = by_order (x ∷ xs) o (λ falls chain.
    let from = from_first (Stands falls) (stands_self falls) x n xs chain.0 h in
    let to = subst (Stands falls n) (sym e) (to_last (Stands falls) (stands_self falls) x n xs chain h) in
    stands_anti falls n x to from)

alike_even : (x : ℕ) (xs : List ℕ) → IsOrdered (x ∷ xs) → x ≡ last_from x xs → has_several_numbers (x ∷ xs) ≡ false
alike_even x xs o e =
    let low = least_number (x ∷ xs) in
    let least : low ≡ x = all_alike x xs o e low (least_number_is x xs).among in
    none_any low (x ∷ xs) (λ n h. all_alike x xs o e n h ∙ sym least)

pub ends_even : (gs : List hb_glyph_info_t) (d : hb_glyph_info_t) → 0 < length gs → IsOrdered (clusters gs) → ((get_or gs 0 d).cluster == (get_or gs (length gs - 1) d).cluster) ≡ true → has_several_numbers (clusters gs) ≡ false
ends_even gs d some o same_ends =
    let same : (get_or gs 0 d).cluster ≡ (get_or gs (length gs - 1) d).cluster = equal_test (get_or gs 0 d).cluster (get_or gs (length gs - 1) d).cluster same_ends in
    by_range (clusters gs) (get_or gs 0 d).cluster (get_or gs (length gs - 1) d).cluster (first_cluster_is gs d some) (last_cluster_is gs d some) (λ xs is end.
    let first = (get_or gs 0 d).cluster in
    subst (λ (ns : List ℕ). has_several_numbers ns ≡ false) (sym is) (alike_even first xs (subst IsOrdered is o) (same ∙ end)))

pub none_even : (gs : List hb_glyph_info_t) → length gs ≡ 0 → has_several_numbers (clusters gs) ≡ false
none_even [] e = refl
none_even (g ∷ gs) e = absurd (omega (arith, e))

unmarked : (bits low : ℕ) (gs : List hb_glyph_info_t) → list_any (λ n. not (n == low)) (clusters gs) ≡ false → map (marked_outside bits low) gs ≡ gs
unmarked bits low [] e = refl
unmarked bits low (g ∷ gs) e = by_test (g.cluster == low) refl (λ f. unmarked bits low gs f)
  where
    by_test : (t : Bool) → (g.cluster == low) ≡ t → (list_any (λ n. not (n == low)) (clusters gs) ≡ false → map (marked_outside bits low) gs ≡ gs) → marked_outside bits low g ∷ map (marked_outside bits low) gs ≡ g ∷ gs
    by_test true is rest =
        let here : marked_outside bits low g ≡ g = rw is refl in
        let left : list_any (λ n. not (n == low)) (clusters gs) ≡ false = sym (ap (λ (b : Bool). not b || list_any (λ n. not (n == low)) (clusters gs)) is) ∙ e in
        rw (here, rest left) refl
    by_test false is rest = let no : true ≡ false = sym (ap (λ (b : Bool). not b || list_any (λ n. not (n == low)) (clusters gs)) is) ∙ e in cc

-- a range of one cluster stays as it is
pub even_marked : (bits i j : ℕ) (gs : List hb_glyph_info_t) → i ≤ j → has_several_numbers (clusters (slice_range gs i j)) ≡ false → gs ≡ glyphs_marked bits i j gs
even_marked bits i j gs le e =
    let low = least_number (clusters (slice_range gs i j)) in
    let same = unmarked bits low (slice_range gs i j) e in
    rw (range_clusters gs i j, same) (sym (cut_out i j gs le))

pub even_range : (i j : ℕ) (gs : List hb_glyph_info_t) → has_several_numbers (clusters (slice_range gs i j)) ≡ false → false ≡ has_several_numbers (range_of i j (clusters gs))
even_range i j gs e = rw (range_clusters gs i j) (sym e)

pub stays_unmarked : (bits low : ℕ) (gs : List hb_glyph_info_t) → low ≡ least_number (clusters gs) → list_any (λ n. not (n == low)) (clusters gs) ≡ false → gs ≡ map (marked_outside bits (least_number (clusters gs))) gs
stays_unmarked bits low gs is e = sym (ap (λ n. map (marked_outside bits n) gs) (sym is) ∙ unmarked bits low gs e)

-- a number of a range of one number is its least
even_least : (low m : ℕ) (ns : List ℕ) → list_any (λ n. not (n == low)) ns ≡ false → Has ns m → m ≡ low
even_least low m [] e h = cc
even_least low m (n ∷ ns) e h = by_test (n == low) refl (λ left later. even_least low m ns left later)
  where
    by_test : (t : Bool) → (n == low) ≡ t → (list_any (λ k. not (k == low)) ns ≡ false → Has ns m → m ≡ low) → m ≡ low
    by_test true is rest =
        let left : list_any (λ k. not (k == low)) ns ≡ false = sym (ap (λ (b : Bool). not b || list_any (λ k. not (k == low)) ns) is) ∙ e in
        elim (has_cases n m ns h) [ inl here ↦ sym here ∙ equal_test n low is | inr later ↦ rest left later ]
    by_test false is rest = let no : true ≡ false = sym (ap (λ (b : Bool). not b || list_any (λ k. not (k == low)) ns) is) ∙ e in cc

-- a merge of a range of one cluster changes nothing
even_stays : (range : List ℕ) (gs : List hb_glyph_info_t) → has_several_numbers range ≡ false → glyphs_merged range gs ≡ gs
even_stays range [] e = refl
even_stays range (g ∷ gs) e = ap (λ h. h ∷ glyphs_merged range gs) (by_test (has_number range g.cluster) refl) ∙ ap (λ hs. g ∷ hs) (even_stays range gs e)
  where
    by_test : (t : Bool) → has_number range g.cluster ≡ t → in_cluster (if t then least_number range else g.cluster) g ≡ g
    by_test true h = let same : g.cluster ≡ least_number range = even_least (least_number range) g.cluster range e h in ap (λ n. in_cluster n g) (sym same) ∙ same_cluster g
    by_test false h = same_cluster g

pub even_merged : (i j : ℕ) (gs : List hb_glyph_info_t) → has_several_numbers (clusters (slice_range gs i j)) ≡ false → gs ≡ glyphs_merged (range_of i j (clusters gs)) gs
even_merged i j gs e = sym (even_stays (range_of i j (clusters gs)) gs (sym (even_range i j gs e)))
