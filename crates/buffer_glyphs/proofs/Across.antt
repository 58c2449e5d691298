-- The least cluster of two lists, one after the other.
use Rattle.std.specs.Prelude.{not}
use Rattle.std.specs.List.{list_any}
use Rattle.std.proofs.Common.{ℕ, ◌≡◌, ◌<◌, ◌==◌, ◌||◌, min, Bool, true, false, List, [], ◌∷◌, ◌++◌, fold, length, refl, arith, ap, sym, ◌∙◌, append-nil}
use Rattle.std.proofs.lemmas.List.Sums.{fold-append}
use Rattle.buffer_glyphs.specs.declared.info.hb_glyph_info_t.{hb_glyph_info_t}
use Rattle.buffer_glyphs.specs.Items.{clusters}
use Rattle.buffer_glyphs.specs.Merges.{least_number}
use Rattle.buffer_glyphs.specs.Glyphs.{has_several_numbers}

no_clusters : (gs : List hb_glyph_info_t) → length gs ≡ 0 → clusters gs ≡ []
no_clusters [] e = refl
no_clusters (g ∷ gs) e = cc

pub least_second : (gs hs : List hb_glyph_info_t) → length gs ≡ 0 → least_number (clusters hs) ≡ least_number (clusters gs ++ clusters hs)
least_second gs hs e = ap (λ ns. least_number (ns ++ clusters hs)) (sym (no_clusters gs e))

pub least_first : (gs hs : List hb_glyph_info_t) → length hs ≡ 0 → least_number (clusters gs) ≡ least_number (clusters gs ++ clusters hs)
least_first gs hs e = ap least_number (sym (ap (λ ns. clusters gs ++ ns) (no_clusters hs e) ∙ append-nil (clusters gs)))

least_on : (m n : ℕ) (ns : List ℕ) → fold min (min m n) ns ≡ min m (fold min n ns)
least_on m n [] = refl
least_on m n (k ∷ ks) = let same : min (min m n) k ≡ min m (min n k) = omega arith in ap (λ j. fold min j ks) same ∙ least_on m (min n k) ks

least_of : (ms : List ℕ) (n : ℕ) (ns : List ℕ) → 0 < length ms → least_number (ms ++ n ∷ ns) ≡ min (least_number ms) (least_number (n ∷ ns))
least_of [] n ns lt = absurd (omega arith)
least_of (m ∷ ms) n ns lt = fold-append min m ms (n ∷ ns) ∙ least_on (fold min m ms) n ns

pub least_both : (gs hs : List hb_glyph_info_t) → 0 < length gs → 0 < length hs → min (least_number (clusters gs)) (least_number (clusters hs)) ≡ least_number (clusters gs ++ clusters hs)
least_both [] hs lt more = absurd (omega arith)
least_both (g ∷ gs) [] lt more = absurd (omega arith)
least_both (g ∷ gs) (h ∷ hs) lt more = sym (least_of (clusters (g ∷ gs)) h.cluster (clusters hs) (omega arith))

any_append : (p : ℕ → Bool) (ms ns : List ℕ) → list_any p (ms ++ ns) ≡ (list_any p ms || list_any p ns)
any_append p [] ns = refl
any_append p (m ∷ ms) ns = by_test (p m) (any_append p ms ns)
  where
    by_test : (t : Bool) → list_any p (ms ++ ns) ≡ (list_any p ms || list_any p ns) → (t || list_any p (ms ++ ns)) ≡ ((t || list_any p ms) || list_any p ns)
    by_test true e = refl
    by_test false e = e

pub told_across : (ms ns : List ℕ) (low : ℕ) → low ≡ least_number (ms ++ ns) → (list_any (λ n. not (n == low)) ms || list_any (λ n. not (n == low)) ns) ≡ has_several_numbers (ms ++ ns)
told_across ms ns low e = sym (any_append (λ n. not (n == low)) ms ns) ∙ ap (λ k. list_any (λ n. not (n == k)) (ms ++ ns)) e
