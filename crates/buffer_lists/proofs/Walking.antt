-- Steps of a walk of deletions.
use borrow.Rule.Slice.PartMut.{put_mid}
use Rattle.std.proofs.Common.{ℕ, ◌≡◌, ◌≤◌, ◌<◌, ◌+◌, ◌-◌, ◌==◌, true, false, if◌then◌else◌, List, [], ◌∷◌, ◌++◌, Option, Some, None, length, map, take, drop, get_or, set, arith, refl, ap, sym, ◌∙◌}
use Rattle.std.proofs.lemmas.Grind.{common_steps}
use Rattle.std.proofs.lemmas.List.{drop_more, drop-drop, length-take-le, length-map, take_more_set, drop-set-lt}
use Rattle.std.proofs.Math.Seq.{take-append_seam, drop-append-add}
use Rattle.std.specs.List.{list_all}
use Rattle.buffer_glyphs.specs.declared.info.hb_glyph_info_t.{hb_glyph_info_t as Glyph}
use Rattle.buffer_glyphs.specs.Items.{clusters}
use Rattle.buffer_glyphs.specs.Parts.{last_of}
use Rattle.buffer_glyphs.specs.Deletions.{end_renumbered}
use Rattle.buffer_glyphs.specs.Lemmas.Drawn.{last_more}
use Rattle.buffer_glyphs.specs.Deleting.{end_recast}
use Rattle.buffer_glyphs.proofs.Deleted.{end_clusters, end_length}
use Rattle.buffer_lists.specs.DeletionWalk.{settled_glyphs}
use Rattle.buffer_glyphs.proofs.OneDeleted.{has_last}

pub settled_put : (kept : ℕ) (g : Glyph) (gs range : List Glyph) → range ≡ end_recast g (take kept gs) → put_mid 0 kept gs range ≡ end_recast g (take kept gs) ++ drop kept gs
settled_put kept g gs range e = rw e refl

pub moved_front : {X : Type 0} (to from : ℕ) (xs : List X) (d : X) → to ≤ from → from < length xs → take (to + 1) (set xs to (get_or xs from d)) ≡ take to xs ++ take 1 (drop from xs)
moved_front to from xs d le lt =
    let within : to < length xs = omega arith in
    take_more_set xs to (get_or xs from d) within ∙ ap (λ ys. take to xs ++ ys) (sym (ap (take 1) (drop_more xs from d lt)))

pub moved_back : {X : Type 0} (to from : ℕ) (xs : List X) (y : X) → to ≤ from → drop (from + 1) (set xs to y) ≡ drop (from + 1) xs
moved_back to from xs y le = drop-set-lt (from + 1) xs to y (omega arith)

pub settled_length : (due : Option Glyph) (gs : List Glyph) → length (settled_glyphs due gs) ≡ length gs
settled_length None gs = refl
settled_length (Some d) gs = end_length d gs

pub settled_front : (due : Option Glyph) (k : ℕ) (gs new : List Glyph) → k ≤ length gs → new ≡ settled_glyphs due (take k gs) ++ drop k gs → take k new ≡ settled_glyphs due (take k gs)
settled_front due k gs new le e =
    let long : length (settled_glyphs due (take k gs)) ≡ k = settled_length due (take k gs) ∙ length-take-le k gs le in
    ap (take k) e ∙ ap (λ n. take n (settled_glyphs due (take k gs) ++ drop k gs)) (sym long) ∙ take-append_seam (settled_glyphs due (take k gs)) (drop k gs)

pub settled_back : (due : Option Glyph) (k i : ℕ) (gs new : List Glyph) → k ≤ i → k ≤ length gs → new ≡ settled_glyphs due (take k gs) ++ drop k gs → drop i new ≡ drop i gs
settled_back due k i gs new ki le e =
    let long : length (settled_glyphs due (take k gs)) ≡ k = settled_length due (take k gs) ∙ length-take-le k gs le in
    let there : i ≡ length (settled_glyphs due (take k gs)) + (i - k) = omega arith in
    let here : k + (i - k) ≡ i = omega arith in
    ap (drop i) e ∙ ap (λ n. drop n (settled_glyphs due (take k gs) ++ drop k gs)) there ∙ drop-append-add (settled_glyphs due (take k gs)) (drop k gs) (i - k) ∙ drop-drop (i - k) k gs ∙ ap (λ n. drop n gs) here

pub keep_front : (due : Option Glyph) (k at : ℕ) (gs mid new : List Glyph) → k ≤ at → at < length gs → mid ≡ settled_glyphs due (take k gs) ++ drop k gs → take (k + 1) new ≡ take k mid ++ take 1 (drop at mid) → take (k + 1) new ≡ settled_glyphs due (take k gs) ++ take 1 (drop at gs)
keep_front due k at gs mid new le lt m e =
    e ∙ ap (λ ys. ys ++ take 1 (drop at mid)) (settled_front due k gs mid (omega arith) m) ∙ ap (λ ys. settled_glyphs due (take k gs) ++ take 1 ys) (settled_back due k at gs mid le (omega arith) m)

pub keep_ahead : (due : Option Glyph) (k at : ℕ) (gs mid new : List Glyph) → k ≤ at → at < length gs → mid ≡ settled_glyphs due (take k gs) ++ drop k gs → drop (at + 1) new ≡ drop (at + 1) mid → drop (at + 1) new ≡ drop (at + 1) gs
keep_ahead due k at gs mid new le lt m e = e ∙ settled_back due k (at + 1) gs mid (omega arith) (omega arith) m

-- the last number of a list whose last run took another
last_renumbered : (p n : ℕ) (ns : List ℕ) → last_of ns ≡ Some p → last_of (end_renumbered p n ns) ≡ Some n
last_renumbered p n [] e = cc
last_renumbered p n (m ∷ []) e =
    let here : m ≡ p = cc in
    let same : (m == p) ≡ true = grind (arith, common_steps, here) in
    rw same refl
last_renumbered p n (m ∷ k ∷ ks) e =
    let rest = last_renumbered p n (k ∷ ks) (sym (last_more m k ks) ∙ e) in
    elim (list_all (λ j. j == p) (m ∷ k ∷ ks)) as (λ t. last_of (if t then map (λ (j : ℕ). n) (m ∷ k ∷ ks) else m ∷ end_renumbered p n (k ∷ ks)) ≡ Some n) [
      | true ↦ all_n m k ks
      | false ↦ behind m (end_renumbered p n (k ∷ ks)) rest
    ]
  where
    all_n : (a b : ℕ) (js : List ℕ) → last_of (map (λ (j : ℕ). n) (a ∷ b ∷ js)) ≡ Some n
    all_n a b [] = refl
    all_n a b (c ∷ cs) = last_more n n (map (λ (j : ℕ). n) (c ∷ cs)) ∙ all_n b c cs

    behind : (a : ℕ) (js : List ℕ) → last_of js ≡ Some n → last_of (a ∷ js) ≡ Some n
    behind a [] h = cc
    behind a (b ∷ bs) h = last_more a b bs ∙ h

pub last_recast : (g : Glyph) (gs : List Glyph) → 0 < length gs → last_of (clusters (end_recast g gs)) ≡ Some g.cluster
last_recast g gs lt =
    let f : Glyph → ℕ = λ h. h.cluster in
    let last = has_last (clusters gs) (omega (arith, length-map gs f)) in
    ap last_of (end_clusters last.0 g gs last.1) ∙ last_renumbered last.0 g.cluster (clusters gs) last.1

pub last_settled : (d : Glyph) (k : ℕ) (gs : List Glyph) → 0 < k → k ≤ length gs → last_of (clusters (settled_glyphs (Some d) (take k gs))) ≡ Some d.cluster
last_settled d k gs some le = last_recast d (take k gs) (omega (arith, length-take-le k gs le))
