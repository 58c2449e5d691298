-- Flags handed on in a walk of deletions, and by a replacement.
use borrow.Rule.Slice.PartMut.{put_mid}
use Rattle.std.proofs.Common.{ℕ, ◌≡◌, ◌≤◌, ◌<◌, ◌+◌, ◌-◌, ◌==◌, Bool, true, false, if◌then◌else◌, List, [], ◌∷◌, ◌++◌, Option, Some, None, length, map, take, drop, arith, refl, ap, sym, subst, ◌∙◌}
use Rattle.std.specs.List.{list_all}
use Rattle.std.specs.Int.RustNames.{bit_and, bit_or}
use Rattle.std.proofs.lemmas.Grind.{common_steps}
use Rattle.std.proofs.lemmas.Nat.{and_mask}
use Rattle.std.proofs.lemmas.List.{append-nil, drop-drop, length-append, length-map, length-take-le, map-append, take-append-drop, take-take}
use Rattle.std.proofs.Math.Seq.{take-append_seam, drop-append_seam, drop-append-add}
use Rattle.buffer_glyphs.specs.declared.info.hb_glyph_info_t.{hb_glyph_info_t as Glyph}
use Rattle.buffer_glyphs.specs.declared.level.BufferClusterLevel.{BufferClusterLevel as Level}
use Rattle.buffer_glyphs.specs.Items.{Position, clusters, without_flags}
use Rattle.buffer_glyphs.specs.Parts.{first_of, last_of, or}
use Rattle.buffer_glyphs.specs.Order.{IsOrdered}
use Rattle.buffer_glyphs.specs.Glyphs.{glyph_flagged}
use Rattle.buffer_glyphs.specs.Replacements.{glyph_numbered, numbered_copies}
use Rattle.buffer_glyphs.specs.Origins.{flags_for, origins, other_cluster, with_last_changed}
use Rattle.buffer_glyphs.specs.Deleting.{recast, end_recast_from, end_recast, glyphs_handed_after, glyphs_handed_before}
use Rattle.buffer_glyphs.specs.Lemmas.Handed.{after_clusters, before_clusters, flags_there, last_beyond, last_fixed}
use Rattle.buffer_glyphs.specs.Lemmas.Numbers.{Has, has_here, has_more}
use Rattle.buffer_lists.specs.declared.deletion_within.walk.Walk.{Walk}
use Rattle.buffer_lists.specs.Copies.{with_copies}
use Rattle.buffer_lists.specs.DeletionWalk.{DeletionState, HasFlags, IsDue, IsWalk, settled_glyphs, walk_at, without_glyph}
use Rattle.buffer_glyphs.proofs.OneDeleted.{has_last}
use Rattle.buffer_lists.proofs.Walking.{settled_back, settled_front, settled_length}
use Rattle.buffer_rows.proofs.Paged.{above_differs as apart_test}
use Rattle.buffer_glyphs.proofs.DeletedOrigins.{flags_taken}
use Rattle.buffer_facts.proofs.Numbers.{test_of_same as equal_test}

-- ---- the last of a list

behind : {X : Type 0} (a x : X) (js : List X) → last_of js ≡ Some x → last_of (a ∷ js) ≡ Some x
behind a x [] h = cc
behind a x (b ∷ bs) h = last_beyond a b bs ∙ h

-- ---- a run that took the flags of a glyph

one_recast : (d h : Glyph) → d.cluster < h.cluster → bit_and (recast d.cluster d.mask h).mask 7 ≡ bit_and d.mask 7
one_recast d h lt = let off = apart_test h.cluster d.cluster lt in rw off (flags_taken h.mask d.mask)

run_last : (d h : Glyph) (hs : List Glyph) → ((n : ℕ) → Has (clusters (h ∷ hs)) n → d.cluster < n) → (x : Glyph) × (last_of (map (recast d.cluster d.mask) (h ∷ hs)) ≡ Some x) × (bit_and x.mask 7 ≡ bit_and d.mask 7)
run_last d h [] above = (recast d.cluster d.mask h, refl, one_recast d h (above h.cluster (has_here h.cluster [])))
run_last d h (k ∷ ks) above =
    let rest = run_last d k ks (λ n has. above n (has_more h.cluster n (clusters (k ∷ ks)) has)) in
    (rest.0, behind (recast d.cluster d.mask h) rest.0 (map (recast d.cluster d.mask) (k ∷ ks)) rest.1, rest.2)

end_last : (p : ℕ) (d : Glyph) (gs : List Glyph) → last_of (clusters gs) ≡ Some p → ((n : ℕ) → Has (clusters gs) n → d.cluster < n)
    → (x : Glyph) × (last_of (end_recast_from p d gs) ≡ Some x) × (bit_and x.mask 7 ≡ bit_and d.mask 7)
end_last p d [] e above = cc
end_last p d (h ∷ []) e above =
    let here : h.cluster ≡ p = cc in
    let same = equal_test h.cluster p here in
    rw same (run_last d h [] above)
end_last p d (h ∷ k ∷ ks) e above =
    let rest = end_last p d (k ∷ ks) (sym (last_beyond h.cluster k.cluster (clusters ks)) ∙ e) (λ n has. above n (has_more h.cluster n (clusters (k ∷ ks)) has)) in
    elim (list_all (λ (g : Glyph). g.cluster == p) (h ∷ k ∷ ks))
    as (λ t. (x : Glyph) × (last_of (if t then map (recast d.cluster d.mask) (h ∷ k ∷ ks) else h ∷ end_recast_from p d (k ∷ ks)) ≡ Some x) × (bit_and x.mask 7 ≡ bit_and d.mask 7))
    [ true ↦ run_last d h (k ∷ ks) above | false ↦ (rest.0, behind h rest.0 (end_recast_from p d (k ∷ ks)) rest.1, rest.2) ]

recast_flagged : (d : Glyph) (gs : List Glyph) (bits : ℕ) → bits < 8 → 0 < length gs → ((n : ℕ) → Has (clusters gs) n → d.cluster < n) → bit_or d.mask bits ≡ d.mask → end_recast d gs ≡ with_last_changed (glyph_flagged bits) (end_recast d gs)
recast_flagged d gs bits lt some above has =
    let f : Glyph → ℕ = λ h. h.cluster in
    let old = has_last (clusters gs) (omega (arith, some, length-map gs f)) in
    let is : end_recast d gs ≡ end_recast_from old.0 d gs = let o = old.1 in rw o refl in
    let last = end_last old.0 d gs old.1 above in
    let same : (x : Glyph) → last_of (end_recast_from old.0 d gs) ≡ Some x → glyph_flagged bits x ≡ x = λ x e. let one : x ≡ last.0 = some_is (sym e ∙ last.1) in rw one (ap (λ m. record last.0 { mask = m }) (flags_there last.0.mask d.mask bits lt has last.2)) in
    is ∙ sym (last_fixed (glyph_flagged bits) (end_recast_from old.0 d gs) same) ∙ ap (with_last_changed (glyph_flagged bits)) (sym is)
  where
    some_is : {x y : Glyph} → Some x ≡ Some y → x ≡ y
    some_is e = cc

-- where a glyph is due that has the flags, they are no others
pub due_flagged : (due : Option Glyph) (gs : List Glyph) (bits : ℕ) → bits < 8 → IsDue true due gs → HasFlags due bits → settled_glyphs due gs ≡ with_last_changed (glyph_flagged bits) (settled_glyphs due gs)
due_flagged None gs bits lt is has = absurd has
due_flagged (Some d) gs bits lt is has = recast_flagged d gs bits lt is.1 is.2 has

-- ---- flags on the last that was kept

pub flagged_put : (due : Option Glyph) (kept bits : ℕ) (gs mid range : List Glyph) → kept ≤ length gs → mid ≡ settled_glyphs due (take kept gs) ++ drop kept gs → range ≡ with_last_changed (glyph_flagged bits) (take kept mid)
    → put_mid 0 kept mid range ≡ with_last_changed (glyph_flagged bits) (settled_glyphs due (take kept gs)) ++ drop kept gs
flagged_put due kept bits gs mid range le m e =
    let front = settled_front due kept gs mid le m in
    let back = settled_back due kept kept gs mid (omega arith) le m in
    rw (e, front, back) refl

flagged_length : (bits : ℕ) (gs : List Glyph) → length (with_last_changed (glyph_flagged bits) gs) ≡ length gs
flagged_length bits gs =
    let f : Glyph → ℕ = λ g. g.cluster in
    sym (length-map (with_last_changed (glyph_flagged bits) gs) f) ∙ ap length (before_clusters bits gs) ∙ length-map gs f

put_length : (due : Option Glyph) (k bits : ℕ) (gs : List Glyph) → k ≤ length gs → length (with_last_changed (glyph_flagged bits) (settled_glyphs due (take k gs))) ≡ k
put_length due k bits gs le = flagged_length bits (settled_glyphs due (take k gs)) ∙ settled_length due (take k gs) ∙ length-take-le k gs le

pub flagged_front : (due : Option Glyph) (k bits : ℕ) (gs new : List Glyph) → k ≤ length gs → new ≡ with_last_changed (glyph_flagged bits) (settled_glyphs due (take k gs)) ++ drop k gs → take k new ≡ with_last_changed (glyph_flagged bits) (settled_glyphs due (take k gs))
flagged_front due k bits gs new le e =
    let front = with_last_changed (glyph_flagged bits) (settled_glyphs due (take k gs)) in
    ap (take k) e ∙ ap (λ n. take n (front ++ drop k gs)) (sym (put_length due k bits gs le)) ∙ take-append_seam front (drop k gs)

pub flagged_back : (due : Option Glyph) (k bits i : ℕ) (gs new : List Glyph) → k ≤ i → k ≤ length gs → new ≡ with_last_changed (glyph_flagged bits) (settled_glyphs due (take k gs)) ++ drop k gs → drop i new ≡ drop i gs
flagged_back due k bits i gs new ki le e =
    let front = with_last_changed (glyph_flagged bits) (settled_glyphs due (take k gs)) in
    let long = put_length due k bits gs le in
    let there : i ≡ length front + (i - k) = omega (arith, long) in
    let here : k + (i - k) ≡ i = omega arith in
    ap (drop i) e ∙ ap (λ n. drop n (front ++ drop k gs)) there ∙ drop-append-add front (drop k gs) (i - k) ∙ drop-drop (i - k) k gs ∙ ap (λ n. drop n gs) here

-- with none kept, none is the last
pub none_last : (due : Option Glyph) (k : ℕ) (gs : List Glyph) → k ≡ 0 → None ≡ last_of (clusters (settled_glyphs due (take k gs)))
none_last None k gs e = rw e refl
none_last (Some d) k gs e = rw e refl

-- ---- in one list that holds two

past_seam : {X : Type 0} (out mid rest : List X) (n : ℕ) → length out + length mid ≡ n → drop n (out ++ mid ++ rest) ≡ rest
past_seam out mid rest n e =
    let long : length (out ++ mid) ≡ n = length-append out mid ∙ e in
    ap (λ k. drop k (out ++ mid ++ rest)) (sym long) ∙ drop-append_seam (out ++ mid) rest

pub handed_input : (gs front rest deleted out new : List Glyph) (n from : ℕ) → n ≤ from → from ≤ length gs → front ≡ take from gs → rest ≡ drop from gs → out ≡ glyphs_handed_before deleted (take n front)
    → new ≡ glyphs_handed_after deleted (last_of (clusters (take n front))) rest → drop from (out ++ drop n front ++ new) ≡ glyphs_handed_after deleted (last_of (clusters (take n gs))) (drop from gs)
handed_input gs front rest deleted out new n from le within a b o e =
    let whole : length front ≡ from = ap length a ∙ length-take-le from gs within in
    let first : take n front ≡ take n gs = ap (take n) a ∙ take-take n from gs le in
    let long : length out ≡ length (take n front) = ap length o ∙ flagged_length (flags_for (last_of (clusters (take n front))) (origins deleted)) (take n front) in
    let sides : length (take n front ++ drop n front) ≡ length front = ap length (take-append-drop n front) in
    let both = length-append (take n front) (drop n front) in
    past_seam out (drop n front) new from (omega (arith, whole, long, sides, both)) ∙ e
    ∙ ap (λ hs. glyphs_handed_after deleted (last_of (clusters hs)) rest) first ∙ ap (glyphs_handed_after deleted (last_of (clusters (take n gs)))) b

pub handed_clusters : (gs front rest deleted out new : List Glyph) (n : ℕ) → gs ≡ front ++ rest → out ≡ glyphs_handed_before deleted (take n front)
    → new ≡ glyphs_handed_after deleted (last_of (clusters (take n front))) rest → clusters (out ++ drop n front ++ new) ≡ clusters gs
handed_clusters gs front rest deleted out new n all o e =
    let f : Glyph → ℕ = λ g. g.cluster in
    let before = last_of (clusters (take n front)) in
    map-append f (out ++ drop n front) new ∙ ap (λ ns. ns ++ clusters new) (map-append f out (drop n front))
    ∙ ap (λ ns. ns ++ clusters (drop n front) ++ clusters new) (ap clusters o ∙ before_clusters (flags_for before (origins deleted)) (take n front))
    ∙ ap (λ ns. clusters (take n front) ++ clusters (drop n front) ++ ns) (ap clusters e ∙ after_clusters (flags_for (other_cluster before (first_of (clusters rest))) (origins deleted)) rest)
    ∙ ap (λ ns. ns ++ clusters rest) (sym (map-append f (take n front) (drop n front)) ∙ ap clusters (take-append-drop n front))
    ∙ sym (map-append f front rest) ∙ sym (ap clusters all)

-- ---- one deleted, and its flags handed on

pub walk_handing : (in_order : Bool) (at : ℕ) (mid v : Walk) (hs new deleted : List Glyph) → IsWalk in_order at mid hs
    → settled_glyphs v.due (take v.kept new) ≡ glyphs_handed_before deleted (settled_glyphs mid.due (take mid.kept hs))
    → drop at new ≡ glyphs_handed_after deleted (last_of (clusters (settled_glyphs mid.due (take mid.kept hs)))) (drop at hs)
    → v.kept ≡ mid.kept → IsDue in_order v.due (take v.kept new) → IsWalk in_order at v new
walk_handing in_order at mid v hs new deleted sound one two kept due = record {
  few = omega (arith, kept, sound.few);
  due = due;
  known = λ sure.
      let front = settled_glyphs mid.due (take mid.kept hs) in
      let back = drop at hs in
      let all : clusters (settled_glyphs v.due (take v.kept new)) ++ clusters (drop at new) ≡ clusters front ++ clusters back =
      ap (λ gs. clusters gs ++ clusters (drop at new)) one ∙ ap (λ gs. clusters (glyphs_handed_before deleted front) ++ clusters gs) two
      ∙ ap (λ ns. ns ++ clusters (glyphs_handed_after deleted (last_of (clusters front)) back)) (before_clusters (flags_for (last_of (clusters front)) (origins deleted)) front)
      ∙ ap (λ ns. clusters front ++ ns) (after_clusters (flags_for (other_cluster (last_of (clusters front)) (first_of (clusters back))) (origins deleted)) back) in
      subst IsOrdered (sym all) (sound.known sure);
}

-- ---- the last of some copies

last_appended : {X : Type 0} (xs : List X) (y : X) (ys : List X) → last_of (xs ++ y ∷ ys) ≡ last_of (y ∷ ys)
last_appended [] y ys = refl
last_appended (x ∷ []) y ys = last_beyond x y ys
last_appended (x ∷ z ∷ xs) y ys = last_beyond x z (xs ++ y ∷ ys) ∙ last_appended (z ∷ xs) y ys

all_alike : (c n : ℕ) (g : Glyph) (ns : List ℕ) → g.cluster ≡ c → last_of (clusters (map (glyph_numbered g) (n ∷ ns))) ≡ Some c
all_alike c n g [] e = ap Some e
all_alike c n g (m ∷ ns) e = last_beyond g.cluster g.cluster (clusters (map (glyph_numbered g) ns)) ∙ all_alike c m g ns e

pub copied_last : (numbers : List ℕ) (ahead front : List Glyph) (g : Glyph) → 0 < length numbers → or (first_of ahead) (last_of front) ≡ Some g → Some g.cluster ≡ last_of (clusters (with_copies numbers ahead front))
copied_last [] ahead front g some e = absurd (omega arith)
copied_last (n ∷ ns) ahead front g some e = rw e (sym (seen front (map (glyph_numbered g) (n ∷ ns)) ∙ last_appended (clusters front) g.cluster (clusters (map (glyph_numbered g) ns)) ∙ all_alike g.cluster n g ns refl))
  where
    seen : (gs hs : List Glyph) → last_of (clusters (gs ++ hs)) ≡ last_of (clusters gs ++ clusters hs)
    seen gs hs = ap last_of (map-append (λ (h : Glyph). h.cluster) gs hs)

pub uncopied_last : (numbers : List ℕ) (ahead front : List Glyph) → or (first_of ahead) (last_of front) ≡ None → last_of (clusters front) ≡ last_of (clusters (with_copies numbers ahead front))
uncopied_last numbers ahead front e = rw e (ap (λ gs. last_of (clusters gs)) (sym (append-nil front)))

pub no_copies_last : (numbers : List ℕ) (ahead front : List Glyph) → length numbers ≡ 0 → last_of (clusters front) ≡ last_of (clusters (with_copies numbers ahead front))
no_copies_last [] ahead front e = by_model (or (first_of ahead) (last_of front))
  where
    by_model : (o : Option Glyph) → last_of (clusters front) ≡ last_of (clusters (front ++ numbered_copies glyph_numbered o []))
    by_model None = ap (λ gs. last_of (clusters gs)) (sym (append-nil front))
    by_model (Some g) = ap (λ gs. last_of (clusters gs)) (sym (append-nil front))
no_copies_last (n ∷ ns) ahead front e = cc
