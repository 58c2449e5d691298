-- A walk of deletions passes one glyph.
use Rattle.std.proofs.Common.{ℕ, suc, ◌≡◌, ◌≤◌, ◌<◌, ◌+◌, ◌-◌, ◌||◌, Bool, true, false, if◌then◌else◌, List, [], ◌∷◌, ◌++◌, Option, Some, None, length, take, drop, get_or, arith, refl, ap, sym, subst, ◌∙◌, append_assoc}
use Rattle.std.proofs.lemmas.List.{drop_more, map-append, take-append-drop, drop-drop}
use Rattle.buffer_glyphs.specs.declared.info.hb_glyph_info_t.{hb_glyph_info_t as Glyph}
use Rattle.buffer_glyphs.specs.declared.level.BufferClusterLevel.{BufferClusterLevel as Level}
use Rattle.buffer_glyphs.specs.Items.{Position, clusters}
use Rattle.buffer_glyphs.specs.Order.{IsOrdered}
use Rattle.buffer_lists.specs.declared.deletion_within.walk.Walk.{Walk}
use Rattle.buffer_glyphs.proofs.OneDeleted.{left_clusters, ordered_deleted}
use Rattle.buffer_glyphs.specs.Deleting.{Deletes}
use Rattle.buffer_lists.specs.DeletionWalk.{IsDue, IsWalk, DeletionState, whole_walk, many_steps, settled_glyphs, walk_at, walk_step, first_step, with_glyph, without_glyph}
use Rattle.buffer_lists.proofs.Lemmas.Neighbours.{no_glyph}

pub passed_without : (level : Level) (at : ℕ) (w v : Walk) (gs new : List Glyph) (ps : List Position) (g : Glyph) (back : List Glyph) (m : Bool)
    → Deletes level (settled_glyphs w.due (take w.kept gs)) (drop at gs) (settled_glyphs v.due (take v.kept new)) (drop (at + 1) new) m → v.kept ≡ w.kept → v.marked ≡ (w.marked || m) → drop at gs ≡ g ∷ back
    → walk_at (at + 1) v new ps ≡ without_glyph false level (walk_at at w gs ps) g back
passed_without level at w v gs new ps g back m gone kept marked e =
    let one = gone.front_is g back e in
    let two = gone.back_is g back e in
    let three = marked ∙ ap (λ b. w.marked || b) (gone.marked_is g back e) in
    let four : take v.kept ps ≡ take w.kept ps = ap (λ n. take n ps) kept in
    let five : drop (at + 1) ps ≡ drop 1 (drop at ps) = sym (drop-drop 1 at ps) in
    rw (one, two, three, four, five) refl

pub walk_without : (level : Level) (in_order : Bool) (at : ℕ) (w v : Walk) (gs new : List Glyph) (m : Bool) → at < length gs
    → Deletes level (settled_glyphs w.due (take w.kept gs)) (drop at gs) (settled_glyphs v.due (take v.kept new)) (drop (at + 1) new) m → v.kept ≡ w.kept → IsDue in_order v.due (take v.kept new) → IsWalk in_order at w gs → IsWalk in_order (at + 1) v new
walk_without level in_order at w v gs new m lt gone kept due sound = record {
  few = omega (arith, kept, sound.few);
  due = due;
  known = known;
}
  where
    cut : drop at gs ≡ get_or gs at no_glyph ∷ drop (at + 1) gs
    cut = drop_more gs at no_glyph lt

    known : in_order ≡ true → IsOrdered (clusters (settled_glyphs v.due (take v.kept new)) ++ clusters (drop (at + 1) new))
    known sure =
        let h = get_or gs at no_glyph in
        let back = drop (at + 1) gs in
        let before = settled_glyphs w.due (take w.kept gs) in
        let old : IsOrdered (clusters before ++ clusters (h ∷ back)) = subst (λ (hs : List Glyph). IsOrdered (clusters before ++ clusters hs)) cut (sound.known sure) in
        let after = ordered_deleted level (clusters before) h.cluster (clusters back) old in
        let seen = left_clusters level before (drop at gs) (settled_glyphs v.due (take v.kept new)) (drop (at + 1) new) m h back cut gone in
        subst IsOrdered (sym seen) after

-- with none that stays before it
pub front_deletes : (level : Level) (at : ℕ) (w : Walk) (gs new : List Glyph) (m : Bool) → w.kept ≡ 0 → Deletes level [] (drop at gs) [] (drop (at + 1) new) m → Deletes level (settled_glyphs w.due (take w.kept gs)) (drop at gs) [] (drop (at + 1) new) m
front_deletes level at w gs new m none gone = subst (λ (hs : List Glyph). Deletes level hs (drop at gs) [] (drop (at + 1) new) m) (sym empty) gone
  where
    nothing : (due : Option Glyph) → settled_glyphs due [] ≡ []
    nothing None = refl
    nothing (Some d) = refl

    empty : settled_glyphs w.due (take w.kept gs) ≡ []
    empty = ap (λ n. settled_glyphs w.due (take n gs)) none ∙ nothing w.due

pub passed_gone : (breaks : Bool) (level : Level) (goes : Glyph → Bool) (at : ℕ) (w : Walk) (gs : List Glyph) (ps : List Position) (new : DeletionState) → at < length gs → goes (get_or gs at no_glyph) ≡ true
    → ((g : Glyph) (back : List Glyph) → drop at gs ≡ g ∷ back → new ≡ without_glyph breaks level (walk_at at w gs ps) g back) → new ≡ first_step breaks level goes (walk_at at w gs ps)
passed_gone breaks level goes at w gs ps new lt picked gone =
    let g = get_or gs at no_glyph in
    let back = drop (at + 1) gs in
    let cut : drop at gs ≡ g ∷ back = drop_more gs at no_glyph lt in
    let here : first_step breaks level goes (walk_at at w gs ps) ≡ walk_step breaks level goes (walk_at at w gs ps) (g ∷ back) = ap (walk_step breaks level goes (walk_at at w gs ps)) cut in
    let next : walk_step breaks level goes (walk_at at w gs ps) (g ∷ back) ≡ without_glyph breaks level (walk_at at w gs ps) g back = ap (λ t. if t then without_glyph breaks level (walk_at at w gs ps) g back else with_glyph (walk_at at w gs ps) g back) picked in
    gone g back cut ∙ sym (here ∙ next)

pub passed_kept : (breaks : Bool) (level : Level) (goes : Glyph → Bool) (at : ℕ) (w v : Walk) (gs new : List Glyph) (ps positions : List Position) → at < length gs → goes (get_or gs at no_glyph) ≡ false
    → v ≡ record { kept = w.kept + 1; due = None; marked = w.marked }
    → take (w.kept + 1) new ≡ settled_glyphs w.due (take w.kept gs) ++ take 1 (drop at gs) → drop (at + 1) new ≡ drop (at + 1) gs
    → take (w.kept + 1) positions ≡ take w.kept ps ++ take 1 (drop at ps) → drop (at + 1) positions ≡ drop (at + 1) ps
    → walk_at (at + 1) v new positions ≡ first_step breaks level goes (walk_at at w gs ps)
passed_kept breaks level goes at w v gs new ps positions lt off is front back first rest =
    let g = get_or gs at no_glyph in
    let behind = drop (at + 1) gs in
    let cut : drop at gs ≡ g ∷ behind = drop_more gs at no_glyph lt in
    let here : first_step breaks level goes (walk_at at w gs ps) ≡ walk_step breaks level goes (walk_at at w gs ps) (g ∷ behind) = ap (walk_step breaks level goes (walk_at at w gs ps)) cut in
    let next : walk_step breaks level goes (walk_at at w gs ps) (g ∷ behind) ≡ with_glyph (walk_at at w gs ps) g behind = ap (λ t. if t then without_glyph breaks level (walk_at at w gs ps) g behind else with_glyph (walk_at at w gs ps) g behind) off in
    let whole : take (w.kept + 1) new ≡ settled_glyphs w.due (take w.kept gs) ++ g ∷ [] = front ∙ ap (λ hs. settled_glyphs w.due (take w.kept gs) ++ take 1 hs) cut in
    let five : drop (at + 1) positions ≡ drop 1 (drop at ps) = rest ∙ sym (drop-drop 1 at ps) in
    rw is (rw (whole, back, first, five) refl) ∙ sym (here ∙ next)

pub walk_kept : (in_order : Bool) (at : ℕ) (w v : Walk) (gs new : List Glyph) → at < length gs → v ≡ record { kept = w.kept + 1; due = None; marked = w.marked }
    → take (w.kept + 1) new ≡ settled_glyphs w.due (take w.kept gs) ++ take 1 (drop at gs) → drop (at + 1) new ≡ drop (at + 1) gs → IsWalk in_order at w gs → IsWalk in_order (at + 1) v new
walk_kept in_order at w v gs new lt is front back sound = rw is (record { few = omega (arith, sound.few); due = tt; known = known })
  where
    known : in_order ≡ true → IsOrdered (clusters (take (w.kept + 1) new) ++ clusters (drop (at + 1) new))
    known sure =
        let f : Glyph → ℕ = λ g. g.cluster in
        let before = settled_glyphs w.due (take w.kept gs) in
        let all : clusters (take (w.kept + 1) new) ++ clusters (drop (at + 1) new) ≡ clusters before ++ clusters (drop at gs) =
        ap (λ hs. clusters hs ++ clusters (drop (at + 1) new)) front ∙ ap (λ hs. clusters (before ++ take 1 (drop at gs)) ++ clusters hs) (back ∙ sym (drop-drop 1 at gs))
        ∙ ap (λ ns. ns ++ clusters (drop 1 (drop at gs))) (map-append f before (take 1 (drop at gs))) ∙ append_assoc (clusters before) (clusters (take 1 (drop at gs))) (clusters (drop 1 (drop at gs)))
        ∙ ap (λ ns. clusters before ++ ns) (sym (map-append f (take 1 (drop at gs)) (drop 1 (drop at gs))) ∙ ap clusters (take-append-drop 1 (drop at gs))) in
        subst IsOrdered (sym all) (sound.known sure)

-- one glyph was passed, and the others are still to be
pub passes_on : (breaks : Bool) (level : Level) (goes : Glyph → Bool) (at : ℕ) (w v : Walk) (gs new : List Glyph) (ps positions : List Position) (whole : DeletionState) → at < length gs → length new ≡ length gs
    → walk_at (at + 1) v new positions ≡ first_step breaks level goes (walk_at at w gs ps) → many_steps breaks level goes (length gs - at) (walk_at at w gs ps) ≡ whole
    → many_steps breaks level goes (length new - (at + 1)) (walk_at (at + 1) v new positions) ≡ whole
passes_on breaks level goes at w v gs new ps positions whole lt long step before =
    let less : length gs - at ≡ suc (length new - (at + 1)) = omega arith in
    let opened : many_steps breaks level goes (suc (length new - (at + 1))) (walk_at at w gs ps) ≡ whole = ap (λ n. many_steps breaks level goes n (walk_at at w gs ps)) (sym less) ∙ before in
    ap (many_steps breaks level goes (length new - (at + 1))) step ∙ opened

-- none is left
pub passes_end : (breaks : Bool) (level : Level) (goes : Glyph → Bool) (at : ℕ) (w : Walk) (gs : List Glyph) (ps : List Position) (whole : DeletionState) → length gs ≤ at → many_steps breaks level goes (length gs - at) (walk_at at w gs ps) ≡ whole → walk_at at w gs ps ≡ whole
passes_end breaks level goes at w gs ps whole le before = let none : length gs - at ≡ 0 = omega arith in rw none at before

-- none was passed yet
pub passes_begin : (breaks : Bool) (level : Level) (goes : Glyph → Bool) (gs : List Glyph) (ps : List Position) → many_steps breaks level goes (length gs - 0) (walk_at 0 (record { kept = 0; due = None; marked = false }) gs ps) ≡ whole_walk breaks level goes gs ps
passes_begin breaks level goes gs ps = let all : length gs - 0 ≡ length gs = omega arith in rw all refl
