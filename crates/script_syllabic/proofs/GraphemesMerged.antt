-- A text whose graphemes by a rule are merged one after another.
use Rattle.std.proofs.Common.{ℕ, ◌≡◌, ◌≢◌, ◌≤◌, ◌+◌, ne_eqb, List, [], ◌∷◌, ◌++◌, length, drop, arith, refl, sym, ap, subst, ◌∙◌, append_assoc}
use Rattle.std.proofs.lemmas.List.{append-nil, drop_all, drop-drop, drop-map, length-map}
use Rattle.buffer_glyphs.specs.Items.{Item, item_of, strip}
use Rattle.buffer_glyphs.specs.Events.{Event, MergeGrapheme, StrictBreak}
use Rattle.buffer_core.specs.Readings.{View, always}
use Rattle.buffer_core.specs.Sides.{Sides, all_glyphs, items_of, view_of}
use Rattle.buffer_stages.specs.Ready.{IsReady}
use Rattle.buffer_stages.specs.Stages.{Happens, IsFollowed}
use Rattle.buffer_stages.specs.Lemmas.Written.{read_followed}
use Rattle.buffer_stages.proofs.Lemmas.Happened.{both_happen, nothing_happens}
use Rattle.script_syllabic.specs.Graphemes.{merge_of, merges_by, with_graphemes_merged}

-- ---- one grapheme

pub none_merged : (at n : ℕ) (s : Sides) → n ≡ 0 → IsReady s → Happens (merge_of at n) s s
none_merged at n s e ready = subst (λ m. Happens (merge_of at m) s s) (sym e) (nothing_happens s ready)

pub some_merged : (at n : ℕ) (s mid new : Sides) → n ≢ 0 → Happens (MergeGrapheme at (at + n) ∷ []) s mid → Happens (StrictBreak at (at + n) ∷ []) mid new → Happens (merge_of at n) s new
some_merged at n s mid new some h k = rw (ne_eqb n 0 some) (both_happen (MergeGrapheme at (at + n) ∷ []) (StrictBreak at (at + n) ∷ []) s mid new h k)

-- a merge leaves as many glyphs
pub many_as_before : (es : List Event) (s new : Sides) → Happens es s new → length (all_glyphs new) ≡ length (all_glyphs s)
many_as_before es s new h = sym (length-map (all_glyphs new) item_of) ∙ ap (λ (v : View). length v.items) h.view ∙ length-map (all_glyphs s) item_of

-- ---- the walk

-- the graphemes that begin before an index are merged, and the others are still to come
pub record AreMerged (rule : List Item → ℕ) (from : Sides) (at : ℕ) (s : Sides) : Type 0 where
  pub events : List Event
  pub happened : Happens events from s
  pub rest : events ++ merges_by rule at (drop at (items_of from)) ≡ merges_by rule 0 (items_of from)

pub nothing_merged : (rule : List Item → ℕ) (s : Sides) → IsReady s → AreMerged rule s 0 s
nothing_merged rule s ready = record { events = []; happened = nothing_happens s ready; rest = refl }

same_items : (rule : List Item → ℕ) (from s : Sides) (at : ℕ) → AreMerged rule from at s → items_of s ≡ items_of from
same_items rule from s at f = ap (λ (v : View). v.items) f.happened.view

pub same_count : (rule : List Item → ℕ) (from s : Sides) (at : ℕ) → AreMerged rule from at s → length (all_glyphs s) ≡ length (all_glyphs from)
same_count rule from s at f = sym (length-map (all_glyphs s) item_of) ∙ ap (λ (xs : List Item). length xs) (same_items rule from s at f) ∙ length-map (all_glyphs from) item_of

merges_cut : (rule : List Item → ℕ) (at : ℕ) (xs : List Item) → rule [] ≡ 0 → merge_of at (rule xs) ++ merges_by rule (at + 1) (drop 1 xs) ≡ merges_by rule at xs
merges_cut rule at [] none = ap (λ n. merge_of at n ++ []) none
merges_cut rule at (x ∷ xs) none = refl

-- the rule of what a text has from an index on, whose glyphs are given
pub next_merged : (rule : List Item → ℕ) (from s t : Sides) (at : ℕ) → rule [] ≡ 0 → Happens (merge_of at (rule (strip (drop at (all_glyphs s))))) s t → AreMerged rule from at s → AreMerged rule from (at + 1) t
next_merged rule from s t at none h f =
    let xs = drop at (items_of from) in
    let seen : strip (drop at (all_glyphs s)) ≡ xs = sym (drop-map item_of at (all_glyphs s)) ∙ ap (drop at) (same_items rule from s at f) in
    let k : Happens (merge_of at (rule xs)) s t = subst (λ ys. Happens (merge_of at (rule ys)) s t) seen h in
    record {
      events = f.events ++ merge_of at (rule xs);
      happened = both_happen f.events (merge_of at (rule xs)) from s t f.happened k;
      rest =
          append_assoc f.events (merge_of at (rule xs)) (merges_by rule (at + 1) (drop (at + 1) (items_of from)))
          ∙ ap (λ ys. f.events ++ (merge_of at (rule xs) ++ merges_by rule (at + 1) ys)) (sym (drop-drop 1 at (items_of from)))
          ∙ ap (λ es. f.events ++ es) (merges_cut rule at xs none)
          ∙ f.rest;
    }

-- all graphemes
pub all_merged : (rule : List Item → ℕ) (from s : Sides) (at : ℕ) → length (all_glyphs s) ≤ at → AreMerged rule from at s → IsFollowed (always (with_graphemes_merged rule)) from s
all_merged rule from s at le f =
    let none : drop at (items_of from) ≡ [] = drop_all at (items_of from) (omega (arith, same_count rule from s at f, length-map (all_glyphs from) item_of, le)) in
    let whole : f.events ≡ merges_by rule 0 (items_of from) = sym (append-nil f.events) ∙ ap (λ xs. f.events ++ merges_by rule at xs) (sym none) ∙ f.rest in
    let h : Happens (merges_by rule 0 (items_of from)) from s = subst (λ es. Happens es from s) whole f.happened in
    read_followed (with_graphemes_merged rule) (merges_by rule 0 (items_of from)) (view_of from) from s h.view h.origins h.settings h.ready refl refl
