-- The last bases and ligatures that were found are kept while no item changes.
use Rattle.std.proofs.Common.{ℕ, ◌≡◌, ◌++◌, Bool, false, Option, None, append_assoc, List, [], take, drop, length, min, Ok, Err, sym, ap, subst, ◌∙◌}
use Rattle.std.specs.Prelude.{Result, OnOk}
use Rattle.std.proofs.lemmas.List.{take-append-drop, map-append}
use Rattle.buffer_glyphs.specs.declared.cause.ShapeCause.{ShapeCause}
use Rattle.buffer_glyphs.specs.Items.{item_of, strip}
use Rattle.buffer_core.specs.Sides.{Sides, all_glyphs, items_of, after_next_glyphs}
use Rattle.layout_tables.specs.declared.context.SequenceLookupRecord.{SequenceLookupRecord}
use Rattle.layout_face.specs.declared.positioning.PositioningLookup.{PositioningLookup}
use Rattle.layout_face.specs.declared.positioning.PositioningSubtables.{PositioningSubtables}
use Rattle.layout_match.specs.Applied.{ApplyContext}
use Rattle.buffer_stages.specs.Actions.{Cut, whole, Outcome, Passes, Acts, Refuses}
use Rattle.buffer_stages.specs.Performing.{Performs, cut_with}
use Rattle.buffer_stages.proofs.Lemmas.Frames.{same_numbers}
use Rattle.layout_contexts.specs.Chains.{Chain, chain_rule}
use Rattle.layout_contexts.specs.Fitting.{IsMatched, MatchesOrPasses}
use Rattle.layout_contexts.specs.Nested.{Walks, cut_at, cut_after_match, holds, with_budget_spent}
use Rattle.layout_contexts.specs.Nesting.{Nests}
use Rattle.layout_contexts.specs.Records.{IsRecordBegun}
use Rattle.layout_gpos.specs.Bases.{AreKept}
use Rattle.layout_gpos.specs.Moving.{ItemsStay}
use Rattle.layout_gpos.proofs.Lemmas.Kept.{kept_same}
use Rattle.layout_gpos.proofs.Lemmas.Left.{either_way, performed_left}
use Rattle.layout_gpos.specs.declared.bases.LastSearches.{LastSearches}
use Rattle.layout_positioning.specs.Lookups.{first_subtable, nested_actions}
use Rattle.layout_positioning.proofs.Left.{chain_keeps, cut_whole, nest_keeps, subtable_keeps}

-- the cursor went over a glyph
pub passed_kept : (a : ApplyContext) (l : LastSearches) (mid new : Sides) → AreKept a (items_of mid) l → new ≡ after_next_glyphs 1 mid → AreKept a (items_of new) l
passed_kept a l mid new kept is =
    let same : all_glyphs (after_next_glyphs 1 mid) ≡ all_glyphs mid = append_assoc mid.behind (take 1 mid.ahead) (drop 1 mid.ahead) ∙ ap (λ gs. mid.behind ++ gs) (take-append-drop 1 mid.ahead) in
    kept_same a l mid new (ap items_of is ∙ ap strip same) kept

-- a call performed a rule that changes no item
performs_left : (o : Outcome) (y : Result Bool ShapeCause) (r after : ℕ) (s new : Sides) → ItemsStay o (cut_with r s) → Performs o y r after s new → OnOk y (items_of new ≡ items_of s)
performs_left o (Ok acted) r after s new stay d = performed_left o acted r after s new stay d
performs_left o (Err cause) r after s new stay d = tt

on_ok_kept : (a : ApplyContext) (l : LastSearches) (y : Result Bool ShapeCause) (s new : Sides) → OnOk y (items_of new ≡ items_of s) → AreKept a (items_of s) l → OnOk y (AreKept a (items_of new) l)
on_ok_kept a l (Ok acted) s new e kept = kept_same a l s new e kept
on_ok_kept a l (Err cause) s new e kept = tt

-- the subtables of a lookup
pub subtables_kept : (table : List PositioningLookup) (depth : ℕ) (a : ApplyContext) (t : PositioningSubtables) (y : Result Bool ShapeCause) (r : ℕ) (l : LastSearches) (s new : Sides) → AreKept a (items_of s) l
    → Performs (first_subtable (nested_actions table depth s.direction a) s.direction a t (cut_with r s)) y r r s new → OnOk y (AreKept a (items_of new) l)
subtables_kept table depth a t y r l s new kept d =
    let nest = nested_actions table depth s.direction a in
    let c = cut_with r s in
    on_ok_kept a l y s new (performs_left (first_subtable nest s.direction a t c) y r r s new (subtable_keeps nest (nest_keeps table depth s.direction a) s.direction a t c) d) kept

-- ---- rules of contexts

pub matched_kept : (a : ApplyContext) (r : Chain) (random end : ℕ) (ps : List ℕ) (l : LastSearches) (s t : Sides) → IsMatched a r random end ps s t → AreKept a (items_of s) l → AreKept a (items_of t) l
matched_kept a r random end ps l s t m kept = kept_same a l s t (same_numbers s t m.cut_is) kept

-- a rule that did not match
nests_left : (o : Outcome) (acted : Bool) (r after : ℕ) (s new : Sides) → ItemsStay o (cut_with r s) → Nests o (Ok acted) r after s new → items_of new ≡ items_of s
nests_left (Passes es) acted r after s new k d = same_numbers s new d.2.cut_is
nests_left (Acts cut es) acted r after s new k d = map-append item_of new.behind new.ahead ∙ ap (λ (c : Cut). whole c) d.1.cut_is ∙ k ∙ sym (map-append item_of s.behind s.ahead)
nests_left (Refuses cause) acted r after s new k d = absurd d

pub unmatched_kept : (a : ApplyContext) (r : Chain) (random : ℕ) (ps : List ℕ) (o : Option ℕ) (l : LastSearches) (s t : Sides) → o ≡ None → MatchesOrPasses o a r random ps s t → AreKept a (items_of s) l → AreKept a (items_of t) l
unmatched_kept a r random ps o l s t e m kept =
    let none : MatchesOrPasses None a r random ps s t = subst (λ (q : Option ℕ). MatchesOrPasses q a r random ps s t) e m in
    kept_same a l s t (nests_left (chain_rule None a r (cut_with random s)) false random random s t (chain_keeps None tt a r (cut_with random s)) (none None)) kept

-- a record was begun
pub begun_kept : (k : SequenceLookupRecord) (ps : List ℕ) (p : ℕ) (a : ApplyContext) (l : LastSearches) (s t : Sides) → IsRecordBegun k ps p s t → AreKept a (items_of s) l → AreKept a (items_of t) l
begun_kept k ps p a l s t b kept =
    kept_same a l s t (map-append item_of t.behind t.ahead ∙ ap (λ (c : Cut). whole c) (b.left 1).cut_is ∙ cut_whole p (with_budget_spent (cut_with 1 s)) ∙ sym (map-append item_of s.behind s.ahead)) kept

-- the cursor went after a match
behind_stays : (end r : ℕ) (s : Sides) → ItemsStay (cut_after_match (Walks (cut_with r s) [] end [])) (cut_with r s)
behind_stays end r s =
    let c = cut_with r s in
    either_way (holds (min end (length (whole c))) c) (Acts (cut_at (min end (length (whole c))) c) []) _ c (cut_whole (min end (length (whole c))) c) tt

pub behind_kept : (a : ApplyContext) (end : ℕ) (y : Result Bool ShapeCause) (l : LastSearches) (s new : Sides) → AreKept a (items_of s) l → ((r : ℕ) → Nests (cut_after_match (Walks (cut_with r s) [] end [])) y r r s new) → OnOk y (AreKept a (items_of new) l)
behind_kept a end (Ok acted) l s new kept done = kept_same a l s new (nests_left (cut_after_match (Walks (cut_with 1 s) [] end [])) acted 1 1 s new (behind_stays end 1 s) (done 1)) kept
behind_kept a end (Err cause) l s new kept done = tt
