-- Glyphs at the cursor that merge and make room for one.
use Rattle.std.proofs.Common.{ℕ, ◌≡◌, ◌<◌, ◌≤◌, ◌+◌, true, List, [], ◌∷◌, ◌++◌, length, take, drop, refl, sym, ap, subst, ◌∙◌, arith}
use Rattle.std.proofs.lemmas.List.{map-append, length-map, drop-map}
use Rattle.buffer_glyphs.specs.declared.info.hb_glyph_info_t.{hb_glyph_info_t}
use Rattle.buffer_glyphs.specs.Items.{Item, clusters, item_of, strip}
use Rattle.buffer_glyphs.specs.Parts.{first_of, last_of, or}
use Rattle.buffer_glyphs.specs.Glyphs.{glyphs_merged_at, is_marked_at}
use Rattle.buffer_glyphs.specs.Lemmas.Glyphs.{strip_merged_at}
use Rattle.buffer_glyphs.specs.Replacements.{numbered_copies, glyph_numbered}
use Rattle.buffer_glyphs.specs.Deleting.{DeletionSides}
use Rattle.buffer_glyphs.specs.Events.{Replace}
use Rattle.buffer_glyphs.specs.Lemmas.Handed.{sides_back_items, sides_front_items}
use Rattle.buffer_core.specs.Sides.{Sides, all_glyphs, items_of, origins_of, origins_by, requests_breaks, view_of}
use Rattle.buffer_core.specs.Merging.{with_copied, with_merged, with_replaced}
use Rattle.buffer_core.proofs.Told.{stage_flags_ignore_glyph_flags}
use Rattle.buffer_stages.specs.Walks.{HasWalked, renumbered_first}
use Rattle.buffer_stages.proofs.Lemmas.Walked.{sides_kept}

-- so many glyphs merged, and one took their place
pub front_replaced : (count n : ℕ) (s new : Sides) → s.is_open ≡ true → count ≤ length s.ahead → 0 < count → new ≡ with_replaced count (n ∷ []) s → origins_of new ≡ origins_by (Replace (length s.behind) count 1 ∷ []) s
    → HasWalked (strip s.behind ++ renumbered_first n (strip s.ahead)) (drop count (strip s.ahead)) (Replace (length s.behind) count 1 ∷ []) s new
front_replaced count n s new opened le some is from_where =
    let b = length s.behind in
    let gs = glyphs_merged_at s.level b (b + count) (all_glyphs s) in
    let whole : strip gs ≡ strip s.behind ++ strip s.ahead = strip_merged_at s.level b (b + count) (all_glyphs s) (omega arith) ∙ map-append item_of s.behind s.ahead in
    let parts = sides_kept b gs (strip s.behind) (strip s.ahead) (sym (length-map s.behind item_of)) whole in
    let scratch_flags = stage_flags_ignore_glyph_flags (is_marked_at s.level b (b + count) (clusters (all_glyphs s))) s.scratch_flags in
    let P : Sides → Type 0 = λ t. origins_of t ≡ origins_by (Replace b count 1 ∷ []) s → HasWalked (strip s.behind ++ renumbered_first n (strip s.ahead)) (drop count (strip s.ahead)) (Replace b count 1 ∷ []) s t in
    let front : strip (take b gs ++ numbered_copies glyph_numbered (or (first_of (drop b gs)) (last_of (take b gs))) (n ∷ [])) ≡ strip s.behind ++ renumbered_first n (strip s.ahead) =
    by_rest gs (drop b gs) (take b gs) parts.0 parts.1 in
    let copied = with_copied count (n ∷ []) (with_merged b (b + count) s) in
    let sides : DeletionSides = record { front = copied.behind; back = copied.ahead } in
    let gone = take count (drop b gs) in
    subst P (sym is) (λ o. record {
      behind = sides_front_items (requests_breaks s) gone sides ∙ front;
      ahead = sides_back_items (requests_breaks s) gone sides ∙ sym (drop-map item_of count (drop b gs)) ∙ ap (drop count) parts.1;
      happened = o;
      view = ap (λ f. record (view_of s) { items = items_of (with_replaced count (n ∷ []) s); scratch_flags = f }) scratch_flags;
      settings = refl;
      opened = opened;
      unrefused = refl;
    }) from_where
  where
    by_rest : (gs rs bs : List hb_glyph_info_t) → strip bs ≡ strip s.behind → strip rs ≡ strip s.ahead → strip (bs ++ numbered_copies glyph_numbered (or (first_of rs) (last_of bs)) (n ∷ [])) ≡ strip s.behind ++ renumbered_first n (strip s.ahead)
    by_rest gs [] bs e f = absurd (let none = ap (λ (ys : List Item). length ys) f in let m = length-map s.ahead item_of in omega (arith, none, m, le, some))
    by_rest gs (r ∷ rs) bs e f = map-append item_of bs (glyph_numbered r n ∷ []) ∙ ap (λ xs. xs ++ strip (glyph_numbered r n ∷ [])) e ∙ ap (λ xs. strip s.behind ++ renumbered_first n xs) f
