-- What happens to the origins of the glyphs, one call after another.
use Rattle.std.proofs.Common.{ℕ, ◌≡◌, ◌≤◌, ◌+◌, ◌==◌, Bool, false, Some, List, [], ◌∷◌, ◌++◌, length, take, arith, refl, sym, ap, subst, ◌∙◌}
use Rattle.std.specs.Prelude.{bit_and}
use Rattle.std.proofs.lemmas.List.{length-append, length-map}
use Rattle.buffer_glyphs.specs.declared.info.hb_glyph_info_t.{hb_glyph_info_t}
use Rattle.buffer_glyphs.specs.Items.{Item, clusters, item_of}
use Rattle.buffer_glyphs.specs.Events.{Event, Break, Merge, MergeGrapheme, origins_after}
use Rattle.buffer_glyphs.specs.Lemmas.Origins.{origins_after_both}
use Rattle.buffer_core.specs.Sides.{Sides, Settings, all_glyphs, flag_requests_of, items_of, origins_by, origins_of, settings_of, stage_flags, view_of}
use Rattle.buffer_core.specs.Merging.{index_in_all, with_grapheme_merged, with_has_glyph_flags, with_glyphs, with_merged}
use Rattle.buffer_core.specs.Marking.{range_flagged_apart}
use Rattle.buffer_glyphs.specs.Glyphs.{glyphs_marked, glyphs_merged_as, glyphs_merged_at, is_marked_at, has_several_numbers}
use Rattle.buffer_glyphs.specs.Levels.{InList, grapheme_manner}
use Rattle.buffer_glyphs.specs.Parts.{range_of}
use Rattle.buffer_core.proofs.Told.{stage_flags_ignore_glyph_flags}
use Rattle.buffer_stages.specs.Ready.{IsReady}
use Rattle.buffer_stages.specs.Stages.{Happens}
use Rattle.buffer_stages.specs.Lemmas.Rewritings.{by_settings}

pub nothing_happens : (s : Sides) → IsReady s → Happens [] s s
nothing_happens s ready = record { view = refl; origins = refl; settings = refl; ready = ready }

pub both_happen : (es fs : List Event) (a b c : Sides) → Happens es a b → Happens fs b c → Happens (es ++ fs) a c
both_happen es fs a b c h k = record {
  view = k.view ∙ h.view;
  origins = k.origins ∙ by_settings fs a b h.settings ∙ ap (λ os. origins_after (flag_requests_of a) a.level fs os) h.origins ∙ sym (origins_after_both (flag_requests_of a) a.level es fs (origins_of a));
  settings = k.settings ∙ h.settings;
  ready = k.ready;
}

-- a call that writes clusters or glyph flags alone
pub call_happens : (gs : List hb_glyph_info_t) (any : Bool) (es : List Event) (s new : Sides) → new ≡ record (with_glyphs gs s) { scratch_flags = with_has_glyph_flags any s.scratch_flags }
    → items_of new ≡ items_of s → origins_of new ≡ origins_by es s → IsReady s → Happens es s new
call_happens gs any es s new e items from ready =
    let P : Sides → Type 0 = λ n. items_of n ≡ items_of s → origins_of n ≡ origins_by es s → Happens es s n in
    let there : Sides = record (with_glyphs gs s) { scratch_flags = with_has_glyph_flags any s.scratch_flags } in
    subst P (sym e) (λ same o. record {
      view = ap (λ xs. record (view_of s) { items = xs; scratch_flags = stage_flags (with_has_glyph_flags any s.scratch_flags) }) same ∙ ap (λ n. record (view_of s) { scratch_flags = n }) (stage_flags_ignore_glyph_flags any s.scratch_flags);
      origins = o;
      settings = refl;
      ready = record {
        closed = ready.closed;
        front = ap (λ (ys : List hb_glyph_info_t). take (length ys) gs) ready.front;
        unread = ready.unread;
        placed = ready.placed ∙ sym (length-map (all_glyphs s) item_of) ∙ ap (λ (xs : List Item). length xs) (sym same) ∙ length-map (all_glyphs there) item_of;
        unrefused = ready.unrefused;
      };
    }) items from

-- ---- calls of a buffer that stands ready, where an index of the input is one of all glyphs

pub whole_index : (i : ℕ) (s : Sides) → IsReady s → index_in_all i s ≡ i
whole_index i s ready =
    let none = ap (λ (ys : List hb_glyph_info_t). length ys) ready.front in
    omega (arith, none, ready.unread)

-- an end among all glyphs is one of the input
pub end_of_input : (i : ℕ) (s : Sides) → IsReady s → i ≤ length (all_glyphs s) → i ≤ s.read + length s.ahead
end_of_input i s ready le =
    let none = ap (λ (ys : List hb_glyph_info_t). length ys) ready.front in
    omega (arith, none, le, length-append s.behind s.ahead)

pub merge_happens : (from to : ℕ) (s new : Sides) → new ≡ with_merged (index_in_all from s) (index_in_all to s) s → items_of new ≡ items_of s
    → origins_of new ≡ origins_by (Merge InList (index_in_all from s) (index_in_all to s) ∷ []) s → IsReady s → Happens (Merge InList from to ∷ []) s new
merge_happens from to s new e items origins ready =
    call_happens (glyphs_merged_at s.level (index_in_all from s) (index_in_all to s) (all_glyphs s)) (is_marked_at s.level (index_in_all from s) (index_in_all to s) (clusters (all_glyphs s)))
    (Merge InList from to ∷ []) s new e items
    (origins ∙ ap (λ i. origins_by (Merge InList i (index_in_all to s) ∷ []) s) (whole_index from s ready) ∙ ap (λ i. origins_by (Merge InList from i ∷ []) s) (whole_index to s ready)) ready

pub grapheme_happens : (from to : ℕ) (s new : Sides) → new ≡ with_grapheme_merged (index_in_all from s) (index_in_all to s) s → items_of new ≡ items_of s
    → origins_of new ≡ origins_by (MergeGrapheme (index_in_all from s) (index_in_all to s) ∷ []) s → IsReady s → Happens (MergeGrapheme from to ∷ []) s new
grapheme_happens from to s new e items origins ready =
    call_happens (glyphs_merged_as (grapheme_manner s.level) (index_in_all from s) (index_in_all to s) (all_glyphs s)) false
    (MergeGrapheme from to ∷ []) s new e items
    (origins ∙ ap (λ i. origins_by (MergeGrapheme i (index_in_all to s) ∷ []) s) (whole_index from s ready) ∙ ap (λ i. origins_by (MergeGrapheme from i ∷ []) s) (whole_index to s ready)) ready

pub break_happens : (from to : ℕ) (s new : Sides) → new ≡ range_flagged_apart 3 (Some from) (Some to) s → items_of new ≡ items_of s
    → origins_of new ≡ origins_by (Break (index_in_all from s) (index_in_all to s) ∷ []) s → IsReady s → Happens (Break from to ∷ []) s new
break_happens from to s new e items origins ready =
    call_happens (glyphs_marked 3 (index_in_all from s) (index_in_all to s) (all_glyphs s)) (has_several_numbers (range_of (index_in_all from s) (index_in_all to s) (clusters (all_glyphs s))))
    (Break from to ∷ []) s new e items
    (origins ∙ ap (λ i. origins_by (Break i (index_in_all to s) ∷ []) s) (whole_index from s ready) ∙ ap (λ i. origins_by (Break from i ∷ []) s) (whole_index to s ready)) ready
