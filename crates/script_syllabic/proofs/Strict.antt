-- Ranges flagged as unsafe to break where safe breaks are requested.
use Rattle.std.proofs.Common.{ℕ, ◌≡◌, Bool, true, false, Some, if◌then◌else◌, List, [], ◌∷◌, length, arith, refl, sym, ap, subst, ◌∙◌}
use Rattle.buffer_glyphs.specs.declared.info.hb_glyph_info_t.{hb_glyph_info_t}
use Rattle.buffer_glyphs.specs.Items.{clusters}
use Rattle.buffer_glyphs.specs.Events.{Event, StrictBreak, strictly_marked}
use Rattle.buffer_glyphs.specs.Glyphs.{glyphs_marked, has_several_numbers}
use Rattle.buffer_glyphs.specs.Parts.{range_of}
use Rattle.buffer_core.specs.Sides.{Sides, all_glyphs, items_of, origins_by, origins_of, requests_breaks}
use Rattle.buffer_core.specs.Merging.{index_in_all}
use Rattle.buffer_core.specs.Marking.{end_in_all, range_flagged_apart, start_in_all}
use Rattle.buffer_core.specs.Marking as marking
use Rattle.buffer_stages.specs.Ready.{IsReady}
use Rattle.buffer_stages.specs.Stages.{Happens}
use Rattle.buffer_stages.proofs.Lemmas.Happened.{call_happens, whole_index}

same_happens : (es : List Event) (s new : Sides) → new ≡ s → origins_of new ≡ origins_by es s → IsReady s → Happens es s new
same_happens es s new e from ready =
    let P : Sides → Type 0 = λ n. origins_of n ≡ origins_by es s → Happens es s n in
    subst P (sym e) (λ o. record { view = refl; origins = o; settings = refl; ready = ready }) from

by_request : (from to : ℕ) (es : List Event) (s new : Sides) (b : Bool) → new ≡ (if b then range_flagged_apart 3 (Some from) (Some to) s else s) → items_of new ≡ items_of s → origins_of new ≡ origins_by es s → IsReady s → Happens es s new
by_request from to es s new true e items origins ready =
    let i = start_in_all (Some from) s in
    let j = end_in_all (Some to) s in
    call_happens (glyphs_marked 3 i j (all_glyphs s)) (has_several_numbers (range_of i j (clusters (all_glyphs s)))) es s new e items origins ready
by_request from to es s new false e items origins ready = same_happens es s new e origins ready

pub strict_break_happens : (from to : ℕ) (s new : Sides) → new ≡ marking.strictly_marked (Some from) (Some to) s → items_of new ≡ items_of s
    → origins_of new ≡ origins_by (StrictBreak (start_in_all (Some from) s) (end_in_all (Some to) s) ∷ []) s → IsReady s → Happens (StrictBreak from to ∷ []) s new
strict_break_happens from to s new e items origins ready =
    let o = origins ∙ ap (λ i. origins_by (StrictBreak i (end_in_all (Some to) s) ∷ []) s) (whole_index from s ready) ∙ ap (λ i. origins_by (StrictBreak from i ∷ []) s) (whole_index to s ready) in
    by_request from to (StrictBreak from to ∷ []) s new (requests_breaks s) e items o ready

-- without the request nothing is flagged
pub strict_break_skipped : (from to : ℕ) (s : Sides) → requests_breaks s ≡ false → IsReady s → Happens (StrictBreak from to ∷ []) s s
strict_break_skipped from to s e ready = record {
  view = refl;
  origins = sym (ap (λ b. strictly_marked b from to (origins_of s)) e);
  settings = refl;
  ready = ready;
}
