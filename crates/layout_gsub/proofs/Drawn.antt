-- What the drawing of an alternate does to a buffer.
use Rattle.std.proofs.Common.{ℕ, ◌≡◌, ◌<◌, ◌%◌, Bool, true, false, List, [], ◌∷◌, length, sym, ap, subst, ◌∙◌, arith, Some, None, slice_get, get_or}
use Rattle.std.proofs.lemmas.List.{length-map, length-append}
use Rattle.std.proofs.lemmas.Option.{slice_get-get_or}
use Rattle.std.specs.Prelude.{◌+◌, nat_le, if◌then◌else◌, Option, Result, Ok, Err}
use Rattle.buffer_glyphs.specs.declared.cause.ShapeCause.{ShapeCause}
use Rattle.buffer_glyphs.specs.declared.cause.ShapeCause.TheVariants.{TooLong}
use Rattle.buffer_glyphs.specs.Items.{item_of, strip, clusters}
use Rattle.buffer_glyphs.specs.Parts.{range_of}
use Rattle.buffer_glyphs.specs.Glyphs.{glyphs_marked, has_several_numbers}
use Rattle.buffer_glyphs.specs.Lemmas.Glyphs.{strip_marked}
use Rattle.buffer_glyphs.specs.Events.{Event, Break}
use Rattle.buffer_core.specs.Sides.{Sides, all_glyphs, origins_of, origins_by}
use Rattle.buffer_core.specs.Marking.{after_mark_across, end_in_all, with_flagged_apart}
use Rattle.layout_face.specs.declared.parts.GlyphDefinition.{GlyphDefinition}
use Rattle.buffer_stages.specs.Actions.{Cut, Acts, Refuses, later, whole}
use Rattle.buffer_stages.specs.Buffers.{cut_of, frame_of, IsPassed}
use Rattle.buffer_stages.specs.Performing.{cut_with, Performs}
use Rattle.buffer_stages.proofs.Lemmas.Performed.{performs_later, same_with}
use Rattle.buffer_stages.proofs.Lemmas.Attempts.{cut_with_glyphs}
use Rattle.layout_match.specs.Applied.{next_random}
use Rattle.layout_gsub.specs.Replacements.{cut_with_substitute, single_substitution}
use Rattle.layout_gsub.specs.Alternates.{alternate_of, alternate_of_value, drawn_alternate, is_drawn}

whole_length : (s : Sides) → end_in_all None s ≡ length (whole (cut_of s))
whole_length s =
    let both = length-append (strip s.behind) (strip s.ahead) in
    omega (arith, both, length-map s.behind item_of, length-map s.ahead item_of)

-- all is marked
pub all_marked : (s new : Sides) → new ≡ after_mark_across 3 None None s → origins_of new ≡ origins_by (Break 0 (end_in_all None s) ∷ []) s → IsPassed (Break 0 (length (whole (cut_of s))) ∷ []) s new
all_marked s new is happened =
    let n = end_in_all None s in
    let same : new ≡ with_flagged_apart 3 0 n s = is in
    record {
      cut_is = ap cut_of same ∙ cut_with_glyphs (has_several_numbers (range_of 0 n (clusters (all_glyphs s)))) (glyphs_marked 3 0 n (all_glyphs s)) s (strip_marked 3 0 n (all_glyphs s) (omega arith) (omega arith));
      happened = happened ∙ ap (λ m. origins_by (Break 0 m ∷ []) s) (whole_length s);
      still = ap frame_of same;
      read = ap (λ (t : Sides). t.read) same;
    }

-- a glyph that comes in or is refused is so whatever the state before was
replaced_from : (b : Bool) (cut : Cut) (es : List Event) (result : Result Bool ShapeCause) (r before after : ℕ) (s new : Sides) → Performs (if b then Acts cut es else Refuses TooLong) result r after s new → Performs (if b then Acts cut es else Refuses TooLong) result before after s new
replaced_from true cut es (Ok acted) r before after s new d = d
replaced_from false cut es (Ok acted) r before after s new d = d
replaced_from b cut es (Err cause) r before after s new d = d

pub alternate_drawn : (gdef given : GlyphDefinition) (glyphs : List ℕ) (n k r after end : ℕ) (result : Result Bool ShapeCause) (s mid new : Sides) → given ≡ gdef → k ≡ next_random r % length glyphs → k < length glyphs → n ≡ get_or glyphs k 0 → after ≡ next_random r
    → IsPassed (Break 0 (length (whole (cut_of s))) ∷ []) s mid → Performs (single_substitution given (Some n) (cut_with after mid)) result after end mid new → Performs (drawn_alternate gdef glyphs (cut_with r s)) result r end s new
alternate_drawn gdef given glyphs n k r after end result s mid new same at within is state passed performed =
    let es = Break 0 (length (whole (cut_of s))) ∷ [] in
    let c : Cut = cut_with after mid in
    let from = replaced_from (nat_le (length c.front + 1) c.max_len) (cut_with_substitute given n c) [] result after r end mid new performed in
    let all = performs_later es (single_substitution given (Some n) c) result r end s mid new passed from in
    let D : Cut → Type 0 = λ d. Performs (later es (single_substitution given (Some n) d)) result r end s new in
    let R : GlyphDefinition → Type 0 = λ d. Performs (later es (single_substitution d (Some n) (cut_with after s))) result r end s new in
    let here = subst R same (subst D (same_with after s mid passed.cut_is) all) in
    let there : Some n ≡ slice_get glyphs (next_random r % length glyphs) = ap Some is ∙ sym (slice_get-get_or glyphs k 0 within) ∙ ap (slice_get glyphs) at in
    let Q : Option ℕ → Type 0 = λ o. Performs (later es (single_substitution gdef o (cut_with after s))) result r end s new in
    let S : ℕ → Type 0 = λ m. Performs (later es (single_substitution gdef (slice_get glyphs (next_random r % length glyphs)) (cut_with m s))) result r end s new in
    subst S state (subst Q there here)
