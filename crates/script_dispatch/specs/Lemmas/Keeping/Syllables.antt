-- The events of syllables' bytes and features.
use Rattle.std.proofs.Common.{ℕ, ◌≡◌, ◌≤◌, ◌+◌, ◌==◌, ◌&&◌, Bool, true, false, if◌then◌else◌, List, [], ◌∷◌, ◌++◌, length, map, Option, None, Some, Ok, arith, subst}
use Rattle.std.specs.List.{list_all}
use Rattle.std.proofs.lemmas.List.{length-map}
use Rattle.buffer_glyphs.specs.declared.level.BufferClusterLevel.{BufferClusterLevel}
use Rattle.buffer_glyphs.specs.declared.cause.ShapeCause.TheVariants.{UnknownSyllableKind}
use Rattle.buffer_glyphs.specs.Items.{Item}
use Rattle.buffer_glyphs.specs.Events.{Event}
use Rattle.buffer_parts.specs.Plainly.{AreSteady}
use Rattle.buffer_core.specs.Readings.{Read, View}
use Rattle.script_categories.specs.declared.shaper.hb_ot_script_shaper_t.{hb_ot_script_shaper_t}
use Rattle.script_categories.specs.declared.shaper.hb_ot_script_shaper_t.TheVariants.{UNIVERSAL_SHAPER}
use Rattle.buffer_stages.specs.Bytes.{syllable_byte}
use Rattle.buffer_stages.specs.Cuts.{Syllable, syllables}
use Rattle.buffer_stages.specs.Rewriting.{in_syllables, within}
use Rattle.buffer_stages.specs.Parts.{items_with_features}
use Rattle.buffer_stages.specs.SyllableBuffers.{with_rule}
use Rattle.buffer_stages.specs.SyllableLaws.{IsPermuted}
use Rattle.script_syllabic.specs.Bytes.{bytes_of, bytes_set, is_known, itself, one_syllable, syllables_set, text_syllables}
use Rattle.script_syllabic.specs.declared.forms.FormMasks.{FormMasks}
use Rattle.script_syllabic.specs.Features.{all_forms, connects, pref_recorded, reph_size, rphf_masked, rphf_recorded, seam_event, seam_events, topography, topography_events}
use Rattle.script_syllabic.specs.Spans.{categories_counted, index_or_end, counted_index, counted_indices_from, universal_set}
use Rattle.script_syllabic.proofs.Counting.{indices_rise}
use Rattle.script_syllabic.proofs.QuietRules.{bytes_permute, pref_recorded_permutes, rphf_permutes, rphf_recorded_permutes, topography_permutes}
use Rattle.script_universal.specs.Pauses.{forms_set, universal_syllables_set}
use Rattle.buffer_stages.specs.LayoutStages.{item_not_substituted}
use Rattle.script_syllabic.specs.Syllables.{syllables_by, then_syllables, without_syllable}
use Rattle.buffer_parts.specs.PlainStages.{KeepsPlainly}
use Rattle.buffer_parts.specs.Lemmas.PlainStages.{IsSteady, ReadsPlainly, even_plainly, limited_plainly, mapped_plainly, permuted_even, rule_plainly, same_plainly, syllables_plainly, then_plainly, then_steady, within_steady}
use Rattle.script_plan.specs.Rules.{EndAfterStart, Spans}
use Rattle.script_dispatch.specs.Keeping.{SyllablesKeepPlainly}

bytes_steady : (at : ℕ → ℕ) (index : ℕ) (ss : List Syllable) (xs : List Item) → IsSteady (bytes_set at index ss xs)
bytes_steady at index [] xs = tt
bytes_steady at index (s ∷ ss) xs =
    let r = within (at s.start) (at s.end) (one_syllable (syllable_byte index s.kind)) xs in
    then_steady r (bytes_set at (index + 1) ss) (within_steady (one_syllable (syllable_byte index s.kind)) (at s.start) (at s.end) xs (λ ys. tt)) (bytes_steady at (index + 1) ss r.items)

bytes_kept : (shaper : hb_ot_script_shaper_t) (at : ℕ → ℕ) (ss : List Syllable) (v : View) (r : Read) (level : BufferClusterLevel) → IsPermuted v.items (bytes_set at 0 ss v.items) → bytes_of shaper at ss v ≡ Ok r → ReadsPlainly (length v.items) r level
bytes_kept shaper at ss v r level p e =
    limited_plainly (list_all (is_known shaper) ss) UnknownSyllableKind (length v.items) (with_rule (bytes_set at 0 ss) v) r level
    (even_plainly (bytes_set at 0 ss v.items).events v (record v { items = (bytes_set at 0 ss v.items).items }) level (bytes_steady at 0 ss v.items) (permuted_even v.items (bytes_set at 0 ss v.items) p)) e

set_kept : (span_of : Spans) (shaper : hb_ot_script_shaper_t) → EndAfterStart span_of → KeepsPlainly (syllables_set span_of shaper)
set_kept span_of shaper after v r level e =
    let xs = v.items in
    let cs = map (λ (x : Item). x.category) xs in
    let count : length cs ≡ length xs = length-map xs (λ (x : Item). x.category) in
    bytes_kept shaper itself (text_syllables span_of shaper xs) v r level (bytes_permute (span_of shaper cs) itself (length xs) (λ start lt. after shaper cs start (omega (arith, lt, count))) (λ i j le. le) (length xs) 0 0 xs) e

universal_set_kept : (span_of : Spans) → EndAfterStart span_of → KeepsPlainly (universal_set span_of)
universal_set_kept span_of after v r level e =
    let xs = v.items in
    let cs = categories_counted xs in
    let none : 0 + length xs ≡ length xs = omega arith in
    let rises : (i j : ℕ) → i ≤ j → counted_index xs i ≤ counted_index xs j = λ i j le. subst (λ n. index_or_end (counted_indices_from 0 xs) n i ≤ index_or_end (counted_indices_from 0 xs) n j) none (indices_rise 0 xs i j le) in
    bytes_kept UNIVERSAL_SHAPER (counted_index xs) (syllables (span_of UNIVERSAL_SHAPER cs) (length cs)) v r level
    (bytes_permute (span_of UNIVERSAL_SHAPER cs) (counted_index xs) (length cs) (after UNIVERSAL_SHAPER cs) rises (length cs) 0 0 xs) e

seam_steady : (b : Bool) (at : ℕ) (es : List Event) → AreSteady es → AreSteady (seam_event b at ++ es)
seam_steady true at es h = h
seam_steady false at es h = h

seams_steady : (before : Bool) (at : ℕ) (ss : List (List Item)) → AreSteady (seam_events before at ss)
seams_steady before at [] = tt
seams_steady before at (s ∷ ss) = seam_steady (before && connects s) at (seam_events (connects s) (at + length s) ss) (seams_steady (connects s) (at + length s) ss)

topography_steady : (masks : FormMasks) (ss : List (List Item)) → AreSteady (topography_events masks ss)
topography_steady masks ss = elim (all_forms masks == 0) as (λ t. AreSteady (if t then [] else seam_events false 0 ss)) [ true ↦ tt | false ↦ seams_steady false 0 ss ]

forms_kept : (forms : Option FormMasks) → KeepsPlainly (forms_set forms)
forms_kept None = same_plainly
forms_kept (Some masks) = rule_plainly (topography masks) (λ ys. topography_steady masks (in_syllables ys)) (topography_permutes masks)

universal_kept : (span_of : Spans) (rphf : ℕ) (forms : Option FormMasks) → EndAfterStart span_of → KeepsPlainly (universal_syllables_set span_of rphf forms)
universal_kept span_of rphf forms after =
    then_plainly (then_syllables (universal_set span_of) (rphf_masked rphf)) (forms_set forms)
    (then_plainly (universal_set span_of) (syllables_by (rphf_masked rphf)) (universal_set_kept span_of after)
    (syllables_plainly (rphf_masked rphf) (λ ys. within_steady (items_with_features rphf) 0 (reph_size ys) ys (λ zs. tt)) (rphf_permutes rphf))) (forms_kept forms)

pub syllables_keep_plainly : SyllablesKeepPlainly
syllables_keep_plainly = record {
  bytes = set_kept;
  universal = universal_kept;
  rphf = λ mask. syllables_plainly (rphf_recorded mask) (λ ys. tt) (rphf_recorded_permutes mask);
  pref = syllables_plainly pref_recorded (λ ys. tt) pref_recorded_permutes;
  cleared = mapped_plainly without_syllable;
  forgotten = mapped_plainly item_not_substituted;
}
