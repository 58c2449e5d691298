-- The slices of a result are those of its text.
use Rattle.std.proofs.Common.{ℕ, ◌≡◌, ◌≢◌, ◌↔◌, inl, inr, false, List, [], length, Ok, refl, sym, ap, subst, ◌∙◌}
use Rattle.std.specs.Str.{IsUtf8}
use Rattle.buffer_common.specs.Direction.{is_backward}
use Rattle.buffer_glyphs.specs.EventParts.{parts_of}
use Rattle.buffer_glyphs.specs.Items.{clusters}
use Rattle.buffer_glyphs.specs.Order.{IsInOrder}
use Rattle.buffer_glyphs.specs.Origins.{numbers}
use Rattle.buffer_glyphs.specs.Lemmas.Numbers.{Has}
use Rattle.buffer_glyphs.specs.Lemmas.Origins.{numbers_origins}
use Rattle.buffer_parts.specs.CharacterParts.{part_after}
use Rattle.buffer_parts.specs.Slices.{ShareSlice, slices}
use Rattle.buffer_parts.specs.Lemmas.CharacterParts.{parts_are_united}
use Rattle.buffer_common.specs.declared.tag.Tag.{Tag}
use Rattle.buffer_tags.specs.declared.feature.Feature.{Feature}
use Rattle.buffer_unicode_tables.specs.Tables.{Tables}
use Rattle.layout_face.specs.declared.parts.FaceParts.{FaceParts}
use Rattle.buffer_core.specs.Readings.{IsMonotone, Read, state_after}
use Rattle.buffer_core.specs.Segment.{after_guess_segment_properties}
use Rattle.buffer_core.specs.Sides.{Sides, all_glyphs, origins_of, state_of}
use Rattle.script_plan.specs.Plans.{text_plan}
use Rattle.script_plan.specs.Rules.{EndAfterStart, Spans}
use Rattle.shape_pipeline.specs.Laws.{TextsAreEven}
use Rattle.shape_pipeline.specs.Results.{IsShapedBy}
use Rattle.shape_pipeline.specs.Shaped.{by_text, text_reading}
use Rattle.shape_pipeline.specs.Shaping.{Shaping}
use Rattle.shape_slices.specs.declared.slices.SourceSlice.{SourceSlice}
use Rattle.shape_slices.specs.Fitting.{character_starts}
use Rattle.shape_slices.specs.Runs.{AreSourceSlices}
use Rattle.shape_slices.proofs.Covered.{in_text_order, source_slices_are_text, source_slices_join}
use Rattle.shape_slices.proofs.Starts.{boundary_from_start}
use Rattle.shape_parts.specs.Premises.{IsPushedOnce, RulesKeepDirection, ShapingKeepsParts}
use Rattle.shape_parts.specs.SourceTexts.{AreOfOnePart, AreSlicesOf, ResultsHaveSourceSlices}
use Rattle.shape_parts.proofs.Parts.{some_left, texts_have_parts}
use Rattle.shape_parts.proofs.Shapers.{shapers_keep_direction}
use Rattle.shape_parts.proofs.Texts.{items_left, left_by, left_by_this, ordered_state, pushed_rise, result_clusters, shaped_clusters_stand_in_line, shaped_runs_have_one_flag_set, shaped_texts_fit, shapers_keep_parts}

-- the part of a character after the events of a reading
abbrev part_of : List ℕ → Sides → Read → ℕ → ℕ
part_of bytes text r n = part_after (parts_of text.level (r.events text.level)) (character_starts bytes) n

-- two characters share a slice exactly where their parts after the reading are one
shared_by : (p : Shaping) (bytes : List ℕ) (text result : Sides) (r : Read) (m n : ℕ) → ShapingKeepsParts p → IsUtf8 bytes → IsMonotone text.level → IsPushedOnce bytes text → text_reading p (state_of text) ≡ Ok r → IsShapedBy p text result → all_glyphs result ≢ []
    → Has (character_starts bytes) m → Has (character_starts bytes) n
    → (ShareSlice (slices (clusters (all_glyphs result)) (length bytes)) m n → part_of bytes text r m ≡ part_of bytes text r n)
    × (part_of bytes text r m ≡ part_of bytes text r n → ShareSlice (slices (clusters (all_glyphs result)) (length bytes)) m n)
shared_by p bytes text result r m n h u mono once e f some hm hn =
    let left = left_by_this (text_reading p (state_of text)) (state_of text) (state_of result) r e f in
    let starts : numbers (origins_of text) ≡ character_starts bytes = numbers_origins (all_glyphs text) ∙ once in
    let k = texts_have_parts p (state_of text) r false h (ordered_state false text mono (pushed_rise bytes text once)) e in
    let sliced = k.0.sliced (length bytes) (some_left (state_of text) r k.1 (items_left result (state_of text) r left some)) in
    let there = sliced.shared m n (subst (λ (ns : List ℕ). Has ns m) (sym starts) hm) (subst (λ (ns : List ℕ). Has ns n) (sym starts) hn) (boundary_from_start bytes m u hm).0 (boundary_from_start bytes n u hn).0 in
    subst (λ (ns : List ℕ). (ShareSlice (slices (clusters (all_glyphs result)) (length bytes)) m n → part_after (parts_of text.level (r.events text.level)) ns m ≡ part_after (parts_of text.level (r.events text.level)) ns n)
    × (part_after (parts_of text.level (r.events text.level)) ns m ≡ part_after (parts_of text.level (r.events text.level)) ns n → ShareSlice (slices (clusters (all_glyphs result)) (length bytes)) m n)) starts
    (subst (λ (ns : List ℕ). (ShareSlice (slices ns (length bytes)) m n → part_after (parts_of text.level (r.events text.level)) (numbers (origins_of text)) m ≡ part_after (parts_of text.level (r.events text.level)) (numbers (origins_of text)) n)
    × (part_after (parts_of text.level (r.events text.level)) (numbers (origins_of text)) m ≡ part_after (parts_of text.level (r.events text.level)) (numbers (origins_of text)) n → ShareSlice (slices ns (length bytes)) m n))
    (sym (result_clusters result (state_after r (state_of text)) left)) there)

-- so where joins or deletions united them
shared_where_united : (p : Shaping) (bytes : List ℕ) (text result : Sides) (m n : ℕ) → ShapingKeepsParts p → IsUtf8 bytes → IsMonotone text.level → IsPushedOnce bytes text → IsShapedBy p text result → all_glyphs result ≢ []
    → Has (character_starts bytes) m → Has (character_starts bytes) n → ShareSlice (slices (clusters (all_glyphs result)) (length bytes)) m n ↔ AreOfOnePart p bytes text m n
shared_where_united p bytes text result m n h u mono once f some hm hn = (λ share. to share, λ one. back one)
  where
    to : ShareSlice (slices (clusters (all_glyphs result)) (length bytes)) m n → AreOfOnePart p bytes text m n
    to share =
        let q = left_by (text_reading p (state_of text)) (state_of text) (state_of result) f in
        let same = (shared_by p bytes text result q.read m n h u mono once q.is_read f some hm hn).0 share in
        elim ((parts_are_united (parts_of text.level (q.read.events text.level)) (character_starts bytes) m n).0 same) [ inl one ↦ inl one | inr united ↦ inr (q.read, q.is_read, united) ]

    back : AreOfOnePart p bytes text m n → ShareSlice (slices (clusters (all_glyphs result)) (length bytes)) m n
    back (inl one) =
        let q = left_by (text_reading p (state_of text)) (state_of text) (state_of result) f in
        (shared_by p bytes text result q.read m n h u mono once q.is_read f some hm hn).1 (ap (part_of bytes text q.read) one)
    back (inr (r, e, united)) =
        (shared_by p bytes text result r m n h u mono once e f some hm hn).1 ((parts_are_united (parts_of text.level (r.events text.level)) (character_starts bytes) m n).1 united)

-- the slices of a result are those of its text
slices_of_text : TextsAreEven → (p : Shaping) (bytes : List ℕ) (text result : Sides) (ss : List SourceSlice) → ShapingKeepsParts p → RulesKeepDirection p.rules → IsUtf8 bytes → IsMonotone text.level → IsPushedOnce bytes text → text.direction ≡ p.direction → IsShapedBy p text result
    → all_glyphs result ≢ [] → AreSourceSlices (clusters (all_glyphs result)) (length bytes) ss → AreSlicesOf p bytes text result ss
slices_of_text even p bytes text result ss h d u mono once along f some are =
    let fit = shaped_texts_fit p bytes text result h mono once f some in
    let line : IsInOrder (is_backward p.direction) (clusters (all_glyphs result)) = shaped_clusters_stand_in_line p text result h d mono (pushed_rise bytes text once) along f in
    let turned = in_text_order (is_backward p.direction) ss (slices (clusters (all_glyphs result)) (length bytes)) (are.bytes (is_backward p.direction) line) in
    record {
      joined = source_slices_join (is_backward p.direction) bytes (clusters (all_glyphs result)) ss u fit line are;
      whole = source_slices_are_text (is_backward p.direction) bytes (clusters (all_glyphs result)) ss u fit line are;
      flags = shaped_runs_have_one_flag_set even p text result (length bytes) ss f are;
      shared = λ m n hm hn. subst (λ (ranges : List (ℕ × ℕ)). ShareSlice ranges m n ↔ AreOfOnePart p bytes text m n) (sym turned) (shared_where_united p bytes text result m n h u mono once f some hm hn);
    }

-- a text is shaped on a line of its own direction
own_direction : (font : FaceParts) (tables : Tables) (tags : List ℕ → List Tag) (spans : Spans) (features : List Feature) (text : Sides) → text.direction ≡ (by_text font tables tags spans features text).direction
unfolding text_plan
own_direction font tables tags spans features text = refl

pub results_have_source_slices : TextsAreEven → (spans : Spans) → EndAfterStart spans → ResultsHaveSourceSlices spans
results_have_source_slices even spans after font tables tags features bytes text result s f some =
    let guessed = after_guess_segment_properties text in
    let p = by_text font tables tags spans features guessed in
    let h = shapers_keep_parts font tables tags spans features guessed s.lawful after s.shaper in
    let d = shapers_keep_direction font tables tags spans features guessed in (
      shaped_texts_fit p bytes guessed result h s.level s.once f some,
      λ ss are. slices_of_text even p bytes guessed result ss h d s.utf8 s.level s.once (own_direction font tables tags spans features guessed) f some are,
    )
