-- Clusters of texts that were pushed once, and of the glyphs that they are shaped to.
use Rattle.std.proofs.Common.{ℕ, ◌≡◌, ◌≢◌, ◌≤◌, ◌+◌, Bool, false, List, [], ◌∷◌, ◌++◌, length, Ok, Err, arith, refl, sym, ap, subst, ◌∙◌, append_assoc}
use Rattle.std.specs.Char.{len_utf8}
use Rattle.std.specs.Str.{chars}
use Rattle.std.proofs.lemmas.List.{length-map}
use Rattle.buffer_common.specs.Direction.{is_backward}
use Rattle.buffer_glyphs.specs.declared.info.hb_glyph_info_t.{hb_glyph_info_t}
use Rattle.buffer_glyphs.specs.EventParts.{parts_of}
use Rattle.buffer_glyphs.specs.Items.{clusters, item_of, strip}
use Rattle.buffer_glyphs.specs.Order.{AllFrom, BringsNone, IsInOrder, IsLeast, IsRising}
use Rattle.buffer_glyphs.specs.Origins.{numbers, origin_of}
use Rattle.buffer_glyphs.specs.Parts.{after_part_events}
use Rattle.buffer_glyphs.specs.Lemmas.EventParts.{origins_keep_numbers}
use Rattle.buffer_glyphs.specs.Lemmas.Numbers.{Has, has_here}
use Rattle.buffer_glyphs.specs.Lemmas.Origins.{numbers_origins}
use Rattle.buffer_parts.specs.CharacterParts.{AreUnitedByEvents}
use Rattle.buffer_parts.specs.Fits.{FitsText}
use Rattle.buffer_parts.specs.Slices.{ShareSlice, slices}
use Rattle.buffer_core.specs.Readings.{BufferState, Follows, IsMonotone, Read, Reading, state_after}
use Rattle.buffer_core.specs.Sides.{Sides, all_glyphs, items_of, origins_of, state_of, view_of}
use Rattle.buffer_core.specs.Text.{added_text, added_text_from, offsets_from}
use Rattle.script_dispatch.specs.Lemmas.Orders.{keeps_count, rules_keep_parts}
use Rattle.script_dispatch.specs.Requests.{any_kind}
use Rattle.script_plan.specs.Plans.{planned_shaper, text_plan}
use Rattle.shape_pipeline.specs.Laws.{TextsAreEven}
use Rattle.script_dispatch.specs.Rules.{rules_of}
use Rattle.shape_pipeline.specs.Reading.{before_ranges, clusters_after}
use Rattle.shape_pipeline.specs.Shaped.{by_text, language_tags, text_reading}
use Rattle.shape_slices.specs.Fitting.{character_starts}
use Rattle.shape_slices.proofs.Flags.{runs_have_one_flag_set}
use Rattle.shape_parts.specs.Premises.{HasOrderedClusters, IsPushedOnce}
use Rattle.shape_parts.specs.TextLaws.{GuessingKeepsClusters, PushedTextsArePushedOnce, ShapedClustersAreParts, ShapedClustersStandInLine, ShapedRunsHaveOneFlagSet, ShapedSlicesAreNoCoarser, ShapedTextsFit, ShapedTextsKeepLeast, ShapersCountItems, ShapersKeepParts, StartsRise, TextRangesReadNumbers}
use Rattle.shape_parts.proofs.Counting.{kept_counts}
use Rattle.shape_parts.proofs.Lines.{clusters_stand_in_line}
use Rattle.shape_parts.proofs.Parts.{clusters_are_parts, clusters_fit_text, least_cluster_stays, ranges_read_numbers, slices_are_no_coarser_than_parts}

-- ---- starts

none_less : (m at : ℕ) (cs : List ℕ) → m ≤ at → AllFrom (λ a b. a ≤ b) m (offsets_from at cs)
none_less m at [] le = tt
none_less m at (c ∷ cs) le = (le, none_less m (at + len_utf8 c) cs (omega (arith, le)))

offsets_rise : (at : ℕ) (cs : List ℕ) → IsRising (offsets_from at cs)
offsets_rise at [] = tt
offsets_rise at (c ∷ cs) = (none_less at (at + len_utf8 c) cs (omega arith), offsets_rise (at + len_utf8 c) cs)

first_least : (cs : List ℕ) → cs ≢ [] → IsLeast 0 (offsets_from 0 cs)
first_least [] some = absurd (some refl)
first_least (c ∷ cs) some = record { among = has_here 0 (offsets_from (0 + len_utf8 c) cs); below = λ n h. omega arith }

pub starts_rise : StartsRise
starts_rise text = (offsets_rise 0 (chars text), first_least (chars text))

pub pushed_clusters : (at : ℕ) (cs : List ℕ) → clusters (added_text_from at cs) ≡ offsets_from at cs
pushed_clusters at [] = refl
pushed_clusters at (c ∷ cs) = ap (λ ns. at ∷ ns) (pushed_clusters (at + len_utf8 c) cs)

pub pushed_texts_are_pushed_once : PushedTextsArePushedOnce
pushed_texts_are_pushed_once text s none =
    ap clusters (sym (append_assoc s.behind s.ahead (added_text text)) ∙ ap (λ gs. gs ++ added_text text) none) ∙ pushed_clusters 0 (chars text)

pub guessing_keeps_clusters : GuessingKeepsClusters
guessing_keeps_clusters s = refl

-- ---- buffers as states

pub ordered_state : (falls : Bool) (text : Sides) → IsMonotone text.level → IsInOrder falls (clusters (all_glyphs text)) → HasOrderedClusters falls (state_of text)
ordered_state falls text mono o = record {
  level = mono;
  order = subst (IsInOrder falls) (sym (numbers_origins (all_glyphs text))) o;
  counted = length-map (all_glyphs text) origin_of ∙ sym (length-map (all_glyphs text) item_of);
}

-- what a reading leaves
pub record IsLeftBy (a : Reading) (text result : BufferState) : Type 0 where
  pub read : Read
  pub is_read : a ≡ Ok read
  pub left : result ≡ state_after read text

pub left_by : (a : Reading) (text result : BufferState) → Follows a text result → IsLeftBy a text result
left_by (Ok r) text result f = record { read = r; is_read = refl; left = f }
left_by (Err c) text result f = absurd f

pub left_by_this : (a : Reading) (text result : BufferState) (r : Read) → a ≡ Ok r → Follows a text result → result ≡ state_after r text
left_by_this a text result r e f = subst (λ (b : Reading). Follows b text result) e f

-- the clusters of glyphs are those of their state
pub result_clusters : (result : Sides) (t : BufferState) → state_of result ≡ t → clusters (all_glyphs result) ≡ numbers t.origins
result_clusters result t e = sym (numbers_origins (all_glyphs result)) ∙ ap (λ (s : BufferState). numbers s.origins) e

no_items : (gs : List hb_glyph_info_t) → strip gs ≡ [] → gs ≡ []
no_items [] e = refl
no_items (g ∷ gs) e = cc

-- an item is left where a glyph is
pub items_left : (result : Sides) (text : BufferState) (r : Read) → state_of result ≡ state_after r text → all_glyphs result ≢ [] → r.view.items ≢ []
items_left result text r e some none = some (no_items (all_glyphs result) (ap (λ (s : BufferState). s.view.items) e ∙ none))

-- ---- shaped texts

pub shaped_clusters_are_parts : ShapedClustersAreParts
shaped_clusters_are_parts p text result r falls h mono o e f =
    let k = clusters_are_parts p (state_of text) r falls h (ordered_state falls text mono o) e in
    result_clusters result (state_after r (state_of text)) (left_by_this (text_reading p (state_of text)) (state_of text) (state_of result) r e f)
    ∙ k.0 ∙ ap (after_part_events (parts_of text.level (r.events text.level))) (numbers_origins (all_glyphs text))

pub shaped_clusters_stand_in_line : ShapedClustersStandInLine
shaped_clusters_stand_in_line p text result h d mono rises along f =
    let q = left_by (text_reading p (state_of text)) (state_of text) (state_of result) f in
    subst (IsInOrder (is_backward p.direction)) (sym (result_clusters result (state_after q.read (state_of text)) q.left))
    (clusters_stand_in_line p (state_of text) q.read h d (ordered_state false text mono rises) along q.is_read)

pub shaped_texts_keep_least : ShapedTextsKeepLeast
shaped_texts_keep_least p text result falls m h mono o f some l =
    let q = left_by (text_reading p (state_of text)) (state_of text) (state_of result) f in
    subst (IsLeast m) (sym (result_clusters result (state_after q.read (state_of text)) q.left))
    (least_cluster_stays p (state_of text) q.read falls m h (ordered_state falls text mono o) q.is_read (items_left result (state_of text) q.read q.left some) (subst (IsLeast m) (sym (numbers_origins (all_glyphs text))) l))

-- ---- texts that were pushed once

pub pushed_rise : (bytes : List ℕ) (text : Sides) → IsPushedOnce bytes text → IsRising (clusters (all_glyphs text))
pushed_rise bytes text once = subst IsRising (sym once) (offsets_rise 0 (chars bytes))

-- a text of which some cluster is known has the cluster 0
zero_is_first : (cs : List ℕ) (n : ℕ) → Has (offsets_from 0 cs) n → Has (offsets_from 0 cs) 0
zero_is_first [] n h = cc
zero_is_first (c ∷ cs) n h = has_here 0 (offsets_from (0 + len_utf8 c) cs)

some_cluster : (gs : List hb_glyph_info_t) → gs ≢ [] → (n : ℕ) × Has (clusters gs) n
some_cluster [] some = absurd (some refl)
some_cluster (g ∷ gs) some = (g.cluster, has_here g.cluster (clusters gs))

-- each cluster of a result is one of the text's
result_brings_none : (text result : Sides) (r : Read) → state_of result ≡ state_after r (state_of text) → (n : ℕ) → Has (clusters (all_glyphs result)) n → Has (clusters (all_glyphs text)) n
result_brings_none text result r left n h =
    subst (λ (ns : List ℕ). Has ns n) (numbers_origins (all_glyphs text))
    (origins_keep_numbers (state_of text).asks text.level (r.events text.level) (origins_of text) n (subst (λ (ns : List ℕ). Has ns n) (result_clusters result (state_after r (state_of text)) left) h))

zero_there : (bytes : List ℕ) (text result : Sides) (r : Read) → IsPushedOnce bytes text → state_of result ≡ state_after r (state_of text) → all_glyphs result ≢ [] → Has (numbers (origins_of text)) 0
zero_there bytes text result r once left some =
    let one = some_cluster (all_glyphs result) some in
    let there = result_brings_none text result r left one.0 one.1 in
    let first = zero_is_first (chars bytes) one.0 (subst (λ (ns : List ℕ). Has ns one.0) once there) in
    subst (λ (ns : List ℕ). Has ns 0) (sym (numbers_origins (all_glyphs text) ∙ once)) first

pub shaped_texts_fit : ShapedTextsFit
shaped_texts_fit p bytes text result h mono once f some =
    let q = left_by (text_reading p (state_of text)) (state_of text) (state_of result) f in
    let fits =
    clusters_fit_text p (state_of text) q.read false h (ordered_state false text mono (pushed_rise bytes text once)) q.is_read (items_left result (state_of text) q.read q.left some) (zero_there bytes text result q.read once q.left some) in
    subst (λ (ns : List ℕ). FitsText ns (clusters (all_glyphs result))) (numbers_origins (all_glyphs text) ∙ once)
    (subst (FitsText (numbers (origins_of text))) (sym (result_clusters result (state_after q.read (state_of text)) q.left)) fits)

pub shaped_slices_are_no_coarser : ShapedSlicesAreNoCoarser
shaped_slices_are_no_coarser p bytes text result r m n h mono once e f some hm hn pm pn other share =
    let left = left_by_this (text_reading p (state_of text)) (state_of text) (state_of result) r e f in
    let starts : numbers (origins_of text) ≡ character_starts bytes = numbers_origins (all_glyphs text) ∙ once in
    let there = subst (λ (ns : List ℕ). ShareSlice (slices ns (length bytes)) m n) (result_clusters result (state_after r (state_of text)) left) share in
    subst (λ (ns : List ℕ). AreUnitedByEvents (parts_of text.level (r.events text.level)) ns m n) starts
    (slices_are_no_coarser_than_parts p (state_of text) r false (length bytes) m n h (ordered_state false text mono (pushed_rise bytes text once)) e (items_left result (state_of text) r left some)
    (subst (λ (ns : List ℕ). Has ns m) (sym starts) hm) (subst (λ (ns : List ℕ). Has ns n) (sym starts) hn) pm pn other there)

pub shaped_runs_have_one_flag_set : TextsAreEven → ShapedRunsHaveOneFlagSet
shaped_runs_have_one_flag_set even p text result end ss f are = runs_have_one_flag_set (all_glyphs result) end ss (even p text (state_of result) f) are

-- ---- without a plan

pub shapers_keep_parts : ShapersKeepParts
shapers_keep_parts font tables tags spans features text lawful after keeps =
    let shaper = planned_shaper any_kind font (language_tags tags text) text.direction text.script in
    let plan = text_plan any_kind font (language_tags tags text) text.direction text.script features in
    record { tables = lawful; rules = rules_keep_parts shaper plan; counts = keeps_count shaper plan; spans = after }

pub shapers_count_items : ShapersCountItems
shapers_count_items font tables tags spans features text =
    let shaper = planned_shaper any_kind font (language_tags tags text) text.direction text.script in
    let plan = text_plan any_kind font (language_tags tags text) text.direction text.script features in
    let rules = rules_keep_parts shaper plan in
    record {
      preprocesses = λ f t settings. kept_counts ((rules_of shaper plan).preprocesses f t settings) (rules.preprocesses f t settings).parts;
      reorders = rules.reorders;
      counts = keeps_count shaper plan;
      sets_masks = λ f t settings. kept_counts ((rules_of shaper plan).sets_masks f t settings) (rules.sets_masks f t settings).parts;
    }

pub text_ranges_read_numbers : TextRangesReadNumbers
text_ranges_read_numbers font tables tags spans features text r e =
    let p = by_text font tables tags spans features text in
    let k = ranges_read_numbers p (state_of text) in
    let counted : length (origins_of text) ≡ length (items_of text) = length-map (all_glyphs text) origin_of ∙ sym (length-map (all_glyphs text) item_of) in (
      subst (λ (ns : List ℕ). BringsNone ns (clusters_after (before_ranges p (view_of text)) (state_of text))) (numbers_origins (all_glyphs text)) k.0,
      k.1 r (shapers_count_items font tables tags spans features text) counted e,
    )
