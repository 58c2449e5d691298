-- All pipeline stages keep the parts of a text.
use Rattle.std.proofs.Common.{ℕ, ◌≡◌, ◌≢◌, ◌==◌, ◌⊎◌, inl, inr, Bool, true, false, if◌then◌else◌, List, [], ◌∷◌, length, reverse, Ok, Err, Some, refl, sym, ap, ◌∙◌}
use Rattle.std.proofs.lemmas.List.{length-map, length-reverse, nil_from_length}
use Rattle.buffer_common.specs.Direction.{is_backward}
use Rattle.buffer_glyphs.specs.declared.level.BufferClusterLevel.{BufferClusterLevel}
use Rattle.buffer_glyphs.specs.EventParts.{parts_of}
use Rattle.buffer_glyphs.specs.Events.{Reverse, origins_after}
use Rattle.buffer_glyphs.specs.Order.{BringsNone}
use Rattle.buffer_glyphs.specs.Origins.{Origin, numbers}
use Rattle.buffer_glyphs.specs.Lemmas.EventParts.{origins_keep_numbers}
use Rattle.buffer_parts.specs.CharacterParts.{AreUnitedByEvents}
use Rattle.buffer_parts.specs.Counts.{count_after}
use Rattle.buffer_parts.specs.Keeping.{AreKept, HaveParts}
use Rattle.buffer_parts.specs.Lemmas.Counts.{counts_follow}
use Rattle.buffer_parts.specs.Lemmas.CharacterParts.{parts_are_united}
use Rattle.buffer_parts.specs.Lemmas.Keeping.{plain_is_kept}
use Rattle.buffer_core.specs.Readings.{BufferState, Read, Reading, Stage, View, always, state_after, with_events}
use Rattle.buffer_parts.specs.Stages.{KeepsParts}
use Rattle.buffer_parts.specs.Lemmas.Stages.{at_read, nothing_keeps, runs_have_parts, same_keeps, stages_keep_parts}
use Rattle.layout_laws.proofs.Lemmas.Kept.{positioning_keeps_parts, substitution_keeps_parts}
use Rattle.layout_offsets.specs.Finishing.{links_followed}
use Rattle.shape_glyphs.specs.Flags.{with_flags_spread}
use Rattle.shape_glyphs.specs.Ignorables.{ignorables_hidden}
use Rattle.shape_glyphs.specs.Selectors.{with_selectors}
use Rattle.shape_glyphs.specs.Widths.{zero_widths}
use Rattle.shape_parts.specs.Lines.{StaysInLine}
use Rattle.shape_parts.proofs.Glyphs.{followed_links_stay, ignorables_stay, positioned_marks_stay, selectors_stay, spread_stays, zeroed_widths_stay}
use Rattle.shape_pipeline.specs.Chains.{only_if}
use Rattle.shape_pipeline.specs.Endings.{text_ended}
use Rattle.shape_pipeline.specs.Glyphs.{glyphs_substituted, glyphs_taken}
use Rattle.shape_pipeline.specs.Limits.{final_view, unshaped_text}
use Rattle.shape_pipeline.specs.Masks.{ranges_set}
use Rattle.shape_pipeline.specs.Positioning.{adjusts_marks, marks_positioned, positions_adjusted, positions_begun, positions_ended, visual_order}
use Rattle.shape_pipeline.specs.Reading.{after_ranges, before_ranges, clusters_after, positioning_stage, reading, shaping_stage}
use Rattle.shape_pipeline.specs.Shaped.{text_reading}
use Rattle.shape_pipeline.specs.Shaping.{Shaping, pauses_of, postprocessing_stage}
use Rattle.shape_fallback.specs.Marks.{components_direction}
use Rattle.shape_parts.specs.Premises.{HasOrderedClusters, ShapingKeepsParts}
use Rattle.shape_parts.specs.Laws.{ClustersAreParts, ClustersFitText, LeastClusterStays, RangesReadNumbers, RangesReadParts, ShapingKeepsTextParts, SlicesAreNoCoarserThanParts}
use Rattle.shape_parts.proofs.Begun.{begun_texts_keep_parts}
use Rattle.shape_parts.proofs.Chains.{IsOfChains, chain_has, wanted_has}
use Rattle.shape_parts.proofs.Counting.{before_counts}
use Rattle.shape_parts.proofs.Phases.{AreShaping, before_have, positions_adjusted_have, positions_begun_have, ranges_have, substituted_have, taken_have}

-- ---- stages

parts_chain : IsOfChains KeepsParts
parts_chain = record { same = same_keeps; steps = stages_keep_parts }

pub shaping_parts : (p : Shaping) → ShapingKeepsParts p → AreShaping KeepsParts p
shaping_parts p h = record {
  chains = parts_chain;
  in_line = λ s k. k.kept.parts;
  begun = (begun_texts_keep_parts p h).parts;
  preprocessed = (h.rules.preprocesses p.font p.tables p.settings).parts;
  masked = (h.rules.sets_masks p.font p.tables p.settings).parts;
  substituted = substitution_keeps_parts p.font p.map (pauses_of p) (λ n. (h.rules.pauses p.font p.tables p.spans p.settings n h.spans).parts);
  positioned = positioning_keeps_parts p.font p.map (pauses_of p) (λ n. (h.rules.pauses p.font p.tables p.spans p.settings n h.spans).parts);
}

visual_keeps : KeepsParts (always visual_order)
visual_keeps v r level e = at_read (λ q. AreKept level (q.events level) (length v.items) (length q.view.items)) (visual_order v) r e (by_test (is_backward v.direction))
  where
    by_test : (b : Bool) → AreKept level ((if b then with_events (Reverse ∷ []) (record v { items = reverse v.items; positions = reverse v.positions }) else with_events [] v).events level) (length v.items)
        (length (if b then with_events (Reverse ∷ []) (record v { items = reverse v.items; positions = reverse v.positions }) else with_events [] v).view.items)
    by_test true = plain_is_kept level (Reverse ∷ []) (length v.items) (length (reverse v.items)) tt tt (sym (length-reverse v.items))
    by_test false = nothing_keeps level (length v.items)

pub positioned_stays : (p : Shaping) → StaysInLine (always (marks_positioned p))
positioned_stays p = positioned_marks_stay p.font (components_direction p.direction (Some p.script)) (adjusts_marks p)

ended_keep : (p : Shaping) → KeepsParts (positions_ended p)
unfolding positions_ended
ended_keep p =
    let marks = always (marks_positioned p) in
    chain_has KeepsParts (always (zero_widths p.settings.flags) ∷ always links_followed ∷ only_if p.choices.fallback_mark_positioning marks ∷ always visual_order ∷ []) parts_chain
    ((zeroed_widths_stay p.settings.flags).kept.parts, (followed_links_stay.kept.parts, (wanted_has KeepsParts p.choices.fallback_mark_positioning marks parts_chain (positioned_stays p).kept.parts, (visual_keeps, tt))))

positioning_keep : (p : Shaping) → ShapingKeepsParts p → KeepsParts (positioning_stage p)
unfolding positioning_stage
positioning_keep p h =
    chain_has KeepsParts (positions_begun p ∷ positions_adjusted p ∷ positions_ended p ∷ []) parts_chain
    (positions_begun_have KeepsParts p (shaping_parts p h), (positions_adjusted_have KeepsParts p (shaping_parts p h), (ended_keep p, tt)))

pub final_stays : (p : Shaping) (v : View) (r : Read) (level : BufferClusterLevel) → always (final_view p.direction) v ≡ Ok r → AreKept level (r.events level) (length v.items) (length r.view.items)
final_stays p v r level e = at_read (λ q. AreKept level (q.events level) (length v.items) (length q.view.items)) (final_view p.direction v) r e (nothing_keeps level (length v.items))

text_ended_keeps : (p : Shaping) → ShapingKeepsParts p → KeepsParts (text_ended p)
unfolding text_ended
text_ended_keeps p h =
    chain_has KeepsParts (always (with_selectors p.settings.not_found_variation_selector) ∷ always (ignorables_hidden p.settings.flags p.settings.invisible p.font) ∷ postprocessing_stage p ∷ always with_flags_spread ∷ always (final_view p.direction) ∷ []) parts_chain
    ((selectors_stay p.settings.not_found_variation_selector).kept.parts, ((ignorables_stay p.settings.flags p.settings.invisible p.font).kept.parts, ((h.rules.postprocesses p.font p.settings).parts, (spread_stays.kept.parts, (final_stays p, tt)))))

after_keep : (p : Shaping) → ShapingKeepsParts p → KeepsParts (after_ranges p)
unfolding after_ranges
after_keep p h =
    chain_has KeepsParts (glyphs_taken p ∷ glyphs_substituted p ∷ positioning_stage p ∷ text_ended p ∷ []) parts_chain
    (taken_have KeepsParts p (shaping_parts p h), (substituted_have KeepsParts p (shaping_parts p h), (positioning_keep p h, (text_ended_keeps p h, tt))))

pub shaping_keeps_text_parts : ShapingKeepsTextParts
unfolding shaping_stage
shaping_keeps_text_parts p clusters h =
    chain_has KeepsParts (before_ranges p ∷ ranges_set p clusters ∷ after_ranges p ∷ []) parts_chain
    (before_have KeepsParts p h (shaping_parts p h), (ranges_have KeepsParts p clusters (shaping_parts p h), (after_keep p h, tt)))

-- ---- a text

unshaped_keeps : KeepsParts (always unshaped_text)
unshaped_keeps v r level e = at_read (λ q. AreKept level (q.events level) (length v.items) (length q.view.items)) (unshaped_text v) r e (nothing_keeps level (length v.items))

read_by : (stage : Stage) (p : Shaping) (text : BufferState) (r : Read) (falls : Bool) → KeepsParts stage → stage text.view ≡ Ok r → HasOrderedClusters falls text
    → HaveParts falls text.asks text.level (r.events text.level) text.origins × (length (state_after r text).origins ≡ length r.view.items)
read_by stage p text r falls keeps e h = runs_have_parts stage text r falls keeps h.level e h.counted h.order

pub read_as : (p : Shaping) (text : BufferState) → reading p text ≡ shaping_stage p (clusters_after (before_ranges p text.view) text) text.view
unfolding reading
read_as p text = refl

pub texts_have_parts : (p : Shaping) (text : BufferState) (r : Read) (falls : Bool) → ShapingKeepsParts p → HasOrderedClusters falls text → text_reading p text ≡ Ok r
    → HaveParts falls text.asks text.level (r.events text.level) text.origins × (length (state_after r text).origins ≡ length r.view.items)
unfolding text_reading
texts_have_parts p text r falls h o e = by_test (length text.view.items == 0) e
  where
    by_test : (b : Bool) → ◌≡◌ {A = Reading} (if b then Ok (unshaped_text text.view) else reading p text) (Ok r)
        → HaveParts falls text.asks text.level (r.events text.level) text.origins × (length (state_after r text).origins ≡ length r.view.items)
    by_test true f = read_by (always unshaped_text) p text r falls unshaped_keeps f o
    by_test false f =
        let clusters = clusters_after (before_ranges p text.view) text in
        read_by (shaping_stage p clusters) p text r falls (shaping_keeps_text_parts p clusters h) (sym (read_as p text) ∙ f) o

pub clusters_are_parts : ClustersAreParts
clusters_are_parts p text r falls h o e = let k = texts_have_parts p text r falls h o e in (k.0.clusters, k.1)

-- where an item is left, an origin is
pub some_left : (text : BufferState) (r : Read) → length (state_after r text).origins ≡ length r.view.items → r.view.items ≢ [] → origins_after text.asks text.level (r.events text.level) text.origins ≢ []
some_left text r many some none = some (nil_from_length r.view.items (sym many ∙ ap length none))

pub least_cluster_stays : LeastClusterStays
least_cluster_stays p text r falls m h o e some l = let k = texts_have_parts p text r falls h o e in k.0.least m (some_left text r k.1 some) l

pub clusters_fit_text : ClustersFitText
clusters_fit_text p text r falls h o e some zero_there = let k = texts_have_parts p text r falls h o e in k.0.fits (some_left text r k.1 some) zero_there

other_united : (m n : ℕ) (U : Type 0) → m ≢ n → (m ≡ n) ⊎ U → U
other_united m n U other o = elim o [ inl same ↦ absurd (other same) | inr united ↦ united ]

pub slices_are_no_coarser_than_parts : SlicesAreNoCoarserThanParts
slices_are_no_coarser_than_parts p text r falls end m n h o e some hm hn pm pn other share =
    let k = texts_have_parts p text r falls h o e in
    let sliced = k.0.sliced end (some_left text r k.1 some) in
    let same = (sliced.shared m n hm hn pm pn).0 share in
    other_united m n (AreUnitedByEvents (parts_of text.level (r.events text.level)) (numbers text.origins) m n) other ((parts_are_united (parts_of text.level (r.events text.level)) (numbers text.origins) m n).0 same)

-- ---- ranges

before_keep : (p : Shaping) → ShapingKeepsParts p → KeepsParts (before_ranges p)
before_keep p h = before_have KeepsParts p h (shaping_parts p h)

after_ok : (a : Reading) (text : BufferState) (r : Read) → a ≡ Ok r → clusters_after a text ≡ numbers (origins_after text.asks text.level (r.events text.level) text.origins)
after_ok a text r e = ap (λ b. clusters_after b text) e

pub ranges_read_parts : RangesReadParts
ranges_read_parts p text r falls h o e =
    let k = read_by (before_ranges p) p text r falls (before_keep p h) e o in (
      after_ok (before_ranges p text.view) text r e ∙ k.0.clusters,
      ap length (after_ok (before_ranges p text.view) text r e) ∙ length-map (state_after r text).origins (λ (q : Origin). q.cluster) ∙ k.1,
    )

none_brought : (ns : List ℕ) → BringsNone ns []
none_brought ns n h = cc

after_brings_none : (a : Reading) (text : BufferState) → BringsNone (numbers text.origins) (clusters_after a text)
after_brings_none (Ok r) text = origins_keep_numbers text.asks text.level (r.events text.level) text.origins
after_brings_none (Err c) text = none_brought (numbers text.origins)

pub ranges_read_numbers : RangesReadNumbers
ranges_read_numbers p text = (
  after_brings_none (before_ranges p text.view) text,
  λ r counts long e.
      ap length (after_ok (before_ranges p text.view) text r e) ∙ length-map (state_after r text).origins (λ (q : Origin). q.cluster) ∙ counts_follow text.asks text.level (r.events text.level) text.origins
      ∙ ap (count_after (r.events text.level)) long ∙ before_counts p counts text.view r text.level e,
)
