-- Up to the masks of ranges there is a glyph for each item, whatever the shaper.
use Rattle.std.proofs.Common.{◌≡◌, [], ◌∷◌, length, refl, ap, subst, ◌∙◌}
use Rattle.std.proofs.lemmas.List.Sums.{fold-append}
use Rattle.buffer_parts.specs.Counts.{count_after, count_after_event}
use Rattle.buffer_core.specs.Readings.{Read, Stage, always, with_events}
use Rattle.buffer_parts.specs.Lemmas.Stages.{at_read, both_read}
use Rattle.buffer_parts.specs.Stages.{KeepsParts}
use Rattle.shape_text.specs.Circle.{first_circle}
use Rattle.shape_text.specs.Clusters.{with_clusters}
use Rattle.shape_text.specs.Fractions.{with_fractions}
use Rattle.shape_text.specs.Masks.{with_one_mask}
use Rattle.shape_text.specs.NativeOrder.{native_order}
use Rattle.shape_text.specs.Properties.{with_properties}
use Rattle.shape_normalize.specs.Rounds.{normalization}
use Rattle.shape_pipeline.specs.Chains.{only_if}
use Rattle.shape_pipeline.specs.Characters.{characters_chosen, normalizer, text_begun, turned_to_line}
use Rattle.shape_pipeline.specs.Limits.{initial_view}
use Rattle.shape_pipeline.specs.Masks.{fraction_masks, masks_set}
use Rattle.shape_pipeline.specs.Reading.{before_ranges}
use Rattle.shape_pipeline.specs.Shaping.{Shaping, preprocessing_stage, shaper_masks_set}
use Rattle.shape_parts.specs.Lines.{StaysInLine}
use Rattle.shape_parts.specs.Premises.{CountsItems, RulesCountItems}
use Rattle.shape_parts.proofs.Begun.{initial_stays}
use Rattle.shape_parts.proofs.Chains.{IsOfChains, chain_has, wanted_has}
use Rattle.shape_parts.proofs.Characters.{circle_stays, clusters_stay, properties_stay}
use Rattle.shape_parts.proofs.Graphemes.{native_counts}
use Rattle.shape_parts.proofs.Masks.{first_mask_stays, fractions_stay}
use Rattle.shape_parts.proofs.Normalized.{normalizing_stays}
use Rattle.shape_parts.proofs.Phases.{turned_stays}

counts_chain : IsOfChains CountsItems
counts_chain = record {
  same = λ v r level e. at_read (λ q. count_after (q.events level) (length v.items) ≡ length q.view.items) (with_events [] v) r e refl;
  steps = λ s t p q v r level e.
      let two = both_read (s v) t r e in
      subst (λ (w : Read). count_after (w.events level) (length v.items) ≡ length w.view.items) two.both
      (fold-append count_after_event (length v.items) (two.first.events level) (two.second.events level)
      ∙ ap (count_after (two.second.events level)) (p v two.first level two.first_is) ∙ q two.first.view two.second level two.second_is);
}

pub kept_counts : (s : Stage) → KeepsParts s → CountsItems s
kept_counts s k v r level e = (k v r level e).counted

line_counts : (s : Stage) → StaysInLine s → CountsItems s
line_counts s k = kept_counts s k.kept.parts

begun_counts : (p : Shaping) → CountsItems (text_begun p)
unfolding text_begun
begun_counts p =
    let mask = always (with_one_mask p.map.global_mask) in
    let properties = always (with_properties p.tables) in
    let circle = first_circle p.tables p.font p.settings.flags p.settings.pre_context in
    chain_has CountsItems (always initial_view ∷ mask ∷ properties ∷ circle ∷ always with_clusters ∷ always (native_order p.settings.script) ∷ []) counts_chain (
      line_counts (always initial_view) initial_stays,
      (
        line_counts mask (first_mask_stays p.map.global_mask),
        (
          line_counts properties (properties_stay p.tables),
          (line_counts circle (circle_stays p.tables p.font p.settings.flags p.settings.pre_context), (line_counts (always with_clusters) clusters_stay, (native_counts p.settings.script, tt))),
        ),
      ),
    )

chosen_counts : (p : Shaping) → RulesCountItems p.rules → CountsItems (characters_chosen p)
unfolding characters_chosen
chosen_counts p h =
    let turned = always (turned_to_line p) in
    let normal = normalization (normalizer p) in
    chain_has CountsItems (preprocessing_stage p ∷ turned ∷ normal ∷ []) counts_chain
    (h.preprocesses p.font p.tables p.settings, (line_counts turned (turned_stays p), (line_counts normal (normalizing_stays (normalizer p) h.reorders h.counts), tt)))

masks_count : (p : Shaping) → RulesCountItems p.rules → CountsItems (masks_set p)
unfolding masks_set
masks_count p h =
    let fractions = always (with_fractions (fraction_masks p.map)) in
    chain_has CountsItems (only_if p.choices.has_frac fractions ∷ shaper_masks_set p ∷ []) counts_chain
    (wanted_has CountsItems p.choices.has_frac fractions counts_chain (line_counts fractions (fractions_stay (fraction_masks p.map))), (h.sets_masks p.font p.tables p.settings, tt))

pub before_counts : (p : Shaping) → RulesCountItems p.rules → CountsItems (before_ranges p)
unfolding before_ranges
before_counts p h =
    chain_has CountsItems (text_begun p ∷ characters_chosen p ∷ masks_set p ∷ []) counts_chain (begun_counts p, (chosen_counts p h, (masks_count p h, tt)))
