-- The pipeline stages up to the visual order, by a property of stages.
use Rattle.std.proofs.Common.{ℕ, List, [], ◌∷◌, length, refl}
use Rattle.buffer_core.specs.Readings.{Stage, always}
use Rattle.buffer_parts.specs.Lemmas.Plainly.{steady_kept}
use Rattle.layout_offsets.specs.Starting.{links_cleared}
use Rattle.layout_substitution.specs.Substituting.{substitution_stages}
use Rattle.layout_positioning.specs.Positioning.{positioning_stages}
use Rattle.layout_map.specs.Masks.{mask_at_one}
use Rattle.script_plan.specs.declared.planned.TheConstants.{HB_OT_SHAPE_ZERO_WIDTH_MARKS_BY_GDEF_EARLY, HB_OT_SHAPE_ZERO_WIDTH_MARKS_BY_GDEF_LATE}
use Rattle.std.specs.Prelude.{codes}
use Rattle.shape_text.specs.Fractions.{with_fractions}
use Rattle.shape_normalize.specs.Rounds.{normalization}
use Rattle.shape_glyphs.specs.Advances.{with_default_positions}
use Rattle.layout_gsub.specs.GlyphClasses.{with_font_classes}
use Rattle.shape_glyphs.specs.Glyphs.{with_glyphs, with_synthesized_classes}
use Rattle.shape_fallback.specs.Classes.{with_fallback_classes}
use Rattle.shape_fallback.specs.Spaces.{with_spaces}
use Rattle.shape_parts.specs.Lines.{StaysInLine}
use Rattle.shape_parts.proofs.StageLines.{always_in_line}
use Rattle.shape_parts.proofs.Characters.{rotation_stays}
use Rattle.shape_parts.proofs.Glyphs.{advances_stay, cleared_links_stay, fallback_classes_stay, font_classes_stay, glyphs_stay, spaces_stay, synthesized_classes_stay, zeroed_marks_stay}
use Rattle.shape_parts.proofs.Masks.{fractions_stay, ranges_stay}
use Rattle.shape_parts.proofs.Normalized.{normalizing_stays}
use Rattle.shape_pipeline.specs.Chains.{only_if}
use Rattle.shape_pipeline.specs.Characters.{characters_chosen, normalizer, text_begun, turned_to_line}
use Rattle.shape_pipeline.specs.Glyphs.{glyphs_substituted, glyphs_taken}
use Rattle.shape_pipeline.specs.Masks.{fraction_masks, masks_set, ranges_set}
use Rattle.shape_pipeline.specs.Positioning.{adjusts_marks, marks_zeroed, positions_adjusted, positions_begun, with_zero_positions, zeroes_marks}
use Rattle.shape_pipeline.specs.Reading.{before_ranges}
use Rattle.shape_pipeline.specs.Shaping.{Shaping, pauses_of, preprocessing_stage, shaper_masks_set}
use Rattle.shape_parts.specs.Premises.{ShapingKeepsParts}
use Rattle.shape_parts.proofs.Chains.{IsOfChains, chain_has, wanted_has}

-- stages in line have a property, and so have the first stage, the shaper's and the lookups
pub record AreShaping (P : Stage → Type 0) (p : Shaping) : Type 0 where
  pub chains : IsOfChains P
  pub in_line : (s : Stage) → StaysInLine s → P s
  pub begun : P (text_begun p)
  pub preprocessed : P (preprocessing_stage p)
  pub masked : P (shaper_masks_set p)
  pub substituted : P (substitution_stages p.font p.map (pauses_of p))
  pub positioned : P (positioning_stages p.font p.map (pauses_of p))

pub turned_stays : (p : Shaping) → StaysInLine (always (turned_to_line p))
turned_stays p = rotation_stays p.tables p.font p.direction (mask_at_one (codes "rtlm") p.map) p.choices.has_vert

normal_stays : (p : Shaping) → ShapingKeepsParts p → StaysInLine (normalization (normalizer p))
normal_stays p h = normalizing_stays (normalizer p) h.rules.reorders h.counts

chosen_has : (P : Stage → Type 0) (p : Shaping) → ShapingKeepsParts p → AreShaping P p → P (characters_chosen p)
unfolding characters_chosen
chosen_has P p h w =
    chain_has P (preprocessing_stage p ∷ always (turned_to_line p) ∷ normalization (normalizer p) ∷ []) w.chains
    (w.preprocessed, (w.in_line (always (turned_to_line p)) (turned_stays p), (w.in_line (normalization (normalizer p)) (normal_stays p h), tt)))

masks_have : (P : Stage → Type 0) (p : Shaping) → AreShaping P p → P (masks_set p)
unfolding masks_set
masks_have P p w =
    let fractions = always (with_fractions (fraction_masks p.map)) in
    chain_has P (only_if p.choices.has_frac fractions ∷ shaper_masks_set p ∷ []) w.chains
    (wanted_has P p.choices.has_frac fractions w.chains (w.in_line fractions (fractions_stay (fraction_masks p.map))), (w.masked, tt))

pub before_have : (P : Stage → Type 0) (p : Shaping) → ShapingKeepsParts p → AreShaping P p → P (before_ranges p)
unfolding before_ranges
before_have P p h w = chain_has P (text_begun p ∷ characters_chosen p ∷ masks_set p ∷ []) w.chains (w.begun, (chosen_has P p h w, (masks_have P p w, tt)))

pub ranges_have : (P : Stage → Type 0) (p : Shaping) (clusters : List ℕ) → AreShaping P p → P (ranges_set p clusters)
ranges_have P p clusters w = w.in_line (ranges_set p clusters) (ranges_stay p.map p.features clusters)

pub taken_have : (P : Stage → Type 0) (p : Shaping) → AreShaping P p → P (glyphs_taken p)
unfolding glyphs_taken
taken_have P p w =
    let classes = always with_fallback_classes in
    chain_has P (only_if p.choices.fallback_mark_positioning classes ∷ always with_glyphs ∷ []) w.chains
    (wanted_has P p.choices.fallback_mark_positioning classes w.chains (w.in_line classes fallback_classes_stay), (w.in_line (always with_glyphs) glyphs_stay, tt))

pub substituted_have : (P : Stage → Type 0) (p : Shaping) → AreShaping P p → P (glyphs_substituted p)
unfolding glyphs_substituted
substituted_have P p w =
    let classes = always with_synthesized_classes in
    chain_has P (always (with_font_classes p.font) ∷ only_if p.choices.fallback_glyph_classes classes ∷ substitution_stages p.font p.map (pauses_of p) ∷ []) w.chains
    (w.in_line (always (with_font_classes p.font)) (font_classes_stay p.font), (wanted_has P p.choices.fallback_glyph_classes classes w.chains (w.in_line classes synthesized_classes_stay), (w.substituted, tt)))

zero_stays : StaysInLine (always with_zero_positions)
zero_stays = always_in_line with_zero_positions (λ v level. steady_kept [] (length v.items) tt) (λ v. refl)

pub positions_begun_have : (P : Stage → Type 0) (p : Shaping) → AreShaping P p → P (positions_begun p)
unfolding positions_begun
positions_begun_have P p w =
    chain_has P (always with_zero_positions ∷ always (with_default_positions p.font) ∷ always (with_spaces p.font) ∷ always links_cleared ∷ []) w.chains
    (w.in_line (always with_zero_positions) zero_stays, (w.in_line (always (with_default_positions p.font)) (advances_stay p.font), (w.in_line (always (with_spaces p.font)) (spaces_stay p.font), (w.in_line (always links_cleared) cleared_links_stay, tt))))

pub positions_adjusted_have : (P : Stage → Type 0) (p : Shaping) → AreShaping P p → P (positions_adjusted p)
unfolding positions_adjusted
positions_adjusted_have P p w =
    let zeroed = always (marks_zeroed p) in
    let has = w.in_line zeroed (zeroed_marks_stay (adjusts_marks p)) in
    let lookups = positioning_stages p.font p.map (pauses_of p) in
    chain_has P (only_if (zeroes_marks HB_OT_SHAPE_ZERO_WIDTH_MARKS_BY_GDEF_EARLY p) zeroed ∷ only_if p.choices.apply_gpos lookups ∷ only_if (zeroes_marks HB_OT_SHAPE_ZERO_WIDTH_MARKS_BY_GDEF_LATE p) zeroed ∷ []) w.chains
    (wanted_has P (zeroes_marks HB_OT_SHAPE_ZERO_WIDTH_MARKS_BY_GDEF_EARLY p) zeroed w.chains has, (wanted_has P p.choices.apply_gpos lookups w.chains w.positioned, (wanted_has P (zeroes_marks HB_OT_SHAPE_ZERO_WIDTH_MARKS_BY_GDEF_LATE p) zeroed w.chains has, tt)))
