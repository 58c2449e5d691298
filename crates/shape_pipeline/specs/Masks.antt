-- The pipeline stage that sets the characters' masks.
use Rattle.std.specs.Prelude.{ℕ, List, [], ◌∷◌, codes}
use Rattle.buffer_core.specs.Readings.{Stage, always}
use Rattle.layout_map.specs.Compiled.{OtMapValue}
use Rattle.layout_map.specs.Masks.{mask_at_one}
use Rattle.shape_text.specs.Fractions.{with_fractions}
use Rattle.shape_text.specs.declared.fractions.FractionMasks.{FractionMasks}
use Rattle.shape_text.specs.Ranges.{with_ranges}
use Rattle.shape_pipeline.specs.Chains.{in_order, only_if}
use Rattle.shape_pipeline.specs.Shaping.{Shaping, shaper_masks_set}

-- the masks of frac, numr and dnom
abbrev pub fraction_masks : OtMapValue → FractionMasks
fraction_masks m = record { frac = mask_at_one (codes "frac") m; numr = mask_at_one (codes "numr") m; dnom = mask_at_one (codes "dnom") m }

-- the pipeline stage of masks: those of fractions, where the font has the features; then the shaper's
unfoldable pub masks_set : Shaping → Stage
masks_set p = in_order (
    only_if p.choices.has_frac (always (with_fractions (fraction_masks p.map))) ∷
    shaper_masks_set p ∷
    [])

-- the pipeline stage of features that are requested for a range, by the cluster numbers
abbrev pub ranges_set : Shaping → List ℕ → Stage
ranges_set p clusters v = always (with_ranges p.map p.features clusters) v
