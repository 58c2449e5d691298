use Rattle.std.proofs.Common.{Some, sym, ap, ◌∙◌}
use Rattle.layout_map.specs.declared.chosen_feature.feature_map_t.{feature_map_t}
use Rattle.buffer_rows.proofs.DenseSlots.{guessed_number}
use Rattle.layout_map.proofs.map.find_near.Goals as goal

pub returns-in-Some : goal.returns-in-Some
returns-in-Some c =
    let found = c.in-Some.ensures.lookup in
    let tag = λ (f : feature_map_t). f.tag.0 in
    ap Some found.1 ∙ guessed_number tag c.args.features.now c.args.tag c.args.guess c.in-Some.feature.now c.requires found.3.0 (ap tag (sym found.1) ∙ c.if-feature-tag.true)
