use Rattle.std.proofs.Common.{◌++◌, ap, ◌∙◌, drop}
use Rattle.std.specs.Prelude.{replicate}
use Rattle.script_categories.specs.declared.ot_position_t.TheConstants as position
use Rattle.script_myanmar.specs.Myanmar.{positions_by_base}
use Rattle.script_myanmar.specs.Turned.{glyphs_at}
use Rattle.script_myanmar.proofs.Placing.{kinds, two_ranges}
use Rattle.script_myanmar.proofs.myanmar_positions.set_positions.Goals as goal

pub returns : goal.returns
returns c =
    let gs = c.args.glyphs.now in
    two_ranges c.kinzi-kinzi.result position.POS_AFTER_MAIN positions_by_base gs c.position_all.new.glyphs c.position_by_base.new.glyphs c.kinzi-kinzi.ensures.within c.position_all.ensures c.position_by_base.ensures
    ∙ ap (λ n. glyphs_at (replicate n position.POS_AFTER_MAIN ++ positions_by_base (drop n (kinds gs))) gs) c.kinzi-kinzi.ensures.count
