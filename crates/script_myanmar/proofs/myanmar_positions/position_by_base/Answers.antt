use Rattle.std.proofs.Common.{◌++◌, ap, ◌∙◌, drop}
use Rattle.std.specs.Prelude.{replicate}
use Rattle.script_categories.specs.declared.ot_position_t.TheConstants as position
use Rattle.script_myanmar.specs.Myanmar.{from_base}
use Rattle.script_myanmar.specs.Turned.{glyphs_at}
use Rattle.script_myanmar.proofs.Placing.{kinds, two_ranges}
use Rattle.script_myanmar.proofs.myanmar_positions.position_by_base.Goals as goal

pub returns : goal.returns
returns c =
    let gs = c.args.glyphs.now in
    two_ranges c.base_of-base.result position.POS_PRE_C from_base gs c.position_all.new.glyphs c.position_from_base.new.glyphs c.base_of-base.ensures.within c.position_all.ensures c.position_from_base.ensures
    ∙ ap (λ n. glyphs_at (replicate n position.POS_PRE_C ++ from_base (drop n (kinds gs))) gs) c.base_of-base.ensures.index
