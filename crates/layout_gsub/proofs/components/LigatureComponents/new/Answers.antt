use Rattle.std.proofs.Common.{arith, ◌∙◌}
use Rattle.layout_gsub.proofs.Parted.{counted_first, counted_own}
use Rattle.layout_gsub.proofs.components.LigatureComponents.new.Goals as goal

pub returns-clause-count : goal.returns-clause-count
returns-clause-count c =
    let all = counted_first c.args.others.now c.args.buffer.now.ahead c.cur-first.result.now c.cur-first.ensures in
    let one = c.from.ensures in
    let own = c._hb_glyph_info_get_lig_num_comps-first_components.ensures.count in
    let more = c.component_count.ensures.count in
    omega (arith, all, one, own, more)

pub returns-clause-first : goal.returns-clause-first
returns-clause-first c = c._hb_glyph_info_get_lig_num_comps-first_components.ensures.count ∙ counted_own c.args.buffer.now.ahead c.cur-first.result.now c.cur-first.ensures
