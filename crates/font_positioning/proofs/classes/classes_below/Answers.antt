use Rattle.std.proofs.Common.{sym, ◌∙◌}
use Rattle.font_positioning.proofs.KeptRows.{all_kept}
use Rattle.font_positioning.proofs.classes.classes_below.Goals as goal

pub returns-then-are_below : goal.returns-then-are_below
returns-then-are_below c =
    let all = sym (rw c.as_slice.ensures at c.are_below.ensures) ∙ c.if-are_below.true in
    rw (all_kept c.args.count c.args.rows all) c.new.ensures
