use Rattle.std.proofs.Common.{◌≡◌, List, None, ap, ◌∙◌}
use Rattle.std.specs.Ordering.{nat_cmp}
use Rattle.buffer_rows.specs.KeyOrder.{key_order}
use Rattle.font_common.specs.Rows.{first_rows}
use Rattle.font_kern.specs.declared.scripts.ScriptRow.{ScriptRow}
use Rattle.font_kern.proofs.systems.script_rows.Goals as goal

pub returns-clause-rows : goal.returns-clause-rows
returns-clause-rows c =
    c.in_ok-rows.ensures.only
    ∙ ap (λ (rows : List ScriptRow). first_rows nat_cmp (λ (r : ScriptRow). r.tag.0) None rows)
    (c.in_ok-sort_rows.ensures ∙ ap (λ (rows : List ScriptRow). key_order (λ (r : ScriptRow). r.tag.0) rows) c.in_ok-offered.ensures)
