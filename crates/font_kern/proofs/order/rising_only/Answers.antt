use Rattle.std.proofs.Common.{◌≡◌, None, arith}
use Rattle.std.proofs.lemmas.Grind.{common_steps}
use Rattle.font_common.specs.Rows.{first_rows}
use Rattle.font_kern.proofs.order.rising_only.Goals as goal
use Rattle.font_common.proofs.Firsts.{first_rows_rise as kept_rise}

pub returns-clause-rising : goal.returns-clause-rising
returns-clause-rising g c =
    let only : c.loop-row.kept.items ≡ first_rows g.R.Key.Ord.cmp g.R.Keyed.key_of None c.args.rows.items = grind (arith, common_steps) in
    rw only (kept_rise g.R.Key.Ord.cmp g.R.Keyed.key_of None c.args.rows.items)
