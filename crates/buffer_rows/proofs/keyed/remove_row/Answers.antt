use Rattle.std.proofs.Common.{◌≡◌, ◌≤◌, ◌<◌, ◌∙◌, None, ap, arith, get_or, length, subst}
use Rattle.std.specs.List.Sorted.{IsPartitionPoint}
use Rattle.std.specs.declared.cmp.Ordering.TheVariants.{Equal, Greater, Less}
use Rattle.buffer_rows.specs.Keys.{is_rising}
use Rattle.buffer_rows.proofs.Inserted.{none_removed, rest_rises, row_removed}
use Rattle.buffer_rows.proofs.keyed.remove_row.Goals as goal

-- the record at the index has the key
pub returns-in-Ok-clause-rest : goal.returns-in-Ok-clause-rest
returns-in-Ok-clause-rest g c =
    let cmp = g.R.Key.Ord.cmp in
    let key = g.R.Keyed.key_of in
    let rows = c.args.rows.now.items in
    let i = c.in-Ok.index in
    let d = c.remove.result in
    let lt : i < length rows = subst (λ rs. i < length rs) c.deref.ensures.value c.in-Ok.ensures.range in
    let same = subst (λ rs. (d : g.row.R.Denot) → cmp (key (get_or rs i d)) c.args.key ≡ Equal) c.deref.ensures.value c.in-Ok.ensures.found in
    c.remove.ensures.items ∙ row_removed cmp g.met.R.Key.Ord.total key rows i c.args.key d c.requires lt (same d)

pub returns-in-Ok-clause-rising : goal.returns-in-Ok-clause-rising
returns-in-Ok-clause-rising g c =
    let cmp = g.R.Key.Ord.cmp in
    let key = g.R.Keyed.key_of in
    let rows = c.args.rows.now.items in
    let i = c.in-Ok.index in
    let d = c.remove.result in
    let lt : i < length rows = subst (λ rs. i < length rs) c.deref.ensures.value c.in-Ok.ensures.range in
    let same = subst (λ rs. (d : g.row.R.Denot) → cmp (key (get_or rs i d)) c.args.key ≡ Equal) c.deref.ensures.value c.in-Ok.ensures.found in
    let removed = c.remove.ensures.items ∙ row_removed cmp g.met.R.Key.Ord.total key rows i c.args.key d c.requires lt (same d) in
    ap (is_rising cmp key None) removed ∙ rest_rises cmp g.met.R.Key.Ord.total key c.args.key rows c.requires

-- the keys before the index are less, and those from it on greater
pub returns-in_default-clause-rest : goal.returns-in_default-clause-rest
returns-in_default-clause-rest g c =
    let cmp = g.R.Key.Ord.cmp in
    let key = g.R.Keyed.key_of in
    let rows = c.args.rows.now.items in
    let i = c.in_default.field-0 in
    let at = subst (λ rs. IsPartitionPoint (λ (r : g.row.R.Denot). cmp (key r) c.args.key ≡ Less) (λ r. cmp (key r) c.args.key ≡ Greater) rs i) c.deref.ensures.value c.in_default.ensures.found in
    let le : i ≤ length rows = subst (λ rs. i ≤ length rs) c.deref.ensures.value c.in_default.ensures.range in
    none_removed cmp g.met.R.Key.Ord.total key rows i c.args.key le (λ j d lt. at.0 j d (omega arith) lt) (λ j d ge lt. at.1 j d ge lt)
