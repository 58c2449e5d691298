use Rattle.std.proofs.Common.{◌≡◌, ◌≤◌, ◌<◌, ◌∙◌, None, ap, arith, get_or, length, subst}
use Rattle.std.specs.List.Sorted.{IsPartitionPoint}
use Rattle.std.specs.declared.cmp.Ordering.TheVariants.{Equal, Greater, Less}
use Rattle.buffer_rows.specs.Keys.{is_rising}
use Rattle.buffer_rows.proofs.Inserted.{inserted_rises, row_inserted, row_put}
use Rattle.buffer_rows.proofs.Replaced.{rising_replaced}
use Rattle.buffer_rows.proofs.keyed.insert_row.Goals as goal

-- the record at the index has the key
pub returns-in-Ok-clause-inserted : goal.returns-in-Ok-clause-inserted
returns-in-Ok-clause-inserted g c =
    let cmp = g.R.Key.Ord.cmp in
    let key = g.R.Keyed.key_of in
    let row = c.args.row in
    let rows = c.args.rows.now.items in
    let i = c.in-Ok.index in
    let lt : i < length rows = subst (λ rs. i < length rs) c.deref.ensures.value c.in-Ok.ensures.range in
    let same = subst (λ rs. (d : g.row.R.Denot) → cmp (key (get_or rs i d)) c.key.result ≡ Equal) c.deref.ensures.value c.in-Ok.ensures.found in
    let e : cmp (key (get_or rows i row)) (key row) ≡ Equal = subst (λ k. cmp (key (get_or rows i row)) k ≡ Equal) c.key.ensures (same row) in
    row_put cmp g.met.R.Key.Ord.total key rows i row row c.requires lt e

pub returns-in-Ok-clause-rising : goal.returns-in-Ok-clause-rising
returns-in-Ok-clause-rising g c =
    let cmp = g.R.Key.Ord.cmp in
    let key = g.R.Keyed.key_of in
    let row = c.args.row in
    let rows = c.args.rows.now.items in
    let i = c.in-Ok.index in
    let lt : i < length rows = subst (λ rs. i < length rs) c.deref.ensures.value c.in-Ok.ensures.range in
    let same = subst (λ rs. (d : g.row.R.Denot) → cmp (key (get_or rs i d)) c.key.result ≡ Equal) c.deref.ensures.value c.in-Ok.ensures.found in
    let e : cmp (key (get_or rows i row)) (key row) ≡ Equal = subst (λ k. cmp (key (get_or rows i row)) k ≡ Equal) c.key.ensures (same row) in
    rising_replaced cmp g.met.R.Key.Ord.total key None rows i row row lt e ∙ c.requires

-- the keys before the index are less, and those from it on greater
pub returns-in_ok-insert-in-Err-clause-inserted : goal.returns-in_ok-insert-in-Err-clause-inserted
returns-in_ok-insert-in-Err-clause-inserted g c =
    let cmp = g.R.Key.Ord.cmp in
    let key = g.R.Keyed.key_of in
    let row = c.args.row in
    let rows = c.args.rows.now.items in
    let i = c.in-Err.index in
    let found = subst (λ rs. IsPartitionPoint (λ (r : g.row.R.Denot). cmp (key r) c.key.result ≡ Less) (λ r. cmp (key r) c.key.result ≡ Greater) rs i) c.deref.ensures.value c.in-Err.ensures.found in
    let at = subst (λ k. IsPartitionPoint (λ (r : g.row.R.Denot). cmp (key r) k ≡ Less) (λ r. cmp (key r) k ≡ Greater) rows i) c.key.ensures found in
    let le : i ≤ length rows = subst (λ rs. i ≤ length rs) c.deref.ensures.value c.in-Err.ensures.range in
    c.in_ok-insert-in-Err.ensures.items ∙ row_inserted cmp g.met.R.Key.Ord.total key rows i row le (λ j d lt. at.0 j d (omega arith) lt) (λ j d ge lt. at.1 j d ge lt)

pub returns-in_ok-insert-in-Err-clause-rising : goal.returns-in_ok-insert-in-Err-clause-rising
returns-in_ok-insert-in-Err-clause-rising g c =
    let cmp = g.R.Key.Ord.cmp in
    let key = g.R.Keyed.key_of in
    let row = c.args.row in
    let rows = c.args.rows.now.items in
    let i = c.in-Err.index in
    let found = subst (λ rs. IsPartitionPoint (λ (r : g.row.R.Denot). cmp (key r) c.key.result ≡ Less) (λ r. cmp (key r) c.key.result ≡ Greater) rs i) c.deref.ensures.value c.in-Err.ensures.found in
    let at = subst (λ k. IsPartitionPoint (λ (r : g.row.R.Denot). cmp (key r) k ≡ Less) (λ r. cmp (key r) k ≡ Greater) rows i) c.key.ensures found in
    let le : i ≤ length rows = subst (λ rs. i ≤ length rs) c.deref.ensures.value c.in-Err.ensures.range in
    let inserted = c.in_ok-insert-in-Err.ensures.items ∙ row_inserted cmp g.met.R.Key.Ord.total key rows i row le (λ j d lt. at.0 j d (omega arith) lt) (λ j d ge lt. at.1 j d ge lt) in
    ap (is_rising cmp key None) inserted ∙ inserted_rises cmp g.met.R.Key.Ord.total key row rows c.requires
