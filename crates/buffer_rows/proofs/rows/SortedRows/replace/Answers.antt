use Rattle.std.proofs.Common.{◌≡◌, ◌∙◌, ◌<◌, None, ap, get_or, is_some, length, subst, sym}
use Rattle.std.specs.declared.cmp.Ordering.TheVariants.{Equal}
use Rattle.std.specs.Ordering.{is_eq}
use Rattle.buffer_rows.specs.Keys.{row_with, with_row}
use Rattle.buffer_rows.proofs.Replaced.{none_replaced, rising_replaced, row_replaced}
use Rattle.buffer_rows.proofs.Searched.{guessed}
use Rattle.buffer_rows.proofs.rows.SortedRows.replace.Goals as goal

-- the record at the index has the key
pub invariant_of-self : goal.invariant_of-self
invariant_of-self g c =
    let cmp = g.R.Key.Ord.cmp in
    let key = g.R.Keyed.key_of in
    let row = c.args.row in
    let rows = c.self.inside.rows.items in
    let i = c.in-Some.index in
    let found = subst (λ rs. (i < length rs) × ((d : g.row.R.Denot) → cmp (key (get_or rs i d)) c.key.result ≡ Equal)) c.deref.ensures.value c.in-Some.ensures in
    let e : cmp (key (get_or rows i row)) (key row) ≡ Equal = subst (λ k. cmp (key (get_or rows i row)) k ≡ Equal) c.key.ensures (found.1 row) in
    rising_replaced cmp g.met.R.Key.Ord.total key None rows i row row found.0 e ∙ c.self.invariant

pub returns-in-Some-clause-found : goal.returns-in-Some-clause-found
returns-in-Some-clause-found g c =
    let cmp = g.R.Key.Ord.cmp in
    let key = g.R.Keyed.key_of in
    let row = c.args.row in
    let rows = c.self.inside.rows.items in
    let i = c.in-Some.index in
    let found = subst (λ rs. (i < length rs) × ((d : g.row.R.Denot) → cmp (key (get_or rs i d)) c.key.result ≡ Equal)) c.deref.ensures.value c.in-Some.ensures in
    let e : cmp (key (get_or rows i row)) (key row) ≡ Equal = subst (λ k. cmp (key (get_or rows i row)) k ≡ Equal) c.key.ensures (found.1 row) in
    ap is_some (guessed cmp g.met.R.Key.Ord.total key rows (key row) i row c.self.invariant found.0 (ap is_eq e)) ∙ ap (λ rs. is_some (row_with cmp key (key row) rs)) c.self.view_is

pub returns-in-Some-clause-replaced : goal.returns-in-Some-clause-replaced
returns-in-Some-clause-replaced g c =
    let cmp = g.R.Key.Ord.cmp in
    let key = g.R.Keyed.key_of in
    let row = c.args.row in
    let rows = c.self.inside.rows.items in
    let i = c.in-Some.index in
    let found = subst (λ rs. (i < length rs) × ((d : g.row.R.Denot) → cmp (key (get_or rs i d)) c.key.result ≡ Equal)) c.deref.ensures.value c.in-Some.ensures in
    let e : cmp (key (get_or rows i row)) (key row) ≡ Equal = subst (λ k. cmp (key (get_or rows i row)) k ≡ Equal) c.key.ensures (found.1 row) in
    row_replaced cmp g.met.R.Key.Ord.total key None rows i row row c.self.invariant found.0 e ∙ ap (with_row cmp key row) c.self.view_is

pub returns-in-None-clause-replaced : goal.returns-in-None-clause-replaced
returns-in-None-clause-replaced g c =
    let there = subst (λ rs. None ≡ row_with g.R.Key.Ord.cmp g.R.Keyed.key_of c.key.result rs) c.deref.ensures.value c.in-None.ensures in
    let none = subst (λ k. None ≡ row_with g.R.Key.Ord.cmp g.R.Keyed.key_of k c.args.self.now) c.key.ensures (subst (λ rs. None ≡ row_with g.R.Key.Ord.cmp g.R.Keyed.key_of c.key.result rs) c.self.view_is there) in
    sym (none_replaced g.R.Key.Ord.cmp g.met.R.Key.Ord.total g.R.Keyed.key_of c.args.self.now c.args.row none)
