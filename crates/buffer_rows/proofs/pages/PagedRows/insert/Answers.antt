use Rattle.std.proofs.Common.{◌≡◌, ◌≢◌, ◌<◌, ◌∙◌, [], ap, get_or, length, subst, sym}
use Rattle.std.specs.Ordering.{nat_cmp}
use Rattle.buffer_rows.specs.Keys.{with_inserted}
use Rattle.buffer_rows.specs.Pages.{IsPaged, IsStart}
use Rattle.buffer_rows.proofs.Slotted.{inserted_paged, number_inserted, number_put, paged_replaced}
use Rattle.buffer_rows.proofs.pages.PagedRows.insert.Goals as goal

-- the record at the index has the number
pub invariant_of-self : goal.invariant_of-self
invariant_of-self g c =
    let number = g.R.Numbered.number_of in
    let row = c.args.row in
    let rows = c.self.inside.rows.items in
    let i = c.first_from-index.result in
    let lt : i < length rows = subst (λ rs. i < length rs) c.deref-2.ensures.value (c.is_number_at.ensures.there c.if-is_number_at.true) in
    let same = subst (λ rs. (d : g.row.R.Denot) → number (get_or rs i d) ≡ c.number-number.result) c.deref-2.ensures.value (c.is_number_at.ensures.same c.if-is_number_at.true) in
    paged_replaced number row rows c.self.inside.pages.items c.self.inside.slots.items i c.self.invariant lt (same row ∙ c.number-number.ensures)

pub returns-then-is_number_at-clause-inserted : goal.returns-then-is_number_at-clause-inserted
returns-then-is_number_at-clause-inserted g c =
    let number = g.R.Numbered.number_of in
    let row = c.args.row in
    let rows = c.self.inside.rows.items in
    let i = c.first_from-index.result in
    let lt : i < length rows = subst (λ rs. i < length rs) c.deref-2.ensures.value (c.is_number_at.ensures.there c.if-is_number_at.true) in
    let same = subst (λ rs. (d : g.row.R.Denot) → number (get_or rs i d) ≡ c.number-number.result) c.deref-2.ensures.value (c.is_number_at.ensures.same c.if-is_number_at.true) in
    number_put number row rows i c.self.invariant.rising lt (same row ∙ c.number-number.ensures) ∙ ap (with_inserted nat_cmp number row) c.self.view_is

-- the numbers before the index are less, and those from it on greater
pub invariant_of-self-2 : goal.invariant_of-self-2
invariant_of-self-2 g c =
    let number = g.R.Numbered.number_of in
    let row = c.args.row in
    let rows = c.self.inside.rows.items in
    let i = c.first_from-index.result in
    let begun = subst (λ rs. IsStart number rs c.number-number.result i) c.deref.ensures.value c.first_from-index.ensures in
    let start = subst (λ k. IsStart number rows k i) c.number-number.ensures begun in
    let apart = subst (λ rs. i < length rs → (d : g.row.R.Denot) → number (get_or rs i d) ≢ c.number-number.result) c.deref-2.ensures.value (c.is_number_at.ensures.other c.if-is_number_at.false) in
    let other = subst (λ k. i < length rows → (d : g.row.R.Denot) → number (get_or rows i d) ≢ k) c.number-number.ensures apart in
    let inserted = c.in_ok-insert.ensures.items ∙ number_inserted number row rows i c.self.invariant.rising start other in
    let empty = inserted_paged number row rows c.self.invariant.rising in
    let slotless = subst (λ ss. IsPaged number (with_inserted nat_cmp number row rows) [] ss) (sym c.clear-2.ensures.items) empty in
    let pageless = subst (λ ps. IsPaged number (with_inserted nat_cmp number row rows) ps c.clear-2.new.self.items) (sym c.clear.ensures.items) slotless in
    subst (λ rs. IsPaged number rs c.clear.new.self.items c.clear-2.new.self.items) (sym inserted) pageless

pub returns-clause-inserted : goal.returns-clause-inserted
returns-clause-inserted g c =
    let number = g.R.Numbered.number_of in
    let row = c.args.row in
    let rows = c.self.inside.rows.items in
    let i = c.first_from-index.result in
    let begun = subst (λ rs. IsStart number rs c.number-number.result i) c.deref.ensures.value c.first_from-index.ensures in
    let start = subst (λ k. IsStart number rows k i) c.number-number.ensures begun in
    let apart = subst (λ rs. i < length rs → (d : g.row.R.Denot) → number (get_or rs i d) ≢ c.number-number.result) c.deref-2.ensures.value (c.is_number_at.ensures.other c.if-is_number_at.false) in
    let other = subst (λ k. i < length rows → (d : g.row.R.Denot) → number (get_or rows i d) ≢ k) c.number-number.ensures apart in
    c.in_ok-insert.ensures.items ∙ number_inserted number row rows i c.self.invariant.rising start other ∙ ap (with_inserted nat_cmp number row) c.self.view_is
