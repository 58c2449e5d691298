use Rattle.std.proofs.Common.{◌≡◌, ◌≢◌, ◌<◌, ◌∙◌, [], ap, get_or, length, subst, sym}
use Rattle.std.specs.Ordering.{nat_cmp}
use Rattle.buffer_rows.specs.Keys.{without_key}
use Rattle.buffer_rows.specs.Pages.{IsPaged, IsStart}
use Rattle.buffer_rows.proofs.Slotted.{none_of_number, number_removed, rest_paged}
use Rattle.buffer_rows.proofs.pages.PagedRows.remove.Goals as goal

-- the record at the index has the number
pub invariant_of-self : goal.invariant_of-self
invariant_of-self g c =
    let number = g.R.Numbered.number_of in
    let k = c.args.number in
    let rows = c.self.inside.rows.items in
    let i = c.first_from-index.result in
    let d = c.remove.result in
    let lt : i < length rows = subst (λ rs. i < length rs) c.deref-2.ensures.value (c.is_number_at.ensures.there c.if-is_number_at.true) in
    let same = subst (λ rs. (d : g.row.R.Denot) → number (get_or rs i d) ≡ k) c.deref-2.ensures.value (c.is_number_at.ensures.same c.if-is_number_at.true) in
    let removed = c.remove.ensures.items ∙ number_removed number k rows i d c.self.invariant.rising lt (same d) in
    let empty = rest_paged number k rows c.self.invariant.rising in
    let slotless = subst (λ ss. IsPaged number (without_key nat_cmp number k rows) [] ss) (sym c.clear-then-is_number_at.ensures.items) empty in
    let pageless = subst (λ ps. IsPaged number (without_key nat_cmp number k rows) ps c.clear-then-is_number_at.new.self.items) (sym c.clear.ensures.items) slotless in
    subst (λ rs. IsPaged number rs c.clear.new.self.items c.clear-then-is_number_at.new.self.items) (sym removed) pageless

pub returns-then-is_number_at : goal.returns-then-is_number_at
returns-then-is_number_at g c =
    let number = g.R.Numbered.number_of in
    let k = c.args.number in
    let rows = c.self.inside.rows.items in
    let i = c.first_from-index.result in
    let d = c.remove.result in
    let lt : i < length rows = subst (λ rs. i < length rs) c.deref-2.ensures.value (c.is_number_at.ensures.there c.if-is_number_at.true) in
    let same = subst (λ rs. (d : g.row.R.Denot) → number (get_or rs i d) ≡ k) c.deref-2.ensures.value (c.is_number_at.ensures.same c.if-is_number_at.true) in
    c.remove.ensures.items ∙ number_removed number k rows i d c.self.invariant.rising lt (same d) ∙ ap (without_key nat_cmp number k) c.self.view_is

-- no record has the number
pub returns-else-is_number_at : goal.returns-else-is_number_at
returns-else-is_number_at g c =
    let number = g.R.Numbered.number_of in
    let k = c.args.number in
    let rows = c.self.inside.rows.items in
    let i = c.first_from-index.result in
    let start = subst (λ rs. IsStart number rs k i) c.deref.ensures.value c.first_from-index.ensures in
    let other = subst (λ rs. i < length rs → (d : g.row.R.Denot) → number (get_or rs i d) ≢ k) c.deref-2.ensures.value (c.is_number_at.ensures.other c.if-is_number_at.false) in
    subst (λ rs. rs ≡ without_key nat_cmp number k rs) c.self.view_is (none_of_number number k rows i c.self.invariant.rising start other)
