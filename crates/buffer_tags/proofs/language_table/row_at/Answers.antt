use Rattle.std.proofs.Common.{◌∙◌, ap, Some, None, Ok, Err, rules}
use Rattle.std.specs.Cmp.Lexicographic.{nat_list_cmp_total}
use Rattle.std.proofs.lemmas.Fn.{always_returns_same}
use Rattle.buffer_rows.proofs.Searched.{searched}
use Rattle.buffer_tags.specs.LanguageRows.{row_text}
use Rattle.buffer_tags.proofs.Searching.{order, rises, same_row}
use Rattle.buffer_tags.proofs.language_table.row_at.Goals as goal

-- the closure compares a row's text
pub returns-in-Ok : goal.returns-in-Ok
returns-in-Ok c =
    let by_text = c.in-Ok.ensures.position (λ row. order (row_text row) c.args.text.now) (always_returns_same _ _ _ (λ a r h called. search rules)) in
    ap (λ r. Some r) c.index-rows-index.is
    ∙ searched order nat_list_cmp_total row_text None c.args.rows.now c.args.text.now (Ok c.in-Ok.index) (rises c.args.rows.now c.requires) c.in-Ok.ensures.bound by_text c.index-rows-index.result
    ∙ same_row c.args.rows.now c.args.text.now

pub returns-in-Err : goal.returns-in-Err
returns-in-Err c =
    let by_text = c.in-Err.ensures.position (λ row. order (row_text row) c.args.text.now) (always_returns_same _ _ _ (λ a r h called. search rules)) in
    searched order nat_list_cmp_total row_text None c.args.rows.now c.args.text.now (Err c.in-Err.field-0) (rises c.args.rows.now c.requires) c.in-Err.ensures.bound by_text
    ∙ same_row c.args.rows.now c.args.text.now
