use Rattle.std.proofs.Common.{ap, ◌∙◌, option_map, None, Ok, Err, rules}
use Rattle.std.specs.Ordering.{nat_cmp}
use Rattle.std.proofs.lemmas.Cmp.{nat_cmp_total}
use Rattle.std.proofs.lemmas.List.Sorted.{answers_always}
use Rattle.buffer_rows.proofs.Searched.{searched, row_of_number}
use Rattle.layout_tables.specs.declared.pair.PairRow.{PairRow}
use Rattle.layout_tables.proofs.pair_rows.second_values.Goals as goal

-- the closure gives a row's second glyph
pub returns-in-Ok : goal.returns-in-Ok
returns-in-Ok c =
    let second = λ (r : PairRow). r.second in
    let by_second = c.in-Ok.ensures.position second (answers_always _ _ _ (λ f a r h called. search rules)) in
    ap (option_map (λ (r : PairRow). r.values))
    (searched nat_cmp nat_cmp_total second None c.args.rows.now c.args.second (Ok c.in-Ok.at) c.requires c.in-Ok.ensures.bound by_second _ ∙ row_of_number second c.args.rows.now c.args.second)

pub returns-in-Err : goal.returns-in-Err
returns-in-Err c =
    let second = λ (r : PairRow). r.second in
    let by_second = c.in-Err.ensures.position second (answers_always _ _ _ (λ f a r h called. search rules)) in
    ap (option_map (λ (r : PairRow). r.values)) (searched nat_cmp nat_cmp_total second None c.args.rows.now c.args.second (Err c.in-Err.field-0) c.requires c.in-Err.ensures.bound by_second
    ∙ row_of_number second c.args.rows.now c.args.second)
