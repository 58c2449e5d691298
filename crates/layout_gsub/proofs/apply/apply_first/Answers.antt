use Rattle.std.proofs.Common.{◌≡◌, ◌∷◌, ◌∙◌, List, [], sym, subst}
use Rattle.layout_match.specs.Applied.{apply_context_of}
use Rattle.buffer_stages.specs.Actions.{Outcome, first_rule}
use Rattle.buffer_stages.specs.Performing.{Performs, cut_with}
use Rattle.layout_gsub.proofs.Lemmas.Jumped.{only_first, only_one}
use Rattle.layout_gsub.proofs.apply.apply_first.Goals as goal

pub returns-in-len1-clause-performs : goal.returns-in-len1-clause-performs
returns-in-len1-clause-performs g c =
    let a = apply_context_of c.args.ctx.now in
    let r = c.args.ctx.now.random_state in
    let s = c.args.buffer.now in
    let x = c.subtable-item.result in
    let Q : Outcome → Type 0 = λ o. Performs o c.apply.result r c.apply.new.ctx.random_state s c.apply.new.buffer in
    let whole : c.args.subtables.now ≡ x ∷ [] = sym c.as_slice.ensures ∙ only_one c.as_slice.result.now x c.in-len1.len_at_least c.in-len1.len_below c.subtable-item.is in
    subst (λ xs. Q (first_rule (λ y. g.S.Apply.action y a) xs (cut_with r s))) (sym whole)
    (subst Q (sym (only_first (λ y. g.S.Apply.action y a) x (cut_with r s))) (subst (λ y. Q (g.S.Apply.action y a (cut_with r s))) c.inner.ensures c.apply.ensures.performs))
