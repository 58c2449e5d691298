use Rattle.std.proofs.Common.{◌≡◌, Some, None, Ok, List, false, refl, sym, subst}
use Rattle.layout_tables.specs.Layout.{LigatureTable, ligature_set_of}
use Rattle.layout_match.specs.Applied.{apply_context_of}
use Rattle.buffer_stages.specs.Actions.{first_rule}
use Rattle.buffer_stages.specs.Performing.{Performs, cut_with}
use Rattle.buffer_stages.proofs.Lemmas.Does.{passed_same}
use Rattle.layout_gsub.specs.Ligating.{ligature_over}
use Rattle.layout_gsub.proofs.Found.{ligatures_perform}
use Rattle.layout_gsub.proofs.ligature.LigatureSubstApply.apply.Goals as goal

pub returns-in-Some-clause-performs : goal.returns-in-Some-clause-performs
returns-in-Some-clause-performs c =
    let s = c.args.buffer.now in
    let ctx = c.args.ctx.now in
    let new = c.apply_ligatures.new in
    let some : ligature_set_of c.as_glyph.result.0 c.args.self.now ≡ Some c.in-Some.set.now = sym (rw c.in-Some.is at c.set_of.ensures) in
    let P : List LigatureTable → Type 0 = λ ls. Performs (first_rule (ligature_over (apply_context_of ctx)) ls (cut_with ctx.random_state s)) c.apply_ligatures.result ctx.random_state new.ctx.random_state s new.buffer in
    ligatures_perform (apply_context_of ctx) c.args.self.now ctx.random_state new.ctx.random_state s new.buffer c.cur.result.now c.as_glyph.result.0 (Some c.in-Some.set.now) c.apply_ligatures.result c.cur.ensures c.as_glyph.ensures some (subst P c.ligatures.ensures c.apply_ligatures.ensures.performs)

pub returns-in-None-clause-performs : goal.returns-in-None-clause-performs
returns-in-None-clause-performs c =
    let s = c.args.buffer.now in
    let ctx = c.args.ctx.now in
    let none : ligature_set_of c.as_glyph.result.0 c.args.self.now ≡ None = sym (rw c.in-None.is at c.set_of.ensures) in
    ligatures_perform (apply_context_of ctx) c.args.self.now ctx.random_state ctx.random_state s s c.cur.result.now c.as_glyph.result.0 None (Ok false) c.cur.ensures c.as_glyph.ensures none (refl, refl, passed_same s)
