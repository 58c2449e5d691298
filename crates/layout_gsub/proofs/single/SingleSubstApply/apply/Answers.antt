use Rattle.std.proofs.Common.{◌≡◌, Some, None, Ok, false, refl, sym}
use Rattle.layout_common.specs.Rows.{value_of}
use Rattle.buffer_stages.proofs.Lemmas.Does.{passed_same}
use Rattle.layout_gsub.proofs.Tested.{single_performs}
use Rattle.layout_gsub.proofs.single.SingleSubstApply.apply.Goals as goal

pub returns-in-Some-clause-performs : goal.returns-in-Some-clause-performs
returns-in-Some-clause-performs c =
    let s = c.args.buffer.now in
    let ctx = c.args.ctx.now in
    let some : value_of c.as_glyph.result.0 c.args.self.now.rows ≡ Some c.in-Some.glyph = sym (rw c.in-Some.is at c.substitute.ensures) in
    single_performs ctx.face.now.gdef c.args.self.now.rows ctx.random_state ctx.random_state s c.replace_glyph.new.buffer c.cur.result.now c.as_glyph.result.0 (Some c.in-Some.glyph) c.replace_glyph.result c.cur.ensures c.as_glyph.ensures some c.replace_glyph.ensures.performs

pub returns-in-None-clause-performs : goal.returns-in-None-clause-performs
returns-in-None-clause-performs c =
    let s = c.args.buffer.now in
    let ctx = c.args.ctx.now in
    let none : value_of c.as_glyph.result.0 c.args.self.now.rows ≡ None = sym (rw c.in-None.is at c.substitute.ensures) in
    single_performs ctx.face.now.gdef c.args.self.now.rows ctx.random_state ctx.random_state s s c.cur.result.now c.as_glyph.result.0 None (Ok false) c.cur.ensures c.as_glyph.ensures none (refl, refl, passed_same s)
