use Rattle.std.proofs.Common.{◌≡◌, Some, None, Ok, false, refl, sym}
use Rattle.layout_tables.specs.Substitutions.{glyphs_of}
use Rattle.buffer_stages.proofs.Lemmas.Does.{passed_same}
use Rattle.layout_gsub.proofs.Tested.{multiple_performs}
use Rattle.layout_gsub.proofs.multiple.MultipleSubstApply.apply.Goals as goal

pub returns-in-Some-clause-performs : goal.returns-in-Some-clause-performs
returns-in-Some-clause-performs c =
    let s = c.args.buffer.now in
    let ctx = c.args.ctx.now in
    let some : glyphs_of c.as_glyph.result.0 c.args.self.now.rows ≡ Some c.in-Some.glyphs.now = sym (rw c.in-Some.is at c.sequence.ensures) in
    multiple_performs ctx.face.now.gdef c.args.self.now.rows ctx.random_state ctx.random_state s c.apply_sequence.new.buffer c.cur.result.now c.as_glyph.result.0 (Some c.in-Some.glyphs.now) c.apply_sequence.result c.cur.ensures c.as_glyph.ensures some c.apply_sequence.ensures

pub returns-in-None-clause-performs : goal.returns-in-None-clause-performs
returns-in-None-clause-performs c =
    let s = c.args.buffer.now in
    let ctx = c.args.ctx.now in
    let none : glyphs_of c.as_glyph.result.0 c.args.self.now.rows ≡ None = sym (rw c.in-None.is at c.sequence.ensures) in
    multiple_performs ctx.face.now.gdef c.args.self.now.rows ctx.random_state ctx.random_state s s c.cur.result.now c.as_glyph.result.0 None (Ok false) c.cur.ensures c.as_glyph.ensures none (refl, refl, passed_same s)
