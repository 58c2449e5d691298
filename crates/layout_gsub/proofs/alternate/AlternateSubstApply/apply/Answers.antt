use Rattle.std.proofs.Common.{ℕ, ◌≡◌, Some, None, Ok, false, refl, sym, ap, ◌∙◌}
use Rattle.buffer_glyphs.specs.Items.{item_of}
use Rattle.layout_tables.specs.Substitutions.{glyphs_of}
use Rattle.buffer_stages.proofs.Lemmas.Does.{passed_same}
use Rattle.layout_gsub.specs.Alternates.{feature_value}
use Rattle.layout_gsub.proofs.Tested.{alternate_performs}
use Rattle.layout_gsub.proofs.alternate.AlternateSubstApply.apply.Goals as goal

pub returns-in-Some-clause-performs : goal.returns-in-Some-clause-performs
returns-in-Some-clause-performs c =
    let s = c.args.buffer.now in
    let ctx = c.args.ctx.now in
    let g = c.cur-info.result.now in
    let valued = c.feature_value-value.ensures ∙ ap (λ (b : ℕ). feature_value b (item_of g).mask) c.lookup_mask.ensures in
    let some : glyphs_of c.as_glyph.result.0 c.args.self.now.rows ≡ Some c.in-Some.glyphs.now = sym (rw c.in-Some.is at c.alternates.ensures) in
    alternate_performs ctx.face.now.gdef ctx.random ctx.lookup_mask c.feature_value-value.result c.args.self.now.rows ctx.random_state c.apply_alternate.new.ctx.random_state s c.apply_alternate.new.buffer g c.as_glyph.result.0 (Some c.in-Some.glyphs.now) c.apply_alternate.result c.cur-info.ensures c.as_glyph.ensures valued some c.apply_alternate.ensures.performs

pub returns-in-None-clause-performs : goal.returns-in-None-clause-performs
returns-in-None-clause-performs c =
    let s = c.args.buffer.now in
    let ctx = c.args.ctx.now in
    let g = c.cur-info.result.now in
    let valued = c.feature_value-value.ensures ∙ ap (λ (b : ℕ). feature_value b (item_of g).mask) c.lookup_mask.ensures in
    let none : glyphs_of c.as_glyph.result.0 c.args.self.now.rows ≡ None = sym (rw c.in-None.is at c.alternates.ensures) in
    alternate_performs ctx.face.now.gdef ctx.random ctx.lookup_mask c.feature_value-value.result c.args.self.now.rows ctx.random_state ctx.random_state s s g c.as_glyph.result.0 None (Ok false) c.cur-info.ensures c.as_glyph.ensures valued none (refl, refl, passed_same s)
