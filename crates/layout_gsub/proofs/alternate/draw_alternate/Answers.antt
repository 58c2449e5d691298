use Rattle.std.proofs.Common.{ℕ, ◌<◌, ◌%◌, length, get_or, refl, ap, ◌∙◌, arith}
use Rattle.layout_match.specs.declared.apply_context.hb_ot_apply_context_t.{hb_ot_apply_context_t}
use Rattle.layout_gsub.proofs.Drawn.{alternate_drawn}
use Rattle.layout_gsub.proofs.alternate.draw_alternate.Goals as goal

pub returns-clause-performs : goal.returns-clause-performs
returns-clause-performs c =
    let glyphs = c.args.glyphs.now in
    let k = c.random_number.result % length glyphs in
    let within : k < length glyphs = omega (arith, c.requires.some) in
    let ctx = c.random_number.new.self in
    let same = ap (λ (x : hb_ot_apply_context_t). x.face.now.gdef) c.random_number.ensures.state in
    let state = ap (λ (x : hb_ot_apply_context_t). x.random_state) c.random_number.ensures.state ∙ c.random_number.ensures.value in
    alternate_drawn c.args.ctx.now.face.now.gdef ctx.face.now.gdef glyphs (get_or glyphs k 0) k c.args.ctx.now.random_state ctx.random_state ctx.random_state c.replace_glyph.result c.args.buffer.now c.mark_all.new.buffer c.replace_glyph.new.buffer same (ap (λ (x : ℕ). x % length glyphs) c.random_number.ensures.value) within refl state c.mark_all.ensures c.replace_glyph.ensures.performs
