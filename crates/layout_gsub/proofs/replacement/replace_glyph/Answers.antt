use Rattle.std.proofs.Common.{ℕ, ◌≤◌, Ok, sym, ap, ◌∙◌, arith}
use Rattle.buffer_core.specs.Merging.{with_replaced_glyph}
use Rattle.buffer_core.specs.Sides.{Sides}
use Rattle.layout_gsub.proofs.Replaced.{glyph_performed}
use Rattle.layout_gsub.proofs.replacement.replace_glyph.Goals as goal

pub returns-then-held-clause-performs : goal.returns-then-held-clause-performs
returns-then-held-clause-performs c =
    let mid = c.set_glyph_props.new.buffer in
    let ctx = c.args.ctx.now in
    let small : c.args.glyph ≤ 65535 = omega arith in
    let after = c.in_ok-held.ensures.replaced (ap Ok c.if-held.true) ∙ ap (λ (k : ℕ). with_replaced_glyph k mid) c.from.ensures in
    glyph_performed ctx.face.now.gdef c.args.glyph ctx.random_state c.substituted_props-props.result c.args.buffer.now mid c.replace_glyph.new.self c.cur.result.now c.cur.ensures c.requires.current.current small c.substituted_props-props.ensures (c.set_glyph_props.ensures.set c.cur.result.now c.cur.ensures) (sym c.in_ok-held.ensures.held ∙ c.if-held.true) after c.in_ok-held.ensures.origins

pub returns-then-held-clause-apart : goal.returns-then-held-clause-apart
returns-then-held-clause-apart c = ap (λ (t : Sides). t.is_apart) (c.in_ok-held.ensures.replaced (ap Ok c.if-held.true)) ∙ c.set_glyph_props.ensures.apart
