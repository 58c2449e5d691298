use Rattle.std.proofs.Common.{Ok, ap, ◌∙◌}
use Rattle.shape_normalize.proofs.Select.{joined_brought}
use Rattle.shape_normalize.proofs.selecting.join_selector.Goals as goal

pub returns-clause-ok : goal.returns-clause-ok
returns-clause-ok c =
    let there = c.in_ok-replace_glyphs.was ∙ ap Ok c.if-not-branch.false in
    λ x sel xs seen. joined_brought c.args.glyph c.cur.result.now c.args.buffer.now c.write_current.new.buffer c.replace_glyphs.new.self x sel xs c.cur.ensures seen c.write_current.ensures (c.replace_glyphs.ensures.replaced there) (c.replace_glyphs.ensures.origins there)
