use Rattle.std.proofs.Common.{rules}
use Rattle.buffer_stages.proofs.Put.{all_put, put_more}
use Rattle.buffer_stages.proofs.walks.replace_current.Goals as goal

pub returns-clause-ok : goal.returns-clause-ok
returns-clause-ok c =
    let r = c.requires in
    all_put c.args.glyphs.now c.loop-glyph.glyph-index c.args.buffer.now c.loop-glyph.buffer c.skip_glyph.new.self r.current.opened r.current.current r.same c.loop-glyph.invariant c.loop-glyph-test.false c.skip_glyph.ensures.skipped

pub loop-glyph-preserved : goal.loop-glyph-preserved
loop-glyph-preserved c = put_more c.args.glyphs.now c.loop-glyph.glyph-index _ c.args.buffer.now c.loop-glyph.buffer c.output_info.new.self c.loop-glyph-test.true c.loop-glyph.invariant (c.in_ok-output_info.ensures.put (search rules))
