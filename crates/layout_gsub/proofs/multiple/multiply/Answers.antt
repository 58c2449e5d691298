use Rattle.std.proofs.Common.{arith}
use Rattle.layout_gsub.proofs.Multiplied.{all_small, one_output, output_made}
use Rattle.layout_gsub.proofs.multiple.multiply.Goals as goal

pub loop-i-preserved : goal.loop-i-preserved
loop-i-preserved c =
    let e = c.in_ok-output_glyph_for_component.ensures {u = tt} in
    one_output c.args.face.now.gdef c.args.glyphs.now c.loop-i.i c.cur.result.now c.args.buffer.now c.loop-i.buffer c.output_glyph_for_component.new.buffer c.loop-i-test.true c.loop-i.invariant e.room e.put

pub returns-clause-made : goal.returns-clause-made
returns-clause-made c = λ r.
    output_made c.args.face.now.gdef c.args.glyphs.now c.loop-i.i r c.cur.result.now c.args.buffer.now c.loop-i.buffer c.skip_glyph.new.self c.requires.current.current c.cur.ensures c.requires.some (all_small c.args.glyphs.now (λ i. omega (arith, c.type_inv.glyphs i))) c.loop-i-test.false c.loop-i.auto.i-end c.loop-i.invariant c.skip_glyph.ensures.skipped
