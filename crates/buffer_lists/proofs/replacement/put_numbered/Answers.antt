use Rattle.std.proofs.Common.{◌≡◌, ◌+◌, ◌-◌, length, ap, ◌∙◌, arith}
use Rattle.std.proofs.lemmas.List.{length-map}
use Rattle.std.proofs.lemmas.Slice.{drop-put_mid}
use Rattle.buffer_glyphs.specs.Replacements.{glyph_numbered}
use Rattle.buffer_lists.proofs.replacement.put_numbered.Goals as goal

pub returns-clause-input : goal.returns-clause-input
returns-clause-input c until past =
    let count = length c.args.numbers.now in
    let wide : c.args.front + count - c.args.front ≡ count = omega arith in
    rw wide (drop-put_mid c.args.front count c.args.glyphs.now c.write_numbered.new.glyphs until past (omega (arith, c.requires.within)) (ap length c.write_numbered.ensures ∙ length-map c.args.numbers.now (glyph_numbered c.args.model)))
