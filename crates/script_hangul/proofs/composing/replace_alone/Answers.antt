use Rattle.std.proofs.Common.{Ok, ap, ◌∙◌}
use Rattle.script_hangul.proofs.Alone.{replaced_alone}
use Rattle.script_hangul.proofs.composing.replace_alone.Goals as goal

pub returns-clause-ok : goal.returns-clause-ok
returns-clause-ok c =
    let there = c.in_ok-replace_glyph.was ∙ ap Ok c.if-not-branch.false in
    replaced_alone c.args.count c.args.number c.args.buffer.now c.replace_glyph.new.self c.skip_glyphs.new.buffer c.requires.open c.requires.some c.requires.there c.requires.alone (c.replace_glyph.ensures.replaced there) c.skip_glyphs.ensures
