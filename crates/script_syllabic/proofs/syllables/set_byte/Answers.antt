use Rattle.std.proofs.Common.{◌++◌, ap, ◌∙◌, map, take, drop}
use Rattle.std.specs.Prelude.{slice_range}
use Rattle.script_syllabic.specs.Rules.{glyph_with_byte}
use Rattle.script_syllabic.proofs.Marking.{syllable_done}
use Rattle.script_syllabic.proofs.syllables.set_byte.Goals as goal

pub returns : goal.returns
returns c =
    let r = c.requires in
    let m = c.unsafe_to_break.ensures in
    syllable_done c.args.start c.args.end c.args.byte c.byte_within.new.glyphs c.args.buffer.now c.unsafe_to_break.new.self r.ready r.ordered r.within
    (c.byte_within.ensures ∙ ap (λ gs. take c.args.start gs ++ map (glyph_with_byte c.args.byte) (slice_range gs c.args.start c.args.end) ++ drop c.args.end gs) c.info_slice_mut.ensures.value)
    m.marked m.items m.origins
