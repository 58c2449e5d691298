use Rattle.std.proofs.Common.{sym, refl}
use Rattle.buffer_glyphs.specs.Replacements.{glyph_numbered}
use Rattle.buffer_lists.proofs.Known.{no_glyph}
use Rattle.buffer_lists.proofs.Spans.{put_step}
use Rattle.buffer_lists.proofs.replacement.write_numbered.Goals as goal

pub loop-index-preserved : goal.loop-index-preserved
loop-index-preserved c = put_step (glyph_numbered c.args.model) c.args.numbers.now c.args.glyphs.now c.loop-index.glyphs c.loop-index.index 0 _ no_glyph c.loop-index-test.true (sym c.requires) c.loop-index.invariant refl
