use Rattle.std.proofs.Common.{arith}
use Rattle.buffer_stages.proofs.Loops.{next_written}
use Rattle.script_indic_reordering.specs.Orders.{consonant_with_position}
use Rattle.script_indic_reordering.proofs.consonants.update_each.Goals as goal

pub loop-glyph-preserved : goal.loop-glyph-preserved
loop-glyph-preserved g c = record {
  written =
      next_written (consonant_with_position (g.F.IndicForms.forms_of c.args.forms.now) c.args.virama) c.args.glyphs.now c.loop-glyph.glyphs c.loop-glyph.glyph-index _ c.update_glyph.new.glyph
      (omega arith) (c.update_glyph.ensures.item, c.update_glyph.ensures.origin) c.loop-glyph.invariant.written;
  known = c.update_glyph.ensures.known;
}
