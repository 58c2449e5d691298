use Rattle.buffer_stages.proofs.Loops.{AreWritten}
use Rattle.script_indic_reordering.specs.KnownForms.{AreKnown}
use Rattle.script_indic_reordering.specs.Orders.{consonant_with_position}
use Rattle.script_indic_reordering.proofs.consonants.update_each.Given as goal

-- the glyphs before an index were updated, and what is remembered is true
abbrev pub invariant-loop-glyph : goal.invariant-loop-glyph
invariant-loop-glyph g l = record {
  written : AreWritten (consonant_with_position (g.F.IndicForms.forms_of l.forms) l.virama) l.glyph-index l.initial.glyphs l.glyphs;
  known : AreKnown (g.F.IndicForms.forms_of l.forms) l.virama l.known;
}
