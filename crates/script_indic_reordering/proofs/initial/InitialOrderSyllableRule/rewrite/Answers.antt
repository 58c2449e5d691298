use Rattle.std.proofs.Common.{arith, sym, ◌∙◌}
use Rattle.buffer_glyphs.specs.Items.{item_of}
use Rattle.script_indic_reordering.specs.Initial.{initial_reordered}
use Rattle.script_indic_reordering.proofs.Lemmas.Steps.{kept_does, rule_does_or}
use Rattle.script_indic_reordering.proofs.initial.InitialOrderSyllableRule.rewrite.Goals as goal

pub returns-then-not-is_reordered : goal.returns-then-not-is_reordered
returns-then-not-is_reordered g c =
    let o = c.args.self.now in
    kept_does (initial_reordered o.mode o.masks (g.F.IndicForms.forms_of o.forms.now)) c.args.start c.args.end (item_of c.first_glyph-first.result) c.args.buffer.now (omega (arith, c.requires.ordered)) c.requires.ready c.first_glyph-first.ensures (sym c.is_reordered.ensures ∙ c.if-not-is_reordered.true)

pub returns : goal.returns
returns g c =
    let o = c.args.self.now in
    rule_does_or (initial_reordered o.mode o.masks (g.F.IndicForms.forms_of o.forms.now)) c.args.start c.args.end (item_of c.first_glyph-first.result) c.args.buffer.now c.reorder_syllable.new.buffer c.reorder_syllable.result c.first_glyph-first.ensures (sym c.is_reordered.ensures ∙ c.if-not-is_reordered.false) c.reorder_syllable.ensures
