use Rattle.std.proofs.Common.{sym, ◌∙◌}
use Rattle.script_khmer.proofs.KhmerScan.{form_masked}
use Rattle.script_khmer.proofs.runs.mask_at.Goals as goal

pub returns-clause-masked : goal.returns-clause-masked
returns-clause-masked c = form_masked c.args.glyphs.now c.mask_within.new.glyphs c.args.i c.args.mask _ c.requires.there (sym c.is_form.ensures ∙ c.if-not-is_form.false) c.mask_within.ensures
