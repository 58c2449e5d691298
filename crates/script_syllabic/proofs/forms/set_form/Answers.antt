use Rattle.std.proofs.Common.{◌++◌, ap, ◌∙◌, map, take, drop}
use Rattle.std.specs.Prelude.{slice_range}
use Rattle.script_syllabic.specs.Formed.{glyph_with_form}
use Rattle.script_syllabic.proofs.Forming.{form_rewrites}
use Rattle.script_syllabic.proofs.forms.set_form.Goals as goal

pub returns : goal.returns
returns c =
    let r = c.requires in
    let bits = c.bits.result in
    form_rewrites c.args.masks.now c.args.form c.args.start c.args.end bits c.form_within.new.glyphs c.args.buffer.now r.ready r.ordered r.within c.bits.ensures
    (c.form_within.ensures ∙ ap (λ gs. take c.args.start gs ++ map (glyph_with_form bits c.args.form) (slice_range gs c.args.start c.args.end) ++ drop c.args.end gs) c.info_slice_mut.ensures.value)
