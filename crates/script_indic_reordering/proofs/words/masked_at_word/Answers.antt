use Rattle.std.proofs.Common.{Bool, if◌then◌else◌, ap, sym, ◌∙◌}
use Rattle.buffer_glyphs.specs.Items.{item_of}
use Rattle.buffer_stages.specs.Parts.{item_with_features}
use Rattle.buffer_stages.specs.Lemmas.Parts.{item_masked_is}
use Rattle.script_indic_reordering.proofs.words.masked_at_word.Goals as goal

pub returns-then-begins_word-clause-item : goal.returns-then-begins_word-clause-item
returns-then-begins_word-clause-item c =
    let x = item_of c.args.glyph in
    ap item_of c.with_mask.ensures ∙ item_masked_is c.args.mask c.args.glyph ∙ sym (ap (λ (t : Bool). if t then item_with_features c.args.mask x else x) (sym c.begins_word.ensures ∙ c.if-begins_word.true))
