use Rattle.std.proofs.Common.{ap, drop, sym, ◌∙◌}
use Rattle.std.proofs.lemmas.List.{take-map}
use Rattle.buffer_glyphs.specs.Items.{item_of}
use Rattle.script_indic_reordering.specs.Glyphs.{is_free_halant}
use Rattle.script_indic_reordering.specs.Indices.{begins_with, first_at}
use Rattle.script_indic_reordering.proofs.formed.first_halant.Goals as goal

pub returns-clause-value : goal.returns-clause-value
returns-clause-value c = c.first_from.ensures.value ∙ ap (λ xs. first_at (begins_with (λ x. is_free_halant x)) 1 (drop 1 xs)) (sym (take-map item_of c.args.base c.args.glyphs.now))
