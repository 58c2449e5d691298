use Rattle.std.proofs.Common.{ap, sym, ◌∙◌}
use Rattle.std.proofs.lemmas.List.{take-map}
use Rattle.buffer_glyphs.specs.Items.{item_of}
use Rattle.script_indic_reordering.specs.Final.{stops_left}
use Rattle.script_indic_reordering.specs.Indices.{begins_with, last_at}
use Rattle.script_indic_reordering.proofs.formed.last_halant.Goals as goal

pub returns-clause-value : goal.returns-clause-value
returns-clause-value c = c.last_from.ensures.value ∙ ap (last_at (begins_with (λ x. stops_left x)) 0) (sym (take-map item_of c.args.base c.args.glyphs.now))
