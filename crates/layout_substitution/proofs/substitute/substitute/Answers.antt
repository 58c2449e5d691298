use Rattle.buffer_core.specs.Sides.{items_of}
use Rattle.layout_substitution.proofs.substitute.substitute.Goals as goal

pub apply_stages-requires-clause-held : goal.apply_stages-requires-clause-held
apply_stages-requires-clause-held g c = c.new-text.ensures (items_of c.args.buffer.now)
