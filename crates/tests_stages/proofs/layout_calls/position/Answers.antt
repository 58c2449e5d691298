use Rattle.buffer_core.specs.Sides.{items_of}
use Rattle.layout_match.specs.Applied.{apply_context_of}
use Rattle.tests_stages.proofs.layout_calls.position.Goals as goal

pub apply_lookup-requires-clause-kept : goal.apply_lookup-requires-clause-kept
apply_lookup-requires-clause-kept c = c.new-last.ensures (apply_context_of c.set_lookup_mask.new.self) (items_of c.args.buffer.now)
