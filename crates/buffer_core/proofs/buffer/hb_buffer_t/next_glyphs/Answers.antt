use Rattle.std.proofs.Common.{ap, ◌∙◌}
use Rattle.buffer_core.specs.Sides.{after_next_glyphs}
use Rattle.buffer_core.proofs.Kept.{moved_closed}
use Rattle.buffer_core.proofs.buffer.hb_buffer_t.next_glyphs.Goals as goal

pub returns-then-not-self-clause-moved : goal.returns-then-not-self-clause-moved
returns-then-not-self-clause-moved c e = moved_closed c.self.inside c.args.count c.if-not-self.true ∙ ap (after_next_glyphs c.args.count) c.self.view_is
