use Rattle.buffer_wrappers.proofs.Characters.{text_counted}
use Rattle.buffer_wrappers.proofs.unicode_buffer.UnicodeBuffer.reset_clusters.Goals as goal

pub invariant_of-self : goal.invariant_of-self
invariant_of-self c = text_counted c.self.inside.buffer c.reset_clusters.new.self c.reset_clusters.ensures.counted c.self.invariant
