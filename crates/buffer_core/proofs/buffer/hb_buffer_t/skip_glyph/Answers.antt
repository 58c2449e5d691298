use Rattle.std.proofs.Common.{rules, arith, ap, ◌∙◌}
use Rattle.std.proofs.lemmas.Grind.{common_steps}
use Rattle.buffer_glyphs.proofs.Lists.{drop_next}
use Rattle.buffer_core.specs.Sides.{origins_of}
use Rattle.buffer_core.proofs.HandedOn.{skip_origins}
use Rattle.buffer_core.proofs.buffer.hb_buffer_t.skip_glyph.Goals as goal

pub returns-clause-skipped : goal.returns-clause-skipped
returns-clause-skipped c = first_of (search rules, grind (arith, drop_next), grind (arith, common_steps))

pub returns-clause-origins : goal.returns-clause-origins
returns-clause-origins c = ap origins_of (returns-clause-skipped c) ∙ skip_origins c.args.self.now
