use Rattle.std.proofs.Common.{rules, arith, ap, ◌∙◌}
use Rattle.std.proofs.lemmas.Grind.{common_steps}
use Rattle.buffer_core.specs.Sides.{origins_of}
use Rattle.buffer_core.proofs.Deleting.{first_is}
use Rattle.buffer_core.proofs.HandedOn.{deleted_origins}
use Rattle.buffer_core.proofs.buffer.hb_buffer_t.delete_glyph.Goals as goal

pub returns-clause-deleted : goal.returns-clause-deleted
returns-clause-deleted c = first_of (search rules, grind (arith, common_steps))

pub returns-clause-origins : goal.returns-clause-origins
returns-clause-origins c =
    let s = c.args.self.now in
    let first = first_is s.ahead c.requires.current.current in
    ap origins_of (returns-clause-deleted c _ _ first) ∙ deleted_origins _ _ s first
