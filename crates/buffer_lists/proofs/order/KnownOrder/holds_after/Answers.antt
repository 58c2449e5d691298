use Rattle.std.proofs.Common.{arith}
use Rattle.std.proofs.lemmas.Bool.Decides.{nat_tests}
use Rattle.buffer_glyphs.specs.Items.{clusters}
use Rattle.buffer_glyphs.specs.Order.{IsFalling, IsRising}
use Rattle.buffer_lists.proofs.Falling.{falls_behind}
use Rattle.buffer_lists.proofs.Known.{rises_behind}
use Rattle.buffer_lists.proofs.Known.{no_glyph}
use Rattle.buffer_lists.proofs.order.KnownOrder.holds_after.Goals as goal

pub returns-in-Rising-len1-up : goal.returns-in-Rising-len1-up
returns-in-Rising-len1-up c e h =
    let rising : IsRising (clusters c.args.glyphs.now) = rw c.in-Rising-len1-up.is-0 at h in
    rw c.in-Rising-len1-up.is-0 (rises_behind c.args.glyphs.now no_glyph c.args.cluster c.in-Rising-len1-up.len_at_least (grind (arith, nat_tests, e)) rising)

pub returns-in-Falling-len1-up : goal.returns-in-Falling-len1-up
returns-in-Falling-len1-up c e h =
    let falling : IsFalling (clusters c.args.glyphs.now) = rw c.in-Falling-len1-up.is-0 at h in
    rw c.in-Falling-len1-up.is-0 (falls_behind c.args.glyphs.now no_glyph c.args.cluster c.in-Falling-len1-up.len_at_least (grind (arith, nat_tests, e)) falling)
