use Rattle.std.specs.Prelude.{slice_range}
use Rattle.std.proofs.Common.{◌≡◌, false}
use Rattle.buffer_glyphs.specs.Items.{clusters}
use Rattle.buffer_glyphs.specs.Glyphs.{has_several_numbers}
use Rattle.buffer_glyphs.proofs.Joined.{none_merged, order_range}
use Rattle.buffer_glyphs.proofs.Even.{even_merged}
use Rattle.buffer_glyphs.proofs.runs.merge_within.Goals as goal

pub returns-then-start-end : goal.returns-then-start-end
returns-then-start-end c = none_merged c.args.start c.args.end c.args.glyphs.now c.if-start-end.true

pub returns-then-are_ends_alike : goal.returns-then-are_ends_alike
returns-then-are_ends_alike c =
    let o = order_range c.args.glyphs.now c.args.start c.args.end c.requires.ordered (c.requires.known c.if-not-in_order.false) in
    let even : has_several_numbers (clusters (slice_range c.args.glyphs.now c.args.start c.args.end)) ≡ false = c.are_ends_alike.ensures o c.if-are_ends_alike.true in
    even_merged c.args.start c.args.end c.args.glyphs.now even
