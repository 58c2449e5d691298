use Rattle.std.specs.Prelude.{slice_range}
use Rattle.std.proofs.Common.{◌≡◌, false, subst}
use Rattle.buffer_glyphs.specs.Items.{clusters}
use Rattle.buffer_glyphs.specs.Order.{IsOrdered}
use Rattle.buffer_glyphs.specs.Glyphs.{has_several_numbers}
use Rattle.buffer_glyphs.specs.Lemmas.Glyphs.{range_clusters}
use Rattle.buffer_glyphs.proofs.Even.{even_marked, even_range}
use Rattle.buffer_glyphs.proofs.marks.mark_within.Goals as goal

pub returns-then-are_ends_alike-clause-marked : goal.returns-then-are_ends_alike-clause-marked
returns-then-are_ends_alike-clause-marked c =
    let o : IsOrdered (clusters (slice_range c.args.glyphs.now c.args.start c.args.end)) = subst IsOrdered (range_clusters c.args.glyphs.now c.args.start c.args.end) (c.requires.known c.if-in_order.true) in
    let even : has_several_numbers (clusters (slice_range c.args.glyphs.now c.args.start c.args.end)) ≡ false = c.are_ends_alike.ensures o c.if-are_ends_alike.true in
    even_marked c.args.flags c.args.start c.args.end c.args.glyphs.now c.requires.ordered even

pub returns-then-are_ends_alike-clause-any : goal.returns-then-are_ends_alike-clause-any
returns-then-are_ends_alike-clause-any c =
    let o : IsOrdered (clusters (slice_range c.args.glyphs.now c.args.start c.args.end)) = subst IsOrdered (range_clusters c.args.glyphs.now c.args.start c.args.end) (c.requires.known c.if-in_order.true) in
    let even : has_several_numbers (clusters (slice_range c.args.glyphs.now c.args.start c.args.end)) ≡ false = c.are_ends_alike.ensures o c.if-are_ends_alike.true in
    even_range c.args.start c.args.end c.args.glyphs.now even
