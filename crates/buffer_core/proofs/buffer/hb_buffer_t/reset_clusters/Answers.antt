use Rattle.std.proofs.Common.{◌≡◌, false, length, ap, ◌∙◌}
use Rattle.buffer_glyphs.specs.Items.{clusters}
use Rattle.buffer_lists.specs.Known.{HasOrder}
use Rattle.buffer_core.specs.Sides.{items_of, origins_of}
use Rattle.buffer_core.specs.Settings.{with_reset_clusters}
use Rattle.buffer_core.proofs.Counted.{clusters_counted, counted_view, counted_items, counted_rises, counted_origins, length_counted}
use Rattle.buffer_core.proofs.Ordered.{sound_as_many}
use Rattle.buffer_core.proofs.buffer.hb_buffer_t.reset_clusters.Goals as goal

pub returns-clause-counted : goal.returns-clause-counted
returns-clause-counted c =
    let closed : c.self.inside.have_output ≡ false = rw (← c.self.view_is) at c.requires in
    counted_view c.self.inside c.number_all.new.glyphs c.of-self-inside.result closed c.self.invariant.cursor c.number_all.ensures.items ∙ ap with_reset_clusters c.self.view_is

pub returns-clause-items : goal.returns-clause-items
returns-clause-items c = ap items_of (returns-clause-counted c) ∙ counted_items c.args.self.now

pub returns-clause-origins : goal.returns-clause-origins
returns-clause-origins c = ap origins_of (returns-clause-counted c) ∙ counted_origins c.args.self.now

pub invariant_of-self : goal.invariant_of-self
invariant_of-self c =
    let closed : c.self.inside.have_output ≡ false = rw (← c.self.view_is) at c.requires in
    let rises : HasOrder c.of-self-inside.result.known (clusters c.number_all.new.glyphs.items) = rw (c.number_all.ensures.items, c.of-self-inside.ensures.known, clusters_counted 0 c.self.inside.info.items) (counted_rises 0 c.self.inside.info.items) in
    let long = ap length c.number_all.ensures.items ∙ length_counted 0 c.self.inside.info.items in
    sound_as_many c.self.inside c.number_all.new.glyphs c.of-self-inside.result c.self.inside.scratch_flags c.self.invariant long (rw (closed, c.of-self-inside.ensures.lent) rises)
