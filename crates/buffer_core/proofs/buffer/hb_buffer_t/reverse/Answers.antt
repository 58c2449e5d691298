use Rattle.std.proofs.Common.{◌≡◌, false, length, ap, ◌∙◌}
use Rattle.std.proofs.lemmas.List.{length-reverse}
use Rattle.buffer_glyphs.specs.Items.{clusters}
use Rattle.buffer_lists.specs.Known.{HasOrder}
use Rattle.buffer_core.proofs.Ordered.{clusters_reversed, settled_own, sound_placed}
use Rattle.buffer_core.specs.Inside.{sides_of}
use Rattle.buffer_core.specs.Sides.{items_of, after_reverse, origins_of}
use Rattle.buffer_core.proofs.Kept.{turned_view, reversed_items}
use Rattle.buffer_core.proofs.buffer.hb_buffer_t.reverse.Goals as goal
use Rattle.buffer_core.proofs.MergedOrigins.{reversed_origins}

turned : (c : goal.After-reverse-2) → sides_of (record c.self.inside { info = c.reverse.new.self; pos = c.reverse-2.new.self }) ≡ after_reverse c.args.self.now
turned c =
    let closed : c.self.inside.have_output ≡ false = rw (← c.self.view_is) at c.requires in
    turned_view c.self.inside c.reverse.new.self c.reverse-2.new.self closed c.reverse.ensures.items c.reverse-2.ensures.items ∙ ap after_reverse c.self.view_is

pub returns-clause-items : goal.returns-clause-items
returns-clause-items c = ap items_of (turned c) ∙ reversed_items c.args.self.now

pub returns-clause-origins : goal.returns-clause-origins
returns-clause-origins c = ap origins_of (turned c) ∙ reversed_origins c.args.self.now

pub invariant_of-self : goal.invariant_of-self
invariant_of-self c =
    let closed : c.self.inside.have_output ≡ false = rw (← c.self.view_is) at c.requires in
    let b = c.self.inside in
    let settled : HasOrder c.settle.new.self.known (clusters b.info.items) = rw closed at (settled_own b c.settle.new.self.known c.self.invariant (rw c.deref.ensures.value at c.settle.ensures.order)) in
    let known = c.reversed-self-inside.ensures (clusters b.info.items) settled in
    let long = ap length c.reverse.ensures.items ∙ length-reverse b.info.items in
    sound_placed b c.reverse.new.self c.reverse-2.new.self _ c.self.invariant long (ap length c.reverse-2.ensures.items ∙ length-reverse b.pos.items)
    (rw (closed, c.reverse.ensures.items, c.settle.ensures.back, ← clusters_reversed b.info.items) known)
