use Rattle.std.proofs.Common.{◌≡◌, false, ap, ◌∙◌}
use Rattle.buffer_core.specs.Sides.{items_of, origins_of}
use Rattle.buffer_core.specs.Moving.{with_range_reversed}
use Rattle.buffer_core.proofs.Moved.{range_view, range_items, range_origins}
use Rattle.buffer_core.proofs.buffer.hb_buffer_t.reverse_range.Goals as goal

pub returns-clause-turned : goal.returns-clause-turned
returns-clause-turned c =
    let closed : c.self.inside.have_output ≡ false = rw (← c.self.view_is) at c.requires.closed in
    range_view c.self.inside c.turn_glyphs.new.glyphs c.turn_positions.new.positions c.of-self-inside.result c.args.start c.args.end closed c.turn_glyphs.ensures.items c.turn_positions.ensures.items ∙ ap (with_range_reversed c.args.start c.args.end) c.self.view_is

pub returns-clause-items : goal.returns-clause-items
returns-clause-items c = ap items_of (returns-clause-turned c) ∙ range_items c.args.start c.args.end c.args.self.now

pub returns-clause-origins : goal.returns-clause-origins
returns-clause-origins c = ap origins_of (returns-clause-turned c) ∙ range_origins c.args.start c.args.end c.args.self.now c.requires.ordered c.requires.within
