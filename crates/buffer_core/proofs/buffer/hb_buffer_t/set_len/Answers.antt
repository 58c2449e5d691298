use Rattle.std.proofs.Common.{◌≡◌, false, ap, ◌∙◌}
use Rattle.buffer_core.specs.Moving.{with_len}
use Rattle.buffer_core.specs.Sides.{items_of, origins_of}
use Rattle.buffer_core.proofs.Resized.{resized_view, len_items, len_origins}
use Rattle.buffer_core.proofs.buffer.hb_buffer_t.set_len.Goals as goal

pub returns-clause-set : goal.returns-clause-set
returns-clause-set c = λ e.
    let b = c.self.inside in
    let closed : b.have_output ≡ false = rw (← c.self.view_is) at c.requires in
    resized_view b c.resize_lists.new.glyphs c.resize_lists.new.positions c.of-self-inside.result c.min-self-inside.result c.args.n closed c.in_ok-resize_lists.ensures.glyphs_ok c.in_ok-resize_lists.ensures.places_ok c.min-self-inside.ensures
    ∙ ap (with_len c.args.n) c.self.view_is

pub returns-clause-items : goal.returns-clause-items
returns-clause-items c = λ e. ap items_of (returns-clause-set c e) ∙ len_items c.args.n c.args.self.now

pub returns-clause-origins : goal.returns-clause-origins
returns-clause-origins c = λ e. ap origins_of (returns-clause-set c e) ∙ len_origins c.args.n c.args.self.now
