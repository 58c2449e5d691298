use Rattle.std.specs.Vec.{with_items}
use Rattle.std.proofs.Common.{◌≡◌, ◌≤◌, ◌+◌, length, rules, arith, ap, ◌∙◌}
use Rattle.std.proofs.lemmas.Grind.{common_steps}
use Rattle.buffer_glyphs.specs.Items.{clusters}
use Rattle.buffer_glyphs.specs.Glyphs.{glyphs_flagged}
use Rattle.buffer_glyphs.specs.Lemmas.Glyphs.{clusters_flagged}
use Rattle.buffer_core.specs.Inside.{sides_of}
use Rattle.buffer_core.specs.Sides.{Sides}
use Rattle.buffer_core.specs.Merging.{index_in_all}
use Rattle.buffer_core.specs.Marking.{with_flagged}
use Rattle.buffer_core.proofs.Changed.{places_within}
use Rattle.buffer_core.proofs.Marked.{flagged_length, flagged_view}
use Rattle.buffer_core.proofs.Ordered.{sound_as_many}
use Rattle.buffer_core.proofs.Slices.{all_put}
use Rattle.buffer_core.proofs.buffer.hb_buffer_t.flag_range.Goals as goal

put : (c : goal.After-self-2-1) → (with_items c.self.inside.info c.flag_within.new.glyphs).items ≡ glyphs_flagged c.args.flags (c.args.start + c.self.inside.gap) (c.args.end + c.self.inside.gap) c.self.inside.info.items
put c =
    let b = c.self.inside in
    let in_info : b.info.len ≡ length b.info.items = first_of (search rules, grind (arith, common_steps)) in
    let ordered : c.args.start + b.gap ≤ c.args.end + b.gap = omega (arith, c.requires.ordered) in
    all_put b.info c.flag_within.new.glyphs (glyphs_flagged c.args.flags (c.args.start + b.gap) (c.args.end + b.gap) b.info.items) in_info (rw c.deref_mut.ensures.value at c.flag_within.ensures) (flagged_length c.args.flags (c.args.start + b.gap) (c.args.end + b.gap) b.info.items ordered)

pub invariant_of-self : goal.invariant_of-self
invariant_of-self c =
    let b = c.self.inside in
    let ordered : c.args.start + b.gap ≤ c.args.end + b.gap = omega (arith, c.requires.ordered) in
    let info = with_items b.info c.flag_within.new.glyphs in
    sound_as_many b info b.order c.add_has_glyph_flags-self-inside.result c.self.invariant (ap length (put c) ∙ flagged_length c.args.flags (c.args.start + b.gap) (c.args.end + b.gap) b.info.items ordered)
    (rw (ap clusters (put c) ∙ clusters_flagged c.args.flags (c.args.start + b.gap) (c.args.end + b.gap) b.info.items ordered) c.self.invariant.ordered)

pub returns : goal.returns
returns c =
    let b = c.self.inside in
    let ends : c.args.end ≤ (sides_of b).read + length (sides_of b).ahead = rw (← c.self.view_is) at c.requires.within in
    record {
      marked = flagged_view b (with_items b.info c.flag_within.new.glyphs) b.order c.args.flags c.args.start c.args.end c.add_has_glyph_flags-self-inside.result c.self.invariant c.requires.ordered
          (places_within b c.args.start c.self.invariant (omega (arith, c.requires.ordered, ends))) (rw (← c.self.view_is) at c.requires.unread) (put c) c.add_has_glyph_flags-self-inside.ensures
          ∙ ap (λ (s : Sides). with_flagged c.args.flags (index_in_all c.args.start s) (index_in_all c.args.end s) s) c.self.view_is;
    }
