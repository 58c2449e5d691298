use Rattle.std.specs.Vec.{with_items}
use Rattle.std.proofs.Common.{◌≡◌, ◌≤◌, ◌+◌, true, length, rules, arith, ap, sym, ◌∙◌}
use Rattle.std.proofs.lemmas.Grind.{common_steps}
use Rattle.buffer_glyphs.specs.Items.{clusters}
use Rattle.buffer_glyphs.specs.Glyphs.{glyphs_marked}
use Rattle.buffer_glyphs.specs.Lemmas.Glyphs.{clusters_marked}
use Rattle.buffer_lists.specs.Known.{is_known}
use Rattle.buffer_core.specs.Inside.{sides_of}
use Rattle.buffer_core.specs.Sides.{Sides}
use Rattle.buffer_core.specs.Merging.{index_in_all, with_has_glyph_flags}
use Rattle.buffer_core.specs.Marking.{with_flagged_apart}
use Rattle.buffer_core.proofs.Changed.{input_after, places_within}
use Rattle.buffer_core.proofs.Marked.{marked_length, marked_view}
use Rattle.buffer_core.proofs.Ordered.{none_lent, range_known, settled_own, sound_as_many}
use Rattle.buffer_core.proofs.Slices.{all_put}
use Rattle.buffer_core.proofs.buffer.hb_buffer_t.mark_range.Goals as goal

pub mark_within-any-requires-clause-known : goal.mark_within-any-requires-clause-known
mark_within-any-requires-clause-known c order =
    let b = c.self.inside in
    let known = settled_own b c.settle.new.self.known c.self.invariant (λ m n. (rw c.deref.ensures.value at (c.settle.ensures.order m n))) in
    let there : is_known c.settle.new.self.known ≡ true = sym c.is_known-in_order.ensures ∙ order in
    rw c.deref_mut.ensures.value (range_known b c.settle.new.self.known (c.args.start + b.gap) (c.args.end + b.gap) (input_after b c.args.start c.self.invariant (rw (← c.self.view_is) at c.requires.unread)) there known)

put : (c : goal.After-self-2-1) → (with_items c.self.inside.info c.mark_within-any.new.glyphs).items ≡ glyphs_marked c.args.flags (c.args.start + c.self.inside.gap) (c.args.end + c.self.inside.gap) c.self.inside.info.items
put c =
    let b = c.self.inside in
    let in_info : b.info.len ≡ length b.info.items = first_of (search rules, grind (arith, common_steps)) in
    let ordered : c.args.start + b.gap ≤ c.args.end + b.gap = omega (arith, c.requires.ordered) in
    all_put b.info c.mark_within-any.new.glyphs (glyphs_marked c.args.flags (c.args.start + b.gap) (c.args.end + b.gap) b.info.items) in_info (rw c.deref_mut.ensures.value at c.mark_within-any.ensures.marked) (marked_length c.args.flags (c.args.start + b.gap) (c.args.end + b.gap) b.info.items ordered)

pub invariant_of-self : goal.invariant_of-self
invariant_of-self c =
    let b = c.self.inside in
    let ordered : c.args.start + b.gap ≤ c.args.end + b.gap = omega (arith, c.requires.ordered) in
    let info = with_items b.info c.mark_within-any.new.glyphs in
    let known = settled_own b c.settle.new.self.known c.self.invariant (λ m n. (rw c.deref.ensures.value at (c.settle.ensures.order m n))) in
    sound_as_many b info c.settle.new.self c.add_has_glyph_flags-self-inside.result c.self.invariant (ap length (put c) ∙ marked_length c.args.flags (c.args.start + b.gap) (c.args.end + b.gap) b.info.items ordered)
    (none_lent b c.settle.new.self.known info c.settle.new.self c.settle.ensures.back (ap clusters (put c) ∙ clusters_marked c.args.flags (c.args.start + b.gap) (c.args.end + b.gap) b.info.items ordered) known)

pub returns : goal.returns
returns c =
    let b = c.self.inside in
    let any = rw c.deref_mut.ensures.value at c.mark_within-any.ensures.any in
    let ends : c.args.end ≤ (sides_of b).read + length (sides_of b).ahead = rw (← c.self.view_is) at c.requires.within in
    let flags = c.add_has_glyph_flags-self-inside.ensures ∙ ap (λ m. with_has_glyph_flags m b.scratch_flags) any in
    record {
      marked = marked_view b (with_items b.info c.mark_within-any.new.glyphs) c.settle.new.self c.args.flags c.args.start c.args.end c.add_has_glyph_flags-self-inside.result c.self.invariant c.requires.ordered
          (places_within b c.args.start c.self.invariant (omega (arith, c.requires.ordered, ends))) (rw (← c.self.view_is) at c.requires.unread) (put c) flags
          ∙ ap (λ (s : Sides). with_flagged_apart c.args.flags (index_in_all c.args.start s) (index_in_all c.args.end s) s) c.self.view_is;
    }
