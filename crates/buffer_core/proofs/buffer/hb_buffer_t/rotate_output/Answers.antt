use Rattle.std.specs.Vec.{with_items}
use Rattle.std.proofs.Common.{◌≡◌, ◌≤◌, ◌+◌, ◌-◌, length, rules, arith, ap, ◌∙◌}
use Rattle.std.proofs.lemmas.Grind.{common_steps}
use Rattle.buffer_core.specs.Inside.{sides_of}
use Rattle.buffer_core.specs.Moving.{with_output_moved, with_range_moved}
use Rattle.buffer_core.proofs.RangeMoves.{moved_length}
use Rattle.buffer_core.proofs.Rotated.{moved_output_view}
use Rattle.buffer_core.proofs.Slices.{all_put}
use Rattle.buffer_core.proofs.buffer.hb_buffer_t.rotate_output.Goals as goal

pub returns : goal.returns
returns c =
    let b = c.self.inside in
    let r = c.requires in
    let n = c.args.middle - c.args.start in
    let k = c.args.end - c.args.middle in
    let in_info : b.info.len ≡ length b.info.items = first_of (search rules, grind (arith, common_steps)) in
    let within : c.args.end ≤ length (sides_of b).behind = rw (← c.self.view_is) at r.within in
    let fits : c.args.start + (n + k) ≤ length (sides_of b).behind = omega (arith, r.begins, r.ordered, within) in
    let there : c.args.end ≤ length b.info.items = first_of (search rules, grind (arith, common_steps)) in
    let put = all_put b.info c.rotate.new.glyphs (with_range_moved c.args.start n k b.info.items) in_info (rw c.deref_mut.ensures.value at c.rotate.ensures) (moved_length c.args.start n k b.info.items (omega (arith, r.begins, r.ordered, there))) in
    moved_output_view b (with_items b.info c.rotate.new.glyphs) c.of-self-inside.result c.args.start n k c.self.invariant fits put ∙ ap (with_output_moved c.args.start n k) c.self.view_is
