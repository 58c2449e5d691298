use Rattle.std.proofs.Common.{◌≡◌, ◌≤◌, ◌+◌, ◌∷◌, [], false, length, rules, arith}
use Rattle.std.proofs.lemmas.Grind.{common_steps}
use Rattle.buffer_core.specs.Appended.{IsAppended}
use Rattle.buffer_core.specs.Text.{added_glyph}
use Rattle.buffer_glyphs.specs.Items.{clusters}
use Rattle.buffer_lists.specs.Known.{HasOrder}
use Rattle.buffer_core.proofs.Appended.{appended_sound}
use Rattle.buffer_core.proofs.Ordered.{settled_own}
use Rattle.buffer_core.proofs.buffer.hb_buffer_t.add.Goals as goal

pub invariant_of-self-2 : goal.invariant_of-self-2
invariant_of-self-2 c =
    let b = c.self.inside in
    let closed : b.have_output ≡ false = rw (← c.self.view_is) at c.requires in
    let kept : c.reserve.new.self.items ≡ b.info.items = c.in_ok-reserve.ensures.items in
    let settled : HasOrder c.settle.new.self.known (clusters b.info.items) = rw closed at (settled_own b c.settle.new.self.known c.self.invariant (rw (c.deref.ensures.value, kept) at c.settle.ensures.order)) in
    let known = (rw (c.deref-2.ensures.value, kept) at c.with_last-self-inside.ensures) settled in
    let gs = added_glyph c.args.codepoint c.args.cluster ∷ [] in
    let room : length b.info.items + 1 ≤ b.max_len = grind (arith, common_steps) in
    let appended : IsAppended gs b.info.items b.pos.items c.push-2.new.self.items c.push.new.self.items = record {
      glyphs = first_of (search rules, grind (arith, common_steps));
      positions = first_of (search rules, grind (arith, common_steps));
    } in
    appended_sound b c.push-2.new.self c.push.new.self (record { known = c.with_last-self-inside.result; lent = c.settle.new.self.lent }) gs closed c.self.invariant c.settle.ensures.back known room appended
