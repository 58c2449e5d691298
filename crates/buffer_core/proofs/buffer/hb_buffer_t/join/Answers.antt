use Rattle.std.proofs.Common.{◌≡◌, ◌+◌, ◌-◌, ◌++◌, not, true, length, take, drop, rules, arith, ap, refl, sym, ◌∙◌}
use Rattle.std.proofs.lemmas.Grind.{common_steps}
use Rattle.std.proofs.lemmas.List.{length-append, length-drop, length-replicate}
use Rattle.buffer_glyphs.specs.Items.{zero_position}
use Rattle.buffer_core.specs.Sides.{zero_positions}
use Rattle.buffer_core.proofs.Cleared.{cleared_as}
use Rattle.buffer_core.proofs.Open.{order_joined, settled_open}
use Rattle.buffer_core.proofs.Room.{joined_within}
use Rattle.buffer_core.proofs.buffer.hb_buffer_t.join.Goals as goal
use Rattle.buffer_core.proofs.Changed.{front_long}

pub invariant_of-self-2 : goal.invariant_of-self-2
invariant_of-self-2 c =
    let b = c.self.inside in
    let open_now : b.have_output ≡ true = rw (← c.self.view_is) at c.requires.open in
    let in_info : b.info.len ≡ length b.info.items = first_of (search rules, grind (arith, common_steps)) in
    let out = take b.out_len b.info.items in
    let ahead = drop b.idx b.info.items in
    let wide = front_long b c.self.invariant open_now in
    let settled = settled_open b c.settle.new.self.known c.self.invariant open_now (λ m n. (rw c.deref.ensures.value at (c.settle.ensures.order m n))) in
    let joined : c.join.new.glyphs.items ≡ out ++ ahead = c.join.ensures in
    let placed : c.resize_positions.new.positions.items ≡ zero_positions (b.out_len + (c.len.result - b.idx)) = c.in_ok-resize_positions.ensures.ok in
    let count : c.len.result ≡ length b.info.items = first_of (search rules, grind (arith, common_steps)) in
    let many : length c.join.new.glyphs.items ≡ b.out_len + (length b.info.items - b.idx) = ap length joined ∙ length-append out ahead ∙ ap (λ k. k + length ahead) wide ∙ ap (λ k. b.out_len + k) (length-drop b.idx b.info.items) in
    let places : length c.resize_positions.new.positions.items ≡ length c.join.new.glyphs.items = ap length placed ∙ length-replicate (b.out_len + (c.len.result - b.idx)) zero_position ∙ ap (λ k. b.out_len + (k - b.idx)) count ∙ sym many in
    let fits = rw (← c.self.view_is, open_now) at c.requires.fits in
    let within = joined_within (not (not b.successful)) out ahead b.max_len fits in
    record {
      cursor = omega arith;
      opened = omega arith;
      unopened = refl;
      input_within = rw joined (omega (arith, within));
      output_within = tt;
      out_len = tt;
      together = refl;
      placed = places;
      counted = places;
      cleared = cleared_as _ placed;
      ordered = rw c.settle.ensures.back (order_joined c.settle.new.self.known b.info.items c.join.new.glyphs.items b.out_len b.idx joined settled);
    }
