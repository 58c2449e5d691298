use Rattle.std.specs.Vec.{with_items}
use Rattle.std.proofs.Common.{◌≡◌, ◌≤◌, ◌-◌, ◌+◌, true, length, take, drop, refl, rules, arith, ap, ◌∙◌}
use Rattle.std.proofs.lemmas.Grind.{common_steps}
use Rattle.buffer_core.proofs.Open.{backed_sound, order_backed, settled_open}
use Rattle.buffer_core.proofs.Slices.{all_put}
use Rattle.buffer_core.proofs.buffer.hb_buffer_t.pass_back.Goals as goal
use Rattle.buffer_core.proofs.Changed.{front_long}
use Rattle.buffer_facts.proofs.Numbers.{at_most_by_test as within}

pub invariant_of-self : goal.invariant_of-self
invariant_of-self c =
    let b = c.self.inside in
    let open_now : b.have_output ≡ true = rw (← c.self.view_is) at c.requires.open in
    let in_info : b.info.len ≡ length b.info.items = first_of (search rules, grind (arith, common_steps)) in
    let count : length c.deref_mut.result.now ≡ length b.info.items = ap length c.deref_mut.ensures.value in
    let info = with_items b.info c.pass_back.new.glyphs in
    let put : info.items ≡ c.pass_back.new.glyphs = all_put b.info c.pass_back.new.glyphs c.pass_back.new.glyphs in_info refl (c.pass_back.ensures.len ∙ count) in
    let long : length info.items ≡ length b.info.items = ap length put ∙ c.pass_back.ensures.len ∙ count in
    let settled = settled_open b c.settle.new.self.known c.self.invariant open_now (λ m n. (rw c.deref.ensures.value at (c.settle.ensures.order m n))) in
    let at = b.idx - (b.out_len - c.args.i) in
    let output = ap (take c.args.i) put ∙ (rw c.deref_mut.ensures.value at c.pass_back.ensures.output) in
    let input = ap (drop at) put ∙ (rw c.deref_mut.ensures.value at c.pass_back.ensures.input) in
    let wide = front_long b c.self.invariant open_now in
    let there : c.args.i ≤ length (take b.out_len b.info.items) = rw (← c.self.view_is, open_now) at c.requires.there in
    let short : c.args.i ≤ b.out_len = omega (arith, there, wide) in
    let fits = within (length (drop b.idx b.info.items) + (length (take b.out_len b.info.items) - c.args.i)) b.max_len (rw (← c.self.view_is, open_now) at c.requires.room) in
    backed_sound b info c.settle.new.self c.args.i c.min-self-inside.result c.self.invariant open_now short c.min-self-inside.ensures fits long c.settle.ensures.back
    (order_backed c.settle.new.self.known b.info.items info.items b.out_len b.idx c.args.i at short output input settled)
