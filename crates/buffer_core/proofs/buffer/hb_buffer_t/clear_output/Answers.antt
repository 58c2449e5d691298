use Rattle.std.proofs.Common.{◌≡◌, false, rules, arith}
use Rattle.std.proofs.lemmas.Grind.{common_steps}
use Rattle.buffer_core.proofs.Ordered.{known_opened}
use Rattle.buffer_core.proofs.buffer.hb_buffer_t.clear_output.Goals as goal

pub invariant_of-self : goal.invariant_of-self
invariant_of-self c =
    let b = c.self.inside in
    let closed : b.have_output ≡ false = rw (← c.self.view_is) at c.requires in
    record {
      cursor = omega arith;
      opened = first_of (search rules, grind (arith, common_steps));
      unopened = first_of (search rules, grind (arith, common_steps));
      input_within = first_of (search rules, grind (arith, common_steps));
      output_within = omega arith;
      out_len = omega arith;
      together = tt;
      placed = tt;
      counted = c.self.invariant.counted;
      cleared = c.self.invariant.cleared;
      ordered = known_opened b closed c.self.invariant.ordered;
    }
