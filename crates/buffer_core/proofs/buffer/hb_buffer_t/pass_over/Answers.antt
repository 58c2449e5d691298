use Rattle.std.proofs.Common.{◌≡◌, ◌∙◌, true, ap, rules, arith}
use Rattle.std.proofs.lemmas.Grind.{common_steps}
use Rattle.buffer_core.specs.Merging.{with_glyph_passed}
use Rattle.buffer_core.specs.Sides.{items_of, origins_of}
use Rattle.buffer_core.proofs.Apart.{skipped_items}
use Rattle.buffer_core.proofs.Deleting.{skipped_view}
use Rattle.buffer_core.proofs.Ordered.{known_skipped}
use Rattle.buffer_core.proofs.buffer.hb_buffer_t.pass_over.Goals as goal
use Rattle.buffer_core.proofs.MergedOrigins.{skipped_origins}

pub returns-clause-skipped : goal.returns-clause-skipped
returns-clause-skipped c = skipped_view c.self.inside c.self.invariant.opened (rw (← c.self.view_is) at c.requires.current.opened) ∙ ap with_glyph_passed c.self.view_is

pub returns-clause-items : goal.returns-clause-items
returns-clause-items c = ap items_of (returns-clause-skipped c) ∙ skipped_items c.args.self.now

pub returns-clause-origins : goal.returns-clause-origins
returns-clause-origins c = ap origins_of (returns-clause-skipped c) ∙ skipped_origins c.args.self.now

pub invariant_of-self : goal.invariant_of-self
invariant_of-self c =
    let b = c.self.inside in
    let open_now : b.have_output ≡ true = rw (← c.self.view_is) at c.requires.current.opened in
    record {
      cursor = first_of (search rules, grind (arith, common_steps));
      opened = omega (arith, c.self.invariant.opened);
      unopened = c.self.invariant.unopened;
      input_within = c.self.invariant.input_within;
      output_within = c.self.invariant.output_within;
      out_len = rw open_now (omega (arith, rw open_now at c.self.invariant.out_len));
      together = c.self.invariant.together;
      placed = c.self.invariant.placed;
      counted = c.self.invariant.counted;
      cleared = c.self.invariant.cleared;
      ordered = known_skipped b open_now c.self.invariant.ordered;
    }
