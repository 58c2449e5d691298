use Rattle.std.proofs.Common.{arith, sym, ◌∙◌, refl}
use Rattle.std.proofs.lemmas.Fn.{says_at_two}
use Rattle.buffer_lists.proofs.Lemmas.Neighbours.{no_glyph, group_begins, group_continues, group_stops, group_ends}
use Rattle.buffer_lists.proofs.groups.end_of_group.Goals as goal

pub loop-end-init : goal.loop-end-init
loop-end-init g c = record {
  passed = omega arith;
  within = omega arith;
  rest = λ joins same. group_begins joins c.args.glyphs.now c.args.start no_glyph c.requires.within;
}

pub loop-end-preserved : goal.loop-end-preserved
loop-end-preserved g c = record {
  passed = omega arith;
  within = omega arith;
  rest = λ joins same. group_continues joins c.args.glyphs.now c.loop-end.end _ no_glyph c.loop-end-test.true (sym (same _ _ c.group.result (says_at_two g.F.Fn c.group.ensures refl)) ∙ c.if-group.true) (c.loop-end.invariant.rest joins same);
}

pub returns-else-group-clause-end : goal.returns-else-group-clause-end
returns-else-group-clause-end g c = λ joins same. group_stops joins c.args.glyphs.now c.loop-end.end _ no_glyph c.loop-end-test.true (sym (same _ _ c.group.result (says_at_two g.F.Fn c.group.ensures refl)) ∙ c.if-group.false) (c.loop-end.invariant.rest joins same)

pub returns-after-loop-end-clause-end : goal.returns-after-loop-end-clause-end
returns-after-loop-end-clause-end g c = λ joins same. group_ends joins c.args.glyphs.now c.loop-end.end _ no_glyph c.loop-end.invariant.within c.loop-end-test.false (c.loop-end.invariant.rest joins same)
