use Rattle.std.proofs.Common.{arith, rules, append_assoc}
use Rattle.std.proofs.lemmas.Grind.{common_steps}
use Rattle.buffer_core.proofs.Context.{last_step, last_none, taken_whole, taken_full, before_last}
use Rattle.buffer_core.proofs.buffer.context.last_characters.Goals as goal

pub returns-then-is_full : goal.returns-then-is_full
returns-then-is_full c = taken_full c.loop-c.characters.items _ _ (search rules) c.loop-c.invariant.rest

pub loop-c-preserved : goal.loop-c-preserved
loop-c-preserved c =
    let s = c.in-Some.ensures.steps in
    let known = c.push_character.ensures.scalar in
    let inv = c.loop-c.invariant in
    record {
      can_next = search rules;
      finite = tt;
      utf8 = before_last _ _ _ inv.utf8 s known;
      few = grind (arith, common_steps);
      rest = rw (c.push_character.ensures.items, append_assoc) (rw (last_step _ _ _ inv.utf8 s known) at inv.rest);
    }

pub returns : goal.returns
returns c = taken_whole c.loop-c.characters.items _ _ c.loop-c.invariant.few c.loop-c.invariant.rest (last_none _ c.in-None.ensures.steps.0)
