use Rattle.std.proofs.Common.{arith, rules, append_assoc}
use Rattle.std.proofs.lemmas.Grind.{common_steps}
use Rattle.buffer_core.proofs.Context.{first_step, first_none, taken_whole, taken_full}
use Rattle.buffer_core.proofs.buffer.context.first_characters.Goals as goal
use Rattle.buffer_core.proofs.Chars.{utf8_step as past_first}

pub returns-then-is_full : goal.returns-then-is_full
returns-then-is_full c = taken_full c.loop-c.characters.items _ _ (search rules) c.loop-c.invariant.rest

pub loop-c-preserved : goal.loop-c-preserved
loop-c-preserved c =
    let s = c.in-Some.ensures.steps in
    let inv = c.loop-c.invariant in
    record {
      can_next = search rules;
      finite = tt;
      utf8 = past_first _ _ _ inv.utf8 s.0;
      few = grind (arith, common_steps);
      rest = rw (c.push.ensures.items, append_assoc) (rw (first_step _ _ _ inv.utf8 s.0) at inv.rest);
    }

pub returns : goal.returns
returns c = taken_whole c.loop-c.characters.items _ _ c.loop-c.invariant.few c.loop-c.invariant.rest (first_none _ c.in-None.ensures.steps.0.0)
