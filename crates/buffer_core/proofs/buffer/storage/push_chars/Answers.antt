use Rattle.std.proofs.Common.{arith, rules, append_assoc, append-nil}
use Rattle.std.proofs.lemmas.Grind.{common_steps}
use Rattle.buffer_core.proofs.Chars.{utf8_step, added_step, fit_step, count_step, added_none}
use Rattle.buffer_core.proofs.buffer.storage.push_chars.Goals as goal

pub overflow_cast-at : goal.overflow_cast-at
overflow_cast-at c =
    let s = c.in-Some.ensures.steps in
    let inv = c.loop-at.invariant in
    let fit = fit_step _ _ _ _ _ inv.utf8 s.1 s.2 inv.fit in
    omega (arith, fit.0, s.0)

pub unwrap-requires : goal.unwrap-requires
unwrap-requires c =
    let s = c.in-Some.ensures.steps in
    let inv = c.loop-at.invariant in
    let count = count_step _ _ _ inv.utf8 s.1 in
    c.push.ensures.succeeds (omega (arith, count, inv.room))

pub loop-at-preserved : goal.loop-at-preserved
loop-at-preserved c =
    let s = c.in-Some.ensures.steps in
    let inv = c.loop-at.invariant in
    let count = count_step _ _ _ inv.utf8 s.1 in
    let fit = fit_step _ _ _ _ _ inv.utf8 s.1 s.2 inv.fit in
    let here = added_step _ _ _ _ _ inv.utf8 s.1 s.2 in
    let pushed = rw c.unwrap.ensures at c.push.ensures.items in
    let glyph = rw s.0 at c.added.ensures in
    record {
      can_next = search rules;
      finite = tt;
      utf8 = utf8_step _ _ _ inv.utf8 s.1;
      room = grind (arith, common_steps, count, inv.room);
      fit = fit.1;
      rest = rw (pushed, glyph, append_assoc) (rw here at inv.rest);
    }

pub returns : goal.returns
returns c =
    let e = c.in-None.ensures.steps.0 in
    rw (added_none _ _ e, append-nil) at c.loop-at.invariant.rest
