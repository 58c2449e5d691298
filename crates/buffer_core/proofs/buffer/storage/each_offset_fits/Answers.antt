use Rattle.std.proofs.Common.{◌≡◌, false, true, nat_le, refl, arith, rules}
use Rattle.std.proofs.lemmas.Bool.Decides.{nat_tests}
use Rattle.std.specs.Str.Iter.{char_indices_offset}
use Rattle.buffer_core.proofs.Chars.{utf8_step, offsets_fit_step}
use Rattle.buffer_core.proofs.buffer.storage.each_offset_fits.Goals as goal

pub returns-then-at : goal.returns-then-at
returns-then-at c =
    let s = c.in-Some.ensures.steps in
    let inv = c.loop-at.invariant in
    let late : nat_le (char_indices_offset c.loop-at.at-iterator) 0xFFFF_FFFF ≡ false = grind (arith, nat_tests, s.0, c.if-at.true) in
    rw (← inv.rest, offsets_fit_step _ _ _ _ _ inv.utf8 s.1 s.2, late) refl

pub loop-at-preserved : goal.loop-at-preserved
loop-at-preserved c =
    let s = c.in-Some.ensures.steps in
    let inv = c.loop-at.invariant in
    let early : nat_le (char_indices_offset c.loop-at.at-iterator) 0xFFFF_FFFF ≡ true = grind (arith, nat_tests, s.0, c.if-at.false) in
    let here = offsets_fit_step _ _ _ _ _ inv.utf8 s.1 s.2 in
    record {
      can_next = search rules;
      finite = tt;
      utf8 = utf8_step _ _ _ inv.utf8 s.1;
      rest = rw (here, early) at inv.rest;
    }
