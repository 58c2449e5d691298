use Rattle.std.proofs.Common.{◌≡◌, ◌≤◌, ◌+◌, length, true, false}
use Rattle.buffer_core.specs.Sides.{after_next_glyphs}
use Rattle.buffer_core.proofs.laws.law_walks_in_place.Given as goal

-- the output is still in place, the glyphs that are left are ahead, and so many calls passed so many glyphs
abbrev pub invariant-loop : goal.invariant-loop
invariant-loop l = record {
  opened : l.buffer.is_open ≡ true;
  in_place : l.buffer.is_apart ≡ false;
  left : l.count ≤ length l.buffer.ahead + l.counter;
  moved : l.buffer ≡ after_next_glyphs l.counter l.initial.buffer;
}
