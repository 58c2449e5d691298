use Rattle.std.proofs.Common.{◌≡◌, take, vec_len}
use Rattle.buffer_unicode_tables.specs.SecondHalves.{HaveSeconds}
use Rattle.buffer_unicode_tables.proofs.second_halves.mark_seconds.Given as goal

-- those so far are marked
abbrev pub invariant-loop-pair : goal.invariant-loop-pair
invariant-loop-pair l = record {
  slots : vec_len l.slots ≡ 1024;
  marked : HaveSeconds l.slots.items (take l.pair-index l.pairs);
}
