use Rattle.std.proofs.Common.{◌≡◌, ◌++◌, map, take, drop, length}
use Rattle.buffer_glyphs.specs.Items.{item_masked, strip}
use Rattle.buffer_glyphs.specs.Origins.{origins, origins_spread, origins_spread_after}
use Rattle.buffer_lists.specs.Flags.{flag_requests_of, before_of}
use Rattle.buffer_lists.proofs.flags.spread_glyph_flags.Given as goal

-- what is left, after what was passed, gives the whole
abbrev pub invariant-loop-at : goal.invariant-loop-at
invariant-loop-at l = record {
  len : length l.glyphs ≡ length l.fn.glyphs;
  items : strip l.glyphs ≡ map (item_masked 0) (take l.at (strip l.fn.glyphs)) ++ drop l.at (strip l.fn.glyphs);
  rest : origins (take l.at l.glyphs) ++ origins_spread_after (flag_requests_of l.asked) (before_of l.before) (origins (drop l.at l.glyphs)) ≡ origins_spread (flag_requests_of l.asked) (origins l.fn.glyphs);
}
