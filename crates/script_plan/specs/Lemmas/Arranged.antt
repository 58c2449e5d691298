-- Arrangements of a run of marks that keep the parts of a text.
use Rattle.std.proofs.Common.{List, map}
use Rattle.buffer_glyphs.specs.Items.{Item}
use Rattle.buffer_parts.specs.Plainly.{AreSteady}
use Rattle.buffer_parts.specs.Lemmas.Plainly.{steady_count, steady_giving, steady_plain, steady_unturned}
use Rattle.buffer_glyphs.specs.Rewriting.{Arrangement, shifted_event}
use Rattle.buffer_parts.specs.Lemmas.Steady.{shifted_steady}
use Rattle.script_plan.specs.Rules.{IsArrangedInLine}

-- events that leave as many glyphs as there were
pub steady_arranged : (run : List Item) (a : Arrangement) → AreSteady a.events → IsArrangedInLine run a
steady_arranged run a p = record {
  plain = steady_plain a.events p;
  unturned = steady_unturned a.events p;
  giving = steady_giving a.events p;
  counted = λ from n le. steady_count n (map (shifted_event from) a.events) (shifted_steady from a.events p);
}
