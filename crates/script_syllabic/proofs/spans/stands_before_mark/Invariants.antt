use Rattle.std.proofs.Common.{◌≡◌, drop}
use Rattle.buffer_glyphs.specs.Items.{strip}
use Rattle.script_syllabic.specs.Spans.{precedes_mark}
use Rattle.script_syllabic.proofs.spans.stands_before_mark.Given as goal

-- the rest is before a mark where the whole is
abbrev pub invariant-loop-next : goal.invariant-loop-next
invariant-loop-next l = precedes_mark (strip (drop l.next-index l.behind)) ≡ precedes_mark (strip l.behind)
