use Rattle.std.proofs.Common.{◌≡◌, ◌-◌, ◌≤◌, true, false, Bool, length}
use Rattle.buffer_glyphs.specs.declared.info.hb_glyph_info_t.{hb_glyph_info_t as Glyph}
use Rattle.buffer_glyphs.specs.Items.{clusters}
use Rattle.buffer_glyphs.specs.Order.{IsOrdered}
use Rattle.buffer_glyphs.specs.Levels.{IsMonotone}
use Rattle.buffer_lists.specs.Groups.{Decides}
use Rattle.buffer_lists.specs.declared.due.Due.TheVariants.{Nothing}
use Rattle.buffer_lists.specs.Due.{MayBeDue, with_due}
use Rattle.buffer_lists.specs.Turning.{turning_of}
use Rattle.buffer_lists.proofs.Lemmas.Turned.{Rest}
use Rattle.buffer_lists.proofs.reversal.reverse_groups.Given as goal

-- the groups before `start` were reversed, each in its place
abbrev pub invariant-loop-start : goal.invariant-loop-start
invariant-loop-start g l = record {
  within : l.start ≤ length l.glyphs;
  placed : length l.positions ≡ length l.glyphs;
  known : l.merge ≡ true → l.in_order ≡ true → IsMonotone l.level → IsOrdered (clusters (with_due l.merges.due l.glyphs));
  due : MayBeDue l.level l.start l.merges.due l.glyphs;
  plain : l.merge ≡ false → l.merges.due ≡ Nothing;
  rest : (joins : Glyph → Glyph → Bool) → Decides g.F.Fn l.group joins → Rest l.merge l.level joins l.start (with_due l.merges.due l.glyphs) l.positions l.merges.marked (turning_of l.merge l.level joins l.fn.glyphs l.fn.positions);
}

abbrev pub decreases-loop-start : goal.decreases-loop-start
decreases-loop-start g l = length l.glyphs - l.start
