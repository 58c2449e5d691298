use Rattle.std.proofs.Common.{◌≡◌, ◌+◌, ◌-◌, ◌<◌, ◌≤◌, length, drop, get_or, Bool}
use Rattle.buffer_glyphs.specs.declared.info.hb_glyph_info_t.{hb_glyph_info_t as Glyph}
use Rattle.buffer_lists.specs.Groups.{Decides, joined_count, group_length}
use Rattle.buffer_lists.proofs.Lemmas.Neighbours.{no_glyph}
use Rattle.buffer_lists.proofs.groups.end_of_group.Given as goal

-- what is left of the group after the glyphs that were passed
abbrev pub invariant-loop-end : goal.invariant-loop-end
invariant-loop-end g l = record {
  passed : l.start < l.end;
  within : l.end ≤ length l.glyphs;
  rest : (joins : Glyph → Glyph → Bool) → Decides g.F.Fn l.group joins → l.start + group_length joins (drop l.start l.glyphs) ≡ l.end + joined_count joins (get_or l.glyphs (l.end - 1) no_glyph) (drop l.end l.glyphs);
}

abbrev pub decreases-loop-end : goal.decreases-loop-end
decreases-loop-end g l = length l.glyphs - l.end
