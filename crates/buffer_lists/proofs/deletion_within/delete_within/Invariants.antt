use Rattle.std.proofs.Common.{◌≡◌, ◌-◌, Bool, length}
use Rattle.buffer_glyphs.specs.declared.info.hb_glyph_info_t.{hb_glyph_info_t as Glyph}
use Rattle.buffer_lists.specs.DeletionWalk.{AnswersAs, IsWalk, whole_walk, many_steps, walk_at}
use Rattle.buffer_lists.proofs.deletion_within.delete_within.Given as goal

-- what is left to pass, after what was passed, gives the whole
abbrev pub invariant-loop-at : goal.invariant-loop-at
invariant-loop-at g l = record {
  placed : length l.positions ≡ length l.glyphs;
  sound : IsWalk l.in_order l.at l.walk l.glyphs;
  rest : (goes : Glyph → Bool) → AnswersAs g.F.Fn l.filter goes → many_steps l.breaks l.level goes (length l.glyphs - l.at) (walk_at l.at l.walk l.glyphs l.positions) ≡ whole_walk l.breaks l.level goes l.fn.glyphs l.fn.positions;
}
