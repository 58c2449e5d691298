use Rattle.std.proofs.Common.{arith, ap, ◌∙◌, ◌≤◌, length}
use Rattle.buffer_lists.specs.DeletionWalk.{DeletionState}
use Rattle.buffer_lists.proofs.Walking.{settled_front}
use Rattle.buffer_lists.proofs.Passing.{passes_on, passes_begin, passes_end}
use Rattle.buffer_lists.proofs.deletion_within.delete_within.Goals as goal

pub loop-at-init : goal.loop-at-init
loop-at-init g c = record {
  placed = c.requires.placed;
  sound = record { few = omega arith; due = tt; known = c.requires.known };
  rest = λ goes same. passes_begin c.args.breaks c.args.level goes c.args.glyphs.now c.args.positions.now;
}

pub loop-at-preserved : goal.loop-at-preserved
loop-at-preserved g c =
    let inv = c.loop-at.invariant in
    record {
      placed = omega (arith, inv.placed);
      sound = c.pass_glyph-walk.ensures.sound;
      rest = λ goes same. passes_on c.args.breaks c.args.level goes c.loop-at.at c.loop-at.walk c.pass_glyph-walk.result c.loop-at.glyphs c.pass_glyph-walk.new.glyphs c.loop-at.positions c.pass_glyph-walk.new.positions _
          (omega arith) (omega arith) (c.pass_glyph-walk.ensures.passed goes same) (inv.rest goes same);
    }

pub returns-clause-within : goal.returns-clause-within
returns-clause-within g c = omega (arith, c.loop-at.invariant.sound.few)

pub returns-clause-glyphs : goal.returns-clause-glyphs
returns-clause-glyphs g c = λ goes same.
    let few : c.loop-at.walk.kept ≤ length c.loop-at.glyphs = omega (arith, c.loop-at.invariant.sound.few) in
    settled_front c.loop-at.walk.due c.loop-at.walk.kept c.loop-at.glyphs c.settle.new.glyphs few c.settle.ensures ∙ ap (λ (w : DeletionState). w.kept) (passes_end c.args.breaks c.args.level goes c.loop-at.at c.loop-at.walk c.loop-at.glyphs c.loop-at.positions _ (omega arith) (c.loop-at.invariant.rest goes same))

pub returns-clause-positions : goal.returns-clause-positions
returns-clause-positions g c = λ goes same. ap (λ (w : DeletionState). w.kept_positions) (passes_end c.args.breaks c.args.level goes c.loop-at.at c.loop-at.walk c.loop-at.glyphs c.loop-at.positions _ (omega arith) (c.loop-at.invariant.rest goes same))

pub returns-clause-marked : goal.returns-clause-marked
returns-clause-marked g c = λ goes same. ap (λ (w : DeletionState). w.is_marked) (passes_end c.args.breaks c.args.level goes c.loop-at.at c.loop-at.walk c.loop-at.glyphs c.loop-at.positions _ (omega arith) (c.loop-at.invariant.rest goes same))
