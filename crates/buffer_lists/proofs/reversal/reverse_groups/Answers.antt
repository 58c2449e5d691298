use Rattle.std.proofs.Common.{◌≡◌, ◌+◌, Bool, arith, ap, subst, sym, List, length, reverse, ◌∙◌}
use Rattle.buffer_glyphs.specs.declared.info.hb_glyph_info_t.{hb_glyph_info_t as Glyph}
use Rattle.buffer_glyphs.specs.Items.{clusters}
use Rattle.buffer_glyphs.specs.Order.{IsOrdered}
use Rattle.buffer_lists.specs.Groups.{group_length}
use Rattle.buffer_lists.specs.Turning.{Turning, turning_of}
use Rattle.buffer_lists.proofs.Lemmas.Turned.{Rest, rest_begins, rest_continues, rest_ends}
use Rattle.buffer_lists.specs.Due.{with_due}
use Rattle.buffer_lists.proofs.Meant.{ahead_as_meant, due_within}
use Rattle.buffer_lists.proofs.Meant.{meant_long}
use Rattle.buffer_lists.proofs.reversal.reverse_groups.Goals as goal
use Rattle.buffer_lists.proofs.reversal.reverse_groups.Goals.{then-merge, else-merge}

pub loop-start-init : goal.loop-start-init
loop-start-init g c =
    let none = c.no_merges-merges.ensures in
    record {
      within = omega arith;
      placed = c.requires.placed;
      known = λ asked sure mono. subst (λ (hs : List Glyph). IsOrdered (clusters hs)) (sym none.with_due) (c.requires.known sure);
      due = none.due;
      plain = λ off. none.none (elim c.if-merge.branch [ then-merge w ↦ let on = w.if-merge.true in cc | else-merge w ↦ w.no_merges-is ∙ off ]);
      rest = λ joins same. subst (λ (hs : List Glyph). Rest c.args.merge c.args.level joins 0 hs c.args.positions.now c.no_merges-merges.result.marked (turning_of c.args.merge c.args.level joins c.args.glyphs.now c.args.positions.now)) (sym none.with_due)
          (subst (λ (m : Bool). Rest c.args.merge c.args.level joins 0 c.args.glyphs.now c.args.positions.now m (turning_of c.args.merge c.args.level joins c.args.glyphs.now c.args.positions.now)) (sym none.marked) (rest_begins c.args.merge c.args.level joins c.args.glyphs.now c.args.positions.now));
    }

pub loop-start-preserved : goal.loop-start-preserved
loop-start-preserved g c =
    let turn = c.turn_group-merges.ensures in
    let inv = c.loop-start.invariant in
    let found = c.end_of_group-end in
    let start = c.loop-start.start in
    let end = found.result in
    let old = c.loop-start.glyphs in
    let new = c.turn_group-merges.new.glyphs in
    let before : length (with_due c.loop-start.merges.due old) ≡ length old = meant_long c.args.level start c.loop-start.merges.due old (omega arith) inv.due in
    let after : length (with_due c.turn_group-merges.result.due new) ≡ length new = meant_long c.args.level end c.turn_group-merges.result.due new (omega (arith, found.ensures.within, c.turn_group-merges.auto.glyphs)) turn.due in
    record {
      within = omega (arith, found.ensures.within);
      placed = omega (arith, inv.placed);
      known = λ asked sure mono. turn.order asked mono (inv.known asked sure mono);
      due = turn.due;
      plain = turn.plain;
      rest = λ joins same. rest_continues c.args.merge c.args.level joins start end (with_due c.loop-start.merges.due old) (with_due c.turn_group-merges.result.due new) c.loop-start.positions c.turn_group-merges.new.positions
          c.loop-start.merges.marked c.turn_group-merges.result.marked (turning_of c.args.merge c.args.level joins c.args.glyphs.now c.args.positions.now) (omega (arith, before, c.loop-start-test.true)) found.ensures.some (omega (arith, before, after, c.turn_group-merges.auto.glyphs))
          (found.ensures.end joins same ∙ ap (λ hs. start + group_length joins hs) (sym (ahead_as_meant start c.loop-start.merges.due old (omega arith) inv.due.1)))
          turn.turned (inv.rest joins same);
    }

pub settle-requires : goal.settle-requires
settle-requires g c = due_within c.args.level c.loop-start.start (length c.loop-start.glyphs) c.loop-start.merges.due c.loop-start.glyphs c.loop-start.invariant.within c.loop-start.invariant.due

pub returns-clause-glyphs : goal.returns-clause-glyphs
returns-clause-glyphs g c = λ joins same.
    let inv = c.loop-start.invariant in
    let long : length (with_due c.loop-start.merges.due c.loop-start.glyphs) ≡ length c.loop-start.glyphs = meant_long c.args.level c.loop-start.start c.loop-start.merges.due c.loop-start.glyphs inv.within inv.due in
    c.reverse.ensures.after ∙ ap reverse c.settle.ensures
    ∙ ap (λ (t : Turning). t.glyphs) (rest_ends c.args.merge c.args.level joins c.loop-start.start (with_due c.loop-start.merges.due c.loop-start.glyphs) c.loop-start.positions c.loop-start.merges.marked _ (omega (arith, long, c.loop-start-test.false)) (omega (arith, long, inv.placed)) (inv.rest joins same))

pub returns-clause-positions : goal.returns-clause-positions
returns-clause-positions g c = λ joins same.
    let inv = c.loop-start.invariant in
    let long : length (with_due c.loop-start.merges.due c.loop-start.glyphs) ≡ length c.loop-start.glyphs = meant_long c.args.level c.loop-start.start c.loop-start.merges.due c.loop-start.glyphs inv.within inv.due in
    c.reverse-2.ensures.after
    ∙ ap (λ (t : Turning). t.positions) (rest_ends c.args.merge c.args.level joins c.loop-start.start (with_due c.loop-start.merges.due c.loop-start.glyphs) c.loop-start.positions c.loop-start.merges.marked _ (omega (arith, long, c.loop-start-test.false)) (omega (arith, long, inv.placed)) (inv.rest joins same))

pub returns-clause-marked : goal.returns-clause-marked
returns-clause-marked g c = λ joins same.
    let inv = c.loop-start.invariant in
    let long : length (with_due c.loop-start.merges.due c.loop-start.glyphs) ≡ length c.loop-start.glyphs = meant_long c.args.level c.loop-start.start c.loop-start.merges.due c.loop-start.glyphs inv.within inv.due in
    ap (λ (t : Turning). t.is_marked) (rest_ends c.args.merge c.args.level joins c.loop-start.start (with_due c.loop-start.merges.due c.loop-start.glyphs) c.loop-start.positions c.loop-start.merges.marked _ (omega (arith, long, c.loop-start-test.false)) (omega (arith, long, inv.placed)) (inv.rest joins same))
