use Rattle.std.proofs.Common.{arith, sym, ◌∙◌}
use Rattle.buffer_glyphs.specs.Items.{item_of}
use Rattle.script_indic_reordering.specs.Final.{final_reordered}
use Rattle.script_indic_reordering.proofs.Lemmas.FinalSteps.{final_does}
use Rattle.script_indic_reordering.proofs.Lemmas.Steps.{kept_does, rule_does}
use Rattle.script_indic_reordering.proofs.final_order.FinalOrderSyllableRule.rewrite.Goals as goal

pub returns-then-not-is_reordered : goal.returns-then-not-is_reordered
returns-then-not-is_reordered c =
    let o = c.args.self.now in
    kept_does (final_reordered o.reph_pos o.masks.pref) c.args.start c.args.end (item_of c.first_glyph-first.result) c.args.buffer.now (omega (arith, c.requires.ordered)) c.requires.ready c.first_glyph-first.ensures (sym c.is_reordered.ensures ∙ c.if-not-is_reordered.true)

pub returns : goal.returns
returns c =
    let o = c.args.self.now in
    let a = c.args in
    let r = c.requires in
    let moved = c.move_reph-base in
    rule_does (final_reordered o.reph_pos o.masks.pref) a.start a.end (item_of c.first_glyph-first.result) a.buffer.now c.move_pref.new.buffer c.first_glyph-first.ensures (sym c.is_reordered.ensures ∙ c.if-not-is_reordered.false)
    (final_does o.reph_pos o.masks.pref a.start a.end c.formed_base-base.result moved.result c.info_slice.result.now a.buffer.now c.move_lefts.new.buffer moved.new.buffer c.move_pref.new.buffer c.info_slice.ensures (omega (arith, r.ordered)) r.within c.formed_base-base.ensures.index c.move_lefts.ensures moved.ensures.rewritten moved.ensures.base c.move_pref.ensures)
