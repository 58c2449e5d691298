use Rattle.std.proofs.Common.{◌≡◌, ◌∙◌, sym, arith}
use Rattle.shape_breaks.specs.Texts.{has_property}
use Rattle.shape_breaks.proofs.Indices.{drop_here, first_begins, first_ends, first_found, first_lacks}
use Rattle.shape_breaks.proofs.texts.first_later.Goals as goal

pub loop-i-init : goal.loop-i-init
loop-i-init c = first_begins (has_property c.args.tables.now c.args.property) c.args.text.now

pub loop-i-preserved : goal.loop-i-preserved
loop-i-preserved c =
    sym (first_lacks (has_property c.args.tables.now c.args.property) c.args.text.now c.loop-i.i c.index-text-i.result (drop_here c.args.text.now c.loop-i.i c.index-text-i.result (omega arith) c.index-text-i.is) (sym c.has_property.ensures ∙ c.if-has_property.false))
    ∙ c.loop-i.invariant

pub returns-then-has_property : goal.returns-then-has_property
returns-then-has_property c =
    sym (first_found (has_property c.args.tables.now c.args.property) c.args.text.now c.loop-i.i c.index-text-i.result (drop_here c.args.text.now c.loop-i.i c.index-text-i.result (omega arith) c.index-text-i.is) (sym c.has_property.ensures ∙ c.if-has_property.true))
    ∙ c.loop-i.invariant

pub returns : goal.returns
returns c = sym (first_ends (has_property c.args.tables.now c.args.property) c.args.text.now c.loop-i.i (omega arith)) ∙ c.loop-i.invariant
