use Rattle.std.proofs.Common.{◌≡◌, ◌∙◌, ◌+◌, if◌then◌else◌, Some, sym, ap, arith, drop}
use Rattle.std.specs.Option.{option_or}
use Rattle.shape_breaks.specs.Texts.{has_property, last_index}
use Rattle.shape_breaks.proofs.Indices.{drop_here, last_begins, last_ends, last_next, moved}
use Rattle.shape_breaks.proofs.texts.last_index.Goals as goal

pub loop-i-init : goal.loop-i-init
loop-i-init c = last_begins (has_property c.args.tables.now c.args.property) c.args.text.now

pub loop-i-preserved : goal.loop-i-preserved
loop-i-preserved c =
    let p = has_property c.args.tables.now c.args.property in
    let us = c.args.text.now in
    let i = c.loop-i.i in
    ap (option_or (moved (i + 1) (last_index p (drop (i + 1) us)))) (c.index_if-last.ensures ∙ ap (λ b. if b then Some i else c.loop-i.last) c.has_property.ensures)
    ∙ (sym (last_next p us i c.index-text-i.result c.loop-i.last (drop_here us i c.index-text-i.result (omega arith) c.index-text-i.is)) ∙ c.loop-i.invariant)

pub returns : goal.returns
returns c = sym (last_ends (has_property c.args.tables.now c.args.property) c.args.text.now c.loop-i.i c.loop-i.last (omega arith)) ∙ c.loop-i.invariant
