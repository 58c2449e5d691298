use Rattle.std.proofs.Common.{◌==◌, sym, ◌∙◌}
use Rattle.layout_tables.specs.Covers.{items_on}
use Rattle.layout_tables.proofs.Required.{item_decides, item_required}
use Rattle.layout_tables.proofs.covers.collect_nearest_glyph.Goals as goal

pub returns-in-Some-clause-none : goal.returns-in-Some-clause-none
returns-in-Some-clause-none g c = λ is. item_required (λ glyph h. h == glyph) (items_on c.args.side c.args.rule.now) c.in-Some.item.now (sym c.in-Some.ensures)

pub returns-in-Some-clause-added : goal.returns-in-Some-clause-added
returns-in-Some-clause-added g c = λ is h may. c.collect.ensures.added h (sym (item_decides (λ glyph k. k == glyph) (items_on c.args.side c.args.rule.now) c.in-Some.item.now h (sym c.in-Some.ensures)) ∙ may)
