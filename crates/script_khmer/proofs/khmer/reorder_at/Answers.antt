use Rattle.std.proofs.Common.{sym, ap, ◌∙◌}
use Rattle.std.specs.Prelude.{option_map}
use Rattle.buffer_glyphs.specs.Items.{item_of}
use Rattle.script_khmer.proofs.KhmerMoves.{at_none_does}
use Rattle.script_khmer.proofs.khmer.reorder_at.Goals as goal

pub returns-in_default-clause-rewritten : goal.returns-in_default-clause-rewritten
returns-in_default-clause-rewritten c = at_none_does c.args.masks.now c.args.start c.args.end c.args.index c.args.count c.args.buffer.now c.requires.ordered c.requires.within c.requires.ready (sym c.glyph_in.ensures.value ∙ ap (option_map item_of) c.in_default.is)
