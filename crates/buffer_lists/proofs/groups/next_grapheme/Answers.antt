use Rattle.buffer_lists.proofs.Lemmas.Neighbours.{no_glyph, grapheme_from}
use Rattle.buffer_lists.proofs.groups.next_grapheme.Goals as goal

pub returns : goal.returns
returns c = grapheme_from c.args.start c.front_of_grapheme.result c.args.glyphs.now no_glyph c.if-glyphs-start.false c.front_of_grapheme.ensures.front
