use Rattle.std.proofs.Common.{◌∙◌}
use Rattle.layout_common.proofs.CoverageSearch.{search_covers}
use Rattle.layout_common.proofs.coverage.is_among.Goals as goal

pub returns : goal.returns
returns c = c.is_ok.ensures.value ∙ search_covers c.args.glyph c.args.glyphs.now c.binary_search.result c.requires c.binary_search.ensures.bound c.binary_search.ensures.position
