use Rattle.buffer_glyphs.specs.declared.info.hb_glyph_info_t.{hb_glyph_info_t}
use Rattle.buffer_lists.proofs.Lemmas.Neighbours.{run_from, none_from}
use Rattle.buffer_lists.proofs.groups.next_cluster.Goals as goal

pub returns : goal.returns
returns c = run_from (λ (g : hb_glyph_info_t). g.cluster) c.args.start c.front_of_cluster.result c.args.glyphs.now _ c.if-glyphs-start.false c.front_of_cluster.ensures.front

pub returns-then-glyphs-start : goal.returns-then-glyphs-start
returns-then-glyphs-start c = none_from (λ (g : hb_glyph_info_t). g.cluster) c.args.start c.args.glyphs.now c.if-glyphs-start.true
