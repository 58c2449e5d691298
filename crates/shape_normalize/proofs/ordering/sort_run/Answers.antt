use Rattle.buffer_glyphs.specs.declared.info.hb_glyph_info_t.{hb_glyph_info_t}
use Rattle.buffer_glyphs.specs.Items.{item_of}
use Rattle.buffer_lists.specs.Sorting.{range_sorted}
use Rattle.buffer_core.specs.Sides.{all_glyphs}
use Rattle.buffer_properties.specs.Characters.{mark_class}
use Rattle.shape_normalize.proofs.Runs.{sort_rearranges, sort_ready}
use Rattle.shape_normalize.proofs.ordering.sort_run.Goals as goal

pub returns-clause-ok : goal.returns-clause-ok
returns-clause-ok c =
    sort_rearranges (range_sorted c.args.buffer.now.level c.args.start c.args.end (λ (g : hb_glyph_info_t). mark_class (item_of g)) (all_glyphs c.args.buffer.now)) c.args.start c.args.end c.args.buffer.now
    c.sort_marks.new.buffer c.requires.ready c.in_ok-sort_marks.ensures.sorted c.sort_marks.ensures.count c.in_ok-sort_marks.ensures.items c.in_ok-sort_marks.ensures.origins

pub returns-clause-ready : goal.returns-clause-ready
returns-clause-ready c =
    sort_ready (range_sorted c.args.buffer.now.level c.args.start c.args.end (λ (g : hb_glyph_info_t). mark_class (item_of g)) (all_glyphs c.args.buffer.now)) c.args.buffer.now c.sort_marks.new.buffer c.requires.ready
    c.in_ok-sort_marks.ensures.sorted c.sort_marks.ensures.count
