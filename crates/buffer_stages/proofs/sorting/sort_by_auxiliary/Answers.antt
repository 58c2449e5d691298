use Rattle.buffer_stages.proofs.SortRewrites.{sort_rewrites}
use Rattle.buffer_stages.proofs.sorting.sort_by_auxiliary.Goals as goal

pub returns : goal.returns
returns c =
    let s = c.in_ok-sort_glyphs.ensures in
    sort_rewrites c.args.start c.args.end c.args.buffer.now c.sort_glyphs.new.buffer c.requires.ready s.sorted c.sort_glyphs.ensures.count s.items s.origins
