use Rattle.buffer_stages.proofs.Lemmas.Walked.{merge_walked}
use Rattle.buffer_stages.proofs.walks.merge_behind.Goals as goal

pub returns : goal.returns
returns c =
    let m = c.merge_out_clusters.ensures in
    merge_walked c.args.start c.args.end c.args.buffer.now c.merge_out_clusters.new.self m.merged m.items m.origins c.requires.open
