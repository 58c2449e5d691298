use Rattle.buffer_lists.proofs.HandedOn.{handed_clusters, handed_input}
use Rattle.buffer_lists.proofs.over.hand_on.Goals as goal

pub returns-clause-input : goal.returns-clause-input
returns-clause-input c =
    let split = c.split_at_mut-before.ensures in
    handed_input c.args.glyphs.now c.split_at_mut-before.result.0.now c.split_at_mut-before.result.1.now c.args.deleted.now c.hand_on.new.output c.hand_on.new.input c.args.front c.args.from c.requires.apart c.requires.there
    split.front split.back c.hand_on.ensures.output c.hand_on.ensures.input

pub returns-clause-clusters : goal.returns-clause-clusters
returns-clause-clusters c =
    handed_clusters c.args.glyphs.now c.split_at_mut-before.result.0.now c.split_at_mut-before.result.1.now c.args.deleted.now c.hand_on.new.output c.hand_on.new.input c.args.front c.split_at_mut-before.ensures.value
    c.hand_on.ensures.output c.hand_on.ensures.input
