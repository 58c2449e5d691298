use Rattle.std.proofs.Common.{sym, ◌∙◌}
use Rattle.script_hangul.proofs.Steps.{several_written}
use Rattle.script_hangul.proofs.performing.merge_written.Goals as goal

pub returns : goal.returns
returns c =
    several_written c.args.merges c.args.action c.args.at c.in-Some.count c.args.buffer.now c.merge_out_grapheme_clusters.new.self c.if-not-merges.false (sym c.written_count.ensures ∙ c.in-Some.is)
    c.merge_out_grapheme_clusters.ensures.merged c.merge_out_grapheme_clusters.ensures.items c.merge_out_grapheme_clusters.ensures.origins c.requires.open
