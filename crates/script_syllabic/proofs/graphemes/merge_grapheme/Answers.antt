use Rattle.std.proofs.Common.{◌+◌, ◌∷◌, [], arith}
use Rattle.buffer_glyphs.specs.Events.{MergeGrapheme}
use Rattle.buffer_stages.specs.Stages.{Happens}
use Rattle.buffer_stages.proofs.Lemmas.Happened.{end_of_input, grapheme_happens}
use Rattle.script_syllabic.proofs.GraphemesMerged.{many_as_before, some_merged}
use Rattle.script_syllabic.proofs.Strict.{strict_break_happens}
use Rattle.script_syllabic.proofs.graphemes.merge_grapheme.Goals as goal

pub unsafe_to_break_strictly-requires-clause-within : goal.unsafe_to_break_strictly-requires-clause-within
unsafe_to_break_strictly-requires-clause-within c =
    let at = c.args.at in
    let end = at + c.args.count in
    let s = c.args.buffer.now in
    let mid = c.merge_grapheme_clusters.new.self in
    let call = c.merge_grapheme_clusters.ensures in
    let h : Happens (MergeGrapheme at end ∷ []) s mid = grapheme_happens at end s mid call.merged call.items call.origins c.requires.ready in
    let many = many_as_before (MergeGrapheme at end ∷ []) s mid h in
    let within = c.requires.within in
    end_of_input end mid h.ready (omega (arith, many, within))

pub returns : goal.returns
returns c =
    let at = c.args.at in
    let end = at + c.args.count in
    let s = c.args.buffer.now in
    let mid = c.merge_grapheme_clusters.new.self in
    let new = c.unsafe_to_break_strictly.new.self in
    let call = c.merge_grapheme_clusters.ensures in
    let flagged = c.unsafe_to_break_strictly.ensures in
    let h : Happens (MergeGrapheme at end ∷ []) s mid = grapheme_happens at end s mid call.merged call.items call.origins c.requires.ready in
    some_merged at c.args.count s mid new c.if-count-eq0.false h (strict_break_happens at end mid new flagged.marked flagged.items flagged.origins h.ready)
