use Rattle.std.proofs.Common.{◌≤◌, arith, length, sym, ◌∙◌}
use Rattle.script_syllabic.proofs.Marking.{all_marked, marked_by}
use Rattle.script_syllabic.proofs.syllables.set_bytes.Goals as goal

pub loop-start-preserved : goal.loop-start-preserved
loop-start-preserved g c =
    let at = g.P.SyllableIndices.index_of c.args.buffer_indices.now in
    let more = c.next-end.ensures.nonempty in
    let inside = c.next-end.ensures.inside in
    let le : c.loop-start.start ≤ c.next-end.result.0 = omega (arith, more) in
    let first = c.requires.rising c.next-end.result.0 (length c.args.categories.now) inside in
    let last = c.requires.within in
    marked_by (g.S.SyllableSpans.span_of c.args.spans.now c.args.shaper c.args.categories.now) at c.args.shaper (length c.args.categories.now) c.loop-start.index c.loop-start.start c.args.buffer.now c.loop-start.buffer c.set_byte.new.buffer
    c.next-end.result c.buffer_index-from.result c.buffer_index-to.result c.byte_of.result c.loop-start.invariant c.loop-start-test.true c.next-end.ensures.span c.buffer_index-from.ensures c.buffer_index-to.ensures c.byte_of.ensures
    more (c.requires.rising c.loop-start.start c.next-end.result.0 le) (omega (arith, first, last)) (sym c.has_kind.ensures ∙ c.if-not-has_kind.false) c.set_byte.ensures

pub returns-clause-ok : goal.returns-clause-ok
returns-clause-ok g c =
    let ended = c.loop-start-test.false in
    all_marked (g.S.SyllableSpans.span_of c.args.spans.now c.args.shaper c.args.categories.now) (g.P.SyllableIndices.index_of c.args.buffer_indices.now) c.args.shaper (length c.args.categories.now) c.loop-start.index c.loop-start.start c.args.buffer.now c.loop-start.buffer
    c.loop-start.invariant (omega (arith, ended))
