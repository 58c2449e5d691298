use Rattle.std.proofs.Common.{◌≡◌, ◌<◌, false, length, sym, ap, ◌∙◌, arith}
use Rattle.std.specs.Prelude.{◌&&◌}
use Rattle.buffer_core.specs.Sides.{all_glyphs, items_of}
use Rattle.buffer_stages.specs.Rewriting.{in_syllables}
use Rattle.buffer_stages.proofs.Lemmas.Syllables.{syllable_end}
use Rattle.script_syllabic.proofs.Seams.{next_seam, same_count, seams_skipped}
use Rattle.script_syllabic.proofs.forms.flag_each_seam.Goals.{then-before, else-before}
use Rattle.script_syllabic.proofs.forms.flag_each_seam.Goals as goal

pub returns-then-not-asks_breaks : goal.returns-then-not-asks_breaks
returns-then-not-asks_breaks c =
    let s = c.args.buffer.now in
    seams_skipped false 0 (in_syllables (items_of s)) s (sym c.asks_breaks.ensures ∙ c.if-not-asks_breaks.true) c.requires.ready

pub loop-start-smaller : goal.loop-start-smaller
loop-start-smaller c =
    let now = c.loop-start.buffer in
    let count = c.len-count.ensures.count c.requires.ready.closed in
    let same = same_count c.args.buffer.now now c.loop-start.start c.loop-start.before c.loop-start.invariant in
    let lt : c.loop-start.start < length (all_glyphs now) = omega (arith, c.loop-start-test.true, count, same) in
    let further = (syllable_end c.loop-start.start c.next_syllable-end.result now lt c.next_syllable-end.ensures).0 in
    omega (arith, further, c.loop-start-test.true)

pub loop-start-preserved : goal.loop-start-preserved
loop-start-preserved c =
    let from = c.args.buffer.now in
    let now = c.loop-start.buffer in
    let before = c.loop-start.before in
    let joined = c.connects_at-connects.result in
    let count = c.len-count.ensures.count c.requires.ready.closed in
    let same = same_count from now c.loop-start.start before c.loop-start.invariant in
    let lt : c.loop-start.start < length (all_glyphs now) = omega (arith, c.loop-start-test.true, count, same) in
    let both : c.if-before.flag_seam ≡ (before && joined) =
    elim c.if-before.branch [
      | then-before w ↦ w.flag_seam-is ∙ ap (λ t. t && joined) (sym w.if-before.true)
      | else-before w ↦ w.flag_seam-is ∙ w.if-before.false ∙ ap (λ t. t && joined) (sym w.if-before.false)
    ] in
    next_seam from now c.flag_seam.new.buffer c.loop-start.start c.next_syllable-end.result before c.if-before.flag_seam joined lt c.next_syllable-end.ensures c.connects_at-connects.ensures both c.flag_seam.ensures c.loop-start.invariant
