use Rattle.std.proofs.Common.{ℕ, ◌+◌, drop, refl, sym, subst, ◌∙◌}
use Rattle.std.proofs.lemmas.List.{take_rest}
use Rattle.buffer_glyphs.specs.Items.{strip}
use Rattle.buffer_core.specs.Sides.{all_glyphs}
use Rattle.buffer_stages.specs.Stages.{Happens}
use Rattle.script_syllabic.specs.Graphemes.{merge_of}
use Rattle.script_syllabic.proofs.GraphemesMerged.{next_merged, same_count}
use Rattle.script_hangul.specs.Hangul.{jamo_rule}
use Rattle.script_hangul.proofs.hangul.merge_jamo.Goals as goal

pub loop-at-preserved : goal.loop-at-preserved
loop-at-preserved c =
    let font = c.args.face.now in
    let from = c.args.buffer.now in
    let s = c.loop-at.buffer in
    let t = c.merge_grapheme.new.buffer in
    let at = c.loop-at.at in
    let known = c.loop-at.invariant.merged in
    let count = rw (c.info_slice.ensures, take_rest (all_glyphs s) at) at c.count_jamo-apart.ensures.count in
    let happens : Happens (merge_of at (jamo_rule font (strip (drop at (all_glyphs s))))) s t = subst (λ (n : ℕ). Happens (merge_of at n) s t) count c.merge_grapheme.ensures in
    let merged = next_merged (jamo_rule font) from s t at refl happens known in
    record {
      count = c.loop-at.invariant.count ∙ same_count (jamo_rule font) from s at known ∙ sym (same_count (jamo_rule font) from t (at + 1) merged);
      merged = merged;
    }
