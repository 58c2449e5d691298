use Rattle.std.proofs.Common.{ℕ, ◌+◌, drop, refl, sym, subst, ◌∙◌}
use Rattle.std.proofs.lemmas.List.{take_rest}
use Rattle.buffer_glyphs.specs.Items.{strip}
use Rattle.buffer_core.specs.Sides.{all_glyphs}
use Rattle.buffer_stages.specs.Stages.{Happens}
use Rattle.script_syllabic.specs.Graphemes.{merge_of}
use Rattle.script_syllabic.proofs.GraphemesMerged.{next_merged, same_count}
use Rattle.script_thai.specs.ThaiVowel.{vowel_rule}
use Rattle.script_thai.proofs.thai_vowel.join_vowels.Goals as goal

pub loop-at-preserved : goal.loop-at-preserved
loop-at-preserved c =
    let from = c.args.buffer.now in
    let s = c.loop-at.buffer in
    let t = c.merge_grapheme.new.buffer in
    let at = c.loop-at.at in
    let known = c.loop-at.invariant.merged in
    let count = rw (c.info_slice.ensures, take_rest (all_glyphs s) at) at c.count_joined-joined.ensures.count in
    let happens : Happens (merge_of at (vowel_rule (strip (drop at (all_glyphs s))))) s t = subst (λ (n : ℕ). Happens (merge_of at n) s t) count c.merge_grapheme.ensures in
    let merged = next_merged vowel_rule from s t at refl happens known in
    record {
      count = c.loop-at.invariant.count ∙ same_count vowel_rule from s at known ∙ sym (same_count vowel_rule from t (at + 1) merged);
      merged = merged;
    }
