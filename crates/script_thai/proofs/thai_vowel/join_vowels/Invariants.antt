use Rattle.std.proofs.Common.{◌≡◌, ◌-◌, length}
use Rattle.buffer_core.specs.Sides.{all_glyphs}
use Rattle.script_syllabic.proofs.GraphemesMerged.{AreMerged}
use Rattle.script_thai.specs.ThaiVowel.{vowel_rule}
use Rattle.script_thai.proofs.thai_vowel.join_vowels.Given as goal

abbrev pub invariant-loop-at : goal.invariant-loop-at
invariant-loop-at l = record {
  count : l.count ≡ length (all_glyphs l.buffer);
  merged : AreMerged vowel_rule l.initial.buffer l.at l.buffer;
}

abbrev pub decreases-loop-at : goal.decreases-loop-at
decreases-loop-at l = l.count - l.at
