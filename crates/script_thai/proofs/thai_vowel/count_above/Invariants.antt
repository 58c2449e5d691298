use Rattle.std.proofs.Common.{◌≡◌, ◌+◌, ◌-◌, length, take}
use Rattle.buffer_glyphs.specs.Items.{strip}
use Rattle.script_thai.specs.ThaiVowel.{count_above}
use Rattle.script_thai.proofs.thai_vowel.count_above.Given as goal

-- so many at the end are marks above
abbrev pub invariant-loop-i : goal.invariant-loop-i
invariant-loop-i l = count_above (strip l.glyphs) ≡ l.i + count_above (strip (take (length l.glyphs - l.i) l.glyphs))
