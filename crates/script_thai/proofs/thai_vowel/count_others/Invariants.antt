use Rattle.std.proofs.Common.{◌≡◌, ◌<◌, true, take}
use Rattle.std.specs.Prelude.{not}
use Rattle.std.specs.List.{list_all}
use Rattle.buffer_glyphs.specs.Items.{strip}
use Rattle.script_thai.specs.ThaiVowel.{is_sara_am}
use Rattle.script_thai.proofs.thai_vowel.count_others.Given as goal

-- the characters before an index are no such vowels
abbrev pub invariant-loop-i : goal.invariant-loop-i
invariant-loop-i l = (list_all (λ x. not (is_sara_am x)) (take l.i (strip l.buffer.ahead)) ≡ true) × (0 < l.i)
