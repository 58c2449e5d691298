use Rattle.std.proofs.Common.{◌≡◌, ◌≤◌, ◌++◌, ◌-◌, length, take, drop}
use Rattle.script_khmer.proofs.KhmerScan.{glyphs_formed}
use Rattle.script_khmer.proofs.runs.mask_forms.Given as goal

-- the forms before an index got their masks
abbrev pub invariant-loop-i : goal.invariant-loop-i
invariant-loop-i l =
    (take l.i l.glyphs ++ glyphs_formed l.mask (drop l.i l.glyphs) ≡ glyphs_formed l.mask l.initial.glyphs) × (length l.glyphs ≡ length l.initial.glyphs) × (l.i ≤ length l.glyphs)

abbrev pub decreases-loop-i : goal.decreases-loop-i
decreases-loop-i l = length l.glyphs - l.i
