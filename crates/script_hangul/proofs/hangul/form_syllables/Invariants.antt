use Rattle.std.proofs.Common.{◌-◌}
use Rattle.buffer_core.specs.Sides.{with_output}
use Rattle.script_hangul.proofs.Walk.{IsUnderway}
use Rattle.script_hangul.proofs.hangul.form_syllables.Given as goal

-- so many steps are left
abbrev pub invariant-loop : goal.invariant-loop
invariant-loop l = IsUnderway l.merges l.face l.circles (l.count - l.counter) l.start (with_output l.initial.buffer) l.buffer
