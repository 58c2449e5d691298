use Rattle.buffer_core.specs.Sides.{with_output}
use Rattle.script_thai.proofs.Vowels.{more}
use Rattle.script_thai.proofs.thai_vowel.split_vowels.Goals as goal

pub loop-left-preserved : goal.loop-left-preserved
loop-left-preserved c =
    more c.loop-left.left c.in_ok-left.field-0 (with_output c.args.buffer.now) c.loop-left.buffer c.pass.new.buffer c.loop-left.invariant c.in_ok-left.ensures.ok
