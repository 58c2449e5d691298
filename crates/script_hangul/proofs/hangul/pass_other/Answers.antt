use Rattle.std.proofs.Common.{length}
use Rattle.std.proofs.lemmas.List.{length-map}
use Rattle.buffer_glyphs.specs.Items.{item_of, strip}
use Rattle.script_hangul.proofs.Fits.{front_fits}
use Rattle.script_hangul.proofs.hangul.pass_other.Goals as goal

pub perform_merged-requires-clause-there : goal.perform_merged-requires-clause-there
perform_merged-requires-clause-there c =
    let s = c.args.buffer.now in
    rw (c.action_on-action.ensures, c.character_at-second.ensures, c.character_at-third.ensures) (front_fits c.args.face.now c.args.u (length s.ahead) (strip s.ahead) (length-map s.ahead item_of) c.requires.current.current)
