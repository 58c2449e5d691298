use Rattle.script_hangul.proofs.Requested.{formed_by_settings}
use Rattle.script_hangul.proofs.text.preprocess_text.Goals as goal

pub returns : goal.returns
returns c = formed_by_settings c.preprocess_text.result c.args.face.now c.args.buffer.now.flags c.args.buffer.now c.preprocess_text.new.buffer c.preprocess_text.ensures
