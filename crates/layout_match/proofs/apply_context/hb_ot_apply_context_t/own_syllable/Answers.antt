use Rattle.std.proofs.Common.{sym}
use Rattle.layout_match.specs.Applied.{apply_context_of}
use Rattle.layout_match.proofs.Own.{syllable_there}
use Rattle.layout_match.proofs.apply_context.hb_ot_apply_context_t.own_syllable.Goals as goal

pub returns-then-self : goal.returns-then-self
returns-then-self c = sym (syllable_there (apply_context_of c.args.self.now) c.args.buffer.now.ahead c.cur.result.now c.cur.ensures c.if-self.true)
