use Rattle.std.proofs.Common.{ℕ, subst}
use Rattle.buffer_glyphs.specs.Items.{strip}
use Rattle.script_hangul.specs.Steps.{compose_step}
use Rattle.script_hangul.specs.Stepped.{IsStepped}
use Rattle.script_hangul.proofs.Put.{composed_stepped}
use Rattle.script_hangul.proofs.performing.compose.Goals as goal

pub returns-clause-ok : goal.returns-clause-ok
returns-clause-ok c =
    let s = c.args.buffer.now in
    subst (λ (u : ℕ). IsStepped (compose_step c.args.count u (strip s.behind) (strip s.ahead)) c.out_len-at.result s c.compose_front.new.buffer) c.from.ensures
    (composed_stepped c.args.count c.from.result c.out_len-at.result s c.compose_front.new.buffer c.requires.some c.out_len-at.ensures c.in_ok-compose_front.ensures.ok)
