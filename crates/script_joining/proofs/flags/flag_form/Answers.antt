use Rattle.std.proofs.Common.{◌+◌}
use Rattle.script_joining.proofs.Marked.{form_flagged, strict_break_happens}
use Rattle.script_joining.proofs.flags.flag_form.Goals as goal

pub returns : goal.returns
returns c =
    let s = c.args.buffer.now in
    let new = c.unsafe_to_break_strictly.new.self in
    let call = c.unsafe_to_break_strictly.ensures in
    form_flagged c.args.before c.args.from c.args.joining c.args.at c.depends_on.result s new c.depends_on.ensures c.if-not-depends_on.false (strict_break_happens c.args.from (c.args.at + 1) s new call.marked call.items call.origins c.requires.ready)
