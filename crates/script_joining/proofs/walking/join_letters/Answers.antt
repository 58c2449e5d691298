use Rattle.std.proofs.Common.{arith, ap, ◌∙◌}
use Rattle.script_joining.specs.Joining.{nearest, types_of_characters}
use Rattle.script_joining.proofs.Walked.{all_joined_followed, joining_many, last_there, next_joined, none_joined}
use Rattle.script_joining.proofs.walking.join_letters.Goals as goal

pub returns : goal.returns
returns c =
    let t = c.args.tables.now in
    let past = c.loop-at-test.false in
    let count = c.loop-at.invariant.count in
    all_joined_followed t c.args.masks.now c.args.buffer.now.pre_context c.args.buffer.now.post_context c.nearest_in_context-start.result c.nearest_in_context-after.result c.args.buffer.now c.loop-at.buffer c.form_last.new.buffer
    c.loop-at.at c.loop-at.before c.loop-at.last (omega (arith, past, count))
    (c.nearest_in_context-start.ensures ∙ ap (λ us. nearest (types_of_characters t us)) c.pre_context.ensures)
    (c.nearest_in_context-after.ensures ∙ ap (λ us. nearest (types_of_characters t us)) c.post_context.ensures)
    c.loop-at.invariant.joining c.form_last.ensures
