use Rattle.std.proofs.Common.{◌∙◌}
use Rattle.std.specs.Prelude.{is_some}
use Rattle.shape_normalize.proofs.Select.{both_brought, one_left, second_too_many}
use Rattle.shape_normalize.proofs.selecting.put_both.Goals as goal
use Rattle.buffer_facts.proofs.Results.{passed_on}

pub put_unjoined-requires : goal.put_unjoined-requires
put_unjoined-requires g c =
    let left = one_left (g.N.Normalizing.normalizer c.args.by.now) c.args.buffer.now c.put_unexpanded.new.buffer c.requires.there c.in_ok-put_unexpanded.ensures.ok in
    record { current = record { opened = left.0 ∙ c.requires.open; current = left.1 } }

pub returns-in_err-put_unjoined-clause-err : goal.returns-in_err-put_unjoined-clause-err
returns-in_err-put_unjoined-clause-err g c =
    let e = c.in_err-put_unjoined.field-0.0 in
    passed_on c.from_residual-in_err-put_unjoined.result e _ c.from_residual-in_err-put_unjoined.ensures.1
    (second_too_many (g.N.Normalizing.normalizer c.args.by.now) (is_some (g.N.Normalizing.normalizer c.args.by.now).unjoined_glyph) e c.args.buffer.now c.put_unexpanded.new.buffer c.in_ok-put_unexpanded.ensures.ok c.in_err-put_unjoined.ensures.err)

pub returns-clause-ok : goal.returns-clause-ok
returns-clause-ok g c =
    both_brought (g.N.Normalizing.normalizer c.args.by.now) (is_some (g.N.Normalizing.normalizer c.args.by.now).unjoined_glyph) c.args.buffer.now c.put_unexpanded.new.buffer c.put_unjoined.new.buffer c.in_ok-put_unexpanded.ensures.ok c.in_ok-put_unjoined.ensures.ok
