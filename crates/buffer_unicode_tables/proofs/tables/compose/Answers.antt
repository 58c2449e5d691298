use Rattle.std.proofs.Common.{◌≡◌, None, subst, sym, ◌∙◌}
use Rattle.buffer_unicode_tables.specs.Inside.{tables_in}
use Rattle.buffer_unicode_tables.specs.Tables.{Tables, pair_of}
use Rattle.buffer_unicode_tables.proofs.Seconds.{no_pair}
use Rattle.buffer_unicode_tables.proofs.tables.compose.Goals as goal

pub returns-then-not-may_be_second : goal.returns-then-not-may_be_second
returns-then-not-may_be_second c =
    let t = c.tables.inside in
    let P : Tables → Type 0 = λ u. None ≡ pair_of u c.args.a c.args.b in
    subst P c.tables.view_is (no_pair (tables_in t) t.seconds.slots.items c.args.a c.args.b c.tables.invariant.seconds (sym c.may_be_second.ensures ∙ c.if-not-may_be_second.true) c.in_default.ensures)
