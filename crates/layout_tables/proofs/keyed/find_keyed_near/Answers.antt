use Rattle.std.proofs.Common.{Some, sym, ap, ◌∙◌}
use Rattle.buffer_rows.proofs.DenseSlots.{guessed_number}
use Rattle.layout_tables.proofs.keyed.find_keyed_near.Goals as goal

pub returns-in-Some : goal.returns-in-Some
returns-in-Some g c =
    let found = c.in-Some.ensures.lookup in
    ap Some found.1 ∙ guessed_number g.R.Keyed.key_of c.args.records.now c.args.key c.args.guess c.in-Some.record.now c.requires found.3.0 (ap g.R.Keyed.key_of (sym found.1) ∙ sym c.key.ensures ∙ c.if-key.true)
