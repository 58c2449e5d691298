use Rattle.std.proofs.Common.{◌≡◌, Err, ap, sym}
use Rattle.buffer_unicode.specs.declared.fault.TablesFault.TheVariants.{SplitDepth}
use Rattle.buffer_unicode_tables.specs.Tables.{tables_of}
use Rattle.shell_tables_bytes.proofs.Pushes.{characters_read, was_deep}
use Rattle.shell_tables_bytes.proofs.characters.read_characters.Goals as goal

pub returns-in_err-tables-clause-deep : goal.returns-in_err-tables-clause-deep
returns-in_err-tables-clause-deep c = λ h.
    let given = rw h at c.from_residual-in_err-tables.ensures.1 in
    let fault : c.in_err-tables.field-0.0 ≡ SplitDepth = was_deep _ (sym given) in
    let deep = ap (λ f. Err f) fault in
    (tables_of c.in_ok-rows.rows, characters_read c.args.bytes.now (tables_of c.in_ok-rows.rows) c.in_ok-rows.ensures.ok (c.in_err-tables.ensures.deep_last deep), c.in_err-tables.ensures.deep deep)
