use Rattle.shape_text.proofs.KnownCharacters.{all_known}
use Rattle.shape_text.proofs.properties.prepare_text.Goals as goal

pub prepare_by_rows-requires-clause-known : goal.prepare_by_rows-requires-clause-known
prepare_by_rows-requires-clause-known c = all_known c.args.tables.now 128 0 c.known_of-first.result c.known_of-first.ensures
