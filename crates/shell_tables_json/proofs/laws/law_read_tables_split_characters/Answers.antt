use Rattle.shell_tables_json.proofs.Split.{read_tables_split_characters}
use Rattle.shell_tables_json.proofs.laws.law_read_tables_split_characters.Goals as goal

pub returns : goal.returns
returns c = read_tables_split_characters
