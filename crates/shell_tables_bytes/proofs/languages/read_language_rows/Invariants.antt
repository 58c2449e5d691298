use Rattle.std.proofs.Common.{◌≡◌, ◌+◌, ◌-◌, ◌*◌, ◌++◌, map, None}
use Rattle.font_bytes.specs.Records.{records}
use Rattle.shell_tables_bytes.specs.Languages.{are_languages, checked_record, language_in}
use Rattle.shell_tables_bytes.proofs.Texts.{last_text}
use Rattle.shell_tables_bytes.proofs.languages.read_language_rows.Given as goal

-- the languages so far, and those that are left, are all; what is left is in order after the last one exactly if all are
abbrev pub invariant-loop-index : goal.invariant-loop-index
invariant-loop-index l =
    let left = records (checked_record l.bytes) 26 (l.section.start + 26 * l.index) (l.section.count - l.index) in
    let all = records (checked_record l.bytes) 26 l.section.start l.section.count in
    record {
      done : map language_in l.rows.items ++ map (λ r. r.1) left ≡ map (λ r. r.1) all;
      order : are_languages (last_text l.rows.items) left ≡ are_languages None all;
    }
