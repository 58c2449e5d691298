use Rattle.std.proofs.Common.{◌≡◌, drop, map}
use Rattle.std.specs.Ordering.{nat_cmp}
use Rattle.std.specs.Cmp.Lexicographic.{slice_cmp}
use Rattle.serde_json.specs.View.{items_view}
use Rattle.shell_json.specs.Rows.{after, is_above, rows_after}
use Rattle.shell_tables_json.specs.Languages.{language, language_in, languages_in_order}
use Rattle.shell_tables_json.proofs.Texts.{last_text}
use Rattle.shell_tables_json.proofs.languages.read_language_rows.Given as goal

-- the rows so far, and those of what is left
abbrev pub invariant-loop-value : goal.invariant-loop-value
invariant-loop-value l = languages_in_order (items_view l.values)
    ≡ after (map language_in l.rows.items) (rows_after (is_above (slice_cmp nat_cmp)) (λ x. x.0) language (last_text l.rows.items) (items_view (drop l.value-index l.values)))
