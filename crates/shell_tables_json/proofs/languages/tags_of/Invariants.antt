use Rattle.std.proofs.Common.{◌≡◌, drop, length}
use Rattle.serde_json.specs.View.{items_view}
use Rattle.shell_json.specs.Rows.{after}
use Rattle.shell_tables_json.specs.Languages.{tags_in}
use Rattle.shell_tables_json.proofs.languages.tags_of.Given as goal

-- the tags so far, one for each value, and those of what is left
abbrev pub invariant-loop-value : goal.invariant-loop-value
invariant-loop-value l = record {
  tags : tags_in (items_view l.values) ≡ after l.tags.items (tags_in (items_view (drop l.value-index l.values)));
  count : length l.tags.items ≡ l.value-index;
}
