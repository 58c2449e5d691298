use Rattle.std.proofs.Common.{◌≡◌, ◌<◌, ◌-◌, ◌∙◌, true, Ok, map, length, slice_get, sym, ap, arith}
use Rattle.std.proofs.lemmas.Grind.{common_steps}
use Rattle.std.specs.Option.{option_copied, option_map}
use Rattle.std.specs.Ordering.{nat_cmp}
use Rattle.std.specs.Cmp.Lexicographic.{slice_cmp}
use Rattle.serde_json.specs.View.{items_view}
use Rattle.shell_json.specs.Rows.{is_above}
use Rattle.buffer_tags.specs.LanguageRows.{row_text}
use Rattle.shell_tables_json.specs.Languages.{language_in, languages_in_order}
use Rattle.shell_tables_json.proofs.Texts.{language_taken, last_text, texts_rise}
use Rattle.shell_tables_json.proofs.languages.read_language_rows.Goals as goal

-- one row more
pub loop-value-preserved : goal.loop-value-preserved
loop-value-preserved c =
    let inside : c.loop-value.value-index < length c.args.values.now = omega arith in
    let last : option_copied c.last.result ≡ slice_get c.loop-value.rows.items (length c.loop-value.rows.items - 1) = rw c.deref.ensures.value at c.last.ensures.value in
    let above : is_above (slice_cmp nat_cmp) (last_text c.loop-value.rows.items) (row_text c.in_ok-row.row) ≡ true =
    ap (λ o. is_above (slice_cmp nat_cmp) (option_map row_text o) (row_text c.in_ok-row.row)) (sym last) ∙ sym c.follows.ensures ∙ c.if-not-follows.false in
    c.loop-value.invariant
    ∙ language_taken c.args.values.now c.loop-value.value-index c.value-item.result c.loop-value.rows.items c.push.new.self.items c.in_ok-row.row
    inside c.value-item.is c.in_ok-row.ensures.ok above c.in_ok-push.ensures.items

-- the texts of the rows rise as those of the list do
pub returns-clause-rising : goal.returns-clause-rising
returns-clause-rising c =
    let read : languages_in_order (items_view c.args.values.now) ≡ Ok (map language_in c.loop-value.rows.items) = grind (arith, common_steps) in
    texts_rise (items_view c.args.values.now) _ read
