use Rattle.std.proofs.Common.{Err, false, ◌≡◌, ◌+◌, ◌-◌, ◌*◌, ◌<◌, ◌∙◌, true, length, slice_get, sym, ap, arith}
use Rattle.std.proofs.lemmas.Result.{err_from_is_err_and}
use Rattle.std.specs.Option.{option_copied, option_map}
use Rattle.std.specs.Ordering.{nat_cmp}
use Rattle.std.specs.Cmp.Lexicographic.{slice_cmp}
use Rattle.buffer_rows.specs.Keys.{is_above}
use Rattle.buffer_tags.specs.LanguageRows.{row_text}
use Rattle.font_bytes.proofs.Recorded.{records_more}
use Rattle.shell_tables_bytes.specs.Languages.{Language, checked_record, is_language, language_record}
use Rattle.shell_tables_bytes.proofs.Texts.{languages_read, languages_refused, languages_rise, last_text, no_language, no_order, one_more, still_in_order}
use Rattle.shell_tables_bytes.proofs.languages.read_language_rows.Goals as goal

pub loop-index-preserved : goal.loop-index-preserved
loop-index-preserved c =
    let at = c.in_ok-section.section.start + 26 * c.loop-index.index in
    let inside : c.loop-index.index < c.in_ok-section.section.count = omega arith in
    let left = records_more (checked_record c.args.bytes.now) 26 c.in_ok-section.section.start c.in_ok-section.section.count c.loop-index.index inside in
    let last : option_copied c.last.result ≡ slice_get c.loop-index.rows.items (length c.loop-index.rows.items - 1) = rw c.deref.ensures.value at c.last.ensures.value in
    let above : is_above (slice_cmp nat_cmp) (last_text c.loop-index.rows.items) (row_text c.in_ok-row.row) ≡ true =
    ap (λ o. is_above (slice_cmp nat_cmp) (option_map row_text o) (row_text c.in_ok-row.row)) (sym last) ∙ sym c.follows.ensures ∙ c.if-not-follows.false in
    record {
      done = one_more c.loop-index.rows.items c.push.new.self.items c.in_ok-row.row _ _ _ (is_language c.args.bytes.now at) (language_record c.args.bytes.now at)
          left c.in_ok-row.ensures.ok c.in_ok-push.ensures.items c.loop-index.invariant.done;
      order = still_in_order c.loop-index.rows.items c.push.new.self.items c.in_ok-row.row _ _ _ (is_language c.args.bytes.now at) (language_record c.args.bytes.now at)
          left c.in_ok-row.ensures.ok c.in_ok-push.ensures.items c.in_ok-row.ensures.fit above c.loop-index.invariant.order;
    }

pub returns-clause-ok : goal.returns-clause-ok
returns-clause-ok c =
    languages_read c.args.bytes.now c.in_ok-section.section.start c.in_ok-section.section.count c.loop-index.index c.loop-index.rows.items (omega arith) c.loop-index.invariant.done c.loop-index.invariant.order
    c.in_ok-section.ensures.start c.in_ok-section.ensures.count c.in_ok-section.ensures.inside

pub returns-clause-rising : goal.returns-clause-rising
returns-clause-rising c =
    languages_rise c.args.bytes.now c.in_ok-section.section.start c.in_ok-section.section.count c.loop-index.index c.loop-index.rows.items (omega arith) c.loop-index.invariant.done c.loop-index.invariant.order

pub returns-in_err-row-clause-refused : goal.returns-in_err-row-clause-refused
returns-in_err-row-clause-refused c =
    let p = err_from_is_err_and c.from_residual-in_err-row.result c.from_residual-in_err-row.ensures.1 in
    rw (p.1, p.2) (λ n.
    let at = c.in_ok-section.section.start + 26 * c.loop-index.index in
    let inside : c.loop-index.index < c.in_ok-section.section.count = omega arith in
    let left = records_more (checked_record c.args.bytes.now) 26 c.in_ok-section.section.start c.in_ok-section.section.count c.loop-index.index inside in
    let refused = c.in_err-row.ensures.refused n in
    languages_refused c.args.bytes.now c.in_ok-section.section.start c.in_ok-section.section.count c.in_ok-section.ensures.start c.in_ok-section.ensures.count c.in_ok-section.ensures.inside
    (no_language (last_text c.loop-index.rows.items) _ _ _ (is_language c.args.bytes.now at) (language_record c.args.bytes.now at) left refused.1 c.loop-index.invariant.order)
    ∙ ap (λ e. Err e) (sym refused.0))

pub returns-then-not-follows-clause-refused : goal.returns-then-not-follows-clause-refused
returns-then-not-follows-clause-refused c = λ n.
    let at = c.in_ok-section.section.start + 26 * c.loop-index.index in
    let inside : c.loop-index.index < c.in_ok-section.section.count = omega arith in
    let left = records_more (checked_record c.args.bytes.now) 26 c.in_ok-section.section.start c.in_ok-section.section.count c.loop-index.index inside in
    let last : option_copied c.last.result ≡ slice_get c.loop-index.rows.items (length c.loop-index.rows.items - 1) = rw c.deref.ensures.value at c.last.ensures.value in
    let under : is_above (slice_cmp nat_cmp) (last_text c.loop-index.rows.items) (row_text c.in_ok-row.row) ≡ false =
    ap (λ o. is_above (slice_cmp nat_cmp) (option_map row_text o) (row_text c.in_ok-row.row)) (sym last) ∙ sym c.follows.ensures ∙ c.if-not-follows.true in
    languages_refused c.args.bytes.now c.in_ok-section.section.start c.in_ok-section.section.count c.in_ok-section.ensures.start c.in_ok-section.ensures.count c.in_ok-section.ensures.inside
    (no_order (last_text c.loop-index.rows.items) _ _ _ (is_language c.args.bytes.now at) (language_record c.args.bytes.now at) (row_text c.in_ok-row.row) left
    (ap (λ (l : Language). l.0) c.in_ok-row.ensures.ok) c.in_ok-row.ensures.fit under c.loop-index.invariant.order)
