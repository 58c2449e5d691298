use Rattle.std.proofs.Common.{◌≡◌, ℕ, ◌+◌, ◌*◌, ◌-◌, ◌++◌, [], ◌∷◌, ap, ◌∙◌, arith, rules}
use Rattle.std.specs.Prelude.{Ok}
use Rattle.std.proofs.lemmas.List.{append-nil}
use Rattle.std.proofs.lemmas.Result.{err_from_is_err_and}
use Rattle.font_bytes.specs.Words.{word}
use Rattle.font_bytes.specs.Records.{records}
use Rattle.font_common.specs.Offsets.{after, tables_in, value_at_offset}
use Rattle.font_bytes.proofs.Recorded.{records_more, records_end}
use Rattle.font_common.proofs.Tables.{table_done, table_refused}
use Rattle.font_contexts.specs.Rules.{empty_rule, rule_at}
use Rattle.font_contexts.proofs.RuleSets.{after_refused}
use Rattle.font_contexts.proofs.sets.push_rules.Goals as goal

pub loop-index-preserved : goal.loop-index-preserved
loop-index-preserved c =
    let bytes = c.args.table.now in
    let reader = c.args.reader in
    let read = λ (r : ℕ) (o : ℕ). value_at_offset (empty_rule reader.first) (rule_at reader.chained reader.lookup_count reader.first) r bytes c.args.base o in
    let done = c.loop-index.rules.items in
    let room = c.loop-index.room.left in
    let index = c.loop-index.index in
    let next = records (word bytes) 2 (c.args.base + 2 + 2 * (index + 1)) (c.args.count - (index + 1)) in
    let more = records_more (word bytes) 2 (c.args.base + 2) c.args.count index (omega arith) in
    let offset : c.from-offset.result ≡ word bytes (c.args.base + 2 + 2 * index) = cc (c.from-offset.ensures, c.word.ensures) in
    let value = rw offset at c.in_ok-rule.ensures.ok in
    let step = table_done read done room c.read_at_offset.new.room.left (word bytes (c.args.base + 2 + 2 * index)) next c.in_ok-rule.rule value in
    let pushed : c.push.new.self.items ≡ done ++ c.in_ok-rule.rule ∷ [] = search rules in
    record { all = rw pushed (c.loop-index.invariant.all ∙ (ap (λ os. after done (tables_in read room os)) more ∙ step)) }

pub returns-clause-ok : goal.returns-clause-ok
returns-clause-ok c =
    let bytes = c.args.table.now in
    let reader = c.args.reader in
    let read = λ (r : ℕ) (o : ℕ). value_at_offset (empty_rule reader.first) (rule_at reader.chained reader.lookup_count reader.first) r bytes c.args.base o in
    let done = c.loop-index.rules.items in
    let room = c.loop-index.room.left in
    let end = records_end (word bytes) 2 (c.args.base + 2) c.args.count c.loop-index.index (omega arith) in
    c.loop-index.invariant.all ∙ (ap (λ os. after done (tables_in read room os)) end ∙ ap (λ xs. Ok (xs, room)) (append-nil done))

pub returns-in_err-rule-clause-refused : goal.returns-in_err-rule-clause-refused
returns-in_err-rule-clause-refused c =
    let p = err_from_is_err_and c.from_residual-in_err-rule.result c.from_residual-in_err-rule.ensures.1 in
    let bytes = c.args.table.now in
    let reader = c.args.reader in
    let read = λ (r : ℕ) (o : ℕ). value_at_offset (empty_rule reader.first) (rule_at reader.chained reader.lookup_count reader.first) r bytes c.args.base o in
    let done = c.loop-index.rules.items in
    let room = c.loop-index.room.left in
    let index = c.loop-index.index in
    let next = records (word bytes) 2 (c.args.base + 2 + 2 * (index + 1)) (c.args.count - (index + 1)) in
    let more = records_more (word bytes) 2 (c.args.base + 2) c.args.count index (omega arith) in
    let offset : c.from-offset.result ≡ word bytes (c.args.base + 2 + 2 * index) = cc (c.from-offset.ensures, c.word.ensures) in
    let refused = rw offset at c.in_err-rule.ensures.refused in
    rw (p.1, p.2) (λ other.
    let step = table_refused read done room (word bytes (c.args.base + 2 + 2 * index)) next _ (refused other) in
    after_refused c.args.rules.now.items _ _ (c.loop-index.invariant.all ∙ (ap (λ os. after done (tables_in read room os)) more ∙ step)))
