use Rattle.std.proofs.Common.{rules, ◌≡◌, ◌≢◌, Err, refl}
use Rattle.serde_json.specs.View.{view}
use Rattle.shell_json.specs.declared.fault.JsonFault.TheVariants.{OutOfMemory}
use Rattle.shell_tables_json.specs.Unicode.{tables_keys}
use Rattle.shell_tables_json.proofs.Keys.{then_read, not_read}
use Rattle.shell_tables_json.proofs.unicode.read_records.Goals as goal

-- the fault of a key comes after the keys before it, which could be read
pub returns-in_err-read_rows_at-2-clause-refused : goal.returns-in_err-read_rows_at-2-clause-refused
returns-in_err-read_rows_at-2-clause-refused c =
    let refused : c.in_err-read_rows_at-2.field-0.0 ≢ OutOfMemory → tables_keys (view c.args.value.now) ≡ Err c.in_err-read_rows_at-2.field-0.0 =
    λ n. (then_read _ c.in_ok-read_rows_at.ensures.ok (not_read _ (c.in_err-read_rows_at-2.ensures.refused n))) in
    search (rules, refused)

pub returns-in_err-read_rows_at-3-clause-refused : goal.returns-in_err-read_rows_at-3-clause-refused
returns-in_err-read_rows_at-3-clause-refused c =
    let refused : c.in_err-read_rows_at-3.field-0.0 ≢ OutOfMemory → tables_keys (view c.args.value.now) ≡ Err c.in_err-read_rows_at-3.field-0.0 =
    λ n. (then_read _ c.in_ok-read_rows_at.ensures.ok (then_read _ c.in_ok-read_rows_at-2.ensures.ok (not_read _ (c.in_err-read_rows_at-3.ensures.refused n)))) in
    search (rules, refused)

pub returns-in_err-read_rows_at-4-clause-refused : goal.returns-in_err-read_rows_at-4-clause-refused
returns-in_err-read_rows_at-4-clause-refused c =
    let refused : c.in_err-read_rows_at-4.field-0.0 ≢ OutOfMemory → tables_keys (view c.args.value.now) ≡ Err c.in_err-read_rows_at-4.field-0.0 =
    λ n. (then_read _ c.in_ok-read_rows_at.ensures.ok (then_read _ c.in_ok-read_rows_at-2.ensures.ok (then_read _ c.in_ok-read_rows_at-3.ensures.ok (not_read _ (c.in_err-read_rows_at-4.ensures.refused n))))) in
    search (rules, refused)

pub returns-in_err-read_rows_at-5-clause-refused : goal.returns-in_err-read_rows_at-5-clause-refused
returns-in_err-read_rows_at-5-clause-refused c =
    let refused : c.in_err-read_rows_at-5.field-0.0 ≢ OutOfMemory → tables_keys (view c.args.value.now) ≡ Err c.in_err-read_rows_at-5.field-0.0 =
    λ n. (then_read _ c.in_ok-read_rows_at.ensures.ok (then_read _ c.in_ok-read_rows_at-2.ensures.ok (then_read _ c.in_ok-read_rows_at-3.ensures.ok (then_read _ c.in_ok-read_rows_at-4.ensures.ok (not_read _ (c.in_err-read_rows_at-5.ensures.refused n)))))) in
    search (rules, refused)

pub returns-in_err-read_rows_at-6-clause-refused : goal.returns-in_err-read_rows_at-6-clause-refused
returns-in_err-read_rows_at-6-clause-refused c =
    let refused : c.in_err-read_rows_at-6.field-0.0 ≢ OutOfMemory → tables_keys (view c.args.value.now) ≡ Err c.in_err-read_rows_at-6.field-0.0 =
    λ n. (then_read _ c.in_ok-read_rows_at.ensures.ok (then_read _ c.in_ok-read_rows_at-2.ensures.ok (then_read _ c.in_ok-read_rows_at-3.ensures.ok (then_read _ c.in_ok-read_rows_at-4.ensures.ok (then_read _ c.in_ok-read_rows_at-5.ensures.ok (not_read _ (c.in_err-read_rows_at-6.ensures.refused n))))))) in
    search (rules, refused)

pub returns-in_err-read_rows_at-7-clause-refused : goal.returns-in_err-read_rows_at-7-clause-refused
returns-in_err-read_rows_at-7-clause-refused c =
    let refused : c.in_err-read_rows_at-7.field-0.0 ≢ OutOfMemory → tables_keys (view c.args.value.now) ≡ Err c.in_err-read_rows_at-7.field-0.0 =
    λ n. (then_read _ c.in_ok-read_rows_at.ensures.ok (then_read _ c.in_ok-read_rows_at-2.ensures.ok (then_read _ c.in_ok-read_rows_at-3.ensures.ok (then_read _ c.in_ok-read_rows_at-4.ensures.ok (then_read _ c.in_ok-read_rows_at-5.ensures.ok (then_read _ c.in_ok-read_rows_at-6.ensures.ok (not_read _ (c.in_err-read_rows_at-7.ensures.refused n)))))))) in
    search (rules, refused)

pub returns-in_err-read_rows_at-8-clause-refused : goal.returns-in_err-read_rows_at-8-clause-refused
returns-in_err-read_rows_at-8-clause-refused c =
    let refused : c.in_err-read_rows_at-8.field-0.0 ≢ OutOfMemory → tables_keys (view c.args.value.now) ≡ Err c.in_err-read_rows_at-8.field-0.0 =
    λ n. (then_read _ c.in_ok-read_rows_at.ensures.ok (then_read _ c.in_ok-read_rows_at-2.ensures.ok (then_read _ c.in_ok-read_rows_at-3.ensures.ok (then_read _ c.in_ok-read_rows_at-4.ensures.ok (then_read _ c.in_ok-read_rows_at-5.ensures.ok (then_read _ c.in_ok-read_rows_at-6.ensures.ok (then_read _ c.in_ok-read_rows_at-7.ensures.ok (not_read _ (c.in_err-read_rows_at-8.ensures.refused n))))))))) in
    search (rules, refused)

pub returns-in_err-read_rows_at-9-clause-refused : goal.returns-in_err-read_rows_at-9-clause-refused
returns-in_err-read_rows_at-9-clause-refused c =
    let refused : c.in_err-read_rows_at-9.field-0.0 ≢ OutOfMemory → tables_keys (view c.args.value.now) ≡ Err c.in_err-read_rows_at-9.field-0.0 =
    λ n. (then_read _ c.in_ok-read_rows_at.ensures.ok (then_read _ c.in_ok-read_rows_at-2.ensures.ok (then_read _ c.in_ok-read_rows_at-3.ensures.ok (then_read _ c.in_ok-read_rows_at-4.ensures.ok (then_read _ c.in_ok-read_rows_at-5.ensures.ok (then_read _ c.in_ok-read_rows_at-6.ensures.ok (then_read _ c.in_ok-read_rows_at-7.ensures.ok (then_read _ c.in_ok-read_rows_at-8.ensures.ok (not_read _ (c.in_err-read_rows_at-9.ensures.refused n)))))))))) in
    search (rules, refused)

pub returns-in_err-read_rows_at-10-clause-refused : goal.returns-in_err-read_rows_at-10-clause-refused
returns-in_err-read_rows_at-10-clause-refused c =
    let refused : c.in_err-read_rows_at-10.field-0.0 ≢ OutOfMemory → tables_keys (view c.args.value.now) ≡ Err c.in_err-read_rows_at-10.field-0.0 =
    λ n. (then_read _ c.in_ok-read_rows_at.ensures.ok (then_read _ c.in_ok-read_rows_at-2.ensures.ok (then_read _ c.in_ok-read_rows_at-3.ensures.ok (then_read _ c.in_ok-read_rows_at-4.ensures.ok (then_read _ c.in_ok-read_rows_at-5.ensures.ok (then_read _ c.in_ok-read_rows_at-6.ensures.ok (then_read _ c.in_ok-read_rows_at-7.ensures.ok (then_read _ c.in_ok-read_rows_at-8.ensures.ok (then_read _ c.in_ok-read_rows_at-9.ensures.ok (not_read _ (c.in_err-read_rows_at-10.ensures.refused n))))))))))) in
    search (rules, refused)

-- each key could be read
pub returns-clause-ok : goal.returns-clause-ok
returns-clause-ok c = (then_read _ c.in_ok-read_rows_at.ensures.ok (then_read _ c.in_ok-read_rows_at-2.ensures.ok (then_read _ c.in_ok-read_rows_at-3.ensures.ok (then_read _ c.in_ok-read_rows_at-4.ensures.ok (then_read _ c.in_ok-read_rows_at-5.ensures.ok (then_read _ c.in_ok-read_rows_at-6.ensures.ok (then_read _ c.in_ok-read_rows_at-7.ensures.ok (then_read _ c.in_ok-read_rows_at-8.ensures.ok (then_read _ c.in_ok-read_rows_at-9.ensures.ok (then_read _ c.in_ok-read_rows_at-10.ensures.ok refl))))))))))
