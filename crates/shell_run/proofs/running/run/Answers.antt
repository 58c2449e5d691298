use Rattle.std.proofs.Common.{ℕ, List, [], Ok, Some, None, inr}
use Rattle.std.specs.Io.KnownBytes.{Appends}
use Rattle.std.proofs.KnownBytes.{Appends-nil}
use Rattle.std.proofs.lemmas.Result.{IfErr-weaker}
use Rattle.shell_readers.specs.declared.fault.RunFault.{RunFault}
use Rattle.shell_readers.specs.declared.fault.RunFault.TheVariants.{OutOfMemory, Write}
use Rattle.shell_readers.specs.Input.{IsInput, input_value}
use Rattle.shell_run.specs.Answer.{IsAnswer}
use Rattle.shell_run.specs.Run.{AppendsFront, OfAnswer, SomeBytes}
use Rattle.shell_run.proofs.Runs.{no_read_limit, not_memory, of_answer, on_any_of_bytes, on_any_ok, on_known, on_ok, on_this, refused, some_bytes}
use Rattle.shell_run.proofs.running.run.Goals as goal
use Rattle.buffer_facts.proofs.Results.{passed_on}

pub returns-in_err-input-clause-refused : goal.returns-in_err-input-clause-refused
returns-in_err-input-clause-refused g c =
    let fault : RunFault = c.in_err-input.field-0.0 in
    let options = c.args.options in
    let out = g.W.Write.contents c.args.out.now in
    let P : List ℕ → List ℕ → List ℕ → Type 0 = λ ts fs xs. SomeBytes (IsAnswer options ts fs xs) (Some fault) (Appends out out) in
    passed_on c.from_residual-in_err-input.result fault _ c.from_residual-in_err-input.ensures.1
    (λ bytes. on_known P _ _ _ c.in_ok-tables.tables.items c.in_ok-font.font.items c.in_ok-text.text.items c.in_ok-tables.ensures.bytes c.in_ok-font.ensures.bytes c.in_ok-text.ensures.bytes
    ([], refused options _ _ _ fault (rw (c.deref.ensures.value, c.deref-2.ensures.value) at (c.in_err-input.ensures.refused (not_memory fault bytes))), Appends-nil out))

pub returns-clause-written : goal.returns-clause-written
returns-clause-written g c =
    let options = c.args.options in
    let old = g.W.Write.contents c.args.out.now in
    let new = g.W.Write.contents c.write_answer-written.new.out in
    let P : List ℕ → List ℕ → List ℕ → Type 0 = λ ts fs xs. SomeBytes (IsAnswer options ts fs xs) None (Appends old new) in
    let read : IsInput c.in_ok-tables.tables.items c.in_ok-font.font.items (Ok (input_value c.in_ok-input.input)) = rw (c.deref.ensures.value, c.deref-2.ensures.value) at c.in_ok-input.ensures.ok in
    on_ok c.write_answer-written.result _ _
    (λ some. on_known P _ _ _ c.in_ok-tables.tables.items c.in_ok-font.font.items c.in_ok-text.text.items c.in_ok-tables.ensures.bytes c.in_ok-font.ensures.bytes c.in_ok-text.ensures.bytes
    (some_bytes options _ _ _ (input_value c.in_ok-input.input) None (Appends old new) read some))
    (rw c.deref-3.ensures.value at c.write_answer-written.ensures.written)

pub returns-clause-refused : goal.returns-clause-refused
returns-clause-refused g c =
    let options = c.args.options in
    let old = g.W.Write.contents c.args.out.now in
    let new = g.W.Write.contents c.write_answer-written.new.out in
    let read : IsInput c.in_ok-tables.tables.items c.in_ok-font.font.items (Ok (input_value c.in_ok-input.input)) = rw (c.deref.ensures.value, c.deref-2.ensures.value) at c.in_ok-input.ensures.ok in
    IfErr-weaker c.write_answer-written.result _ _
    (λ e some bytes.
    let P : List ℕ → List ℕ → List ℕ → Type 0 = λ ts fs xs. SomeBytes (IsAnswer options ts fs xs) (Some e) (Appends old new) in
    on_known P _ _ _ c.in_ok-tables.tables.items c.in_ok-font.font.items c.in_ok-text.text.items c.in_ok-tables.ensures.bytes c.in_ok-font.ensures.bytes c.in_ok-text.ensures.bytes
    (some_bytes options _ _ _ (input_value c.in_ok-input.input) (Some e) (Appends old new) read (some bytes)))
    (rw c.deref-3.ensures.value at c.write_answer-written.ensures.refused)

-- after a fault of writing, a front of the answer
pub returns-clause-write_last : goal.returns-clause-write_last
returns-clause-write_last g c same =
    let options = c.args.options in
    let old = g.W.Write.contents c.args.out.now in
    let new = g.W.Write.contents c.write_answer-written.new.out in
    let P : List ℕ → List ℕ → List ℕ → Type 0 = λ ts fs xs. OfAnswer (IsAnswer options ts fs xs) (AppendsFront old new) in
    let read : IsInput c.in_ok-tables.tables.items c.in_ok-font.font.items (Ok (input_value c.in_ok-input.input)) = rw (c.deref.ensures.value, c.deref-2.ensures.value) at c.in_ok-input.ensures.ok in
    on_known P _ _ _ c.in_ok-tables.tables.items c.in_ok-font.font.items c.in_ok-text.text.items c.in_ok-tables.ensures.bytes c.in_ok-font.ensures.bytes c.in_ok-text.ensures.bytes
    (of_answer options _ _ _ (input_value c.in_ok-input.input) (AppendsFront old new) read (on_this c.write_answer-written.result Write _ same (rw c.deref-3.ensures.value at c.write_answer-written.ensures.front)))

-- for want of memory
pub returns-clause-no_memory : goal.returns-clause-no_memory
returns-clause-no_memory g c same =
    let options = c.args.options in
    let old = g.W.Write.contents c.args.out.now in
    let new = g.W.Write.contents c.write_answer-written.new.out in
    let P : List ℕ → List ℕ → List ℕ → Type 0 = λ ts fs xs. OfAnswer (IsAnswer options ts fs xs) (AppendsFront old new) in
    let read : IsInput c.in_ok-tables.tables.items c.in_ok-font.font.items (Ok (input_value c.in_ok-input.input)) = rw (c.deref.ensures.value, c.deref-2.ensures.value) at c.in_ok-input.ensures.ok in
    inr (on_known P _ _ _ c.in_ok-tables.tables.items c.in_ok-font.font.items c.in_ok-text.text.items c.in_ok-tables.ensures.bytes c.in_ok-font.ensures.bytes c.in_ok-text.ensures.bytes
    (of_answer options _ _ _ (input_value c.in_ok-input.input) (AppendsFront old new) read (on_this c.write_answer-written.result OutOfMemory _ same (rw c.deref-3.ensures.value at c.write_answer-written.ensures.front))))

-- the readers are at their ends, whatever is written
pub returns-clause-tables_ended : goal.returns-clause-tables_ended
returns-clause-tables_ended g c = on_any_ok c.write_answer-written.result _ c.in_ok-tables.ensures.ended

pub returns-clause-font_ended : goal.returns-clause-font_ended
returns-clause-font_ended g c = on_any_ok c.write_answer-written.result _ c.in_ok-font.ensures.ended

pub returns-clause-text_ended : goal.returns-clause-text_ended
returns-clause-text_ended g c = on_any_ok c.write_answer-written.result _ c.in_ok-text.ensures.ended

pub returns-clause-refused_tables : goal.returns-clause-refused_tables
returns-clause-refused_tables g c = on_any_of_bytes c.write_answer-written.result _ c.in_ok-tables.ensures.ended

pub returns-clause-refused_font : goal.returns-clause-refused_font
returns-clause-refused_font g c = on_any_of_bytes c.write_answer-written.result _ c.in_ok-font.ensures.ended

pub returns-clause-refused_text : goal.returns-clause-refused_text
returns-clause-refused_text g c = on_any_of_bytes c.write_answer-written.result _ c.in_ok-text.ensures.ended

pub returns-clause-read_limit : goal.returns-clause-read_limit
returns-clause-read_limit g c same = absurd (no_read_limit c.write_answer-written.result c.write_answer-written.ensures.kind same)
