use Rattle.std.proofs.Common.{None, Ok, Some, inr}
use Rattle.std.specs.Io.KnownBytes.{Appends}
use Rattle.std.proofs.lemmas.Result.{IfErr-weaker, on_err_weaker, on_ok_weaker}
use Rattle.shell_readers.specs.Input.{input_value}
use Rattle.shell_fonts.specs.Fonts.{IsFontInput}
use Rattle.shell_run.specs.Run.{AppendsFront}
use Rattle.shell_font_run.specs.Run.{parts_of}
use Rattle.shell_font_run.proofs.FontRuns.{of_answer, some_bytes}
use Rattle.shell_font_run.proofs.running.run_font.Goals as goal

pub returns-clause-written : goal.returns-clause-written
returns-clause-written g c =
    let options = c.args.options.now in
    let input = input_value c.in_ok-input.input in
    let old = g.W.Write.contents c.args.out.now in
    let new = g.W.Write.contents c.write_answer-written.new.out in
    let read : IsFontInput (parts_of options.flags) c.args.font.now c.args.face (Ok input) = rw c.parts_of.ensures at c.in_ok-input.ensures.ok in
    on_ok_weaker c.write_answer-written.result (some_bytes options c.args.face c.args.font.now c.args.text.now input None (λ bytes. Appends old new bytes) read) c.write_answer-written.ensures.written

pub returns-clause-refused : goal.returns-clause-refused
returns-clause-refused g c =
    let options = c.args.options.now in
    let input = input_value c.in_ok-input.input in
    let old = g.W.Write.contents c.args.out.now in
    let new = g.W.Write.contents c.write_answer-written.new.out in
    let read : IsFontInput (parts_of options.flags) c.args.font.now c.args.face (Ok input) = rw c.parts_of.ensures at c.in_ok-input.ensures.ok in
    IfErr-weaker c.write_answer-written.result _ _
    (λ e some of_bytes. some_bytes options c.args.face c.args.font.now c.args.text.now input (Some e) (λ bytes. Appends old new bytes) read (some of_bytes))
    c.write_answer-written.ensures.refused

pub returns-clause-front : goal.returns-clause-front
returns-clause-front g c =
    let options = c.args.options.now in
    let input = input_value c.in_ok-input.input in
    let old = g.W.Write.contents c.args.out.now in
    let new = g.W.Write.contents c.write_answer-written.new.out in
    let read : IsFontInput (parts_of options.flags) c.args.font.now c.args.face (Ok input) = rw c.parts_of.ensures at c.in_ok-input.ensures.ok in
    on_err_weaker c.write_answer-written.result
    (λ front. inr (of_answer options c.args.face c.args.font.now c.args.text.now input (λ bytes. AppendsFront old new bytes) read front))
    c.write_answer-written.ensures.front
