use Rattle.std.proofs.Common.{◌+◌, ◌++◌, ◌∙◌, List, ℕ, Result, ap, append_assoc, arith, string_bytes, sym}
use Rattle.std.specs.Prelude.{Option}
use Rattle.std.specs.Option.{option_map}
use Rattle.buffer_glyphs.specs.Parts.{or}
use Rattle.std.proofs.KnownBytes.{Appends-trans}
use Rattle.shell_readers.specs.declared.fault.RunFault.{RunFault}
use Rattle.shell_readers.specs.Input.{input_value}
use Rattle.shell_run.specs.Answer.{lines_in}
use Rattle.shell_run.specs.Lines.{in_line}
use Rattle.shell_run.proofs.LineWriting.{first_more, first_more_of_line, front_then, front_written, line_printed, line_refused, line_pushed, on_any, part_written}
use Rattle.shell_run.proofs.lines.write_text_lines.Goals as goal

pub returns-in_err-fault-clause-front : goal.returns-in_err-fault-clause-front
returns-in_err-fault-clause-front g c =
    let w = c.lines.invariant.written in
    on_any _ _ (front_written _ _ w.0 _ _ w.1 w.2)

pub lines-preserved : goal.lines-preserved
lines-preserved g c =
    let input = input_value c.args.input.now in
    let f : List ℕ → Result (List ℕ) RunFault = lines_in c.args.options.now input.tables input.font in
    let cut = c.in-Some.ensures.line in
    let w = c.lines.invariant.written in
    let wrote = c.in_ok-write_part.ensures.written in
    record {
      kept = c.in_ok-fault.ensures.kept;
      counted = omega (arith, c.in-Some.ensures.shorter, c.lines.invariant.counted);
      written = (
        w.0 ++ wrote.0,
        Appends-trans _ _ _ w.0 wrote.0 w.1 wrote.1,
        part_written _ w.0 (string_bytes c.push_line.new.part) _ wrote.0 (string_bytes c.write_part.new.part)
            (line_pushed _ w.0 (string_bytes c.lines.part) _ _ _ (string_bytes c.push_line.new.part) w.2 (line_printed f c.lines.rest.now c.in-Some.line.now c.in-Some.after.now cut) c.in_ok-fault.ensures.pushed) wrote.2,
      );
      first = first_more _ _ _ _ _ _ c.lines.invariant.first
          (line_refused f (c.lines.number + 1) c.lines.rest.now c.in-Some.line.now c.in-Some.after.now cut)
          (c.first_fault-first.ensures ∙ ap (λ (o : Option RunFault). or c.lines.first (option_map (in_line (c.lines.number + 1)) o)) c.in_ok-fault.ensures.fault);
      of_line = first_more_of_line (c.lines.number + 1) c.lines.first c.in_ok-fault.fault _ c.first_fault-first.ensures c.lines.invariant.of_line c.in_ok-fault.ensures.kind;
    }

pub returns-in_err-write_part-clause-front : goal.returns-in_err-write_part-clause-front
returns-in_err-write_part-clause-front g c =
    let input = input_value c.args.input.now in
    let f : List ℕ → Result (List ℕ) RunFault = lines_in c.args.options.now input.tables input.font in
    let w = c.lines.invariant.written in
    let printed = line_printed f c.lines.rest.now c.in-Some.line.now c.in-Some.after.now c.in-Some.ensures.line in
    on_any _ _ (front_then _ _ _ w.0 (string_bytes c.push_line.new.part) _ _ w.1
    (line_pushed _ w.0 (string_bytes c.lines.part) _ _ _ (string_bytes c.push_line.new.part) w.2 printed c.in_ok-fault.ensures.pushed) c.in_err-write_part.ensures.front)

pub returns-in_err-write_lines-clause-front : goal.returns-in_err-write_lines-clause-front
returns-in_err-write_lines-clause-front g c =
    let w = c.lines.invariant.written in
    on_any _ _ (front_then _ _ _ w.0 (string_bytes c.lines.part) _ _ w.1 w.2 (rw c.as_bytes.ensures.value at c.in_err-write_lines.ensures.front))

pub returns-clause-front : goal.returns-clause-front
returns-clause-front g c =
    let w = c.lines.invariant.written in
    let part = string_bytes c.lines.part in
    front_written _ _ (w.0 ++ part) _ _ (Appends-trans _ _ _ w.0 part w.1 (rw c.as_bytes.ensures.value at c.in_ok-write_lines.ensures.written)) (w.2 ∙ sym (append_assoc w.0 part _))
