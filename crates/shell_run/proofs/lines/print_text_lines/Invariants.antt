use Rattle.std.proofs.Common.{◌≡◌, ◌+◌, ◌≤◌, ◌++◌, length, string_bytes}
use Rattle.shell_readers.specs.Input.{input_value}
use Rattle.std.specs.List.{flat_map}
use Rattle.shell_run.specs.Answer.{line_answers}
use Rattle.shell_run.specs.Lines.{first_fault, printed_or_named}
use Rattle.shell_run.specs.Plans.{HasRunPlan}
use Rattle.shell_run.proofs.lines.print_text_lines.Given as goal

-- the lines so far were printed, and what is left
abbrev pub invariant-lines : goal.invariant-lines
invariant-lines l = record {
  kept : HasRunPlan l.options l.input l.plan;
  counted : l.number + length l.rest ≤ length l.text;
  printed : flat_map printed_or_named (line_answers l.options (input_value l.input) l.text)
      ≡ string_bytes l.printed ++ flat_map printed_or_named (line_answers l.options (input_value l.input) l.rest);
  faultless : first_fault 1 (line_answers l.options (input_value l.input) l.text)
      ≡ first_fault (l.number + 1) (line_answers l.options (input_value l.input) l.rest);
}

abbrev pub decreases-lines : goal.decreases-lines
decreases-lines l = length l.rest
