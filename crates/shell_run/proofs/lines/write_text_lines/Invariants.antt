use Rattle.std.proofs.Common.{◌≡◌, ◌+◌, ◌≤◌, ◌++◌, List, ℕ, length, string_bytes}
use Rattle.std.specs.Prelude.{IfSome}
use Rattle.std.specs.List.{flat_map}
use Rattle.std.specs.Io.KnownBytes.{Appends}
use Rattle.buffer_glyphs.specs.Parts.{or}
use Rattle.shell_readers.specs.Input.{input_value}
use Rattle.shell_run.specs.Answer.{line_answers}
use Rattle.shell_run.specs.Lines.{IsOfLine, first_fault, printed_or_named}
use Rattle.shell_run.specs.Plans.{HasRunPlan}
use Rattle.shell_run.proofs.lines.write_text_lines.Given as goal

-- some bytes were written, and then come the part that was not written yet and what is left
abbrev pub invariant-lines : goal.invariant-lines
invariant-lines g l = record {
  kept : HasRunPlan l.options l.input l.plan;
  counted : l.number + length l.rest ≤ length l.text;
  written : (done : List ℕ) × Appends (g.W.Write.contents l.initial.out) (g.W.Write.contents l.out) done
      × (flat_map printed_or_named (line_answers l.options (input_value l.input) l.text)
      ≡ done ++ (string_bytes l.part ++ flat_map printed_or_named (line_answers l.options (input_value l.input) l.rest)));
  first : first_fault 1 (line_answers l.options (input_value l.input) l.text)
      ≡ or l.first (first_fault (l.number + 1) (line_answers l.options (input_value l.input) l.rest));
  of_line : IfSome l.first IsOfLine;
}

abbrev pub decreases-lines : goal.decreases-lines
decreases-lines g l = length l.rest
