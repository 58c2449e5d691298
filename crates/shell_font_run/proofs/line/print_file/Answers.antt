use Rattle.std.proofs.Common.{◌≡◌, Err, Ok, Result}
use Rattle.std.specs.Prelude.{⊤}
use Rattle.shell_run.specs.Lines.{Answer}
use Rattle.shell_font_run.specs.declared.fault.FontRunFault.{FontRunFault}
use Rattle.shell_font_run.specs.Program.{DoesFont, PrintsFont, fault_of_run, is_of_writing}
use Rattle.shell_font_run.specs.Run.{font_answer}
use Rattle.shell_font_run.proofs.Ends.{ends_by, ends_well}
use Rattle.shell_font_run.proofs.Sources.{font_printed, font_unread, passed_as}
use Rattle.shell_font_run.proofs.line.print_file.Goals as goal

-- the font file can't be read
pub returns-in_err-font : goal.returns-in_err-font
returns-in_err-font g c =
    let bytes = g.O.Files.bytes c.args.files.now in
    let before = g.O.Files.asked c.args.files.now in
    let after = g.O.Files.asked c.read_font_file.new.files in
    let out = g.W.Write.contents c.args.out.now in
    let P : Result ⊤ FontRunFault → Type 0 = λ r. DoesFont c.args.name.now bytes before after out out (PrintsFont c.args.face out out) r in
    passed_as c.from_residual.result c.in_err-font.field-0.0 P c.from_residual.ensures.1
    (font_unread c.args.name.now bytes before after out (PrintsFont c.args.face out out) c.in_err-font.field-0.0 c.in_err-font.ensures.refused)

-- it is printed
pub returns-in-Ok : goal.returns-in-Ok
returns-in-Ok g c =
    let font = c.in_ok-font.font.items in
    let ends = ends_well (λ (answer : Answer). answer ≡ font_answer c.args.face c.deref.result.now) is_of_writing _ _ c.in-Ok.ensures.written in
    font_printed c.args.name.now (g.O.Files.bytes c.args.files.now) _ _ _ (g.W.Write.contents c.print_font.new.out) c.args.face font (Ok tt)
    c.in_ok-font.ensures.asks c.in_ok-font.ensures.bytes (rw c.deref.ensures.value at ends)

-- its bytes, or writing, are at fault
pub returns : goal.returns
returns g c =
    let font = c.in_ok-font.font.items in
    let ends = ends_by (λ (answer : Answer). answer ≡ font_answer c.args.face c.deref.result.now) is_of_writing _ _ c.in-Err.cause c.in-Err.ensures.refused c.in-Err.ensures.front c.in-Err.ensures.kept in
    rw c.fault_of_run.ensures
    (font_printed c.args.name.now (g.O.Files.bytes c.args.files.now) _ _ _ (g.W.Write.contents c.print_font.new.out) c.args.face font (Err (fault_of_run c.in-Err.cause))
    c.in_ok-font.ensures.asks c.in_ok-font.ensures.bytes (rw c.deref.ensures.value at ends))
