use Rattle.std.proofs.Common.{Result, string_bytes}
use Rattle.std.specs.Prelude.{⊤}
use Rattle.shell_font_run.specs.declared.fault.FontRunFault.{FontRunFault}
use Rattle.shell_font_run.specs.Program.{DoesFont, RunsText}
use Rattle.shell_font_run.proofs.Sources.{font_shaped, font_unread, passed_as}
use Rattle.shell_font_run.proofs.line.run_line.Goals as goal

-- the font file can't be read
pub returns-in_err-font : goal.returns-in_err-font
returns-in_err-font g c =
    let line = c.args.line.now in
    let bytes = g.O.Files.bytes c.args.files.now in
    let before = g.O.Files.asked c.args.files.now in
    let after = g.O.Files.asked c.read_font_file.new.files in
    let out = g.W.Write.contents c.args.out.now in
    let P : Result ⊤ FontRunFault → Type 0 = λ r. DoesFont (string_bytes line.font) bytes before after out out (RunsText line bytes out out) r in
    passed_as c.from_residual.result c.in_err-font.field-0.0 P c.from_residual.ensures.1
    (font_unread (string_bytes line.font) bytes before after out (RunsText line bytes out out) c.in_err-font.field-0.0 (rw c.deref.ensures at c.in_err-font.ensures.refused))

-- its bytes are read, and the text is shaped
pub returns : goal.returns
returns g c =
    let line = c.args.line.now in
    let bytes = g.O.Files.bytes c.args.files.now in
    font_shaped (string_bytes line.font) bytes _ (g.O.Files.asked c.read_font_file.new.files) _ _ (g.O.Files.bytes c.read_font_file.new.files) _ line c.in_ok-font.font.items c.run_text.result
    c.in_ok-font.ensures.stays (rw c.deref.ensures at c.in_ok-font.ensures.asks) (rw c.deref.ensures at c.in_ok-font.ensures.bytes)
    (rw c.deref-2.ensures.value at c.run_text.ensures)
