use Rattle.std.proofs.Common.{refl}
use Rattle.std.specs.Prelude.{is_some}
use Rattle.shell_run.specs.Program.Source.{Input}
use Rattle.shell_font_run.proofs.Sources.{text_read, text_unread}
use Rattle.shell_font_run.proofs.line.run_input.Goals as goal

-- standard input is shaped
pub returns-in-Ok : goal.returns-in-Ok
returns-in-Ok g c =
    let bytes = g.O.Files.bytes c.args.files.now in
    text_read c.args.line.now bytes _ _ _ (g.W.Write.contents c.run_on.new.out) c.args.font.now (is_some c.input-input.result) c.in-Ok.text.items c.run_on.result
    (rw c.requires refl) c.input-input.ensures.asks c.in-Ok.ensures.opened (c.in-Ok.ensures.bytes (bytes Input) c.input-input.ensures.given)
    (rw c.deref.ensures.value at c.run_on.ensures)

-- it can't be read
pub returns-in-Err : goal.returns-in-Err
returns-in-Err g c =
    let bytes = g.O.Files.bytes c.args.files.now in
    let out = g.W.Write.contents c.args.out.now in
    text_unread c.args.line.now bytes _ _ out out c.args.font.now (is_some c.input-input.result) c.in-Err.cause
    (rw c.requires refl) c.input-input.ensures.asks (c.in-Err.ensures.refused (bytes Input) c.input-input.ensures.given)
