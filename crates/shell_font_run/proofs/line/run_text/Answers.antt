use Rattle.std.proofs.Common.{refl, string_bytes}
use Rattle.shell_font_run.proofs.Sources.{text_given}
use Rattle.shell_font_run.proofs.line.run_text.Goals as goal

-- the text is among the words
pub returns-in-Some : goal.returns-in-Some
returns-in-Some g c =
    let asked = g.O.Files.asked c.args.files.now in
    text_given c.args.line.now (g.O.Files.bytes c.args.files.now) asked asked _ (g.W.Write.contents c.run_on.new.out) c.args.font.now (string_bytes c.in-Some.text) c.run_on.result
    (rw c.in-Some.is refl) (rw c.as_bytes.ensures.value at c.run_on.ensures)
