use Rattle.shell_face_print.proofs.Texts.{text_of_font}
use Rattle.shell_face_print.proofs.face.print_face.Goals as goal

-- the tokens of the font, printed
pub returns : goal.returns
returns c =
    text_of_font c.new-text.result c.write_font.new.text c.args.face.now c.parts.result.now c.into_bytes.result.items
    c.into_bytes.ensures c.in_ok-write_font.ensures c.new-text.ensures c.parts.ensures
