use Rattle.shell_face_print.proofs.Appending.{object_four}
use Rattle.shell_face_print.proofs.face.write_font.Goals as goal

-- the keys before `cmap`, and those from it on
pub returns : goal.returns
returns c =
    object_four c.args.text.now c.begin_object.new.self c.write_text.new.text c.write_member.new.text c.write_member-2.new.text c.write_characters.new.text _ _ _ _ _ _ _
    c.in_ok-begin_object.ensures c.in_ok-write_text.ensures c.in_ok-write_member.ensures c.in_ok-write_member-2.ensures c.in_ok-write_characters.ensures
