use Rattle.shell_face_json.proofs.FaceFits.{keys_fit}
use Rattle.shell_face_json.proofs.text.face.read_by_keys.Goals as goal

-- the text has a value, whose keys gave the parts
pub new-requires : goal.new-requires
new-requires c =
    let there = c.in_ok-take_parts.ensures in
    keys_fit there.0 c.in_ok-take_parts.field-0 there.3
