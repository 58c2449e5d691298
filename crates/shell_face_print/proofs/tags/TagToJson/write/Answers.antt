use Rattle.std.proofs.Common.{ℕ, List, sym, subst}
use Rattle.std.specs.Str.{IsUtf8}
use Rattle.shell_face_print.proofs.Printable.{tag_text_is_text}
use Rattle.shell_face_print.proofs.tags.TagToJson.write.Goals as goal

-- a tag as a text is UTF-8
pub returns-in-Err : goal.returns-in-Err
returns-in-Err c =
    let P : List ℕ → Type 0 = λ bytes. IsUtf8 bytes in
    absurd (c.in-Err.ensures.cases.0 (subst P (sym c.tag_text-bytes.ensures) (tag_text_is_text c.args.self.now)))
