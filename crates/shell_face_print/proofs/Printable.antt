-- Tags as texts are printable characters of ASCII.
use Rattle.std.proofs.Common.{◌≡◌, ℕ, zero, suc, ◌<◌, Bool, true, false, List, [], ◌∷◌, map, cond, nat_lt, refl, arith, lit<}
use Rattle.std.specs.Str.{IsUtf8, IsAscii}
use Rattle.std.proofs.lemmas.Str.{IsUtf8-from_ascii}
use Rattle.buffer_common.specs.declared.tag.Tag.{Tag}
use Rattle.buffer_common.specs.Tag.{bytes_of}
use Rattle.shell_face_print.specs.Tags.{printable_byte, tag_text}

-- a byte that is printable, or a question mark, is ASCII
byte_ascii : (b : ℕ) → printable_byte b < 128
byte_ascii b = grind arith

-- such bytes are ASCII
bytes_ascii : (bs : List ℕ) → IsAscii (map printable_byte bs)
bytes_ascii [] i = lit< tt
bytes_ascii (b ∷ bs) zero = byte_ascii b
bytes_ascii (b ∷ bs) (suc i) = bytes_ascii bs i

-- a tag as a text is a text
pub tag_text_is_text : (tag : Tag) → IsUtf8 (tag_text tag)
tag_text_is_text tag = IsUtf8-from_ascii (tag_text tag) (bytes_ascii (bytes_of tag))
