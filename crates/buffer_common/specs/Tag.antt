-- Tags of OpenType: four bytes, read as a number with the first byte highest.
use Rattle.std.specs.Prelude.{ℕ, List, [], ◌∷◌, ◌++◌, map, take, codes}
use Rattle.std.specs.Int.{w32, to_be_bytes, from_be_bytes}
use Rattle.std.specs.Char.{to_ascii_uppercase}
use Rattle.buffer_common.specs.declared.tag.Tag.{Tag}

-- the tag of four bytes
abbrev pub tag_of : List ℕ → Tag
tag_of bytes = record { 0 = from_be_bytes w32 bytes }

-- the four bytes of a tag
abbrev pub bytes_of : Tag → List ℕ
bytes_of tag = to_be_bytes w32 tag.0

-- the tag of a text's first four bytes, filled with spaces; of no text the zero tag
abbrev pub tag_of_text : List ℕ → Tag
tag_of_text [] = record { 0 = 0 }
tag_of_text (first ∷ rest) = tag_of (take 4 ((first ∷ rest) ++ codes "    "))

-- a tag with its small ASCII letters made capitals
abbrev pub uppercase_tag : Tag → Tag
uppercase_tag tag = tag_of (map to_ascii_uppercase (bytes_of tag))
