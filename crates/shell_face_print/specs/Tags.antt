-- Tags as texts. A text of JSON has tags of printable characters of ASCII alone.
use Rattle.std.specs.Prelude.{ℕ, Bool, if◌then◌else◌, List, map}
use Rattle.std.specs.List.{list_all, filter}
use Rattle.serde_json.specs.Data.{Data, string}
use Rattle.shell_json.specs.Items.{is_printable}
use Rattle.buffer_common.specs.declared.tag.Tag.{Tag}
use Rattle.buffer_common.specs.Tag.{bytes_of}

-- whether the four bytes of a tag are printable characters
abbrev pub is_printable_tag : Tag → Bool
is_printable_tag tag = list_all is_printable (bytes_of tag)

-- a printable byte, or a question mark
abbrev pub printable_byte : ℕ → ℕ
printable_byte byte = if is_printable byte then byte else 63

-- a tag as a text
abbrev pub tag_text : Tag → List ℕ
tag_text tag = map printable_byte (bytes_of tag)

-- a tag as a JSON value
abbrev pub tag_json : Tag → Data
tag_json tag = string (tag_text tag)

-- of records that are found by tags those whose tags are printable
abbrev pub printable_records : {A : Type 0} → (A → ℕ) → List A → List A
printable_records tag_of records = filter (λ r. is_printable_tag (record { 0 = tag_of r })) records
