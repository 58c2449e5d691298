-- Tables that records name by tags (OpenType, chapter 2: script, language system and feature records).
use Rattle.std.specs.Prelude.{ℕ, ◌+◌, ◌==◌, if◌then◌else◌, List, [], ◌∷◌, None, Result, Ok}
use Rattle.std.specs.Ordering.{nat_cmp}
use Rattle.buffer_rows.specs.KeyOrder.{key_order}
use Rattle.font_bytes.specs.declared.fault.TableFault.{TableFault}
use Rattle.font_bytes.specs.Results.{and_then}
use Rattle.font_bytes.specs.Words.{word, long}
use Rattle.font_bytes.specs.Records.{records}
use Rattle.font_common.specs.Offsets.{after}
use Rattle.font_common.specs.Rows.{first_rows}
use Rattle.font_lists.specs.declared.tagged.TagRecord.{TagRecord}

-- where the table at an offset from a base stands, 0 for a null offset
abbrev pub table_offset : ℕ → ℕ → ℕ
table_offset base offset = if offset == 0 then 0 else base + offset

-- a record: a tag at 0, at 4 an offset from a base
abbrev pub tag_record : List ℕ → ℕ → ℕ → TagRecord
tag_record table base at = record { tag = record { 0 = long table at }; at = table_offset base (word table (at + 4)) }

-- the records of an array
abbrev pub tag_records : List ℕ → ℕ → ℕ → ℕ → List TagRecord
tag_records table base at count = records (tag_record table base) 6 at count

-- records by rising tags: of one tag the first
abbrev pub by_tag : List TagRecord → List TagRecord
by_tag rs = first_rows nat_cmp (λ r. r.tag.0) None (key_order (λ r. r.tag.0) rs)

-- the values of the tables of records, one after another in the room that those before them leave
abbrev pub tagged_tables : {A : Type 0} → (ℕ → TagRecord → Result (A × ℕ) TableFault) → ℕ → List TagRecord → Result (List A × ℕ) TableFault
tagged_tables read room [] = Ok ([], room)
tagged_tables read room (r ∷ rs) = and_then (read room r) (λ a. after (a.0 ∷ []) (tagged_tables read a.1 rs))
