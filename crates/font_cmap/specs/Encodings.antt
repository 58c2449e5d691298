-- The choice among the subtables of cmap (OpenType, chapter 5, cmap, encoding records; HarfBuzz, find_best_subtable).
use Rattle.std.specs.Prelude.{ℕ, ◌+◌, ◌*◌, ◌==◌, ◌&&◌, not, Bool, List, Option, Some, None, find, Result, Ok}
use Rattle.std.specs.Option.{option_or}
use Rattle.font_bytes.specs.declared.fault.TableFault.{TableFault}
use Rattle.font_bytes.specs.Results.{and_then}
use Rattle.font_bytes.specs.Words.{need, word, long}
use Rattle.font_bytes.specs.Records.{records}
use Rattle.font_cmap.specs.declared.encodings.EncodingRecord.{EncodingRecord}
use Rattle.font_cmap.specs.declared.encodings.Encoding.{Encoding}
use Rattle.font_cmap.specs.declared.encodings.Encoding.TheVariants.{Symbol, Unicode, Roman}

-- EncodingRecord: platformID at 0, encodingID at 2, subtableOffset at 4
abbrev pub encoding_record : List ℕ → ℕ → EncodingRecord
encoding_record table at = record { platform = word table at; encoding = word table (at + 2); offset = long table (at + 4) }

-- the encoding records: numTables at 2, the records from 4 on
abbrev pub encoding_records : List ℕ → ℕ → List EncodingRecord
encoding_records table count = records (encoding_record table) 8 4 count

-- whether a record has a platform and an encoding, and a subtable
abbrev pub is_encoding : ℕ → ℕ → EncodingRecord → Bool
is_encoding platform encoding r = r.platform == platform && r.encoding == encoding && not (r.offset == 0)

-- the offset of a record's subtable
abbrev pub subtable_offset : Option EncodingRecord → Option ℕ
subtable_offset None = None
subtable_offset (Some r) = Some r.offset

-- the offset of the first subtable of a platform's encoding
unfoldable pub find_subtable : List ℕ → ℕ → ℕ → ℕ → Option ℕ
find_subtable table count platform encoding = subtable_offset (find (is_encoding platform encoding) (encoding_records table count))

-- the best subtable of Unicode: those of all characters, then those of 16 bits, of each Windows before the platform Unicode
unfoldable pub unicode_subtable : List ℕ → ℕ → Option ℕ
unicode_subtable table count = option_or (find_subtable table count 3 10) (option_or (find_subtable table count 0 6) (option_or (find_subtable table count 0 4)
    (option_or (find_subtable table count 3 1) (option_or (find_subtable table count 0 3) (option_or (find_subtable table count 0 2)
    (option_or (find_subtable table count 0 1) (find_subtable table count 0 0)))))))

-- an encoding with its subtable, else another one
abbrev pub encoded_else : Encoding → Option ℕ → Option (Encoding × ℕ) → Option (Encoding × ℕ)
encoded_else e (Some at) other = Some (e, at)
encoded_else e None other = other

-- the best subtable: the symbol one of Windows, else the best one of Unicode, else Mac Roman
unfoldable pub best_subtable : List ℕ → ℕ → Option (Encoding × ℕ)
best_subtable table count = encoded_else Symbol (find_subtable table count 3 0) (encoded_else Unicode (unicode_subtable table count) (encoded_else Roman (find_subtable table count 1 0) None))

-- how many encoding records there are
unfoldable pub record_count : List ℕ → Result ℕ TableFault
record_count table = and_then (need table 0 4) (λ _. and_then (need table 4 (8 * word table 2)) (λ _. Ok (word table 2)))

-- the subtable that gives characters their glyphs
unfoldable pub chosen_subtable : List ℕ → Result (Option (Encoding × ℕ)) TableFault
chosen_subtable table = and_then (record_count table) (λ count. Ok (best_subtable table count))
