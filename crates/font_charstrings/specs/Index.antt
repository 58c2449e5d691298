-- INDEX: an array of objects of any lengths (TN 5176, 5; OpenType, CFF2 chapter, where the count has four bytes).
use Rattle.std.specs.Prelude.{ℕ, ◌+◌, ◌-◌, ◌*◌, ◌==◌, ◌||◌, nat_lt, nat_le, Bool, if◌then◌else◌, List, Result, Ok, Err}
use Rattle.font_bytes.specs.declared.fault.TableFault.{TableFault}
use Rattle.font_bytes.specs.declared.fault.TableFault.TheVariants.{Kind, Order, TooLarge}
use Rattle.font_bytes.specs.Results.{and_then}
use Rattle.font_bytes.specs.Words.{need, byte, word, triple, long}
use Rattle.font_charstrings.specs.declared.index.Index.{Index}
use Rattle.font_charstrings.specs.declared.index.Span.{Span}

-- the number of one to four bytes at an offset (Offset: OffSize is its width)
abbrev pub offset_of : List ℕ → ℕ → ℕ → ℕ
offset_of table size at = if size == 1 then byte table at else (if size == 2 then word table at else (if size == 3 then triple table at else (if size == 4 then long table at else 0)))

-- the width of count: Card16 in CFF, uint32 in CFF2
abbrev pub count_width : Bool → ℕ
count_width is_cff2 = if is_cff2 then 4 else 2

-- count
abbrev pub count_of : List ℕ → ℕ → Bool → ℕ
count_of table at is_cff2 = if is_cff2 then long table at else word table at

-- an INDEX without objects
abbrev pub no_objects : Index
no_objects = record { count = 0; size = 1; offsets = 0; base = 0 }

-- the INDEX at an offset: count, offSize, count + 1 offsets, which count from the byte before the objects
unfoldable pub index_at : List ℕ → ℕ → Bool → Result Index TableFault
index_at table at is_cff2 = and_then (need table at (count_width is_cff2)) (λ _.
    if count_of table at is_cff2 == 0 then Ok no_objects
    else and_then (need table (at + count_width is_cff2) 1) (λ _.
    if nat_lt (byte table (at + count_width is_cff2)) 1 || nat_lt 4 (byte table (at + count_width is_cff2)) then Err (Kind at)
    else and_then (need table (at + count_width is_cff2 + 1) ((count_of table at is_cff2 + 1) * byte table (at + count_width is_cff2))) (λ _.
    if nat_lt 4294967295 (at + count_width is_cff2 + (count_of table at is_cff2 + 1) * byte table (at + count_width is_cff2)) then Err TooLarge
    else Ok (record {
      count = count_of table at is_cff2;
      size = byte table (at + count_width is_cff2);
      offsets = at + count_width is_cff2 + 1;
      base = at + count_width is_cff2 + (count_of table at is_cff2 + 1) * byte table (at + count_width is_cff2);
    }))))

-- where the INDEX at an offset ends: after its count if it has no objects, else where its last offset leads
unfoldable pub index_end : List ℕ → ℕ → Bool → Result ℕ TableFault
index_end table at is_cff2 = and_then (index_at table at is_cff2) (λ i.
    if i.count == 0 then and_then (need table at (count_width is_cff2)) (λ _. Ok (at + count_width is_cff2))
    else and_then (need table (i.offsets + i.size * i.count) i.size) (λ _. Ok (i.base + offset_of table i.size (i.offsets + i.size * i.count))))

-- the bytes from one offset to another
abbrev pub span_of : List ℕ → ℕ → ℕ → Result Span TableFault
span_of table at end = if nat_lt end at then Err (Order at) else and_then (need table at (end - at)) (λ _. Ok (record { at = at; end = end }))

-- the bytes of the object with an index
unfoldable pub object : List ℕ → Index → ℕ → Result Span TableFault
object table index number = if nat_le index.count number then Err (Kind index.offsets)
    else and_then (need table (index.offsets + index.size * number) (index.size + index.size)) (λ _.
    span_of table (index.base + offset_of table index.size (index.offsets + index.size * number)) (index.base + offset_of table index.size (index.offsets + index.size * number + index.size)))
