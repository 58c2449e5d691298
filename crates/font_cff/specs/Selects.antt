-- FDSelect: the font DICT of each glyph (TN 5176, 19; OpenType, CFF2 chapter, format 4).
use Rattle.std.specs.Prelude.{ℕ, zero, suc, ◌+◌, ◌-◌, ◌*◌, ◌==◌, ◌&&◌, nat_lt, nat_le, Bool, true, if◌then◌else◌, List, [], ◌∷◌, Result, Ok, Err}
use Rattle.std.specs.List.{flat_map}
use Rattle.font_bytes.specs.declared.fault.TableFault.{TableFault}
use Rattle.font_bytes.specs.declared.fault.TableFault.TheVariants.{Kind, Order}
use Rattle.font_bytes.specs.Results.{and_then}
use Rattle.font_bytes.specs.Words.{need, byte, word, long}
use Rattle.font_bytes.specs.Records.{records}
use Rattle.font_cff.specs.declared.selects.SelectRange.{SelectRange}

-- format 0: fds, a Card8 for each glyph
abbrev pub listed_selects : List ℕ → ℕ → ℕ → Result (List ℕ) TableFault
listed_selects table at count = and_then (need table at count) (λ _. Ok (records (byte table) 1 at count))

-- Range3: first at 0, fd at 2; the first glyph of the next range, or the sentinel, at 3
abbrev pub range_of_three : List ℕ → ℕ → SelectRange
range_of_three table at = record { first = word table at; dict = byte table (at + 2); next = word table (at + 3) }

-- Range4: first at 0, fd at 4; the first glyph of the next range, or the sentinel, at 6
abbrev pub range_of_six : List ℕ → ℕ → SelectRange
range_of_six table at = record { first = long table at; dict = word table (at + 4); next = long table (at + 6) }

-- whether a range may follow the glyphs before one: it begins there and has glyphs
abbrev pub is_select : ℕ → SelectRange → Bool
is_select first r = r.first == first && nat_lt r.first r.next && nat_le r.next 65536

-- whether ranges follow each other
abbrev pub are_selects : ℕ → List SelectRange → Bool
are_selects first [] = true
are_selects first (r ∷ rs) = is_select first r && are_selects r.next rs

-- n copies of a number
abbrev pub copies : ℕ → ℕ → List ℕ
copies x zero = []
copies x (suc n) = x ∷ copies x n

-- the index of the font DICT of each glyph of a range
abbrev pub dicts_of : SelectRange → List ℕ
dicts_of r = copies r.dict (r.next - r.first)

-- the index of the font DICT of each glyph of ranges that follow each other
abbrev pub dicts_in : ℕ → List SelectRange → Result (List ℕ) TableFault
dicts_in at rs = if are_selects 0 rs then Ok (flat_map dicts_of rs) else Err (Order at)

-- format 3: nRanges, n ranges of three bytes, sentinel
abbrev pub selects_of_three : List ℕ → ℕ → Result (List ℕ) TableFault
selects_of_three table at = and_then (need table at 2) (λ _. and_then (need table (at + 2) (3 * word table at + 2)) (λ _.
    dicts_in at (records (range_of_three table) 3 (at + 2) (word table at))))

-- format 4: nRanges, n ranges of six bytes, sentinel
abbrev pub selects_of_six : List ℕ → ℕ → Result (List ℕ) TableFault
selects_of_six table at = and_then (need table at 4) (λ _. and_then (need table (at + 4) (6 * long table at + 4)) (λ _.
    dicts_in at (records (range_of_six table) 6 (at + 4) (long table at))))

-- the index of the font DICT of each glyph, by the FDSelect at an offset
abbrev pub selects_of : List ℕ → ℕ → ℕ → Result (List ℕ) TableFault
selects_of table at count = and_then (need table at 1) (λ _.
    if byte table at == 0 then listed_selects table (at + 1) count
    else (if byte table at == 3 then selects_of_three table (at + 1)
    else (if byte table at == 4 then selects_of_six table (at + 1)
    else Err (Kind at))))
