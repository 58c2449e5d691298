-- The header of the table, and what it leads to (TN 5176, 6 to 10; OpenType, CFF2 chapter).
use Rattle.std.specs.Prelude.{ℕ, ◌+◌, ◌==◌, nat_lt, Bool, true, false, if◌then◌else◌, List, Result, Ok, Err}
use Rattle.font_bytes.specs.declared.fault.TableFault.{TableFault}
use Rattle.font_bytes.specs.declared.fault.TableFault.TheVariants.{Kind, Missing, TooLarge}
use Rattle.font_bytes.specs.Results.{and_then}
use Rattle.font_bytes.specs.Words.{need, byte, word}
use Rattle.font_charstrings.specs.declared.index.Index.{Index}
use Rattle.font_charstrings.specs.Index.{index_at, index_end, no_objects, object}
use Rattle.font_cff.specs.declared.dict.Dict.{Dict}
use Rattle.font_cff.specs.declared.header.Cff.{Cff}
use Rattle.font_cff.specs.Dict.{dict_of}

-- with the CharStrings INDEX, of at most 65,535 glyphs
unfoldable pub with_glyphs : List ℕ → Bool → Dict → Index → Index → Result Cff TableFault
with_glyphs table is_cff2 top strings global = if top.charstrings == 0 then Err Missing
    else and_then (index_at table top.charstrings is_cff2) (λ glyphs.
    if nat_lt 65535 glyphs.count then Err TooLarge
    else Ok (record { is_cff2 = is_cff2; top = top; strings = strings; global = global; glyphs = glyphs }))

-- `CFF `: major at 0, hdrSize at 2; then Name INDEX, Top DICT INDEX, String INDEX, Global Subr INDEX; the first font is read
unfoldable pub cff1_of : List ℕ → Result Cff TableFault
cff1_of table = and_then (need table 0 4) (λ _.
    if byte table 0 == 1 then
    and_then (index_end table (byte table 2) false) (λ tops_at.
    and_then (index_at table tops_at false) (λ tops.
    and_then (index_end table tops_at false) (λ strings_at.
    and_then (index_at table strings_at false) (λ strings.
    and_then (index_end table strings_at false) (λ global_at.
    and_then (index_at table global_at false) (λ global.
    and_then (object table tops 0) (λ span.
    and_then (dict_of table span) (λ top.
    with_glyphs table false top strings global))))))))
    else Err (Kind 0))

-- CFF2: majorVersion at 0, headerSize at 2, topDictLength at 3; then Top DICT and Global Subr INDEX
unfoldable pub cff2_of : List ℕ → Result Cff TableFault
cff2_of table = and_then (need table 0 5) (λ _.
    if byte table 0 == 2 then
    and_then (index_at table (byte table 2 + word table 3) true) (λ global.
    and_then (dict_of table (record { at = byte table 2; end = byte table 2 + word table 3 })) (λ top.
    with_glyphs table true top no_objects global))
    else Err (Kind 0))

-- the table `CFF ` or CFF2
abbrev pub cff_of : List ℕ → Bool → Result Cff TableFault
cff_of table is_cff2 = if is_cff2 then cff2_of table else cff1_of table
