-- Charsets: the number of the string that names each glyph (TN 5176, 13; SID).
use Rattle.std.specs.Prelude.{ℕ, zero, suc, ◌+◌, ◌-◌, ◌*◌, ◌==◌, min, Bool, true, false, if◌then◌else◌, List, [], ◌∷◌, ◌++◌, Result, Ok, Err}
use Rattle.font_bytes.specs.declared.fault.TableFault.{TableFault}
use Rattle.font_bytes.specs.declared.fault.TableFault.TheVariants.{Kind}
use Rattle.font_bytes.specs.Results.{and_then}
use Rattle.font_bytes.specs.Words.{need, byte, word}
use Rattle.font_bytes.specs.Records.{records}
use Rattle.font_strings.specs.Standard.{expert_sid, subset_sid}
use Rattle.font_cff.specs.Fonts.{numbers}

-- the first glyphs of the charset Expert
abbrev pub expert_sids : ℕ → List ℕ
expert_sids zero = []
expert_sids (suc count) = expert_sids count ++ expert_sid count ∷ []

-- the first glyphs of the charset ExpertSubset
abbrev pub subset_sids : ℕ → List ℕ
subset_sids zero = []
subset_sids (suc count) = subset_sids count ++ subset_sid count ∷ []

-- string numbers before others
abbrev pub before_sids : List ℕ → Result (List ℕ) TableFault → Result (List ℕ) TableFault
before_sids done rest = and_then rest (λ r. Ok (done ++ r))

-- format 0: glyph, a SID for each glyph but .notdef
abbrev pub listed_sids : List ℕ → ℕ → ℕ → Result (List ℕ) TableFault
listed_sids table at count = and_then (need table at (2 * count)) (λ _. Ok (0 ∷ records (word table) 2 at count))

-- the width of nLeft: Card8 in format 1, Card16 in format 2
abbrev pub left_width : Bool → ℕ
left_width is_wide = if is_wide then 2 else 1

-- nLeft
abbrev pub left_of : List ℕ → Bool → ℕ → ℕ
left_of table is_wide at = if is_wide then word table at else byte table at

-- how many glyphs the range at an offset names, of n of them
abbrev pub range_length : List ℕ → Bool → ℕ → ℕ → ℕ
range_length table is_wide at left = min (left_of table is_wide (at + 2) + 1) left

-- at most n ranges from an offset on, for n glyphs: first, nLeft
unfoldable pub range_sids : List ℕ → Bool → ℕ → ℕ → ℕ → Result (List ℕ) TableFault
range_sids table is_wide zero at left = Ok []
range_sids table is_wide (suc n) at left = if left == 0 then Ok []
    else and_then (need table at (2 + left_width is_wide)) (λ _.
    before_sids (numbers (word table at) (range_length table is_wide at left))
    (range_sids table is_wide n (at + (2 + left_width is_wide)) (left - range_length table is_wide at left)))

-- formats 1 and 2: ranges for all glyphs but .notdef
abbrev pub all_range_sids : List ℕ → Bool → ℕ → ℕ → Result (List ℕ) TableFault
all_range_sids table is_wide at count = before_sids (0 ∷ []) (range_sids table is_wide count at count)

-- the formats, by the byte at an offset
abbrev pub custom_sids : List ℕ → ℕ → ℕ → Result (List ℕ) TableFault
custom_sids table at count = and_then (need table at 1) (λ _.
    if byte table at == 0 then listed_sids table (at + 1) (count - 1)
    else (if byte table at == 1 then all_range_sids table false (at + 1) (count - 1)
    else (if byte table at == 2 then all_range_sids table true (at + 1) (count - 1)
    else Err (Kind at))))

-- the string number of each glyph, by the charset at an offset; 0, 1 and 2 are ISOAdobe, Expert and ExpertSubset
abbrev pub charset_of : List ℕ → ℕ → ℕ → Result (List ℕ) TableFault
charset_of table at count =
    if at == 0 then Ok (numbers 0 (min count 229))
    else (if at == 1 then Ok (expert_sids (min count 166))
    else (if at == 2 then Ok (subset_sids (min count 87))
    else custom_sids table at count))
