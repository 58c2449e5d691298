-- Features in whose place others stand at the default instance (OpenType, chapter 2, feature variations table).
use Rattle.std.specs.Prelude.{ℕ, ◌+◌, ◌*◌, ◌==◌, ◌&&◌, ◌||◌, nat_le, nat_lt, Bool, true, false, if◌then◌else◌, List, [], ◌∷◌, None, Result, Ok, Err}
use Rattle.std.specs.Ordering.{nat_cmp}
use Rattle.font_bytes.specs.declared.fault.TableFault.{TableFault}
use Rattle.font_bytes.specs.declared.fault.TableFault.TheVariants.{Kind}
use Rattle.font_bytes.specs.Results.{and_then}
use Rattle.font_bytes.specs.Room.{room_after}
use Rattle.font_bytes.specs.Words.{need, word, long}
use Rattle.font_bytes.specs.Records.{records}
use Rattle.font_common.specs.Rows.{first_rows}
use Rattle.font_lists.specs.declared.variations.AlternateFeature.{AlternateFeature}
use Rattle.font_lists.specs.Tagged.{table_offset}

-- whether 0, the default of each axis, is within two numbers of type F2DOT14: two's complement, so from 32768 on they are
-- below 0
abbrev pub has_default : ℕ → ℕ → Bool
has_default least greatest = (least == 0 || nat_le 32768 least) && nat_lt greatest 32768

-- format 1: filterRangeMinValue at 4, filterRangeMaxValue at 6
abbrev pub range_fits : List ℕ → ℕ → Result Bool TableFault
range_fits table at = and_then (need table at 8) (λ _. Ok (has_default (word table (at + 4)) (word table (at + 6))))

-- whether a condition holds at the default instance; one of an unknown format and one at a null offset don't
abbrev pub condition_fits : List ℕ → ℕ → Result Bool TableFault
condition_fits table at = if at == 0 then Ok false
    else and_then (need table at 2) (λ _. if word table at == 1 then range_fits table at else Ok false)

-- whether each condition holds; those after one that doesn't aren't read
abbrev pub conditions_fit : List ℕ → ℕ → List ℕ → Result Bool TableFault
conditions_fit table base [] = Ok true
conditions_fit table base (o ∷ os) = and_then (condition_fits table (table_offset base o)) (λ fits. if fits then conditions_fit table base os else Ok false)

-- a condition set: conditionCount at 0, conditionOffsets (Offset32) at 2; an offset takes a row of room
abbrev pub condition_set_fits : ℕ → List ℕ → ℕ → Result (Bool × ℕ) TableFault
condition_set_fits room table at = and_then (need table at 2) (λ _. and_then (need table (at + 2) (4 * word table at)) (λ _. and_then (room_after room (word table at))
    (λ left. and_then (conditions_fit table at (records (long table) 4 (at + 2) (word table at))) (λ fits. Ok (fits, left)))))

-- whether a condition set holds; no set always does
abbrev pub set_fits : ℕ → List ℕ → ℕ → Result (Bool × ℕ) TableFault
set_fits room table at = if at == 0 then Ok (true, room) else condition_set_fits room table at

-- the offset of the substitution of the first record whose condition set holds: conditionSetOffset at 0,
-- featureTableSubstitutionOffset at 4, both Offset32; 0 where there is none
abbrev pub first_fitting : List ℕ → ℕ → ℕ → List ℕ → Result (ℕ × ℕ) TableFault
first_fitting table base room [] = Ok (0, room)
first_fitting table base room (at ∷ ats) = and_then (set_fits room table (table_offset base (long table at)))
    (λ f. if f.0 then Ok (table_offset base (long table (at + 4)), f.1) else first_fitting table base f.1 ats)

-- a feature table substitution record: featureIndex at 0, alternateFeatureOffset (Offset32) at 2
abbrev pub alternate_feature : List ℕ → ℕ → ℕ → AlternateFeature
alternate_feature table base at = record { feature_index = word table at; at = table_offset base (long table (at + 2)) }

-- a feature table substitution: substitutionCount at 4, substitutions at 6, by rising indices: of one index the first
abbrev pub substitution_at : ℕ → List ℕ → ℕ → Result (List AlternateFeature × ℕ) TableFault
substitution_at room table at = and_then (need table at 6) (λ _. and_then (need table (at + 6) (6 * word table (at + 4))) (λ _. and_then (room_after room (word table (at + 4)))
    (λ left. Ok (first_rows nat_cmp (λ p. p.feature_index) None (records (alternate_feature table at) 6 (at + 6) (word table (at + 4))), left))))

-- the features of the substitution at an offset
abbrev pub substitution_of : List ℕ → ℕ × ℕ → Result (List AlternateFeature × ℕ) TableFault
substitution_of table p = if p.0 == 0 then Ok ([], p.1) else substitution_at p.1 table p.0

-- the offsets of the records: featureVariationRecordCount (uint32) at 4, records of 8 bytes from 8 on
abbrev pub variation_records : List ℕ → ℕ → List ℕ
variation_records table at = records (λ o. o) 8 (at + 8) (long table (at + 4))

-- a feature variations table of major version 1; a record takes a row of room
abbrev pub variations_at : ℕ → List ℕ → ℕ → Result (List AlternateFeature × ℕ) TableFault
variations_at room table at = and_then (need table at 8) (λ _. if word table at == 1
    then and_then (need table (at + 8) (8 * long table (at + 4))) (λ _. and_then (room_after room (long table (at + 4)))
    (λ left. and_then (first_fitting table at left (variation_records table at)) (substitution_of table)))
    else Err (Kind at))

-- the features in whose place others stand; none without variations
abbrev pub variations_of : ℕ → List ℕ → ℕ → Result (List AlternateFeature × ℕ) TableFault
variations_of room table at = if at == 0 then Ok ([], room) else variations_at room table at
