-- Hebrew: presentation forms of a letter with a point, and the order of three marks (UAX 15, composition exclusions;
-- UCD, Alphabetic Presentation Forms).
use Rattle.std.specs.Prelude.{ℕ, ◌+◌, ◌==◌, ◌&&◌, ◌||◌, Bool, false, if◌then◌else◌, List, [], ◌∷◌, Option, None, Some, find, slice_range}
use Rattle.std.specs.Option.{option_map, option_or}
use Rattle.buffer_unicode_tables.specs.Tables.{Tables, pair_of}
use Rattle.buffer_properties.specs.Characters.{mark_class}
use Rattle.buffer_glyphs.specs.Items.{Item}
use Rattle.buffer_core.specs.Readings.{View, Read, with_events}
use Rattle.buffer_stages.specs.Moves.{with_move}

-- letter, point, and the presentation form of both (HarfBuzz: compose_hebrew)
abbrev pub presentation_forms : List (ℕ × ℕ × ℕ)
presentation_forms =
    (0x05D9, 0x05B4, 0xFB1D) ∷
    (0x05F2, 0x05B7, 0xFB1F) ∷
    (0x05D0, 0x05B7, 0xFB2E) ∷
    (0x05D0, 0x05B8, 0xFB2F) ∷
    (0x05D5, 0x05B9, 0xFB4B) ∷
    (0x05D0, 0x05BC, 0xFB30) ∷
    (0x05D1, 0x05BC, 0xFB31) ∷
    (0x05D2, 0x05BC, 0xFB32) ∷
    (0x05D3, 0x05BC, 0xFB33) ∷
    (0x05D4, 0x05BC, 0xFB34) ∷
    (0x05D5, 0x05BC, 0xFB35) ∷
    (0x05D6, 0x05BC, 0xFB36) ∷
    (0x05D8, 0x05BC, 0xFB38) ∷
    (0x05D9, 0x05BC, 0xFB39) ∷
    (0x05DA, 0x05BC, 0xFB3A) ∷
    (0x05DB, 0x05BC, 0xFB3B) ∷
    (0x05DC, 0x05BC, 0xFB3C) ∷
    (0x05DE, 0x05BC, 0xFB3E) ∷
    (0x05E0, 0x05BC, 0xFB40) ∷
    (0x05E1, 0x05BC, 0xFB41) ∷
    (0x05E3, 0x05BC, 0xFB43) ∷
    (0x05E4, 0x05BC, 0xFB44) ∷
    (0x05E6, 0x05BC, 0xFB46) ∷
    (0x05E7, 0x05BC, 0xFB47) ∷
    (0x05E8, 0x05BC, 0xFB48) ∷
    (0x05E9, 0x05BC, 0xFB49) ∷
    (0x05EA, 0x05BC, 0xFB4A) ∷
    (0xFB2A, 0x05BC, 0xFB2C) ∷
    (0xFB2B, 0x05BC, 0xFB2D) ∷
    (0x05D1, 0x05BF, 0xFB4C) ∷
    (0x05DB, 0x05BF, 0xFB4D) ∷
    (0x05E4, 0x05BF, 0xFB4E) ∷
    (0x05E9, 0x05C1, 0xFB2A) ∷
    (0xFB49, 0x05C1, 0xFB2C) ∷
    (0x05E9, 0x05C2, 0xFB2B) ∷
    (0xFB49, 0x05C2, 0xFB2D) ∷
    []

-- the presentation form of a letter and a point, if there is one
abbrev pub presentation_form : ℕ → ℕ → Option ℕ
presentation_form a b = option_map (λ row. row.2) (find (λ row. row.0 == a && row.1 == b) presentation_forms)

-- the composition of two characters: as in Unicode, else a presentation form where the font has no GPOS mark
-- positioning (HarfBuzz: compose_hebrew)
abbrev pub hebrew_pair : Tables → Bool → ℕ → ℕ → Option ℕ
hebrew_pair t has_gpos_mark a b = option_or (pair_of t a b) (if has_gpos_mark then None else presentation_form a b)

-- the combining class is that of patah or qamats (CCC17, CCC18)
abbrev pub is_patah_or_qamats : Item → Bool
is_patah_or_qamats x = mark_class x == 20 || mark_class x == 21

-- the combining class is that of sheva or hiriq (CCC10, CCC14)
abbrev pub is_sheva_or_hiriq : Item → Bool
is_sheva_or_hiriq x = mark_class x == 22 || mark_class x == 23

-- the combining class is that of meteg (CCC22) or of a mark below (220)
abbrev pub is_meteg_or_below : Item → Bool
is_meteg_or_below x = mark_class x == 25 || mark_class x == 220

-- the list begins with the three marks
abbrev pub begins_with_three : List Item → Bool
begins_with_three [] = false
begins_with_three (x ∷ []) = false
begins_with_three (x ∷ y ∷ []) = false
begins_with_three (x ∷ y ∷ z ∷ xs) = is_patah_or_qamats x && (is_sheva_or_hiriq y && is_meteg_or_below z)

-- the index of the first such three neighbours
abbrev pub first_three : List Item → Option ℕ
first_three [] = None
first_three (x ∷ xs) = if begins_with_three (x ∷ xs) then Some 0 else option_map (λ n. n + 1) (first_three xs)

-- the view where the last two of the three marks are swapped and merged
abbrev pub with_swapped : ℕ → Option ℕ → View → Read
with_swapped start None v = with_events [] v
with_swapped start (Some n) v = with_move (start + (n + 1)) 1 1 v

-- the view of a run of marks with the meteg of the first three such neighbours moved before the sheva or hiriq
-- (HarfBuzz: reorder_marks_hebrew)
abbrev pub marks_reordered : ℕ → ℕ → View → Read
marks_reordered start end v = with_swapped start (first_three (slice_range v.items start end)) v
