-- Requests for glyph flags on ranges of a buffer.
use Rattle.std.specs.Prelude.{ℕ, ◌+◌, ◌==◌, Bool, if◌then◌else◌, nat_lt, length, Option, unwrap_or, bit_and}
use Rattle.buffer_glyphs.specs.Items.{clusters}
use Rattle.buffer_glyphs.specs.Parts.{range_of}
use Rattle.buffer_glyphs.specs.Glyphs.{glyphs_marked, glyphs_flagged, has_several_numbers}
use Rattle.buffer_core.specs.Sides.{Sides, all_glyphs, requests_breaks}
use Rattle.buffer_core.specs.Merging.{index_in_all, with_glyphs, with_has_glyph_flags}

-- the first index of a range, 0 where none is given
abbrev pub start_or : Option ℕ → ℕ
start_or start = unwrap_or start 0

-- the end of a range, the length of the input where none is given
abbrev pub end_or : Option ℕ → Sides → ℕ
end_or end s = unwrap_or end (s.read + length s.ahead)

-- the first index of a range of the input, among all glyphs
abbrev pub start_in_all : Option ℕ → Sides → ℕ
start_in_all start s = index_in_all (start_or start) s

-- the end of a range of the input, among all glyphs
abbrev pub end_in_all : Option ℕ → Sides → ℕ
end_in_all end s = index_in_all (end_or end s) s

-- flags set on the indices from `from` up to before `to` outside the least cluster among them
abbrev pub with_flagged_apart : ℕ → ℕ → ℕ → Sides → Sides
with_flagged_apart bits from to s = record (with_glyphs (glyphs_marked bits from to (all_glyphs s)) s) { scratch_flags = with_has_glyph_flags (has_several_numbers (range_of from to (clusters (all_glyphs s)))) s.scratch_flags }

-- flags set on all indices from `from` up to before `to`
abbrev pub with_flagged : ℕ → ℕ → ℕ → Sides → Sides
with_flagged bits from to s = record (with_glyphs (glyphs_flagged bits from to (all_glyphs s)) s) { scratch_flags = with_has_glyph_flags (nat_lt from to) s.scratch_flags }

-- flags set on a range of the input outside its least cluster
abbrev pub range_flagged_apart : ℕ → Option ℕ → Option ℕ → Sides → Sides
range_flagged_apart bits start end s = with_flagged_apart bits (start_in_all start s) (end_in_all end s) s

-- flags set on a range of the input
abbrev pub flagged_range : ℕ → Option ℕ → Option ℕ → Sides → Sides
flagged_range bits start end s = with_flagged bits (start_in_all start s) (end_in_all end s) s

-- whether UNSAFE_TO_CONCAT is requested (PRODUCE_UNSAFE_TO_CONCAT)
abbrev pub requests_concat : Sides → Bool
requests_concat s = bit_and s.flags.0 64 == 64

-- whether SAFE_TO_INSERT_TATWEEL is requested (PRODUCE_SAFE_TO_INSERT_TATWEEL)
abbrev pub requests_tatweel : Sides → Bool
requests_tatweel s = bit_and s.flags.0 128 == 128

-- a range of the input flagged as unsafe to concat, where that is requested (`unsafe_to_concat`)
abbrev pub concat_marked : Option ℕ → Option ℕ → Sides → Sides
concat_marked start end s = if requests_concat s then flagged_range 2 start end s else s

-- a range of the input flagged as safe to insert a tatweel, or where that isn't requested as unsafe to break
-- (`safe_to_insert_tatweel`)
abbrev pub tatweel_marked : Option ℕ → Option ℕ → Sides → Sides
tatweel_marked start end s = if requests_tatweel s then range_flagged_apart 4 start end s else range_flagged_apart 3 start end s

-- a range of the input flagged as unsafe to break, where safe breaks are requested (`unsafe_to_break_strictly`)
abbrev pub strictly_marked : Option ℕ → Option ℕ → Sides → Sides
strictly_marked start end s = if requests_breaks s then range_flagged_apart 3 start end s else s

-- flags set outside the least cluster on a range that begins in the output and ends in the input
abbrev pub after_mark_across : ℕ → Option ℕ → Option ℕ → Sides → Sides
after_mark_across bits start end s = with_flagged_apart bits (start_or start) (end_in_all end s) s

-- flags set on a range that begins in the output and ends in the input
abbrev pub after_flag_across : ℕ → Option ℕ → Option ℕ → Sides → Sides
after_flag_across bits start end s = with_flagged bits (start_or start) (end_in_all end s) s

-- such a range flagged as unsafe to concat, where that is requested (`unsafe_to_concat_from_outbuffer`)
abbrev pub concat_marked_across : Option ℕ → Option ℕ → Sides → Sides
concat_marked_across start end s = if requests_concat s then after_flag_across 2 start end s else s
