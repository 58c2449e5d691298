-- An output that stays in the place of what was read has room there.
use Rattle.std.proofs.Common.{ℕ, ◌≡◌, ◌≢◌, ◌≤◌, ◌+◌, ◌||◌, Bool, true, false, nat_lt, List, [], ◌∷◌, length, refl, arith, ap, sym, ◌∙◌}
use Rattle.std.proofs.lemmas.Bool.Decides.{nat_tests}
use Rattle.buffer_glyphs.specs.Lemmas.Glyphs.{length_merged_at}
use Rattle.buffer_core.specs.Merging.{with_merged, with_output_glyph, with_output_info, with_replaced}
use Rattle.buffer_core.specs.Sides.{Sides, all_glyphs, has_output_room}
use Rattle.buffer_glyphs.specs.declared.info.hb_glyph_info_t.{hb_glyph_info_t}
use Rattle.std.proofs.lemmas.List.{length-append}
use Rattle.buffer_core.proofs.Merged.{all_merged}
use Rattle.buffer_core.proofs.Open.{end_of_copies}
use Rattle.buffer_core.proofs.Replaced.{length_behind}

in_place : (apart : Bool) (read long : ℕ) → (apart || nat_lt read long) ≡ false → (apart ≡ false) × (long ≤ read)
in_place true read long e = cc
in_place false read long e = (refl, grind (arith, nat_tests, e))

pub copy_stays : (n : ℕ) (s : Sides) → length (all_glyphs s) ≢ 0 → (with_output_glyph n s).is_apart ≡ false → (s.is_apart ≡ false) × (length s.behind + 1 ≤ s.read)
copy_stays n s some e =
    let parts = in_place s.is_apart s.read _ e in
    let count = end_of_copies s.ahead s.behind (n ∷ []) some in
    (parts.0, omega (arith, parts.1, count))

pub put_stays : (g : hb_glyph_info_t) (s : Sides) → (with_output_info g s).is_apart ≡ false → (s.is_apart ≡ false) × (length s.behind + 1 ≤ s.read)
put_stays g s e =
    let parts = in_place s.is_apart s.read _ e in
    let count = length-append s.behind (g ∷ []) in
    (parts.0, omega (arith, parts.1, count))

pub replaced_stays : (taken : ℕ) (numbers : List ℕ) (s : Sides) → length (all_glyphs s) ≢ 0 → (with_replaced taken numbers s).is_apart ≡ false → (s.is_apart ≡ false) × (length s.behind + length numbers ≤ s.read + taken)
replaced_stays taken numbers s some e =
    let m = with_merged (length s.behind) (length s.behind + taken) s in
    let whole : length (all_glyphs m) ≡ length (all_glyphs s) = ap length (all_merged (length s.behind) (length s.behind + taken) s) ∙ length_merged_at s.level (length s.behind) (length s.behind + taken) (all_glyphs s) (omega arith) in
    let parts = in_place s.is_apart (s.read + taken) _ e in
    let count = end_of_copies m.ahead m.behind numbers (λ e. some (sym whole ∙ e)) in
    let wide = length_behind taken s in
    (parts.0, omega (arith, parts.1, count, wide))

pub has_room : (s : Sides) (k : ℕ) → length s.behind + k ≤ s.read + length s.ahead → s.read + length s.ahead ≤ s.max_len → has_output_room k s ≡ true
has_room s k le within = grind (arith, nat_tests, le, within)
