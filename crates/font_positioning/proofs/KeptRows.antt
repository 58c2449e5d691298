-- Rows whose class has records.
use Rattle.std.proofs.Common.{◌≡◌, ℕ, ◌<◌, ◌&&◌, if◌then◌else◌, Bool, true, false, nat_lt, List, [], ◌∷◌, filter, Option, Some, None, refl, ap, arith, inl, inr}
use Rattle.std.specs.List.{list_all}
use Rattle.std.specs.Ordering.{nat_cmp, is_lt}
use Rattle.std.proofs.lemmas.Bool.{cases_Bool, and_parts, and_from}
use Rattle.std.proofs.lemmas.Bool.Decides.{nat_tests}
use Rattle.buffer_rows.specs.Keys.{is_above, is_rising, numbers_rise}
use Rattle.layout_common.specs.declared.glyph_row.GlyphRow.{GlyphRow}
use Rattle.font_positioning.specs.ClassPairs.{rows_below}

-- where all rows have such a class, all stay
pub all_kept : (count : ℕ) (rows : List (GlyphRow ℕ)) → list_all (λ r. nat_lt r.value count) rows ≡ true → rows_below count rows ≡ rows
all_kept count [] h = refl
all_kept count (r ∷ rows) h =
    let parts = and_parts (nat_lt r.value count) (list_all (λ q. nat_lt q.value count) rows) h in
    rw (parts.0, all_kept count rows parts.1) refl

lt_over : (a b c : ℕ) → is_lt (nat_cmp a b) ≡ true → is_lt (nat_cmp b c) ≡ true → is_lt (nat_cmp a c) ≡ true
lt_over a b c h k = grind (arith, nat_tests)

-- rows above a number are above what it is above
rise_over : (before : Option ℕ) (k : ℕ) (rows : List (GlyphRow ℕ)) → is_above nat_cmp before k ≡ true → is_rising nat_cmp (λ r. r.glyph) (Some k) rows ≡ true → is_rising nat_cmp (λ r. r.glyph) before rows ≡ true
rise_over before k [] h rising = refl
rise_over None k (r ∷ rows) h rising = (and_parts (is_lt (nat_cmp k r.glyph)) (is_rising nat_cmp (λ (q : GlyphRow ℕ). q.glyph) (Some r.glyph) rows) rising).1
rise_over (Some b) k (r ∷ rows) h rising =
    let parts = and_parts (is_lt (nat_cmp k r.glyph)) (is_rising nat_cmp (λ (q : GlyphRow ℕ). q.glyph) (Some r.glyph) rows) rising in
    and_from _ _ (lt_over b k r.glyph h parts.0) parts.1

-- some of rows that rise rise
some_rise : (p : GlyphRow ℕ → Bool) (before : Option ℕ) (rows : List (GlyphRow ℕ)) → is_rising nat_cmp (λ r. r.glyph) before rows ≡ true → is_rising nat_cmp (λ r. r.glyph) before (filter p rows) ≡ true
some_rise p before [] rising = refl
some_rise p before (r ∷ rows) rising =
    let parts = and_parts (is_above nat_cmp before r.glyph) (is_rising nat_cmp (λ (q : GlyphRow ℕ). q.glyph) (Some r.glyph) rows) rising in
    let rest = some_rise p (Some r.glyph) rows parts.1 in
    elim (cases_Bool (p r)) [
      | inl kept ↦ rw kept (and_from _ _ parts.0 rest)
      | inr lost ↦ rw lost (rise_over before r.glyph (filter p rows) parts.0 rest)
    ]

pub kept_rise : (count : ℕ) (rows : List (GlyphRow ℕ)) → numbers_rise (λ r. r.glyph) rows ≡ true → numbers_rise (λ r. r.glyph) (rows_below count rows) ≡ true
kept_rise count rows rising = some_rise (λ r. nat_lt r.value count) None rows rising
