-- The number of marks after an index.
use Rattle.std.proofs.Common.{ℕ, ◌≡◌, ◌≤◌, ◌<◌, ◌+◌, ◌-◌, Bool, true, false, if◌then◌else◌, List, ◌∷◌, length, drop, get_or, arith, refl, ap, ◌∙◌}
use Rattle.std.proofs.lemmas.List.{drop_all, drop_more, length-map}
use Rattle.buffer_glyphs.specs.declared.info.hb_glyph_info_t.{hb_glyph_info_t}
use Rattle.buffer_glyphs.specs.Items.{item_of, strip}
use Rattle.buffer_glyphs.proofs.Lists.{get_or_mapped}
use Rattle.buffer_properties.specs.Characters.{is_mark}
use Rattle.shape_fallback.specs.Marks.{marks}
use Rattle.buffer_facts.proofs.Numbers.{counted_on as one_more, counted_anew as no_more}

within : (gs : List hb_glyph_info_t) (i : ℕ) → i < length gs → i < length (strip gs)
within gs i lt = let same = length-map gs item_of in omega (arith, lt, same)

pub first_left : (gs : List hb_glyph_info_t) (i : ℕ) (d : hb_glyph_info_t) → i < length gs → drop i (strip gs) ≡ item_of (get_or gs i d) ∷ drop (i + 1) (strip gs)
first_left gs i d lt = drop_more (strip gs) i (item_of d) (within gs i lt) ∙ ap (λ x. x ∷ drop (i + 1) (strip gs)) (get_or_mapped item_of gs i d)

-- the marks from an index on, of which that many were passed
pub record Passed (gs : List hb_glyph_info_t) (at end : ℕ) : Type 0 where
  pub count : marks (drop (at + 1) (strip gs)) ≡ (end - (at + 1)) + marks (drop end (strip gs))
  pub from : at + 1 ≤ end
  pub within : end ≤ length gs

pub none_passed : (gs : List hb_glyph_info_t) (at : ℕ) → at < length gs → Passed gs at (at + 1)
none_passed gs at lt = record { count = omega arith; from = omega arith; within = omega (arith, lt) }

pub next_passed : (gs : List hb_glyph_info_t) (at end : ℕ) (d : hb_glyph_info_t) → end < length gs → is_mark (item_of (get_or gs end d)) ≡ true → Passed gs at end → Passed gs at (end + 1)
next_passed gs at end d lt is p =
    let one : marks (drop end (strip gs)) ≡ marks (drop (end + 1) (strip gs)) + 1 =
    ap marks (first_left gs end d lt) ∙ one_more (marks (drop (end + 1) (strip gs))) (is_mark (item_of (get_or gs end d))) is in
    let before = p.count in
    let start = p.from in
    record { count = omega (arith, before, one, start); from = omega (arith, start); within = omega (arith, lt) }

pub all_passed : (gs : List hb_glyph_info_t) (at end : ℕ) → length gs ≤ end → Passed gs at end → end - (at + 1) ≡ marks (drop (at + 1) (strip gs))
all_passed gs at end le p =
    let same = length-map gs item_of in
    let none : marks (drop end (strip gs)) ≡ 0 = ap marks (drop_all end (strip gs) (omega (arith, le, same))) in
    let before = p.count in
    omega (arith, before, none)

pub last_passed : (gs : List hb_glyph_info_t) (at end : ℕ) (d : hb_glyph_info_t) → end < length gs → is_mark (item_of (get_or gs end d)) ≡ false → Passed gs at end
    → end - (at + 1) ≡ marks (drop (at + 1) (strip gs))
last_passed gs at end d lt is p =
    let none : marks (drop end (strip gs)) ≡ 0 = ap marks (first_left gs end d lt) ∙ no_more (marks (drop (end + 1) (strip gs))) (is_mark (item_of (get_or gs end d))) is in
    let before = p.count in
    omega (arith, before, none)
