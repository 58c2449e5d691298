-- Numbers before an index and after it.
use Rattle.std.proofs.Common.{ℕ, ◌≡◌, ◌≤◌, ◌<◌, ◌+◌, ◌-◌, Bool, true, false, if◌then◌else◌, List, [], ◌∷◌, ◌++◌, length, reverse, take, drop, get_or, arith, refl, sym, ap, ◌∙◌}
use Rattle.std.proofs.lemmas.List.{drop_all, drop_more, length-map, reverse-append}
use Rattle.buffer_glyphs.specs.declared.info.hb_glyph_info_t.{hb_glyph_info_t}
use Rattle.buffer_glyphs.specs.Items.{Item, item_of, strip}
use Rattle.buffer_glyphs.proofs.Lists.{get_or_mapped, take_next, take_one}
use Rattle.buffer_properties.specs.Categories.{is_decimal_number}
use Rattle.shape_text.specs.Fractions.{digits, digits_before, digits_after}
use Rattle.buffer_facts.proofs.Numbers.{counted_on as one_more, counted_anew as no_more}

-- the item before an index, in front of those before it
last_before : (xs : List Item) (i : ℕ) (d : Item) → i < length xs → reverse (take (i + 1) xs) ≡ get_or xs i d ∷ reverse (take i xs)
last_before xs i d lt =
    ap (λ ys. reverse ys) (take_next xs i ∙ ap (λ ys. take i xs ++ ys) (take_one xs i d lt))
    ∙ reverse-append (take i xs) (get_or xs i d ∷ [])

within : (gs : List hb_glyph_info_t) (i : ℕ) → i < length gs → i < length (strip gs)
within gs i lt = let same = length-map gs item_of in omega (arith, lt, same)

-- ---- walking to the front

pub record Back (gs : List hb_glyph_info_t) (at start : ℕ) : Type 0 where
  pub count : digits_before at (strip gs) ≡ (at - start) + digits_before start (strip gs)
  pub within : start ≤ at

pub back_begins : (gs : List hb_glyph_info_t) (at : ℕ) → Back gs at at
back_begins gs at = record { count = omega arith; within = omega arith }

pub back_goes_on : (gs : List hb_glyph_info_t) (at start : ℕ) (d : hb_glyph_info_t) → start ≤ length gs → 0 < start → is_decimal_number (item_of (get_or gs (start - 1) d)) ≡ true
    → Back gs at start → Back gs at (start - 1)
back_goes_on gs at start d le lt is b =
    let k : ℕ = start - 1 in
    let next : k + 1 ≡ start = omega (arith, lt) in
    let g : hb_glyph_info_t = get_or gs k d in
    let there : k < length gs = omega (arith, lt, le) in
    let one : digits_before start (strip gs) ≡ digits_before k (strip gs) + 1 =
    ap (λ n. digits_before n (strip gs)) (sym next) ∙ ap digits (last_before (strip gs) k (item_of d) (within gs k there) ∙ ap (λ x. x ∷ reverse (take k (strip gs))) (get_or_mapped item_of gs k d))
    ∙ one_more (digits (reverse (take k (strip gs)))) (is_decimal_number (item_of g)) is in
    let before = b.count in
    let room = b.within in
    record { count = omega (arith, before, one, room, lt); within = omega (arith, room) }

pub back_is_all : (gs : List hb_glyph_info_t) (at start : ℕ) → start ≡ 0 → Back gs at start → at - start ≡ digits_before at (strip gs)
back_is_all gs at start e b =
    let none : digits_before start (strip gs) ≡ 0 = ap (λ n. digits_before n (strip gs)) e in
    let before = b.count in
    omega (arith, before, none)

pub back_stops : (gs : List hb_glyph_info_t) (at start : ℕ) (d : hb_glyph_info_t) → start ≤ length gs → 0 < start → is_decimal_number (item_of (get_or gs (start - 1) d)) ≡ false
    → Back gs at start → at - start ≡ digits_before at (strip gs)
back_stops gs at start d le lt is b =
    let k : ℕ = start - 1 in
    let next : k + 1 ≡ start = omega (arith, lt) in
    let g : hb_glyph_info_t = get_or gs k d in
    let there : k < length gs = omega (arith, lt, le) in
    let none : digits_before start (strip gs) ≡ 0 =
    ap (λ n. digits_before n (strip gs)) (sym next) ∙ ap digits (last_before (strip gs) k (item_of d) (within gs k there) ∙ ap (λ x. x ∷ reverse (take k (strip gs))) (get_or_mapped item_of gs k d))
    ∙ no_more (digits (reverse (take k (strip gs)))) (is_decimal_number (item_of g)) is in
    let before = b.count in
    omega (arith, before, none)

-- ---- walking to the end

pub record After (gs : List hb_glyph_info_t) (at end : ℕ) : Type 0 where
  pub count : digits_after at (strip gs) ≡ (end - (at + 1)) + digits (drop end (strip gs))
  pub from : at + 1 ≤ end
  pub within : end ≤ length gs

pub after_begins : (gs : List hb_glyph_info_t) (at : ℕ) → at < length gs → After gs at (at + 1)
after_begins gs at lt = record { count = omega arith; from = omega arith; within = omega (arith, lt) }

pub after_goes_on : (gs : List hb_glyph_info_t) (at end : ℕ) (d : hb_glyph_info_t) → end < length gs → is_decimal_number (item_of (get_or gs end d)) ≡ true
    → After gs at end → After gs at (end + 1)
after_goes_on gs at end d lt is a =
    let one : digits (drop end (strip gs)) ≡ digits (drop (end + 1) (strip gs)) + 1 =
    ap digits (drop_more (strip gs) end (item_of d) (within gs end lt) ∙ ap (λ x. x ∷ drop (end + 1) (strip gs)) (get_or_mapped item_of gs end d))
    ∙ one_more (digits (drop (end + 1) (strip gs))) (is_decimal_number (item_of (get_or gs end d))) is in
    let before = a.count in
    let start = a.from in
    record { count = omega (arith, before, one, start); from = omega (arith, start); within = omega (arith, lt) }

pub after_is_all : (gs : List hb_glyph_info_t) (at end : ℕ) → length gs ≤ end → After gs at end → end - (at + 1) ≡ digits_after at (strip gs)
after_is_all gs at end le a =
    let same = length-map gs item_of in
    let none : digits (drop end (strip gs)) ≡ 0 = ap digits (drop_all end (strip gs) (omega (arith, le, same))) in
    let before = a.count in
    omega (arith, before, none)

pub after_stops : (gs : List hb_glyph_info_t) (at end : ℕ) (d : hb_glyph_info_t) → end < length gs → is_decimal_number (item_of (get_or gs end d)) ≡ false
    → After gs at end → end - (at + 1) ≡ digits_after at (strip gs)
after_stops gs at end d lt is a =
    let none : digits (drop end (strip gs)) ≡ 0 =
    ap digits (drop_more (strip gs) end (item_of d) (within gs end lt) ∙ ap (λ x. x ∷ drop (end + 1) (strip gs)) (get_or_mapped item_of gs end d))
    ∙ no_more (digits (drop (end + 1) (strip gs))) (is_decimal_number (item_of (get_or gs end d))) is in
    let before = a.count in
    omega (arith, before, none)
