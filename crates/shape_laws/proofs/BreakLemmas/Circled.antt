-- A dotted circle before a text that is broken into two.
use Rattle.std.proofs.Common.{ℕ, zero, suc, ◌≡◌, ◌<◌, ◌+◌, ◌*◌, inr, nat_lt, Bool, true, false, if◌then◌else◌, List, [], ◌∷◌, ◌++◌, length, map, arith, refl, sym, ap, ◌∙◌}
use Rattle.std.specs.Int.RustNames.{bit_or}
use Rattle.std.proofs.lemmas.Bool.Decides.{nat_tests}
use Rattle.std.proofs.lemmas.List.{length-map, length-append}
use Rattle.buffer_unicode_tables.specs.Tables.{Tables}
use Rattle.buffer_glyphs.specs.Items.{Item, zero_position}
use Rattle.buffer_glyphs.specs.Events.{Circle}
use Rattle.buffer_core.specs.Readings.{View, Read, BufferState, state_after, with_events}
use Rattle.buffer_core.specs.Sides.{zero_positions}
use Rattle.buffer_properties.specs.Properties.{scratch_flags_of}
use Rattle.buffer_parts.specs.Breaks.Fragments.{AreFragments, AreGiven, with_ligature_renamed}
use Rattle.buffer_parts.specs.Breaks.Divisible.{IsBreakable, StaysDivided}
use Rattle.buffer_parts.proofs.BreakLemmas.Beside.{beside_stays_divided}
use Rattle.shape_laws.specs.Breaks.Texts.{IsUnplaced}
use Rattle.shape_text.specs.Circle.{DOTTED_CIRCLE, circle_like, circled_items}
use Rattle.shape_parts.proofs.Characters.{circled_many}
use Rattle.layout_laws.proofs.BreakLemmas.Passes.{zero_both as zeros_both, zero_long as zeros_many}
use Rattle.script_hangul.proofs.Fits.{some_there as nat_positive}

-- a view with a circle before its first item
abbrev pub circle_view : Tables → View → View
circle_view t v = record v { items = circled_items t v.items; positions = zero_positions (length v.items + 1); scratch_flags = bit_or v.scratch_flags (scratch_flags_of DOTTED_CIRCLE) }

-- what is read of a view that gets a circle, or of one that gets none
abbrev pub circle_if : Bool → Tables → View → Read
circle_if true t v = with_events (Circle false 0 0 ∷ []) (circle_view t v)
circle_if false t v = with_events [] v

circle_renamed : (t : Tables) (name : ℕ → ℕ) (x : Item) → name 0 ≡ 0 → circle_like t (with_ligature_renamed name x) ≡ with_ligature_renamed name (circle_like t x)
circle_renamed t name x none =
    let word : 0 ≡ name 0 * 0x2000_0000 + 0 = omega (arith, none) in
    ap (λ (n : ℕ). record (circle_like t x) { lig_props = n }) word

circled_line : (t : Tables) (f g : ℕ → ℕ) (xs ys : List Item) → f 0 ≡ 0 → 0 < length xs → circled_items t (map (with_ligature_renamed f) xs ++ map (with_ligature_renamed g) ys) ≡ map (with_ligature_renamed f) (circled_items t xs) ++ map (with_ligature_renamed g) ys
circled_line t f g [] ys none some = absurd (omega (arith, some))
circled_line t f g (x ∷ xs) ys none some = ap (λ (y : Item). y ∷ with_ligature_renamed f x ∷ (map (with_ligature_renamed f) xs ++ map (with_ligature_renamed g) ys)) (circle_renamed t f x none)

pub circled_given : (t : Tables) (last : ℕ) (xs : List Item) → AreGiven last xs → AreGiven last (circled_items t xs)
circled_given t last [] h = tt
circled_given t last (x ∷ xs) h = (omega arith, h)

-- a circle before a text is one before its earlier fragment
pub circles_divide : (b : Bool) (t : Tables) (c : ℕ) (whole earlier later : BufferState) → IsBreakable whole → AreFragments false c whole earlier later → IsUnplaced whole → IsUnplaced earlier → IsUnplaced later
    → StaysDivided false c (state_after (circle_if b t whole.view) whole) (state_after (circle_if b t earlier.view) earlier) later
circles_divide false t c whole earlier later ready j w e l = inr j
circles_divide true t c whole earlier later ready j w e l =
    let xs = earlier.view.items in
    let ys = later.view.items in
    let early_many = j.early_whole.origins in
    let late_many = j.late_whole.origins in
    let early_some = j.early_some in
    let late_some = j.late_some in
    let some : 0 < length xs = omega (arith, early_some, early_many) in
    let sum : length whole.view.items ≡ length (map (with_ligature_renamed j.early_name) xs) + length (map (with_ligature_renamed j.late_name) ys) = ap length j.items ∙ length-append (map (with_ligature_renamed j.early_name) xs) (map (with_ligature_renamed j.late_name) ys) in
    let first = length-map xs (with_ligature_renamed j.early_name) in
    let second = length-map ys (with_ligature_renamed j.late_name) in
    let count : length whole.view.items + 1 ≡ length xs + 1 + length ys = omega (arith, sum, first, second) in
    beside_stays_divided false false c whole earlier later (circle_if true t whole.view) (circle_if true t earlier.view) (with_events [] later.view) ready j (tt, tt) (tt, tt)
    (record {
      early_name = j.early_name;
      late_name = j.late_name;
      names = record { early = j.names.early; late = j.names.late; apart = j.names.apart; early_given = circled_given t earlier.view.lig_id xs j.names.early_given; late_given = j.names.late_given };
      items = ap (circled_items t) j.items ∙ circled_line t j.early_name j.late_name xs ys j.names.early.none some;
      positions = ap (λ (n : ℕ). zero_positions n) count ∙ zeros_both (length xs + 1) (length ys) ∙ ap (λ ps. zero_positions (length xs + 1) ++ ps) (sym l);
      events = refl;
      early_direction = j.early_of.direction;
      late_direction = j.late_of.direction;
      early = record {
        bounded = ((early_some, early_some), tt);
        positions = zeros_many (length xs + 1) ∙ sym (circled_many t xs some);
        counted = ap (λ (b : Bool). if b then length earlier.origins + 1 else length earlier.origins) (nat_positive (length earlier.origins) early_some) ∙ ap (λ (n : ℕ). n + 1) early_many ∙ sym (circled_many t xs some);
        some = let more = circled_many t xs some in omega (arith, more);
      };
      late = record { bounded = tt; positions = j.late_whole.positions; counted = late_many; some = omega (arith, late_some, late_many) };
    })
