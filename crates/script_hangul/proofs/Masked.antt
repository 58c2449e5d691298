-- Masks joined to those of glyphs.
use Rattle.std.proofs.Common.{ℕ, ◌≡◌, ◌==◌, ◌&&◌, Bool, true, false, if◌then◌else◌, List, [], ◌∷◌, map, arith, refl, sym, ap, ap₂, ◌∙◌}
use Rattle.std.specs.Prelude.{bit_and, bit_or}
use Rattle.std.specs.Int.Bits.{or_zero_r}
use Rattle.std.proofs.lemmas.Bool.{and_parts}
use Rattle.std.proofs.lemmas.Bool.Decides.{nat_tests}
use Rattle.std.proofs.lemmas.Nat.{and_or_apart}
use Rattle.buffer_glyphs.specs.declared.info.hb_glyph_info_t.{hb_glyph_info_t}
use Rattle.buffer_glyphs.specs.Items.{Item, item_of, strip, without_flags}
use Rattle.buffer_glyphs.specs.Origins.{origin_of}
use Rattle.buffer_core.specs.Readings.{always}
use Rattle.buffer_core.specs.Sides.{Sides, all_glyphs, view_of}
use Rattle.buffer_stages.specs.Ready.{IsReady}
use Rattle.buffer_stages.specs.Stages.{IsFollowed, with_items_mapped}
use Rattle.buffer_stages.specs.Lemmas.Written.{read_followed}
use Rattle.script_hangul.specs.declared.masks.JamoMasks.{JamoMasks}
use Rattle.script_hangul.specs.Masks.{AreFlagless, mask_of, with_letter_mask}
use Rattle.buffer_stages.proofs.Lemmas.Masks.{mask_above}
use Rattle.buffer_facts.proofs.Bits.{either_without_three_bits as either}

mask_flagless : (masks : JamoMasks) (n : ℕ) → AreFlagless masks → bit_and (mask_of masks n) 7 ≡ 0
mask_flagless masks n e = either (n == 1) masks.ljmo (if n == 2 then masks.vjmo else if n == 3 then masks.tjmo else 0) e.ljmo (either (n == 2) masks.vjmo (if n == 3 then masks.tjmo else 0) e.vjmo (either (n == 3) masks.tjmo 0 e.tjmo refl))

pub masked_item : (masks : JamoMasks) (m : ℕ) (g h : hb_glyph_info_t) → m ≡ mask_of masks g.auxiliary → h ≡ record g { mask = bit_or g.mask m } → item_of h ≡ with_letter_mask masks (item_of g)
masked_item masks m g h e is = ap item_of is ∙ ap (λ k. record (item_of g) { mask = without_flags (bit_or g.mask k) }) e ∙ ap (λ k. record (item_of g) { mask = k }) (mask_above g.mask (mask_of masks g.auxiliary))

pub masked_origin : (masks : JamoMasks) (m : ℕ) (g h : hb_glyph_info_t) → AreFlagless masks → m ≡ mask_of masks g.auxiliary → h ≡ record g { mask = bit_or g.mask m } → origin_of h ≡ origin_of g
masked_origin masks m g h flagless e is = ap origin_of is ∙ ap (λ k. record { cluster = g.cluster; flags = bit_and (bit_or g.mask k) 7 }) e ∙ ap (λ n. record { cluster = g.cluster; flags = n }) (and_or_apart 7 g.mask (mask_of masks g.auxiliary) (mask_flagless masks g.auxiliary flagless))

-- ---- without masks

zero_mask : (masks : JamoMasks) (n : ℕ) → masks.ljmo ≡ 0 → masks.vjmo ≡ 0 → masks.tjmo ≡ 0 → mask_of masks n ≡ 0
zero_mask masks n l v t = first (n == 1)
  where
    third : (b : Bool) → (if b then masks.tjmo else 0) ≡ 0
    third true = t
    third false = refl

    second : (b : Bool) → (if b then masks.vjmo else if n == 3 then masks.tjmo else 0) ≡ 0
    second true = v
    second false = third (n == 3)

    first : (b : Bool) → (if b then masks.ljmo else if n == 2 then masks.vjmo else if n == 3 then masks.tjmo else 0) ≡ 0
    first true = l
    first false = second (n == 2)

item_stays : (masks : JamoMasks) (g : hb_glyph_info_t) → masks.ljmo ≡ 0 → masks.vjmo ≡ 0 → masks.tjmo ≡ 0 → with_letter_mask masks (item_of g) ≡ item_of g
item_stays masks g l v t =
    ap (λ k. record (item_of g) { mask = without_flags (bit_or (without_flags g.mask) k) }) (zero_mask masks g.auxiliary l v t)
    ∙ ap (λ m. record (item_of g) { mask = m }) (sym (mask_above g.mask 0) ∙ ap without_flags (or_zero_r g.mask))

items_stay : (masks : JamoMasks) (gs : List hb_glyph_info_t) → masks.ljmo ≡ 0 → masks.vjmo ≡ 0 → masks.tjmo ≡ 0 → map (with_letter_mask masks) (strip gs) ≡ strip gs
items_stay masks [] l v t = refl
items_stay masks (g ∷ gs) l v t = ap₂ (λ (x : Item) (xs : List Item). x ∷ xs) (item_stays masks g l v t) (items_stay masks gs l v t)

is_zero : (n : ℕ) → (n == 0) ≡ true → n ≡ 0
is_zero n e = grind (arith, nat_tests, e)

-- where no feature has a mask no item changes
pub none_masked : (masks : JamoMasks) (s : Sides) → IsReady s → (masks.ljmo == 0 && (masks.vjmo == 0 && masks.tjmo == 0)) ≡ true → IsFollowed (always (with_items_mapped (with_letter_mask masks))) s s
none_masked masks s ready e =
    let first = and_parts (masks.ljmo == 0) (masks.vjmo == 0 && masks.tjmo == 0) e in
    let others = and_parts (masks.vjmo == 0) (masks.tjmo == 0) first.1 in
    let stay = items_stay masks (all_glyphs s) (is_zero masks.ljmo first.0) (is_zero masks.vjmo others.0) (is_zero masks.tjmo others.1) in
    read_followed (with_items_mapped (with_letter_mask masks)) [] (view_of s) s s refl refl refl ready (ap (λ xs. record (view_of s) { items = xs }) stay) refl
