-- A text without default ignorables.
use Rattle.std.proofs.Common.{ℕ, ◌≡◌, ◌||◌, ◌&&◌, ◌==◌, Bool, true, false, if◌then◌else◌, List, [], ◌∷◌, length, map, refl, sym, ap, ap₂, ◌∙◌, arith}
use Rattle.std.specs.Prelude.{bit_and}
use Rattle.std.specs.List.{list_any}
use Rattle.std.proofs.lemmas.Bool.{or_parts}
use Rattle.std.proofs.lemmas.List.{length-map}
use Rattle.buffer_glyphs.specs.declared.info.hb_glyph_info_t.{hb_glyph_info_t}
use Rattle.buffer_glyphs.specs.Items.{Item, Position, item_of, strip}
use Rattle.buffer_glyphs.specs.PropertyWords.{is_default_ignorable}
use Rattle.buffer_core.specs.Readings.{always}
use Rattle.buffer_core.specs.Sides.{Sides, all_glyphs, items_of, view_of}
use Rattle.buffer_stages.specs.PositionMaps.{positions_mapped, with_positions_mapped}
use Rattle.buffer_stages.specs.Ready.{IsDone, IsReady}
use Rattle.buffer_stages.specs.Stages.{IsFollowed, with_items_mapped}
use Rattle.buffer_stages.specs.Lemmas.Written.{read_followed}
use Rattle.shape_glyphs.specs.Ignorables.{hidden_item, is_ignorable_character}
use Rattle.shape_glyphs.specs.Widths.{ignorable_position, widthless}
use Rattle.buffer_facts.proofs.Truth.{chosen_second as stays}

any_stripped : (gs : List hb_glyph_info_t) → list_any is_default_ignorable (strip gs) ≡ list_any (λ (g : hb_glyph_info_t). is_default_ignorable (item_of g)) gs
any_stripped [] = refl
any_stripped (g ∷ gs) = ap (λ b. is_default_ignorable (item_of g) || b) (any_stripped gs)

-- where no glyph was made of a default ignorable there is none
pub none_ignorable : (gs : List hb_glyph_info_t) → list_any (λ (g : hb_glyph_info_t). is_ignorable_character (item_of g)) gs ≡ false → false ≡ list_any (λ (g : hb_glyph_info_t). is_default_ignorable (item_of g)) gs
none_ignorable [] e = refl
none_ignorable (g ∷ gs) e =
    let both = or_parts (is_ignorable_character (item_of g)) (list_any (λ (h : hb_glyph_info_t). is_ignorable_character (item_of h)) gs) e in
    sym (ap₂ (λ a b. (a && bit_and (item_of g).glyph_props 16 == 0) || b) both.0 (sym (none_ignorable gs both.1)))

-- without default ignorables no item is replaced
items_stay : (glyph : ℕ) (xs : List Item) → list_any is_default_ignorable xs ≡ false → map (hidden_item glyph) xs ≡ xs
items_stay glyph [] e = refl
items_stay glyph (x ∷ xs) e =
    let both = or_parts (is_default_ignorable x) (list_any is_default_ignorable xs) e in
    ap₂ (λ (y : Item) (ys : List Item). y ∷ ys) (stays (is_default_ignorable x) x (record x { number = glyph }) both.0) (items_stay glyph xs both.1)

-- and no position is zeroed
positions_stay : (xs : List Item) (ps : List Position) → length ps ≡ length xs → list_any is_default_ignorable xs ≡ false → positions_mapped ignorable_position xs ps ≡ ps
positions_stay [] [] n e = refl
positions_stay [] (p ∷ ps) n e = absurd (omega (arith, n))
positions_stay (x ∷ xs) [] n e = refl
positions_stay (x ∷ xs) (p ∷ ps) n e =
    let both = or_parts (is_default_ignorable x) (list_any is_default_ignorable xs) e in
    ap₂ (λ (q : Position) (qs : List Position). q ∷ qs) (stays (is_default_ignorable x) p (widthless p) both.0) (positions_stay xs ps (omega (arith, n)) both.1)

-- ---- on a buffer

pub widths_stay : (s : Sides) → IsReady s → list_any (λ (g : hb_glyph_info_t). is_default_ignorable (item_of g)) (all_glyphs s) ≡ false → IsFollowed (always (with_positions_mapped ignorable_position)) s s
widths_stay s ready e =
    let many : length s.positions ≡ length (items_of s) = ready.placed ∙ sym (length-map (all_glyphs s) item_of) in
    let stay = positions_stay (items_of s) s.positions many (any_stripped (all_glyphs s) ∙ e) in
    read_followed (with_positions_mapped ignorable_position) [] (view_of s) s s refl refl refl ready (ap (λ ps. record (view_of s) { positions = ps }) stay) refl

pub items_stay_done : (glyph : ℕ) (s : Sides) → IsReady s → list_any (λ (g : hb_glyph_info_t). is_default_ignorable (item_of g)) (all_glyphs s) ≡ false → IsDone (always (with_items_mapped (hidden_item glyph))) s s
items_stay_done glyph s ready e =
    let stay = items_stay glyph (items_of s) (any_stripped (all_glyphs s) ∙ e) in
    let f = read_followed (with_items_mapped (hidden_item glyph)) [] (view_of s) s s refl refl refl ready (ap (λ xs. record (view_of s) { items = xs }) stay) refl in
    record { follows = f.follows; settings = f.settings; ready = f.ready; numbers = λ h. h }
