-- Stages of a text that has nothing for them to change.
use Rattle.std.proofs.Common.{ℕ, ◌≡◌, ◌==◌, ◌&&◌, ◌||◌, not, Bool, true, false, if◌then◌else◌, List, [], ◌∷◌, length, map, refl, sym, ap, ap₂, ◌∙◌, arith}
use Rattle.std.specs.List.{list_any}
use Rattle.std.proofs.lemmas.Bool.{or_parts}
use Rattle.std.proofs.lemmas.Grind.{common_steps}
use Rattle.std.proofs.lemmas.List.{length-map}
use Rattle.buffer_common.specs.declared.direction.Direction.{Direction}
use Rattle.layout_face.specs.declared.parts.FaceParts.{FaceParts}
use Rattle.buffer_glyphs.specs.declared.info.hb_glyph_info_t.{hb_glyph_info_t}
use Rattle.buffer_glyphs.specs.Items.{Item, Position, item_of, strip}
use Rattle.buffer_glyphs.specs.LigatureWords.{is_mark}
use Rattle.buffer_core.specs.Readings.{always}
use Rattle.buffer_core.specs.Sides.{Sides, all_glyphs, items_of, view_of}
use Rattle.buffer_properties.specs.Categories.{is_nonspacing_mark}
use Rattle.buffer_stages.specs.PositionMaps.{positions_mapped, with_positions_mapped}
use Rattle.buffer_stages.specs.Ready.{IsDone, IsReady}
use Rattle.buffer_stages.specs.Stages.{IsFollowed, with_items_mapped}
use Rattle.buffer_stages.specs.Lemmas.Written.{read_followed}
use Rattle.shape_fallback.specs.Classes.{fallback_class, item_with_fallback_class, with_fallback_classes}
use Rattle.shape_fallback.specs.Spaces.{is_own_space, is_typed_space, space_of_type, space_position, with_spaces}
use Rattle.shape_fallback.specs.Zeroing.{mark_zeroed, with_marks_zeroed, zeroed_position}
use Rattle.buffer_facts.proofs.Truth.{chosen_second as untouched}

any_stripped : (test : Item → Bool) (gs : List hb_glyph_info_t) → list_any test (strip gs) ≡ list_any (λ (g : hb_glyph_info_t). test (item_of g)) gs
any_stripped test [] = refl
any_stripped test (g ∷ gs) = ap (λ b. test (item_of g) || b) (any_stripped test gs)

-- without classes no space has a type
pub no_typed_space : (gs : List hb_glyph_info_t) → list_any (λ (g : hb_glyph_info_t). not (g.modified_combining_class == 0)) gs ≡ false → false ≡ list_any (λ (g : hb_glyph_info_t). is_typed_space (item_of g)) gs
no_typed_space [] e = refl
no_typed_space (g ∷ gs) e =
    let both = or_parts (not (g.modified_combining_class == 0)) (list_any (λ (h : hb_glyph_info_t). not (h.modified_combining_class == 0)) gs) e in
    sym (ap₂ (λ a b. (a && is_own_space (item_of g)) || b) both.0 (sym (no_typed_space gs both.1)))

-- items that fail a test stay, under a map that leaves such items
items_stay : (test : Item → Bool) (k : Item → Item) → ((x : Item) → test x ≡ false → k x ≡ x) → (xs : List Item) → list_any test xs ≡ false → map k xs ≡ xs
items_stay test k leaves [] e = refl
items_stay test k leaves (x ∷ xs) e =
    let both = or_parts (test x) (list_any test xs) e in
    ap₂ (λ (y : Item) (ys : List Item). y ∷ ys) (leaves x both.0) (items_stay test k leaves xs both.1)

-- and so do their positions
positions_stay : (test : Item → Bool) (k : Item → Position → Position) → ((x : Item) (p : Position) → test x ≡ false → k x p ≡ p) → (xs : List Item) (ps : List Position) → length ps ≡ length xs → list_any test xs ≡ false → positions_mapped k xs ps ≡ ps
positions_stay test k leaves [] [] n e = refl
positions_stay test k leaves [] (p ∷ ps) n e = absurd (omega (arith, n))
positions_stay test k leaves (x ∷ xs) [] n e = refl
positions_stay test k leaves (x ∷ xs) (p ∷ ps) n e =
    let both = or_parts (test x) (list_any test xs) e in
    ap₂ (λ (q : Position) (qs : List Position). q ∷ qs) (leaves x p both.0) (positions_stay test k leaves xs ps (omega (arith, n)) both.1)

items_followed : (test : Item → Bool) (k : Item → Item) → ((x : Item) → test x ≡ false → k x ≡ x) → (s : Sides) → IsReady s → list_any (λ (g : hb_glyph_info_t). test (item_of g)) (all_glyphs s) ≡ false → IsFollowed (always (with_items_mapped k)) s s
items_followed test k leaves s ready e =
    let stay = items_stay test k leaves (items_of s) (any_stripped test (all_glyphs s) ∙ e) in
    read_followed (with_items_mapped k) [] (view_of s) s s refl refl refl ready (ap (λ xs. record (view_of s) { items = xs }) stay) refl

positions_done : (test : Item → Bool) (k : Item → Position → Position) → ((x : Item) (p : Position) → test x ≡ false → k x p ≡ p) → (s : Sides) → IsReady s → list_any (λ (g : hb_glyph_info_t). test (item_of g)) (all_glyphs s) ≡ false → IsDone (always (with_positions_mapped k)) s s
positions_done test k leaves s ready e =
    let many : length s.positions ≡ length (items_of s) = ready.placed ∙ sym (length-map (all_glyphs s) item_of) in
    let stay = positions_stay test k leaves (items_of s) s.positions many (any_stripped test (all_glyphs s) ∙ e) in
    let f = read_followed (with_positions_mapped k) [] (view_of s) s s refl refl refl ready (ap (λ ps. record (view_of s) { positions = ps }) stay) refl in
    record { follows = f.follows; settings = f.settings; ready = f.ready; numbers = λ h. h }

-- without nonspacing marks no class changes
pub classes_stay : (s : Sides) → IsReady s → list_any (λ (g : hb_glyph_info_t). is_nonspacing_mark (item_of g)) (all_glyphs s) ≡ false → IsFollowed (always with_fallback_classes) s s
classes_stay s ready e = items_followed is_nonspacing_mark item_with_fallback_class (λ x f. untouched (is_nonspacing_mark x) x (record x { class = fallback_class x.number x.class }) f) s ready e

-- without glyphs of class MARK no advance is zeroed
pub widths_stay : (adjust : Bool) (s : Sides) → IsReady s → list_any (λ (g : hb_glyph_info_t). is_mark (item_of g)) (all_glyphs s) ≡ false → IsDone (always (with_marks_zeroed adjust)) s s
widths_stay adjust s ready e = positions_done is_mark (mark_zeroed adjust) (λ x p f. untouched (is_mark x) p (zeroed_position adjust p) f) s ready e

typeless : (d : Direction) (font : FaceParts) (c : ℕ) (p : Position) → not (c == 0) ≡ false → space_of_type d font c p ≡ p
typeless d font c p e = let none : c ≡ 0 = grind (arith, common_steps, e) in rw none refl

space_stays : (d : Direction) (font : FaceParts) (c : ℕ) (t own : Bool) (p : Position) → not (c == 0) ≡ t → (t && own) ≡ false → (if own then space_of_type d font c p else p) ≡ p
space_stays d font c t false p e f = refl
space_stays d font c false true p e f = typeless d font c p e
space_stays d font c true true p e f = cc

-- without spaces that have a type of their own no advance changes
pub spaces_stay : (font : FaceParts) (s : Sides) → IsReady s → list_any (λ (g : hb_glyph_info_t). is_typed_space (item_of g)) (all_glyphs s) ≡ false → IsDone (always (with_spaces font)) s s
spaces_stay font s ready e =
    let d = positions_done is_typed_space (space_position s.direction font) (λ x p f. space_stays s.direction font x.class (not (x.class == 0)) (is_own_space x) p refl f) s ready e in
    record { follows = d.follows; settings = d.settings; ready = d.ready; numbers = d.numbers }
