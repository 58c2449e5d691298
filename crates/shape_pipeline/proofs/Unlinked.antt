-- The first positions have no links.
use Rattle.std.proofs.Common.{ℕ, ◌≡◌, ◌==◌, Bool, true, false, if◌then◌else◌, List, [], ◌∷◌, length, map, refl, sym, ap, ap₂, subst, ◌∙◌, zero, suc}
use Rattle.std.specs.Prelude.{ℤ, nat_le, Option, Some, None, ◌+◌, ◌*◌, ◌/◌}
use Rattle.buffer_common.specs.Direction.{is_horizontal}
use Rattle.buffer_common.specs.declared.direction.Direction.{Direction}
use Rattle.buffer_glyphs.specs.Items.{Item, Position, zero_position}
use Rattle.buffer_core.specs.Readings.{BufferState, always}
use Rattle.buffer_core.specs.Sides.{Sides, items_of, view_of, zero_positions}
use Rattle.buffer_stages.specs.PositionMaps.{positions_mapped}
use Rattle.buffer_stages.specs.Lemmas.Written.{read_followed}
use Rattle.buffer_stages.specs.Ready.{IsDone}
use Rattle.buffer_stages.specs.Stages.{IsFollowed}
use Rattle.buffer_unicode.specs.declared.space.TheConstants.{SPACE_4_EM_18, SPACE_FIGURE, SPACE_PUNCTUATION, SPACE_NARROW}
use Rattle.layout_face.specs.declared.parts.FaceParts.{FaceParts}
use Rattle.layout_offsets.specs.Starting.{links_cleared, unattached_position}
use Rattle.shape_fallback.specs.Spaces.{digits, first_glyph, half, is_own_space, is_part_of_em, of_found, of_length, position_with_advance, space_of_type, space_position, stops, with_spaces}
use Rattle.shape_glyphs.specs.Advances.{default_position, on_horizontal_line, on_line, on_vertical_line, with_default_positions}
use Rattle.shape_pipeline.specs.Positioning.{positions_begun, with_zero_positions}
use Rattle.shape_pipeline.specs.Shaping.{Shaping}
use Rattle.shape_pipeline.proofs.Lemmas.Chains.{four_done}

-- ---- one position

-- a change of a position that leaves links alone
abbrev LeavesLinks : (Position → Position) → Type 0
LeavesLinks f = (p : Position) → unattached_position (f p) ≡ f (unattached_position p)

if_leaves : (b : Bool) (f g : Position → Position) → LeavesLinks f → LeavesLinks g → LeavesLinks (λ p. if b then f p else g p)
if_leaves true f g h k p = h p
if_leaves false f g h k p = k p

line_leaves : (d : Direction) (font : FaceParts) (n : ℕ) → LeavesLinks (on_line d font n)
line_leaves d font n = if_leaves (is_horizontal d) (on_horizontal_line font n) (on_vertical_line font n) (λ p. refl) (λ p. refl)

default_leaves : (d : Direction) (font : FaceParts) (x : Item) → LeavesLinks (default_position d font x)
default_leaves d font x = if_leaves (nat_le x.number 65535) (on_line d font x.number) (λ p. p) (line_leaves d font x.number) (λ p. refl)

advance_leaves : (d : Direction) (a : ℤ) → LeavesLinks (position_with_advance d a)
advance_leaves d a = if_leaves (is_horizontal d) (λ p. record p { x_advance = a }) (λ p. record p { y_advance = a }) (λ p. refl) (λ p. refl)

found_leaves : (d : Direction) (font : FaceParts) (glyph : Option ℕ) → LeavesLinks (of_found d font glyph)
found_leaves d font None p = refl
found_leaves d font (Some n) p = advance_leaves d _ p

half_leaves : (d : Direction) → LeavesLinks (half d)
half_leaves d p = advance_leaves d _ p

space_leaves : (d : Direction) (font : FaceParts) (type : ℕ) → LeavesLinks (space_of_type d font type)
space_leaves d font type =
    if_leaves (is_part_of_em type) (of_length d ((font.upem + type / 2) / type)) _ (λ p. advance_leaves d _ p)
    (if_leaves (type == SPACE_4_EM_18) (of_length d (font.upem * 4 / 18)) _ (λ p. advance_leaves d _ p)
    (if_leaves (type == SPACE_FIGURE) (of_found d font (first_glyph digits font)) _ (found_leaves d font (first_glyph digits font))
    (if_leaves (type == SPACE_PUNCTUATION) (of_found d font (first_glyph stops font)) _ (found_leaves d font (first_glyph stops font))
    (if_leaves (type == SPACE_NARROW) (half d) (λ p. p) (half_leaves d) (λ p. refl)))))

own_space_leaves : (d : Direction) (font : FaceParts) (x : Item) → LeavesLinks (space_position d font x)
own_space_leaves d font x = if_leaves (is_own_space x) (space_of_type d font x.class) (λ p. p) (space_leaves d font x.class) (λ p. refl)

-- ---- all positions

mapped_leaves : (k : Item → Position → Position) → ((x : Item) → LeavesLinks (k x)) → (xs : List Item) (ps : List Position) → map unattached_position (positions_mapped k xs ps) ≡ positions_mapped k xs (map unattached_position ps)
mapped_leaves k leaves [] ps = refl
mapped_leaves k leaves (x ∷ xs) [] = refl
mapped_leaves k leaves (x ∷ xs) (p ∷ ps) = ap₂ (λ (q : Position) (qs : List Position). q ∷ qs) (leaves x p) (mapped_leaves k leaves xs ps)

zero_unattached : (n : ℕ) → map unattached_position (zero_positions n) ≡ zero_positions n
zero_unattached zero = refl
zero_unattached (suc n) = ap (λ (qs : List Position). zero_position ∷ qs) (zero_unattached n)

-- positions that a map which leaves links alone makes of positions without links
still_unattached : (k : Item → Position → Position) → ((x : Item) → LeavesLinks (k x)) → (xs : List Item) (ps qs : List Position) → qs ≡ positions_mapped k xs ps → map unattached_position ps ≡ ps → map unattached_position qs ≡ qs
still_unattached k leaves xs ps qs e none = ap (map unattached_position) e ∙ mapped_leaves k leaves xs ps ∙ ap (positions_mapped k xs) none ∙ sym e

-- ---- on a buffer

abbrev seen_positions : BufferState → List Position
seen_positions r = r.view.positions

unattached_begun : (font : FaceParts) (s a b c : Sides) → IsDone (always with_zero_positions) s a → IsDone (always (with_default_positions font)) a b → IsDone (always (with_spaces font)) b c → map unattached_position c.positions ≡ c.positions
unattached_begun font s a b c f g h =
    let zero_ones : a.positions ≡ zero_positions (length s.positions) = ap seen_positions f.follows in
    let first : map unattached_position a.positions ≡ a.positions = ap (map unattached_position) zero_ones ∙ zero_unattached (length s.positions) ∙ sym zero_ones in
    let second : map unattached_position b.positions ≡ b.positions = still_unattached (default_position a.direction font) (default_leaves a.direction font) (items_of a) a.positions b.positions (ap seen_positions g.follows) first in
    still_unattached (space_position b.direction font) (own_space_leaves b.direction font) (items_of b) b.positions c.positions (ap seen_positions h.follows) second

-- the first positions, of which no link has to be cleared
pub begun_done : (p : Shaping) (s a b c new : Sides) → new ≡ c → IsDone (always with_zero_positions) s a → IsDone (always (with_default_positions p.font)) a b → IsDone (always (with_spaces p.font)) b c → IsDone (positions_begun p) s new
unfolding positions_begun
begun_done p s a b c new same f g h =
    let stay = unattached_begun p.font s a b c f g h in
    let cleared : IsFollowed (always links_cleared) c c = read_followed links_cleared [] (view_of c) c c refl refl refl h.ready (ap (λ ps. record (view_of c) { positions = ps }) stay) refl in
    let last : IsDone (always links_cleared) c c = record { follows = cleared.follows; settings = cleared.settings; ready = cleared.ready; numbers = λ are. are } in
    subst (λ n. IsDone (positions_begun p) s n) (sym same) (four_done (always with_zero_positions) (always (with_default_positions p.font)) (always (with_spaces p.font)) (always links_cleared) s a b c c f g h last)
