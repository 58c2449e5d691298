-- A text without marks.
use Rattle.std.proofs.Common.{ℕ, ◌≡◌, ◌+◌, ◌==◌, ◌||◌, Bool, true, false, if◌then◌else◌, List, [], ◌∷◌, ◌++◌, length, refl, sym, ap, ◌∙◌, arith}
use Rattle.std.specs.List.{list_any}
use Rattle.std.proofs.lemmas.List.{length-map}
use Rattle.buffer_common.specs.declared.direction.Direction.{Direction}
use Rattle.layout_face.specs.declared.parts.FaceParts.{FaceParts}
use Rattle.buffer_glyphs.specs.Items.{Item, Position, item_of, strip}
use Rattle.buffer_glyphs.specs.declared.info.hb_glyph_info_t.{hb_glyph_info_t}
use Rattle.buffer_glyphs.specs.Events.{Break}
use Rattle.buffer_core.specs.Readings.{View, always}
use Rattle.buffer_core.specs.Sides.{Sides, all_glyphs, items_of, view_of}
use Rattle.buffer_stages.specs.Lemmas.Written.{read_followed}
use Rattle.buffer_stages.specs.Ready.{IsDone, IsReady}
use Rattle.buffer_properties.specs.Characters.{is_mark}
use Rattle.shape_fallback.specs.declared.around.Placing.{Placing}
use Rattle.shape_fallback.specs.declared.marks.Before.{Before}
use Rattle.shape_fallback.specs.declared.marks.Before.TheVariants.{Nothing}
use Rattle.shape_fallback.specs.declared.marks.Step.{Step}
use Rattle.shape_fallback.specs.Marks.{base_events, is_left_to_right, marks, positioned_marks, step, step_of_mark, with_positioned_marks}
use Rattle.buffer_facts.proofs.Truth.{neither_true as neither}

by_step : (b : Bool) (s t : Step) (p : Position) → b ≡ false → t.position ≡ p → (if b then s else t).position ≡ p
by_step true s t p e h = cc
by_step false s t p e h = h

base_stays : (font : FaceParts) (by : Placing) (x : Item) (p : Position) (before : Before) → is_mark x ≡ false → (step font by x p before).position ≡ p
base_stays font by x p before e = by_step (is_mark x) (step_of_mark font by x p before) _ p e refl

none_placed : (font : FaceParts) (by : Placing) (before : Before) (xs : List Item) (ps : List Position) → list_any is_mark xs ≡ false → length ps ≡ length xs → positioned_marks font by before xs ps ≡ ps
none_placed font by before [] [] e n = refl
none_placed font by before [] (p ∷ ps) e n = absurd (omega (arith, n))
none_placed font by before (x ∷ xs) [] e n = refl
none_placed font by before (x ∷ xs) (p ∷ ps) e n =
    let both = neither (is_mark x) (list_any is_mark xs) e in
    rw (base_stays font by x p before both.0, none_placed font by (step font by x p before).before xs ps both.1 (omega (arith, n))) refl

-- without marks all stay where they are
pub unmarked_stay : (font : FaceParts) (components : Direction) (adjust : Bool) (v : View) → list_any is_mark v.items ≡ false → length v.positions ≡ length v.items → (with_positioned_marks font components adjust v).view.positions ≡ v.positions
unmarked_stay font components adjust v e n = none_placed font (record { direction = v.direction; left_to_right = is_left_to_right components; adjust_offsets = adjust }) Nothing v.items v.positions e n

-- ---- on a buffer

unmarked_alone : (b : Bool) (xs : List Item) → b ≡ false → list_any is_mark xs ≡ false → (b || marks xs == 0) ≡ true
unmarked_alone true xs e f = cc
unmarked_alone false [] e f = refl
unmarked_alone false (x ∷ xs) e f = rw (neither (is_mark x) (list_any is_mark xs) f).0 refl

-- without marks no base is flagged
unmarked_events : (at : ℕ) (xs : List Item) → list_any is_mark xs ≡ false → base_events at xs ≡ []
unmarked_events at [] e = refl
unmarked_events at (x ∷ xs) e =
    let both = neither (is_mark x) (list_any is_mark xs) e in
    ap (λ b. (if b then [] else Break at (at + 1 + marks xs) ∷ []) ++ base_events (at + 1) xs) (unmarked_alone (is_mark x) xs both.0 both.1)
    ∙ unmarked_events (at + 1) xs both.1

any_stripped : (gs : List hb_glyph_info_t) → list_any is_mark (strip gs) ≡ list_any (λ (g : hb_glyph_info_t). is_mark (item_of g)) gs
any_stripped [] = refl
any_stripped (g ∷ gs) = ap (λ b. is_mark (item_of g) || b) (any_stripped gs)

-- without marks nothing is to be done
pub unmarked_done : (font : FaceParts) (components : Direction) (adjust : Bool) (s : Sides) → IsReady s → list_any (λ (g : hb_glyph_info_t). is_mark (item_of g)) (all_glyphs s) ≡ false
    → IsDone (always (with_positioned_marks font components adjust)) s s
unmarked_done font components adjust s ready e =
    let none : list_any is_mark (items_of s) ≡ false = any_stripped (all_glyphs s) ∙ e in
    let many : length s.positions ≡ length (items_of s) = ready.placed ∙ sym (length-map (all_glyphs s) item_of) in
    let stay = unmarked_stay font components adjust (view_of s) none many in
    let f = read_followed (with_positioned_marks font components adjust) [] (view_of s) s s refl refl refl ready (ap (λ ps. record (view_of s) { positions = ps }) stay) (unmarked_events 0 (items_of s) none) in
    record { follows = f.follows; settings = f.settings; ready = f.ready; numbers = λ h. h }
