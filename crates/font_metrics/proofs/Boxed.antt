-- The boxes of glyphs, step by step.
use Rattle.std.proofs.Common.{◌≡◌, ◌≢◌, ℕ, zero, suc, ◌+◌, ◌-◌, ◌<◌, ◌≤◌, Bool, List, [], ◌∷◌, ◌++◌, refl, sym, ap, ◌∙◌, append_assoc, arith}
use Rattle.font_metrics.specs.declared.boxes.GlyphBox.{GlyphBox}
use Rattle.font_metrics.specs.Advances.{bearing_at}
use Rattle.font_metrics.specs.Boxes.{outline_box, placed_box, glyf_boxes}

boxes_step : (loca : List ℕ) (is_long : Bool) (glyf hmtx : List ℕ) (long g count : ℕ) → count ≢ 0 → glyf_boxes loca is_long glyf hmtx long g count ≡ placed_box (outline_box loca is_long glyf g) (bearing_at hmtx long g) ∷ glyf_boxes loca is_long glyf hmtx long (g + 1) (count - 1)
boxes_step loca is_long glyf hmtx long g zero some = absurd (some refl)
boxes_step loca is_long glyf hmtx long g (suc count) some = let e : suc count - 1 ≡ count = omega arith in rw e refl

-- the box of one more glyph, and those after it
pub boxes_more : (loca : List ℕ) (is_long : Bool) (glyf hmtx : List ℕ) (long g count : ℕ) → g < count
    → glyf_boxes loca is_long glyf hmtx long g (count - g) ≡ placed_box (outline_box loca is_long glyf g) (bearing_at hmtx long g) ∷ glyf_boxes loca is_long glyf hmtx long (g + 1) (count - (g + 1))
boxes_more loca is_long glyf hmtx long g count inside =
    let some : count - g ≢ 0 = omega arith in
    let left : count - g - 1 ≡ count - (g + 1) = omega arith in
    let e : glyf_boxes loca is_long glyf hmtx long g (count - g) ≡ placed_box (outline_box loca is_long glyf g) (bearing_at hmtx long g) ∷ glyf_boxes loca is_long glyf hmtx long (g + 1) (count - g - 1) = boxes_step loca is_long glyf hmtx long g (count - g) some in
    rw left at e

-- one more box is done
pub box_pushed : (loca : List ℕ) (is_long : Bool) (glyf hmtx : List ℕ) (long g count : ℕ) (done all : List GlyphBox) → g < count → done ++ glyf_boxes loca is_long glyf hmtx long g (count - g) ≡ all
    → (done ++ placed_box (outline_box loca is_long glyf g) (bearing_at hmtx long g) ∷ []) ++ glyf_boxes loca is_long glyf hmtx long (g + 1) (count - (g + 1)) ≡ all
box_pushed loca is_long glyf hmtx long g count done all inside h = append_assoc done _ _ ∙ (ap (λ bs. done ++ bs) (sym (boxes_more loca is_long glyf hmtx long g count inside)) ∙ h)
