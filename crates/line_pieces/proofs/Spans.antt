-- Lines between cuts.
use Rattle.std.proofs.Common.{ℕ, zero, suc, ℤ, pos, ◌≡◌, ◌≢◌, ◌≤◌, ◌<◌, ◌-◌, ◌*◌, ◌^◌, ◌==◌, ◌||◌, ◌&&◌, ◌↔◌, ◌-ℤ◌, ◌≤ℤ◌, neg_ℤ, Bool, true, false, if◌then◌else◌, List, [], ◌∷◌, length, of_z, to_z, w64, FitsSigned, arith, inl, inr, refl, sym, ap, subst, ◌∙◌}
use Rattle.std.specs.Prelude.{Some, None, int_le, slice_get}
use Rattle.std.proofs.lemmas.Bool.{cases_lt}
use Rattle.std.proofs.lemmas.Bool.Decides.{nat_tests}
use Rattle.std.proofs.lemmas.Grind.{common_steps}
use Rattle.std.proofs.lemmas.Int.{ints, to_z-of_z}
use Rattle.std.proofs.lemmas.List.{length-map}
use Rattle.std.proofs.lemmas.Option.{slice_get_within}
use Rattle.kuspveli.specs.buffer_common.Direction.{is_backward}
use Rattle.kuspveli.specs.buffer_common.declared.direction.Direction.{Direction}
use Rattle.kuspveli.specs.buffer_glyphs.declared.info.hb_glyph_info_t.{hb_glyph_info_t}
use Rattle.kuspveli.specs.buffer_glyphs.Items.{clusters}
use Rattle.kuspveli.specs.buffer_parts.Slices.{IsIn}
use Rattle.kuspveli.specs.shaping_buffer.buffer_core.Sides.{Sides, all_glyphs}
use Rattle.line_pieces.specs.declared.cuts.Cut.{Cut}
use Rattle.line_pieces.specs.declared.filling.Frame.{Frame}
use Rattle.line_pieces.specs.declared.steps.Step.{Step}
use Rattle.line_pieces.specs.Cuts.{IsCut, IsMeasured, IsWalked, glyph_range, line_of, own_glyphs, stays}
use Rattle.line_pieces.specs.Lines.{AreGlyphsOf, HasExactly, is_safe_at, paragraph_by, pen_before, width_between}
use Rattle.line_pieces.specs.Steps.{text_index, text_steps}
use Rattle.line_pieces.proofs.TextOrder.{text_count, text_step}
use Rattle.line_pieces.proofs.Walks.{pen_there}

-- in 64 bits one pen less another
difference : (m n : ℕ) (a b : ℤ) → m < 2 ^ 31 → n < 2 ^ 31 → neg_ℤ (pos (2 ^ 31 * m)) ≤ℤ a → a ≤ℤ pos (2 ^ 31 * m) → neg_ℤ (pos (2 ^ 31 * n)) ≤ℤ b → b ≤ℤ pos (2 ^ 31 * n) → to_z w64 (of_z w64 (to_z w64 (of_z w64 b) -ℤ to_z w64 (of_z w64 a))) ≡ b -ℤ a
difference m n a b few many low high under over = omega (arith, ints, few, many, low, high, under, over)

pub stays_by_width : (start last next : Cut) (width : ℤ) → IsMeasured start → IsMeasured next → FitsSigned w64 width → start.byte ≢ last.byte
    → int_le (to_z w64 (of_z w64 (to_z w64 (of_z w64 next.pen) -ℤ to_z w64 (of_z w64 start.pen)))) (to_z w64 (of_z w64 width)) ≡ stays width start last next
stays_by_width start last next width first second fits other =
    let apart : (start.byte == last.byte) ≡ false = grind (arith, nat_tests, common_steps, other) in
    ap (λ z. int_le z (to_z w64 (of_z w64 width))) (difference start.glyphs next.glyphs start.pen next.pen first.few second.few first.bounded.low first.bounded.high second.bounded.low second.bounded.high)
    ∙ ap (int_le (next.pen -ℤ start.pen)) (to_z-of_z w64 width fits)
    ∙ ap (λ t. t || int_le (next.pen -ℤ start.pen) width) (sym apart)

-- ---- cuts in order

some_at : (ss : List Step) (k : ℕ) → k < length ss → (s : Step) × (slice_get ss k ≡ Some s)
some_at [] k within = absurd (omega (arith, within))
some_at (s ∷ ss) zero within = (s, refl)
some_at (s ∷ ss) (suc k) within = some_at ss k (omega (arith, within))

-- no fewer glyphs are before a later byte
pub walked_ordered : (ss : List Step) (from to i j : ℕ) (pen other : ℤ) → IsWalked ss from i pen → IsWalked ss to j other → from ≤ to → i ≤ j
walked_ordered ss from to i j pen other first second le = elim (cases_lt j i) [
  | inl less ↦
      let inside = first.within in
      let one = some_at ss j (omega (arith, less, inside)) in
      let before = (first.split j one.0 one.1).0 less in
      let there = (second.split j one.0 one.1).1 (omega (arith, before, le)) in
      absurd (omega (arith, there))
  | inr more ↦ more
]

-- ---- the glyphs of a line

in_range : (b : Bool) (n k i j from to c : ℕ) → k < n → i ≤ j → j ≤ n → (text_index b n k < i) ↔ (c < from) → (text_index b n k < j) ↔ (c < to)
    → IsIn (if b then (n - j, n - i) else (i, j)) k ↔ IsIn (from, to) c
in_range false n k i j from to c within le most first second =
    (λ is. let low = is.0 in let high = is.1 in (above (λ less. let back = first.1 less in omega (arith, back, low)), second.0 high), λ is. let low = is.0 in let high = is.1 in (over (λ less. let back = first.0 less in omega (arith, back, low)), second.1 high))
  where
    above : (¬ (c < from)) → from ≤ c
    above never = elim (cases_lt c from) [ inl less ↦ absurd (never less) | inr more ↦ more ]

    over : (¬ (k < i)) → i ≤ k
    over never = elim (cases_lt k i) [ inl less ↦ absurd (never less) | inr more ↦ more ]
in_range true n k i j from to c within le most first second =
    (λ is. let low = is.0 in let high = is.1 in (above (λ less. let back = first.1 less in omega (arith, back, high, within)), second.0 (omega (arith, low, within, most))), λ is. let low = is.0 in let high = is.1 in (let there = second.1 high in omega (arith, there, within, most), over (λ less. let back = first.0 less in omega (arith, back, low))))
  where
    above : (¬ (c < from)) → from ≤ c
    above never = elim (cases_lt c from) [ inl less ↦ absurd (never less) | inr more ↦ more ]

    over : (¬ (n - 1 - k < i)) → k < n - i
    over never = elim (cases_lt (n - 1 - k) i) [ inl less ↦ absurd (never less) | inr more ↦ omega (arith, more, within) ]

module _ (d : Direction) (r : Sides) (same : length r.positions ≡ length (all_glyphs r)) where
  -- the paragraph's glyphs in the order of the text
  abbrev ss : List Step
  ss = text_steps d r

  abbrev ns : List ℕ
  ns = clusters (all_glyphs r)

  count : length ss ≡ length (all_glyphs r)
  count = text_count d r same

  exact_at : (from to i j : ℕ) (pen other : ℤ) (k c : ℕ) → IsWalked ss from i pen → IsWalked ss to j other → i ≤ j → slice_get ns k ≡ Some c
      → IsIn (if is_backward d then (length (all_glyphs r) - j, length (all_glyphs r) - i) else (i, j)) k ↔ IsIn (from, to) c
  exact_at from to i j pen other k c first second le at =
      let n = length (all_glyphs r) in
      let many : length ns ≡ n = length-map (all_glyphs r) (λ (g : hb_glyph_info_t). g.cluster) in
      let inside = slice_get_within ns k c at in
      let one = text_step d r k c same at in
      let t = text_index (is_backward d) n k in
      let most = second.within in
      let P : ℕ → Type 0 = λ m. (t < i) ↔ (m < from) in
      let Q : ℕ → Type 0 = λ m. (t < j) ↔ (m < to) in
      in_range (is_backward d) n k i j from to c (omega (arith, inside, many)) le (omega (arith, most, count)) (subst P one.of (first.split t one.step one.is)) (subst Q one.of (second.split t one.step one.is))

  range_is : (b : Bool) (f : Frame) (i j : ℕ) → f.direction ≡ d → f.count ≡ length (all_glyphs r) → is_backward d ≡ b → (bytes : ℕ × ℕ) → i ≤ j → j ≤ length (all_glyphs r)
      → ((k c : ℕ) → slice_get ns k ≡ Some c → IsIn (if b then (length (all_glyphs r) - j, length (all_glyphs r) - i) else (i, j)) k ↔ IsIn bytes c)
      → HasExactly ns bytes (if b then record { start = f.count - j; end = f.count - i } else record { start = i; end = j })
  range_is false f i j along all e bytes le most exact =
      let many : length ns ≡ length (all_glyphs r) = length-map (all_glyphs r) (λ (g : hb_glyph_info_t). g.cluster) in
      record { ordered = le; within = omega (arith, most, many); exact = exact }
  range_is true f i j along all e bytes le most exact =
      let many : length ns ≡ length (all_glyphs r) = length-map (all_glyphs r) (λ (g : hb_glyph_info_t). g.cluster) in
      record {
        ordered = omega (arith, le, most, all);
        within = omega (arith, all, many);
        exact = λ k c at. let P : ℕ → Type 0 = λ n. IsIn (n - j, n - i) k ↔ IsIn bytes c in subst P (sym all) (exact k c at);
      }

  -- the glyphs between two cuts are those of the bytes between
  range_exact : (f : Frame) (start end : Cut) → f.direction ≡ d → f.count ≡ length (all_glyphs r) → IsCut ss f.end start → IsCut ss f.end end → start.byte ≤ end.byte → HasExactly ns (start.byte, end.byte) (glyph_range f start.glyphs end.glyphs)
  range_exact f start end along all first second le =
      let i = start.glyphs in
      let j = end.glyphs in
      let ordered = walked_ordered ss start.byte end.byte i j start.pen end.pen first.walked second.walked le in
      let most = second.walked.within in
      let P : Direction → Type 0 = λ e. HasExactly ns (start.byte, end.byte) (if is_backward e then record { start = f.count - j; end = f.count - i } else record { start = i; end = j }) in
      subst P (sym along)
      (range_is (is_backward d) f i j along all refl (start.byte, end.byte) ordered (omega (arith, most, count)) (λ k c at. exact_at start.byte end.byte i j start.pen end.pen k c first.walked second.walked ordered at))

  -- the glyphs of a line between two cuts
  pub line_glyphs : (f : Frame) (breaks : List ℕ) (start end : Cut) → f.direction ≡ d → f.count ≡ length (all_glyphs r) → IsCut ss f.end start → IsCut ss f.end end → start.byte ≤ end.byte
      → AreGlyphsOf (paragraph_by d r f.end breaks f.widths) (line_of f start end) (own_glyphs f start end)
  line_glyphs f breaks start end along all first second le = by_flags start.is_safe end.is_safe first.safe second.safe
    where
      by_flags : (t u : Bool) → t ≡ is_safe_at ss f.end start.byte → u ≡ is_safe_at ss f.end end.byte
          → AreGlyphsOf (paragraph_by d r f.end breaks f.widths) (line_of f start end) (if t && u then Some (glyph_range f start.glyphs end.glyphs) else None)
      by_flags false u one two = ap (λ b. b && is_safe_at ss f.end end.byte) (sym one)
      by_flags true false one two = ap (λ b. b && is_safe_at ss f.end end.byte) (sym one) ∙ sym two
      by_flags true true one two = (ap (λ b. b && is_safe_at ss f.end end.byte) (sym one) ∙ sym two, range_exact f start end along all first second le)

-- the width of a line between two cuts
pub line_width : (ss : List Step) (end : ℕ) (start last : Cut) → IsCut ss end start → IsCut ss end last → last.pen -ℤ start.pen ≡ width_between ss start.byte last.byte
line_width ss end start last first second =
    ap (λ z. z -ℤ start.pen) (pen_there ss last.byte last.glyphs last.pen second.walked) ∙ ap (λ z. pen_before ss last.byte -ℤ z) (pen_there ss start.byte start.glyphs start.pen first.walked)
