-- Lines that are filled with what they have in the end.
use Rattle.std.proofs.Common.{ℕ, ℤ, pos, ◌+◌, ◌-◌, ◌≡◌, ◌≤◌, ◌<◌, ◌^◌, ◌==◌, ◌&&◌, ◌||◌, ◌+ℤ◌, ◌≤ℤ◌, ◌<ℤ◌, neg_ℤ, true, false, if◌then◌else◌, List, [], ◌∷◌, ◌++◌, length, map, fold, take, get_or, of_z, to_z, w64, arith, inl, inr, refl, sym, ap, subst, ◌∙◌}
use Rattle.std.specs.Prelude.{None, Some, Result, Ok, Err, IfErr, IfOk, OnOk, int_le}
use Rattle.std.specs.List.{All}
use Rattle.std.proofs.lemmas.Bool.{cases_lt}
use Rattle.std.proofs.lemmas.Bool.Decides.{nat_tests}
use Rattle.std.proofs.lemmas.Grind.{common_steps}
use Rattle.std.proofs.lemmas.List.Elements.{All-nil, All-push, All-weaker}
use Rattle.std.proofs.lemmas.List.Sums.{fold_more}
use Rattle.kuspveli.specs.buffer_common.declared.direction.Direction.{Direction}
use Rattle.kuspveli.specs.buffer_glyphs.declared.position.GlyphPosition.{GlyphPosition}
use Rattle.kuspveli.specs.buffer_parts.Slices.{AreJoined}
use Rattle.kuspveli.specs.shaping_buffer.buffer_core.Sides.{Sides}
use Rattle.line_pieces.specs.declared.cuts.Cut.{Cut}
use Rattle.line_pieces.specs.declared.filling.Frame.{Frame}
use Rattle.line_pieces.specs.declared.lines.FillFault.{FillFault}
use Rattle.line_pieces.specs.declared.lines.FillFault.TheVariants as Fill
use Rattle.line_pieces.specs.declared.lines.FilledLine.{FilledLine}
use Rattle.line_pieces.specs.declared.lines.LineFault.TheVariants.{OutOfMemory, TooManyGlyphs, ClustersOutOfOrder, InvalidBreaks}
use Rattle.line_pieces.specs.declared.lines.LineGlyphs.{LineGlyphs}
use Rattle.line_pieces.specs.declared.lines.LineGlyphs.TheVariants.{Own, Shaped}
use Rattle.line_pieces.specs.declared.shaped_lines.LineTo.{LineTo}
use Rattle.line_pieces.specs.Breaks.{AreBreaksTo}
use Rattle.line_pieces.specs.Cuts.{IsBounded, IsCut, glyph_range, line_of}
use Rattle.line_pieces.specs.FilledLines.{AreFilledLines, FitsWidth, HasGlyphs, HasWidthBy, IsFillFaultOf, IsFilledLine, IsFull, IsShapedAgain, IsTooWide, are_safe_ends, filled_range, pen_past}
use Rattle.line_pieces.specs.Lines.{AreGlyphsOf, CanBeCut, IsNextEnd, MayEnd, Paragraph, is_safe_at, paragraph_of, same_widths, width_from}
use Rattle.line_pieces.specs.LinesInHand.{AreLinesTo, HasShaped, IsFirstPiece, IsLineFault, IsLineOfPage, IsLineTo, IsPage, IsReached, IsShapeFault, IsShapedTo, IsTaken, own_line, page_of, piece_end}
use Rattle.line_pieces.specs.Steps.{advance_along, text_steps}
use Rattle.line_pieces.proofs.Filled.{fits_if, joined_push, next_is_one, none_past, over_if}
use Rattle.line_pieces.proofs.Pieces.{next_piece, piece_may, pieces_rise}
use Rattle.line_pieces.proofs.Spans.{line_glyphs, line_width}
use Rattle.line_pieces.proofs.Walks.{bounded_more, moved}
use Rattle.buffer_facts.proofs.Numbers.{same_by_test as same_from}
use Rattle.buffer_facts.proofs.Truth.{neither_true as neither, either_true as or_cases}

-- ---- the width of glyphs

-- the pen after the first positions of a list
pub record IsPenAfter (d : Direction) (ps : List GlyphPosition) (i : ℕ) (pen : ℤ) : Type 0 where
  pub sum : pen ≡ fold (pen_past d) (pos 0) (take i ps)
  pub bounded : IsBounded i pen

pub pen_more : (d : Direction) (ps : List GlyphPosition) (i : ℕ) (p : GlyphPosition) (pen advance new : ℤ) → IsPenAfter d ps i pen → i < length ps → length ps < 2 ^ 31 → advance ≡ advance_along d (get_or ps i p)
    → neg_ℤ (pos (2 ^ 31)) ≤ℤ advance → advance ≤ℤ pos (2 ^ 31) → new ≡ to_z w64 (of_z w64 (pen +ℤ to_z w64 (of_z w64 advance))) → IsPenAfter d ps (i + 1) new
pen_more d ps i p pen advance new is within few along low high same =
    let onward : new ≡ pen +ℤ advance = same ∙ moved i pen advance (omega (arith, within, few)) is.bounded.low is.bounded.high low high in
    let total = fold_more (pen_past d) (pos 0) ps i p within in
    record {
      sum = onward ∙ ap (λ z. pen +ℤ z) along ∙ ap (λ z. z +ℤ advance_along d (get_or ps i p)) is.sum ∙ sym total;
      bounded = subst (IsBounded (i + 1)) (sym onward) (bounded_more i pen advance is.bounded low high);
    }

-- ---- a line and its width, by a relation of what shaping texts again gives

module _ (d : Direction) (Shapes : ℕ → ℕ → Sides → Type 0) (p : Paragraph) where
  has_width : (l : FilledLine) (g : LineGlyphs) → HasGlyphs d Shapes p l g → HasWidthBy d Shapes p l.start l.end (are_safe_ends p l.start l.end) l.width
  has_width l (Own r) has = subst (λ b. HasWidthBy d Shapes p l.start l.end b l.width) (sym has.0) has.2
  has_width l (Shaped r) has = subst (λ b. HasWidthBy d Shapes p l.start l.end b l.width) (sym has.0) (r, has.1, has.2)

  -- a line up to a piece doesn't fit
  pub too_wide : (from i : ℕ) (l : FilledLine) → IsLineTo d Shapes p from i l → int_le l.width (width_from p.widths l.start) ≡ false → IsTooWide d Shapes p from (piece_end p i)
  too_wide from i l is over = record {
    width = l.width;
    has =
        let P : ℕ → Type 0 = λ n. HasWidthBy d Shapes p n l.end (are_safe_ends p n l.end) l.width in
        let Q : ℕ → Type 0 = λ n. HasWidthBy d Shapes p from n (are_safe_ends p from n) l.width in
        subst Q is.end (subst P is.start (has_width l l.glyphs is.glyphs));
    over = let P : ℕ → Type 0 = λ n. width_from p.widths n <ℤ l.width in subst P is.start (over_if l.width (width_from p.widths l.start) over);
  }

  -- a line up to a piece fits by its width
  pub fits_width : (l : FilledLine) → int_le l.width (width_from p.widths l.start) ≡ true → FitsWidth p l
  fits_width l narrow = inl (fits_if l.width (width_from p.widths l.start) narrow)

  -- and one up to the first piece always
  pub fits_piece : (from i : ℕ) (l : FilledLine) → IsLineTo d Shapes p from i l → IsFirstPiece p from i → FitsWidth p l
  fits_piece from i l is first =
      let start = is.start in
      let end = is.end in
      inr (λ byte may above. let least = first.first byte may (omega (arith, above, start)) in omega (arith, least, end))

  -- a line that is the first piece alone, or fits
  pub may_fit : (from first i : ℕ) (l : FilledLine) → IsLineTo d Shapes p from i l → IsFirstPiece p from first → (i == first || int_le l.width (width_from p.widths l.start)) ≡ true → FitsWidth p l
  may_fit from first i l is at t = elim (or_cases (i == first) (int_le l.width (width_from p.widths l.start)) t) [
    | inl same ↦ fits_piece from i l is (subst (IsFirstPiece p from) (sym (same_from i first same)) at)
    | inr narrow ↦ fits_width l narrow
  ]

  -- a line of more pieces that doesn't
  pub may_not_fit : (from first i : ℕ) (l : FilledLine) → IsLineTo d Shapes p from i l → first ≤ i → (i == first || int_le l.width (width_from p.widths l.start)) ≡ false → (first < i) × IsTooWide d Shapes p from (piece_end p i)
  may_not_fit from first i l is le t =
      let tests = neither (i == first) (int_le l.width (width_from p.widths l.start)) t in
      let apart = tests.0 in
      let less : first < i = grind (arith, nat_tests, common_steps, apart, le) in
      (less, too_wide from i l is tests.1)

  module _ (rising : AreBreaksTo p.end 0 p.breaks) where
    full_before : (l : FilledLine) (next : ℕ) → IsNextEnd p l.end next → IsTooWide d Shapes p l.start next → IsFull d Shapes p l
    full_before l next after wide other is = subst (IsTooWide d Shapes p l.start) (next_is_one p l.end next other after is) wide

    full_at_end : (l : FilledLine) → p.end ≤ l.end → IsFull d Shapes p l
    full_at_end l le next is = let past = none_past p next rising is.may in let after = is.after in absurd (omega (arith, past, after, le))

    -- a line that fits, and doesn't with its next piece
    pub taken_before : (from : ℕ) (t : LineTo) → IsReached d Shapes p from t → IsTooWide d Shapes p from (piece_end p (t.piece + 1)) → IsTaken d Shapes p from t
    taken_before from t is wide = elim (cases_lt t.line.end p.end) [
      | inl before ↦
          let end = is.line.end in
          let after = next_piece p rising t.piece (omega (arith, before, end)) in
          let P : ℕ → Type 0 = λ n. IsNextEnd p n (piece_end p (t.piece + 1)) in
          let Q : ℕ → Type 0 = λ n. IsTooWide d Shapes p n (piece_end p (t.piece + 1)) in
          record { reached = is; full = full_before t.line (piece_end p (t.piece + 1)) (subst P (sym end) after) (subst Q (sym is.line.start) wide) }
      | inr le ↦ record { reached = is; full = full_at_end t.line le }
    ]

    -- a line that fits, up to the end of the text
    pub taken_at_end : (from : ℕ) (t : LineTo) → IsReached d Shapes p from t → p.end ≤ t.line.end → IsTaken d Shapes p from t
    taken_at_end from t is le = record { reached = is; full = full_at_end t.line le }

    -- a line up to a piece begins before the pieces after it end
    pub after_start : (from i j : ℕ) → from < piece_end p i → i ≤ j → from < piece_end p j
    after_start from i j less le = let rise = pieces_rise p rising i j le in omega (arith, less, rise)

    pub after_line : (from : ℕ) (t : LineTo) → IsReached d Shapes p from t → from < piece_end p (t.piece + 1)
    after_line from t is =
        let end = is.line.end in
        let some = is.line.some in
        let rise = pieces_rise p rising t.piece (t.piece + 1) (omega arith) in
        omega (arith, some, end, rise)

    -- no line ends after the end of the text
    pub line_within : (from : ℕ) (t : LineTo) → IsReached d Shapes p from t → t.line.end ≤ p.end
    line_within from t is = let end = is.line.end in let most = none_past p (piece_end p t.piece) rising (piece_may p rising t.piece) in omega (arith, end, most)

    -- lines so far, and one more
    pub lines_more : (from : ℕ) (ls : List FilledLine) (t : LineTo) → AreLinesTo d Shapes p from ls → IsTaken d Shapes p from t → AreLinesTo d Shapes p t.line.end (ls ++ t.line ∷ [])
    lines_more from ls t so is =
        let line = is.reached.line in
        let start = line.start in
        let some = line.some in
        record {
          joined = joined_push filled_range 0 t.line.end ls t.line (let P : ℕ → Type 0 = λ n. AreJoined 0 n (map filled_range ls) in subst P (sym start) so.joined) (omega (arith, start, some)) refl;
          each = All-push (IsLineOfPage d Shapes p) ls t.line so.each (record {
            line = record { end = subst (MayEnd p) (sym line.end) (piece_may p rising t.piece); glyphs = line.glyphs };
            fits = is.reached.fits;
            full = is.full;
          });
        }

    -- the piece after a line
    pub piece_after : (from : ℕ) (t : LineTo) → IsReached d Shapes p from t → t.line.end < p.end → IsFirstPiece p t.line.end (t.piece + 1)
    piece_after from t is before =
        let end = is.line.end in
        let P : ℕ → Type 0 = λ n. IsFirstPiece p n (t.piece + 1) in
        subst P (sym end) (next_piece p rising t.piece (omega (arith, before, end)))

  pub lines_begun : (start : Cut) (ls : List FilledLine) → start ≡ record { byte = 0; glyphs = 0; pen = pos 0; is_safe = true } → ls ≡ [] → AreLinesTo d Shapes p start.byte ls
  lines_begun start ls first none =
      let P : ℕ → Type 0 = λ n. AreLinesTo d Shapes p n ls in
      let Q : List FilledLine → Type 0 = λ ks. AreLinesTo d Shapes p 0 ks in
      subst P (sym (ap (λ (c : Cut). c.byte) first)) (subst Q (sym none) (record { joined = refl; each = All-nil (IsLineOfPage d Shapes p) }))

  -- ---- a line shaped again

  shaped_glyphs : (l : FilledLine) (g : LineGlyphs) → HasShaped d Shapes l g → are_safe_ends p l.start l.end ≡ false → HasGlyphs d Shapes p l g
  shaped_glyphs l (Own r) has again = absurd has
  shaped_glyphs l (Shaped r) has again = (again, has.0, has.1)

  pub shaped_to : (from to i : ℕ) (l : FilledLine) → IsShapedTo d Shapes from to l → to ≡ piece_end p i → from < to → are_safe_ends p from to ≡ false → IsLineTo d Shapes p from i l
  shaped_to from to i l is end some again =
      let start = is.start in
      let stop = is.end in
      record {
        start = start;
        end = stop ∙ end;
        some = omega (arith, some, stop);
        glyphs = shaped_glyphs l l.glyphs is.glyphs (ap (λ n. are_safe_ends p n l.end) start ∙ ap (are_safe_ends p from) stop ∙ again);
      }

pub shape_fault : {F : Type 0} (Shapes : ℕ → ℕ → Sides → Type 0) (Refuses : ℕ → ℕ → F → Type 0) (p : Paragraph) (from to : ℕ) (e : FillFault F) → IsShapeFault Shapes Refuses from to e → IsShapedAgain p from to → IsLineFault Shapes Refuses p e
shape_fault Shapes Refuses p from to (Fill.Cut e) is line = absurd is
shape_fault Shapes Refuses p from to (Fill.Shape e) is line = record { from = from; to = to; line = line; refused = is }
shape_fault Shapes Refuses p from to Fill.TooManyGlyphs is line = record { from = from; to = to; glyphs = is.0; line = line; shaped = is.1; many = is.2 }

-- ---- lines by cuts

-- whether breaks at two cuts are safe
pub safe_ends : (r : Sides) (f : Frame) (breaks : List ℕ) (start end : Cut) → IsCut (text_steps f.direction r) f.end start → IsCut (text_steps f.direction r) f.end end → are_safe_ends (page_of r f breaks) start.byte end.byte ≡ (start.is_safe && end.is_safe)
safe_ends r f breaks start end first second = sym (ap (λ b. b && end.is_safe) first.safe ∙ ap (λ b. is_safe_at (text_steps f.direction r) f.end start.byte && b) second.safe)

-- the line between two safe cuts
pub own_to : (Shapes : ℕ → ℕ → Sides → Type 0) (r : Sides) (f : Frame) (breaks : List ℕ) (start end : Cut) (i : ℕ) → IsPage r f breaks → IsCut (text_steps f.direction r) f.end start → IsCut (text_steps f.direction r) f.end end
    → end.byte ≡ piece_end (page_of r f breaks) i → start.byte < end.byte → (start.is_safe && end.is_safe) ≡ true → IsLineTo f.direction Shapes (page_of r f breaks) start.byte i (own_line f start end)
own_to Shapes r f breaks start end i page first second at some safe =
    let p = page_of r f breaks in
    let glyphs = line_glyphs f.direction r page.positions f breaks start end refl page.count first second (omega (arith, some)) in
    let own : AreGlyphsOf p (line_of f start end) (Some (glyph_range f start.glyphs end.glyphs)) =
    subst (λ b. AreGlyphsOf p (line_of f start end) (if b then Some (glyph_range f start.glyphs end.glyphs) else None)) safe glyphs in
    record { start = refl; end = at; some = some; glyphs = (own.0, own.1, line_width p.steps f.end start end first second) }

-- ---- all lines of a text

pub all_lines : (d : Direction) (Shapes : ℕ → ℕ → Sides → Type 0) (p : Paragraph) (ls : List FilledLine) → AreLinesTo d Shapes p p.end ls → AreFilledLines d Shapes p ls
all_lines d Shapes p ls is = record { joined = is.joined; each = All-weaker (IsLineOfPage d Shapes p) (IsFilledLine d Shapes p) (λ l one. one.line) ls is.each }

pub all_fit : (d : Direction) (Shapes : ℕ → ℕ → Sides → Type 0) (p : Paragraph) (ls : List FilledLine) → AreLinesTo d Shapes p p.end ls → All (FitsWidth p) ls
all_fit d Shapes p ls is = All-weaker (IsLineOfPage d Shapes p) (FitsWidth p) (λ l one. one.fits) ls is.each

pub all_full : (d : Direction) (Shapes : ℕ → ℕ → Sides → Type 0) (p : Paragraph) (ls : List FilledLine) → AreLinesTo d Shapes p p.end ls → All (IsFull d Shapes p) ls
all_full d Shapes p ls is = All-weaker (IsLineOfPage d Shapes p) (IsFull d Shapes p) (λ l one. one.full) ls is.each

pub fill_fault : {F : Type 0} (Shapes : ℕ → ℕ → Sides → Type 0) (Refuses : ℕ → ℕ → F → Type 0) (d : Direction) (r : Sides) (text breaks : List ℕ) (width : ℤ) (e : FillFault F) → CanBeCut d r text breaks
    → IsLineFault Shapes Refuses (paragraph_of d r (length text) breaks width) e → IsFillFaultOf Shapes Refuses d r text breaks width e
fill_fault Shapes Refuses d r text breaks width (Fill.Cut OutOfMemory) can is = tt
fill_fault Shapes Refuses d r text breaks width (Fill.Cut TooManyGlyphs) can is = absurd is
fill_fault Shapes Refuses d r text breaks width (Fill.Cut ClustersOutOfOrder) can is = absurd is
fill_fault Shapes Refuses d r text breaks width (Fill.Cut InvalidBreaks) can is = absurd is
fill_fault Shapes Refuses d r text breaks width (Fill.Shape e) can is = (can, is)
fill_fault Shapes Refuses d r text breaks width Fill.TooManyGlyphs can is = (can, is)

-- the same by a frame
pub filled_page : (d : Direction) (Shapes : ℕ → ℕ → Sides → Type 0) (r : Sides) (f : Frame) (n end : ℕ) (breaks : List ℕ) (width : ℤ) (ls : List FilledLine) → f ≡ record { direction = d; count = n; end = end; widths = same_widths width }
    → AreLinesTo f.direction Shapes (page_of r f breaks) f.end ls → AreLinesTo d Shapes (paragraph_of d r end breaks width) end ls
filled_page d Shapes r f n end breaks width ls same is = let P : Frame → Type 0 = λ g. AreLinesTo g.direction Shapes (page_of r g breaks) g.end ls in subst P same is

pub page_fault : {F : Type 0} (Shapes : ℕ → ℕ → Sides → Type 0) (Refuses : ℕ → ℕ → F → Type 0) (d : Direction) (r : Sides) (f : Frame) (n end : ℕ) (breaks : List ℕ) (width : ℤ) (e : FillFault F) → f ≡ record { direction = d; count = n; end = end; widths = same_widths width }
    → IsLineFault Shapes Refuses (page_of r f breaks) e → IsLineFault Shapes Refuses (paragraph_of d r end breaks width) e
page_fault Shapes Refuses d r f n end breaks width e same is = let P : Frame → Type 0 = λ g. IsLineFault Shapes Refuses (page_of r g breaks) e in subst P same is

-- ---- results

pub on_ok : {T E : Type 0} (r : Result T E) (P : Type 0) → P → OnOk r P
on_ok (Ok x) P is = is
on_ok (Err e) P is = tt

pub if_ok : {T E : Type 0} (r : Result T E) (P Q : T → Type 0) → ((x : T) → P x → Q x) → IfOk r P → IfOk r Q
if_ok (Ok x) P Q f is = f x is
if_ok (Err e) P Q f is = is

pub if_err : {T E : Type 0} (r : Result T E) (P Q : E → Type 0) → ((e : E) → P e → Q e) → IfErr r P → IfErr r Q
if_err (Ok x) P Q f is = is
if_err (Err e) P Q f is = f e is
