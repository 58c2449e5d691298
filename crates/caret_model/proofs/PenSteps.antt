-- The pen along the glyphs, and the carets that it leaves.
use Rattle.std.proofs.Common.{ℕ, ℤ, pos, ◌≡◌, ◌≤◌, ◌<◌, ◌+◌, ◌*◌, ◌^◌, ◌+ℤ◌, ◌≤ℤ◌, neg_ℤ, List, [], ◌∷◌, ◌++◌, length, map, take, drop, get_or, of_z, to_z, w32, w64, arith, refl, sym, ap, subst, ◌∙◌}
use Rattle.std.specs.Int.RustNames.{FitsSigned}
use Rattle.std.proofs.lemmas.Int.{ints}
use Rattle.std.proofs.lemmas.List.{drop_more, drop_all, get_or_default, length-map, map_more, take_all}
use Rattle.std.proofs.lemmas.List.Sums.{fold_more}
use Rattle.kuspveli.specs.buffer_common.Direction.{is_backward}
use Rattle.kuspveli.specs.buffer_common.declared.direction.Direction.{Direction}
use Rattle.kuspveli.specs.buffer_glyphs.declared.info.hb_glyph_info_t.{hb_glyph_info_t}
use Rattle.kuspveli.specs.buffer_glyphs.declared.position.GlyphPosition.{GlyphPosition}
use Rattle.kuspveli.specs.buffer_glyphs.Items.{clusters}
use Rattle.kuspveli.specs.buffer_parts.Slices.{AreJoined}
use Rattle.kuspveli.specs.shape_slices.declared.slices.SourceSlice.{SourceSlice}
use Rattle.kuspveli.specs.shape_slices.Runs.{AreSourceSlices, along_glyphs, byte_range, glyph_range}
use Rattle.caret_model.specs.declared.carets.Caret.{Caret}
use Rattle.caret_model.specs.Lines.{IsLine, advance_along, caret_bytes, carets_of, last_caret, left_byte, pen_at, run_caret}
use Rattle.caret_model.specs.Pens.{IsPenAt}
use Rattle.caret_model.proofs.Joins.{joined_rises}

-- the pen after the glyph at an index
pub pen_more : (d : Direction) (ps : List GlyphPosition) (k : ℕ) (p : GlyphPosition) (pen : ℤ) → k < length ps → p ≡ get_or ps k p → FitsSigned w32 (advance_along d p) → IsPenAt d ps k pen → IsPenAt d ps (k + 1) (pen +ℤ advance_along d p)
pen_more d ps k p pen within read fits is =
    let low = is.low in
    let high = is.high in
    record {
      sum = ap (λ z. z +ℤ advance_along d p) is.sum ∙ ap (λ q. pen_at d ps k +ℤ advance_along d q) read ∙ sym (fold_more (λ z q. z +ℤ advance_along d q) (pos 0) ps k p within);
      low = low_more k (advance_along d p) pen fits low;
      high = high_more k (advance_along d p) pen fits high;
    }
  where
    low_more : (n : ℕ) (a z : ℤ) → FitsSigned w32 a → neg_ℤ (pos (2 ^ 31 * n)) ≤ℤ z → neg_ℤ (pos (2 ^ 31 * (n + 1))) ≤ℤ (z +ℤ a)
    low_more n a z fits low = omega (arith, ints, fits, low)

    high_more : (n : ℕ) (a z : ℤ) → FitsSigned w32 a → z ≤ℤ pos (2 ^ 31 * n) → (z +ℤ a) ≤ℤ pos (2 ^ 31 * (n + 1))
    high_more n a z fits high = omega (arith, ints, fits, high)

-- in 64 bits the pen moves by the advance
moved : (k : ℕ) (pen from advance : ℤ) → k < 2 ^ 32 → from ≡ to_z w32 (of_z w32 advance) → FitsSigned w32 advance → neg_ℤ (pos (2 ^ 31 * k)) ≤ℤ pen → pen ≤ℤ pos (2 ^ 31 * k) → to_z w64 (of_z w64 (pen +ℤ to_z w64 (of_z w64 from))) ≡ pen +ℤ advance
moved k pen from advance few cast fits low high = omega (arith, ints, few, cast, fits, low, high)

-- the pen after the next glyph, as the code moves it
pub pen_moved : (d : Direction) (ps : List GlyphPosition) (k : ℕ) (e : GlyphPosition) (pen from advance : ℤ) → k < length ps → length ps < 2 ^ 32 → advance ≡ advance_along d (get_or ps k e) → FitsSigned w32 advance → from ≡ to_z w32 (of_z w32 advance) → IsPenAt d ps k pen
    → IsPenAt d ps (k + 1) (to_z w64 (of_z w64 (pen +ℤ to_z w64 (of_z w64 from))))
pen_moved d ps k e pen from advance within few same fits cast is =
    let p = get_or ps k e in
    let P : ℤ → Type 0 = λ z. FitsSigned w32 z in
    let there = moved k pen from advance (omega (arith, within, few)) cast fits is.low is.high in
    let onward : pen +ℤ advance ≡ pen +ℤ advance_along d p = ap (λ z. pen +ℤ z) same in
    subst (IsPenAt d ps (k + 1)) (sym (there ∙ onward)) (pen_more d ps k p pen within (get_or_default ps k e p within) (subst P same fits) is)

-- ---- the carets of the runs so far

-- a caret before a byte
abbrev pub caret_of : ℕ → ℤ → Caret
caret_of b z = record { byte = b; position = z }

pub record AreCaretsTo (d : Direction) (ps : List GlyphPosition) (ss : List SourceSlice) (i at : ℕ) (z : ℤ) (cs : List Caret) : Type 0 where
  pub carets : cs ≡ map (run_caret d ps) (take i ss)
  pub pen : IsPenAt d ps at z
  pub rest : AreJoined at (length ps) (map glyph_range (drop i ss))

-- the run at an index begins where those before it end
pub next_run : (d : Direction) (ps : List GlyphPosition) (ss : List SourceSlice) (i at : ℕ) (pen : ℤ) (cs : List Caret) (s : SourceSlice) → AreCaretsTo d ps ss i at pen cs → i < length ss → s ≡ get_or ss i s
    → (s.first_glyph ≡ at) × (at ≤ s.end_glyph) × (s.end_glyph ≤ length ps) × AreJoined s.end_glyph (length ps) (map glyph_range (drop (i + 1) ss))
next_run d ps ss i at pen cs s are within read =
    let P : List SourceSlice → Type 0 = λ rs. AreJoined at (length ps) (map glyph_range rs) in
    let Q : SourceSlice → Type 0 = λ r. P (r ∷ drop (i + 1) ss) in
    let here : P (s ∷ drop (i + 1) ss) = subst Q (sym read) (subst P (drop_more ss i s within) are.rest) in
    let first = here.0 in
    let some = here.1 in
    let up = joined_rises s.end_glyph (length ps) (map glyph_range (drop (i + 1) ss)) here.2 in
    (first, omega (arith, first, some), up, here.2)

-- with the caret of the next run
pub carets_more : (d : Direction) (ps : List GlyphPosition) (ss : List SourceSlice) (i at : ℕ) (pen next : ℤ) (cs : List Caret) (s : SourceSlice) → AreCaretsTo d ps ss i at pen cs → i < length ss → s ≡ get_or ss i s → IsPenAt d ps s.end_glyph next
    → AreCaretsTo d ps ss (i + 1) s.end_glyph next (cs ++ caret_of (left_byte (is_backward d) s) pen ∷ [])
carets_more d ps ss i at pen next cs s are within read is =
    let run = next_run d ps ss i at pen cs s are within read in
    let here : pen ≡ pen_at d ps s.first_glyph = are.pen.sum ∙ ap (pen_at d ps) (sym run.0) in
    let b = left_byte (is_backward d) s in
    let caret : caret_of b pen ≡ run_caret d ps (get_or ss i s) = ap (λ z. caret_of b z) here ∙ ap (run_caret d ps) read in
    record {
      carets = ap (λ ds. ds ++ caret_of b pen ∷ []) are.carets ∙ ap (λ e. map (run_caret d ps) (take i ss) ++ e ∷ []) caret ∙ sym (map_more (run_caret d ps) ss i s within);
      pen = is;
      rest = run.3;
    }

-- the run at an index is of glyphs that have positions
pub run_ends : (d : Direction) (ps : List GlyphPosition) (ss : List SourceSlice) (i at : ℕ) (pen : ℤ) (cs : List Caret) (e : SourceSlice) → AreCaretsTo d ps ss i at pen cs → i < length ss → (at ≤ (get_or ss i e).end_glyph) × ((get_or ss i e).end_glyph ≤ length ps)
run_ends d ps ss i at pen cs e are within = let run = next_run d ps ss i at pen cs (get_or ss i e) are within (get_or_default ss i e (get_or ss i e) within) in (run.1, run.2)

-- the carets with that of the next run, as the code adds it
pub caret_added : (d : Direction) (ps : List GlyphPosition) (ss : List SourceSlice) (i at : ℕ) (pen next : ℤ) (cs new : List Caret) (e : SourceSlice) (b : ℕ) → AreCaretsTo d ps ss i at pen cs → i < length ss → IsPenAt d ps (get_or ss i e).end_glyph next
    → b ≡ left_byte (is_backward d) (get_or ss i e) → new ≡ cs ++ caret_of b pen ∷ [] → AreCaretsTo d ps ss (i + 1) (get_or ss i e).end_glyph next new
caret_added d ps ss i at pen next cs new e b are within is byte added =
    let s = get_or ss i e in
    let P : List Caret → Type 0 = λ ds. AreCaretsTo d ps ss (i + 1) s.end_glyph next ds in
    subst P (sym (added ∙ ap (λ n. cs ++ caret_of n pen ∷ []) byte)) (carets_more d ps ss i at pen next cs s are within (get_or_default ss i e s within) is)

-- ---- the bytes of carets

bytes_then : (d : Direction) (ps : List GlyphPosition) (ss : List SourceSlice) (last : Caret) → map (λ (c : Caret). c.byte) (map (run_caret d ps) ss ++ last ∷ []) ≡ map (left_byte (is_backward d)) ss ++ last.byte ∷ []
bytes_then d ps [] last = refl
bytes_then d ps (s ∷ ss) last = ap (λ ns. left_byte (is_backward d) s ∷ ns) (bytes_then d ps ss last)

pub bytes_of_carets : (d : Direction) (ps : List GlyphPosition) (end : ℕ) (ss : List SourceSlice) → map (λ (c : Caret). c.byte) (carets_of d ps end ss) ≡ caret_bytes (is_backward d) end ss
bytes_of_carets d ps end ss = bytes_then d ps ss (last_caret d ps end)

-- ---- a line

-- the runs of source slices are all glyphs that have positions
pub runs_join : (n end : ℕ) (gs : List hb_glyph_info_t) (ss : List SourceSlice) → n ≡ length gs → AreSourceSlices (clusters gs) end ss → AreJoined 0 n (map glyph_range ss)
runs_join n end gs ss many are =
    let P : ℕ → Type 0 = λ m. AreJoined 0 m (map glyph_range ss) in
    let as_many : length (clusters gs) ≡ n = length-map gs (λ (g : hb_glyph_info_t). g.cluster) ∙ sym many in
    subst P as_many are.glyphs

pub are_line : (d : Direction) (ps : List GlyphPosition) (end : ℕ) (ss : List SourceSlice) (cs : List Caret) → AreJoined 0 end (along_glyphs (is_backward d) (map byte_range ss)) → cs ≡ carets_of d ps end ss
    → IsLine (record { slices = ss; carets = cs; backward = is_backward d; end = end })
are_line d ps end ss cs joined same = record { joined = joined; bytes = ap (map (λ (c : Caret). c.byte)) same ∙ bytes_of_carets d ps end ss }
