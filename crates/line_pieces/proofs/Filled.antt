-- Lines that are filled piece by piece.
use Rattle.std.proofs.Common.{ℕ, ℤ, pos, ◌+◌, ◌≡◌, ◌≤◌, ◌<◌, ◌^◌, ◌==◌, ◌-ℤ◌, ◌≤ℤ◌, ◌<ℤ◌, ◌⊎◌, Bool, true, false, if◌then◌else◌, List, [], ◌∷◌, ◌++◌, length, map, drop, get_or, arith, inl, inr, refl, sym, subst, ◌∙◌}
use Rattle.std.specs.Prelude.{int_le}
use Rattle.std.specs.List.{All}
use Rattle.std.proofs.lemmas.Bool.{cases_lt}
use Rattle.std.proofs.lemmas.Bool.Decides.{nat_tests}
use Rattle.std.proofs.lemmas.Grind.{common_steps}
use Rattle.std.proofs.lemmas.Int.{ints}
use Rattle.std.proofs.lemmas.List.{drop_all, drop_more}
use Rattle.std.proofs.lemmas.List.Elements.{All-push}
use Rattle.kuspveli.specs.buffer_common.declared.direction.Direction.{Direction}
use Rattle.kuspveli.specs.buffer_glyphs.Lemmas.Numbers.{Has, has_cases, has_here, has_more}
use Rattle.kuspveli.specs.buffer_parts.Slices.{AreJoined}
use Rattle.kuspveli.specs.shaping_buffer.buffer_core.Sides.{Sides, all_glyphs}
use Rattle.line_pieces.specs.declared.cuts.Cut.{Cut}
use Rattle.line_pieces.specs.declared.filling.Frame.{Frame}
use Rattle.line_pieces.specs.declared.lines.Line.{Line}
use Rattle.line_pieces.specs.declared.steps.Step.{Step}
use Rattle.line_pieces.specs.Breaks.{AreBreaks, AreBreaksTo}
use Rattle.line_pieces.specs.Cuts.{IsCountedTo, IsCut, IsMeasured, IsPieceAdded, line_of, stays, with_line}
use Rattle.line_pieces.specs.Lines.{AreLines, Fits, IsLine, IsNextEnd, MayEnd, Paragraph, byte_range, paragraph_by, width_between, width_from}
use Rattle.line_pieces.specs.Steps.{text_steps}
use Rattle.line_pieces.proofs.TextOrder.{text_count}
use Rattle.line_pieces.proofs.Spans.{line_glyphs, line_width, walked_ordered}
use Rattle.buffer_facts.proofs.Truth.{neither_true as neither, either_true as or_cases}
use Rattle.buffer_facts.proofs.Numbers.{same_by_test as same_from}

-- ---- breaks

-- breaks that are left after a byte
pub record AreLeft (p : Paragraph) (last : ℕ) (bs : List ℕ) : Type 0 where
  pub within : last ≤ p.end
  pub breaks : AreBreaksTo p.end last bs
  pub among : (b : ℕ) → Has bs b → Has p.breaks b
  pub later : (b : ℕ) → MayEnd p b → last < b → Has bs b ⊎ (b ≡ p.end)

break_after : (end last b : ℕ) (bs : List ℕ) → AreBreaksTo end last bs → Has bs b → (last < b) × (b ≤ end)
break_after end last b [] is has = cc
break_after end last b (a ∷ bs) is has =
    let first = is.0 in
    let most = is.1 in
    elim (has_cases a b bs has) [
      | inl same ↦ (omega (arith, first, same), omega (arith, most, same))
      | inr later ↦ let rest = break_after end a b bs is.2 later in let after = rest.0 in (omega (arith, after, first), rest.1)
    ]

-- breaks of a text of bytes rise, and none is past its end
pub breaks_to_end : (text : List ℕ) (last : ℕ) (bs : List ℕ) → AreBreaks text last bs → AreBreaksTo (length text) last bs
breaks_to_end text last [] is = tt
breaks_to_end text last (b ∷ bs) is = (is.0, is.1.0, breaks_to_end text b bs is.2)

pub all_left : (p : Paragraph) → AreBreaksTo p.end 0 p.breaks → AreLeft p 0 p.breaks
all_left p is = record { within = omega arith; breaks = is; among = λ b has. has; later = λ b may after. may }

-- the next break, and those after it
pub next_left : (p : Paragraph) (last b : ℕ) (bs : List ℕ) → AreLeft p last (b ∷ bs) → IsNextEnd p last b × AreLeft p b bs
next_left p last b bs is = (
  record { may = inl (is.among b (has_here b bs)); after = is.breaks.0; first = first },
  record { within = is.breaks.1; breaks = is.breaks.2; among = λ a has. is.among a (has_more b a bs has); later = later },
)
  where
    first : (a : ℕ) → MayEnd p a → last < a → b ≤ a
    first a may after = elim (is.later a may after) [
      | inl has ↦ elim (has_cases b a bs has) [ inl same ↦ omega (arith, same) | inr rest ↦ let over = (break_after p.end b a bs is.breaks.2 rest).0 in omega (arith, over) ]
      | inr same ↦ let most = is.breaks.1 in omega (arith, same, most)
    ]

    later : (a : ℕ) → MayEnd p a → b < a → Has bs a ⊎ (a ≡ p.end)
    later a may after = let before = is.breaks.0 in elim (is.later a may (omega (arith, after, before))) [
      | inl has ↦ elim (has_cases b a bs has) [ inl same ↦ absurd (omega (arith, same, after)) | inr rest ↦ inl rest ]
      | inr same ↦ inr same
    ]

-- the end of the text, where no break is left
pub end_left : (p : Paragraph) (last : ℕ) → AreLeft p last [] → last < p.end → IsNextEnd p last p.end
end_left p last is before = record { may = inr refl; after = before; first = λ a may after. elim (is.later a may after) [ inl has ↦ cc | inr same ↦ omega (arith, same) ] }

-- no line ends after the end of the text
pub none_past : (p : Paragraph) (b : ℕ) → AreBreaksTo p.end 0 p.breaks → MayEnd p b → b ≤ p.end
none_past p b is (inl has) = (break_after p.end 0 b p.breaks is has).1
none_past p b is (inr same) = omega (arith, same)

pub next_is_one : (p : Paragraph) (from a b : ℕ) → IsNextEnd p from a → IsNextEnd p from b → a ≡ b
next_is_one p from a b one two = let le = one.first b two.may two.after in let ge = two.first a one.may one.after in omega (arith, le, ge)

-- ---- lines so far

-- lines so far, and one that is being filled: all that is up to its last piece fits it
pub record IsFilledTo (p : Paragraph) (start last : Cut) (ls : List Line) : Type 0 where
  pub first : IsCut p.steps p.end start
  pub latest : IsCut p.steps p.end last
  pub ordered : start.byte ≤ last.byte
  pub ends : (start.byte ≡ last.byte) ⊎ MayEnd p last.byte
  pub fits : (b : ℕ) → MayEnd p b → start.byte < b → b ≤ last.byte → Fits p start.byte b
  pub joined : AreJoined 0 start.byte (map byte_range ls)
  pub each : All (IsLine p) ls

-- and the breaks that are left
pub record IsFilling (p : Paragraph) (start last : Cut) (ls : List Line) (bs : List ℕ) : Type 0 where
  pub filled : IsFilledTo p start last ls
  pub left : AreLeft p last.byte bs

-- neighbours, and one more after them
pub joined_push : {X : Type 0} (f : X → ℕ × ℕ) (from to : ℕ) (ls : List X) (l : X) → AreJoined from (f l).0 (map f ls) → (f l).0 < (f l).1 → (f l).1 ≡ to → AreJoined from to (map f (ls ++ l ∷ []))
joined_push f from to [] l joined some end = (sym joined, some, end)
joined_push f from to (k ∷ ls) l joined some end = (joined.0, joined.1, joined_push f (f k).1 to ls l joined.2 some end)

pub fits_if : (a b : ℤ) → int_le a b ≡ true → a ≤ℤ b
fits_if a b e = grind (arith, ints, e)

pub over_if : (a b : ℤ) → int_le a b ≡ false → b <ℤ a
over_if a b e = grind (arith, ints, e)

other_from : (m n : ℕ) → (m == n) ≡ false → m ≤ n → m < n
other_from m n e le = grind (arith, nat_tests, common_steps, e, le)

module _ (p : Paragraph) (start last next : Cut) (ls : List Line) (line : Line) (is : IsFilledTo p start last ls) (cut : IsCut p.steps p.end next) (after : IsNextEnd p last.byte next.byte) where
  up_to_next : (b : ℕ) → MayEnd p b → last.byte < b → b ≤ next.byte → b ≡ next.byte
  up_to_next b may above le = let least = after.first b may above in omega (arith, least, le)

  -- a piece that stays
  with_piece : stays (width_from p.widths start.byte) start last next ≡ true → IsFilledTo p start next ls
  with_piece e = record {
    first = is.first;
    latest = cut;
    ordered = let le = is.ordered in let less = after.after in omega (arith, le, less);
    ends = inr after.may;
    fits = fits;
    joined = is.joined;
    each = is.each;
  }
    where
      next_fits : Fits p start.byte next.byte
      next_fits = elim (or_cases (start.byte == last.byte) (int_le (next.pen -ℤ start.pen) (width_from p.widths start.byte)) e) [
        | inl empty ↦ inr (λ b may above. let same = same_from start.byte last.byte empty in after.first b may (omega (arith, above, same)))
        | inr narrow ↦ inl (subst (λ z. z ≤ℤ width_from p.widths start.byte) (line_width p.steps p.end start next is.first cut) (fits_if (next.pen -ℤ start.pen) (width_from p.widths start.byte) narrow))
      ]

      fits : (b : ℕ) → MayEnd p b → start.byte < b → b ≤ next.byte → Fits p start.byte b
      fits b may above le = elim (cases_lt last.byte b) [
        | inl past ↦ subst (Fits p start.byte) (sym (up_to_next b may past le)) next_fits
        | inr within ↦ is.fits b may above within
      ]

  -- a piece before which the line ends
  with_line_ended : (l : Line) → l.start ≡ start.byte → l.end ≡ last.byte → IsLine p l → start.byte < last.byte → IsFilledTo p last next (ls ++ l ∷ [])
  with_line_ended l from to ended some = record {
    first = is.latest;
    latest = cut;
    ordered = let less = after.after in omega (arith, less);
    ends = inr after.may;
    fits = λ b may above le. inr (λ a other over. let least = after.first a other over in omega (arith, least, le));
    joined = joined_push byte_range 0 last.byte ls l (subst (λ n. AreJoined 0 n (map byte_range ls)) (sym from) is.joined) (omega (arith, from, to, some)) to;
    each = All-push (IsLine p) ls l is.each ended;
  }

-- ---- the cuts of a paragraph

pub measured : (d : Direction) (r : Sides) (end n : ℕ) (c : Cut) → length r.positions ≡ length (all_glyphs r) → n ≡ length (all_glyphs r) → n < 2 ^ 31 → IsCut (text_steps d r) end c → IsMeasured c
measured d r end n c same all few is =
    let count = text_count d r same in
    let within = is.walked.within in
    record { few = omega (arith, count, within, all, few); bounded = is.walked.bounded }

pub counted : (d : Direction) (r : Sides) (f : Frame) (start last : Cut) → length r.positions ≡ length (all_glyphs r) → f.count ≡ length (all_glyphs r) → IsCut (text_steps d r) f.end start → IsCut (text_steps d r) f.end last → start.byte ≤ last.byte
    → IsCountedTo f start last
counted d r f start last same all first second le =
    let count = text_count d r same in
    let within = second.walked.within in
    record { ordered = walked_ordered (text_steps d r) start.byte last.byte start.glyphs last.glyphs start.pen last.pen first.walked second.walked le; within = omega (arith, count, within, all) }

-- the cut before a text
pub cut_first : (ss : List Step) (end : ℕ) → IsCut ss end (record { byte = 0; glyphs = 0; pen = pos 0; is_safe = true })
cut_first ss end = record {
  walked = record {
    within = omega arith;
    split = λ k s at. (λ less. absurd (omega (arith, less)), λ less. absurd (omega (arith, less)));
    sum = refl;
    bounded = record { low = omega arith; high = omega arith };
  };
  safe = refl;
}

pub first_filled : (p : Paragraph) (c : Cut) → c ≡ record { byte = 0; glyphs = 0; pen = pos 0; is_safe = true } → IsFilledTo p c c []
first_filled p c same = let P : Cut → Type 0 = λ b. IsFilledTo p b b [] in subst P (sym same) (record {
  first = cut_first p.steps p.end;
  latest = cut_first p.steps p.end;
  ordered = omega arith;
  ends = inl refl;
  fits = λ b may above le. absurd (omega (arith, above, le));
  joined = refl;
  each = λ k d within. absurd (omega (arith, within));
})

module _ (r : Sides) (f : Frame) (breaks : List ℕ) (same : length r.positions ≡ length (all_glyphs r)) (all : f.count ≡ length (all_glyphs r)) where
  abbrev p : Paragraph
  p = paragraph_by f.direction r f.end breaks f.widths

  -- the width that a line is to fit which begins at a cut
  abbrev width : Cut → ℤ
  width start = width_from f.widths start.byte

  -- a line that ends
  ended_line : (start last : Cut) (ls : List Line) → IsFilledTo p start last ls → start.byte < last.byte → ((next : ℕ) → IsNextEnd p last.byte next → width start <ℤ width_between p.steps start.byte next) → IsLine p (line_of f start last)
  ended_line start last ls is some full = record {
    end = elim is.ends [ inl empty ↦ absurd (omega (arith, some, empty)) | inr may ↦ may ];
    width = line_width p.steps f.end start last is.first is.latest;
    glyphs = line_glyphs f.direction r same f breaks start last refl all is.first is.latest is.ordered;
    filled = record { fits = is.fits; full = full };
  }

  pub piece_added : (start last next cut : Cut) (ls new : List Line) → IsFilledTo p start last ls → IsCut p.steps f.end next → IsNextEnd p last.byte next.byte → IsPieceAdded (stays (width start) start last next) start last (line_of f start last) cut ls new → IsFilledTo p cut next new
  piece_added start last next cut ls new is at after added = by_test (stays (width start) start last next) refl added
    where
      by_test : (t : Bool) → stays (width start) start last next ≡ t → IsPieceAdded t start last (line_of f start last) cut ls new → IsFilledTo p cut next new
      by_test true e (here, kept) =
          let P : Cut → Type 0 = λ c. IsFilledTo p c next new in
          subst P (sym here) (subst (IsFilledTo p start next) (sym kept) (with_piece p start last next ls (line_of f start last) is at after e))
      by_test false e (here, pushed) =
          let tests = neither (start.byte == last.byte) (int_le (next.pen -ℤ start.pen) (width start)) e in
          let some = other_from start.byte last.byte tests.0 is.ordered in
          let wide : width start <ℤ width_between p.steps start.byte next.byte = subst (λ z. width start <ℤ z) (line_width p.steps f.end start next is.first at) (over_if (next.pen -ℤ start.pen) (width start) tests.1) in
          let line = ended_line start last ls is some (λ b other. subst (λ n. width start <ℤ width_between p.steps start.byte n) (next_is_one p last.byte next.byte b after other) wide) in
          let P : Cut → Type 0 = λ c. IsFilledTo p c next new in
          subst P (sym here) (subst (IsFilledTo p last next) (sym pushed) (with_line_ended p start last next ls (line_of f start last) is at after (line_of f start last) refl refl line some))

  -- a piece up to the next break
  pub filling_more : (start last next cut : Cut) (ls new : List Line) (i e : ℕ) → i < length breaks → IsFilling p start last ls (drop i breaks) → IsCut p.steps f.end next → next.byte ≡ get_or breaks i e
      → IsPieceAdded (stays (width start) start last next) start last (line_of f start last) cut ls new → IsFilling p cut next new (drop (i + 1) breaks)
  filling_more start last next cut ls new i e within is at byte added =
      let left = next_left p last.byte (get_or breaks i e) (drop (i + 1) breaks) (subst (AreLeft p last.byte) (drop_more breaks i e within) is.left) in
      record {
        filled = piece_added start last next cut ls new is.filled at (subst (IsNextEnd p last.byte) (sym byte) left.0) added;
        left = let P : ℕ → Type 0 = λ n. AreLeft p n (drop (i + 1) breaks) in subst P (sym byte) left.1;
      }

  -- the piece up to the end of the text
  pub last_piece : (start last next cut : Cut) (ls new : List Line) (i : ℕ) → length breaks ≤ i → IsFilling p start last ls (drop i breaks) → last.byte < f.end → IsCut p.steps f.end next → next.byte ≡ f.end
      → IsPieceAdded (stays (width start) start last next) start last (line_of f start last) cut ls new → IsFilledTo p cut next new
  last_piece start last next cut ls new i past is before at byte added =
      let left = subst (AreLeft p last.byte) (drop_all i breaks past) is.left in
      piece_added start last next cut ls new is.filled at (subst (IsNextEnd p last.byte) (sym byte) (end_left p last.byte left before)) added

  -- all lines
  pub lines_whole : (start last : Cut) (ls new : List Line) → AreBreaksTo f.end 0 breaks → IsFilledTo p start last ls → last.byte ≡ f.end → new ≡ with_line f start last ls → AreLines p new
  lines_whole start last ls new rising is whole made = by_test (start.byte == last.byte) refl made
    where
      by_test : (t : Bool) → (start.byte == last.byte) ≡ t → new ≡ (if t then ls else ls ++ line_of f start last ∷ []) → AreLines p new
      by_test true e kept = subst (AreLines p) (sym kept) (record { joined = subst (λ n. AreJoined 0 n (map byte_range ls)) (same_from start.byte last.byte e ∙ whole) is.joined; each = is.each })
      by_test false e pushed =
          let some = other_from start.byte last.byte e is.ordered in
          let line = ended_line start last ls is some (λ next other. let most = none_past p next rising other.may in let after = other.after in absurd (omega (arith, most, after, whole))) in
          subst (AreLines p) (sym pushed) (record { joined = joined_push byte_range 0 f.end ls (line_of f start last) is.joined some whole; each = All-push (IsLine p) ls (line_of f start last) is.each line })
