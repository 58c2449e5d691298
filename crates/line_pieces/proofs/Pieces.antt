-- Pieces of a text by their indices: piece i ends at break i, the last one at the end of the text.
use Rattle.std.proofs.Common.{ℕ, zero, suc, ◌+◌, ◌≡◌, ◌≤◌, ◌<◌, List, [], ◌∷◌, length, get_or, add-one, arith, inl, inr, refl, sym, subst}
use Rattle.std.proofs.lemmas.Bool.{cases_lt}
use Rattle.kuspveli.specs.buffer_glyphs.Lemmas.Numbers.{has_here}
use Rattle.line_pieces.specs.Breaks.{AreBreaksTo}
use Rattle.line_pieces.specs.Lines.{IsNextEnd, MayEnd, Paragraph}
use Rattle.line_pieces.specs.LinesInHand.{IsFirstPiece, piece_end}
use Rattle.line_pieces.proofs.Filled.{AreLeft, all_left, end_left, next_left}

left_first : (p : Paragraph) (last : ℕ) (bs : List ℕ) → AreLeft p last bs → last < p.end → IsNextEnd p last (get_or bs 0 p.end)
left_first p last [] is before = end_left p last is before
left_first p last (b ∷ bs) is before = (next_left p last b bs is).0

left_next : (p : Paragraph) (last i : ℕ) (bs : List ℕ) → AreLeft p last bs → get_or bs i p.end < p.end → IsNextEnd p (get_or bs i p.end) (get_or bs (suc i) p.end)
left_next p last i [] is before = absurd (omega (arith, before))
left_next p last zero (b ∷ bs) is before = left_first p b bs (next_left p last b bs is).1 before
left_next p last (suc i) (b ∷ bs) is before = left_next p b i bs (next_left p last b bs is).1 before

left_may : (p : Paragraph) (last i : ℕ) (bs : List ℕ) → AreLeft p last bs → MayEnd p (get_or bs i p.end)
left_may p last i [] is = inr refl
left_may p last zero (b ∷ bs) is = inl (is.among b (has_here b bs))
left_may p last (suc i) (b ∷ bs) is = left_may p b i bs (next_left p last b bs is).1

rises_from : (end last i : ℕ) (bs : List ℕ) → AreBreaksTo end last bs → last ≤ end → last ≤ get_or bs i end
rises_from end last i [] is le = le
rises_from end last zero (b ∷ bs) is le = let less = is.0 in omega (arith, less)
rises_from end last (suc i) (b ∷ bs) is le = let less = is.0 in let rest = rises_from end b i bs is.2 is.1 in omega (arith, less, rest)

rises_to : (end last i j : ℕ) (bs : List ℕ) → AreBreaksTo end last bs → i ≤ j → get_or bs i end ≤ get_or bs j end
rises_to end last i j [] is le = omega arith
rises_to end last zero zero (b ∷ bs) is le = omega arith
rises_to end last zero (suc j) (b ∷ bs) is le = rises_from end b j bs is.2 is.1
rises_to end last (suc i) zero (b ∷ bs) is le = absurd (omega (arith, le))
rises_to end last (suc i) (suc j) (b ∷ bs) is le = rises_to end b i j bs is.2 (omega (arith, le))

-- where no break of an index is, the text's last piece ends
past_last : (end i : ℕ) (bs : List ℕ) → length bs ≤ i → get_or bs i end ≡ end
past_last end i [] le = refl
past_last end zero (b ∷ bs) le = absurd (omega (arith, le))
past_last end (suc i) (b ∷ bs) le = past_last end i bs (omega (arith, le))

-- a piece before the end of the text ends at a break
pub piece_within : (end i : ℕ) (bs : List ℕ) → get_or bs i end < end → i < length bs
piece_within end i bs before = elim (cases_lt i (length bs)) [ inl less ↦ less | inr le ↦ let same = past_last end i bs le in absurd (omega (arith, before, same)) ]

module _ (p : Paragraph) (is : AreBreaksTo p.end 0 p.breaks) where
  pub first_piece : 0 < p.end → IsFirstPiece p 0 0
  first_piece some = left_first p 0 p.breaks (all_left p is) some

  pub next_piece : (i : ℕ) → piece_end p i < p.end → IsFirstPiece p (piece_end p i) (i + 1)
  next_piece i before = let P : ℕ → Type 0 = λ n. IsFirstPiece p (piece_end p i) n in subst P (sym (add-one i)) (left_next p 0 i p.breaks (all_left p is) before)

  pub piece_may : (i : ℕ) → MayEnd p (piece_end p i)
  piece_may i = left_may p 0 i p.breaks (all_left p is)

  pub pieces_rise : (i j : ℕ) → i ≤ j → piece_end p i ≤ piece_end p j
  pieces_rise i j le = rises_to p.end 0 i j p.breaks is le
