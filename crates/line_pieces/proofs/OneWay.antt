-- The bytes of lines.
use Rattle.std.proofs.Common.{ℕ, suc, ℤ, ◌≡◌, ◌≤◌, ◌<◌, ◌≤ℤ◌, ◌<ℤ◌, ◌⊎◌, List, [], ◌∷◌, ◌++◌, length, map, drop, arith, inl, inr, refl, sym, ap, subst, ◌∙◌}
use Rattle.std.specs.Prelude.{slice_range}
use Rattle.std.specs.List.{All}
use Rattle.std.proofs.lemmas.Bool.{cases_lt}
use Rattle.std.proofs.lemmas.Int.{ints}
use Rattle.std.proofs.lemmas.List.{drop_all}
use Rattle.std.proofs.lemmas.List.Folds.{drop_split}
use Rattle.kuspveli.specs.buffer_glyphs.Lemmas.Numbers.{Has, has_cases, has_here, has_more}
use Rattle.kuspveli.specs.buffer_parts.Slices.{AreJoined, text_of_slices}
use Rattle.line_pieces.specs.declared.lines.Line.{Line}
use Rattle.line_pieces.specs.Laws.{LinesAreOne, LinesAreText}
use Rattle.line_pieces.specs.Lines.{IsLine, IsNextEnd, MayEnd, Paragraph, byte_range, width_between, width_from}

-- ---- the text

text_from : (text : List ℕ) (from : ℕ) (rs : List (ℕ × ℕ)) → AreJoined from (length text) rs → text_of_slices text rs ≡ drop from text
text_from text from [] joined = sym (drop_all from text (omega (arith, joined)))
text_from text from (r ∷ rs) joined =
    let first = joined.0 in
    let some = joined.1 in
    ap (λ xs. slice_range text r.0 r.1 ++ xs) (text_from text r.1 rs joined.2) ∙ sym (drop_split text r.0 r.1 (omega (arith, some))) ∙ ap (λ n. drop n text) first

pub lines_are_text : LinesAreText
lines_are_text p text ls same are = text_from text 0 (map byte_range ls) (subst (λ n. AreJoined 0 n (map byte_range ls)) same are.joined)

-- ---- the first byte after another one at which a line may end

-- the least of a byte and those of a list after another byte
pub record IsLeastOf (bs : List ℕ) (from b least : ℕ) : Type 0 where
  pub is : Has bs least ⊎ (least ≡ b)
  pub after : from < least
  pub most : least ≤ b
  pub first : (c : ℕ) → Has bs c → from < c → least ≤ c

least_of : (bs : List ℕ) (from b : ℕ) → from < b → (n : ℕ) × IsLeastOf bs from b n
least_of [] from b less = (b, record { is = inr refl; after = less; most = omega arith; first = λ c has past. cc })
least_of (a ∷ bs) from b less =
    let rest = least_of bs from b less in
    let n = rest.0 in
    let is = rest.1 in
    let low = is.after in
    let high = is.most in
    elim (cases_lt from a) [
      | inl after ↦ elim (cases_lt a n) [
        | inl under ↦
            (a, record { is = inl (has_here a bs); after = after; most = omega (arith, under, high); first = λ c has past. elim (has_cases a c bs has) [ inl same ↦ omega (arith, same) | inr later ↦ let up = is.first c later past in omega (arith, under, up) ] })
        | inr over ↦
            (n, record { is = elim is.is [ inl has ↦ inl (has_more a n bs has) | inr same ↦ inr same ]; after = low; most = high; first = λ c has past. elim (has_cases a c bs has) [ inl same ↦ omega (arith, over, same) | inr later ↦ is.first c later past ] })
      ]
      | inr before ↦
          (n, record { is = elim is.is [ inl has ↦ inl (has_more a n bs has) | inr same ↦ inr same ]; after = low; most = high; first = λ c has past. elim (has_cases a c bs has) [ inl same ↦ absurd (omega (arith, before, same, past)) | inr later ↦ is.first c later past ] })
    ]

-- between two bytes, at the later of which a line may end, there is a next end
next_end : (p : Paragraph) (from b : ℕ) → MayEnd p b → b ≤ p.end → from < b → (n : ℕ) × IsNextEnd p from n × (n ≤ b)
next_end p from b may within less =
    let found = least_of p.breaks from b less in
    let n = found.0 in
    let is = found.1 in
    let high = is.most in (
      n,
      record {
        may = elim is.is [ inl has ↦ inl has | inr same ↦ subst (MayEnd p) (sym same) may ];
        after = is.after;
        first = λ c other past. elim other [ inl has ↦ is.first c has past | inr same ↦ omega (arith, high, within, same) ];
      },
      high,
    )

-- ---- lines of the same start have the same end

too_wide : (a b : ℤ) → a ≤ℤ b → ¬ (b <ℤ a)
too_wide a b le less = omega (arith, ints, le, less)

no_longer : (p : Paragraph) (l m : Line) → IsLine p l → IsLine p m → l.start ≡ m.start → l.start < l.end → m.end ≤ p.end → ¬ (l.end < m.end)
no_longer p l m first second same some within less =
    let found = next_end p l.end m.end second.end within less in
    let n = found.0 in
    let is = found.1 in
    let after = is.after in
    let wide = first.filled.full n is in
    elim (second.filled.fits n is.may (omega (arith, after, some, same)) found.2) [
      | inl fits ↦ too_wide (width_between p.steps l.start n) (width_from p.widths l.start) (subst (λ s. width_between p.steps s n ≤ℤ width_from p.widths s) (sym same) fits) wide
      | inr one ↦ let le = one l.end first.end (omega (arith, some, same)) in omega (arith, le, after)
    ]

joined_rises : (from to : ℕ) (rs : List (ℕ × ℕ)) → AreJoined from to rs → from ≤ to
joined_rises from to [] joined = omega (arith, joined)
joined_rises from to (r ∷ rs) joined =
    let first = joined.0 in
    let some = joined.1 in
    let rest = joined_rises r.1 to rs joined.2 in
    omega (arith, first, some, rest)

first_line : (p : Paragraph) (l : Line) (ls : List Line) → All (IsLine p) (l ∷ ls) → IsLine p l
first_line p l ls each = each 0 l (omega arith)

later_lines : (p : Paragraph) (l : Line) (ls : List Line) → All (IsLine p) (l ∷ ls) → All (IsLine p) ls
later_lines p l ls each k d within = each (suc k) d (omega (arith, within))

same_lines : (p : Paragraph) (from : ℕ) (ls ms : List Line) → AreJoined from p.end (map byte_range ls) → AreJoined from p.end (map byte_range ms) → All (IsLine p) ls → All (IsLine p) ms → map byte_range ls ≡ map byte_range ms
same_lines p from [] [] one two first second = refl
same_lines p from [] (m ∷ ms) one two first second =
    let start = two.0 in
    let some = two.1 in
    let rest = joined_rises m.end p.end (map byte_range ms) two.2 in
    absurd (omega (arith, one, start, some, rest))
same_lines p from (l ∷ ls) [] one two first second =
    let start = one.0 in
    let some = one.1 in
    let rest = joined_rises l.end p.end (map byte_range ls) one.2 in
    absurd (omega (arith, two, start, some, rest))
same_lines p from (l ∷ ls) (m ∷ ms) one two first second =
    let here = one.0 in
    let there = two.0 in
    let same : l.start ≡ m.start = here ∙ sym there in
    let some = one.1 in
    let other = two.1 in
    let short = joined_rises l.end p.end (map byte_range ls) one.2 in
    let long = joined_rises m.end p.end (map byte_range ms) two.2 in
    let ends : l.end ≡ m.end = equal l.end m.end (no_longer p l m (first_line p l ls first) (first_line p m ms second) same some long) (no_longer p m l (first_line p m ms second) (first_line p l ls first) (sym same) other short) in
    let rest = same_lines p l.end ls ms one.2 (subst (λ n. AreJoined n p.end (map byte_range ms)) (sym ends) two.2) (later_lines p l ls first) (later_lines p m ms second) in
    ap (λ s. (s, l.end) ∷ map byte_range ls) same ∙ ap (λ e. (m.start, e) ∷ map byte_range ls) ends ∙ ap (λ rs. byte_range m ∷ rs) rest
  where
    equal : (a b : ℕ) → (¬ (a < b)) → (¬ (b < a)) → a ≡ b
    equal a b up down = elim (cases_lt a b) [ inl less ↦ absurd (up less) | inr le ↦ elim (cases_lt b a) [ inl less ↦ absurd (down less) | inr ge ↦ omega (arith, le, ge) ] ]

pub lines_are_one : LinesAreOne
lines_are_one p ls ms one two = same_lines p 0 ls ms one.joined two.joined one.each two.each
