-- Rows that rise by their texts, for the binary search.
use Rattle.std.proofs.Common.{◌≡◌, ℕ, suc, ◌+◌, true, List, [], ◌∷◌, Some, None, get_or, refl, sym, arith, add-one}
use Rattle.std.proofs.lemmas.Bool.{and_from}
use Rattle.std.specs.Ordering.{nat_cmp}
use Rattle.std.specs.declared.cmp.Ordering.{Ordering}
use Rattle.std.specs.Cmp.Lexicographic.{slice_cmp, texts_ties}
use Rattle.buffer_rows.specs.Keys.{is_rising, row_with}
use Rattle.buffer_tags.specs.declared.language_table.LanguageRow.{LanguageRow}
use Rattle.buffer_tags.specs.LanguageRows.{row_text, is_before, TextsRise, row_of}

-- the order of texts by their bytes
abbrev pub order : List ℕ → List ℕ → Ordering
order text other = slice_cmp nat_cmp text other

rest_rises : (r x : LanguageRow) (xs : List LanguageRow) → TextsRise (r ∷ x ∷ xs) → TextsRise (x ∷ xs)
rest_rises r x xs h k d l =
    let next : is_before (get_or (r ∷ x ∷ xs) (suc k) d) (get_or (r ∷ x ∷ xs) (suc k + 1) d) ≡ true = h (suc k) d (omega (arith, l)) in
    rw add-one (rw add-one at next)

rise_after : (r : LanguageRow) (rows : List LanguageRow) → TextsRise (r ∷ rows) → is_rising order row_text (Some (row_text r)) rows ≡ true
rise_after r [] h = refl
rise_after r (x ∷ xs) h =
    let next : is_before r x ≡ true = h 0 r (omega arith) in
    and_from _ _ next (rise_after x xs (rest_rises r x xs h))

pub rises : (rows : List LanguageRow) → TextsRise rows → is_rising order row_text None rows ≡ true
rises [] h = refl
rises (r ∷ rows) h = rise_after r rows h

-- a text is equal where its bytes are
pub same_row : (rows : List LanguageRow) (text : List ℕ) → row_with order row_text text rows ≡ row_of rows text
same_row [] text = refl
same_row (r ∷ rows) text = rw (sym (texts_ties (row_text r) text), same_row rows text) refl
