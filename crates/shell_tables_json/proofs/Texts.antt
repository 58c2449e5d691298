-- Languages as they are read: their tags, and the order of their texts.
use Rattle.std.proofs.Common.{◌≡◌, ℕ, zero, suc, ◌+◌, ◌-◌, ◌<◌, ◌≤◌, ◌∙◌, true, false, List, [], ◌∷◌, ◌++◌, length, map, Option, Some, None, Result, Ok, Err, slice_get, slice_index_or, get_or, drop, refl, sym, ap, add-one, append_assoc, arith}
use Rattle.std.specs.Prelude.{nat_le}
use Rattle.std.specs.Option.{option_map}
use Rattle.std.specs.Ordering.{nat_cmp}
use Rattle.std.specs.Cmp.Lexicographic.{slice_cmp}
use Rattle.std.proofs.lemmas.Bool.{and_parts, cond-true, cond-false}
use Rattle.std.proofs.lemmas.Bool.Decides.{nat_tests}
use Rattle.serde_json.specs.View.{view, items_view}
use Rattle.serde_json.specs.declared.value.Value.{Value}
use Rattle.shell_json.specs.declared.fault.JsonFault.{JsonFault}
use Rattle.shell_json.specs.declared.fault.JsonFault.TheVariants.{WrongShape}
use Rattle.shell_json.specs.Rows.{after, is_above, is_rising, rows_after}
use Rattle.shell_json.proofs.Rising.{rows_follow}
use Rattle.serde_json.specs.Data.{Data, Items, item}
use Rattle.buffer_tags.specs.declared.language_table.LanguageRow.{LanguageRow}
use Rattle.buffer_tags.specs.LanguageRows.{row_text, is_before, TextsRise}
use Rattle.shell_tables_json.specs.Languages.{Language, few_tags, item_count, language, language_in, languages_in_order, tags_in}
use Rattle.shell_json.proofs.Steps.{item_left as items_step}

-- ---- tags

count_is_length : (vs : List Value) → item_count (items_view vs) ≡ length vs
count_is_length [] = refl
count_is_length (v ∷ vs) = ap suc (count_is_length vs)

few_by_count : (n : ℕ) (vs : List Value) → item_count (items_view vs) ≡ n → n ≤ 3 → few_tags (items_view vs) ≡ tags_in (items_view vs)
few_by_count n vs e h = let within : nat_le n 3 ≡ true = grind (arith, nat_tests) in cond-true _ _ _ (ap (λ k. nat_le k 3) e ∙ within)

many_by_count : (n : ℕ) (vs : List Value) → item_count (items_view vs) ≡ n → 3 < n → few_tags (items_view vs) ≡ Err WrongShape
many_by_count n vs e h = let past : nat_le n 3 ≡ false = grind (arith, nat_tests) in cond-false _ _ _ (ap (λ k. nat_le k 3) e ∙ past)

pub few_are_read : (vs : List Value) → length vs ≤ 3 → few_tags (items_view vs) ≡ tags_in (items_view vs)
few_are_read vs h = few_by_count (length vs) vs (count_is_length vs) h

pub many_are_refused : (vs : List Value) → 3 < length vs → few_tags (items_view vs) ≡ Err WrongShape
many_are_refused vs h = many_by_count (length vs) vs (count_is_length vs) h

-- ---- texts

-- the text of the row read last
abbrev pub last_text : List LanguageRow → Option (List ℕ)
last_text rows = option_map row_text (slice_get rows (length rows - 1))

last_got : (rows : List LanguageRow) (r : LanguageRow) → slice_get (rows ++ r ∷ []) (length rows) ≡ Some r
last_got [] r = refl
last_got (x ∷ rows) r = last_got rows r

length_pushed : (rows : List LanguageRow) (r : LanguageRow) → length (rows ++ r ∷ []) ≡ suc (length rows)
length_pushed [] r = refl
length_pushed (x ∷ rows) r = ap suc (length_pushed rows r)

pub last_pushed : (rows : List LanguageRow) (r : LanguageRow) → last_text (rows ++ r ∷ []) ≡ Some (row_text r)
last_pushed rows r =
    let size : length (rows ++ r ∷ []) - 1 ≡ length rows = let s = length_pushed rows r in omega (arith, s) in
    rw (size, last_got rows r) refl

languages_pushed : (rows : List LanguageRow) (r : LanguageRow) → map language_in (rows ++ r ∷ []) ≡ map language_in rows ++ language_in r ∷ []
languages_pushed [] r = refl
languages_pushed (x ∷ rows) r = ap (λ ls. language_in x ∷ ls) (languages_pushed rows r)

after_both : (xs ys : List Language) (rest : Result (List Language) JsonFault) → after (xs ++ ys) rest ≡ after xs (after ys rest)
after_both xs ys (Ok zs) = ap Ok (append_assoc xs ys zs)
after_both xs ys (Err e) = refl

-- one row more
pub row_pushed : (rows : List LanguageRow) (r : LanguageRow) (rest : Result (List Language) JsonFault)
    → after (map language_in (rows ++ r ∷ [])) rest ≡ after (map language_in rows) (after (language_in r ∷ []) rest)
row_pushed rows r rest = rw (languages_pushed rows r) (after_both (map language_in rows) (language_in r ∷ []) rest)

one_taken : (row : Data → Result Language JsonFault) (before : Option (List ℕ)) (d : Data) (ds : Items) (l : Language) → row d ≡ Ok l → is_above (slice_cmp nat_cmp) before l.0 ≡ true
    → rows_after (is_above (slice_cmp nat_cmp)) (λ x. x.0) row before (item d ds) ≡ after (l ∷ []) (rows_after (is_above (slice_cmp nat_cmp)) (λ x. x.0) row (Some l.0) ds)
one_taken row before d ds l e above = rw e (rw above refl)

-- a row that follows the one before it
pub language_taken : (vs : List Value) (i : ℕ) (v : Value) (rows next : List LanguageRow) (r : LanguageRow) → i < length vs → v ≡ get_or vs i v
    → language (view v) ≡ Ok (language_in r) → is_above (slice_cmp nat_cmp) (last_text rows) (row_text r) ≡ true → next ≡ rows ++ r ∷ []
    → after (map language_in rows) (rows_after (is_above (slice_cmp nat_cmp)) (λ x. x.0) language (last_text rows) (items_view (drop i vs)))
    ≡ after (map language_in next) (rows_after (is_above (slice_cmp nat_cmp)) (λ x. x.0) language (last_text next) (items_view (drop (i + 1) vs)))
language_taken vs i v rows next r h e read above pushed =
    ap (λ ds. after (map language_in rows) (rows_after (is_above (slice_cmp nat_cmp)) (λ x. x.0) language (last_text rows) ds)) (items_step vs i v h e)
    ∙ ap (λ o. after (map language_in rows) o) (one_taken language (last_text rows) (view v) (items_view (drop (i + 1) vs)) (language_in r) read above)
    ∙ sym (row_pushed rows r (rows_after (is_above (slice_cmp nat_cmp)) (λ x. x.0) language (Some (row_text r)) (items_view (drop (i + 1) vs))))
    ∙ ap (λ t. after (map language_in (rows ++ r ∷ [])) (rows_after (is_above (slice_cmp nat_cmp)) (λ x. x.0) language t (items_view (drop (i + 1) vs)))) (sym (last_pushed rows r))
    ∙ ap (λ xs. after (map language_in xs) (rows_after (is_above (slice_cmp nat_cmp)) (λ x. x.0) language (last_text xs) (items_view (drop (i + 1) vs)))) (sym pushed)

texts_rise_from : (before : Option (List ℕ)) (rows : List LanguageRow) (k : ℕ) (d : LanguageRow) → is_rising (slice_cmp nat_cmp) before (map language_in rows) ≡ true
    → k + 1 < length rows → is_before (slice_index_or rows k d) (slice_index_or rows (k + 1) d) ≡ true
texts_rise_from before [] k d h i = absurd (omega (arith, i))
texts_rise_from before (r ∷ []) zero d h i = absurd (omega (arith, i))
texts_rise_from before (r ∷ s ∷ rows) zero d h i = (and_parts _ _ ((and_parts _ _ h).1)).0
texts_rise_from before (r ∷ rows) (suc k) d h i =
    let low : k + 1 < length rows = omega (arith, i) in
    rw add-one (rw add-one at (texts_rise_from (Some (row_text r)) rows k d ((and_parts _ _ h).1) low))

pub texts_rise : (ds : Items) (rows : List LanguageRow) → languages_in_order ds ≡ Ok (map language_in rows) → TextsRise rows
texts_rise ds rows e = λ k d i. texts_rise_from None rows k d (rows_follow (is_above (slice_cmp nat_cmp)) (λ x. x.0) language None ds (map language_in rows) e) i
