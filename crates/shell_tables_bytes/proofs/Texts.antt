-- Languages as they are read: their texts, the order of these, and one language more.
use Rattle.std.proofs.Common.{◌≡◌, ℕ, zero, suc, ◌+◌, ◌-◌, ◌*◌, ◌<◌, ◌≤◌, ◌&&◌, ◌∙◌, Result, Ok, Err, true, false, Bool, ◌⊎◌, inl, inr, List, [], ◌∷◌, ◌++◌, length, map, Option, Some, None, slice_get, slice_index_or, if◌then◌else◌, refl, sym, ap, add-one, append_assoc, arith}
use Rattle.std.specs.Option.{option_map}
use Rattle.std.specs.Ordering.{is_lt, nat_cmp}
use Rattle.std.specs.Cmp.Lexicographic.{slice_cmp}
use Rattle.std.specs.Str.{IsUtf8, is_utf8}
use Rattle.std.proofs.lemmas.Bool.{and_parts, cond-true, cond-false}
use Rattle.std.proofs.lemmas.List.{map-append}
use Rattle.std.proofs.lemmas.Str.{is_utf8-from_IsUtf8, IsUtf8-from_is_utf8}
use Rattle.buffer_rows.specs.Keys.{is_above}
use Rattle.buffer_tags.specs.declared.language_table.LanguageRow.{LanguageRow}
use Rattle.buffer_tags.specs.LanguageRows.{row_text, is_before, TextsRise}
use Rattle.shell_tables_bytes.specs.Languages.{Language, are_languages, checked_record, language_in, languages_of}
use Rattle.shell_tables_bytes.specs.Sections.{record_count, section_start}
use Rattle.shell_tables_bytes.specs.declared.fault.BinaryFault.{BinaryFault}
use Rattle.shell_tables_bytes.specs.declared.fault.BinaryFault.TheVariants.{Languages}
use Rattle.shell_tables_bytes.proofs.Pushes.{all_read, section_whole}
use Rattle.font_bytes.specs.Records.{records}
use Rattle.font_bytes.specs.Results.{and_then}
use Rattle.font_bytes.specs.Words.{fits}
use Rattle.font_bytes.proofs.Recorded.{records_end}
use Rattle.buffer_facts.proofs.Truth.{true_or_false as either}

-- ---- texts

pub is_text : (bs : List ℕ) → IsUtf8 bs → is_utf8 bs ≡ true
is_text bs h = is_utf8-from_IsUtf8 bs h

pub is_no_text : (bs : List ℕ) → ¬ IsUtf8 bs → is_utf8 bs ≡ false
is_no_text bs h = elim (either (is_utf8 bs)) [ inl e ↦ absurd (h (IsUtf8-from_is_utf8 bs e)) | inr e ↦ e ]

-- ---- one language more

-- the text of the last row
abbrev pub last_text : List LanguageRow → Option (List ℕ)
last_text rows = option_map row_text (slice_get rows (length rows - 1))

last_got : (rows : List LanguageRow) (r : LanguageRow) → slice_get (rows ++ r ∷ []) (length rows) ≡ Some r
last_got [] r = refl
last_got (x ∷ rows) r = last_got rows r

length_pushed : (rows : List LanguageRow) (r : LanguageRow) → length (rows ++ r ∷ []) ≡ suc (length rows)
length_pushed [] r = refl
length_pushed (x ∷ rows) r = ap suc (length_pushed rows r)

last_pushed : (rows : List LanguageRow) (r : LanguageRow) → last_text (rows ++ r ∷ []) ≡ Some (row_text r)
last_pushed rows r =
    let size : length (rows ++ r ∷ []) - 1 ≡ length rows = let s = length_pushed rows r in omega (arith, s) in
    rw (size, last_got rows r) refl

-- the languages so far and those that are left are all, after one more
pub one_more : (rows next : List LanguageRow) (r : LanguageRow) (left rest : List (Bool × Language)) (all : List Language) (ok : Bool) (l : Language)
    → left ≡ (ok, l) ∷ rest → language_in r ≡ l → next ≡ rows ++ r ∷ []
    → map language_in rows ++ map (λ x. x.1) left ≡ all → map language_in next ++ map (λ x. x.1) rest ≡ all
one_more rows next r left rest all ok l at is pushed h =
    ap (λ xs. map language_in xs ++ map (λ x. x.1) rest) pushed
    ∙ ap (λ xs. xs ++ map (λ x. x.1) rest) (map-append language_in rows (r ∷ []))
    ∙ append_assoc (map language_in rows) (language_in r ∷ []) (map (λ x. x.1) rest)
    ∙ ap (λ y. map language_in rows ++ y ∷ map (λ x. x.1) rest) is
    ∙ ap (λ xs. map language_in rows ++ map (λ x. x.1) xs) (sym at)
    ∙ h

-- what is left is in order exactly if what is left after one more is
pub still_in_order : (rows next : List LanguageRow) (r : LanguageRow) (left rest : List (Bool × Language)) (all : Bool) (ok : Bool) (l : Language)
    → left ≡ (ok, l) ∷ rest → language_in r ≡ l → next ≡ rows ++ r ∷ [] → ok ≡ true → is_above (slice_cmp nat_cmp) (last_text rows) (row_text r) ≡ true
    → are_languages (last_text rows) left ≡ all → are_languages (last_text next) rest ≡ all
still_in_order rows next r left rest all ok l at is pushed fit above h =
    let text : row_text r ≡ l.0 = ap (λ (x : Language). x.0) is in
    let here : is_above (slice_cmp nat_cmp) (last_text rows) l.0 ≡ true = ap (is_above (slice_cmp nat_cmp) (last_text rows)) (sym text) ∙ above in
    let step : are_languages (last_text rows) ((ok, l) ∷ rest) ≡ are_languages (Some l.0) rest =
    ap (λ b. b && (is_above (slice_cmp nat_cmp) (last_text rows) l.0 && are_languages (Some l.0) rest)) fit
    ∙ ap (λ b. b && are_languages (Some l.0) rest) here in
    ap (λ xs. are_languages (last_text xs) rest) pushed
    ∙ ap (λ t. are_languages t rest) (last_pushed rows r)
    ∙ ap (λ t. are_languages (Some t) rest) text
    ∙ sym step
    ∙ ap (are_languages (last_text rows)) (sym at)
    ∙ h

-- a record that is no language
pub no_language : (before : Option (List ℕ)) (left rest : List (Bool × Language)) (all : Bool) (ok : Bool) (l : Language) → left ≡ (ok, l) ∷ rest → ok ≡ false → are_languages before left ≡ all → all ≡ false
no_language before left rest all ok l at unfit h =
    sym h ∙ ap (are_languages before) at ∙ ap (λ b. b && (is_above (slice_cmp nat_cmp) before l.0 && are_languages (Some l.0) rest)) unfit

-- a text that is not greater than the one before
pub no_order : (before : Option (List ℕ)) (left rest : List (Bool × Language)) (all : Bool) (ok : Bool) (l : Language) (t : List ℕ) → left ≡ (ok, l) ∷ rest → t ≡ l.0 → ok ≡ true → is_above (slice_cmp nat_cmp) before t ≡ false
    → are_languages before left ≡ all → all ≡ false
no_order before left rest all ok l t at text fit under h =
    let here : is_above (slice_cmp nat_cmp) before l.0 ≡ false = ap (is_above (slice_cmp nat_cmp) before) (sym text) ∙ under in
    sym h ∙ ap (are_languages before) at
    ∙ ap (λ b. b && (is_above (slice_cmp nat_cmp) before l.0 && are_languages (Some l.0) rest)) fit
    ∙ ap (λ b. b && are_languages (Some l.0) rest) here

-- ---- the order of texts

rise_after : (before : Option (List ℕ)) (rs : List (Bool × Language)) (rows : List LanguageRow) (k : ℕ) (d : LanguageRow) → are_languages before rs ≡ true → map language_in rows ≡ map (λ r. r.1) rs
    → k + 1 < length rows → is_before (slice_index_or rows k d) (slice_index_or rows (k + 1) d) ≡ true
rise_after before rs [] k d h e i = absurd (omega (arith, i))
rise_after before [] (r ∷ rows) k d h e i = cc
rise_after before (x ∷ rs) (r ∷ []) zero d h e i = absurd (omega (arith, i))
rise_after before (x ∷ []) (r ∷ s ∷ rows) zero d h e i = cc
rise_after before (x ∷ y ∷ rs) (r ∷ s ∷ rows) zero d h e i =
    let tail : are_languages (Some x.1.0) (y ∷ rs) ≡ true = (and_parts _ _ (and_parts _ _ h).1).1 in
    let above : is_lt (slice_cmp nat_cmp x.1.0 y.1.0) ≡ true = (and_parts _ _ (and_parts _ _ tail).1).0 in
    let first : language_in r ≡ x.1 = cc in
    let second : language_in s ≡ y.1 = cc in
    ap (λ (l : Language). is_lt (slice_cmp nat_cmp l.0 (row_text s))) first ∙ ap (λ (l : Language). is_lt (slice_cmp nat_cmp x.1.0 l.0)) second ∙ above
rise_after before (x ∷ rs) (r ∷ rows) (suc k) d h e i =
    let low : k + 1 < length rows = omega (arith, i) in
    let tail : are_languages (Some x.1.0) rs ≡ true = (and_parts _ _ (and_parts _ _ h).1).1 in
    let others : map language_in rows ≡ map (λ r. r.1) rs = cc in
    rw add-one (rw add-one at (rise_after (Some x.1.0) rs rows k d tail others low))

-- the texts of languages in order rise
pub texts_rise : (rs : List (Bool × Language)) (rows : List LanguageRow) → are_languages None rs ≡ true → map language_in rows ≡ map (λ r. r.1) rs → TextsRise rows
texts_rise rs rows h e = λ k d i. rise_after None rs rows k d h e i

-- ---- the languages of a section

-- what records of languages are, if all are languages and in order
abbrev pub checked : List (Bool × Language) → Result (List Language) BinaryFault
checked rs = if are_languages None rs then Ok (map (λ r. r.1) rs) else Err Languages

section_checked : (bytes : List ℕ) (start count : ℕ) → start ≡ section_start bytes 10 → count ≡ record_count bytes 10 → fits bytes (section_start bytes 10) (26 * record_count bytes 10) ≡ true
    → languages_of bytes ≡ checked (records (checked_record bytes) 26 start count)
section_checked bytes start count from many within = ap (λ r. and_then r checked) (section_whole checked_record 26 10 bytes start count from many within)

-- all are read
module _ (bytes : List ℕ) (start count index : ℕ) (rows : List LanguageRow) (past : count ≤ index)
    (done : map language_in rows ++ map (λ r. r.1) (records (checked_record bytes) 26 (start + 26 * index) (count - index)) ≡ map (λ r. r.1) (records (checked_record bytes) 26 start count))
    (order : are_languages (last_text rows) (records (checked_record bytes) 26 (start + 26 * index) (count - index)) ≡ are_languages None (records (checked_record bytes) 26 start count)) where
  none_left : records (checked_record bytes) 26 (start + 26 * index) (count - index) ≡ []
  none_left = records_end (checked_record bytes) 26 start count index past

  in_order : are_languages None (records (checked_record bytes) 26 start count) ≡ true
  in_order = sym order ∙ ap (are_languages (last_text rows)) none_left

  all_done : map language_in rows ≡ map (λ r. r.1) (records (checked_record bytes) 26 start count)
  all_done = all_read (map language_in rows) _ _ (ap (map (λ r. r.1)) none_left) done

  pub languages_read : start ≡ section_start bytes 10 → count ≡ record_count bytes 10 → fits bytes (section_start bytes 10) (26 * record_count bytes 10) ≡ true → languages_of bytes ≡ Ok (map language_in rows)
  languages_read from many within = section_checked bytes start count from many within ∙ cond-true _ _ _ in_order ∙ ap (λ ls. Ok ls) (sym all_done)

  pub languages_rise : TextsRise rows
  languages_rise = texts_rise (records (checked_record bytes) 26 start count) rows in_order all_done

-- one is no language, or not in order
pub languages_refused : (bytes : List ℕ) (start count : ℕ) → start ≡ section_start bytes 10 → count ≡ record_count bytes 10 → fits bytes (section_start bytes 10) (26 * record_count bytes 10) ≡ true
    → are_languages None (records (checked_record bytes) 26 start count) ≡ false → languages_of bytes ≡ Err Languages
languages_refused bytes start count from many within off = section_checked bytes start count from many within ∙ cond-false _ _ _ off
