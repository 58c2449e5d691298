-- One record or row more.
use Rattle.std.proofs.Common.{◌≡◌, ℕ, ◌+◌, ◌-◌, ◌*◌, ◌<◌, ◌≤◌, ◌∙◌, true, List, [], ◌∷◌, ◌++◌, Ok, sym, ap, append_assoc}
use Rattle.std.proofs.lemmas.Bool.{cond-true}
use Rattle.std.proofs.lemmas.List.{append-nil}
use Rattle.font_bytes.specs.Records.{records}
use Rattle.font_bytes.specs.Words.{fits, long}
use Rattle.buffer_common.specs.declared.tag.Tag.{Tag}
use Rattle.shell_tables_bytes.specs.Languages.{tag_at}
use Rattle.font_bytes.proofs.Recorded.{records_end, records_more}
use Rattle.buffer_unicode.specs.declared.fault.TablesFault.{TablesFault}
use Rattle.buffer_unicode.specs.declared.fault.TablesFault.TheVariants.{OutOfOrder, OutOfRange, SplitDepth, OutOfMemory}
use Rattle.buffer_unicode_tables.specs.Tables.{Tables, first_row_fault}
use Rattle.shell_tables_bytes.specs.declared.fault.BinaryFault.TheVariants.{Rows}
use Rattle.shell_tables_bytes.specs.Characters.{character_rows, characters_of, unless_fault}
use Rattle.shell_tables_bytes.specs.Faults.{of_rows}
use Rattle.shell_tables_bytes.specs.Records.{run_rows}
use Rattle.shell_tables_bytes.specs.Sections.{record_count, section, section_start}
use Rattle.shell_tables_bytes.proofs.RunRows.{run_goes_on}
use Rattle.std.proofs.Common.{None}
use Rattle.font_bytes.specs.Results.{and_then}

-- what is read and what is left are all, after one more
pushed : {X : Type 0} (xs next left rest all : List X) (x : X) → left ≡ x ∷ rest → next ≡ xs ++ x ∷ [] → xs ++ left ≡ all → next ++ rest ≡ all
pushed xs next left rest all x at more h =
    ap (λ ys. ys ++ rest) more ∙ append_assoc xs (x ∷ []) rest ∙ ap (λ ys. xs ++ ys) (sym at) ∙ h

-- nothing is left
pub all_read : {X : Type 0} (xs left all : List X) → left ≡ [] → xs ++ left ≡ all → xs ≡ all
all_read xs left all none h = sym (append-nil xs) ∙ ap (λ ys. xs ++ ys) (sym none) ∙ h

pub record_pushed : {R : Type 0} (read : ℕ → R) (width at count index : ℕ) (rows next all : List R) (x : R) → index < count → next ≡ rows ++ x ∷ [] → x ≡ read (at + width * index)
    → rows ++ records read width (at + width * index) (count - index) ≡ all → next ++ records read width (at + width * (index + 1)) (count - (index + 1)) ≡ all
record_pushed read width at count index rows next all x inside more is h =
    pushed rows next _ _ all (read (at + width * index)) (records_more read width at count index inside) (more ∙ ap (λ y. rows ++ y ∷ []) is) h

pub run_pushed : (first count number index : ℕ) (rows next all : List (List ℕ)) (a b : ℕ) → index < count → next ≡ rows ++ (a ∷ b ∷ []) ∷ [] → a ≡ first + index → b ≡ number
    → rows ++ run_rows (first + index) (count - index) number ≡ all → next ++ run_rows (first + (index + 1)) (count - (index + 1)) number ≡ all
run_pushed first count number index rows next all a b inside more is same h =
    pushed rows next _ _ all ((first + index) ∷ number ∷ []) (run_goes_on first count number index inside)
    (more ∙ ap (λ y. rows ++ (y ∷ b ∷ []) ∷ []) is ∙ ap (λ y. rows ++ ((first + index) ∷ y ∷ []) ∷ []) same) h

-- the records of a section
pub section_whole : {R : Type 0} (read : List ℕ → ℕ → R) (width number : ℕ) (bytes : List ℕ) (start count : ℕ) → start ≡ section_start bytes number → count ≡ record_count bytes number
    → fits bytes (section_start bytes number) (width * record_count bytes number) ≡ true → section read width number bytes ≡ Ok (records (read bytes) width start count)
section_whole read width number bytes start count from many within =
    cond-true _ _ _ within
    ∙ ap (λ s. Ok (records (read bytes) width s (record_count bytes number))) (sym from)
    ∙ ap (λ n. Ok (records (read bytes) width start n)) (sym many)

-- the records of a section that are all read
pub section_read : {R : Type 0} (read : List ℕ → ℕ → R) (width number : ℕ) (bytes : List ℕ) (start count index w : ℕ) (rows : List R) → start ≡ section_start bytes number → count ≡ record_count bytes number → w ≡ width
    → fits bytes (section_start bytes number) (w * record_count bytes number) ≡ true → count ≤ index
    → rows ++ records (read bytes) width (start + width * index) (count - index) ≡ records (read bytes) width start count → section read width number bytes ≡ Ok rows
section_read read width number bytes start count index w rows from many same fit past h =
    let within : fits bytes (section_start bytes number) (width * record_count bytes number) ≡ true = ap (λ v. fits bytes (section_start bytes number) (v * record_count bytes number)) (sym same) ∙ fit in
    let whole : rows ≡ records (read bytes) width start count = all_read rows _ _ (records_end (read bytes) width start count index past) h in
    section_whole read width number bytes start count from many within ∙ ap (λ xs. Ok xs) (sym whole)

-- a fault of depth was one of the rows
pub was_deep : (f : TablesFault) → of_rows f ≡ Rows SplitDepth → f ≡ SplitDepth
was_deep OutOfOrder e = cc
was_deep OutOfRange e = cc
was_deep SplitDepth e = cc
was_deep OutOfMemory e = cc

-- rows without a fault
pub characters_read : (bytes : List ℕ) (t : Tables) → character_rows bytes ≡ Ok t → first_row_fault t ≡ None → characters_of bytes ≡ Ok t
characters_read bytes t rows sound = ap (λ r. and_then r (λ u. unless_fault (first_row_fault u) u)) rows ∙ ap (λ o. unless_fault o t) sound

-- one tag more
pub tag_pushed : (bytes : List ℕ) (at count index : ℕ) (tags next all : List Tag) (t : Tag) → index < count → next ≡ tags ++ t ∷ [] → t.0 ≡ long bytes (at + 4 * index)
    → tags ++ records (tag_at bytes) 4 (at + 4 * index) (count - index) ≡ all → next ++ records (tag_at bytes) 4 (at + 4 * (index + 1)) (count - (index + 1)) ≡ all
tag_pushed bytes at count index tags next all t inside more e h =
    let make : ℕ → Tag = λ n. record { 0 = n } in
    let is : t ≡ tag_at bytes (at + 4 * index) = ap make e in
    record_pushed (tag_at bytes) 4 at count index tags next all t inside more is h

-- all tags are read
pub tags_read : (bytes : List ℕ) (at count index : ℕ) (tags all : List Tag) → count ≤ index → tags ++ records (tag_at bytes) 4 (at + 4 * index) (count - index) ≡ all → tags ≡ all
tags_read bytes at count index tags all past h = all_read tags _ all (records_end (tag_at bytes) 4 at count index past) h
