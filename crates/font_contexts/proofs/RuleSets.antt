-- Records and sets of rules, one at a time.
use Rattle.std.proofs.Common.{◌≡◌, ℕ, List, [], ◌∷◌, ◌++◌, true, false, nat_lt, refl, ap, sym, ◌∙◌, inl, inr, append_assoc}
use Rattle.std.specs.Prelude.{Result, Ok, Err}
use Rattle.std.proofs.lemmas.Bool.{cases_Bool}
use Rattle.font_bytes.specs.declared.fault.TableFault.{TableFault}
use Rattle.font_bytes.specs.Results.{and_then}
use Rattle.font_common.specs.Offsets.{after}
use Rattle.font_common.proofs.Tables.{after_after}
use Rattle.layout_common.specs.declared.glyph_row.GlyphRow.{GlyphRow}
use Rattle.layout_tables.specs.declared.context.SequenceLookupRecord.{SequenceLookupRecord}
use Rattle.layout_tables.specs.declared.context.SequenceRule.{SequenceRule}
use Rattle.font_contexts.specs.Rules.{known_records, rules_of_sets}

-- a record, and those after it
pub known_step : (lookup_count : ℕ) (r : SequenceLookupRecord) (rs : List SequenceLookupRecord)
    → known_records lookup_count (r ∷ rs) ≡ known_records lookup_count (r ∷ []) ++ known_records lookup_count rs
known_step lookup_count r rs =
    elim (cases_Bool (nat_lt r.lookup_index lookup_count)) [
      | inl known ↦ rw known refl
      | inr other ↦ rw other refl
    ]

-- values that were appended, and those that follow them
pub appended_next : {A : Type 0} (done pushed : List A) (left : ℕ) (x : Result (List A × ℕ) TableFault) (next : ℕ → Result (List A × ℕ) TableFault)
    → after done x ≡ Ok (pushed, left) → after done (and_then x (λ a. after a.0 (next a.1))) ≡ after pushed (next left)
appended_next {A} done pushed left (Ok a) next h =
    let both : (done ++ a.0, a.1) ≡ (pushed, left) = cc in
    let items = ap (λ (p : List A × ℕ). p.0) both in
    let room = ap (λ (p : List A × ℕ). p.1) both in
    after_after done a.0 (next a.1) ∙ (ap (λ xs. after xs (next a.1)) items ∙ ap (λ r. after pushed (next r)) room)
appended_next {A} done pushed left (Err e) next h = cc

-- values after which others are refused
pub after_refused : {A : Type 0} (done : List A) (x : Result (List A × ℕ) TableFault) (e : TableFault) → after done x ≡ Err e → x ≡ Err e
after_refused done (Ok a) e h = cc
after_refused done (Err f) e h = h

-- the rules of one more set
pub set_done : (read : ℕ → ℕ → ℕ → Result (List (SequenceRule ℕ) × ℕ) TableFault) (done : List (SequenceRule ℕ)) (room left : ℕ) (s : GlyphRow ℕ)
    (sets : List (GlyphRow ℕ)) (pushed : List (SequenceRule ℕ))
    → after done (read s.glyph room s.value) ≡ Ok (pushed, left)
    → after done (rules_of_sets read room (s ∷ sets)) ≡ after pushed (rules_of_sets read left sets)
set_done read done room left s sets pushed h = appended_next done pushed left (read s.glyph room s.value) (λ r. rules_of_sets read r sets) h
