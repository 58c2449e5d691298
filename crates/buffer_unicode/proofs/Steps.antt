-- Rows that are read in turn: `front` has the records of those before the `i`th.
use Rattle.std.proofs.Common.{ℕ, ◌≡◌, ◌<◌, ◌+◌, Bool, true, false, if◌then◌else◌, List, [], ◌∷◌, ◌++◌, map, Option, Some, None, length, get_or, drop, refl, sym, ap, ◌∙◌}
use Rattle.std.proofs.lemmas.List.{append_assoc, at_drop_more}
use Rattle.buffer_unicode.specs.Keys.{follows, row_fault}
use Rattle.buffer_unicode.specs.declared.fault.TablesFault.{TablesFault}
use Rattle.buffer_unicode.specs.declared.fault.TablesFault.TheVariants.{OutOfOrder, OutOfRange}

was_read : {R : Type 0} (b : Bool) (x r : R) → Some r ≡ (if b then Some x else None) → (b ≡ true) × (x ≡ r)
was_read true x r e = (refl, cc)
was_read false x r e = let no : ⊥ = cc in absurd no

module _ {N R : Type 0} (of_numbers : N → R) (in_range : R → Bool) (high low : R → ℕ) (rows : List N) (i : ℕ) (n : N) (r : R) (inside : i < length rows) (at : n ≡ get_or rows i n) (read : Some r ≡ (if in_range (of_numbers n) then Some (of_numbers n) else None)) where
  -- the record of a row that is left is before those after it
  record_left : map of_numbers (drop i rows) ≡ r ∷ map of_numbers (drop (i + 1) rows)
  record_left =
      at_drop_more (map of_numbers) rows i n inside
      ∙ ap (λ x. x ∷ map of_numbers (drop (i + 1) rows)) (ap of_numbers (sym at) ∙ (was_read (in_range (of_numbers n)) (of_numbers n) r read).1)

  pub one_more : (front : List R) → front ++ map of_numbers (drop i rows) ≡ map of_numbers rows → (front ++ r ∷ []) ++ map of_numbers (drop (i + 1) rows) ≡ map of_numbers rows
  one_more front e = append_assoc front (r ∷ []) (map of_numbers (drop (i + 1) rows)) ∙ (ap (λ xs. front ++ xs) (sym record_left) ∙ e)

  is_sound : in_range r ≡ true
  is_sound = let was = was_read (in_range (of_numbers n)) (of_numbers n) r read in ap in_range (sym was.1) ∙ was.0

  pub no_fault : (before : Option R) (fault : Option TablesFault) → row_fault in_range high low before (map of_numbers (drop i rows)) ≡ fault → follows high low before r ≡ true
      → row_fault in_range high low (Some r) (map of_numbers (drop (i + 1) rows)) ≡ fault
  no_fault before fault e above =
      let rest = row_fault in_range high low (Some r) (map of_numbers (drop (i + 1) rows)) in
      sym (ap (λ xs. row_fault in_range high low before xs) record_left
      ∙ (ap (λ b. if b then (if follows high low before r then rest else Some OutOfOrder) else Some OutOfRange) is_sound
      ∙ ap (λ b. if b then rest else Some OutOfOrder) above))
      ∙ e
