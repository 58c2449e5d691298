-- How tables are read, step by step, and then a font.
use Rattle.std.proofs.Common.{ℕ, ◌≡◌, ◌≢◌, true, false, List, Result, Ok, Err, refl, sym, subst, ap, ◌∙◌, inl, inr}
use Rattle.serde_json.specs.Data.{Data}
use Rattle.shell_json.specs.declared.fault.JsonFault.{JsonFault}
use Rattle.shell_json.specs.declared.fault.JsonFault.TheVariants.{NotJson, WrongShape, FloatNumber, UnknownName, OutOfOrder, OutOfRange, SplitDepth, OutOfMemory}
use Rattle.shell_readers.specs.declared.fault.RunFault.{RunFault}
use Rattle.shell_readers.specs.declared.fault.RunFault.TheVariants.{Unlawful}
use Rattle.shell_readers.specs.Fault.{run_fault_of}
use Rattle.shell_tables_json.specs.Deep.{HasDeepSplits}
use Rattle.shell_tables_json.specs.Unicode.{tables_of}
use Rattle.buffer_unicode_tables.specs.Expansion.{EndWithin}
use Rattle.buffer_unicode_tables.specs.Lawful.{IsLawful}
use Rattle.buffer_unicode_tables.specs.Tables.{Tables, split_of}
use Rattle.layout_face.specs.declared.parts.FaceParts.{FaceParts}
use Rattle.shell_readers.specs.Input.{IsInput, font_in, with_font}
use Rattle.shell_readers.specs.Tables.{AreLawfulTables, AreTables, IfLawful, IfShallow, IsRunValueOf, IsValueOf, RunTables, with_rest}
use Rattle.shell_readers.specs.Values.{json_of, of_json, then_answers, then_run}
use Rattle.shell_readers.specs.Laws.{FontsJoinTables, InputsAreOne}

-- ---- values

-- tables without a fault of a row are what the rest is read as
pub rest_read : (d : Data) (t : Tables) (r : Result RunTables JsonFault) → tables_of d ≡ Ok t → EndWithin (split_of t) 8 → with_rest t d ≡ r → IsValueOf d r
unfolding IsValueOf
rest_read d t r rows shallow rest = rw rows (inl (shallow, sym rest))

row_refused : (d : Data) (e : JsonFault) → tables_of d ≡ Err e → IsValueOf d (Err e)
unfolding IsValueOf
row_refused d e rows = rw rows refl

deep_then : (r : Result Tables JsonFault) (Answers : Tables → Result RunTables JsonFault → Type 0) → HasDeepSplits r → then_answers r (λ t. IfShallow t (Answers t)) (Err SplitDepth)
deep_then (Ok t) Answers deep = inr (deep, refl)
deep_then (Err e) Answers deep = absurd deep

deep_refused : (d : Data) → HasDeepSplits (tables_of d) → IsValueOf d (Err SplitDepth)
unfolding IsValueOf
deep_refused d deep = deep_then (tables_of d) (λ t whole. whole ≡ with_rest t d) deep

-- a fault of the rows, or of their chains of splits
pub rows_refused : (d : Data) (e : JsonFault) → (e ≢ SplitDepth → tables_of d ≡ Err e) → (e ≡ SplitDepth → HasDeepSplits (tables_of d)) → IsValueOf d (Err e)
rows_refused d SplitDepth rows deep = deep_refused d (deep refl)
rows_refused d NotJson rows deep = row_refused d NotJson (rows (λ same. cc))
rows_refused d WrongShape rows deep = row_refused d WrongShape (rows (λ same. cc))
rows_refused d FloatNumber rows deep = row_refused d FloatNumber (rows (λ same. cc))
rows_refused d UnknownName rows deep = row_refused d UnknownName (rows (λ same. cc))
rows_refused d OutOfOrder rows deep = row_refused d OutOfOrder (rows (λ same. cc))
rows_refused d OutOfRange rows deep = row_refused d OutOfRange (rows (λ same. cc))
rows_refused d OutOfMemory rows deep = row_refused d OutOfMemory (rows (λ same. cc))

-- ---- bytes

pub tables_read : (bytes : List ℕ) (d : Data) (t : RunTables) → json_of bytes ≡ Ok d → IsValueOf d (Ok t) → AreTables bytes (Ok t)
unfolding AreTables
tables_read bytes d t json value = rw json (Ok t, value, refl)

pub value_refused : (bytes : List ℕ) (d : Data) (e : JsonFault) → json_of bytes ≡ Ok d → IsValueOf d (Err e) → AreTables bytes (Err (run_fault_of e))
unfolding AreTables
value_refused bytes d e json value = rw json (Err e, value, refl)

pub tables_refused : (bytes : List ℕ) (e : RunFault) → json_of bytes ≡ Err e → AreTables bytes (Err e)
unfolding AreTables
tables_refused bytes e json = rw json refl

-- ---- lawful tables

module _ (bytes : List ℕ) where
  lawful_then : (t : RunTables) (r : Result RunTables RunFault) → AreTables bytes (Ok t) → IfLawful t r → AreLawfulTables bytes r
  unfolding AreLawfulTables
  lawful_then t r read answers = (Ok t, read, answers)

  pub lawful_read : (t : RunTables) → AreTables bytes (Ok t) → IsLawful t.characters → AreLawfulTables bytes (Ok t)
  lawful_read t read lawful = lawful_then t (Ok t) read (inl (lawful, refl))

  pub laws_refused : (t : RunTables) (e : RunFault) → AreTables bytes (Ok t) → e ≡ Unlawful → ¬ IsLawful t.characters → AreLawfulTables bytes (Err e)
  laws_refused t e read same not_lawful = lawful_then t (Err e) read (inr (not_lawful, ap Err same))

  pub refused : (e : RunFault) → AreTables bytes (Err e) → AreLawfulTables bytes (Err e)
  unfolding AreLawfulTables
  refused e read = (Err e, read, refl)

-- ---- tables and a font

module _ (tables font : List ℕ) where
  pub joined : (t : RunTables) (r : Result FaceParts RunFault) → AreLawfulTables tables (Ok t) → font_in font ≡ r → IsInput tables font (with_font r t)
  unfolding IsInput
  joined t r read is = (Ok t, read, ap (λ (f : Result FaceParts RunFault). with_font f t) (sym is))

  pub both_read : (t : RunTables) (face : FaceParts) → AreLawfulTables tables (Ok t) → font_in font ≡ Ok face → IsInput tables font (Ok (record { tables = t; font = face }))
  both_read t face read is = joined t (Ok face) read is

  pub font_refused : (t : RunTables) (e : RunFault) → AreLawfulTables tables (Ok t) → font_in font ≡ Err e → IsInput tables font (Err e)
  font_refused t e read is = joined t (Err e) read is

  pub tables_faulty : (e : RunFault) → AreLawfulTables tables (Err e) → IsInput tables font (Err e)
  unfolding IsInput
  tables_faulty e read = (Err e, read, refl)

pub fonts_join_tables : FontsJoinTables
fonts_join_tables tables font t read = joined tables font t (font_in font) read refl

-- ---- there is one way

shallow_once : (t : Tables) (whole r s : Result RunTables JsonFault) → IfShallow t (λ x. x ≡ whole) r → IfShallow t (λ x. x ≡ whole) s → r ≡ s
shallow_once t whole r s (inl p) (inl q) = p.1 ∙ sym q.1
shallow_once t whole r s (inl p) (inr q) = let is : true ≡ false = sym (p.0 q.0.0) ∙ q.0.1 in cc
shallow_once t whole r s (inr p) (inl q) = let is : true ≡ false = sym (q.0 p.0.0) ∙ p.0.1 in cc
shallow_once t whole r s (inr p) (inr q) = p.1 ∙ sym q.1

lawful_once : (t : RunTables) (r s : Result RunTables RunFault) → IfLawful t r → IfLawful t s → r ≡ s
lawful_once t r s (inl p) (inl q) = p.1 ∙ sym q.1
lawful_once t r s (inl p) (inr q) = absurd (q.0 p.0)
lawful_once t r s (inr p) (inl q) = absurd (p.0 q.0)
lawful_once t r s (inr p) (inr q) = p.1 ∙ sym q.1

then_once : {A B E : Type 0} (first : Result A E) (Answers : A → Result B E → Type 0) → ((a : A) (r s : Result B E) → Answers a r → Answers a s → r ≡ s)
    → (r s : Result B E) → then_answers first Answers r → then_answers first Answers s → r ≡ s
then_once (Ok a) Answers once r s p q = once a r s p q
then_once (Err e) Answers once r s p q = p ∙ sym q

value_once : (d : Data) (r s : Result RunTables JsonFault) → IsValueOf d r → IsValueOf d s → r ≡ s
unfolding IsValueOf
value_once d r s p q = then_once (tables_of d) _ (λ t. shallow_once t _) r s p q

run_value_once : (d : Data) (r s : Result RunTables RunFault) → IsRunValueOf d r → IsRunValueOf d s → r ≡ s
run_value_once d r s p q = p.2 ∙ ap of_json (value_once d p.0 q.0 p.1 q.1) ∙ sym q.2

tables_once : (bytes : List ℕ) (r s : Result RunTables RunFault) → AreTables bytes r → AreTables bytes s → r ≡ s
unfolding AreTables
tables_once bytes r s p q = then_once (json_of bytes) IsRunValueOf run_value_once r s p q

lawful_tables_once : (bytes : List ℕ) (r s : Result RunTables RunFault) → AreLawfulTables bytes r → AreLawfulTables bytes s → r ≡ s
unfolding AreLawfulTables
lawful_tables_once bytes r s p q =
    let same : p.0 ≡ q.0 = tables_once bytes p.0 q.0 p.1 q.1 in
    then_once q.0 IfLawful lawful_once r s (subst (λ (read : Result RunTables RunFault). then_answers read IfLawful r) same p.2) q.2

pub inputs_are_one : InputsAreOne
unfolding IsInput
inputs_are_one tables font r s p q =
    p.2 ∙ ap (λ (read : Result RunTables RunFault). then_run read (with_font (font_in font))) (lawful_tables_once tables p.0 q.0 p.1 q.1) ∙ sym q.2
