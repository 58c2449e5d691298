-- Why tables of bytes are refused.
use Rattle.std.proofs.Common.{ℕ, ◌≡◌, ◌≢◌, ◌∙◌, List, Result, Ok, Err, refl, ap, inl, inr}
use Rattle.buffer_unicode.specs.declared.fault.TablesFault.TheVariants.{OutOfOrder, OutOfRange, SplitDepth, OutOfMemory}
use Rattle.buffer_unicode_tables.specs.Lawful.{IsLawful}
use Rattle.buffer_unicode_tables.specs.Tables.{Tables}
use Rattle.font_bytes.specs.Results.{and_then}
use Rattle.shell_default_tables.specs.Binary.{AreUnlawful, IsFaultOf, IsRefusalOf, TablesValue, binary_tables, sections_of, with_rest}
use Rattle.shell_tables_bytes.specs.declared.fault.BinaryFault.{BinaryFault}
use Rattle.shell_tables_bytes.specs.declared.fault.BinaryFault.TheVariants as fault
use Rattle.shell_tables_bytes.specs.Characters.{AreDeep, characters_of}

module _ (bytes : List ℕ) where
  row_refused : (e : BinaryFault) → characters_of bytes ≡ Err e → IsFaultOf bytes (sections_of bytes) e
  row_refused e rows = inl (ap (λ (r : Result Tables BinaryFault). and_then r (λ t. with_rest t bytes)) rows)

  -- a fault of the rows of characters, or of their chains of decompositions
  pub rows_refused : (e : BinaryFault) → (e ≢ fault.Rows SplitDepth → characters_of bytes ≡ Err e) → (e ≡ fault.Rows SplitDepth → AreDeep bytes) → IsFaultOf bytes (sections_of bytes) e
  rows_refused (fault.Rows SplitDepth) rows deep = inr (refl, deep refl)
  rows_refused (fault.Rows OutOfOrder) rows deep = row_refused _ (rows (λ same. cc))
  rows_refused (fault.Rows OutOfRange) rows deep = row_refused _ (rows (λ same. cc))
  rows_refused (fault.Rows OutOfMemory) rows deep = row_refused _ (rows (λ same. cc))
  rows_refused fault.Short rows deep = row_refused _ (rows (λ same. cc))
  rows_refused fault.Languages rows deep = row_refused _ (rows (λ same. cc))
  rows_refused fault.Unlawful rows deep = row_refused _ (rows (λ same. cc))
  rows_refused fault.OutOfMemory rows deep = row_refused _ (rows (λ same. cc))

  -- a fault of what is read after the tables of characters
  pub rest_refused : (t : Tables) (e : BinaryFault) → characters_of bytes ≡ Ok t → with_rest t bytes ≡ Err e → IsFaultOf bytes (sections_of bytes) e
  rest_refused t e rows rest = inl (ap (λ (r : Result Tables BinaryFault). and_then r (λ t. with_rest t bytes)) rows ∙ rest)

  pub fault_refused : (e : BinaryFault) → IsFaultOf bytes (binary_tables bytes) e → IsRefusalOf bytes e
  unfolding IsRefusalOf
  fault_refused e is = inl is

  pub laws_refused : (t : TablesValue) (e : BinaryFault) → binary_tables bytes ≡ Ok t → e ≡ fault.Unlawful → ¬ IsLawful t.characters → IsRefusalOf bytes e
  unfolding IsRefusalOf AreUnlawful
  laws_refused t e read same not_lawful = inr (same, (t, read, not_lawful))
