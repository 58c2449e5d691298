-- Texts that shape alike where they are canonically equivalent, and tables that decompose characters alone.
use Rattle.std.specs.Prelude.{ℕ, ◌≡◌, ◌==◌, ◌+◌, nat_lt, Bool, true, false, if◌then◌else◌, List, [], ◌∷◌, drop, Option, Some, None, is_some}
use Rattle.std.specs.List.{list_all, list_any}
use lib.Utf8.{scalar}
use Rattle.buffer_unicode_tables.specs.Tables.{SplitsCharacters, Tables, class_of, first_row_fault}
use Rattle.buffer_unicode_tables.specs.Texts.{full_expansion, full_text}
use Rattle.layout_face.specs.declared.parts.FaceParts.{FaceParts}
use Rattle.layout_face.specs.Glyphs.{nominal_glyph}
use Rattle.buffer_properties.specs.declared.normal_mode.TheConstants.{MAX_COMBINING_MARKS}
use Rattle.buffer_properties.specs.Premises.{HasNoSelector, HasShortRuns}
use Rattle.buffer_properties.specs.Properties.{is_mark_character}

-- ---- tables

-- law: tables whose rows have no fault decompose characters alone
abbrev pub CheckedTablesSplitCharacters : Type 0
CheckedTablesSplitCharacters = (t : Tables) → first_row_fault t ≡ None → SplitsCharacters t

-- ---- texts

-- the font has a character
abbrev pub is_in_font : FaceParts → ℕ → Bool
is_in_font font u = is_some (if scalar u then nominal_glyph u font else None)

-- the first character is a combining mark
abbrev pub starts_with_mark : List ℕ → Bool
starts_with_mark [] = false
starts_with_mark (u ∷ us) = is_mark_character u

-- a character after the first is a combining mark
abbrev pub has_mark_after_first : List ℕ → Bool
has_mark_after_first us = list_any is_mark_character (drop 1 us)

-- the first character is no combining mark and a later one is, none is a variation selector, and of the full canonical
-- decomposition (UAX 15, D68) the font has each character and no run of nonzero class is longer than is sorted
pub record IsRegularText (font : FaceParts) (t : Tables) (us : List ℕ) : Type 0 where
  pub starts_unmarked : starts_with_mark us ≡ false
  pub has_later_mark : has_mark_after_first us ≡ true
  pub has_no_selector : HasNoSelector us
  pub has_short_runs : HasShortRuns (class_of t) 0 (full_text t us)
  pub in_font : list_all (is_in_font font) (full_text t us) ≡ true

-- ---- the length of runs

-- the length of the run at the end after one more character of a class; None where it is longer than is sorted
abbrev pub run_grown : ℕ → ℕ → Option ℕ
run_grown class met = if class == 0 then Some 0 else if nat_lt met MAX_COMBINING_MARKS then Some (met + 1) else None

-- the length of the run at the end of a text, after a run that was met; None where one was longer than is sorted
abbrev pub run_after : (ℕ → ℕ) → Option ℕ → List ℕ → Option ℕ
run_after class None us = None
run_after class (Some met) [] = Some met
run_after class (Some met) (u ∷ us) = run_after class (run_grown (class u) met) us

-- the font has each character of a character's full canonical decomposition
unfoldable pub has_whole : FaceParts → Tables → ℕ → Bool
has_whole font t u = list_all (is_in_font font) (full_expansion t u)

-- the length of the run at the end after the full canonical decomposition of one more character
unfoldable pub run_with_whole : Tables → Option ℕ → ℕ → Option ℕ
run_with_whole t met u = run_after (class_of t) met (full_expansion t u)
