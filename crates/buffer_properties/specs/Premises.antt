-- The texts and normalisers of the laws.
use Rattle.std.specs.Prelude.{ℕ, ◌≡◌, ◌≤◌, ◌+◌, ◌==◌, true, false, if◌then◌else◌, List, [], ◌∷◌, Some, drop}
use Rattle.std.specs.List.{list_any, list_all}
use Rattle.buffer_unicode.specs.Character.{is_variation_selector_character}
use Rattle.buffer_unicode_tables.specs.Tables.{split_of, pair_of, class_of}
use Rattle.buffer_unicode_tables.specs.Texts.{full_text}
use Rattle.buffer_glyphs.specs.Items.{Item}
use Rattle.buffer_glyphs.specs.Rewriting.{eventless_arrangement}
use Rattle.buffer_properties.specs.Properties.{is_mark_character}
use Rattle.buffer_properties.specs.Normalizer.{Normalizer, has_character, reach_alone, reach_with_marks}
use Rattle.buffer_properties.specs.SupportedExpansion.{Greatest}
use Rattle.buffer_properties.specs.declared.normal_mode.TheConstants.{MAX_COMBINING_MARKS}

-- no run of nonzero class has more elements than are sorted; n of a run were read
abbrev pub HasShortRuns : {X : Type 0} → (X → ℕ) → ℕ → List X → Type 0
HasShortRuns class met [] = met ≤ MAX_COMBINING_MARKS
HasShortRuns class met (x ∷ xs) = (met ≤ MAX_COMBINING_MARKS) × HasShortRuns class (if class x == 0 then 0 else met + 1) xs

-- characters split as in Unicode
abbrev pub SplitsAsUnicode : Normalizer → Type 0
SplitsAsUnicode c = (u : ℕ) → c.splits u ≡ split_of c.tables u

-- each composite is one in Unicode
abbrev pub ComposesWithinUnicode : Normalizer → Type 0
ComposesWithinUnicode c = (a b u : ℕ) → c.composes a b ≡ Some u → pair_of c.tables a b ≡ Some u

-- a sorted run of combining marks stays as it is
abbrev pub ReordersNothing : Normalizer → Type 0
ReordersNothing c = (run : List Item) → c.reorders run ≡ eventless_arrangement run

-- all characters are split as far as the font has the pieces
pub record ExpandsGreatest (c : Normalizer) : Type 0 where
  pub alone : reach_alone c.mode ≡ Greatest
  pub with_marks : reach_with_marks c.mode ≡ Greatest

-- no character is a variation selector
abbrev pub HasNoSelector : List ℕ → Type 0
HasNoSelector us = list_any is_variation_selector_character us ≡ false

-- a combining mark is after the first character, no character is a variation selector, no run of combining marks is
-- long in the full expansion, and the font has every character
pub record IsRegular (c : Normalizer) (us : List ℕ) : Type 0 where
  pub has_later_mark : list_any is_mark_character (drop 1 us) ≡ true
  pub has_no_selector : HasNoSelector us
  pub has_short_runs : HasShortRuns (class_of c.tables) 0 (full_text c.tables us)
  pub in_font : list_all (has_character c) (full_text c.tables us) ≡ true
