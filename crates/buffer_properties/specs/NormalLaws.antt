-- Laws of the normalised list.
use Rattle.std.specs.Prelude.{ℕ, ◌≡◌, ◌↔◌, true, List}
use Rattle.std.specs.List.{list_all}
use Rattle.buffer_unicode_tables.specs.Expansion.{EndWithin}
use Rattle.buffer_unicode_tables.specs.Lawful.{IsLawful}
use Rattle.buffer_unicode_tables.specs.Tables.{Tables, split_of, class_of}
use Rattle.buffer_unicode_tables.specs.Texts.{full_text, text_order, AreEquivalent}
use Rattle.buffer_glyphs.specs.Items.{Item}
use Rattle.buffer_properties.specs.Characters.{mark_class, characters_of, items_of_text}
use Rattle.buffer_properties.specs.Expanding.{expanded_list}
use Rattle.buffer_properties.specs.NormalizedList.{normalized_items}
use Rattle.buffer_properties.specs.Normalizer.{Normalizer, has_character}
use Rattle.buffer_properties.specs.Premises.{SplitsAsUnicode, ComposesWithinUnicode, ReordersNothing, ExpandsGreatest, HasNoSelector, HasShortRuns, IsRegular}

-- under lawful tables, equivalent texts have the same normalised list
abbrev pub EquivalentsNormalizeAlike : Type 0
EquivalentsNormalizeAlike = (c : Normalizer) (x : Item) (us vs : List ℕ) → EndWithin (split_of c.tables) 8 → IsLawful c.tables → SplitsAsUnicode c → ExpandsGreatest c
    → AreEquivalent c.tables us vs → IsRegular c us → IsRegular c vs
    → (normalized_items c (items_of_text c.tables x us)).items ≡ (normalized_items c (items_of_text c.tables x vs)).items

-- under lawful tables, texts are equivalent exactly where their full expansions have one class order
abbrev pub EquivalenceIsOneOrder : Type 0
EquivalenceIsOneOrder = (t : Tables) → EndWithin (split_of t) 8 → IsLawful t → (us vs : List ℕ) → AreEquivalent t us vs ↔ (text_order t (full_text t us) ≡ text_order t (full_text t vs))

-- under lawful tables, the characters of the normalised list are equivalent to the text
abbrev pub NormalizingKeepsEquivalence : Type 0
NormalizingKeepsEquivalence = (c : Normalizer) (x : Item) (us : List ℕ) → IsLawful c.tables → SplitsAsUnicode c → ComposesWithinUnicode c → ReordersNothing c
    → HasNoSelector us → HasShortRuns mark_class 0 (expanded_list c (items_of_text c.tables x us)).items
    → AreEquivalent c.tables us (characters_of (normalized_items c (items_of_text c.tables x us)).items)

-- runs that are short in the full expansion are short in each expansion that a font supports
abbrev pub ExpansionKeepsRunsShort : Type 0
ExpansionKeepsRunsShort = (c : Normalizer) (x : Item) (us : List ℕ) → EndWithin (split_of c.tables) 8 → IsLawful c.tables → SplitsAsUnicode c → HasNoSelector us
    → HasShortRuns (class_of c.tables) 0 (full_text c.tables us) → HasShortRuns mark_class 0 (expanded_list c (items_of_text c.tables x us)).items

-- a normaliser with another glyph for characters that the font lacks
abbrev pub with_not_found : ℕ → Normalizer → Normalizer
with_not_found glyph c = record c { not_found = glyph }

-- characters that the font has expand alike, whichever glyph those have that it lacks
abbrev pub NotFoundIsOfMissing : Type 0
NotFoundIsOfMissing = (c : Normalizer) (glyph : ℕ) (xs : List Item) → list_all (λ x. has_character c x.number) xs ≡ true → expanded_list (with_not_found glyph c) xs ≡ expanded_list c xs
