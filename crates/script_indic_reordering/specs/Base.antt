-- The reph that a syllable begins with, and its base (OpenType specification, script development for Indic scripts:
-- find the base consonant; HarfBuzz: initial_reordering_consonant_syllable).
use Rattle.std.specs.Prelude.{ℕ, zero, suc, ◌+◌, ◌-◌, ◌==◌, ◌&&◌, ◌||◌, not, Bool, false, nat_lt, if◌then◌else◌, List, [], ◌∷◌, length, drop, Option, None, Some}
use Rattle.std.specs.List.{list_any, position_or_len}
use Rattle.std.specs.Option.{option_map_or, option_or}
use Rattle.script_categories.specs.declared.ot_category_t.TheConstants as category
use Rattle.buffer_glyphs.specs.Items.{Item}
use Rattle.script_indic_reordering.specs.declared.script.RephMode.{RephMode}
use Rattle.script_indic_reordering.specs.declared.script.RephMode.TheVariants.{Implicit, Explicit, Logical}
use Rattle.script_indic_reordering.specs.Glyphs.{is_below, is_consonant, is_halant, is_joiner, is_post, is_ra, is_zwj}
use Rattle.script_indic_reordering.specs.Indices.{begins_with, first_at, last_at}

-- ---- what the font would form

-- the glyph numbers of which a font would make a reph, a form before the base, a form below the base, a form after
-- the base
pub record Forms : Type 0 where
  pub reph : List ℕ → Bool
  pub pref : List ℕ → Bool
  pub below : List ℕ → Bool
  pub post : List ℕ → Bool

-- ---- the reph

-- the number of items of a reph, 0 where a list begins with none: the character Repha; Ra and a halant with no joiner
-- next; Ra and a halant with a ZWJ next
abbrev pub reph_glyphs : RephMode → Forms → List Item → ℕ
reph_glyphs Logical forms (x ∷ xs) = if x.category == category.OT_Repha then 1 else 0
reph_glyphs Implicit forms (x ∷ y ∷ z ∷ zs) =
    if is_ra x && is_halant y && not (is_joiner z) && forms.reph (x.number ∷ y.number ∷ []) then 2 else 0
reph_glyphs Explicit forms (x ∷ y ∷ z ∷ zs) =
    if is_ra x && is_halant y && is_zwj z && (forms.reph (x.number ∷ y.number ∷ []) || forms.reph (x.number ∷ y.number ∷ z.number ∷ [])) then 2 else 0
reph_glyphs mode forms xs = 0

-- the number of joiners that a list begins with
abbrev pub joiners : List Item → ℕ
joiners xs = position_or_len (λ x. not (is_joiner x)) xs

-- a number of items, increased by the number of joiners that follow these items; 0 stays 0
abbrev pub with_joiners : ℕ → List Item → ℕ
with_joiners n xs = if n == 0 then 0 else n + joiners (drop n xs)

-- the number of items of a reph with the joiners that follow, 0 without a reph
abbrev pub reph_front : RephMode → Forms → List Item → ℕ
reph_front mode forms xs = with_joiners (reph_glyphs mode forms xs) xs

-- ---- the base

-- a list begins with a halant and a ZWJ, before which no base is sought
abbrev pub ends_search : List Item → Bool
ends_search (x ∷ y ∷ ys) = is_halant x && is_zwj y
ends_search xs = false

-- the index from which the base is sought: after the last ZWJ that follows a halant, else after the reph
abbrev pub search_start : ℕ → List Item → ℕ
search_start n xs = option_map_or (λ i. i + 2) (last_at ends_search (n - 1) (drop (n - 1) xs)) n

-- an item is a consonant with a form below the base
abbrev pub is_below_consonant : Item → Bool
is_below_consonant x = is_consonant x && is_below x

-- an item is a consonant that may be the base: it has no form below the base, and a form after the base only where a
-- consonant with a form below follows
abbrev pub may_be_base : Item → Bool → Bool
may_be_base x has_below = is_consonant x && not (is_below x) && (not (is_post x) || has_below)

-- the first item of a list may be the base, by the items after it
abbrev pub qualifies : List Item → Bool
qualifies [] = false
qualifies (x ∷ xs) = may_be_base x (list_any is_below_consonant xs)

-- the index of the last consonant that may be the base, else of the first consonant, in a list that begins at an
-- index
abbrev pub base_from : ℕ → List Item → Option ℕ
base_from i xs = option_or (last_at qualifies i xs) (first_at (begins_with is_consonant) i xs)

-- the index of the base after a reph of a number of items, None where no consonant follows the reph
abbrev pub base_after : ℕ → List Item → Option ℕ
base_after n xs = base_from (search_start n xs) (drop (search_start n xs) xs)

-- a syllable has a reph or has none, and its base has an index; without a base the index is the length of the
-- syllable
pub record RephAndBase : Type 0 where
  pub has_reph : Bool
  pub base : ℕ

-- the reph and the base by the number of items of the reph and the base after it. Where no consonant follows, the first
-- item is the base, and a reph is formed only where it is more than two items with the joiners
abbrev pub reph_and_base_by : ℕ → Option ℕ → ℕ → RephAndBase
reph_and_base_by n (Some base) count = record { has_reph = nat_lt 0 n; base = base }
reph_and_base_by zero None count = record { has_reph = false; base = count }
reph_and_base_by (suc n) None count = record { has_reph = nat_lt 2 (suc n); base = 0 }

-- the reph and the base of a syllable
abbrev pub reph_and_base : RephMode → Forms → List Item → RephAndBase
reph_and_base mode forms xs = reph_and_base_by (reph_front mode forms xs) (base_after (reph_front mode forms xs) xs) (length xs)
