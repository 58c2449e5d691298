-- Ligature words under other names.
use Rattle.std.proofs.Common.{ℕ, ◌≡◌, ◌<◌, ◌+◌, ◌*◌, ◌==◌, ◌&&◌, Bool, if◌then◌else◌, min, arith, ap, ◌∙◌}
use Rattle.std.specs.Prelude.{◌/◌, ◌%◌}
use Rattle.buffer_glyphs.specs.Items.{Item}
use Rattle.buffer_glyphs.specs.LigatureWords.{component_bound, component_word, is_lig_base, is_ligature, lig_comp, lig_id, lig_num_comps, ligature_word}
use Rattle.buffer_parts.specs.Breaks.Fragments.{with_ligature_renamed}
use Rattle.buffer_facts.proofs.Bits.{above_29_bits as number_of, bit_28 as base_of, below_28_bits as component_of}

-- ---- words

part_of : (a r : ℕ) → (a * 536870912 + r % 536870912) % 536870912 ≡ r % 536870912
part_of a r = omega arith

-- a word with its number taken for another
pub word_of : (a r : ℕ) → r < 536870912 → (a * 536870912 + r) / 536870912 ≡ a
word_of a r lt = omega (arith, lt)

pub part_of_word : (a r : ℕ) → r < 536870912 → (a * 536870912 + r) % 536870912 ≡ r
part_of_word a r lt = omega (arith, lt)

-- ---- items

pub number_named : (f : ℕ → ℕ) (x : Item) → lig_id (with_ligature_renamed f x) ≡ f (lig_id x)
number_named f x = number_of (f (lig_id x)) x.lig_props

pub base_named : (f : ℕ → ℕ) (x : Item) → is_lig_base (with_ligature_renamed f x) ≡ is_lig_base x
base_named f x = ap (λ (n : ℕ). n == 1) (base_of (f (lig_id x)) x.lig_props)

pub component_named : (f : ℕ → ℕ) (x : Item) → lig_comp (with_ligature_renamed f x) ≡ lig_comp x
component_named f x =
    ap (λ (b : Bool). if b then 0 else (with_ligature_renamed f x).lig_props % 0x1000_0000) (base_named f x)
    ∙ ap (λ (n : ℕ). if is_lig_base x then 0 else n) (component_of (f (lig_id x)) x.lig_props)

pub components_named : (f : ℕ → ℕ) (x : Item) → lig_num_comps (with_ligature_renamed f x) ≡ lig_num_comps x
components_named f x =
    ap (λ (b : Bool). if is_ligature x && b then (with_ligature_renamed f x).lig_props % 0x1000_0000 else 1) (base_named f x)
    ∙ ap (λ (n : ℕ). if is_ligature x && is_lig_base x then n else 1) (component_of (f (lig_id x)) x.lig_props)

-- ---- new words

component_small : (n : ℕ) → min n component_bound < 536870912
component_small n = omega arith

ligature_small : (n : ℕ) → 0x1000_0000 + min n component_bound < 536870912
ligature_small n = omega arith

renamed_word : (f : ℕ → ℕ) (a r : ℕ) → r < 536870912 → f ((a * 536870912 + r) / 536870912) * 536870912 + (a * 536870912 + r) % 536870912 ≡ f a * 536870912 + r
renamed_word f a r lt = ap (λ (n : ℕ). f n * 536870912 + (a * 536870912 + r) % 536870912) (word_of a r lt) ∙ ap (λ (n : ℕ). f a * 536870912 + n) (part_of_word a r lt)

-- an item with the word of a component, or of a ligature, under another name
pub component_word_named : (f : ℕ → ℕ) (id n : ℕ) (x : Item) → with_ligature_renamed f (record x { lig_props = component_word id n }) ≡ record x { lig_props = component_word (f id) n }
component_word_named f id n x = ap (λ (w : ℕ). record x { lig_props = w }) (renamed_word f id (min n component_bound) (component_small n))

pub ligature_word_named : (f : ℕ → ℕ) (id n : ℕ) (x : Item) → with_ligature_renamed f (record x { lig_props = ligature_word id n }) ≡ record x { lig_props = ligature_word (f id) n }
ligature_word_named f id n x = ap (λ (w : ℕ). record x { lig_props = w }) (renamed_word f id (0x1000_0000 + min n component_bound) (ligature_small n))

-- the number in such words
pub number_of_component : (id n : ℕ) (x : Item) → lig_id (record x { lig_props = component_word id n }) ≡ id
number_of_component id n x = word_of id (min n component_bound) (component_small n)

pub number_of_ligature : (id n : ℕ) (x : Item) → lig_id (record x { lig_props = ligature_word id n }) ≡ id
number_of_ligature id n x = word_of id (0x1000_0000 + min n component_bound) (ligature_small n)
