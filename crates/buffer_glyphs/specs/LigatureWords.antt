-- The ligature word of an item: which ligature it is or belongs to, and which of its components a mark belongs to.
use Rattle.std.specs.Prelude.{ℕ, ◌+◌, ◌*◌, ◌/◌, ◌%◌, ◌==◌, ◌&&◌, Bool, not, min, if◌then◌else◌, bit_and}
use Rattle.buffer_glyphs.specs.Items.{Item}

-- whether some of the bits are set
abbrev pub has_bits : ℕ → ℕ → Bool
has_bits bits n = not (bit_and n bits == 0)

-- ---- the class of an item, and the substitutions that made it

-- whether an item has the GDEF class of a base
abbrev pub is_base_glyph : Item → Bool
is_base_glyph x = has_bits 2 x.glyph_props

-- whether an item has the GDEF class of a ligature
abbrev pub is_ligature : Item → Bool
is_ligature x = has_bits 4 x.glyph_props

-- whether an item has the GDEF class MARK
abbrev pub is_mark : Item → Bool
is_mark x = has_bits 8 x.glyph_props

-- whether a substitution made an item
abbrev pub is_substituted : Item → Bool
is_substituted x = has_bits 16 x.glyph_props

-- whether a ligature substitution made an item
abbrev pub is_ligated : Item → Bool
is_ligated x = has_bits 32 x.glyph_props

-- whether a multiple substitution made an item one of several
abbrev pub is_multiplied : Item → Bool
is_multiplied x = has_bits 64 x.glyph_props

-- ---- the ligature word: three bits of the ligature's number, one bit that the item is the ligature itself, then a
-- component or how many there are

-- components are numbered, and counted, up to 2^28 - 1
abbrev pub component_bound : ℕ
component_bound = 0x0FFF_FFFF

-- a component number, at most `component_bound`
abbrev pub component_count : ℕ → ℕ
component_count n = min n component_bound

-- the ligature word of a ligature of n components
abbrev pub ligature_word : ℕ → ℕ → ℕ
ligature_word id components = id * 0x2000_0000 + (0x1000_0000 + component_count components)

-- the ligature word of an item that belongs to a component
abbrev pub component_word : ℕ → ℕ → ℕ
component_word id component = id * 0x2000_0000 + component_count component

-- the number of the ligature that an item is or belongs to, 0 where there is none
abbrev pub lig_id : Item → ℕ
lig_id x = x.lig_props / 0x2000_0000

-- whether the ligature word says that the item is the ligature itself
abbrev pub is_lig_base : Item → Bool
is_lig_base x = x.lig_props / 0x1000_0000 % 2 == 1

-- the component that an item belongs to; a ligature belongs to none
abbrev pub lig_comp : Item → ℕ
lig_comp x = if is_lig_base x then 0 else x.lig_props % 0x1000_0000

-- how many components an item has: one, except for a ligature
abbrev pub lig_num_comps : Item → ℕ
lig_num_comps x = if is_ligature x && is_lig_base x then x.lig_props % 0x1000_0000 else 1
