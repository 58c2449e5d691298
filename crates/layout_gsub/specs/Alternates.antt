-- Alternate substitution (OpenType, GSUB lookup type 3): one of several glyphs replaces another.
use Rattle.std.specs.Prelude.{ℕ, ◌-◌, ◌/◌, ◌%◌, ◌^◌, ◌==◌, ◌&&◌, Bool, not, if◌then◌else◌, List, [], ◌∷◌, length, Option, Some, None, slice_get}
use Rattle.std.specs.Int.{trailing_zeros, w32}
use Rattle.std.specs.Int.RustNames.{bit_and}
use Rattle.buffer_glyphs.specs.Parts.{first_of}
use Rattle.buffer_glyphs.specs.Events.{Break}
use Rattle.layout_face.specs.declared.parts.GlyphDefinition.{GlyphDefinition}
use Rattle.layout_tables.specs.declared.sequence.SequenceRow.{SequenceRow}
use Rattle.layout_tables.specs.Substitutions.{glyphs_of}
use Rattle.buffer_stages.specs.Actions.{Passes, Action, whole, later, at_first}
use Rattle.layout_match.specs.Applied.{next_random}
use Rattle.layout_gsub.specs.Replacements.{single_substitution}

-- the value that a glyph's mask gives the feature whose bits are those of a lookup's mask
abbrev pub feature_value : ℕ → ℕ → ℕ
feature_value bits mask = bit_and mask bits / 2 ^ trailing_zeros w32 bits

-- the alternate of a value: value 1 is the first
abbrev pub alternate_of_value : ℕ → List ℕ → Option ℕ
alternate_of_value value glyphs = if value == 0 then None else slice_get glyphs (value - 1)

-- whether an alternate is drawn at random: at the greatest value that a feature can have, by a lookup of the feature
-- `rand`, where there is an alternate
abbrev pub is_drawn : Bool → ℕ → List ℕ → Bool
is_drawn random value glyphs = random && value == 255 && not (length glyphs == 0)

-- the drawn alternate replaces the item; the random state advances, and since it depends on the whole text all of it is
-- unsafe to break
abbrev pub drawn_alternate : GlyphDefinition → List ℕ → Action
drawn_alternate gdef glyphs c = later (Break 0 (length (whole c)) ∷ []) (single_substitution gdef (slice_get glyphs (next_random c.random % length glyphs)) (record c { random = next_random c.random }))

-- the alternate of the feature's value replaces the item, or a drawn one
abbrev pub alternate_of : GlyphDefinition → Bool → ℕ → List ℕ → Action
alternate_of gdef random value glyphs c = if is_drawn random value glyphs then drawn_alternate gdef glyphs c else single_substitution gdef (alternate_of_value value glyphs) c

-- a set of alternates at the item, if there is one
abbrev pub alternate_set : GlyphDefinition → Bool → ℕ → Option (List ℕ) → Action
alternate_set gdef random value None c = Passes []
alternate_set gdef random value (Some glyphs) c = alternate_of gdef random value glyphs c

-- each covered glyph has a set of alternates
abbrev pub alternate_subtable : GlyphDefinition → Bool → ℕ → List SequenceRow → Action
alternate_subtable gdef random bits rows c = at_first (λ x. alternate_set gdef random (feature_value bits x.mask) (glyphs_of x.number rows)) (first_of c.rest) c
