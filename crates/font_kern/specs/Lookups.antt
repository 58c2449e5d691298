-- The lookups of GPOS that kern (OpenType, GPOS lookup types 2 and 7).
use Rattle.std.specs.Prelude.{ℕ, ◌+◌, Bool, List, [], ◌∷◌, ◌++◌, length, codes, Option, None, Result, Ok, Err}
use Rattle.font_bytes.specs.declared.fault.TableFault.{TableFault}
use Rattle.font_bytes.specs.Results.{and_then}
use Rattle.font_bytes.specs.Records.{records}
use Rattle.font_common.specs.Offsets.{after}
use Rattle.buffer_common.specs.declared.tag.Tag.{Tag}
use Rattle.buffer_common.specs.Tag.{tag_of}
use Rattle.layout_tables.specs.Layout.{FeatureTable}
use Rattle.layout_tables.specs.declared.context.SequenceRule.{SequenceRule}
use Rattle.layout_tables.specs.declared.context.ContextSubtable.{ContextSubtable}
use Rattle.layout_tables.specs.declared.context.ContextSubtable.TheVariants.{Coverage}
use Rattle.layout_tables.specs.declared.pair.PairPos.{PairPos}
use Rattle.layout_face.specs.declared.positioning.PositioningLookup.{PositioningLookup}
use Rattle.layout_face.specs.declared.positioning.PositioningSubtables.TheVariants.{Pair, Context}
use Rattle.font_kern.specs.declared.kerning.Kerning.{Kerning}
use Rattle.font_kern.specs.declared.subtables.Subtable.{Subtable}
use Rattle.font_kern.specs.Kerning.{kerning_at}

-- the tag of the feature
abbrev pub kern_tag : Tag
kern_tag = tag_of (codes "kern")

-- the pairs; marks (flag 8) are skipped
abbrev pub pair_lookup : PairPos → PositioningLookup
pair_lookup pairs = record { flags = 8; mark_filtering_set = None; subtables = Pair (pairs ∷ []) }

-- the rule of one glyph, at which a lookup is called
abbrev pub call_rule : List ℕ → ℕ → SequenceRule (List ℕ)
call_rule firsts index = record { backtrack = []; input = firsts ∷ []; lookahead = []; records = record { sequence_index = 0; lookup_index = index } ∷ [] }

-- a context that calls the pair lookup at each first glyph. A pair lookup that moves its second glyph continues after that; the
-- context continues after its input, the first glyph, so that the second one may begin the next pair
abbrev pub context_lookup : List ℕ → ℕ → PositioningLookup
context_lookup firsts index = record { flags = 8; mark_filtering_set = None; subtables = Context (Coverage (call_rule firsts index ∷ []) ∷ []) }

-- the two lookups of a subtable, by the index of the first one
abbrev pub lookups_of : ℕ → Kerning → List PositioningLookup
lookups_of index k = pair_lookup k.pairs ∷ context_lookup k.firsts index ∷ []

-- the lookups of subtables, from an index on
abbrev pub kern_lookups : Bool → List ℕ → ℕ → ℕ → List Subtable → Result (List PositioningLookup × ℕ) TableFault
kern_lookups is_backward table room index [] = Ok ([], room)
kern_lookups is_backward table room index (s ∷ subtables) =
    and_then (kerning_at is_backward room table s) (λ k. after (lookups_of index k.0) (kern_lookups is_backward table k.1 (index + 2) subtables))

-- the feature of the contexts of n subtables whose lookups begin at an index
abbrev pub kern_feature : ℕ → ℕ → FeatureTable
kern_feature index count = record { tag = kern_tag; lookups = records (λ i. i) 2 (index + 1) count }
