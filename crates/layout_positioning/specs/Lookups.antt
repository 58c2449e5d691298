-- A GPOS lookup by the type of its subtables, tried at each index of a list (OpenType, chapter 2).
use Rattle.std.specs.Prelude.{ℕ, suc, zero, List, [], length, Option, Some, None, slice_get}
use Rattle.buffer_common.specs.declared.direction.Direction.{Direction}
use Rattle.buffer_core.specs.Readings.{Stage, as_it_is}
use Rattle.layout_face.specs.declared.parts.FaceParts.{FaceParts}
use Rattle.layout_face.specs.Lookups.{props_of}
use Rattle.layout_face.specs.declared.positioning.PositioningLookup.{PositioningLookup}
use Rattle.layout_face.specs.declared.positioning.PositioningSubtables.{PositioningSubtables}
use Rattle.layout_face.specs.declared.positioning.PositioningSubtables.TheVariants.{Single, Pair, Cursive, MarkToBase, MarkToLigature, MarkToMark, Context, ChainContext}
use Rattle.layout_map_features.specs.declared.lookup.lookup_map_t.{lookup_map_t}
use Rattle.layout_map_features.specs.declared.per_table.TableIndex.TheVariants.{GPOS}
use Rattle.layout_match.specs.Applied.{ApplyContext}
use Rattle.buffer_stages.specs.Actions.{uncut_with_positions, Passes, Action, first_rule}
use Rattle.layout_contexts.specs.Chains.{context_subtable}
use Rattle.layout_positioning.specs.Joins.{cursive_subtable}
use Rattle.layout_gpos.specs.Marks.{mark_to_base, mark_to_ligature, mark_to_mark}
use Rattle.layout_gpos.specs.Pairs.{pair_subtable}
use Rattle.layout_gpos.specs.Singles.{single_subtable}
use Rattle.layout_match.specs.Trying.{met_first, trials}

-- the parameters of applying a lookup of a map: its own flag; mask, joiners, syllables and random alternates as the map
-- says
abbrev pub lookup_context : FaceParts → PositioningLookup → lookup_map_t → ApplyContext
lookup_context font lookup m = record { table = GPOS; font = font; props = props_of lookup.flags lookup.mark_filtering_set; mask = m.mask; auto_zwnj = m.auto_zwnj; auto_zwj = m.auto_zwj; per_syllable = m.per_syllable; random = m.random }

-- ---- at a cut

-- the first matching subtable of a lookup, in text of a direction; contexts apply the lookups that may be nested in it
abbrev pub first_subtable : Option (ℕ → Action) → Direction → ApplyContext → PositioningSubtables → Action
first_subtable nest d a (Single subtables) c = first_rule (λ s. single_subtable d s.rows) subtables c
first_subtable nest d a (Pair subtables) c = first_rule (pair_subtable d a) subtables c
first_subtable nest d a (Cursive subtables) c = first_rule (λ s. cursive_subtable d a s.rows) subtables c
first_subtable nest d a (MarkToBase subtables) c = first_rule (mark_to_base a) subtables c
first_subtable nest d a (MarkToLigature subtables) c = first_rule (mark_to_ligature a) subtables c
first_subtable nest d a (MarkToMark subtables) c = first_rule (mark_to_mark a) subtables c
first_subtable nest d a (Context subtables) c = first_rule (context_subtable nest a) subtables c
first_subtable nest d a (ChainContext subtables) c = first_rule (context_subtable nest a) subtables c

-- the parameters of a lookup nested in another: the other's mask, joiners and syllables, and its own flag
abbrev pub under_flag : PositioningLookup → ApplyContext → ApplyContext
under_flag lookup a = record a { props = props_of lookup.flags lookup.mark_filtering_set }

-- a nested lookup at its index, where neither mask nor flag is tested; an index without a lookup does nothing
abbrev pub nested_lookup : (ApplyContext → Option (ℕ → Action)) → Option PositioningLookup → Direction → ApplyContext → Action
nested_lookup below None d a c = Passes []
nested_lookup below (Some lookup) d a c = first_subtable (below (under_flag lookup a)) d (under_flag lookup a) lookup.subtables c

-- the lookups of a table that may be nested in one, each by its index, at n levels; none at level 0
unfoldable pub nested_actions : List PositioningLookup → ℕ → Direction → ApplyContext → Option (ℕ → Action)
nested_actions table zero d a = None
nested_actions table (suc depth) d a = Some (λ i. nested_lookup (nested_actions table depth d) (slice_get table i) d a)

-- a nested lookup, by its index, in which lookups may be nested at n levels more
abbrev pub nested_act : List PositioningLookup → ℕ → Direction → ApplyContext → ℕ → Action
nested_act table depth d a i c = nested_lookup (nested_actions table depth d) (slice_get table i) d a c

-- a lookup at an index; lookups may be nested in it 64 levels deep
abbrev pub lookup_action : List PositioningLookup → Direction → ApplyContext → PositioningLookup → Action
lookup_action table d a lookup c = met_first a (first_subtable (nested_actions table 64 d a) d a lookup.subtables) c

-- ---- at all indices

-- a rule tried at each index of a list once, from the left; it leaves the items, and those that it moved over are not
-- tried again
abbrev pub positioning_pass : Action → Stage
positioning_pass act v = trials act v (length v.items) (uncut_with_positions v)

-- the lookup of a map at an index of the table; an index without one does nothing
abbrev pub lookup_stage : FaceParts → List PositioningLookup → Option PositioningLookup → lookup_map_t → Stage
lookup_stage font table None m v = as_it_is v
lookup_stage font table (Some lookup) m v = positioning_pass (lookup_action table v.direction (lookup_context font lookup m) lookup) v
