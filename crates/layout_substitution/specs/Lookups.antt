-- A lookup by the type of its subtables, tried at each index of a list, and the lookups of a stage (OpenType, chapter 2).
use Rattle.std.specs.Prelude.{ℕ, suc, zero, if◌then◌else◌, List, [], ◌∷◌, length, take, drop, Option, Some, None, Ok, slice_get}
use Rattle.buffer_core.specs.Readings.{View, Reading, Stage, and_then, with_events, as_it_is}
use Rattle.layout_face.specs.declared.parts.FaceParts.{FaceParts}
use Rattle.layout_face.specs.Lookups.{props_of, is_reverse}
use Rattle.layout_face.specs.declared.substitution.SubstLookup.{SubstLookup}
use Rattle.layout_face.specs.declared.substitution.SubstitutionSubtables.{SubstitutionSubtables}
use Rattle.layout_face.specs.declared.substitution.SubstitutionSubtables.TheVariants.{Single, Multiple, Alternate, Ligature, Context, ChainContext, ReverseChainSingle}
use Rattle.layout_map_features.specs.declared.lookup.lookup_map_t.{lookup_map_t}
use Rattle.layout_map_features.specs.declared.per_table.TableIndex.TheVariants.{GSUB}
use Rattle.layout_match.specs.Applied.{ApplyContext}
use Rattle.buffer_stages.specs.Actions.{Cut, whole, view_at, uncut_with_positions, Passes, Action, first_rule}
use Rattle.layout_contexts.specs.Chains.{context_subtable}
use Rattle.layout_gsub.specs.Alternates.{alternate_subtable}
use Rattle.layout_gsub.specs.Ligating.{ligature_subst}
use Rattle.layout_gsub.specs.Multiples.{multiple_subtable}
use Rattle.layout_gsub.specs.Replacements.{single_subtable}
use Rattle.layout_gsub.specs.Reverses.{reverse_subtable}
use Rattle.layout_match.specs.Trying.{met_first, after_outcome, forward_pass}

-- the parameters of applying a lookup of a map: its own flag; mask, joiners, syllables and random alternates as the map
-- says
abbrev pub lookup_context : FaceParts → SubstLookup → lookup_map_t → ApplyContext
lookup_context font lookup m = record { table = GSUB; font = font; props = props_of lookup.flags lookup.mark_filtering_set; mask = m.mask; auto_zwnj = m.auto_zwnj; auto_zwj = m.auto_zwj; per_syllable = m.per_syllable; random = m.random }

-- ---- at a cut

-- the first matching subtable of a lookup that is tried from the left; contexts apply the lookups that may be nested in
-- it
abbrev pub first_subtable : Option (ℕ → Action) → ApplyContext → SubstitutionSubtables → Action
first_subtable nest a (Single subtables) c = first_rule (λ s. single_subtable a.font.gdef s.rows) subtables c
first_subtable nest a (Multiple subtables) c = first_rule (λ s. multiple_subtable a.font.gdef s.rows) subtables c
first_subtable nest a (Alternate subtables) c = first_rule (λ s. alternate_subtable a.font.gdef a.random a.mask s.rows) subtables c
first_subtable nest a (Ligature subtables) c = first_rule (ligature_subst a) subtables c
first_subtable nest a (Context subtables) c = first_rule (context_subtable nest a) subtables c
first_subtable nest a (ChainContext subtables) c = first_rule (context_subtable nest a) subtables c
first_subtable nest a (ReverseChainSingle subtables) c = Passes []

-- the parameters of a lookup nested in another: the other's mask, joiners and syllables, and its own flag
abbrev pub under_flag : SubstLookup → ApplyContext → ApplyContext
under_flag lookup a = record a { props = props_of lookup.flags lookup.mark_filtering_set }

-- a nested lookup at its index, where neither mask nor flag is tested; an index without a lookup does nothing
abbrev pub nested_lookup : (ApplyContext → Option (ℕ → Action)) → Option SubstLookup → ApplyContext → Action
nested_lookup below None a c = Passes []
nested_lookup below (Some lookup) a c = first_subtable (below (under_flag lookup a)) (under_flag lookup a) lookup.subtables c

-- the lookups of a table that may be nested in one, each by its index, at n levels; none at level 0
unfoldable pub nested_actions : List SubstLookup → ℕ → ApplyContext → Option (ℕ → Action)
nested_actions table zero a = None
nested_actions table (suc depth) a = Some (λ i. nested_lookup (nested_actions table depth) (slice_get table i) a)

-- a nested lookup, by its index, in which lookups may be nested at n levels more
abbrev pub nested_act : List SubstLookup → ℕ → ApplyContext → ℕ → Action
nested_act table depth a i c = nested_lookup (nested_actions table depth) (slice_get table i) a c

-- the first matching subtable of a lookup that is tried from the right: reverse chaining substitution only
abbrev pub first_reverse : ApplyContext → SubstitutionSubtables → Action
first_reverse a (ReverseChainSingle subtables) c = first_rule (reverse_subtable a) subtables c
first_reverse a (Single subtables) c = Passes []
first_reverse a (Multiple subtables) c = Passes []
first_reverse a (Alternate subtables) c = Passes []
first_reverse a (Ligature subtables) c = Passes []
first_reverse a (Context subtables) c = Passes []
first_reverse a (ChainContext subtables) c = Passes []

-- a lookup tried from the left at an index, where it applies to the item; lookups may be nested in it 64 levels deep
abbrev pub lookup_action : List SubstLookup → ApplyContext → SubstLookup → Action
lookup_action table a lookup c = met_first a (first_subtable (nested_actions table 64 a) a lookup.subtables) c

-- a reverse chaining lookup tried at an index, where it applies to the item
abbrev pub reverse_action : ApplyContext → SubstLookup → Action
reverse_action a lookup c = met_first a (first_reverse a lookup.subtables) c

-- ---- at all indices

-- the list cut at an index
abbrev pub cut_at_index : ℕ → Cut → Cut
cut_at_index i c = record c { front = take i (whole c); rest = drop i (whole c) }

-- a rule tried in place at the first n indices, the last of them first
abbrev pub backward_trials : Action → View → ℕ → Cut → Reading
backward_trials act v zero c = Ok (with_events [] (view_at v c))
backward_trials act v (suc n) c = after_outcome (act (cut_at_index n c)) (backward_trials act v n) v (cut_at_index n c)

-- a rule tried at each index of a list once, from the right
abbrev pub backward_pass : Action → Stage
backward_pass act v = backward_trials act v (length v.items) (uncut_with_positions v)

-- a lookup tried at each index of a list, from the right for reverse chaining, else from the left
abbrev pub lookup_applied : List SubstLookup → ApplyContext → SubstLookup → Stage
lookup_applied table a lookup v = if is_reverse lookup.subtables then backward_pass (reverse_action a lookup) v else forward_pass (lookup_action table a lookup) v

-- ---- lookups of a GSUB stage

-- the lookup of a map at an index of the table; an index without one does nothing
abbrev pub lookup_stage : FaceParts → List SubstLookup → Option SubstLookup → lookup_map_t → Stage
lookup_stage font table None m v = as_it_is v
lookup_stage font table (Some lookup) m v = lookup_applied table (lookup_context font lookup m) lookup v

-- lookups of a map, one after another
abbrev pub lookups_stage : FaceParts → List SubstLookup → List lookup_map_t → Stage
lookups_stage font table [] v = as_it_is v
lookups_stage font table (m ∷ maps) v = and_then (lookup_stage font table (slice_get table m.index) m v) (lookups_stage font table maps)
