-- What holds of all lookups of substitution, by what holds of the ways in which they change a list.
use Rattle.std.proofs.Common.{ℕ, zero, suc, ◌≡◌, ◌==◌, Bool, true, false, nat_lt, if◌then◌else◌, List, [], ◌∷◌, Option, Some, None, Result, Ok, Err, length, map, refl}
use Rattle.std.specs.Prelude.{slice_get}
use Rattle.buffer_glyphs.specs.Items.{Item}
use Rattle.buffer_glyphs.specs.Parts.{first_of}
use Rattle.layout_face.specs.declared.parts.GlyphDefinition.{GlyphDefinition}
use Rattle.layout_face.specs.declared.substitution.SubstLookup.{SubstLookup}
use Rattle.layout_face.specs.declared.substitution.SubstitutionSubtables.{SubstitutionSubtables}
use Rattle.layout_face.specs.declared.substitution.SubstitutionSubtables.TheVariants.{Single, Multiple, Alternate, Ligature, Context, ChainContext, ReverseChainSingle}
use Rattle.layout_common.specs.Rows.{value_of}
use Rattle.layout_common.specs.declared.glyph_row.GlyphRow.{GlyphRow}
use Rattle.layout_tables.specs.Layout.{LigatureTable, LigatureSetTable, ligature_set_of}
use Rattle.layout_tables.specs.declared.reverse.ReverseChainSubst.{ReverseChainSubst}
use Rattle.layout_tables.specs.declared.sequence.SequenceRow.{SequenceRow}
use Rattle.layout_tables.specs.Substitutions.{glyphs_of}
use Rattle.buffer_stages.specs.Actions.{Cut, Passes, Action, first_rule}
use Rattle.layout_match.specs.Applied.{ApplyContext, own_search, context_search}
use Rattle.layout_match.specs.Matches.{input_end, input_indices, lookahead_end, backtrack_end}
use Rattle.layout_match.specs.Sequences.{is_covered_by, is_glyph}
use Rattle.layout_contexts.specs.Chains.{context_subtable}
use Rattle.layout_gsub.specs.Alternates.{feature_value, alternate_of_value, is_drawn, drawn_alternate, alternate_set, alternate_subtable}
use Rattle.layout_gsub.specs.Ligating.{ligature_substitution, ligature_found, ligature_over, ligatures_over, ligature_subst}
use Rattle.layout_gsub.specs.Multiples.{multiple_substitution, deletion, covered_sequence, multiple_subtable}
use Rattle.layout_gsub.specs.Replacements.{single_substitution, single_subtable}
use Rattle.layout_gsub.specs.Reverses.{reverse_after_backtrack, reverse_after_lookahead, reverse_substitution, reverse_subtable}
use Rattle.layout_substitution.specs.Lookups.{first_subtable, under_flag, nested_lookup, nested_actions, first_reverse, lookup_action, reverse_action}
use Rattle.layout_laws.proofs.Lemmas.Rules.{Limits, recut, IsRelated, NestRelated, IsClosed, first_related, item_related, test_related, met_related, context_related}

-- a relation is kept by all ways in which substitutions change a list
pub record IsSubstituted (w : Limits) : Type 0 where
  pub closed : IsClosed w
  pub one : (i : w.Index) (gdef : GlyphDefinition) (glyph : ℕ) → IsRelated w i (single_substitution gdef (Some glyph))
  -- the random state advances
  pub drawn : (i : w.Index) (gdef : GlyphDefinition) (glyphs : List ℕ) → IsRelated w i (drawn_alternate gdef glyphs)
  pub several : (i : w.Index) (gdef : GlyphDefinition) (glyph next : ℕ) (more : List ℕ) (x : Item) (c : Cut) → first_of c.rest ≡ Some x → w.Holds i c (multiple_substitution gdef (glyph ∷ next ∷ more) c) (multiple_substitution gdef (glyph ∷ next ∷ more) (recut w i c))
  pub none : (i : w.Index) (x : Item) (c : Cut) → first_of c.rest ≡ Some x → w.Holds i c (deletion c) (deletion (recut w i c))
  pub ligature : (i : w.Index) (a : ApplyContext) (glyph end : ℕ) (tests : List (Item → Bool)) (x : Item) (c : Cut) → first_of c.rest ≡ Some x → input_end (own_search a c.rest) tests c.rest ≡ Ok end
      → w.Holds i c (ligature_substitution a.font.gdef glyph (input_indices (own_search a c.rest) tests c.rest) end c) (ligature_substitution a.font.gdef glyph (input_indices (own_search a c.rest) tests c.rest) end (recut w i c))
  pub there : (i : w.Index) (gdef : GlyphDefinition) (glyph ahead back : ℕ) (c : Cut) → w.Holds i c (reverse_after_backtrack gdef glyph ahead (Ok back) c) (reverse_after_backtrack gdef glyph ahead (Ok back) (recut w i c))

-- ---- subtables

one_related : (w : Limits) (i : w.Index) → IsSubstituted w → (gdef : GlyphDefinition) (o : Option ℕ) → IsRelated w i (single_substitution gdef o)
one_related w i ways gdef None c = ways.closed.passes i c
one_related w i ways gdef (Some glyph) c = ways.one i gdef glyph c

single_related : (w : Limits) (i : w.Index) → IsSubstituted w → (gdef : GlyphDefinition) (rows : List (GlyphRow ℕ)) → IsRelated w i (single_subtable gdef rows)
single_related w i ways gdef rows c = item_related w i ways.closed (λ x. single_substitution gdef (value_of x.number rows)) c (λ x e. one_related w i ways gdef (value_of x.number rows) c)

sequence_related : (w : Limits) (i : w.Index) → IsSubstituted w → (gdef : GlyphDefinition) (o : Option (List ℕ)) (x : Item) (c : Cut) → first_of c.rest ≡ Some x → w.Holds i c (covered_sequence gdef o c) (covered_sequence gdef o (recut w i c))
sequence_related w i ways gdef None x c e = ways.closed.passes i c
sequence_related w i ways gdef (Some []) x c e = ways.none i x c e
sequence_related w i ways gdef (Some (glyph ∷ [])) x c e = ways.one i gdef glyph c
sequence_related w i ways gdef (Some (glyph ∷ next ∷ more)) x c e = ways.several i gdef glyph next more x c e

multiple_related : (w : Limits) (i : w.Index) → IsSubstituted w → (gdef : GlyphDefinition) (rows : List SequenceRow) → IsRelated w i (multiple_subtable gdef rows)
multiple_related w i ways gdef rows c = item_related w i ways.closed (λ x. covered_sequence gdef (glyphs_of x.number rows)) c (λ x e. sequence_related w i ways gdef (glyphs_of x.number rows) x c e)

set_related : (w : Limits) (i : w.Index) → IsSubstituted w → (gdef : GlyphDefinition) (random : Bool) (value : ℕ) (o : Option (List ℕ)) → IsRelated w i (alternate_set gdef random value o)
set_related w i ways gdef random value None c = ways.closed.passes i c
set_related w i ways gdef random value (Some glyphs) c = test_related w i c (is_drawn random value glyphs) (drawn_alternate gdef glyphs c) (single_substitution gdef (alternate_of_value value glyphs) c) (drawn_alternate gdef glyphs (recut w i c)) (single_substitution gdef (alternate_of_value value glyphs) (recut w i c))
    (ways.drawn i gdef glyphs c) (one_related w i ways gdef (alternate_of_value value glyphs) c)

alternate_related : (w : Limits) (i : w.Index) → IsSubstituted w → (gdef : GlyphDefinition) (random : Bool) (bits : ℕ) (rows : List SequenceRow) → IsRelated w i (alternate_subtable gdef random bits rows)
alternate_related w i ways gdef random bits rows c = item_related w i ways.closed (λ x. alternate_set gdef random (feature_value bits x.mask) (glyphs_of x.number rows)) c (λ x e. set_related w i ways gdef random (feature_value bits x.mask) (glyphs_of x.number rows) c)

found_related : (w : Limits) (i : w.Index) → IsSubstituted w → (a : ApplyContext) (s : LigatureTable) (x : Item) (c : Cut) (o : Result ℕ ℕ) → first_of c.rest ≡ Some x → input_end (own_search a c.rest) (map is_glyph s.components) c.rest ≡ o
    → w.Holds i c (ligature_found a s o c) (ligature_found a s o (recut w i c))
found_related w i ways a s x c (Err end) e f = ways.closed.attempts i 0 end c
found_related w i ways a s x c (Ok end) e f = ways.ligature i a s.glyph end (map is_glyph s.components) x c e f

over_related : (w : Limits) (i : w.Index) → IsSubstituted w → (a : ApplyContext) (s : LigatureTable) (x : Item) (c : Cut) → first_of c.rest ≡ Some x → w.Holds i c (ligature_over a s c) (ligature_over a s (recut w i c))
over_related w i ways a s x c e = by_tests (length s.components == 0) (nat_lt (length s.components) 64)
  where
    by_tests : (p q : Bool) → w.Holds i c (if p then single_substitution a.font.gdef (Some s.glyph) c else if q then ligature_found a s (input_end (own_search a c.rest) (map is_glyph s.components) c.rest) c else Passes [])
        (if p then single_substitution a.font.gdef (Some s.glyph) (recut w i c) else if q then ligature_found a s (input_end (own_search a c.rest) (map is_glyph s.components) c.rest) (recut w i c) else Passes [])
    by_tests true q = ways.one i a.font.gdef s.glyph c
    by_tests false true = found_related w i ways a s x c (input_end (own_search a c.rest) (map is_glyph s.components) c.rest) e refl
    by_tests false false = ways.closed.passes i c

-- the first of some ligatures, at a cut that has an item
ligatures_related : (w : Limits) (i : w.Index) → IsSubstituted w → (a : ApplyContext) (ligatures : List LigatureTable) (x : Item) (c : Cut) → first_of c.rest ≡ Some x
    → w.Holds i c (first_rule (ligature_over a) ligatures c) (first_rule (ligature_over a) ligatures (recut w i c))
ligatures_related w i ways a [] x c e = ways.closed.passes i c
ligatures_related w i ways a (s ∷ ligatures) x c e =
    ways.closed.either i c (ligature_over a s c) (ligature_over a s (recut w i c)) (first_rule (ligature_over a) ligatures c) (first_rule (ligature_over a) ligatures (recut w i c))
    (over_related w i ways a s x c e) (ligatures_related w i ways a ligatures x c e)

by_set_related : (w : Limits) (i : w.Index) → IsSubstituted w → (a : ApplyContext) (o : Option LigatureSetTable) (x : Item) (c : Cut) → first_of c.rest ≡ Some x → w.Holds i c (ligatures_over a o c) (ligatures_over a o (recut w i c))
by_set_related w i ways a None x c e = ways.closed.passes i c
by_set_related w i ways a (Some s) x c e = ligatures_related w i ways a s.ligatures x c e

ligature_related : (w : Limits) (i : w.Index) → IsSubstituted w → (a : ApplyContext) (sets : List LigatureSetTable) → IsRelated w i (ligature_subst a sets)
ligature_related w i ways a sets c = item_related w i ways.closed (λ x. ligatures_over a (ligature_set_of x.number sets)) c (λ x e. by_set_related w i ways a (ligature_set_of x.number sets) x c e)

before_related : (w : Limits) (i : w.Index) → IsSubstituted w → (gdef : GlyphDefinition) (glyph ahead : ℕ) (o : Result ℕ ℕ) → IsRelated w i (reverse_after_backtrack gdef glyph ahead o)
before_related w i ways gdef glyph ahead (Err back) c = ways.closed.attempts i back 1 c
before_related w i ways gdef glyph ahead (Ok back) c = ways.there i gdef glyph ahead back c

after_related : (w : Limits) (i : w.Index) → IsSubstituted w → (a : ApplyContext) (glyph : ℕ) (backtrack : List (Item → Bool)) (o : Result ℕ ℕ) → IsRelated w i (reverse_after_lookahead a glyph backtrack o)
after_related w i ways a glyph backtrack (Err ahead) c = ways.closed.attempts i 0 ahead c
after_related w i ways a glyph backtrack (Ok ahead) c = before_related w i ways a.font.gdef glyph ahead (backtrack_end (context_search a c.rest) backtrack c.front) c

around_related : (w : Limits) (i : w.Index) → IsSubstituted w → (a : ApplyContext) (backtrack lookahead : List (Item → Bool)) (o : Option ℕ) → IsRelated w i (reverse_substitution a backtrack lookahead o)
around_related w i ways a backtrack lookahead None c = ways.closed.passes i c
around_related w i ways a backtrack lookahead (Some glyph) c = after_related w i ways a glyph backtrack (lookahead_end (context_search a c.rest) lookahead 1 c.rest) c

reverse_related : (w : Limits) (i : w.Index) → IsSubstituted w → (a : ApplyContext) (s : ReverseChainSubst) → IsRelated w i (reverse_subtable a s)
reverse_related w i ways a s c = item_related w i ways.closed (λ x. reverse_substitution a (map is_covered_by s.backtrack) (map is_covered_by s.lookahead) (value_of x.number s.rows)) c
    (λ x e. around_related w i ways a (map is_covered_by s.backtrack) (map is_covered_by s.lookahead) (value_of x.number s.rows) c)

-- ---- lookups

subtable_related : (w : Limits) (i : w.Index) → IsSubstituted w → (nest : Option (ℕ → Action)) → NestRelated w nest → (a : ApplyContext) (s : SubstitutionSubtables) → IsRelated w i (first_subtable nest a s)
subtable_related w i ways nest k a (Single subtables) c = first_related w i ways.closed (λ s. single_subtable a.font.gdef s.rows) subtables (λ s. single_related w i ways a.font.gdef s.rows) c
subtable_related w i ways nest k a (Multiple subtables) c = first_related w i ways.closed (λ s. multiple_subtable a.font.gdef s.rows) subtables (λ s. multiple_related w i ways a.font.gdef s.rows) c
subtable_related w i ways nest k a (Alternate subtables) c = first_related w i ways.closed (λ s. alternate_subtable a.font.gdef a.random a.mask s.rows) subtables (λ s. alternate_related w i ways a.font.gdef a.random a.mask s.rows) c
subtable_related w i ways nest k a (Ligature subtables) c = first_related w i ways.closed (ligature_subst a) subtables (ligature_related w i ways a) c
subtable_related w i ways nest k a (Context subtables) c = first_related w i ways.closed (context_subtable nest a) subtables (context_related w i ways.closed nest k a) c
subtable_related w i ways nest k a (ChainContext subtables) c = first_related w i ways.closed (context_subtable nest a) subtables (context_related w i ways.closed nest k a) c
subtable_related w i ways nest k a (ReverseChainSingle subtables) c = ways.closed.passes i c

lookup_related : (w : Limits) (i : w.Index) → IsSubstituted w → (below : ApplyContext → Option (ℕ → Action)) → ((a : ApplyContext) → NestRelated w (below a)) → (o : Option SubstLookup) (a : ApplyContext) → IsRelated w i (nested_lookup below o a)
lookup_related w i ways below k None a c = ways.closed.passes i c
lookup_related w i ways below k (Some lookup) a c = subtable_related w i ways (below (under_flag lookup a)) (k (under_flag lookup a)) (under_flag lookup a) lookup.subtables c

-- lookups nested at n levels
pub nest_related : (w : Limits) → IsSubstituted w → (table : List SubstLookup) (depth : ℕ) (a : ApplyContext) → NestRelated w (nested_actions table depth a)
unfolding nested_actions
nest_related w ways table zero a = tt
nest_related w ways table (suc depth) a = λ n i. lookup_related w i ways (nested_actions table depth) (nest_related w ways table depth) (slice_get table n) a

pub forward_related : (w : Limits) (i : w.Index) → IsSubstituted w → (table : List SubstLookup) (a : ApplyContext) (lookup : SubstLookup) → IsRelated w i (lookup_action table a lookup)
forward_related w i ways table a lookup = met_related w i ways.closed a (first_subtable (nested_actions table 64 a) a lookup.subtables) (subtable_related w i ways (nested_actions table 64 a) (nest_related w ways table 64 a) a lookup.subtables)

first_reverse_related : (w : Limits) (i : w.Index) → IsSubstituted w → (a : ApplyContext) (s : SubstitutionSubtables) → IsRelated w i (first_reverse a s)
first_reverse_related w i ways a (ReverseChainSingle subtables) c = first_related w i ways.closed (reverse_subtable a) subtables (reverse_related w i ways a) c
first_reverse_related w i ways a (Single subtables) c = ways.closed.passes i c
first_reverse_related w i ways a (Multiple subtables) c = ways.closed.passes i c
first_reverse_related w i ways a (Alternate subtables) c = ways.closed.passes i c
first_reverse_related w i ways a (Ligature subtables) c = ways.closed.passes i c
first_reverse_related w i ways a (Context subtables) c = ways.closed.passes i c
first_reverse_related w i ways a (ChainContext subtables) c = ways.closed.passes i c

pub backward_related : (w : Limits) (i : w.Index) → IsSubstituted w → (a : ApplyContext) (lookup : SubstLookup) → IsRelated w i (reverse_action a lookup)
backward_related w i ways a lookup = met_related w i ways.closed a (first_reverse a lookup.subtables) (first_reverse_related w i ways a lookup.subtables)
