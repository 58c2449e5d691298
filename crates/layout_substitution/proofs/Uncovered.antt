-- A GSUB lookup passes at a glyph that none of its subtables covers.
use Rattle.std.proofs.Common.{ℕ, ◌≡◌, false, Option, refl}
use Rattle.buffer_glyphs.specs.Items.{Item}
use Rattle.layout_tables.specs.Covers.{covers_context, covers_first_component, covers_sequence, covers_value}
use Rattle.layout_face.specs.Lookups.{substitution_covers}
use Rattle.layout_face.specs.declared.substitution.SubstitutionSubtables.{SubstitutionSubtables}
use Rattle.layout_face.specs.declared.substitution.SubstitutionSubtables.TheVariants.{Single, Multiple, Alternate, Ligature, Context, ChainContext, ReverseChainSingle}
use Rattle.buffer_stages.specs.Actions.{Action}
use Rattle.layout_match.specs.Applied.{ApplyContext}
use Rattle.layout_match.specs.Skipping.{PassesAt}
use Rattle.layout_match.specs.Lemmas.Passing.{first_passes}
use Rattle.layout_contexts.specs.Chains.{context_subtable}
use Rattle.layout_contexts.proofs.Lemmas.Uncovered.{context_uncovered}
use Rattle.layout_gsub.specs.Alternates.{alternate_subtable}
use Rattle.layout_gsub.specs.Ligating.{ligature_subst}
use Rattle.layout_gsub.specs.Multiples.{multiple_subtable}
use Rattle.layout_gsub.specs.Replacements.{single_subtable}
use Rattle.layout_gsub.specs.Reverses.{reverse_subtable}
use Rattle.layout_gsub.specs.Lemmas.Uncovered.{alternate_uncovered, ligature_uncovered, multiple_uncovered, reverse_uncovered, single_uncovered}
use Rattle.layout_substitution.specs.Lookups.{first_reverse, first_subtable}

-- from the left
pub first_uncovered : (nest : Option (ℕ → Action)) (a : ApplyContext) (subtables : SubstitutionSubtables) (x : Item) → substitution_covers subtables x.number ≡ false → PassesAt (first_subtable nest a subtables) x
first_uncovered nest a (Single subtables) x none = first_passes (λ s. single_subtable a.font.gdef s.rows) (λ s. covers_value s.rows x.number) subtables x (λ s out. single_uncovered a.font.gdef s.rows x out) none
first_uncovered nest a (Multiple subtables) x none = first_passes (λ s. multiple_subtable a.font.gdef s.rows) (λ s. covers_sequence s.rows x.number) subtables x (λ s out. multiple_uncovered a.font.gdef s.rows x out) none
first_uncovered nest a (Alternate subtables) x none = first_passes (λ s. alternate_subtable a.font.gdef a.random a.mask s.rows) (λ s. covers_sequence s.rows x.number) subtables x (λ s out. alternate_uncovered a.font.gdef a.random a.mask s.rows x out) none
first_uncovered nest a (Ligature subtables) x none = first_passes (ligature_subst a) (λ s. covers_first_component s x.number) subtables x (λ s out. ligature_uncovered a s x out) none
first_uncovered nest a (Context subtables) x none = first_passes (context_subtable nest a) (λ s. covers_context s x.number) subtables x (λ s out. context_uncovered nest a s x out) none
first_uncovered nest a (ChainContext subtables) x none = first_passes (context_subtable nest a) (λ s. covers_context s x.number) subtables x (λ s out. context_uncovered nest a s x out) none
first_uncovered nest a (ReverseChainSingle subtables) x none = λ c rest e. refl

-- from the right
pub first_reverse_uncovered : (a : ApplyContext) (subtables : SubstitutionSubtables) (x : Item) → substitution_covers subtables x.number ≡ false → PassesAt (first_reverse a subtables) x
first_reverse_uncovered a (ReverseChainSingle subtables) x none = first_passes (reverse_subtable a) (λ s. covers_value s.rows x.number) subtables x (λ s out. reverse_uncovered a s x out) none
first_reverse_uncovered a (Single subtables) x none = λ c rest e. refl
first_reverse_uncovered a (Multiple subtables) x none = λ c rest e. refl
first_reverse_uncovered a (Alternate subtables) x none = λ c rest e. refl
first_reverse_uncovered a (Ligature subtables) x none = λ c rest e. refl
first_reverse_uncovered a (Context subtables) x none = λ c rest e. refl
first_reverse_uncovered a (ChainContext subtables) x none = λ c rest e. refl
