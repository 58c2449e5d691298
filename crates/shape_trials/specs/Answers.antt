-- What is tested of answers.
use Rattle.std.specs.Prelude.{ℕ, ◌≡◌, ◌==◌, ◌&&◌, ◌||◌, Bool, true, not, nat_lt, if◌then◌else◌, List, [], ◌∷◌, length, map, reverse, Result, Ok, Err}
use Rattle.buffer_glyphs.specs.declared.cause.ShapeCause.{ShapeCause}
use Rattle.buffer_glyphs.specs.declared.info.hb_glyph_info_t.{hb_glyph_info_t}
use Rattle.buffer_glyphs.specs.Items.{clusters, without_flags}
use Rattle.buffer_glyphs.specs.Origins.{Origin}
use Rattle.buffer_parts.specs.Slices.{AreJoined}
use Rattle.buffer_core.specs.Sides.{Sides, all_glyphs}
use Rattle.shape_slices.specs.declared.slices.SourceSlice.{SourceSlice}
use Rattle.shape_slices.specs.Fitting.{SlicesFit}
use Rattle.shape_slices.specs.Runs.{AreSourceSlices, along_glyphs, byte_range}
use Rattle.shape_trials.specs.declared.alike.But.{But}
use Rattle.shape_trials.specs.declared.alike.But.TheVariants.{Nothing, Flags, ClustersAndFlags}

-- whether neighbours of one cluster have the same flags, those after an origin and it
abbrev pub is_even_from : Origin → List Origin → Bool
is_even_from o [] = true
is_even_from o (p ∷ ps) = (not (o.cluster == p.cluster) || (o.flags == p.flags)) && is_even_from p ps

-- whether neighbours of one cluster have the same flags
abbrev pub are_even_runs : List Origin → Bool
are_even_runs [] = true
are_even_runs (o ∷ os) = is_even_from o os

-- whether each slice begins where the one before it ends, the first at `at`, and the last one ends at `end`; none is empty
abbrev pub are_joined_from : ℕ → ℕ → List (ℕ × ℕ) → Bool
are_joined_from at end [] = at == end
are_joined_from at end (s ∷ ss) = ((s.0 == at) && nat_lt s.0 s.1) && are_joined_from s.1 end ss

-- slices of glyphs in the order of the text
abbrev pub in_text_order : Bool → List SourceSlice → List SourceSlice
in_text_order is_backward ss = if is_backward then reverse ss else ss

-- the source slices of a result join to the whole text, from the last glyph to the first where the line is backward
pub record SlicesJoin (is_backward : Bool) (result : Sides) (text : List ℕ) : Type 0 where
  pub fit : SlicesFit result text
  pub slices : List SourceSlice
  pub sources : AreSourceSlices (clusters (all_glyphs result)) (length text) slices
  pub joined : AreJoined 0 (length text) (along_glyphs is_backward (map byte_range slices))

-- a glyph without what two answers may differ in
abbrev pub part_but : But → hb_glyph_info_t → hb_glyph_info_t
part_but Nothing g = g
part_but Flags g = record g { mask = without_flags g.mask }
part_but ClustersAndFlags g = record g { mask = without_flags g.mask; cluster = 0 }

-- two results have the same glyphs at the same positions, but for what they may differ in
abbrev pub LookAlikeBut : But → Sides → Sides → Type 0
LookAlikeBut but a b = (map (part_but but) (all_glyphs a) ≡ map (part_but but) (all_glyphs b)) × (a.positions ≡ b.positions)

-- two answers look alike, or are refusals for one cause
abbrev pub AgreeBut : But → Result Sides ShapeCause → Result Sides ShapeCause → Type 0
AgreeBut but (Ok a) (Ok b) = LookAlikeBut but a b
AgreeBut but (Ok a) (Err e) = ⊥
AgreeBut but (Err e) (Ok b) = ⊥
AgreeBut but (Err e) (Err f) = e ≡ f
