-- Lookups that are left out where they can act at no glyph of a text.
use Rattle.std.specs.Prelude.{ℕ, ◌≡◌, ◌&&◌, Bool, true, false, nat_le, if◌then◌else◌, List, [], length, Option, Some, None, Ok}
use Rattle.std.specs.List.{list_any}
use Rattle.buffer_glyphs.specs.Items.{Item}
use Rattle.buffer_core.specs.Readings.{View, Stage, as_it_is, with_events}
use Rattle.layout_face.specs.Lookups.{is_reverse, positioning_covers, substitution_covers}
use Rattle.layout_face.specs.declared.parts.FaceParts.{FaceParts}
use Rattle.layout_face.specs.declared.positioning.PositioningLookup.{PositioningLookup}
use Rattle.layout_face.specs.declared.substitution.SubstLookup.{SubstLookup}
use Rattle.layout_map_features.specs.declared.lookup.lookup_map_t.{lookup_map_t}
use Rattle.buffer_stages.specs.Masks.{shares_mask}
use Rattle.layout_match.specs.Trying.{with_zero_positions}
use Rattle.layout_substitution.specs.Lookups as Substitution
use Rattle.layout_positioning.specs.Lookups as Positioning

-- a test of a lookup and its mask on a text is sound where its answer false means that the lookup covers no glyph that
-- has a bit of the mask; a test by digests and by all bits of the glyphs' masks is, since it misses none of them
abbrev pub IsSound : (L : Type 0) → (L → ℕ → Bool) → (L → ℕ → List Item → Bool) → Type 0
IsSound L covers may_act = (lookup : L) (mask : ℕ) (xs : List Item) → may_act lookup mask xs ≡ false → list_any (λ (x : Item). shares_mask mask x.mask && covers lookup x.number) xs ≡ false

-- a GSUB lookup of a map, left out where a test says so: from the left it then leaves zero positions, as it does
-- wherever it is applied
abbrev pub substitution_unless_skipped : (SubstLookup → ℕ → List Item → Bool) → FaceParts → List SubstLookup → Option SubstLookup → lookup_map_t → Stage
substitution_unless_skipped may_act font table None m v = as_it_is v
substitution_unless_skipped may_act font table (Some lookup) m v =
    if may_act lookup m.mask v.items then Substitution.lookup_stage font table (Some lookup) m v
    else Ok (if is_reverse lookup.subtables then with_events [] v else with_zero_positions v)

-- a GPOS lookup of a map, left out where a test says so
abbrev pub positioning_unless_skipped : (PositioningLookup → ℕ → List Item → Bool) → FaceParts → List PositioningLookup → Option PositioningLookup → lookup_map_t → Stage
positioning_unless_skipped may_act font table None m v = as_it_is v
positioning_unless_skipped may_act font table (Some lookup) m v = if may_act lookup m.mask v.items then Positioning.lookup_stage font table (Some lookup) m v else as_it_is v

-- skipping GSUB lookups by a sound test changes no reading: no item, position, or event on clusters and flags
abbrev pub SkippingSubstitutesAlike : Type 0
SkippingSubstitutesAlike = (may_act : SubstLookup → ℕ → List Item → Bool) → IsSound SubstLookup (λ lookup. substitution_covers lookup.subtables) may_act → (font : FaceParts) (table : List SubstLookup) (lookup : Option SubstLookup) (m : lookup_map_t) (v : View) → nat_le (length v.items) v.max_len ≡ true
    → substitution_unless_skipped may_act font table lookup m v ≡ Substitution.lookup_stage font table lookup m v

-- skipping GPOS lookups by a sound test changes no reading
abbrev pub SkippingPositionsAlike : Type 0
SkippingPositionsAlike = (may_act : PositioningLookup → ℕ → List Item → Bool) → IsSound PositioningLookup (λ lookup. positioning_covers lookup.subtables) may_act → (font : FaceParts) (table : List PositioningLookup) (lookup : Option PositioningLookup) (m : lookup_map_t) (v : View) → nat_le (length v.items) v.max_len ≡ true
    → positioning_unless_skipped may_act font table lookup m v ≡ Positioning.lookup_stage font table lookup m v
