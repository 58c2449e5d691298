-- A GPOS lookup that can act at none of a buffer's glyphs is left out.
use Rattle.std.proofs.Common.{ℕ, ◌≡◌, ◌≤◌, true, false, nat_le, ◌&&◌, List, length, Option, Some, Ok, Err, refl, sym, subst, arith}
use Rattle.std.specs.Prelude.{OnOk, Result}
use Rattle.std.proofs.lemmas.Bool.Decides.{nat_tests}
use Rattle.std.proofs.lemmas.List.{length-map}
use Rattle.std.specs.List.{list_any}
use Rattle.buffer_glyphs.specs.declared.cause.ShapeCause.{ShapeCause}
use Rattle.buffer_glyphs.specs.Items.{Item, item_of}
use Rattle.buffer_core.specs.Readings.{Reading, Follows}
use Rattle.buffer_core.specs.Steps.{follows_same}
use Rattle.buffer_core.specs.Sides.{Sides, all_glyphs, items_of}
use Rattle.buffer_stages.specs.Actions.{Action}
use Rattle.buffer_stages.specs.Ready.{DoesGlyphStageFrom, IsDoneFrom, IsReady, state_with}
use Rattle.layout_face.specs.Lookups.{positioning_covers}
use Rattle.layout_face.specs.declared.parts.FaceParts.{FaceParts}
use Rattle.layout_face.specs.declared.positioning.PositioningLookup.{PositioningLookup}
use Rattle.layout_map_features.specs.declared.lookup.lookup_map_t.{lookup_map_t}
use Rattle.buffer_stages.specs.Masks.{shares_mask}
use Rattle.layout_match.specs.Skipping.{HoldsText, PassesAll, TextSets}
use Rattle.layout_match.proofs.Lemmas.Held.{passes_uncovered}
use Rattle.layout_match.proofs.Lemmas.Untouched.{idle_passes, left_placed}
use Rattle.layout_positioning.specs.Lookups.{first_subtable, lookup_action, lookup_context, lookup_stage, nested_actions, positioning_pass}
use Rattle.layout_positioning.proofs.Left.{mapped_left}
use Rattle.layout_positioning.proofs.Uncovered.{first_uncovered}

pub skipped_over : (act : Action) (r : ℕ) (s : Sides) → IsReady s → length (all_glyphs s) ≤ s.max_len → PassesAll act (items_of s) → IsDoneFrom r r (positioning_pass act) s s
skipped_over act r s ready within passes =
    let v = (state_with r s).view in
    let long : length v.items ≡ length (all_glyphs s) = length-map (all_glyphs s) item_of in
    let fits : nat_le (length v.items) v.max_len ≡ true = grind (arith, nat_tests, long, within) in
    let P : Reading → Type 0 = λ q. Follows q (state_with r s) (state_with r s) in
    record { follows = subst P (sym (left_placed act v passes fits)) (follows_same (state_with r s)); settings = refl; ready = ready; numbers = λ h. h }

pub skipped_done : (font : FaceParts) (table : List PositioningLookup) (o : Option PositioningLookup) (lookup : PositioningLookup) (m : lookup_map_t) (r : ℕ) (s : Sides) → Some lookup ≡ o → IsReady s → length (all_glyphs s) ≤ s.max_len
    → list_any (λ (x : Item). shares_mask m.mask x.mask && positioning_covers lookup.subtables x.number) (items_of s) ≡ false → IsDoneFrom r r (lookup_stage font table o m) s s
skipped_done font table o lookup m r s there ready within none =
    let a = lookup_context font lookup m in
    let d = s.direction in
    let nest = nested_actions table 64 d a in
    let act = lookup_action table d a lookup in
    let P : Option PositioningLookup → Type 0 = λ q. IsDoneFrom r r (lookup_stage font table q m) s s in
    let over = skipped_over act r s ready within (passes_uncovered act (λ (x : Item). shares_mask m.mask x.mask && positioning_covers lookup.subtables x.number) (items_of s) none
    (λ x off. idle_passes a (first_subtable nest d a lookup.subtables) (positioning_covers lookup.subtables x.number) x (first_uncovered nest d a lookup.subtables x) off)) in
    let here : IsDoneFrom r r (lookup_stage font table (Some lookup) m) s s = record { follows = over.follows; settings = over.settings; ready = over.ready; numbers = over.numbers } in
    subst P there here

-- lookups leave the items, so that what is known of the text stays true
pub held_after : {X : Type 0} (t : TextSets) (font : FaceParts) (table : List PositioningLookup) (o : Option PositioningLookup) (m : lookup_map_t) (result : Result X ShapeCause) (s new : Sides) → DoesGlyphStageFrom 1 1 (lookup_stage font table o m) result s new → HoldsText t (items_of s)
    → OnOk result (HoldsText t (items_of new))
held_after t font table o m (Ok x) s new d held = subst (HoldsText t) (sym (mapped_left font table o m s new d)) held
held_after t font table o m (Err e) s new d held = tt
