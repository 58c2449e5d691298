-- Skipped lookups.
use Rattle.std.proofs.Common.{◌≡◌, Bool, true, false, ◌&&◌, [], Some, None, Ok, refl, sym, if◌then◌else◌}
use Rattle.buffer_glyphs.specs.Items.{Item}
use Rattle.buffer_core.specs.Readings.{View, Reading, as_it_is, with_events}
use Rattle.layout_face.specs.Lookups.{is_reverse, positioning_covers, substitution_covers}
use Rattle.buffer_stages.specs.Actions.{Action}
use Rattle.buffer_stages.specs.Masks.{shares_mask}
use Rattle.layout_match.specs.Trying.{forward_pass, with_zero_positions}
use Rattle.layout_match.proofs.Lemmas.Held.{passes_uncovered}
use Rattle.layout_match.proofs.Lemmas.Untouched.{idle_passes, left_alone, left_placed}
use Rattle.layout_substitution.specs.Lookups as Substitution
use Rattle.layout_substitution.proofs.Skipped.{left_back}
use Rattle.layout_substitution.proofs.Uncovered as Substituted
use Rattle.layout_positioning.specs.Lookups as Positioning
use Rattle.layout_positioning.proofs.Uncovered as Positioned
use Rattle.layout_laws.specs.Skipping.{SkippingPositionsAlike, SkippingSubstitutesAlike}

either_left : (b : Bool) (back forth : Reading) (v : View) → (b ≡ true → back ≡ Ok (with_events [] v)) → (b ≡ false → forth ≡ Ok (with_zero_positions v)) → Ok (if b then with_events [] v else with_zero_positions v) ≡ (if b then back else forth)
either_left true back forth v left zero = sym (left refl)
either_left false back forth v left zero = sym (zero refl)

by_test : (b : Bool) (skipped applied : Reading) → (b ≡ false → skipped ≡ applied) → (if b then applied else skipped) ≡ applied
by_test true skipped applied same = refl
by_test false skipped applied same = same refl

pub substituted_alike : SkippingSubstitutesAlike
substituted_alike may_act sound font table None m v fits = refl
substituted_alike may_act sound font table (Some lookup) m v fits =
    let a = Substitution.lookup_context font lookup m in
    let meant : Item → Bool = λ x. shares_mask m.mask x.mask && substitution_covers lookup.subtables x.number in
    let nest = Substitution.nested_actions table 64 a in
    by_test (may_act lookup m.mask v.items) (Ok (if is_reverse lookup.subtables then with_events [] v else with_zero_positions v)) (Substitution.lookup_stage font table (Some lookup) m v) (λ off.
    let none = sound lookup m.mask v.items off in
    either_left (is_reverse lookup.subtables) (Substitution.backward_pass (Substitution.reverse_action a lookup) v) (forward_pass (Substitution.lookup_action table a lookup) v) v
    (λ _. left_back (Substitution.reverse_action a lookup) v (passes_uncovered (Substitution.reverse_action a lookup) meant v.items none
    (λ x out. idle_passes a (Substitution.first_reverse a lookup.subtables) (substitution_covers lookup.subtables x.number) x (Substituted.first_reverse_uncovered a lookup.subtables x) out)))
    (λ _. left_alone (Substitution.lookup_action table a lookup) v (passes_uncovered (Substitution.lookup_action table a lookup) meant v.items none
    (λ x out. idle_passes a (Substitution.first_subtable nest a lookup.subtables) (substitution_covers lookup.subtables x.number) x (Substituted.first_uncovered nest a lookup.subtables x) out)) fits))

pub positioned_alike : SkippingPositionsAlike
positioned_alike may_act sound font table None m v fits = refl
positioned_alike may_act sound font table (Some lookup) m v fits =
    let a = Positioning.lookup_context font lookup m in
    let nest = Positioning.nested_actions table 64 v.direction a in
    let act : Action = Positioning.lookup_action table v.direction a lookup in
    by_test (may_act lookup m.mask v.items) (as_it_is v) (Positioning.lookup_stage font table (Some lookup) m v) (λ off.
    sym (left_placed act v (passes_uncovered act (λ (x : Item). shares_mask m.mask x.mask && positioning_covers lookup.subtables x.number) v.items (sound lookup m.mask v.items off)
    (λ x out. idle_passes a (Positioning.first_subtable nest v.direction a lookup.subtables) (positioning_covers lookup.subtables x.number) x (Positioned.first_uncovered nest v.direction a lookup.subtables x) out)) fits))
