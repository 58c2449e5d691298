-- A GSUB lookup that can act at none of a buffer's glyphs is left out.
use Rattle.std.proofs.Common.{ℕ, suc, zero, ◌≡◌, ◌≤◌, ◌<◌, Bool, true, false, nat_le, ◌&&◌, List, [], ◌∷◌, ◌++◌, length, take, drop, Ok, Option, Some, refl, sym, ap, subst, ◌∙◌, if◌then◌else◌, arith}
use Rattle.std.proofs.lemmas.Bool.Decides.{nat_tests}
use Rattle.std.proofs.lemmas.List.{length-map, length-replicate, take-append-drop, take_all}
use Rattle.std.specs.List.{list_any}
use Rattle.buffer_glyphs.specs.Items.{Item, item_of, strip, zero_position}
use Rattle.buffer_core.specs.Readings.{View, Reading, Stage, Follows, then_reading, with_events}
use Rattle.buffer_core.specs.Steps.{follows_same}
use Rattle.buffer_core.specs.Sides.{Sides, after_sync, all_glyphs, items_of, with_cleared_positions, zero_positions}
use Rattle.buffer_stages.specs.Actions.{Action, Cut, Passes, uncut_with_positions, view_at, whole}
use Rattle.buffer_stages.specs.Ready.{IsDoneFrom, IsReady, state_with}
use Rattle.layout_face.specs.Lookups.{is_reverse, substitution_covers}
use Rattle.layout_face.specs.declared.parts.FaceParts.{FaceParts}
use Rattle.layout_face.specs.declared.substitution.SubstLookup.{SubstLookup}
use Rattle.layout_map_features.specs.declared.lookup.lookup_map_t.{lookup_map_t}
use Rattle.buffer_stages.specs.Masks.{shares_mask}
use Rattle.layout_match.specs.Skipping.{HoldsText, PassesAll, PassesAt, TextSets}
use Rattle.layout_match.specs.Applied.{ApplyContext}
use Rattle.layout_match.specs.Trying.{after_outcome, forward_pass, meets, with_zero_positions}
use Rattle.layout_match.proofs.Lemmas.Held.{passes_uncovered}
use Rattle.layout_match.proofs.Lemmas.Idle.{idle_all}
use Rattle.layout_match.proofs.Lemmas.Untouched.{idle_passes, left_alone}
use Rattle.layout_substitution.specs.Lookups.{backward_pass, backward_trials, cut_at_index, first_reverse, first_subtable, lookup_action, lookup_applied, lookup_context, lookup_stage, nested_actions, reverse_action}
use Rattle.layout_substitution.specs.Steps.{HasZeroPositions}
use Rattle.layout_substitution.proofs.Uncovered.{first_reverse_uncovered, first_uncovered}

-- ---- from the left

pub skipped_forth : (act : Action) (r : ℕ) (s : Sides) → IsReady s → length (all_glyphs s) ≤ s.max_len → PassesAll act (items_of s) → IsDoneFrom r r (forward_pass act) s (with_cleared_positions s)
skipped_forth act r s ready within passes =
    let v = (state_with r s).view in
    let long : length v.items ≡ length (all_glyphs s) = length-map (all_glyphs s) item_of in
    let fits : nat_le (length v.items) v.max_len ≡ true = grind (arith, nat_tests, long, within) in
    let is : forward_pass act v ≡ Ok (with_zero_positions v) = left_alone act v passes fits in
    let P : Reading → Type 0 = λ q. Follows q (state_with r s) (state_with r (with_cleared_positions s)) in
    record {
      follows = subst P (sym is) (ap (λ n. record (state_with r s) { view = record v { positions = zero_positions n } }) (ready.placed ∙ sym long));
      settings = refl;
      ready = record { closed = ready.closed; front = ready.front; unread = ready.unread; placed = length-replicate (length s.positions) zero_position ∙ ready.placed; unrefused = ready.unrefused };
      numbers = λ h. h;
    }

-- ---- from the right

split_at : (act : Action) (xs : List Item) (n : ℕ) → n < length xs → PassesAll act xs → (x : Item) × (rest : List Item) × (drop n xs ≡ x ∷ rest) × PassesAt act x
split_at act [] n lt passes = absurd (omega (arith, lt))
split_at act (x ∷ xs) zero lt passes = (x, xs, refl, passes.0)
split_at act (x ∷ xs) (suc n) lt passes = split_at act xs n (omega (arith, lt)) passes.1

back_untouched : (act : Action) (v : View) (n : ℕ) (c : Cut) → n ≤ length (whole c) → PassesAll act (whole c) → backward_trials act v n c ≡ Ok (with_events [] (view_at v c))
back_untouched act v zero c le passes = refl
back_untouched act v (suc n) c le passes =
    let k = cut_at_index n c in
    let there = split_at act (whole c) n (omega (arith, le)) passes in
    let here : act k ≡ Passes [] = there.3 k there.1 there.2 in
    let same : whole k ≡ whole c = take-append-drop n (whole c) in
    let long : length (whole k) ≡ length (whole c) = ap length same in
    let P : List Item → Type 0 = λ xs. PassesAll act xs in
    let more : backward_trials act v n k ≡ Ok (with_events [] (view_at v k)) = back_untouched act v n k (omega (arith, le, long)) (subst P (sym same) passes) in
    let seen : view_at v k ≡ view_at v c = ap (λ xs. record (view_at v c) { items = xs }) same in
    ap (λ o. after_outcome o (backward_trials act v n) v k) here ∙ ap (then_reading (with_events [] (view_at v k))) more ∙ ap (λ w. Ok (with_events [] w)) seen

-- a pass from the right leaves the positions too
pub left_back : (act : Action) (v : View) → PassesAll act v.items → backward_pass act v ≡ Ok (with_events [] v)
left_back act v passes = back_untouched act v (length v.items) (uncut_with_positions v) (omega arith) passes

pub skipped_back : (act : Action) (r : ℕ) (s : Sides) → IsReady s → PassesAll act (items_of s) → IsDoneFrom r r (backward_pass act) s s
skipped_back act r s ready passes =
    let P : Reading → Type 0 = λ q. Follows q (state_with r s) (state_with r s) in
    record { follows = subst P (sym (left_back act (state_with r s).view passes)) (follows_same (state_with r s)); settings = refl; ready = ready; numbers = λ h. h }

-- ---- either way

by_way : (b : Bool) (back forth : Stage) (r : ℕ) (old new : Sides) → (b ≡ true → new ≡ old) → (b ≡ false → new ≡ with_cleared_positions old) → IsDoneFrom r r back old old → IsDoneFrom r r forth old (with_cleared_positions old) → IsDoneFrom r r (λ v. if b then back v else forth v) old new
by_way true back forth r old new left cleared d e = let P : Sides → Type 0 = λ s. IsDoneFrom r r back old s in subst P (sym (left refl)) d
by_way false back forth r old new left cleared d e = let P : Sides → Type 0 = λ s. IsDoneFrom r r forth old s in subst P (sym (cleared refl)) e

pub skipped_done : (font : FaceParts) (table : List SubstLookup) (o : Option SubstLookup) (lookup : SubstLookup) (m : lookup_map_t) (r : ℕ) (old new : Sides) → Some lookup ≡ o → IsReady old → length (all_glyphs old) ≤ old.max_len
    → list_any (λ (x : Item). shares_mask m.mask x.mask && substitution_covers lookup.subtables x.number) (items_of old) ≡ false → (is_reverse lookup.subtables ≡ true → new ≡ old) → (is_reverse lookup.subtables ≡ false → new ≡ with_cleared_positions old)
    → IsDoneFrom r r (lookup_stage font table o m) old new
skipped_done font table o lookup m r old new there ready within none left cleared =
    let a = lookup_context font lookup m in
    let P : Option SubstLookup → Type 0 = λ q. IsDoneFrom r r (lookup_stage font table q m) old new in
    let meant : Item → Bool = λ x. shares_mask m.mask x.mask && substitution_covers lookup.subtables x.number in
    let back = skipped_back (reverse_action a lookup) r old ready (passes_uncovered (reverse_action a lookup) meant (items_of old) none
    (λ x off. idle_passes a (first_reverse a lookup.subtables) (substitution_covers lookup.subtables x.number) x (first_reverse_uncovered a lookup.subtables x) off)) in
    let nest = nested_actions table 64 a in
    let forth = skipped_forth (lookup_action table a lookup) r old ready within (passes_uncovered (lookup_action table a lookup) meant (items_of old) none
    (λ x off. idle_passes a (first_subtable nest a lookup.subtables) (substitution_covers lookup.subtables x.number) x (first_uncovered nest a lookup.subtables x) off)) in
    subst P there (by_way (is_reverse lookup.subtables) (backward_pass (reverse_action a lookup)) (forward_pass (lookup_action table a lookup)) r old new left cleared back forth)

-- a lookup that is to be tried at none of the glyphs
pub idle_done : (table : List SubstLookup) (a : ApplyContext) (lookup : SubstLookup) (r : ℕ) (old new : Sides) → IsReady old → length (all_glyphs old) ≤ old.max_len
    → list_any (λ (x : Item). meets a x && substitution_covers lookup.subtables x.number) (items_of old) ≡ false → (is_reverse lookup.subtables ≡ true → new ≡ old) → (is_reverse lookup.subtables ≡ false → new ≡ with_cleared_positions old)
    → IsDoneFrom r r (lookup_applied table a lookup) old new
idle_done table a lookup r old new ready within none left cleared =
    let nest = nested_actions table 64 a in
    let covers = substitution_covers lookup.subtables in
    let back = skipped_back (reverse_action a lookup) r old ready (idle_all a (first_reverse a lookup.subtables) covers (items_of old) (λ x out. first_reverse_uncovered a lookup.subtables x out) none) in
    let forth = skipped_forth (lookup_action table a lookup) r old ready within (idle_all a (first_subtable nest a lookup.subtables) covers (items_of old) (λ x out. first_uncovered nest a lookup.subtables x out) none) in
    by_way (is_reverse lookup.subtables) (backward_pass (reverse_action a lookup)) (forward_pass (lookup_action table a lookup)) r old new left cleared back forth

-- what none of the glyphs ahead passes, none of the text does where the cursor is at its front
pub none_in_text : (test : Item → Bool) (s : Sides) (k : ℕ) → s.behind ≡ [] → k ≡ length (all_glyphs s) → list_any test (take k (strip s.ahead)) ≡ false → list_any test (items_of s) ≡ false
none_in_text test s k front all none =
    let same : all_glyphs s ≡ s.ahead = ap (λ gs. gs ++ s.ahead) front in
    let long : length (strip s.ahead) ≡ length s.ahead = length-map s.ahead item_of in
    let count : length (all_glyphs s) ≡ length s.ahead = ap length same in
    ap (λ gs. list_any test (strip gs)) same ∙ ap (list_any test) (sym (take_all k (strip s.ahead) (omega (arith, long, count, all)))) ∙ none

-- the glyphs stay
pub skipped_items : (b : Bool) (old new : Sides) → (b ≡ true → new ≡ old) → (b ≡ false → new ≡ with_cleared_positions old) → items_of new ≡ items_of old
skipped_items true old new left cleared = ap items_of (left refl)
skipped_items false old new left cleared = ap items_of (cleared refl)

pub skipped_held : (t : TextSets) (b : Bool) (old new : Sides) → (b ≡ true → new ≡ old) → (b ≡ false → new ≡ with_cleared_positions old) → HoldsText t (items_of old) → HoldsText t (items_of new)
skipped_held t b old new left cleared held = subst (HoldsText t) (sym (skipped_items b old new left cleared)) held

-- ---- positions that are known to be zero

pub already_cleared : (s : Sides) → HasZeroPositions s → s ≡ with_cleared_positions s
already_cleared s none = ap (λ ps. record s { positions = ps }) none

pub cleared_now : (s new : Sides) → new ≡ with_cleared_positions s → HasZeroPositions new
cleared_now s new is =
    let P : Sides → Type 0 = λ t. HasZeroPositions t in
    subst P (sym is) (ap zero_positions (sym (length-replicate (length s.positions) zero_position)))

pub zero_synced : (s new : Sides) → new ≡ after_sync s → HasZeroPositions new
zero_synced s new is =
    let P : Sides → Type 0 = λ t. HasZeroPositions t in
    subst P (sym is) (ap zero_positions (sym (length-replicate (length (all_glyphs s)) zero_position)))
