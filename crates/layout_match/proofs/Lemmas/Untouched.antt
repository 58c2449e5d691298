-- A rule that passes at each item of a list leaves the list as it is.
use Rattle.std.proofs.Common.{ℕ, suc, zero, ◌≡◌, ◌+◌, true, false, nat_le, Bool, ◌&&◌, not, List, [], ◌∷◌, ◌++◌, length, Ok, refl, ap, ◌∙◌, arith, append_assoc}
use Rattle.std.proofs.lemmas.Bool.Decides.{nat_tests}
use Rattle.std.proofs.lemmas.List.{length-append}
use Rattle.buffer_glyphs.specs.Items.{Item}
use Rattle.buffer_glyphs.specs.Parts.{first_of}
use Rattle.buffer_core.specs.Readings.{View, and_then, then_reading, with_events}
use Rattle.buffer_stages.specs.Actions.{Action, Acts, Cut, Passes, at_first, past_item, uncut, uncut_with_positions, view_at}
use Rattle.buffer_stages.specs.Masks.{shares_mask}
use Rattle.layout_match.specs.Applied.{ApplyContext}
use Rattle.layout_match.specs.Searches.{is_left_out}
use Rattle.layout_match.specs.Lemmas.Passing.{passes_at_item}
use Rattle.layout_match.specs.Skipping.{PassesAll, PassesAt}
use Rattle.layout_match.specs.Trying.{after_outcome, at_met, forward_pass, meets, met_first, outcome_past_item, trials, whole_list, with_zero_positions}

room : (front rest : List Item) (x : Item) (m : ℕ) → nat_le (length (front ++ x ∷ rest)) m ≡ true → nat_le (length front + 1) m ≡ true
room front rest x m fits = let long = length-append front (x ∷ rest) in grind (arith, nat_tests, fits, long)

-- nothing is done from an index on
pub untouched : (act : Action) (v : View) (n : ℕ) (start : Cut) (front rest : List Item) → PassesAll act rest → nat_le (length (front ++ rest)) start.max_len ≡ true
    → let c : Cut = record start { front = front; rest = rest } in trials act v n c ≡ Ok (with_events [] (view_at v c))
untouched act v zero start front rest passes fits = refl
untouched act v (suc n) start front [] passes fits = refl
untouched act v (suc n) start front (x ∷ rest) passes fits =
    let c : Cut = record start { front = front; rest = x ∷ rest } in
    let here : act c ≡ Passes [] = passes.0 c rest refl in
    let over : outcome_past_item (act c) c ≡ Acts (past_item c) [] = ap (λ o. outcome_past_item o c) here ∙ rw (room front rest x start.max_len fits) refl in
    let same : (front ++ x ∷ []) ++ rest ≡ front ++ x ∷ rest = append_assoc front (x ∷ []) rest in
    let more : trials act v n (past_item c) ≡ Ok (with_events [] (view_at v (past_item c))) = untouched act v n start (front ++ x ∷ []) rest passes.1 (ap (λ xs. nat_le (length xs) start.max_len) same ∙ fits) in
    let seen : view_at v (past_item c) ≡ view_at v c = ap (λ xs. record (view_at v c) { items = xs }) same in
    ap (λ o. after_outcome o (trials act v n) v c) over ∙ ap (then_reading (with_events [] (view_at v (past_item c)))) more ∙ ap (λ w. Ok (with_events [] w)) seen

-- a pass over the list leaves zero positions, and nothing else happens
pub left_alone : (act : Action) (v : View) → PassesAll act v.items → nat_le (length v.items) v.max_len ≡ true → forward_pass act v ≡ Ok (with_zero_positions v)
left_alone act v passes fits =
    let all : trials act v (length v.items) (uncut v) ≡ Ok (with_events [] (view_at v (uncut v))) = untouched act v (length v.items) (uncut v) [] v.items passes fits in
    ap (λ r. and_then r whole_list) all ∙ rw fits refl

-- where the positions are kept, nothing happens
pub left_placed : (act : Action) (v : View) → PassesAll act v.items → nat_le (length v.items) v.max_len ≡ true → trials act v (length v.items) (uncut_with_positions v) ≡ Ok (with_events [] v)
left_placed act v passes fits = untouched act v (length v.items) (uncut_with_positions v) [] v.items passes fits

-- ---- where a lookup passes

-- a lookup passes at an item that it doesn't meet
pub unmet_passes : (a : ApplyContext) (act : Action) (x : Item) → meets a x ≡ false → PassesAt (met_first a act) x
unmet_passes a act x none = passes_at_item (at_met a act) x (λ c. rw none refl)

-- a lookup passes where its rule does
pub rule_passes : (a : ApplyContext) (act : Action) (x : Item) → PassesAt act x → PassesAt (met_first a act) x
rule_passes a act x passes c rest e = ap (λ xs. at_first (at_met a act) (first_of xs) c) e ∙ by_meeting (meets a x) refl
  where
    by_meeting : (b : Bool) → meets a x ≡ b → at_met a act x c ≡ Passes []
    by_meeting true is = rw is (passes c rest e)
    by_meeting false is = rw is refl

-- a lookup passes where its rule does, or the item has no bit of its mask
pub idle_passes : (a : ApplyContext) (act : Action) (covers : Bool) (x : Item) → (covers ≡ false → PassesAt act x) → (shares_mask a.mask x.mask && covers) ≡ false → PassesAt (met_first a act) x
idle_passes a act covers x passes none = by_sharing (shares_mask a.mask x.mask) refl none
  where
    by_sharing : (b : Bool) → shares_mask a.mask x.mask ≡ b → (b && covers) ≡ false → PassesAt (met_first a act) x
    by_sharing true is uncovered = rule_passes a act x (passes uncovered)
    by_sharing false is uncovered = unmet_passes a act x (ap (λ b. b && not (is_left_out a.props a.font.gdef.sets x)) is)
