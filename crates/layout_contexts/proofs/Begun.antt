-- What one record does before its lookup.
use Rattle.std.proofs.Common.{ℕ, ◌≡◌, ◌≤◌, ◌<◌, ◌-◌, inl, inr, true, false, Bool, List, [], length, take, drop, min, Ok, Err, Some, None, slice_get, refl, sym, ap, subst, ◌∙◌, arith, if◌then◌else◌}
use Rattle.std.specs.Prelude.{nat_lt, ◌&&◌}
use Rattle.std.proofs.lemmas.List.{length-map, length-take, length-drop, take-append-drop}
use Rattle.buffer_glyphs.specs.declared.cause.ShapeCause.{ShapeCause}
use Rattle.buffer_glyphs.specs.declared.cause.ShapeCause.TheVariants.{TooLong}
use Rattle.buffer_glyphs.specs.Items.{item_of}
use Rattle.buffer_core.specs.Sides.{Sides}
use Rattle.layout_tables.specs.declared.context.SequenceLookupRecord.{SequenceLookupRecord}
use Rattle.buffer_stages.specs.Actions.{Cut, Action, Acts, Refuses, whole}
use Rattle.buffer_stages.specs.Buffers.{cut_of}
use Rattle.buffer_stages.specs.Performing.{cut_with}
use Rattle.layout_contexts.proofs.Lemmas.Lengths.{front_length}
use Rattle.layout_contexts.proofs.Lemmas.Steps.{then_left}
use Rattle.layout_contexts.specs.Nested.{Walks, Stops, cut_at, cut_after_match, outcome_at_index, has_budget, holds, nested_outcome_at, nested_outcome, one_record, with_budget_spent}
use Rattle.layout_contexts.specs.Nesting.{IsLeft, Nests}
use Rattle.layout_contexts.specs.Records.{RecordBegins, IsMoved, IsMoveRefusal, IsSpent}
use Rattle.std.proofs.lemmas.Bool.{and_from, and_left, and_right}
use Rattle.buffer_facts.proofs.Numbers.{test_of_less as is_under, test_of_not_less as isnt_under}

pub absent : (r : SequenceLookupRecord) (ps : List ℕ) (s : Sides) → None ≡ slice_get ps r.sequence_index → RecordBegins r ps (Ok None) s s
absent r ps s e = (refl, λ random act end. ap (λ o. outcome_at_index act r o (cut_with random s) ps end) (sym e))

by_test : (r : SequenceLookupRecord) (ps : List ℕ) (p : ℕ) (s : Sides) (b : Bool) → Some p ≡ slice_get ps r.sequence_index → (nat_lt p (length (whole (cut_of s))) && has_budget (cut_of s)) ≡ b → (random : ℕ) (act : ℕ → Action) (end : ℕ)
    → one_record act r (cut_with random s) ps end ≡ (if b then nested_outcome_at act r p (with_budget_spent (cut_with random s)) ps end else Walks (cut_with random s) ps end [])
by_test r ps p s b e t random act end = ap (λ o. outcome_at_index act r o (cut_with random s) ps end) (sym e) ∙ ap (λ b. if b then nested_outcome_at act r p (with_budget_spent (cut_with random s)) ps end else Walks (cut_with random s) ps end []) t

pub beyond : (r : SequenceLookupRecord) (ps : List ℕ) (p : ℕ) (s : Sides) → Some p ≡ slice_get ps r.sequence_index → length (whole (cut_of s)) ≤ p → RecordBegins r ps (Ok None) s s
beyond r ps p s e le = (refl, by_test r ps p s false e (and_left (nat_lt p (length (whole (cut_of s)))) (has_budget (cut_of s)) (isnt_under p (length (whole (cut_of s))) le)))

pub unpaid : (r : SequenceLookupRecord) (ps : List ℕ) (p : ℕ) (s t : Sides) → Some p ≡ slice_get ps r.sequence_index → has_budget (cut_of s) ≡ false → t ≡ s → RecordBegins r ps (Ok None) s t
unpaid r ps p s t e off same = (same, by_test r ps p s false e (and_right (nat_lt p (length (whole (cut_of s)))) (has_budget (cut_of s)) off))

paid : (r : SequenceLookupRecord) (ps : List ℕ) (p : ℕ) (s : Sides) → Some p ≡ slice_get ps r.sequence_index → p < length (whole (cut_of s)) → has_budget (cut_of s) ≡ true → (random : ℕ) (act : ℕ → Action) (end : ℕ)
    → one_record act r (cut_with random s) ps end ≡ nested_outcome_at act r p (with_budget_spent (cut_with random s)) ps end
paid r ps p s e lt on = by_test r ps p s true e (and_from (nat_lt p (length (whole (cut_of s)))) (has_budget (cut_of s)) (is_under p (length (whole (cut_of s))) lt) on)

-- whether there is room doesn't depend on budget and random state
same_room : (p : ℕ) (s t : Sides) → IsSpent s t → holds p (cut_of t) ≡ holds p (cut_of s)
same_room p s t spends = ap (holds p) (spends 1).cut_is

pub no_way : (r : SequenceLookupRecord) (ps : List ℕ) (p : ℕ) (s t u : Sides) (x : ShapeCause) → Some p ≡ slice_get ps r.sequence_index → p < length (whole (cut_of s)) → has_budget (cut_of s) ≡ true → IsSpent s t → IsMoveRefusal p (cut_of t) x → RecordBegins r ps (Err x) s u
no_way r ps p s t u x e lt on spends (inl memory) = λ n. absurd (n memory)
no_way r ps p s t u x e lt on spends (inr (long, off)) = λ n random act end.
    let c = with_budget_spent (cut_with random s) in
    let not : holds p c ≡ false = sym (same_room p s t spends) ∙ off in
    paid r ps p s e lt on random act end ∙ ap (λ b. if b then nested_outcome r.sequence_index p (cut_at p c) ps end (act r.lookup_index (cut_at p c)) else Stops TooLong) not ∙ ap Stops (sym long)

pub begun : (r : SequenceLookupRecord) (ps : List ℕ) (p : ℕ) (s t u : Sides) → Some p ≡ slice_get ps r.sequence_index → p < length (whole (cut_of s)) → has_budget (cut_of s) ≡ true → IsSpent s t → holds p (cut_of t) ≡ true → IsMoved p t u → RecordBegins r ps (Ok (Some p)) s u
begun r ps p s t u e lt on spends room moves =
    let whole_c = whole (cut_of s) in
    let left : (random : ℕ) → IsLeft (cut_at p (with_budget_spent (cut_with random s))) [] random s u = λ random.
    let P : Cut → Type 0 = λ c. IsLeft (cut_at p c) [] random s u in
    subst P (spends random).cut_is (then_left (cut_with random t) (cut_at p (cut_with random t)) [] [] random random s t u (record { cut_is = refl; happened = (spends random).happened; still = (spends random).still; numbers = (spends random).numbers }) (moves random)) in
    let front : length u.behind ≡ length (take p whole_c) = sym (front_length u) ∙ ap (λ (c : Cut). length c.front) (left 1).cut_is in
    let ahead : length u.ahead ≡ length (drop p whole_c) = sym (length-map u.ahead item_of) ∙ ap (λ (c : Cut). length c.rest) (left 1).cut_is in
    let taken : length (take p whole_c) ≡ min p (length whole_c) = length-take p whole_c in
    let dropped : length (drop p whole_c) ≡ length whole_c - p = length-drop p whole_c in
    record {
      index = sym e;
      behind = omega (arith, front, taken, lt);
      count = ap (λ (c : Cut). length (whole c)) (left 1).cut_is ∙ ap length (take-append-drop p whole_c);
      ahead = omega (arith, ahead, dropped, lt);
      left = left;
      does = λ random act end.
          let c = with_budget_spent (cut_with random s) in
          let held : holds p c ≡ true = sym (same_room p s t spends) ∙ room in
          paid r ps p s e lt on random act end ∙ ap (λ b. if b then nested_outcome r.sequence_index p (cut_at p c) ps end (act r.lookup_index (cut_at p c)) else Stops TooLong) held
          ∙ ap (λ d. nested_outcome r.sequence_index p d ps end (act r.lookup_index d)) (sym (left random).cut_is);
    }

-- ---- after the match

pub went_behind : (end p n : ℕ) (s t : Sides) → n ≡ length (whole (cut_of s)) → p ≡ min end n → holds p (cut_of s) ≡ true → IsMoved p s t → (random : ℕ) → Nests (cut_after_match (Walks (cut_with random s) [] end [])) (Ok true) random random s t
went_behind end p n s t en ep on moves random =
    let e : p ≡ min end (length (whole (cut_of s))) = ep ∙ ap (min end) en in
    let P : ℕ → Type 0 = λ q. Nests (if holds q (cut_of s) then Acts (cut_at q (cut_with random s)) [] else Refuses TooLong) (Ok true) random random s t in
    let Q : Bool → Type 0 = λ b. Nests (if b then Acts (cut_at p (cut_with random s)) [] else Refuses TooLong) (Ok true) random random s t in
    subst P e (subst Q (sym on) (refl, moves random))
