-- Carets of a line with those at stops inside of clusters.
use Rattle.std.proofs.Common.{ℕ, ℤ, zero, suc, ◌≡◌, ◌≤◌, ◌+◌, Bool, true, false, Some, List, [], ◌∷◌, ◌++◌, length, drop, get_or, slice_get, arith, refl, sym, ap, ◌∙◌}
use Rattle.std.proofs.lemmas.List.{append_assoc, append-nil, drop_all, drop_more}
use Rattle.std.proofs.lemmas.Option.{get_or_from_slice_get, slice_get_within}
use Rattle.caret_model.specs.declared.carets.Caret.{Caret}
use Rattle.caret_model.specs.Stops.{carets_after, in_text_order, inner_carets, stops_between, with_stops}
use Rattle.caret_model.proofs.TextOrder.{order_count}

pub none_stopped : (b : Bool) (own : ℕ → List ℤ) (stops : List ℕ) (cs : List Caret) → length cs ≡ 0 → with_stops b own stops (in_text_order b cs) ≡ []
none_stopped b own stops cs none = by_list (in_text_order b cs) (order_count b cs ∙ none)
  where
    by_list : (ds : List Caret) → length ds ≡ 0 → with_stops b own stops ds ≡ []
    by_list [] same = refl
    by_list (d ∷ ds) same = absurd (omega (arith, same))

pub first_stopped : (b : Bool) (own : ℕ → List ℤ) (stops : List ℕ) (cs found : List Caret) (c : Caret) → slice_get cs 0 ≡ Some c → found ≡ c ∷ [] → found ++ carets_after b own stops 1 c (drop 1 cs) ≡ with_stops b own stops cs
first_stopped b own stops [] found c at same = cc
first_stopped b own stops (d ∷ cs) found c at same =
    let is : d ≡ c = get_or_from_slice_get (d ∷ cs) 0 c c at in
    ap (λ xs. xs ++ carets_after b own stops 1 c cs) same ∙ ap (λ e. e ∷ carets_after b own stops 1 e cs) (sym is)

pub next_stopped : (b : Bool) (own : ℕ → List ℤ) (given : List ℤ) (stops : List ℕ) (cs found pushed new whole : List Caret) (i : ℕ) (last next : Caret)
    → slice_get cs i ≡ Some next → given ≡ own i → pushed ≡ found ++ inner_carets b given last next (stops_between stops last.byte next.byte) → new ≡ pushed ++ next ∷ []
    → found ++ carets_after b own stops i last (drop i cs) ≡ whole → new ++ carets_after b own stops (i + 1) next (drop (i + 1) cs) ≡ whole
next_stopped b own given stops cs found pushed new whole i last next at is_own between more before =
    let within = slice_get_within cs i next at in
    let is : get_or cs i next ≡ next = get_or_from_slice_get cs i next next at in
    let rest = carets_after b own stops (i + 1) next (drop (i + 1) cs) in
    let inner = inner_carets b (own i) last next (stops_between stops last.byte next.byte) in
    let left : drop i cs ≡ next ∷ drop (i + 1) cs = drop_more cs i next within ∙ ap (λ e. e ∷ drop (i + 1) cs) is in
    let pushed_own : pushed ≡ found ++ inner = between ∙ ap (λ xs. found ++ inner_carets b xs last next (stops_between stops last.byte next.byte)) is_own in
    ap (λ xs. xs ++ rest) (more ∙ ap (λ xs. xs ++ next ∷ []) pushed_own)
    ∙ append_assoc (found ++ inner) (next ∷ []) rest ∙ append_assoc found inner (next ∷ rest)
    ∙ sym (ap (λ xs. found ++ carets_after b own stops i last xs) left) ∙ before

pub all_stopped : (b : Bool) (own : ℕ → List ℤ) (stops : List ℕ) (cs found : List Caret) (i : ℕ) (last : Caret) → length cs ≤ i
    → found ++ carets_after b own stops i last (drop i (in_text_order b cs)) ≡ with_stops b own stops (in_text_order b cs) → found ≡ with_stops b own stops (in_text_order b cs)
all_stopped b own stops cs found i last past whole =
    let many = order_count b cs in
    sym (append-nil found) ∙ sym (ap (λ xs. found ++ carets_after b own stops i last xs) (drop_all i (in_text_order b cs) (omega (arith, many, past)))) ∙ whole
