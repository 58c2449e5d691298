-- Lawful tables keep joining types in compositions, where they keep them in decompositions.
use Rattle.std.proofs.Common.{ℕ, zero, suc, ◌≡◌, ◌+◌, ◌==◌, ◌||◌, Bool, true, false, if◌then◌else◌, List, [], ◌∷◌, ◌++◌, map, Option, None, Some, arith, refl, sym, ap, subst, ◌∙◌}
use Rattle.std.specs.List.{All, list_any}
use Rattle.std.specs.List.Sorted.{IsPermutation}
use Rattle.std.proofs.lemmas.List.{map-append}
use Rattle.std.proofs.lemmas.List.Elements.{All-append, All-cons, All-head, All-nil, All-tail}
use Rattle.std.proofs.lemmas.List.Sorted.{All-permutation, list_any-IsPermutation}
use Rattle.buffer_unicode_tables.specs.ClassOrder.{class_order, order_after, run_order}
use Rattle.buffer_unicode_tables.specs.Expansion.{by_halves, expansion_by_splits, with_second_piece}
use Rattle.buffer_unicode_tables.specs.Lawful.{PairsAreEquivalent}
use Rattle.buffer_unicode_tables.specs.Tables.{Tables, class_of, pair_of, split_of}
use Rattle.buffer_unicode_tables.specs.Texts.{full_expansion, text_order}
use Rattle.buffer_rows.specs.KeyOrder.{key_bound}
use Rattle.buffer_lists.specs.Lemmas.KeyOrder.{all_below, by_key_moves}
use Rattle.script_categories.specs.declared.joining_types.hb_arabic_joining_type_t.TheVariants.{U, L, R, D, GroupAlaph, GroupDalathRish, T, X}
use Rattle.script_joining.specs.Joining.{is_letter}
use Rattle.script_joining.specs.Types.{JoiningType, type_of_character}
use Rattle.script_joining.proofs.Walked.{transparent}
use Rattle.shape_laws.specs.Breaks.Types.{AreSeenAs, Ends, HalvesKeepType, ends_joined, ends_of, ends_of_one, joins_nothing, type_of_half}
use Rattle.shape_laws.proofs.BreakLemmas.Ends.{ends_both, first_or, joined_assoc, joined_none, last_or, no_letter, quiet_ends, quiet_one, two_seen, quiet_two}

-- the ends of characters
abbrev ends : Tables → List ℕ → Ends
ends t us = ends_of (map (type_of_character t) us)

-- the ends of one character
abbrev one : Tables → ℕ → Ends
one t u = ends_of_one (type_of_character t u)

ends_alone : (t : Tables) (u : ℕ) → ends t (u ∷ []) ≡ one t u
ends_alone t u = joined_none (one t u)

ends_many : (t : Tables) (us vs : List ℕ) → ends t (us ++ vs) ≡ ends_joined (ends t us) (ends t vs)
ends_many t us vs = ap ends_of (map-append (type_of_character t) us vs) ∙ ends_both (map (type_of_character t) us) (map (type_of_character t) vs)

-- ---- full decompositions

second_ends : (t : Tables) (u a b : ℕ) (us : List ℕ) → AreSeenAs (type_of_character t u) (type_of_character t a) (type_of_half t b) → ends t us ≡ one t a → ends t (with_second_piece b us) ≡ one t u
second_ends t u a b us h e = by_test (b == 0) h
  where
    by_test : (c : Bool) → AreSeenAs (type_of_character t u) (type_of_character t a) (if c then T else type_of_character t b) → ends t (if c then us else us ++ b ∷ []) ≡ one t u
    by_test true k = e ∙ sym (joined_none (one t a)) ∙ two_seen (type_of_character t u) (type_of_character t a) T k
    by_test false k = ends_many t us (b ∷ []) ∙ ap (λ p. ends_joined p (ends t (b ∷ []))) e ∙ ap (ends_joined (one t a)) (ends_alone t b) ∙ two_seen (type_of_character t u) (type_of_character t a) (type_of_character t b) k

-- decompositions keep types
abbrev pub KeepHalves : Tables → Type 0
KeepHalves t = (u : ℕ) → HalvesKeepType t (type_of_character t u) (split_of t u)

expansion_ends : (t : Tables) (depth u : ℕ) → KeepHalves t → ends t (expansion_by_splits (split_of t) depth u) ≡ one t u
unfolding expansion_by_splits
expansion_ends t zero u keeps = ends_alone t u
expansion_ends t (suc depth) u keeps = by_split (split_of t u) (keeps u) (λ a. expansion_ends t depth a keeps)
  where
    by_split : (o : Option (ℕ × ℕ)) → HalvesKeepType t (type_of_character t u) o → ((a : ℕ) → ends t (expansion_by_splits (split_of t) depth a) ≡ one t a) → ends t (by_halves (expansion_by_splits (split_of t) depth) u o) ≡ one t u
    by_split None h first = ends_alone t u
    by_split (Some (a, b)) h first = second_ends t u a b (expansion_by_splits (split_of t) depth a) h (first a)

-- ---- canonical ordering

-- characters that canonical ordering may move join nothing
abbrev pub KeepOrdered : Tables → Type 0
KeepOrdered t = (u : ℕ) → (class_of t u == 0 || joins_nothing (type_of_character t u)) ≡ true

abbrev Quiet : Tables → ℕ → Type 0
Quiet t u = joins_nothing (type_of_character t u) ≡ true

abbrev is_letter_character : Tables → ℕ → Bool
is_letter_character t u = is_letter (type_of_character t u)

quiet_all : (t : Tables) (us : List ℕ) → All (Quiet t) us → ends t us ≡ quiet_ends (list_any (is_letter_character t) us)
quiet_all t [] h = refl
quiet_all t (u ∷ us) h =
    ap (λ p. ends_joined p (ends t us)) (quiet_one (type_of_character t u) (All-head (Quiet t) u us h)) ∙ ap (ends_joined (quiet_ends (is_letter_character t u))) (quiet_all t us (All-tail (Quiet t) u us h))
    ∙ quiet_two (is_letter_character t u) (list_any (is_letter_character t) us)

run_ends : (t : Tables) (run : List ℕ) → All (Quiet t) run → ends t (run_order (class_of t) run) ≡ ends t run
unfolding run_order
run_ends t run h =
    let class = class_of t in
    let moved : IsPermutation run (run_order class run) = by_key_moves class (key_bound class run) run (all_below class (key_bound class run) run (omega arith)) in
    quiet_all t (run_order class run) (All-permutation (Quiet t) run (run_order class run) moved h) ∙ ap quiet_ends (sym (list_any-IsPermutation (is_letter_character t) run (run_order class run) moved)) ∙ sym (quiet_all t run h)

-- a character of nonzero class joins nothing
quiet_by : (a b : Bool) → (a || b) ≡ true → a ≡ false → b ≡ true
quiet_by true b h e = cc
quiet_by false b h e = h

order_ends : (t : Tables) (run us : List ℕ) → KeepOrdered t → All (Quiet t) run → ends t (order_after (class_of t) run us) ≡ ends_joined (ends t run) (ends t us)
order_ends t run [] keeps h = run_ends t run h ∙ sym (joined_none (ends t run))
order_ends t run (u ∷ us) keeps h = by_test (class_of t u == 0) refl (order_ends t [] us keeps (All-nil (Quiet t))) (λ k. order_ends t (run ++ u ∷ []) us keeps k)
  where
    by_test : (b : Bool) → (class_of t u == 0) ≡ b → ends t (order_after (class_of t) [] us) ≡ ends t us → (All (Quiet t) (run ++ u ∷ []) → ends t (order_after (class_of t) (run ++ u ∷ []) us) ≡ ends_joined (ends t (run ++ u ∷ [])) (ends t us))
        → ends t (if b then run_order (class_of t) run ++ u ∷ order_after (class_of t) [] us else order_after (class_of t) (run ++ u ∷ []) us) ≡ ends_joined (ends t run) (ends t (u ∷ us))
    by_test true e next longer =
        ends_many t (run_order (class_of t) run) (u ∷ order_after (class_of t) [] us) ∙ ap (λ p. ends_joined p (ends t (u ∷ order_after (class_of t) [] us))) (run_ends t run h)
        ∙ ap (λ p. ends_joined (ends t run) (ends_joined (one t u) p)) next
    by_test false e next longer =
        let quiet : Quiet t u = quiet_by (class_of t u == 0) (joins_nothing (type_of_character t u)) (keeps u) e in
        longer (All-append (Quiet t) run (u ∷ []) h (All-cons (Quiet t) u [] quiet (All-nil (Quiet t))))
        ∙ ap (λ p. ends_joined p (ends t us)) (ends_many t run (u ∷ []) ∙ ap (ends_joined (ends t run)) (ends_alone t u)) ∙ joined_assoc (ends t run) (one t u) (ends t us)

-- ---- compositions

-- two characters with the ends of one are seen as it
seen_from : (w s t : JoiningType) → ends_joined (ends_of_one s) (ends_of_one t) ≡ ends_of_one w → AreSeenAs w s t
seen_from w s t h = by_three (is_letter s) (is_letter t) (is_letter w) refl refl refl h
  where
    by_three : (a b c : Bool) → is_letter s ≡ a → is_letter t ≡ b → is_letter w ≡ c → ends_joined (if a then Some (s, s) else None) (if b then Some (t, t) else None) ≡ (if c then Some (w, w) else None)
        → ((if a then s else t) ≡ w) × ((if b then t else s) ≡ w)
    by_three true true true e f g k = (ap (first_or s) k, ap (last_or t) k)
    by_three true false true e f g k = (ap (first_or s) k, ap (first_or s) k)
    by_three false true true e f g k = (ap (last_or t) k, ap (last_or t) k)
    by_three false false false e f g k = (transparent t f ∙ sym (transparent w g), transparent s e ∙ sym (transparent w g))
    by_three true true false e f g k = cc
    by_three true false false e f g k = cc
    by_three false true false e f g k = cc
    by_three false false true e f g k = cc

pub composites_seen : (t : Tables) (a b u : ℕ) → KeepHalves t → KeepOrdered t → PairsAreEquivalent t → pair_of t a b ≡ Some u → AreSeenAs (type_of_character t u) (type_of_character t a) (type_of_character t b)
composites_seen t a b u halves ordered law is = seen_from (type_of_character t u) (type_of_character t a) (type_of_character t b) same
  where
    ordered_ends : (us : List ℕ) → ends t (text_order t us) ≡ ends t us
    ordered_ends us = order_ends t [] us ordered (All-nil (Quiet t))

    full : (v : ℕ) → ends t (full_expansion t v) ≡ one t v
    full v = expansion_ends t 8 v halves

    same : ends_joined (one t a) (one t b) ≡ one t u
    same =
        sym (ends_many t (full_expansion t a) (full_expansion t b) ∙ ap (λ p. ends_joined p (ends t (full_expansion t b))) (full a) ∙ ap (ends_joined (one t a)) (full b))
        ∙ sym (ordered_ends (full_expansion t a ++ full_expansion t b)) ∙ ap (ends t) (sym (law a b u is)) ∙ ordered_ends (full_expansion t u) ∙ full u
