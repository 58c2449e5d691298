-- Searches and matches in a list, and in a longer one that begins with it.
use Rattle.std.proofs.Common.{ℕ, ◌≡◌, ◌≤◌, ◌<◌, ◌+◌, List, [], ◌∷◌, ◌++◌, length, map, drop, Result, Ok, Err, arith, refl, ap, sym, subst, ◌∙◌}
use Rattle.std.proofs.lemmas.List.{length-map, length-drop, drop-append-le, drop-map}
use Rattle.buffer_glyphs.specs.Items.{Item}
use Rattle.layout_match.specs.declared.search.match_t.{match_t}
use Rattle.layout_match.specs.declared.search.match_t.TheVariants.{MATCH, SKIP, NOT_MATCH}
use Rattle.layout_contexts.specs.MatchIndices.{AreRising}
use Rattle.layout_match.specs.Matches.{by_answer, nearest, nearest_from, then_sequence_end, sequence_end, with_index, indices}
use Rattle.buffer_parts.specs.Breaks.Fragments.{with_ligature_renamed}
use Rattle.layout_laws.specs.Breaks.Matching.{IsBlind, AreBlind, FindsSame, EndsSame, SearchesAgree, MatchesAgree}
use Rattle.layout_contexts.proofs.Lemmas.Rising.{reached_low as match_rises}
use Rattle.layout_gsub.proofs.Found.{by_found as rises_by_answer}

-- ---- searches

pub search_rises : (ask : Item → match_t) (at index : ℕ) (xs : List Item) → nearest ask at xs ≡ Ok index → at ≤ index
search_rises ask at index [] e = cc
search_rises ask at index (x ∷ xs) e = rises_by_answer (ask x) at index (nearest ask (at + 1) xs) (λ h. search_rises ask (at + 1) index xs h) e

pub none_before : (n : ℕ) (r : Result ℕ ℕ) (end : ℕ) → ((i : ℕ) → r ≡ Ok i → n ≤ i) → FindsSame n r (Err end)
none_before n (Ok i) end h = h i refl
none_before n (Err far) end h = tt

same_by_answer : (m : match_t) (at n : ℕ) (r s : Result ℕ ℕ) → at < n → FindsSame n r s → FindsSame n (by_answer m at r) (by_answer m at s)
same_by_answer MATCH at n r s lt h = (refl, lt)
same_by_answer NOT_MATCH at n r s lt h = tt
same_by_answer SKIP at n r s lt h = h

pub searches_agree : SearchesAgree
searches_agree ask f at n [] ys blind e = none_before n (nearest ask at ys) at (λ i h. let up = search_rises ask at i ys h in omega (arith, e, up))
searches_agree ask f at n (x ∷ xs) ys blind e =
    subst (λ (m : match_t). FindsSame n (by_answer m at (nearest ask (at + 1) (map (with_ligature_renamed f) xs ++ ys))) (by_answer (ask x) at (nearest ask (at + 1) xs))) (sym (blind f x))
    (same_by_answer (ask x) at n (nearest ask (at + 1) (map (with_ligature_renamed f) xs ++ ys)) (nearest ask (at + 1) xs) (omega (arith, e)) (searches_agree ask f (at + 1) n xs ys blind (omega (arith, e))))

-- a search from an index on
rest_longer : (f : ℕ → ℕ) (at : ℕ) (xs ys : List Item) → at ≤ length xs → drop at (map (with_ligature_renamed f) xs ++ ys) ≡ map (with_ligature_renamed f) (drop at xs) ++ ys
rest_longer f at xs ys le =
    let g = with_ligature_renamed f in
    let long : at ≤ length (map g xs) = omega (arith, le, length-map xs g) in
    drop-append-le at (map g xs) ys long ∙ ap (λ (zs : List Item). zs ++ ys) (drop-map g at xs)

pub searches_from_agree : (ask : Item → match_t) (f : ℕ → ℕ) (at : ℕ) (xs ys : List Item) → IsBlind ask → at ≤ length xs → FindsSame (length xs) (nearest_from ask at (map (with_ligature_renamed f) xs ++ ys)) (nearest_from ask at xs)
searches_from_agree ask f at xs ys blind le =
    subst (λ (zs : List Item). FindsSame (length xs) (nearest ask at zs) (nearest_from ask at xs)) (sym (rest_longer f at xs ys le))
    (searches_agree ask f at (length xs) (drop at xs) ys blind (omega (arith, le, length-drop at xs)))

-- ---- matches

none_ends : (n : ℕ) (r : Result ℕ ℕ) (end : ℕ) → ((i : ℕ) → r ≡ Ok i → n < i) → EndsSame n r (Err end)
none_ends n (Ok i) end h = h i refl
none_ends n (Err far) end h = tt

-- the ends of a match and its indices in a longer list, as in the first
pub record Agree (n : ℕ) (far near : Result ℕ ℕ) (theirs ours : List ℕ) : Type 0 where
  pub ends : EndsSame n far near
  pub found : (end : ℕ) → near ≡ Ok end → theirs ≡ ours

agree_in_turn : (asks : List (Item → match_t)) (zs xs : List Item) (r s : Result ℕ ℕ) → FindsSame (length xs) r s
    → ((next : ℕ) → next ≤ length xs → Agree (length xs) (sequence_end asks next zs) (sequence_end asks next xs) (indices asks next zs) (indices asks next xs))
    → Agree (length xs) (then_sequence_end r (λ next. sequence_end asks next zs)) (then_sequence_end s (λ next. sequence_end asks next xs)) (with_index r (λ next. indices asks next zs)) (with_index s (λ next. indices asks next xs))
agree_in_turn asks zs xs (Ok i) (Ok j) h more =
    let m = more (j + 1) (omega (arith, h.1)) in
    subst (λ (k : ℕ). Agree (length xs) (sequence_end asks (k + 1) zs) (sequence_end asks (j + 1) xs) (k ∷ indices asks (k + 1) zs) (j ∷ indices asks (j + 1) xs)) (sym h.0)
    (record { ends = m.ends; found = λ end e. ap (λ (ks : List ℕ). j ∷ ks) (m.found end e) })
agree_in_turn asks zs xs (Ok i) (Err d) h more = record {
  ends = none_ends (length xs) (sequence_end asks (i + 1) zs) d (λ k e. let up = match_rises asks (i + 1) k zs e in omega (arith, h, up));
  found = λ end e. cc;
}
agree_in_turn asks zs xs (Err c) (Ok j) h more = absurd h
agree_in_turn asks zs xs (Err c) (Err d) h more = record { ends = tt; found = λ end e. refl }

pub match_agrees : (asks : List (Item → match_t)) (f : ℕ → ℕ) (at : ℕ) (xs ys : List Item) → AreBlind asks → at ≤ length xs
    → Agree (length xs) (sequence_end asks at (map (with_ligature_renamed f) xs ++ ys)) (sequence_end asks at xs) (indices asks at (map (with_ligature_renamed f) xs ++ ys)) (indices asks at xs)
match_agrees [] f at xs ys blind le = record { ends = (refl, le); found = λ end e. refl }
match_agrees (ask ∷ asks) f at xs ys blind le =
    agree_in_turn asks (map (with_ligature_renamed f) xs ++ ys) xs (nearest_from ask at (map (with_ligature_renamed f) xs ++ ys)) (nearest_from ask at xs) (searches_from_agree ask f at xs ys blind.0 le) (λ next more. match_agrees asks f next xs ys blind.1 more)

pub matches_agree : MatchesAgree
matches_agree asks f at xs ys blind le = let a = match_agrees asks f at xs ys blind le in (a.ends, a.found)

-- ---- where a match lies

within_by_answer : (m : match_t) (at index n : ℕ) (r : Result ℕ ℕ) → at < n → (r ≡ Ok index → index < n) → by_answer m at r ≡ Ok index → index < n
within_by_answer MATCH at index n r lt h e = let same : at ≡ index = cc in omega (arith, same, lt)
within_by_answer NOT_MATCH at index n r lt h e = cc
within_by_answer SKIP at index n r lt h e = h e

search_within : (ask : Item → match_t) (at index n : ℕ) (xs : List Item) → n ≡ at + length xs → nearest ask at xs ≡ Ok index → index < n
search_within ask at index n [] e h = cc
search_within ask at index n (x ∷ xs) e h = within_by_answer (ask x) at index n (nearest ask (at + 1) xs) (omega (arith, e)) (λ g. search_within ask (at + 1) index n xs (omega (arith, e)) g) h

search_from_within : (ask : Item → match_t) (at index : ℕ) (xs : List Item) → at ≤ length xs → nearest_from ask at xs ≡ Ok index → index < length xs
search_from_within ask at index xs le h = search_within ask at index (length xs) (drop at xs) (omega (arith, le, length-drop at xs)) h

-- a match ends within the list, and its indices rise from its start up to before its end
pub record LiesWithin (from end n : ℕ) (places : List ℕ) : Type 0 where
  pub rises : from ≤ end
  pub within : end ≤ n
  pub indices : AreRising from end places

lies_by_first : (asks : List (Item → match_t)) (at end : ℕ) (xs : List Item) (r : Result ℕ ℕ) → ((i : ℕ) → r ≡ Ok i → (at ≤ i) × (i < length xs)) → ((i : ℕ) → i + 1 ≤ length xs → sequence_end asks (i + 1) xs ≡ Ok end → LiesWithin (i + 1) end (length xs) (indices asks (i + 1) xs))
    → then_sequence_end r (λ next. sequence_end asks next xs) ≡ Ok end → LiesWithin at end (length xs) (with_index r (λ next. indices asks next xs))
lies_by_first asks at end xs (Ok i) h more g =
    let here = h i refl in
    let rest = more i (omega (arith, here.1)) g in
    record { rises = omega (arith, here.0, rest.rises); within = rest.within; indices = (here.0, omega (arith, rest.rises), rest.indices) }
lies_by_first asks at end xs (Err d) h more g = cc

pub match_lies : (asks : List (Item → match_t)) (at end : ℕ) (xs : List Item) → at ≤ length xs → sequence_end asks at xs ≡ Ok end → LiesWithin at end (length xs) (indices asks at xs)
match_lies [] at end xs le e = let same : at ≡ end = cc in record { rises = omega (arith, same); within = omega (arith, same, le); indices = tt }
match_lies (ask ∷ asks) at end xs le e =
    lies_by_first asks at end xs (nearest_from ask at xs) (λ i h. (search_rises ask at i (drop at xs) h, search_from_within ask at i xs le h)) (λ i next g. match_lies asks (i + 1) end xs next g) e
