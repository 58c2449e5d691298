-- Normalizing keeps the parts of a text.
use Rattle.std.proofs.Common.{ℕ, zero, suc, ◌≡◌, ◌<◌, ◌+◌, ◌==◌, ◌||◌, ◌&&◌, inl, inr, Bool, true, false, if◌then◌else◌, nat_le, List, [], ◌∷◌, ◌++◌, length, map, Option, None, Some, Ok, Err, arith, refl, sym, ap, subst, ◌∙◌}
use Rattle.std.specs.Prelude.{is_some}
use Rattle.std.specs.List.{list_any}
use Rattle.std.proofs.lemmas.Bool.{cases_Bool, cond-true, cond-false}
use Rattle.std.proofs.lemmas.List.{length-append, length-map}
use Rattle.buffer_unicode_tables.specs.ClassOrder.{run_order}
use Rattle.buffer_unicode_tables.specs.Expansion.{Splits, with_second_piece}
use Rattle.buffer_glyphs.specs.declared.cause.ShapeCause.TheVariants.{TooLong}
use Rattle.buffer_glyphs.specs.Events.{StaysInSpans}
use Rattle.buffer_glyphs.specs.Items.{Item}
use Rattle.buffer_glyphs.specs.Rewriting.{Arrangement, and_arranged, eventless_arrangement, replacement}
use Rattle.buffer_lists.proofs.Lemmas.OrderSpans.{order_stays}
use Rattle.buffer_parts.specs.Keeping.{AreKept}
use Rattle.buffer_parts.specs.Turns.{IsUnturned}
use Rattle.buffer_parts.specs.Lemmas.Keeping.{kept_in_turn, plain_is_kept}
use Rattle.buffer_parts.specs.Lemmas.Turns.{unturned_in_turn}
use Rattle.buffer_core.specs.Readings.{View, Read, Reading}
use Rattle.buffer_stages.specs.Appending.{with_arranged}
use Rattle.buffer_stages.specs.Lemmas.Sorted.{key_order_size}
use Rattle.buffer_parts.specs.Lemmas.Stages.{at_read}
use Rattle.buffer_properties.specs.Characters.{is_mark, is_selector, mark_class, unjoined_selector, with_glyph}
use Rattle.buffer_properties.specs.Expanding.{expanded_group, expanded_groups, expanded_item, expanded_list, expanded_with_marks, item_expansion, items_for, meets_selector, pending_item, piece_of, selection, selections_after, unexpanded_item, with_own_glyph}
use Rattle.buffer_properties.specs.NormalizedList.{arranged_marks, composition_if, has_later_mark, normalized_items, ordering_if}
use Rattle.buffer_properties.specs.Normalizer.{Normalizer, has_character, is_composing, reach_alone, reach_with_marks}
use Rattle.buffer_properties.specs.Ordering.{arranged_run, arranged_runs, joiners_shown, ordered_list, sorted_order, sorted_run, with_joiners_shown}
use Rattle.buffer_properties.specs.declared.normal_mode.TheConstants.{MAX_COMBINING_MARKS}
use Rattle.buffer_properties.specs.SupportedExpansion.{alone, by_supported, expansion, in_pieces, supported_expansion}
use Rattle.buffer_properties.specs.declared.normal_mode.Reach.{Reach}
use Rattle.buffer_properties.specs.declared.normal_mode.Reach.TheVariants.{Least, Greatest}
use Rattle.buffer_properties.proofs.Kept.{alone_is, mapped_is, preferred_is}
use Rattle.script_plan.specs.Rules.{IsArrangedInLine}
use Rattle.shape_normalize.proofs.Sorted.{sorted_order_is}
use Rattle.shape_parts.specs.StageLaws.{NormalizingStaysInLine}
use Rattle.shape_parts.proofs.Arranged.{CoverWithin, IsPlainWithin, cover_as, cover_both, cover_first, cover_in_turn, cover_one, eventless_within, replacement_within, within_kept}
use Rattle.shape_parts.proofs.Composed.{ArrangesInLine, composed_stays, eventless_in_line}

-- ---- an expansion has a character

pub some_pieces : (b : ℕ) (us : List ℕ) → 0 < length us → 0 < length (with_second_piece b us)
some_pieces b us some = by_test (b == 0)
  where
    by_test : (t : Bool) → 0 < length (if t then us else us ++ b ∷ [])
    by_test true = some
    by_test false = let e = length-append us (b ∷ []) in omega (arith, e)

pub supported_some : (has : ℕ → Bool) (expand : ℕ → Option (List ℕ)) (o : Option (ℕ × ℕ)) (us : List ℕ) → ((a : ℕ) (vs : List ℕ) → expand a ≡ Some vs → 0 < length vs) → by_supported has expand o ≡ Some us → 0 < length us
supported_some has expand None us h e = absurd (let none : None ≡ Some us = e in cc)
supported_some has expand (Some (a, b)) us h e =
    elim (cases_Bool (b == 0 || has b)) [
      | inl found ↦
          let at = mapped_is (with_second_piece b) (expand a) us (sym (cond-true _ _ _ found) ∙ e) in
          subst (λ (zs : List ℕ). 0 < length zs) at.1.1 (some_pieces b at.0 (h a at.0 at.1.0))
      | inr lacks ↦ absurd (let none : None ≡ Some us = sym (cond-false _ _ _ lacks) ∙ e in cc)
    ]

pub expansion_some : (reach : Reach) (has : ℕ → Bool) (splits : Splits) (depth u : ℕ) (us : List ℕ) → supported_expansion reach has splits depth u ≡ Some us → 0 < length us
unfolding supported_expansion
expansion_some reach has splits zero u us e = subst (λ (zs : List ℕ). 0 < length zs) (alone_is has u us e) (omega arith)
expansion_some reach has splits (suc depth) u us e =
    elim (preferred_is reach (alone has u) (by_supported has (supported_expansion reach has splits depth) (splits u)) us e) [
      | inl whole ↦ subst (λ (zs : List ℕ). 0 < length zs) (alone_is has u us whole) (omega arith)
      | inr parts ↦ supported_some has (supported_expansion reach has splits depth) (splits u) us (λ a vs k. expansion_some reach has splits depth a vs k) parts
    ]

pub pieces_some : (reach : Reach) (has : ℕ → Bool) (splits : Splits) (u : ℕ) (us : List ℕ) → in_pieces reach has splits u ≡ Some us → 0 < length us
unfolding in_pieces
pieces_some reach has splits u us e = supported_some has (supported_expansion reach has splits 8) (splits u) us (λ a vs k. expansion_some reach has splits 8 a vs k) e

pub found_some : (reach : Reach) (has : ℕ → Bool) (splits : Splits) (u : ℕ) (us : List ℕ) → expansion reach has splits u ≡ Some us → 0 < length us
found_some Greatest has splits u us e = pieces_some Greatest has splits u us e
found_some Least has splits u us e = by_test (has u) e
  where
    by_test : (b : Bool) → (if b then None else in_pieces Least has splits u) ≡ Some us → 0 < length us
    by_test true f = absurd (let none : None ≡ Some us = f in cc)
    by_test false f = pieces_some Least has splits u us f

pub item_some : (c : Normalizer) (reach : Reach) (x : Item) → 0 < length (expanded_item c reach x)
unfolding expanded_item
item_some c reach x = by_found (expansion reach (has_character c) c.splits x.number) refl
  where
    by_found : (o : Option (List ℕ)) → expansion reach (has_character c) c.splits x.number ≡ o → 0 < length (items_for c x o)
    by_found None e = omega arith
    by_found (Some us) e = let some = found_some reach (has_character c) c.splits x.number us e in let many = length-map us (piece_of c x) in omega (arith, some, many)

-- ---- a list expanded

expansion_within : (c : Normalizer) (reach : Reach) (x : Item) → IsPlainWithin 1 (item_expansion c reach x)
expansion_within c reach x = replacement_within 1 (expanded_item c reach x) (omega arith) (item_some c reach x)

unexpanded_within : (c : Normalizer) (x : Item) → IsPlainWithin 1 (unexpanded_item c x)
unexpanded_within c x = eventless_within (with_own_glyph c x ∷ [])

-- how many items are pending
abbrev pending : Option Item → ℕ
pending None = 0
pending (Some x) = 1

pending_covers : (c : Normalizer) (before : Option Item) → CoverWithin (pending before) (pending_item c before)
pending_covers c None = refl
pending_covers c (Some x) = cover_one 1 (unexpanded_item c x) (unexpanded_within c x)

selection_covers : (c : Normalizer) (x s : Item) (o : Option ℕ) → CoverWithin 2 (selection c x s o)
selection_covers c x s None =
    let t = unjoined_selector (is_some c.unjoined_glyph) s in
    cover_first 1 1 (unexpanded_item c x) (unexpanded_item c t ∷ []) (unexpanded_within c x) (cover_one 1 (unexpanded_item c t) (unexpanded_within c t))
selection_covers c x s (Some g) = cover_one 2 (replacement 2 (with_glyph g x ∷ [])) (replacement_within 2 (with_glyph g x ∷ []) (omega arith) (omega arith))

meets_covers : (c : Normalizer) (before : Option Item) (s : Item) → CoverWithin (pending before + 1) (meets_selector c before s)
meets_covers c None s = cover_one 1 (unexpanded_item c s) (unexpanded_within c s)
meets_covers c (Some x) s = selection_covers c x s (c.variant_of x.number s.number)

selections_cover : (c : Normalizer) (before : Option Item) (xs : List Item) → CoverWithin (pending before + length xs) (selections_after c before xs)
selections_cover c before [] = cover_as (pending before) (pending before + 0) (pending_item c before) (omega arith) (pending_covers c before)
selections_cover c before (x ∷ xs) = by_test (is_selector x) (selections_cover c None xs) (selections_cover c (Some x) xs)
  where
    by_test : (b : Bool) → CoverWithin (0 + length xs) (selections_after c None xs) → CoverWithin (1 + length xs) (selections_after c (Some x) xs)
        → CoverWithin (pending before + length (x ∷ xs)) (if b then meets_selector c before x ++ selections_after c None xs else pending_item c before ++ selections_after c (Some x) xs)
    by_test true none some = cover_as (pending before + 1 + (0 + length xs)) (pending before + length (x ∷ xs)) (meets_selector c before x ++ selections_after c None xs) (omega arith) (cover_both (pending before + 1) (0 + length xs) (meets_selector c before x) (selections_after c None xs) (meets_covers c before x) none)
    by_test false none some = cover_as (pending before + (1 + length xs)) (pending before + length (x ∷ xs)) (pending_item c before ++ selections_after c (Some x) xs) (omega arith) (cover_both (pending before) (1 + length xs) (pending_item c before) (selections_after c (Some x) xs) (pending_covers c before) some)

each_covers : (c : Normalizer) (reach : Reach) (xs : List Item) → CoverWithin (length xs) (map (item_expansion c reach) xs)
each_covers c reach [] = refl
each_covers c reach (x ∷ xs) = cover_as (1 + length xs) (length (x ∷ xs)) (map (item_expansion c reach) (x ∷ xs)) (omega arith) (cover_first 1 (length xs) (item_expansion c reach x) (map (item_expansion c reach) xs) (expansion_within c reach x) (each_covers c reach xs))

marks_cover : (c : Normalizer) (x : Item) (marks : List Item) → CoverWithin (1 + length marks) (expanded_with_marks c x marks)
marks_cover c x marks = by_test (list_any is_selector (x ∷ marks))
  where
    by_test : (b : Bool) → CoverWithin (1 + length marks) (if b then selections_after c (Some x) marks else map (item_expansion c (reach_with_marks c.mode)) (x ∷ marks))
    by_test true = selections_cover c (Some x) marks
    by_test false = cover_as (length (x ∷ marks)) (1 + length marks) (map (item_expansion c (reach_with_marks c.mode)) (x ∷ marks)) (omega arith) (each_covers c (reach_with_marks c.mode) (x ∷ marks))

group_covers : (c : Normalizer) (x : Item) (marks : List Item) → CoverWithin (1 + length marks) (expanded_group c x marks)
group_covers c x [] = cover_one 1 (item_expansion c (reach_alone c.mode) x) (expansion_within c (reach_alone c.mode) x)
group_covers c x (m ∷ marks) = marks_cover c x (m ∷ marks)

groups_cover : (c : Normalizer) (x : Item) (marks xs : List Item) → CoverWithin (1 + length marks + length xs) (expanded_groups c x marks xs)
groups_cover c x marks [] = cover_as (1 + length marks) (1 + length marks + 0) (expanded_group c x marks) (omega arith) (group_covers c x marks)
groups_cover c x marks (y ∷ ys) = by_test (is_mark y) (groups_cover c x (marks ++ y ∷ []) ys) (groups_cover c y [] ys)
  where
    by_test : (b : Bool) → CoverWithin (1 + length (marks ++ y ∷ []) + length ys) (expanded_groups c x (marks ++ y ∷ []) ys) → CoverWithin (1 + 0 + length ys) (expanded_groups c y [] ys)
        → CoverWithin (1 + length marks + length (y ∷ ys)) (if b then expanded_groups c x (marks ++ y ∷ []) ys else expanded_group c x marks ++ expanded_groups c y [] ys)
    by_test true longer next =
        let e = length-append marks (y ∷ []) in
        cover_as (1 + length (marks ++ y ∷ []) + length ys) (1 + length marks + length (y ∷ ys)) (expanded_groups c x (marks ++ y ∷ []) ys) (omega (arith, e)) longer
    by_test false longer next =
        cover_as (1 + length marks + (1 + 0 + length ys)) (1 + length marks + length (y ∷ ys)) (expanded_group c x marks ++ expanded_groups c y [] ys) (omega arith)
        (cover_both (1 + length marks) (1 + 0 + length ys) (expanded_group c x marks) (expanded_groups c y [] ys) (group_covers c x marks) next)

expanded_within : (c : Normalizer) (xs : List Item) → IsPlainWithin (length xs) (expanded_list c xs)
expanded_within c [] = eventless_within []
expanded_within c (x ∷ xs) = cover_in_turn (length (x ∷ xs)) (expanded_groups c x [] xs) (cover_as (1 + 0 + length xs) (length (x ∷ xs)) (expanded_groups c x [] xs) (omega arith) (groups_cover c x [] xs))

-- ---- runs of marks

-- a shaper arranges each run of marks in line, and keeps its count
abbrev pub ArrangesRuns : (List Item → Arrangement) → Type 0
ArrangesRuns reorders = ((run : List Item) → IsArrangedInLine run (reorders run)) × ((run : List Item) → length (reorders run).items ≡ length run)

order_many : (run : List Item) → length (run_order mark_class run) ≡ length run
unfolding run_order
order_many run = key_order_size mark_class run

spans_stay : (ks : List ℕ) → StaysInSpans (sorted_order ks)
spans_stay ks = subst StaysInSpans (sym (sorted_order_is ks)) (order_stays ks)

sorted_within : (reorders : List Item → Arrangement) (run : List Item) → ArrangesRuns reorders → IsPlainWithin (length run) (sorted_run reorders run)
sorted_within reorders run (arranged, counted) =
    let sorted = run_order mark_class run in
    let many = order_many run in
    let after = arranged sorted in
    let left = counted sorted in
    record {
      plain = (spans_stay (map mark_class run), after.plain);
      unturned = after.unturned;
      giving = after.giving;
      counted = λ from n le. after.counted from n (omega (arith, many, le)) ∙ omega (arith, many, left, le);
    }

run_within : (reorders : List Item → Arrangement) (run : List Item) → ArrangesRuns reorders → IsPlainWithin (length run) (arranged_run reorders run)
unfolding arranged_run
run_within reorders [] h = eventless_within []
run_within reorders (x ∷ xs) h =
    elim (nat_le (length (x ∷ xs)) MAX_COMBINING_MARKS) as (λ b. IsPlainWithin (length (x ∷ xs)) (if b then sorted_run reorders (x ∷ xs) else eventless_arrangement (x ∷ xs)))
    [ true ↦ sorted_within reorders (x ∷ xs) h | false ↦ eventless_within (x ∷ xs) ]

runs_cover : (reorders : List Item → Arrangement) (run xs : List Item) → ArrangesRuns reorders → CoverWithin (length run + length xs) (arranged_runs reorders run xs)
runs_cover reorders run [] h = cover_as (length run) (length run + 0) (arranged_run reorders run ∷ []) (omega arith) (cover_one (length run) (arranged_run reorders run) (run_within reorders run h))
runs_cover reorders run (x ∷ xs) h = by_test (mark_class x == 0) (runs_cover reorders [] xs h) (runs_cover reorders (run ++ x ∷ []) xs h)
  where
    by_test : (b : Bool) → CoverWithin (0 + length xs) (arranged_runs reorders [] xs) → CoverWithin (length (run ++ x ∷ []) + length xs) (arranged_runs reorders (run ++ x ∷ []) xs)
        → CoverWithin (length run + length (x ∷ xs)) (if b then arranged_run reorders run ∷ eventless_arrangement (x ∷ []) ∷ arranged_runs reorders [] xs else arranged_runs reorders (run ++ x ∷ []) xs)
    by_test true next longer =
        cover_as (length run + (1 + (0 + length xs))) (length run + length (x ∷ xs)) (arranged_run reorders run ∷ eventless_arrangement (x ∷ []) ∷ arranged_runs reorders [] xs) (omega arith)
        (cover_first (length run) (1 + (0 + length xs)) (arranged_run reorders run) (eventless_arrangement (x ∷ []) ∷ arranged_runs reorders [] xs) (run_within reorders run h)
        (cover_first 1 (0 + length xs) (eventless_arrangement (x ∷ [])) (arranged_runs reorders [] xs) (eventless_within (x ∷ [])) next))
    by_test false next longer =
        let e = length-append run (x ∷ []) in
        cover_as (length (run ++ x ∷ []) + length xs) (length run + length (x ∷ xs)) (arranged_runs reorders (run ++ x ∷ []) xs) (omega (arith, e)) longer

ordered_within : (reorders : List Item → Arrangement) (xs : List Item) → ArrangesRuns reorders → IsPlainWithin (length xs) (ordered_list reorders xs)
ordered_within reorders xs h = cover_in_turn (length xs) (arranged_runs reorders [] xs) (cover_as (0 + length xs) (length xs) (arranged_runs reorders [] xs) (omega arith) (runs_cover reorders [] xs h))

-- ---- the three rounds

within_in_line : (n : ℕ) (a : Arrangement) → IsPlainWithin n a → ArrangesInLine n a
within_in_line n a p = record { kept = λ level. let k = within_kept n a p in plain_is_kept level a.events n (length a.items) k.plain k.giving k.counted; unturned = p.unturned }

arranged_in_turn : (n : ℕ) (a : Arrangement) (next : List Item → Arrangement) → ArrangesInLine n a → ArrangesInLine (length a.items) (next a.items) → ArrangesInLine n (and_arranged a next)
arranged_in_turn n a next p q = record {
  kept = λ level. kept_in_turn level a.events (next a.items).events n (length a.items) (length (next a.items).items) (p.kept level) (q.kept level);
  unturned = unturned_in_turn a.events (next a.items).events p.unturned q.unturned;
}

pub joiners_many : (before : Item) (xs : List Item) → length (with_joiners_shown before xs) ≡ length xs
joiners_many before [] = refl
joiners_many before (x ∷ []) = refl
joiners_many before (x ∷ y ∷ ys) = ap suc (joiners_many x (y ∷ ys))

pub shown_many : (xs : List Item) → length (joiners_shown xs) ≡ length xs
shown_many [] = refl
shown_many (x ∷ xs) = ap suc (joiners_many x xs)

ordering_stays : (b : Bool) (c : Normalizer) (xs : List Item) → ArrangesRuns c.reorders → ArrangesInLine (length xs) (ordering_if b c xs)
ordering_stays true c xs h = within_in_line (length xs) (ordered_list c.reorders xs) (ordered_within c.reorders xs h)
ordering_stays false c xs h = eventless_in_line (length xs) xs refl

composition_stays : (b : Bool) (c : Normalizer) (xs : List Item) → ArrangesInLine (length xs) (composition_if b c xs)
composition_stays true c xs = composed_stays c xs
composition_stays false c xs = eventless_in_line (length xs) xs refl

marks_stay : (b : Bool) (c : Normalizer) (xs : List Item) → ArrangesRuns c.reorders → ArrangesInLine (length xs) (arranged_marks b c xs)
unfolding arranged_marks
marks_stay b c xs h =
    let ys = (ordering_if b c xs).items in
    arranged_in_turn (length xs) (ordering_if b c xs) (λ zs. composition_if (b && is_composing c.mode) c (joiners_shown zs)) (ordering_stays b c xs h)
    (subst (λ (n : ℕ). ArrangesInLine n (composition_if (b && is_composing c.mode) c (joiners_shown ys))) (shown_many ys) (composition_stays (b && is_composing c.mode) c (joiners_shown ys)))

normalized_stays : (c : Normalizer) (xs : List Item) → ArrangesRuns c.reorders → ArrangesInLine (length xs) (normalized_items c xs)
unfolding normalized_items
normalized_stays c xs h =
    arranged_in_turn (length xs) (expanded_list c xs) (arranged_marks (has_later_mark xs) c) (within_in_line (length xs) (expanded_list c xs) (expanded_within c xs)) (marks_stay (has_later_mark xs) c (expanded_list c xs).items h)

-- ---- the stage

-- what is read where a test holds
limited : (P : Read → Type 0) (b : Bool) (s r : Read) → P s → ◌≡◌ {A = Reading} (if b then Ok s else Err TooLong) (Ok r) → P r
limited P true s r p e = at_read P s r e p
limited P false s r p e = cc

-- the expanded list may have so many items
abbrev fits : Normalizer → View → Bool
fits c v = nat_le (length (expanded_list c v.items).items) v.max_len

pub normalizing_stays : NormalizingStaysInLine
normalizing_stays c arranged counted = record {
  kept = record {
    parts = λ v r level e. limited (λ q. AreKept level (q.events level) (length v.items) (length q.view.items)) (fits c v) (with_arranged (normalized_items c v.items) v) r ((normalized_stays c v.items (arranged, counted)).kept level) e;
    unturned = λ v r level mono e. limited (λ q. IsUnturned (q.events level)) (fits c v) (with_arranged (normalized_items c v.items) v) r (normalized_stays c v.items (arranged, counted)).unturned e;
  };
  direction = λ v r e. limited (λ q. q.view.direction ≡ v.direction) (fits c v) (with_arranged (normalized_items c v.items) v) r refl e;
}
