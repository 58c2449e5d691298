-- Glyphs deleted from a text and from its fragments.
use Rattle.std.proofs.Common.{ℕ, ◌≡◌, ◌≢◌, ◌≤◌, ◌<◌, ◌+◌, ◌⊎◌, inl, inr, Bool, true, false, List, [], ◌∷◌, ◌++◌, length, map, arith, refl, sym, ap, subst, ◌∙◌}
use Rattle.std.proofs.lemmas.List.{length-map}
use Rattle.buffer_glyphs.specs.declared.level.BufferClusterLevel.{BufferClusterLevel}
use Rattle.buffer_glyphs.specs.Items.{Item, Position}
use Rattle.buffer_glyphs.specs.Origins.{Asks, Origin, numbers}
use Rattle.buffer_glyphs.specs.Order.{IsGiving, IsLeast, IsOrdered}
use Rattle.buffer_glyphs.specs.Merges.{least_number}
use Rattle.buffer_glyphs.specs.Events.{Event, IsPlain, origins_after}
use Rattle.buffer_glyphs.specs.EventParts.{parts_of}
use Rattle.buffer_glyphs.specs.Rewriting.{shifted_event}
use Rattle.buffer_glyphs.specs.Lemmas.EventParts.{origins_keep_numbers}
use Rattle.buffer_glyphs.specs.Lemmas.Merges.{least_number_is}
use Rattle.buffer_glyphs.specs.Lemmas.Numbers.{Has, has_either, has_here, has_left, has_right}
use Rattle.buffer_lists.specs.Events.{deletions_from}
use Rattle.buffer_lists.specs.Facts.{items_kept, positions_kept}
use Rattle.buffer_parts.specs.Counts.{count_after}
use Rattle.buffer_parts.specs.Orderly.{IsOrderly}
use Rattle.buffer_parts.specs.Lemmas.Counts.{counts_follow}
use Rattle.buffer_parts.specs.Lemmas.Least.{orderly_keep_least}
use Rattle.buffer_parts.specs.Lemmas.Orderly.{plain_is_orderly}
use Rattle.buffer_core.specs.Readings.{View, Read, BufferState, always, with_events}
use Rattle.buffer_parts.specs.Breaks.Beside.{IsReadAlone, IsReadBeside, events_as_they_stand}
use Rattle.buffer_parts.specs.Breaks.Concat.{SameButConcat, without_concats}
use Rattle.buffer_parts.specs.Breaks.Divisible.{IsBreakable, IsFreelyDivisible}
use Rattle.buffer_parts.specs.Breaks.Fragments.{AreFragments, as_they_stand, with_ligature_renamed}
use Rattle.buffer_parts.specs.Breaks.Lossless.{AreLossless}
use Rattle.buffer_parts.specs.Breaks.Sides.{AreBounded}
use Rattle.buffer_parts.specs.Breaks.Unsafe.{HaveSafeBreaks, IsUnsafeAt}
use Rattle.buffer_parts.proofs.BreakLemmas.Concat.{concat_is_apart, same_any, same_numbers}
use Rattle.buffer_parts.proofs.BreakLemmas.Divided.{both_change_alone}
use Rattle.shape_laws.proofs.BreakLemmas.Deletions.{SparesWord, deletions_both, deletions_bounded, deletions_give, deletions_lossless, deletions_no_concat, deletions_plain, deletions_renamed, deletions_shifted, kept_both, kept_given, kept_renamed, positions_both, positions_renamed}
use Rattle.shape_laws.proofs.BreakLemmas.PlainDivision.{IsPlainStage, beside_divides, state_by, plain_is_divisible}
use Rattle.shape_parts.proofs.Lines.{no_origins as none_there}
use Rattle.buffer_stages.specs.Lemmas.Nested.{numbers_both}
use Rattle.shape_parts.proofs.Glyphs.{deletions_count}
use Rattle.shape_glyphs.proofs.Ended.{same_length as positions_count}

-- the view without the glyphs that a test picks
abbrev pub view_without : (Item → Bool) → View → Read
view_without goes v = with_events (deletions_from goes 0 v.items) (record v { items = items_kept goes v.items; positions = positions_kept goes v.items v.positions })

count_is : (goes : Item → Bool) (xs : List Item) (n : ℕ) → n ≡ length xs → count_after (deletions_from goes 0 xs) n ≡ length (items_kept goes xs)
count_is goes xs n e = let count = deletions_count goes 0 xs n (omega (arith, e)) in omega (arith, count)

removed_is_plain : (goes : Item → Bool) → IsPlainStage (view_without goes)
removed_is_plain goes = record {
  plain = λ v level. deletions_plain goes 0 v.items;
  lossless = λ v level. deletions_lossless goes 0 v.items (length v.items);
  counted = λ v level. count_is goes v.items (length v.items) refl;
  positions = λ v e. positions_count goes v.items v.positions e;
}

-- ---- the list of both fragments

-- the events of two texts, one after the other
both_events : (goes : Item → Bool) → SparesWord goes → (f g : ℕ → ℕ) (xs ys : List Item) (m : ℕ) → m ≡ length xs
    → deletions_from goes 0 (map (with_ligature_renamed f) xs ++ map (with_ligature_renamed g) ys) ≡ deletions_from goes 0 xs ++ map (shifted_event (count_after (deletions_from goes 0 xs) m)) (deletions_from goes 0 ys)
both_events goes spares f g xs ys m e =
    let first = map (with_ligature_renamed f) xs in
    let second = map (with_ligature_renamed g) ys in
    let kept : 0 + length (items_kept goes first) ≡ count_after (deletions_from goes 0 xs) m + 0 =
    let many = ap length (kept_renamed goes spares f xs) ∙ length-map (items_kept goes xs) (with_ligature_renamed f) in let count = count_is goes xs m e in omega (arith, many, count) in
    deletions_both goes 0 first second ∙ ap (λ es. es ++ deletions_from goes (0 + length (items_kept goes first)) second) (deletions_renamed goes spares f 0 xs)
    ∙ ap (λ (i : ℕ). deletions_from goes 0 xs ++ deletions_from goes i second) kept
    ∙ ap (λ es. deletions_from goes 0 xs ++ es) (deletions_renamed goes spares g (count_after (deletions_from goes 0 xs) m + 0) ys ∙ sym (deletions_shifted goes (count_after (deletions_from goes 0 xs) m) 0 ys))

both_items : (goes : Item → Bool) → SparesWord goes → (f g : ℕ → ℕ) (xs ys : List Item)
    → items_kept goes (map (with_ligature_renamed f) xs ++ map (with_ligature_renamed g) ys) ≡ map (with_ligature_renamed f) (items_kept goes xs) ++ map (with_ligature_renamed g) (items_kept goes ys)
both_items goes spares f g xs ys =
    kept_both goes (map (with_ligature_renamed f) xs) (map (with_ligature_renamed g) ys) ∙ ap (λ zs. zs ++ items_kept goes (map (with_ligature_renamed g) ys)) (kept_renamed goes spares f xs)
    ∙ ap (λ zs. map (with_ligature_renamed f) (items_kept goes xs) ++ zs) (kept_renamed goes spares g ys)

both_positions : (goes : Item → Bool) → SparesWord goes → (f g : ℕ → ℕ) (xs ys : List Item) (ps qs : List Position) → length ps ≡ length xs
    → positions_kept goes (map (with_ligature_renamed f) xs ++ map (with_ligature_renamed g) ys) (ps ++ qs) ≡ positions_kept goes xs ps ++ positions_kept goes ys qs
both_positions goes spares f g xs ys ps qs e =
    positions_both goes (map (with_ligature_renamed f) xs) (map (with_ligature_renamed g) ys) ps qs (e ∙ sym (length-map xs (with_ligature_renamed f)))
    ∙ ap (λ zs. zs ++ positions_kept goes (map (with_ligature_renamed g) ys) qs) (positions_renamed goes spares f xs ps) ∙ ap (λ zs. positions_kept goes xs ps ++ zs) (positions_renamed goes spares g ys qs)

-- what is read of a text, of the fragments as they stand
record AreRemoved (goes : Item → Bool) (falls : Bool) (c : ℕ) (whole earlier later : BufferState) (j : AreFragments falls c whole earlier later) : Type 0 where
  events : deletions_from goes 0 whole.view.items ≡ events_as_they_stand false falls (deletions_from goes 0 earlier.view.items) (deletions_from goes 0 later.view.items) (length earlier.origins) (length later.origins)
  items : items_kept goes whole.view.items ≡ as_they_stand falls (map (with_ligature_renamed j.early_name) (items_kept goes earlier.view.items)) (map (with_ligature_renamed j.late_name) (items_kept goes later.view.items))
  positions : positions_kept goes whole.view.items whole.view.positions ≡ as_they_stand falls (positions_kept goes earlier.view.items earlier.view.positions) (positions_kept goes later.view.items later.view.positions)

are_removed : (goes : Item → Bool) → SparesWord goes → (falls : Bool) (c : ℕ) (whole earlier later : BufferState) (j : AreFragments falls c whole earlier later) → AreRemoved goes falls c whole earlier later j
are_removed goes spares false c whole earlier later j = record {
  events = ap (deletions_from goes 0) j.items ∙ both_events goes spares j.early_name j.late_name earlier.view.items later.view.items (length earlier.origins) j.early_whole.origins;
  items = ap (items_kept goes) j.items ∙ both_items goes spares j.early_name j.late_name earlier.view.items later.view.items;
  positions = ap (λ zs. positions_kept goes zs whole.view.positions) j.items
      ∙ ap (positions_kept goes (map (with_ligature_renamed j.early_name) earlier.view.items ++ map (with_ligature_renamed j.late_name) later.view.items)) j.positions
      ∙ both_positions goes spares j.early_name j.late_name earlier.view.items later.view.items earlier.view.positions later.view.positions j.early_whole.positions;
}
are_removed goes spares true c whole earlier later j = record {
  events = ap (deletions_from goes 0) j.items ∙ both_events goes spares j.late_name j.early_name later.view.items earlier.view.items (length later.origins) j.late_whole.origins;
  items = ap (items_kept goes) j.items ∙ both_items goes spares j.late_name j.early_name later.view.items earlier.view.items;
  positions = ap (λ zs. positions_kept goes zs whole.view.positions) j.items
      ∙ ap (positions_kept goes (map (with_ligature_renamed j.late_name) later.view.items ++ map (with_ligature_renamed j.early_name) earlier.view.items)) j.positions
      ∙ both_positions goes spares j.late_name j.early_name later.view.items earlier.view.items later.view.positions earlier.view.positions j.late_whole.positions;
}

-- the events of both fragments, without those that set UNSAFE_TO_CONCAT: none does
no_concats_line : (goes : Item → Bool) (falls : Bool) (xs ys : List Item) (m n : ℕ)
    → events_as_they_stand false falls (deletions_from goes 0 xs) (deletions_from goes 0 ys) m n
    ≡ events_as_they_stand false falls (without_concats (deletions_from goes 0 xs)) (without_concats (deletions_from goes 0 ys)) m n
no_concats_line goes falls xs ys m n =
    ap (λ es. events_as_they_stand false falls es (deletions_from goes 0 ys) m n) (sym (deletions_no_concat goes 0 xs))
    ∙ ap (λ es. events_as_they_stand false falls (without_concats (deletions_from goes 0 xs)) es m n) (sym (deletions_no_concat goes 0 ys))

removed_alone : (goes : Item → Bool) (level : BufferClusterLevel) (s : BufferState) (n : ℕ) → n ≡ length s.view.items → length s.view.positions ≡ length s.view.items → 0 < length (items_kept goes s.view.items) → IsReadAlone level n (view_without goes s.view)
removed_alone goes level s n e p some = record {
  bounded = subst (λ es. AreBounded es n) (sym (deletions_no_concat goes 0 s.view.items)) (deletions_bounded goes 0 s.view.items n (omega (arith, e)));
  positions = positions_count goes s.view.items s.view.positions p;
  counted = count_is goes s.view.items n e;
  some = some;
}

removed_beside : (goes : Item → Bool) → SparesWord goes → (falls : Bool) (c : ℕ) (whole earlier later : BufferState) → AreFragments falls c whole earlier later → 0 < length (items_kept goes earlier.view.items) → 0 < length (items_kept goes later.view.items)
    → IsReadBeside false falls whole.level (length earlier.origins) (length later.origins) (view_without goes whole.view) (view_without goes earlier.view) (view_without goes later.view)
removed_beside goes spares falls c whole earlier later j early_some late_some =
    let line = are_removed goes spares falls c whole earlier later j in
    record {
      early_name = j.early_name;
      late_name = j.late_name;
      names = record {
        early = j.names.early;
        late = j.names.late;
        apart = j.names.apart;
        early_given = kept_given goes earlier.view.lig_id earlier.view.items j.names.early_given;
        late_given = kept_given goes later.view.lig_id later.view.items j.names.late_given;
      };
      items = line.items;
      positions = line.positions;
      events = deletions_no_concat goes 0 whole.view.items ∙ line.events ∙ no_concats_line goes falls earlier.view.items later.view.items (length earlier.origins) (length later.origins);
      early_direction = j.early_of.direction;
      late_direction = j.late_of.direction;
      early = removed_alone goes whole.level earlier (length earlier.origins) j.early_whole.origins j.early_whole.positions early_some;
      late = removed_alone goes whole.level later (length later.origins) j.late_whole.origins j.late_whole.positions late_some;
    }

-- ---- a fragment of which nothing is left

-- events of both fragments, as they stand, do to each alone what they do to it, or make it unsafe to break
line_changes : (falls : Bool) (asks : Asks) (level : BufferClusterLevel) (es fs : List Event) (os qs : List Origin) (c : ℕ) → HaveSafeBreaks asks level (as_they_stand falls os qs)
    → IsOrderly asks level (events_as_they_stand false falls es fs (length os) (length qs)) (as_they_stand falls os qs)
    → AreLossless (events_as_they_stand false falls es fs (length os) (length qs)) (length (as_they_stand falls os qs))
    → AreBounded es (length os) → AreBounded fs (length qs) → ((n : ℕ) → Has (numbers os) n → n < c) → ((n : ℕ) → Has (numbers qs) n → c ≤ n)
    → IsUnsafeAt c (origins_after asks level (events_as_they_stand false falls es fs (length os) (length qs)) (as_they_stand falls os qs))
    ⊎ (origins_after asks level (events_as_they_stand false falls es fs (length os) (length qs)) (as_they_stand falls os qs) ≡ as_they_stand falls (origins_after asks level es os) (origins_after asks level fs qs))
line_changes false asks level es fs os qs c s h l v w below above = both_change_alone asks level es fs os qs c s h l v w (inl (below, above))
line_changes true asks level es fs os qs c s h l v w below above = both_change_alone asks level fs es qs os c s h l w v (inr (above, below))

-- the least cluster of a list that has one below c
least_below : (c : ℕ) (ns : List ℕ) (n : ℕ) → Has ns n → n < c → (m : ℕ) × ((m < c) × IsLeast m ns)
least_below c [] n h lt = cc
least_below c (k ∷ ns) n h lt =
    let is = least_number_is k ns in
    let low = is.below n h in
    (least_number (k ∷ ns), (omega (arith, low, lt), is))

pub some_number : (os : List Origin) → 0 < length os → (n : ℕ) × Has (numbers os) n
some_number [] some = absurd (omega (arith, some))
some_number (o ∷ os) some = (o.cluster, has_here o.cluster (numbers os))

has_none : (os : List Origin) (n : ℕ) → os ≡ [] → Has (numbers os) n → ⊥
has_none os n e h = let there : Has [] n = subst (λ (xs : List Origin). Has (numbers xs) n) e h in cc

-- in one of two lists, as they stand
line_cases : (falls : Bool) (os qs : List Origin) (n : ℕ) → Has (numbers (as_they_stand falls os qs)) n → Has (numbers os) n ⊎ Has (numbers qs) n
line_cases falls os qs n h = by_order falls (subst (λ (ns : List ℕ). Has ns n) (line_numbers falls os qs) h)
  where
    line_numbers : (falls : Bool) (os qs : List Origin) → numbers (as_they_stand falls os qs) ≡ as_they_stand falls (numbers os) (numbers qs)
    line_numbers false os qs = numbers_both os qs
    line_numbers true os qs = numbers_both qs os

    by_order : (falls : Bool) → Has (as_they_stand falls (numbers os) (numbers qs)) n → Has (numbers os) n ⊎ Has (numbers qs) n
    by_order false h = has_either n (numbers os) (numbers qs) h
    by_order true h = elim (has_either n (numbers qs) (numbers os) h) [ inl late ↦ inr late | inr early ↦ inl early ]

in_first : (falls : Bool) (os qs : List Origin) (n : ℕ) → Has (numbers os) n → Has (numbers (as_they_stand falls os qs)) n
in_first false os qs n h = subst (λ (ns : List ℕ). Has ns n) (sym (numbers_both os qs)) (has_left n (numbers os) (numbers qs) h)
in_first true os qs n h = subst (λ (ns : List ℕ). Has ns n) (sym (numbers_both qs os)) (has_right n (numbers qs) (numbers os) h)

-- the least cluster stays
still_least : (asks : Asks) (level : BufferClusterLevel) (es : List Event) (os : List Origin) (m : ℕ) → HaveSafeBreaks asks level os → IsOrderly asks level es os → IsGiving (parts_of level es) (numbers os) → IsLeast m (numbers os)
    → origins_after asks level es os ≢ [] → IsLeast m (numbers (origins_after asks level es os))
still_least asks level es os m safe orderly giving least some = elim safe.ordered [
  | inl rises ↦ orderly_keep_least asks level es false os m safe.monotone orderly giving rises least some
  | inr falls ↦ orderly_keep_least asks level es true os m safe.monotone orderly giving falls least some
]

emptied : (goes : Item → Bool) → SparesWord goes → (falls : Bool) (c : ℕ) (whole earlier later : BufferState) → IsBreakable whole → AreFragments falls c whole earlier later
    → (length (items_kept goes earlier.view.items) ≡ 0) ⊎ (length (items_kept goes later.view.items) ≡ 0) → IsUnsafeAt c (state_by (view_without goes) whole).origins
emptied goes spares falls c whole earlier later ready j none = elim changes [
  | inl unsafe ↦ λ h. same_any c old new same ∙ unsafe (subst (λ (ns : List ℕ). Has ns c) (same_numbers old new same) h)
  | inr alone ↦ λ h. absurd (alone_without alone none (subst (λ (ns : List ℕ). Has ns c) (same_numbers old new same) h))
]
  where
    asks : Asks
    asks = whole.asks

    level : BufferClusterLevel
    level = whole.level

    es : List Event
    es = deletions_from goes 0 earlier.view.items

    fs : List Event
    fs = deletions_from goes 0 later.view.items

    os : List Origin
    os = earlier.origins

    qs : List Origin
    qs = later.origins

    line : List Origin
    line = as_they_stand falls os qs

    ds : List Event
    ds = events_as_they_stand false falls es fs (length os) (length qs)

    read : deletions_from goes 0 whole.view.items ≡ ds
    read = (are_removed goes spares falls c whole earlier later j).events

    old : List Origin
    old = origins_after asks level (deletions_from goes 0 whole.view.items) whole.origins

    new : List Origin
    new = origins_after asks level ds line

    same : SameButConcat old new
    same = subst (λ (xs : List Event). SameButConcat (origins_after asks level xs whole.origins) new) (sym read) (concat_is_apart asks asks.concat level ds whole.origins line j.origins)

    safe : HaveSafeBreaks asks level line
    safe = record { requested = ready.breaks.requested; monotone = ready.breaks.monotone; ordered = subst IsOrdered (same_numbers whole.origins line j.origins) ready.breaks.ordered }

    orderly : IsOrderly asks level ds line
    orderly = plain_is_orderly asks level ds line (subst IsPlain read (deletions_plain goes 0 whole.view.items))

    changes : IsUnsafeAt c new ⊎ (new ≡ as_they_stand falls (origins_after asks level es os) (origins_after asks level fs qs))
    changes = line_changes falls asks level es fs os qs c safe orderly (subst (λ (xs : List Event). AreLossless xs (length line)) read (deletions_lossless goes 0 whole.view.items (length line)))
        (deletions_bounded goes 0 earlier.view.items (length os) (let many = j.early_whole.origins in omega (arith, many))) (deletions_bounded goes 0 later.view.items (length qs) (let many = j.late_whole.origins in omega (arith, many))) j.below j.above

    left : (xs : List Item) (rs : List Origin) → length rs ≡ length xs → length (items_kept goes xs) ≡ 0 → origins_after asks level (deletions_from goes 0 xs) rs ≡ []
    left xs rs e f = none_there (origins_after asks level (deletions_from goes 0 xs) rs) (counts_follow asks level (deletions_from goes 0 xs) rs ∙ count_is goes xs (length rs) e ∙ f)

    alone_without : new ≡ as_they_stand falls (origins_after asks level es os) (origins_after asks level fs qs) → (length (items_kept goes earlier.view.items) ≡ 0) ⊎ (length (items_kept goes later.view.items) ≡ 0) → Has (numbers new) c → ⊥
    alone_without alone (inl early) h =
        let some = some_number os j.early_some in
        let low = j.below some.0 some.1 in
        let least = least_below c (numbers line) some.0 (in_first falls os qs some.0 some.1) low in
        let kept = still_least asks level ds line least.0 safe orderly (subst (λ (xs : List Event). IsGiving (parts_of level xs) (numbers line)) read (deletions_give goes level 0 whole.view.items (numbers line))) least.1.1 (λ nil. has_none new c nil h) in
        elim (line_cases falls (origins_after asks level es os) (origins_after asks level fs qs) least.0 (subst (λ (xs : List Origin). Has (numbers xs) least.0) alone kept.among)) [
          | inl there ↦ has_none (origins_after asks level es os) least.0 (left earlier.view.items os j.early_whole.origins early) there
          | inr there ↦ let high = j.above least.0 (origins_keep_numbers asks level fs qs least.0 there) in let below = least.1.0 in omega (arith, high, below)
        ]
    alone_without alone (inr late) h = elim (line_cases falls (origins_after asks level es os) (origins_after asks level fs qs) c (subst (λ (xs : List Origin). Has (numbers xs) c) alone h)) [
      | inl there ↦ let low = j.below c (origins_keep_numbers asks level es os c there) in omega (arith, low)
      | inr there ↦ has_none (origins_after asks level fs qs) c (left later.view.items qs j.late_whole.origins late) there
    ]

-- ---- the stage divides

removed_apart : (goes : Item → Bool) → SparesWord goes → (falls : Bool) (c : ℕ) (whole earlier later : BufferState) → IsBreakable whole → AreFragments falls c whole earlier later
    → IsUnsafeAt c (state_by (view_without goes) whole).origins ⊎ IsReadBeside false falls whole.level (length earlier.origins) (length later.origins) (view_without goes whole.view) (view_without goes earlier.view) (view_without goes later.view)
removed_apart goes spares falls c whole earlier later ready j = by_early (some_or_none (items_kept goes earlier.view.items)) (some_or_none (items_kept goes later.view.items))
  where
    some_or_none : (xs : List Item) → (length xs ≡ 0) ⊎ (0 < length xs)
    some_or_none [] = inl refl
    some_or_none (x ∷ xs) = inr (omega arith)

    by_early : (length (items_kept goes earlier.view.items) ≡ 0) ⊎ (0 < length (items_kept goes earlier.view.items)) → (length (items_kept goes later.view.items) ≡ 0) ⊎ (0 < length (items_kept goes later.view.items))
        → IsUnsafeAt c (state_by (view_without goes) whole).origins ⊎ IsReadBeside false falls whole.level (length earlier.origins) (length later.origins) (view_without goes whole.view) (view_without goes earlier.view) (view_without goes later.view)
    by_early (inl none) late = inl (emptied goes spares falls c whole earlier later ready j (inl none))
    by_early (inr some) (inl none) = inl (emptied goes spares falls c whole earlier later ready j (inr none))
    by_early (inr some) (inr more) = inr (removed_beside goes spares falls c whole earlier later j some more)

-- glyphs that a test picks, which doesn't read ligature words, are deleted from a text as from its fragments
pub removed_divides : (goes : Item → Bool) → SparesWord goes → (falls : Bool) → IsFreelyDivisible falls falls (always (view_without goes)) (always (view_without goes)) (always (view_without goes))
removed_divides goes spares falls =
    let f = view_without goes in
    let plain = removed_is_plain goes in
    plain_is_divisible falls falls f f f plain (λ c whole earlier later ready j. beside_divides false falls f f f plain c whole earlier later ready j (removed_apart goes spares falls c whole earlier later ready j))
