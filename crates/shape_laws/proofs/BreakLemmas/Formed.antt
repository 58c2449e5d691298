-- Clusters of graphemes of a text that is broken into two.
use Rattle.std.proofs.Common.{ℕ, suc, ◌≡◌, ◌<◌, ◌+◌, Bool, true, false, if◌then◌else◌, List, [], ◌∷◌, ◌++◌, length, map, arith, refl, sym, ap, subst, ◌∙◌}
use Rattle.std.proofs.lemmas.List.{length-map, length-append}
use Rattle.buffer_glyphs.specs.declared.level.BufferClusterLevel.{BufferClusterLevel}
use Rattle.buffer_glyphs.specs.Items.{Item}
use Rattle.buffer_glyphs.specs.Origins.{Origin}
use Rattle.buffer_glyphs.specs.Events.{origins_after}
use Rattle.buffer_glyphs.specs.Rewriting.{shifted_event}
use Rattle.buffer_parts.specs.Counts.{count_after}
use Rattle.buffer_parts.specs.Orderly.{IsOrderly}
use Rattle.buffer_parts.specs.Lemmas.Orderly.{plain_is_orderly}
use Rattle.buffer_parts.specs.Lemmas.Plainly.{steady_count, steady_plain}
use Rattle.buffer_core.specs.Graphemes.{continues}
use Rattle.buffer_core.specs.Readings.{View, Read, BufferState, state_after}
use Rattle.buffer_parts.specs.Breaks.Unsafe.{IsUnsafeAt}
use Rattle.buffer_parts.specs.Breaks.Concat.{without_concats}
use Rattle.buffer_parts.specs.Breaks.Sides.{AreBounded}
use Rattle.buffer_parts.specs.Breaks.Fragments.{AreFragments, IsWhole, with_ligature_renamed}
use Rattle.buffer_parts.specs.Breaks.Divisible.{IsBreakable, StaysDivided}
use Rattle.buffer_parts.specs.Breaks.Beside.{IsReadAlone, events_in_line}
use Rattle.buffer_parts.proofs.BreakLemmas.Beside.{beside_stays_divided, crossing_is_unsafe}
use Rattle.shape_text.specs.Clusters.{grapheme_event, grapheme_events, grapheme_lengths, has_non_ascii, with_clusters}
use Rattle.shape_laws.specs.Breaks.Texts.{IsKnown}
use Rattle.shape_laws.proofs.BreakLemmas.Groups.{ReachesPast, IsFree, groups_are_all, groups_reach_past, lengths_apart, lengths_mapped, total, total_both}
use Rattle.shape_laws.proofs.BreakLemmas.GraphemeEvents.{events_both, events_bounded, events_lossless, events_no_concats, events_shifted, grapheme_binds, single_events}
use Rattle.shape_parts.proofs.Characters.{graphemes_steady as events_steady}

-- two neighbours are in one grapheme
abbrev joins : Item → Item → Bool
joins x y = continues y

-- the view with a cluster for each grapheme, whatever the scratch flags say
abbrev with_graphemes : View → Read
with_graphemes v = record { view = v; events = λ level. grapheme_events level 0 (grapheme_lengths v.items) }

-- where graphemes are known, the scratch flags decide nothing
with_is_formed : (s : BufferState) → IsKnown s.view → state_after (with_clusters s.view) s ≡ state_after (with_graphemes s.view) s
with_is_formed s known = ap (λ (os : List Origin). record { view = s.view; origins = os; level = s.level; asks = s.asks }) (by_test (has_non_ascii s.view.scratch_flags) refl)
  where
    lens : List ℕ
    lens = grapheme_lengths s.view.items

    by_test : (b : Bool) → has_non_ascii s.view.scratch_flags ≡ b → origins_after s.asks s.level (if b then grapheme_events s.level 0 lens else []) s.origins ≡ origins_after s.asks s.level (grapheme_events s.level 0 lens) s.origins
    by_test true e = refl
    by_test false e = sym (single_events s.asks s.level 0 lens s.origins (known e))

formed_orderly : (s : BufferState) → IsOrderly s.asks s.level ((with_graphemes s.view).events s.level) s.origins
formed_orderly s = plain_is_orderly s.asks s.level (grapheme_events s.level 0 (grapheme_lengths s.view.items)) s.origins (steady_plain (grapheme_events s.level 0 (grapheme_lengths s.view.items)) (events_steady s.level 0 (grapheme_lengths s.view.items)))

formed_count : (level : BufferClusterLevel) (at : ℕ) (lens : List ℕ) (n : ℕ) → count_after (grapheme_events level at lens) n ≡ n
formed_count level at lens n = steady_count n (grapheme_events level at lens) (events_steady level at lens)

renamed_lengths : (name : ℕ → ℕ) (xs : List Item) → grapheme_lengths (map (with_ligature_renamed name) xs) ≡ grapheme_lengths xs
renamed_lengths name xs = lengths_mapped joins (with_ligature_renamed name) (λ a b. refl) xs

-- ---- apart

-- the first of some items begins a grapheme
abbrev pub BeginsGrapheme : List Item → Type 0
BeginsGrapheme [] = Unit {0}
BeginsGrapheme (y ∷ ys) = continues y ≡ false

free_of : (name : ℕ → ℕ) (ys : List Item) → BeginsGrapheme ys → IsFree joins (map (with_ligature_renamed name) ys)
free_of name [] b = tt
free_of name (y ∷ ys) b = λ x. b

lengths_in_line : (early_name late_name : ℕ → ℕ) (xs ys : List Item) → BeginsGrapheme ys → grapheme_lengths (map (with_ligature_renamed early_name) xs ++ map (with_ligature_renamed late_name) ys) ≡ grapheme_lengths xs ++ grapheme_lengths ys
lengths_in_line f g xs ys b =
    lengths_apart joins (map (with_ligature_renamed f) xs) (map (with_ligature_renamed g) ys) (free_of g ys b)
    ∙ ap (λ ls. ls ++ grapheme_lengths (map (with_ligature_renamed g) ys)) (renamed_lengths f xs) ∙ ap (λ ls. grapheme_lengths xs ++ ls) (renamed_lengths g ys)

-- the events of both texts' graphemes
events_in_both : (level : BufferClusterLevel) (ls ns : List ℕ) (m : ℕ) → total ls ≡ m
    → without_concats (grapheme_events level 0 (ls ++ ns)) ≡ events_in_line false (without_concats (grapheme_events level 0 ls)) (without_concats (grapheme_events level 0 ns)) m
events_in_both level ls ns m all =
    let start : m + 0 ≡ 0 + total ls = omega (arith, all) in
    events_no_concats level 0 (ls ++ ns)
    ∙ events_both level 0 ls ns
    ∙ ap (λ (i : ℕ). grapheme_events level 0 ls ++ grapheme_events level i ns) (sym start)
    ∙ ap (λ es. grapheme_events level 0 ls ++ es) (sym (events_shifted level m 0 ns))
    ∙ ap (λ (k : ℕ). grapheme_events level 0 ls ++ map (shifted_event k) (grapheme_events level 0 ns)) (sym (formed_count level 0 ls m))
    ∙ ap (λ es. es ++ map (shifted_event (count_after es m)) (grapheme_events level 0 ns)) (sym (events_no_concats level 0 ls))
    ∙ ap (λ fs. without_concats (grapheme_events level 0 ls) ++ map (shifted_event (count_after (without_concats (grapheme_events level 0 ls)) m)) fs) (sym (events_no_concats level 0 ns))

read_alone : (level : BufferClusterLevel) (s : BufferState) → IsWhole s → 0 < length s.origins → IsReadAlone level (length s.origins) (with_graphemes s.view)
read_alone level s whole some =
    let lens = grapheme_lengths s.view.items in
    let all = groups_are_all joins s.view.items in
    let many = whole.origins in
    record {
      bounded = subst (λ es. AreBounded es (length s.origins)) (sym (events_no_concats level 0 lens)) (events_bounded level 0 lens (length s.origins) (omega (arith, all, many)));
      positions = whole.positions;
      counted = formed_count level 0 lens (length s.origins) ∙ many;
      some = omega (arith, many, some);
    }

formed_divide : (c : ℕ) (whole earlier later : BufferState) → IsBreakable whole → AreFragments false c whole earlier later → BeginsGrapheme later.view.items
    → StaysDivided false c (state_after (with_graphemes whole.view) whole) (state_after (with_graphemes earlier.view) earlier) (state_after (with_graphemes later.view) later)
formed_divide c whole earlier later ready j begins =
    let level = whole.level in
    let xs = earlier.view.items in
    let ys = later.view.items in
    let all = groups_are_all joins xs in
    let many = j.early_whole.origins in
    beside_stays_divided false false c whole earlier later (with_graphemes whole.view) (with_graphemes earlier.view) (with_graphemes later.view) ready j (formed_orderly whole) (events_lossless level 0 (grapheme_lengths whole.view.items) (length whole.origins))
    (record {
      early_name = j.early_name;
      late_name = j.late_name;
      names = j.names;
      items = j.items;
      positions = j.positions;
      events = ap (λ zs. without_concats (grapheme_events level 0 (grapheme_lengths zs))) j.items
          ∙ ap (λ ls. without_concats (grapheme_events level 0 ls)) (lengths_in_line j.early_name j.late_name xs ys begins)
          ∙ events_in_both level (grapheme_lengths xs) (grapheme_lengths ys) (length earlier.origins) (omega (arith, all, many));
      early_direction = j.early_of.direction;
      late_direction = j.late_of.direction;
      early = read_alone level earlier j.early_whole j.early_some;
      late = read_alone level later j.late_whole j.late_some;
    })

-- clusters of graphemes divide a text of which the later fragment begins a grapheme
pub clusters_divide : (c : ℕ) (whole earlier later : BufferState) → IsBreakable whole → AreFragments false c whole earlier later → IsKnown whole.view → IsKnown earlier.view → IsKnown later.view → BeginsGrapheme later.view.items
    → StaysDivided false c (state_after (with_clusters whole.view) whole) (state_after (with_clusters earlier.view) earlier) (state_after (with_clusters later.view) later)
clusters_divide c whole earlier later ready j w e l begins =
    subst (λ (s : BufferState). StaysDivided false c s (state_after (with_clusters earlier.view) earlier) (state_after (with_clusters later.view) later)) (sym (with_is_formed whole w))
    (subst (λ (s : BufferState). StaysDivided false c (state_after (with_graphemes whole.view) whole) s (state_after (with_clusters later.view) later)) (sym (with_is_formed earlier e))
    (subst (λ (s : BufferState). StaysDivided false c (state_after (with_graphemes whole.view) whole) (state_after (with_graphemes earlier.view) earlier) s) (sym (with_is_formed later l)) (formed_divide c whole earlier later ready j begins)))

-- ---- across

-- the first of some items continues a grapheme
abbrev pub ContinuesGrapheme : List Item → Type 0
ContinuesGrapheme [] = ⊥
ContinuesGrapheme (y ∷ ys) = continues y ≡ true

reaches_past : (f g : ℕ → ℕ) (xs ys : List Item) → 0 < length xs → ContinuesGrapheme ys → ReachesPast (length xs) (grapheme_lengths (map (with_ligature_renamed f) xs ++ map (with_ligature_renamed g) ys))
reaches_past f g [] ys some across = absurd (omega (arith, some))
reaches_past f g (x ∷ xs) [] some across = absurd across
reaches_past f g (x ∷ xs) (y ∷ ys) some across =
    subst (λ (n : ℕ). ReachesPast (suc n) (grapheme_lengths (map (with_ligature_renamed f) (x ∷ xs) ++ map (with_ligature_renamed g) (y ∷ ys)))) (length-map xs (with_ligature_renamed f))
    (groups_reach_past joins (with_ligature_renamed f x) (map (with_ligature_renamed f) xs) (with_ligature_renamed g y) (map (with_ligature_renamed g) ys) (λ z. across))

formed_unsafe : (c : ℕ) (whole earlier later : BufferState) → IsBreakable whole → AreFragments false c whole earlier later → ContinuesGrapheme later.view.items → IsUnsafeAt c (state_after (with_graphemes whole.view) whole).origins
formed_unsafe c whole earlier later ready j across =
    let level = whole.level in
    let xs = earlier.view.items in
    let ys = later.view.items in
    let n = length earlier.origins in
    let early_many = j.early_whole.origins in
    let late_many = j.late_whole.origins in
    let some = j.early_some in
    let past = subst (λ zs. ReachesPast (length xs) (grapheme_lengths zs)) (sym j.items) (reaches_past j.early_name j.late_name xs ys (omega (arith, early_many, some)) across) in
    let es = grapheme_events level 0 past.before in
    let at = 0 + total past.before in
    let low = past.begins in
    let high = past.ends in
    let counted : count_after es n ≡ n = formed_count level 0 past.before n in
    let all : total (grapheme_lengths whole.view.items) ≡ length whole.view.items = groups_are_all joins whole.view.items in
    let cut : total (grapheme_lengths whole.view.items) ≡ total past.before + total (past.here ∷ past.after) = ap total past.is ∙ total_both past.before (past.here ∷ past.after) in
    let sum : length whole.view.items ≡ length (map (with_ligature_renamed j.early_name) xs) + length (map (with_ligature_renamed j.late_name) ys) = ap length j.items ∙ length-append (map (with_ligature_renamed j.early_name) xs) (map (with_ligature_renamed j.late_name) ys) in
    let first = length-map xs (with_ligature_renamed j.early_name) in
    let second = length-map ys (with_ligature_renamed j.late_name) in
    crossing_is_unsafe false c whole earlier later (with_graphemes whole.view) es (grapheme_events level (at + past.here) past.after) (grapheme_event level at (at + past.here)) (record { from = at; to = at + past.here }) ready j
    (formed_orderly whole) (events_lossless level 0 (grapheme_lengths whole.view.items) (length whole.origins))
    (events_no_concats level 0 (grapheme_lengths whole.view.items) ∙ ap (grapheme_events level 0) past.is ∙ events_both level 0 past.before (past.here ∷ past.after))
    (events_bounded level 0 past.before n (omega (arith, low, early_many)))
    (grapheme_binds whole.asks level at (at + past.here) ready.breaks.monotone)
    (omega (arith, counted, low, early_many)) (omega (arith, counted, high, early_many)) (omega (arith, counted, all, cut, sum, first, second, early_many, late_many))

-- clusters of graphemes make it unsafe to break a text of which the later fragment continues a grapheme
pub clusters_unsafe : (c : ℕ) (whole earlier later : BufferState) → IsBreakable whole → AreFragments false c whole earlier later → IsKnown whole.view → ContinuesGrapheme later.view.items → IsUnsafeAt c (state_after (with_clusters whole.view) whole).origins
clusters_unsafe c whole earlier later ready j known across = subst (λ (s : BufferState). IsUnsafeAt c s.origins) (sym (with_is_formed whole known)) (formed_unsafe c whole earlier later ready j across)
