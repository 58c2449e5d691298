-- The end of shaping a text and its fragments: from fragments to what is shown.
use Rattle.std.proofs.Common.{ℕ, ◌≡◌, ◌≤◌, ◌<◌, ◌⊎◌, inl, inr, Bool, true, false, List, [], ◌∷◌, ◌++◌, length, map, arith, refl, sym, ap, subst, ◌∙◌}
use Rattle.std.proofs.lemmas.List.{map-append}
use Rattle.buffer_common.specs.declared.direction.Direction.{Direction}
use Rattle.buffer_glyphs.specs.Items.{Item, item_masked}
use Rattle.buffer_glyphs.specs.Origins.{Asks, Origin, numbers, origins_spread}
use Rattle.buffer_glyphs.specs.Order.{IsChain, IsInOrder}
use Rattle.buffer_glyphs.specs.Events.{Spread}
use Rattle.buffer_glyphs.specs.Lemmas.EventParts.{origins_keep_numbers}
use Rattle.buffer_glyphs.specs.Lemmas.Merges.{chain_across}
use Rattle.buffer_glyphs.specs.Lemmas.Numbers.{Has, has_here}
use Rattle.buffer_parts.specs.Lemmas.Counts.{counts_follow}
use Rattle.buffer_core.specs.Readings.{BufferState}
use Rattle.buffer_parts.specs.Breaks.Concat.{SameButConcat}
use Rattle.buffer_parts.specs.Breaks.Divisible.{StaysDivided}
use Rattle.buffer_parts.specs.Breaks.Fragments.{AreFragments, as_they_stand, with_ligature_renamed}
use Rattle.buffer_parts.specs.Breaks.Sides.{AreCutAt}
use Rattle.buffer_parts.specs.Breaks.Unsafe.{HaveNoTatweel, has_flagged_of}
use Rattle.buffer_parts.proofs.BreakLemmas.Concat.{concat_is_apart, same_numbers}
use Rattle.buffer_parts.proofs.BreakLemmas.Divided.{whole_events_divide}
use Rattle.buffer_parts.proofs.BreakLemmas.Spread.{spread_shows_unsafe}
use Rattle.shape_glyphs.specs.Flags.{with_flags_spread}
use Rattle.shape_pipeline.specs.Limits.{final_view}
use Rattle.shape_laws.specs.Breaks.InLine.{MayBeCutAt, ShowsBoth, glyph_numbers}
use Rattle.shape_laws.proofs.BreakLemmas.PlainDivision.{state_by}
use Rattle.shape_laws.proofs.BreakLemmas.Ranged.{line_numbers as line_clusters}
use Rattle.shape_laws.proofs.BreakLemmas.Removed.{some_number as first_number}
use Rattle.buffer_stages.specs.Lemmas.Nested.{numbers_both}

-- ---- glyph numbers

masked_numbers : (xs : List Item) → glyph_numbers (map (item_masked 0) xs) ≡ glyph_numbers xs
masked_numbers [] = refl
masked_numbers (x ∷ xs) = ap (λ ns. x.number ∷ ns) (masked_numbers xs)

renamed_numbers : (f : ℕ → ℕ) (xs : List Item) → glyph_numbers (map (with_ligature_renamed f) xs) ≡ glyph_numbers xs
renamed_numbers f [] = refl
renamed_numbers f (x ∷ xs) = ap (λ ns. x.number ∷ ns) (renamed_numbers f xs)

line_numbers : (falls : Bool) (f g : ℕ → ℕ) (xs ys : List Item) → glyph_numbers (as_they_stand falls (map (with_ligature_renamed f) xs) (map (with_ligature_renamed g) ys)) ≡ as_they_stand falls (glyph_numbers xs) (glyph_numbers ys)
line_numbers false f g xs ys =
    map-append (λ (x : Item). x.number) (map (with_ligature_renamed f) xs) (map (with_ligature_renamed g) ys) ∙ ap (λ ns. ns ++ glyph_numbers (map (with_ligature_renamed g) ys)) (renamed_numbers f xs)
    ∙ ap (λ ns. glyph_numbers xs ++ ns) (renamed_numbers g ys)
line_numbers true f g xs ys =
    map-append (λ (x : Item). x.number) (map (with_ligature_renamed g) ys) (map (with_ligature_renamed f) xs) ∙ ap (λ ns. ns ++ glyph_numbers (map (with_ligature_renamed f) xs)) (renamed_numbers g ys)
    ∙ ap (λ ns. glyph_numbers ys ++ ns) (renamed_numbers f xs)

-- ---- flags spread over clusters

cut_of : (falls : Bool) (c : ℕ) (whole earlier later : BufferState) → AreFragments falls c whole earlier later → AreCutAt c earlier.origins later.origins
cut_of falls c whole earlier later j = inl (j.below, j.above)

spread_line : (falls : Bool) (c : ℕ) (whole earlier later : BufferState) → AreFragments falls c whole earlier later
    → origins_spread whole.asks (as_they_stand falls earlier.origins later.origins) ≡ as_they_stand falls (origins_spread whole.asks earlier.origins) (origins_spread whole.asks later.origins)
spread_line false c whole earlier later j = (whole_events_divide whole.asks whole.level earlier.origins later.origins c (inl (j.below, j.above))).spread
spread_line true c whole earlier later j = (whole_events_divide whole.asks whole.level later.origins earlier.origins c (inr (j.above, j.below))).spread

spread_alike : (falls : Bool) (c : ℕ) (whole earlier later : BufferState) → AreFragments falls c whole earlier later
    → SameButConcat (origins_spread whole.asks whole.origins) (as_they_stand falls (origins_spread earlier.asks earlier.origins) (origins_spread later.asks later.origins))
spread_alike falls c whole earlier later j =
    let line = as_they_stand falls earlier.origins later.origins in
    let both = concat_is_apart whole.asks whole.asks.concat whole.level (Spread ∷ []) whole.origins line j.origins in
    subst (λ (qs : List Origin). SameButConcat (origins_spread whole.asks whole.origins) qs)
    (spread_line falls c whole earlier later j
    ∙ ap (λ (asks : Asks). as_they_stand falls (origins_spread asks earlier.origins) (origins_spread whole.asks later.origins)) (sym j.early_of.requests)
    ∙ ap (λ (asks : Asks). as_they_stand falls (origins_spread earlier.asks earlier.origins) (origins_spread asks later.origins)) (sym j.late_of.requests)) both

-- ---- what is shown at the end

-- the state at the end of shaping, of one whose flags aren't yet spread
abbrev pub end_state : Direction → BufferState → BufferState
end_state d s = state_by (final_view d) (state_by with_flags_spread s)

shown_of : (falls : Bool) (d d1 d2 : Direction) (c : ℕ) (whole earlier later : BufferState) → AreFragments falls c whole earlier later → ShowsBoth falls (end_state d whole) (end_state d1 earlier) (end_state d2 later)
shown_of falls d d1 d2 c whole earlier later j =
    let xs = earlier.view.items in
    let ys = later.view.items in
    let flags = spread_alike falls c whole earlier later j in
    record {
      glyphs = masked_numbers whole.view.items ∙ ap glyph_numbers j.items ∙ line_numbers falls j.early_name j.late_name xs ys ∙ ap (λ ns. as_they_stand falls ns (glyph_numbers ys)) (sym (masked_numbers xs))
          ∙ ap (λ ns. as_they_stand falls (glyph_numbers (map (item_masked 0) xs)) ns) (sym (masked_numbers ys));
      positions = j.positions;
      clusters = same_numbers (origins_spread whole.asks whole.origins) (as_they_stand falls (origins_spread earlier.asks earlier.origins) (origins_spread later.asks later.origins)) flags
          ∙ line_clusters falls (origins_spread earlier.asks earlier.origins) (origins_spread later.asks later.origins);
      flags = flags;
    }

-- ---- the order of clusters is that of the fragments

-- a state's glyphs have some cluster at the end, which it had before
ended_number : (s : BufferState) → 0 < length s.origins → (n : ℕ) × (Has (numbers (origins_spread s.asks s.origins)) n × Has (numbers s.origins) n)
ended_number s some =
    let many = counts_follow s.asks s.level (Spread ∷ []) s.origins in
    let first = first_number (origins_spread s.asks s.origins) (omega (arith, some, many)) in
    (first.0, (first.1, origins_keep_numbers s.asks s.level (Spread ∷ []) s.origins first.0 first.1))

same_order : (turned falls : Bool) (d d1 d2 : Direction) (c : ℕ) (whole earlier later : BufferState) → AreFragments turned c whole earlier later → IsInOrder falls (numbers (end_state d whole).origins) → turned ≡ falls
same_order false false d d1 d2 c whole earlier later j order = refl
same_order true true d d1 d2 c whole earlier later j order = refl
same_order true false d d1 d2 c whole earlier later j order =
    let early = ended_number earlier j.early_some in
    let late = ended_number later j.late_some in
    let low = j.below early.0 early.1.1 in
    let high = j.above late.0 late.1.1 in
    let clusters = (shown_of true d d1 d2 c whole earlier later j).clusters in
    let rises = chain_across (λ m n. m ≤ n) late.0 early.0 (numbers (origins_spread later.asks later.origins)) (numbers (origins_spread earlier.asks earlier.origins)) (subst (λ ns. IsChain (λ m n. m ≤ n) ns) clusters order) late.1.0 early.1.0 in
    absurd (omega (arith, low, high, rises))
same_order false true d d1 d2 c whole earlier later j order =
    let early = ended_number earlier j.early_some in
    let late = ended_number later j.late_some in
    let low = j.below early.0 early.1.1 in
    let high = j.above late.0 late.1.1 in
    let clusters = (shown_of false d d1 d2 c whole earlier later j).clusters in
    let falling = chain_across (λ m n. n ≤ m) early.0 late.0 (numbers (origins_spread earlier.asks earlier.origins)) (numbers (origins_spread later.asks later.origins)) (subst (λ ns. IsChain (λ m n. n ≤ m) ns) clusters order) early.1.0 late.1.0 in
    absurd (omega (arith, low, high, falling))

-- a text whose flags aren't yet spread: where its end may be cut, it shows both fragments
pub ends_show : (turned falls : Bool) (d d1 d2 : Direction) (c : ℕ) (whole earlier later : BufferState) → StaysDivided turned c whole earlier later → (whole.asks.tatweel ≡ true) ⊎ HaveNoTatweel whole.origins
    → MayBeCutAt c (end_state d whole) → IsInOrder falls (numbers (end_state d whole).origins) → ShowsBoth falls (end_state d whole) (end_state d1 earlier) (end_state d2 later)
ends_show turned falls d d1 d2 c whole earlier later (inl unsafe) tatweel cut order =
    let shown : has_flagged_of c (origins_spread whole.asks whole.origins) ≡ true = spread_shows_unsafe whole.asks whole.origins c tatweel unsafe cut.there in
    absurd (let both : true ≡ false = sym shown ∙ cut.safe in cc)
ends_show turned falls d d1 d2 c whole earlier later (inr j) tatweel cut order =
    subst (λ (b : Bool). ShowsBoth b (end_state d whole) (end_state d1 earlier) (end_state d2 later)) (same_order turned falls d d1 d2 c whole earlier later j order) (shown_of turned d d1 d2 c whole earlier later j)
