-- Ranges that are bound across the start of a cluster make it unsafe to break there.
use Rattle.std.proofs.Common.{ℕ, ◌≡◌, ◌≢◌, ◌≤◌, ◌<◌, ◌+◌, ◌-◌, ◌==◌, inl, inr, Bool, true, false, max, if◌then◌else◌, List, [], ◌∷◌, ◌++◌, Option, Some, length, map, take, drop, arith, refl, ap, sym, subst, ◌∙◌}
use Rattle.std.specs.Prelude.{slice_range}
use Rattle.std.proofs.lemmas.List.{take-append-drop}
use Rattle.buffer_glyphs.specs.Levels.{Manner, Unites, Marks, Keeps, IsUniting, InList, manner, grapheme_manner}
use Rattle.buffer_glyphs.specs.Parts.{range_of, elements_replaced}
use Rattle.buffer_glyphs.specs.Order.{IsOrdered}
use Rattle.buffer_glyphs.specs.Merges.{least_number, merged_number}
use Rattle.buffer_glyphs.specs.Origins.{Origin, Span, numbers, flags_added, added_outside, origins_merged, origins_merged_as, origins_marked, is_unsafe}
use Rattle.buffer_glyphs.specs.Events.{Merge, MergeGrapheme, Replace, Circle, Delete, Move, Arrange, Sort, Reverse, Break, Concat, Tatweel, StrictBreak, Spread, Reset, tatweel_marked, strictly_marked}
use Rattle.buffer_glyphs.specs.Lemmas.Numbers.{Has, has_cases, has_either, has_left}
use Rattle.buffer_glyphs.specs.Lemmas.Origins.{slice_seen, numbers_merged, numbers_marked}
use Rattle.buffer_glyphs.specs.Lemmas.Merges.{least_number_is, merged_in, chain_right, chain_across}
use Rattle.buffer_parts.specs.Breaks.Unsafe.{is_unsafe_of, has_unsafe_of, IsUnsafeAt}
use Rattle.buffer_parts.specs.Breaks.Bound.{Crosses, merged_span, requested_span}
use Rattle.buffer_parts.specs.Breaks.Laws.{BoundIsUnsafe}
use Rattle.buffer_parts.proofs.BreakLemmas.Any.{any_here, any_more, any_left, any_right}
use Rattle.buffer_parts.proofs.BreakLemmas.Flags.{of_unsafe, unsafe_added}
use Rattle.buffer_parts.proofs.BreakLemmas.Merged.{merged_again, replaced_brings, replacing_stays, merged_ordered}
use Rattle.buffer_parts.proofs.BreakLemmas.Handed.{handed_there}
use Rattle.buffer_parts.proofs.BreakLemmas.Events.{arranged_stays, arranged_brings}
use Rattle.buffer_glyphs.specs.Lemmas.EventParts.{merged_brings}
use Rattle.buffer_stages.specs.Lemmas.Nested.{merged_length as length_merged}
use Rattle.buffer_facts.proofs.Numbers.{same_by_test as equal_test}

least_below : (ns : List ℕ) (n : ℕ) → Has ns n → least_number ns ≤ n
least_below [] n h = cc
least_below (m ∷ ms) n h = (least_number_is m ms).below n h

equal_has : (m n : ℕ) (ns : List ℕ) → m ≡ n → Has ns m → Has ns n
equal_has m n ns e h = subst (Has ns) e h

-- a number of a list in order that is between two of a range is in the range
between_has : (n c m : ℕ) (front range back : List ℕ) → IsOrdered (front ++ (range ++ back)) → Has range n → n < c → Has range m → c ≤ m → Has (front ++ (range ++ back)) c → Has range c
between_has n c m front range back (inl rises) hn lt hm le hc = elim (has_either c front (range ++ back) hc) [
  | inl before ↦ let up : c ≤ n = chain_across (λ x y. x ≤ y) c n front (range ++ back) rises before (has_left n range back hn) in absurd (omega (arith, up, lt))
  | inr later ↦ elim (has_either c range back later) [
    | inl among ↦ among
    | inr beyond ↦
        let up : m ≤ c = chain_across (λ x y. x ≤ y) m c range back (chain_right (λ x y. x ≤ y) front (range ++ back) rises) hm beyond in
        equal_has m c range (omega (arith, up, le)) hm
  ]
]
between_has n c m front range back (inr falls) hn lt hm le hc = elim (has_either c front (range ++ back) hc) [
  | inl before ↦
      let down : m ≤ c = chain_across (λ x y. y ≤ x) c m front (range ++ back) falls before (has_left m range back hm) in
      equal_has m c range (omega (arith, down, le)) hm
  | inr later ↦ elim (has_either c range back later) [
    | inl among ↦ among
    | inr beyond ↦ let up : c ≤ n = chain_across (λ x y. y ≤ x) n c range back (chain_right (λ x y. y ≤ x) front (range ++ back) falls) hn beyond in absurd (omega (arith, up, lt))
  ]
]

-- a cluster that is there, and whose start a range crosses, is in the range
crossed_has : (c from to : ℕ) (ns : List ℕ) → IsOrdered ns → Crosses c from to ns → Has ns c → Has (range_of from to ns) c
crossed_has c from to ns o x h =
    let rest = drop (to - from) (drop from ns) in
    let whole : take from ns ++ (range_of from to ns ++ rest) ≡ ns = ap (λ ms. take from ns ++ ms) (take-append-drop (to - from) (drop from ns)) ∙ take-append-drop from ns in
    between_has x.low c x.high (take from ns) (range_of from to ns) rest (subst IsOrdered (sym whole) o) x.has_low x.below x.has_high x.above (subst (λ (ms : List ℕ). Has ms c) (sym whole) h)

some_is : (r s : Span) → ◌≡◌ {A = Option Span} (Some r) (Some s) → r ≡ s
some_is r s e = cc

-- a range that is the one of an option
at_span : (r s : Span) (c : ℕ) (ns : List ℕ) → Some r ≡ Some s → Crosses c s.from s.to ns → Crosses c r.from r.to ns
at_span r s c ns e x = let same : r ≡ s = some_is r s e in subst (λ (q : Span). Crosses c q.from q.to ns) (sym same) x

-- ---- flagged ranges

marked_one : (c bits low : ℕ) (o : Origin) → is_unsafe bits ≡ true → c ≢ low → o.cluster ≡ c → is_unsafe_of c (added_outside bits low o) ≡ true
marked_one c bits low o some ne e = by_test (o.cluster == low) refl
  where
    by_test : (t : Bool) → (o.cluster == low) ≡ t → is_unsafe_of c (if t then o else flags_added bits o) ≡ true
    by_test true f = absurd (ne (sym e ∙ equal_test o.cluster low f))
    by_test false f = of_unsafe c (flags_added bits o) e (unsafe_added o.flags bits some)

marked_has : (c bits low : ℕ) (os : List Origin) → is_unsafe bits ≡ true → c ≢ low → Has (numbers os) c → has_unsafe_of c (map (added_outside bits low) os) ≡ true
marked_has c bits low [] some ne h = cc
marked_has c bits low (o ∷ os) some ne h = elim (has_cases o.cluster c (numbers os) h) [
  | inl e ↦ any_here (is_unsafe_of c) (added_outside bits low o) (map (added_outside bits low) os) (marked_one c bits low o some ne e)
  | inr later ↦ any_more (is_unsafe_of c) (added_outside bits low o) (map (added_outside bits low) os) (marked_has c bits low os some ne later)
]

marked_across : (bits from to c : ℕ) (os : List Origin) → is_unsafe bits ≡ true → IsOrdered (numbers os) → Crosses c from to (numbers os) → IsUnsafeAt c (origins_marked bits from to os)
marked_across bits from to c os some o x = λ there.
    let low = least_number (range_of from to (numbers os)) in
    let among = crossed_has c from to (numbers os) o x (subst (λ (ns : List ℕ). Has ns c) (numbers_marked bits from to os) there) in
    let under : low ≤ x.low = least_below (range_of from to (numbers os)) x.low x.has_low in
    let range = slice_range os from to in
    let seen : Has (numbers range) c = subst (λ (ns : List ℕ). Has ns c) (sym (slice_seen (λ (q : Origin). q.cluster) from to os)) among in
    let ne : c ≢ low = λ e. omega (arith, e, under, x.below) in
    any_left (is_unsafe_of c) (take from os ++ map (added_outside bits low) range) (drop (max from to) os)
    (any_right (is_unsafe_of c) (take from os) (map (added_outside bits low) range) (marked_has c bits low range some ne seen))

tatweel_across : (asked : Bool) (from to c : ℕ) (os : List Origin) → IsOrdered (numbers os) → Crosses c from to (numbers os) → IsUnsafeAt c (tatweel_marked asked from to os)
tatweel_across true from to c os o x = marked_across 4 from to c os refl o x
tatweel_across false from to c os o x = marked_across 3 from to c os refl o x

-- ---- merges

united_across : (range : List ℕ) (c n : ℕ) (os : List Origin) → Has range c → Has range n → n < c → Has (numbers (origins_merged range os)) c → ⊥
united_across range c n os hc hn lt there =
    let again : merged_number range c ≡ c = merged_again range c (numbers os) (subst (λ (ns : List ℕ). Has ns c) (numbers_merged range os) there) in
    let is : merged_number range c ≡ least_number range = merged_in range c hc in
    let under : least_number range ≤ n = least_below range n hn in
    omega (arith, again, is, under, lt)

-- a merge that unites leaves no start of a cluster that its range crosses
pub united_absent : (m : Manner) (from to c : ℕ) (os : List Origin) → IsUniting m → IsOrdered (numbers os) → Crosses c from to (numbers os) → Has (numbers (origins_merged_as m from to os)) c → ⊥
united_absent Marks from to c os u o x there = absurd u
united_absent Keeps from to c os u o x there = absurd u
united_absent Unites from to c os u o x there =
    let old : Has (numbers os) c = merged_brings Unites from to os c there in
    united_across (range_of from to (numbers os)) c x.low os (crossed_has c from to (numbers os) o x old) x.has_low x.below there

-- a span that a merge binds
pub merged_across : (m : Manner) (from to c : ℕ) (s : Span) (os : List Origin) → merged_span m from to ≡ Some s → IsOrdered (numbers os) → Crosses c s.from s.to (numbers os) → IsUnsafeAt c (origins_merged_as m from to os)
merged_across Keeps from to c s os e o x = cc
merged_across Marks from to c s os e o x = marked_across 3 from to c os refl o (at_span (record { from = from; to = to }) s c (numbers os) e x)
merged_across Unites from to c s os e o x = λ there. absurd (united_absent Unites from to c os tt o (at_span (record { from = from; to = to }) s c (numbers os) e x) there)

strictly_across : (asked : Bool) (from to c : ℕ) (s : Span) (os : List Origin) → requested_span asked from to ≡ Some s → IsOrdered (numbers os) → Crosses c s.from s.to (numbers os) → IsUnsafeAt c (strictly_marked asked from to os)
strictly_across true from to c s os e o x = marked_across 3 from to c os refl o (at_span (record { from = from; to = to }) s c (numbers os) e x)
strictly_across false from to c s os e o x = cc

-- ---- events

pub bound_is_unsafe : BoundIsUnsafe
bound_is_unsafe asks level (Merge how from to) s os c b o l e x = merged_across (manner how level) from to c s os e o x
bound_is_unsafe asks level (MergeGrapheme from to) s os c b o l e x = merged_across (grapheme_manner level) from to c s os e o x
bound_is_unsafe asks level (Replace at taken given) s os c b o l e x = λ there.
    let m = manner InList level in
    let mid = origins_merged_as m at (at + taken) os in
    let new : Has (numbers (elements_replaced at taken given mid)) c = handed_there asks.breaks c (take taken (drop at mid)) (at + given) (elements_replaced at taken given mid) there in
    replacing_stays asks.breaks c at taken given mid b (merged_ordered m at (at + taken) os (omega arith) o) new (merged_across m at (at + taken) c s os e o x (replaced_brings at taken given mid c new))
bound_is_unsafe asks level (Move how from order) s os c b o l e x = λ there.
    let m = manner how level in
    let mid = origins_merged_as m from (from + length order) os in
    arranged_stays c from order os mid (length_merged m from (from + length order) os) l (merged_across m from (from + length order) c s os e o x (arranged_brings asks level from order mid c there))
bound_is_unsafe asks level (Break from to) s os c b o l e x = marked_across 3 from to c os refl o (at_span (record { from = from; to = to }) s c (numbers os) e x)
bound_is_unsafe asks level (Tatweel from to) s os c b o l e x = tatweel_across asks.tatweel from to c os o (at_span (record { from = from; to = to }) s c (numbers os) e x)
bound_is_unsafe asks level (StrictBreak from to) s os c b o l e x = strictly_across asks.breaks from to c s os e o x
bound_is_unsafe asks level (Circle after beside like) s os c b o l e x = cc
bound_is_unsafe asks level (Delete at) s os c b o l e x = cc
bound_is_unsafe asks level (Arrange from order) s os c b o l e x = cc
bound_is_unsafe asks level (Sort from order) s os c b o l e x = cc
bound_is_unsafe asks level Reverse s os c b o l e x = cc
bound_is_unsafe asks level (Concat from to) s os c b o l e x = cc
bound_is_unsafe asks level Spread s os c b o l e x = cc
bound_is_unsafe asks level Reset s os c b o l e x = cc
