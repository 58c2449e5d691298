-- Divisible stages, one after the other.
use Rattle.std.proofs.Common.{ℕ, zero, suc, ◌≡◌, ◌≤◌, ◌+◌, ◌-◌, ◌*◌, ◌/◌, ◌%◌, arith, min, inl, inr, Bool, true, false, List, [], ◌∷◌, ◌++◌, length, map, take, drop, Ok, Err, refl, ap, sym, subst, ◌∙◌}
use Rattle.std.proofs.lemmas.List.{take-append-drop, map-append, length-map, length-take, length-drop}
use Rattle.std.proofs.lemmas.Nat.{div-add-mod'}
use Rattle.buffer_glyphs.specs.Items.{Item}
use Rattle.buffer_glyphs.specs.LigatureWords.{lig_id}
use Rattle.buffer_glyphs.specs.declared.level.BufferClusterLevel.{BufferClusterLevel}
use Rattle.buffer_glyphs.specs.Events.{Event, Merge, MergeGrapheme, Replace, Circle, Delete, Move, Arrange, Sort, Reverse, Break, Concat, Tatweel, StrictBreak, Spread, Reset}
use Rattle.buffer_glyphs.specs.Origins.{Origin}
use Rattle.buffer_glyphs.specs.Lemmas.Origins.{origins_after_both}
use Rattle.buffer_parts.specs.Orderly.{IsOrderly}
use Rattle.buffer_parts.specs.Counts.{count_after}
use Rattle.buffer_parts.specs.Lemmas.Counts.{counts_follow}
use Rattle.buffer_core.specs.Readings.{View, Read, Reading, Stage, and_then, then_read, then_reading, with_events, BufferState, state_after}
use Rattle.buffer_stages.specs.Stages.{with_items_mapped}
use Rattle.buffer_parts.specs.Stages.{KeepsParts}
use Rattle.buffer_parts.specs.Breaks.Unsafe.{IsUnsafeAt}
use Rattle.buffer_parts.specs.Breaks.Lossless.{AreLossless}
use Rattle.buffer_parts.specs.Breaks.Concat.{SameButConcat, without_concats}
use Rattle.buffer_parts.specs.Breaks.Fragments.{AreGiven, AreNamed, with_ligature_renamed, as_they_stand, IsWhole, AreFragments, first_glyphs, glyphs_from}
use Rattle.buffer_parts.specs.Breaks.Divisible.{merges, IsSpared, IsSpent, OnlySpends, IsBreakable, StaysBreakable, KeepsUnsafe, LosesNoFlag, StaysDivided}
use Rattle.buffer_parts.specs.Breaks.FragmentLaws.{DividedHasFragments, LosslessStagesKeepUnsafe, DividesInTurn, DivisibleInTurn, DividesFreelyInTurn, FreelyDivisibleInTurn, FreeIsDivisible, SameIsDivisible, WantedIsDivisible, ItemsAreDivisible}
use Rattle.buffer_parts.proofs.BreakLemmas.Concat.{same_refl}
use Rattle.buffer_parts.proofs.BreakLemmas.Events.{unsafe_stays, safe_breaks_stay}
use Rattle.buffer_parts.specs.Lemmas.Stages.{same_read}

-- ---- what two stages read, one after the other

record AreRead (a : Reading) (t : Stage) (r : Read) : Type 0 where
  pub first : Read
  pub second : Read
  pub first_is : a ≡ Ok first
  pub second_is : t first.view ≡ Ok second
  pub both : then_read first second ≡ r

both_read : (a : Reading) (t : Stage) (r : Read) → and_then a t ≡ Ok r → AreRead a t r
both_read (Err c) t r e = cc
both_read (Ok a) t r e = by_second (t a.view) refl e
  where
    by_second : (b : Reading) → t a.view ≡ b → then_reading a b ≡ Ok r → AreRead (Ok a) t r
    by_second (Ok b) g h = record { first = a; second = b; first_is = refl; second_is = g; both = same_read (then_read a b) r h }
    by_second (Err c) g h = cc

-- the state after both is that after the second, of that after the first
pub state_in_turn : (a b : Read) (s : BufferState) → state_after (then_read a b) s ≡ state_after b (state_after a s)
state_in_turn a b s = ap (λ (os : List Origin). record { view = b.view; origins = os; level = s.level; asks = s.asks }) (origins_after_both s.asks s.level (a.events s.level) (b.events s.level) s.origins)

state_of_both : (s t : Stage) (run : BufferState) (r : Read) (q : AreRead (s run.view) t r) → state_after q.second (state_after q.first run) ≡ state_after r run
state_of_both s t run r q = sym (state_in_turn q.first q.second run) ∙ ap (λ (x : Read). state_after x run) q.both

-- merges of two lists of events
pub without_both : (es fs : List Event) → without_concats (es ++ fs) ≡ without_concats es ++ without_concats fs
without_both [] fs = refl
without_both (Concat from to ∷ es) fs = without_both es fs
without_both (Merge how from to ∷ es) fs = ap (λ xs. Merge how from to ∷ xs) (without_both es fs)
without_both (MergeGrapheme from to ∷ es) fs = ap (λ xs. MergeGrapheme from to ∷ xs) (without_both es fs)
without_both (Replace at taken given ∷ es) fs = ap (λ xs. Replace at taken given ∷ xs) (without_both es fs)
without_both (Circle after beside like ∷ es) fs = ap (λ xs. Circle after beside like ∷ xs) (without_both es fs)
without_both (Delete at ∷ es) fs = ap (λ xs. Delete at ∷ xs) (without_both es fs)
without_both (Move how from order ∷ es) fs = ap (λ xs. Move how from order ∷ xs) (without_both es fs)
without_both (Arrange from order ∷ es) fs = ap (λ xs. Arrange from order ∷ xs) (without_both es fs)
without_both (Sort from order ∷ es) fs = ap (λ xs. Sort from order ∷ xs) (without_both es fs)
without_both (Reverse ∷ es) fs = ap (λ xs. Reverse ∷ xs) (without_both es fs)
without_both (Break from to ∷ es) fs = ap (λ xs. Break from to ∷ xs) (without_both es fs)
without_both (Tatweel from to ∷ es) fs = ap (λ xs. Tatweel from to ∷ xs) (without_both es fs)
without_both (StrictBreak from to ∷ es) fs = ap (λ xs. StrictBreak from to ∷ xs) (without_both es fs)
without_both (Spread ∷ es) fs = ap (λ xs. Spread ∷ xs) (without_both es fs)
without_both (Reset ∷ es) fs = ap (λ xs. Reset ∷ xs) (without_both es fs)

pub merges_both : (es fs : List Event) → merges (es ++ fs) ≡ merges es + merges fs
merges_both [] fs = omega arith
merges_both (Concat from to ∷ es) fs = merges_both es fs
merges_both (Merge how from to ∷ es) fs = let rest = merges_both es fs in omega (arith, rest)
merges_both (MergeGrapheme from to ∷ es) fs = merges_both es fs
merges_both (Replace at taken given ∷ es) fs = merges_both es fs
merges_both (Circle after beside like ∷ es) fs = merges_both es fs
merges_both (Delete at ∷ es) fs = merges_both es fs
merges_both (Move how from order ∷ es) fs = merges_both es fs
merges_both (Arrange from order ∷ es) fs = merges_both es fs
merges_both (Sort from order ∷ es) fs = merges_both es fs
merges_both (Reverse ∷ es) fs = merges_both es fs
merges_both (Break from to ∷ es) fs = merges_both es fs
merges_both (Tatweel from to ∷ es) fs = merges_both es fs
merges_both (StrictBreak from to ∷ es) fs = merges_both es fs
merges_both (Spread ∷ es) fs = merges_both es fs
merges_both (Reset ∷ es) fs = merges_both es fs

merged_both : (es fs : List Event) → merges (without_concats (es ++ fs)) ≡ merges (without_concats es) + merges (without_concats fs)
merged_both es fs = ap merges (without_both es fs) ∙ merges_both (without_concats es) (without_concats fs)

-- where two stages are spared together, each is
record AreSpared (level : BufferClusterLevel) (v : View) (a b : Read) : Type 0 where
  first : IsSpared level v a
  second : IsSpared level a.view b

both_spared : (level : BufferClusterLevel) (v : View) (a b : Read) → IsSpent level v a → IsSpent level a.view b → IsSpared level v (then_read a b) → AreSpared level v a b
both_spared level v a b p q h =
    let all = h.numbers in
    let sum = merged_both (a.events level) (b.events level) in
    let some : v.lig_id + merges (without_concats (a.events level)) ≤ 7 = omega (arith, all, sum) in
    let taken = p.numbers some in
    record { first = record { budget = q.budget h.budget; numbers = some }; second = record { budget = h.budget; numbers = omega (arith, all, sum, taken) } }

both_spent : (level : BufferClusterLevel) (v : View) (a b : Read) → IsSpent level v a → IsSpent level a.view b → IsSpent level v (then_read a b)
both_spent level v a b p q =
    let sum = merged_both (a.events level) (b.events level) in
    record {
      budget = λ h. p.budget (q.budget h);
      numbers = λ h.
          let first = p.numbers (omega (arith, h, sum)) in
          let second = q.numbers (omega (arith, h, sum, first)) in
          omega (arith, sum, first, second);
    }

spared_of : (level : BufferClusterLevel) (v : View) (a : Reading) (t : Stage) (r : Read) (q : AreRead a t r) → IsSpared level v r → IsSpared level v (then_read q.first q.second)
spared_of level v a t r q h = subst (λ (x : Read). IsSpared level v x) (sym q.both) h

divided_alike : (falls : Bool) (c : ℕ) (w w1 e e1 l l1 : BufferState) → w ≡ w1 → e ≡ e1 → l ≡ l1 → StaysDivided falls c w e l → StaysDivided falls c w1 e1 l1
divided_alike falls c w w1 e e1 l l1 p q r h =
    subst (λ (x : BufferState). StaysDivided falls c w1 e1 x) r (subst (λ (x : BufferState). StaysDivided falls c w1 x l) q (subst (λ (x : BufferState). StaysDivided falls c x e l) p h))

-- the states after two stages, where the second divides what the first leaves
then_divided : (between turned : Bool) (c : ℕ) (s s1 s2 t t1 t2 : Stage) (whole earlier later : BufferState) (r e l : Read) (rr : AreRead (s whole.view) t r) (ee : AreRead (s1 earlier.view) t1 e) (ll : AreRead (s2 later.view) t2 l)
    → StaysBreakable s → KeepsUnsafe t → IsBreakable whole → StaysDivided between c (state_after rr.first whole) (state_after ee.first earlier) (state_after ll.first later)
    → (IsBreakable (state_after rr.first whole) → AreFragments between c (state_after rr.first whole) (state_after ee.first earlier) (state_after ll.first later)
    → StaysDivided turned c (state_after rr.second (state_after rr.first whole)) (state_after ee.second (state_after ee.first earlier)) (state_after ll.second (state_after ll.first later)))
    → StaysDivided turned c (state_after r whole) (state_after e earlier) (state_after l later)
then_divided between turned c s s1 s2 t t1 t2 whole earlier later r e l rr ee ll stays keeps ready first next =
    let w = state_after rr.first whole in
    let f = state_after ee.first earlier in
    let g = state_after ll.first later in
    let then_ready = stays whole rr.first rr.first_is ready in
    let after : StaysDivided turned c (state_after rr.second w) (state_after ee.second f) (state_after ll.second g) = elim first [
      | inl unsafe ↦ inl (keeps w rr.second c rr.second_is then_ready unsafe)
      | inr again ↦ next then_ready again
    ] in
    divided_alike turned c (state_after rr.second w) (state_after r whole) (state_after ee.second f) (state_after e earlier) (state_after ll.second g) (state_after l later)
    (state_of_both s t whole r rr) (state_of_both s1 t1 earlier e ee) (state_of_both s2 t2 later l ll) after

pub divides_in_turn : DividesInTurn
divides_in_turn before between turned s s1 s2 t t1 t2 stays only early_only late_only p q =
    λ c whole earlier later r e l ready fragments is_r is_e is_l spared_r spared_e spared_l.
    let rr = both_read (s whole.view) t r is_r in
    let ee = both_read (s1 earlier.view) t1 e is_e in
    let ll = both_read (s2 later.view) t2 l is_l in
    let sr = both_spared whole.level whole.view rr.first rr.second (only whole.level whole.view rr.first rr.first_is) (q.spends whole.level rr.first.view rr.second rr.second_is) (spared_of whole.level whole.view (s whole.view) t r rr spared_r) in
    let se = both_spared earlier.level earlier.view ee.first ee.second (early_only earlier.level earlier.view ee.first ee.first_is) (q.early_spends earlier.level ee.first.view ee.second ee.second_is) (spared_of earlier.level earlier.view (s1 earlier.view) t1 e ee spared_e) in
    let sl = both_spared later.level later.view ll.first ll.second (late_only later.level later.view ll.first ll.first_is) (q.late_spends later.level ll.first.view ll.second ll.second_is) (spared_of later.level later.view (s2 later.view) t2 l ll spared_l) in
    then_divided between turned c s s1 s2 t t1 t2 whole earlier later r e l rr ee ll stays q.unsafe ready
    (p c whole earlier later rr.first ee.first ll.first ready fragments rr.first_is ee.first_is ll.first_is sr.first se.first sl.first)
    (λ then_ready again. q.divides c (state_after rr.first whole) (state_after ee.first earlier) (state_after ll.first later) rr.second ee.second ll.second then_ready again rr.second_is ee.second_is ll.second_is sr.second se.second sl.second)

-- what one stage leaves breakable, and keeps unsafe, two do
pub both_breakable : (s t : Stage) → StaysBreakable s → StaysBreakable t → StaysBreakable (λ v. and_then (s v) t)
both_breakable s t p q = λ run r is ready.
    let rr = both_read (s run.view) t r is in
    subst IsBreakable (state_of_both s t run r rr) (q (state_after rr.first run) rr.second rr.second_is (p run rr.first rr.first_is ready))

pub both_unsafe : (s t : Stage) → StaysBreakable s → KeepsUnsafe s → KeepsUnsafe t → KeepsUnsafe (λ v. and_then (s v) t)
both_unsafe s t stays p q = λ run r c is ready h.
    let rr = both_read (s run.view) t r is in
    subst (λ (x : BufferState). IsUnsafeAt c x.origins) (state_of_both s t run r rr)
    (q (state_after rr.first run) rr.second c rr.second_is (stays run rr.first rr.first_is ready) (p run rr.first c rr.first_is ready h))

pub both_spend : (s t : Stage) → OnlySpends s → OnlySpends t → OnlySpends (λ v. and_then (s v) t)
both_spend s t p q = λ level v r is.
    let rr = both_read (s v) t r is in
    subst (λ (x : Read). IsSpent level v x) rr.both (both_spent level v rr.first rr.second (p level v rr.first rr.first_is) (q level rr.first.view rr.second rr.second_is))

pub divisible_in_turn : DivisibleInTurn
divisible_in_turn before between turned s s1 s2 t t1 t2 p q = record {
  divides = divides_in_turn before between turned s s1 s2 t t1 t2 p.breakable p.spends p.early_spends p.late_spends p.divides q;
  breakable = both_breakable s t p.breakable q.breakable;
  unsafe = both_unsafe s t p.breakable p.unsafe q.unsafe;
  spends = both_spend s t p.spends q.spends;
  early_spends = both_spend s1 t1 p.early_spends q.early_spends;
  late_spends = both_spend s2 t2 p.late_spends q.late_spends;
}

pub divides_freely_in_turn : DividesFreelyInTurn
divides_freely_in_turn before between turned s s1 s2 t t1 t2 stays p q =
    λ c whole earlier later r e l ready fragments is_r is_e is_l.
    let rr = both_read (s whole.view) t r is_r in
    let ee = both_read (s1 earlier.view) t1 e is_e in
    let ll = both_read (s2 later.view) t2 l is_l in
    then_divided between turned c s s1 s2 t t1 t2 whole earlier later r e l rr ee ll stays q.unsafe ready (p c whole earlier later rr.first ee.first ll.first ready fragments rr.first_is ee.first_is ll.first_is)
    (λ then_ready again. q.divides c (state_after rr.first whole) (state_after ee.first earlier) (state_after ll.first later) rr.second ee.second ll.second then_ready again rr.second_is ee.second_is ll.second_is)

pub freely_divisible_in_turn : FreelyDivisibleInTurn
freely_divisible_in_turn before between turned s s1 s2 t t1 t2 p q = record {
  divides = divides_freely_in_turn before between turned s s1 s2 t t1 t2 p.breakable p.divides q;
  breakable = both_breakable s t p.breakable q.breakable;
  unsafe = both_unsafe s t p.breakable p.unsafe q.unsafe;
}

pub free_is_divisible : FreeIsDivisible
free_is_divisible falls turned stage early late p only early_only late_only = record {
  divides = λ c whole earlier later r e l ready fragments is_r is_e is_l spared_r spared_e spared_l. p.divides c whole earlier later r e l ready fragments is_r is_e is_l;
  breakable = p.breakable;
  unsafe = p.unsafe;
  spends = only;
  early_spends = early_only;
  late_spends = late_only;
}

-- ---- a state that is divided at an index

-- where no ligature has a number, each keeps it
pub unnumbered : (whole earlier later : View) → whole.lig_id ≡ 0 → earlier.lig_id ≡ 0 → later.lig_id ≡ 0 → AreGiven 0 earlier.items → AreGiven 0 later.items → AreNamed (λ n. n) (λ n. n) whole earlier later
unnumbered whole earlier later w e l g h = record {
  early = record { none = refl; apart = λ m n p q same. same; within = λ n p. omega (arith, w, e, p) };
  late = record { none = refl; apart = λ m n p q same. same; within = λ n p. omega (arith, w, l, p) };
  apart = λ m n p q same. (omega (arith, e, p), omega (arith, l, q));
  early_given = subst (λ (n : ℕ). AreGiven n earlier.items) (sym e) g;
  late_given = subst (λ (n : ℕ). AreGiven n later.items) (sym l) h;
}

pub given_take : (last n : ℕ) (xs : List Item) → AreGiven last xs → AreGiven last (take n xs)
given_take last zero xs h = tt
given_take last (suc n) [] h = tt
given_take last (suc n) (x ∷ xs) h = (h.0, given_take last n xs h.1)

pub given_drop : (last n : ℕ) (xs : List Item) → AreGiven last xs → AreGiven last (drop n xs)
given_drop last zero xs h = h
given_drop last (suc n) [] h = tt
given_drop last (suc n) (x ∷ xs) h = given_drop last n xs h.1

not_renamed : (x : Item) → with_ligature_renamed (λ n. n) x ≡ x
not_renamed x = ap (λ (n : ℕ). record x { lig_props = n }) (div-add-mod' x.lig_props 0x2000_0000)

pub none_renamed : (xs : List Item) → map (with_ligature_renamed (λ n. n)) xs ≡ xs
none_renamed [] = refl
none_renamed (x ∷ xs) = rw (not_renamed x, none_renamed xs) refl

cut_origins : (n : ℕ) (os : List Origin) → SameButConcat os (take n os ++ drop n os)
cut_origins n os = subst (SameButConcat os) (sym (take-append-drop n os)) (same_refl os)

taken_alike : {X Y : Type 0} (n : ℕ) (xs : List X) (ys : List Y) → length xs ≡ length ys → length (take n xs) ≡ length (take n ys)
taken_alike n xs ys e = length-take n xs ∙ ap (min n) e ∙ sym (length-take n ys)

dropped_alike : {X Y : Type 0} (n : ℕ) (xs : List X) (ys : List Y) → length xs ≡ length ys → length (drop n xs) ≡ length (drop n ys)
dropped_alike n xs ys e = length-drop n xs ∙ ap (λ k. k - n) e ∙ sym (length-drop n ys)

pub divided_has_fragments : DividedHasFragments
divided_has_fragments n c s d w = record {
  early_name = λ k. k;
  late_name = λ k. k;
  names = unnumbered s.view (first_glyphs n s).view (glyphs_from n s).view d.none_given d.none_given d.none_given (given_take 0 n s.view.items d.unnumbered) (given_drop 0 n s.view.items d.unnumbered);
  items = rw (none_renamed (take n s.view.items), none_renamed (drop n s.view.items)) (sym (take-append-drop n s.view.items));
  positions = sym (take-append-drop n s.view.positions);
  origins = cut_origins n s.origins;
  below = d.below;
  above = d.above;
  early_some = let many = length-take n s.origins in let more = d.more in let some = d.some in omega (arith, many, more, some);
  late_some = let many = length-drop n s.origins in let more = d.more in omega (arith, many, more);
  early_whole = record { positions = taken_alike n s.view.positions s.view.items w.positions; origins = taken_alike n s.origins s.view.items w.origins };
  late_whole = record { positions = dropped_alike n s.view.positions s.view.items w.positions; origins = dropped_alike n s.origins s.view.items w.origins };
  early_of = record { direction = refl; level = refl; requests = refl };
  late_of = record { direction = refl; level = refl; requests = refl };
}

-- ---- events that lose no flag

pub orderly_at : (stage : Stage) (s : BufferState) (r : Read) → KeepsParts stage → stage s.view ≡ Ok r → IsBreakable s → IsOrderly s.asks s.level (r.events s.level) s.origins
orderly_at stage s r kept is b = (kept s.view r s.level is).orderly s.asks s.origins b.breaks.monotone b.whole.origins b.breaks.ordered

pub lossless_at : (stage : Stage) (s : BufferState) (r : Read) → LosesNoFlag stage → stage s.view ≡ Ok r → IsBreakable s → AreLossless (r.events s.level) (length s.origins)
lossless_at stage s r lossless is b = subst (AreLossless (r.events s.level)) (sym b.whole.origins) (lossless s.view r s.level is)

pub lossless_stages_keep_unsafe : LosslessStagesKeepUnsafe
lossless_stages_keep_unsafe stage kept lossless positions = (
  λ s r is b. record {
    breaks = safe_breaks_stay s.asks s.level (r.events s.level) s.origins b.breaks (orderly_at stage s r kept is b);
    whole = record {
      positions = positions s.view r is b.whole.positions;
      origins = counts_follow s.asks s.level (r.events s.level) s.origins ∙ ap (λ n. count_after (r.events s.level) n) b.whole.origins ∙ (kept s.view r s.level is).counted;
    };
  },
  λ s r c is b u. unsafe_stays s.asks s.level (r.events s.level) s.origins c b.breaks (orderly_at stage s r kept is b) (lossless_at stage s r lossless is b) u,
)

-- ---- a stage that changes each item by itself

-- a change neither reads nor changes the ligature word
abbrev SparesLigatures : (Item → Item) → Type 0
SparesLigatures f = (n : ℕ) (x : Item) → f (record x { lig_props = n }) ≡ record (f x) { lig_props = n }

same_word : (f : Item → Item) (x : Item) → SparesLigatures f → (f x).lig_props ≡ x.lig_props
same_word f x spares = ap (λ (y : Item). y.lig_props) (spares x.lig_props x)

renamed_word : (f : Item → Item) (g : ℕ → ℕ) (x : Item) → SparesLigatures f → f (with_ligature_renamed g x) ≡ with_ligature_renamed g (f x)
renamed_word f g x spares =
    spares (g (lig_id x) * 0x2000_0000 + x.lig_props % 0x2000_0000) x
    ∙ ap (λ (n : ℕ). record (f x) { lig_props = g (n / 0x2000_0000) * 0x2000_0000 + n % 0x2000_0000 }) (sym (same_word f x spares))

each_renamed : (f : Item → Item) (g : ℕ → ℕ) (xs : List Item) → SparesLigatures f → map f (map (with_ligature_renamed g) xs) ≡ map (with_ligature_renamed g) (map f xs)
each_renamed f g [] spares = refl
each_renamed f g (x ∷ xs) spares = rw (renamed_word f g x spares, each_renamed f g xs spares) refl

each_given : (f : Item → Item) (last : ℕ) (xs : List Item) → SparesLigatures f → AreGiven last xs → AreGiven last (map f xs)
each_given f last [] spares h = tt
each_given f last (x ∷ xs) spares h = (subst (λ (n : ℕ). n / 0x2000_0000 ≤ last) (sym (same_word f x spares)) h.0, each_given f last xs spares h.1)

pub line_mapped : (falls : Bool) (f : Item → Item) (xs ys : List Item) → map f (as_they_stand falls xs ys) ≡ as_they_stand falls (map f xs) (map f ys)
line_mapped false f xs ys = map-append f xs ys
line_mapped true f xs ys = map-append f ys xs

items_whole : (f : Item → Item) (s : BufferState) → IsWhole s → IsWhole (state_after (with_items_mapped f s.view) s)
items_whole f s w = record { positions = w.positions ∙ sym (length-map s.view.items f); origins = w.origins ∙ sym (length-map s.view.items f) }

item_fragments : (f : Item → Item) → SparesLigatures f → (falls : Bool) (c : ℕ) (whole earlier later : BufferState) → AreFragments falls c whole earlier later
    → AreFragments falls c (state_after (with_items_mapped f whole.view) whole) (state_after (with_items_mapped f earlier.view) earlier) (state_after (with_items_mapped f later.view) later)
item_fragments f same falls c whole earlier later j =
    let g = j.early_name in
    let h = j.late_name in
    let xs = earlier.view.items in
    let ys = later.view.items in
    record {
      early_name = g;
      late_name = h;
      names = record {
        early = j.names.early;
        late = j.names.late;
        apart = j.names.apart;
        early_given = each_given f earlier.view.lig_id xs same j.names.early_given;
        late_given = each_given f later.view.lig_id ys same j.names.late_given;
      };
      items = ap (map f) j.items ∙ line_mapped falls f (map (with_ligature_renamed g) xs) (map (with_ligature_renamed h) ys)
          ∙ ap (λ (zs : List Item). as_they_stand falls zs (map f (map (with_ligature_renamed h) ys))) (each_renamed f g xs same)
          ∙ ap (λ (zs : List Item). as_they_stand falls (map (with_ligature_renamed g) (map f xs)) zs) (each_renamed f h ys same);
      positions = j.positions;
      origins = j.origins;
      below = j.below;
      above = j.above;
      early_some = j.early_some;
      late_some = j.late_some;
      early_whole = items_whole f earlier j.early_whole;
      late_whole = items_whole f later j.late_whole;
      early_of = record { direction = j.early_of.direction; level = j.early_of.level; requests = j.early_of.requests };
      late_of = record { direction = j.late_of.direction; level = j.late_of.level; requests = j.late_of.requests };
    }

pub items_are_divisible : ItemsAreDivisible
items_are_divisible falls f same = record {
  divides = λ c whole earlier later r e l ready fragments is_r is_e is_l.
      let rr = same_read (with_items_mapped f whole.view) r is_r in
      let ee = same_read (with_items_mapped f earlier.view) e is_e in
      let ll = same_read (with_items_mapped f later.view) l is_l in
      divided_alike falls c (state_after (with_items_mapped f whole.view) whole) (state_after r whole) (state_after (with_items_mapped f earlier.view) earlier) (state_after e earlier) (state_after (with_items_mapped f later.view) later) (state_after l later)
      (ap (λ (x : Read). state_after x whole) rr) (ap (λ (x : Read). state_after x earlier) ee) (ap (λ (x : Read). state_after x later) ll)
      (inr (item_fragments f same falls c whole earlier later fragments));
  breakable = λ s r is b. subst (λ (x : Read). IsBreakable (state_after x s)) (same_read (with_items_mapped f s.view) r is)
      (record { breaks = record { requested = b.breaks.requested; monotone = b.breaks.monotone; ordered = b.breaks.ordered }; whole = items_whole f s b.whole });
  unsafe = λ s r c is b h. subst (λ (x : Read). IsUnsafeAt c (state_after x s).origins) (same_read (with_items_mapped f s.view) r is) h;
}

-- ---- a stage that changes nothing

pub same_is_divisible : SameIsDivisible
same_is_divisible falls = record {
  divides = λ c whole earlier later r e l ready fragments is_r is_e is_l.
      divided_alike falls c whole (state_after r whole) earlier (state_after e earlier) later (state_after l later)
      (ap (λ (x : Read). state_after x whole) (same_read (with_events [] whole.view) r is_r)) (ap (λ (x : Read). state_after x earlier) (same_read (with_events [] earlier.view) e is_e))
      (ap (λ (x : Read). state_after x later) (same_read (with_events [] later.view) l is_l)) (inr fragments);
  breakable = λ s r is b. subst IsBreakable (ap (λ (x : Read). state_after x s) (same_read (with_events [] s.view) r is)) b;
  unsafe = λ s r c is b h. subst (λ (x : BufferState). IsUnsafeAt c x.origins) (ap (λ (x : Read). state_after x s) (same_read (with_events [] s.view) r is)) h;
}

pub wanted_is_divisible : WantedIsDivisible
wanted_is_divisible true falls stage early late p = p
wanted_is_divisible false falls stage early late p = same_is_divisible falls
