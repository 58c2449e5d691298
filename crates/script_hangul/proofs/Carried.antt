-- Origins that are moved or copied, and merges of those after them.
use Rattle.std.proofs.Common.{ℕ, zero, suc, ◌≡◌, ◌≤◌, ◌<◌, ◌+◌, ◌-◌, ◌==◌, ◌||◌, Bool, true, false, List, [], ◌∷◌, ◌++◌, length, map, take, drop, arith, refl, ap, sym, subst, ◌∙◌, append_assoc}
use Rattle.std.specs.Prelude.{slice_get, unwrap_or, replicate}
use Rattle.std.proofs.lemmas.List.Folds.{list_any-append}
use Rattle.std.proofs.lemmas.List.{drop-append-le, take-append-drop, take_at, map-append, take-map, drop-map, drop-drop, drop_at, length-append, length-drop, length-map, length-replicate, length-take-le}
use Rattle.buffer_glyphs.specs.declared.level.BufferClusterLevel.{BufferClusterLevel}
use Rattle.buffer_glyphs.specs.declared.level.BufferClusterLevel.TheVariants.{MonotoneGraphemes, MonotoneCharacters, Characters, Graphemes}
use Rattle.buffer_glyphs.specs.Parts.{first_of, last_of, or, copies, elements_replaced, range_of}
use Rattle.buffer_glyphs.specs.Merges.{merged_number, numbers_merged_as}
use Rattle.buffer_glyphs.specs.Levels.{InOutput, manner, grapheme_manner}
use Rattle.buffer_glyphs.specs.Origins.{Origin, numbers, cast, origins_merged, Manner, Unites, Marks, Keeps, origins_merged_as, picked_elements, with_range_arranged}
use Rattle.buffer_glyphs.specs.Lemmas.Origins.{numbers_merged_by}
use Rattle.buffer_glyphs.specs.Lemmas.Replacements.{among_seen}
use Rattle.buffer_glyphs.specs.Order.{has_number}
use Rattle.script_hangul.proofs.Unions.{HaveSame, IsFlagless, merges_swap}
use Rattle.buffer_stages.specs.Lemmas.Nested.{merged_length as merged_many}
use Rattle.buffer_lists.proofs.Carried.{take_sum as take_both}

pub graphemes_flagless : (level : BufferClusterLevel) → IsFlagless (grapheme_manner level)
graphemes_flagless MonotoneGraphemes = tt
graphemes_flagless MonotoneCharacters = tt
graphemes_flagless Characters = tt
graphemes_flagless Graphemes = tt

pub output_flagless : (level : BufferClusterLevel) → IsFlagless (manner InOutput level)
output_flagless MonotoneGraphemes = tt
output_flagless MonotoneCharacters = tt
output_flagless Characters = tt
output_flagless Graphemes = tt

-- ---- what moves and copies

-- of at least `need` origins some are moved or copied, whatever they are; those from `before` on are from `after` on then
pub record Carries (move : List Origin → List Origin) (need before after : ℕ) : Type 0 where
  pub natural : (v : Origin → Origin) (os : List Origin) → need ≤ length os → move (map v os) ≡ map v (move os)
  pub rest : (os : List Origin) → need ≤ length os → drop after (move os) ≡ drop before os

-- a merge of a range from `before` on may come before, or after at its new place
abbrev pub Passes : Manner → (List Origin → List Origin) → ℕ → ℕ → ℕ → Type 0
Passes m move need before after = (i n : ℕ) (os : List Origin) → need ≤ length os
    → move (origins_merged_as m (before + i) (before + i + n) os) ≡ origins_merged_as m (after + i) (after + i + n) (move os)

pub range_from : (k i n : ℕ) (os : List Origin) → range_of (k + i) (k + i + n) (numbers os) ≡ take n (drop i (numbers (drop k os)))
range_from k i n os =
    let count : k + i + n - (k + i) ≡ n = omega arith in
    ap (λ m. take m (drop (k + i) (numbers os))) count ∙ ap (take n) (sym (drop-drop i k (numbers os)) ∙ ap (drop i) (drop-map (λ (o : Origin). o.cluster) k os))

pub carried_passes : (m : Manner) (move : List Origin → List Origin) (need before after : ℕ) → IsFlagless m → Carries move need before after → Passes m move need before after
carried_passes Unites move need before after p c i n os le =
    let range = range_of (before + i) (before + i + n) (numbers os) in
    let same : range ≡ range_of (after + i) (after + i + n) (numbers (move os)) = range_from before i n os ∙ ap (λ qs. take n (drop i (numbers qs))) (sym (c.rest os le)) ∙ sym (range_from after i n (move os)) in
    c.natural (λ (o : Origin). cast (merged_number range o.cluster) 0 o) os le ∙ ap (λ ns. origins_merged ns (move os)) same
carried_passes Marks move need before after p c i n os le = absurd p
carried_passes Keeps move need before after p c i n os le = refl

-- a merge of any range lets others pass
pub merge_passes : (m n : Manner) (a b need k : ℕ) → IsFlagless m → IsFlagless n → Passes m (origins_merged_as n a b) need k k
merge_passes m n a b need k p q i c os le = merges_swap n m a b (k + i) (k + i + c) os q p

pub later_passes : (m : Manner) (move : List Origin → List Origin) (need before after d : ℕ) → Passes m move need before after → Passes m move need (before + d) (after + d)
later_passes m move need before after d p i n os le =
    let a : before + d + i ≡ before + (d + i) = omega arith in
    let b : after + d + i ≡ after + (d + i) = omega arith in
    ap (λ k. move (origins_merged_as m k (k + n) os)) a ∙ p (d + i) n os le ∙ ap (λ k. origins_merged_as m k (k + n) (move os)) (sym b)

pub both_pass : (m : Manner) (move next : List Origin → List Origin) (need more before mid after : ℕ) → Passes m move need before mid → Passes m next more mid after → ((os : List Origin) → need ≤ length os → more ≤ length (move os))
    → Passes m (λ os. next (move os)) need before after
both_pass m move next need more before mid after p q long i n os le = ap next (p i n os le) ∙ q i n (move os) (long os le)

-- ---- copies

-- a list with a first element
pub record Begins {X : Type 0} (xs : List X) : Type 0 where
  pub first : X
  pub rest : List X
  pub is : xs ≡ first ∷ rest

begins : {X : Type 0} (xs : List X) → 0 < length xs → Begins xs
begins [] h = absurd (omega (arith, h))
begins (x ∷ xs) h = record { first = x; rest = xs; is = refl }

-- from an index in a list on there is an element
pub begins_at : {X : Type 0} (at : ℕ) (xs : List X) → at < length xs → Begins (drop at xs)
begins_at at xs lt = let long = length-drop at xs in begins (drop at xs) (omega (arith, long, lt))

-- what is there when elements from an index on are replaced by copies of the first
pub replaced_is : {X : Type 0} (at taken given : ℕ) (xs : List X) (x : X) (rest : List X) → drop at xs ≡ x ∷ rest → elements_replaced at taken given xs ≡ take at xs ++ replicate given x ++ drop (at + taken) xs
replaced_is at taken given xs x rest e = ap (λ ys. take at xs ++ copies given (or (first_of ys) (last_of (take at xs))) ++ drop (at + taken) xs) e

pub replaced_rest : {X : Type 0} (at taken given : ℕ) (os : List X) → 0 < taken → at + taken ≤ length os → drop (at + given) (elements_replaced at taken given os) ≡ drop (at + taken) os
replaced_rest at taken given os some le =
    let b = begins_at at os (omega (arith, some, le)) in
    let long : length (take at os ++ replicate given b.first) ≡ at + given =
    length-append (take at os) (replicate given b.first) ∙ ap (λ n. n + length (replicate given b.first)) (length-take-le at os (omega (arith, le))) ∙ ap (λ n. at + n) (length-replicate given b.first) in
    ap (drop (at + given)) (replaced_is at taken given os b.first b.rest b.is) ∙ drop_at (take at os ++ replicate given b.first) (drop (at + taken) os) (at + given) long

pub replacing_carries : (at taken given need : ℕ) → 0 < taken → at + taken ≤ need → Carries (elements_replaced at taken given) need (at + taken) (at + given)
replacing_carries at taken given need some within = record { natural = λ v os le. sym (among_seen v at taken given os); rest = λ os le. replaced_rest at taken given os some (omega (arith, le, within)) }

pub rest_at : {X : Type 0} (at : ℕ) (xs : List X) (x : X) (rest : List X) → drop at xs ≡ x ∷ rest → drop (at + 1) xs ≡ rest
rest_at at xs x rest e = sym (drop-drop 1 at xs) ∙ ap (drop 1) e

doubled_rest : (at : ℕ) (os : List Origin) → at + 1 ≤ length os → drop (at + 1) (elements_replaced at 1 2 os) ≡ drop at os
doubled_rest at os le =
    let b = begins_at at os (omega (arith, le)) in
    let x = b.first in
    let long : length (take at os ++ x ∷ []) ≡ at + 1 = length-append (take at os) (x ∷ []) ∙ ap (λ n. n + 1) (length-take-le at os (omega (arith, le))) in
    let cut : take at os ++ (x ∷ x ∷ []) ++ b.rest ≡ (take at os ++ x ∷ []) ++ (x ∷ b.rest) = append_assoc (take at os) (x ∷ x ∷ []) b.rest ∙ sym (append_assoc (take at os) (x ∷ []) (x ∷ b.rest)) in
    ap (drop (at + 1)) (replaced_is at 1 2 os x b.rest b.is ∙ ap (λ ys. take at os ++ (x ∷ x ∷ []) ++ ys) (rest_at at os x b.rest b.is) ∙ cut)
    ∙ drop_at (take at os ++ x ∷ []) (x ∷ b.rest) (at + 1) long ∙ sym b.is

-- an origin that is doubled: the second copy is where those from it on were
pub doubling_carries : (at : ℕ) → Carries (elements_replaced at 1 2) (at + 1) at (at + 1)
doubling_carries at = record { natural = λ v os le. sym (among_seen v at 1 2 os); rest = λ os le. doubled_rest at os le }

-- how many are left
pub replaced_many : (at taken given : ℕ) (os : List Origin) → 0 < taken → at + taken ≤ length os → length (elements_replaced at taken given os) ≡ at + given + (length os - (at + taken))
replaced_many at taken given os some le =
    let b = begins_at at os (omega (arith, some, le)) in
    let x = b.first in
    ap length (replaced_is at taken given os x b.rest b.is) ∙ length-append (take at os ++ replicate given x) (drop (at + taken) os)
    ∙ ap (λ n. n + length (drop (at + taken) os)) (length-append (take at os) (replicate given x) ∙ ap (λ n. n + length (replicate given x)) (length-take-le at os (omega (arith, le))) ∙ ap (λ n. at + n) (length-replicate given x))
    ∙ ap (λ n. at + given + n) (length-drop (at + taken) os)

-- ---- moves

picked_seen : {X Y : Type 0} (v : X → Y) (all : List X) (order : List ℕ) (os : List X) → picked_elements (map v all) order (map v os) ≡ map v (picked_elements all order os)
picked_seen v all [] os = refl
picked_seen v all (i ∷ order) [] = refl
picked_seen {X = X} v all (i ∷ order) (o ∷ os) = rw (got all i, picked_seen v all order os) refl
  where
    got : (qs : List X) (k : ℕ) → unwrap_or (slice_get (map v qs) k) (v o) ≡ v (unwrap_or (slice_get qs k) o)
    got [] k = refl
    got (q ∷ qs) zero = refl
    got (q ∷ qs) (suc k) = got qs k

pub arranged_seen : {X Y : Type 0} (v : X → Y) (from : ℕ) (order : List ℕ) (os : List X) → with_range_arranged from order (map v os) ≡ map v (with_range_arranged from order os)
arranged_seen v from order os =
    ap (λ qs. qs ++ picked_elements (take (length order) (drop from (map v os))) order (drop from (map v os))) (take-map v from os)
    ∙ ap (λ qs. map v (take from os) ++ picked_elements (take (length order) qs) order qs) (drop-map v from os)
    ∙ ap (λ qs. map v (take from os) ++ picked_elements qs order (map v (drop from os))) (take-map v (length order) (drop from os))
    ∙ ap (λ qs. map v (take from os) ++ qs) (picked_seen v (take (length order) (drop from os)) order (drop from os))
    ∙ sym (map-append v (take from os) (picked_elements (take (length order) (drop from os)) order (drop from os)))

picked_rest : {X : Type 0} (all : List X) (order : List ℕ) (os : List X) → drop (length order) (picked_elements all order os) ≡ drop (length order) os
picked_rest all [] os = refl
picked_rest all (i ∷ order) [] = refl
picked_rest all (i ∷ order) (o ∷ os) = picked_rest all order os

pub arranged_rest : {X : Type 0} (from : ℕ) (order : List ℕ) (os : List X) → from ≤ length os → drop (from + length order) (with_range_arranged from order os) ≡ drop (from + length order) os
arranged_rest from order os le =
    let picked = picked_elements (take (length order) (drop from os)) order (drop from os) in
    sym (drop-drop (length order) from (take from os ++ picked))
    ∙ ap (drop (length order)) (drop_at (take from os) picked from (length-take-le from os le))
    ∙ picked_rest (take (length order) (drop from os)) order (drop from os) ∙ drop-drop (length order) from os

pub arranging_carries : (from need : ℕ) (order : List ℕ) → from ≤ need → Carries (with_range_arranged from order) need (from + length order) (from + length order)
arranging_carries from need order within = record { natural = λ v os le. arranged_seen v from order os; rest = λ os le. arranged_rest from order os (omega (arith, le, within)) }

pub moving_passes : (m : Manner) (level : BufferClusterLevel) (from need k : ℕ) (order : List ℕ) → IsFlagless m → from + length order ≡ k → from ≤ need
    → Passes m (λ os. with_range_arranged from order (origins_merged_as (manner InOutput level) from (from + length order) os)) need k k
moving_passes m level from need k order p end within =
    let how = manner InOutput level in
    let merge : List Origin → List Origin = origins_merged_as how from (from + length order) in
    subst (λ (j : ℕ). Passes m (λ os. with_range_arranged from order (merge os)) need j j) end
    (both_pass m merge (with_range_arranged from order) need need (from + length order) (from + length order) (from + length order)
    (merge_passes m how from (from + length order) need (from + length order) p (output_flagless level))
    (carried_passes m (with_range_arranged from order) need (from + length order) (from + length order) p (arranging_carries from need order within))
    (λ os le. let same = merged_many how from (from + length order) os in omega (arith, le, same)))

-- ---- ranges with a copy

-- a range of a front from an index on, and of what is after it
pub range_over : (a at j : ℕ) (front back : List ℕ) → length front ≡ at → a ≤ at → range_of a (at + j) (front ++ back) ≡ drop a front ++ take j back
range_over a at j front back long le =
    let count : at + j - a ≡ at - a + j = omega (arith, le) in
    let zs = drop a front in
    let many : length zs ≡ at - a = length-drop a front ∙ ap (λ n. n - a) long in
    ap (λ n. take n (drop a (front ++ back))) count ∙ ap (take (at - a + j)) (drop-append-le a front back (omega (arith, long, le)))
    ∙ take_both (at - a) j (zs ++ back) ∙ ap (λ ys. ys ++ take j (drop (at - a) (zs ++ back))) (take_at zs back (at - a) many) ∙ ap (λ ys. zs ++ take j ys) (drop_at zs back (at - a) many)

or_again : (s t : Bool) → (s || t) ≡ (s || (s || t))
or_again true t = refl
or_again false t = refl

pub have_after : (zs ms ns : List ℕ) → HaveSame ms ns → HaveSame (zs ++ ms) (zs ++ ns)
have_after zs ms ns same n = list_any-append (λ m. m == n) zs ms ∙ ap (λ b. has_number zs n || b) (same n) ∙ sym (list_any-append (λ m. m == n) zs ns)

pub have_twice : (c : ℕ) (ns : List ℕ) → HaveSame (c ∷ ns) (c ∷ c ∷ ns)
have_twice c ns n = or_again (c == n) (has_number ns n)

-- the numbers from an index on, where those are copies of the first
pub replaced_numbers : (at given : ℕ) (os : List Origin) (c : ℕ) (rest : List ℕ) → drop at (numbers os) ≡ c ∷ rest → numbers (elements_replaced at 1 given os) ≡ take at (numbers os) ++ (replicate given c ++ rest)
replaced_numbers at given os c rest e =
    among_seen (λ (o : Origin). o.cluster) at 1 given os ∙ replaced_is at 1 given (numbers os) c rest e ∙ ap (λ ys. take at (numbers os) ++ replicate given c ++ ys) (rest_at at (numbers os) c rest e)
    ∙ append_assoc (take at (numbers os)) (replicate given c) rest

pub whole_numbers : (at : ℕ) (ns : List ℕ) (c : ℕ) (rest : List ℕ) → drop at ns ≡ c ∷ rest → take at ns ++ (c ∷ rest) ≡ ns
whole_numbers at ns c rest e = ap (λ ys. take at ns ++ ys) (sym e) ∙ take-append-drop at ns
