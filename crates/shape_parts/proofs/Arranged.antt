-- Arrangements that keep the parts of a list wherever their items are in it.
use Rattle.std.proofs.Common.{ℕ, ◌≡◌, ◌≤◌, ◌<◌, ◌+◌, ◌-◌, ◌==◌, ◌&&◌, Bool, true, false, if◌then◌else◌, List, [], ◌∷◌, ◌++◌, length, map, arith, refl, sym, ap, subst, ◌∙◌}
use Rattle.std.proofs.lemmas.Bool.Decides.{nat_tests}
use Rattle.std.proofs.lemmas.Grind.{common_steps}
use Rattle.std.proofs.lemmas.List.{length-append, map-append}
use Rattle.std.proofs.lemmas.List.Sums.{fold-append}
use Rattle.buffer_glyphs.specs.Events.{Event, Merge, MergeGrapheme, Replace, Circle, Delete, Move, Arrange, Sort, Reverse, Break, Concat, Tatweel, StrictBreak, Spread, Reset, IsPlain}
use Rattle.buffer_glyphs.specs.Items.{Item}
use Rattle.buffer_glyphs.specs.Rewriting.{Arrangement, beside, eventless_arrangement, in_turn, replacement, shifted_event}
use Rattle.buffer_parts.specs.Counts.{AreGiving, count_after, count_after_event}
use Rattle.buffer_parts.specs.Plainly.{ArePlainlyKept}
use Rattle.buffer_parts.specs.Turns.{IsUnturned}
use Rattle.buffer_parts.specs.Lemmas.Plainly.{replacement_kept, both_give, both_plain}
use Rattle.buffer_parts.specs.Lemmas.Turns.{unturned_in_turn}
use Rattle.buffer_stages.specs.Lemmas.Shifts.{shift_events, shift_none}

-- ---- events by indices that are counted from further before

pub shifted_plain : (n : ℕ) (es : List Event) → IsPlain es → IsPlain (map (shifted_event n) es)
shifted_plain n [] p = tt
shifted_plain n (Merge how from to ∷ es) p = shifted_plain n es p
shifted_plain n (MergeGrapheme from to ∷ es) p = shifted_plain n es p
shifted_plain n (Replace at taken given ∷ es) p = shifted_plain n es p
shifted_plain n (Circle after beside like ∷ es) p = shifted_plain n es p
shifted_plain n (Delete at ∷ es) p = shifted_plain n es p
shifted_plain n (Move how from order ∷ es) p = shifted_plain n es p
shifted_plain n (Arrange from order ∷ es) p = absurd p
shifted_plain n (Sort from order ∷ es) p = (p.0, shifted_plain n es p.1)
shifted_plain n (Reverse ∷ es) p = shifted_plain n es p
shifted_plain n (Break from to ∷ es) p = shifted_plain n es p
shifted_plain n (Concat from to ∷ es) p = shifted_plain n es p
shifted_plain n (Tatweel from to ∷ es) p = shifted_plain n es p
shifted_plain n (StrictBreak from to ∷ es) p = shifted_plain n es p
shifted_plain n (Spread ∷ es) p = shifted_plain n es p
shifted_plain n (Reset ∷ es) p = shifted_plain n es p

shifted_unturned : (n : ℕ) (es : List Event) → IsUnturned es → IsUnturned (map (shifted_event n) es)
shifted_unturned n [] p = tt
shifted_unturned n (Merge how from to ∷ es) p = shifted_unturned n es p
shifted_unturned n (MergeGrapheme from to ∷ es) p = shifted_unturned n es p
shifted_unturned n (Replace at taken given ∷ es) p = shifted_unturned n es p
shifted_unturned n (Circle after beside like ∷ es) p = shifted_unturned n es p
shifted_unturned n (Delete at ∷ es) p = shifted_unturned n es p
shifted_unturned n (Move how from order ∷ es) p = shifted_unturned n es p
shifted_unturned n (Arrange from order ∷ es) p = shifted_unturned n es p
shifted_unturned n (Sort from order ∷ es) p = shifted_unturned n es p
shifted_unturned n (Reverse ∷ es) p = absurd p
shifted_unturned n (Break from to ∷ es) p = shifted_unturned n es p
shifted_unturned n (Concat from to ∷ es) p = shifted_unturned n es p
shifted_unturned n (Tatweel from to ∷ es) p = shifted_unturned n es p
shifted_unturned n (StrictBreak from to ∷ es) p = shifted_unturned n es p
shifted_unturned n (Spread ∷ es) p = shifted_unturned n es p
shifted_unturned n (Reset ∷ es) p = shifted_unturned n es p

shifted_giving : (n : ℕ) (es : List Event) → AreGiving es → AreGiving (map (shifted_event n) es)
shifted_giving n [] p = tt
shifted_giving n (Merge how from to ∷ es) p = shifted_giving n es p
shifted_giving n (MergeGrapheme from to ∷ es) p = shifted_giving n es p
shifted_giving n (Replace at taken given ∷ es) p = (p.0, shifted_giving n es p.1)
shifted_giving n (Circle after beside like ∷ es) p = shifted_giving n es p
shifted_giving n (Delete at ∷ es) p = shifted_giving n es p
shifted_giving n (Move how from order ∷ es) p = shifted_giving n es p
shifted_giving n (Arrange from order ∷ es) p = shifted_giving n es p
shifted_giving n (Sort from order ∷ es) p = shifted_giving n es p
shifted_giving n (Reverse ∷ es) p = shifted_giving n es p
shifted_giving n (Break from to ∷ es) p = shifted_giving n es p
shifted_giving n (Concat from to ∷ es) p = shifted_giving n es p
shifted_giving n (Tatweel from to ∷ es) p = shifted_giving n es p
shifted_giving n (StrictBreak from to ∷ es) p = shifted_giving n es p
shifted_giving n (Spread ∷ es) p = shifted_giving n es p
shifted_giving n (Reset ∷ es) p = shifted_giving n es p

-- ---- arrangements

-- an arrangement of `taken` items: no event permutes glyphs without a merge or reverses the list, each replacement gives a glyph, and in a list of n items, wherever those are, as many more are left as the arrangement has more
pub record IsPlainWithin (taken : ℕ) (a : Arrangement) : Type 0 where
  pub plain : IsPlain a.events
  pub unturned : IsUnturned a.events
  pub giving : AreGiving a.events
  pub counted : (from n : ℕ) → from + taken ≤ n → count_after (map (shifted_event from) a.events) n ≡ n - taken + length a.items

beside_counted : (k m : ℕ) (a b : Arrangement) (from n : ℕ) → IsPlainWithin k a → IsPlainWithin m b → from + (k + m) ≤ n
    → count_after (map (shifted_event from) (beside a b).events) n ≡ n - (k + m) + length (beside a b).items
beside_counted k m a b from n p q le =
    let first = p.counted from n (omega (arith, le)) in
    let second = q.counted (from + length a.items) (n - k + length a.items) (omega (arith, le)) in
    let many = length-append a.items b.items in
    ap (λ es. count_after es n) (map-append (shifted_event from) a.events (map (shifted_event (length a.items)) b.events))
    ∙ ap (λ es. count_after (map (shifted_event from) a.events ++ es) n) (shift_events from (length a.items) b.events)
    ∙ fold-append count_after_event n (map (shifted_event from) a.events) (map (shifted_event (from + length a.items)) b.events)
    ∙ ap (count_after (map (shifted_event (from + length a.items)) b.events)) first
    ∙ second ∙ omega (arith, many, le)

pub beside_within : (k m : ℕ) (a b : Arrangement) → IsPlainWithin k a → IsPlainWithin m b → IsPlainWithin (k + m) (beside a b)
beside_within k m a b p q = record {
  plain = both_plain a.events (map (shifted_event (length a.items)) b.events) p.plain (shifted_plain (length a.items) b.events q.plain);
  unturned = unturned_in_turn a.events (map (shifted_event (length a.items)) b.events) p.unturned (shifted_unturned (length a.items) b.events q.unturned);
  giving = both_give a.events (map (shifted_event (length a.items)) b.events) p.giving (shifted_giving (length a.items) b.events q.giving);
  counted = λ from n le. beside_counted k m a b from n p q le;
}

pub eventless_within : (xs : List Item) → IsPlainWithin (length xs) (eventless_arrangement xs)
eventless_within xs = record { plain = tt; unturned = tt; giving = tt; counted = λ from n le. omega (arith, le) }

pub one_for_one : (m n : ℕ) → (m == 1 && n == 1) ≡ true → m ≡ n
one_for_one m n e = grind (arith, nat_tests, common_steps, e)

-- items replaced by others
pub replacement_within : (taken : ℕ) (given : List Item) → 0 < taken → 0 < length given → IsPlainWithin taken (replacement taken given)
replacement_within taken given takes gives = by_test (taken == 1 && length given == 1) refl
  where
    by_test : (b : Bool) → (taken == 1 && length given == 1) ≡ b → IsPlainWithin taken (record { items = given; events = if b then [] else Replace 0 taken (length given) ∷ [] })
    by_test true e = let same = one_for_one taken (length given) e in record { plain = tt; unturned = tt; giving = tt; counted = λ from n le. omega (arith, le, same) }
    by_test false e = record {
      plain = tt;
      unturned = tt;
      giving = (gives, tt);
      counted = λ from n le. let k = replacement_kept (from + 0) taken (length given) n (n - taken + length given) gives (omega (arith, le, takes)) (omega (arith, le)) (omega (arith, le, takes)) in k.counted;
    }

-- arrangements of ranges one after another, which are n items together
abbrev pub CoverWithin : ℕ → List Arrangement → Type 0
CoverWithin n [] = n ≡ 0
CoverWithin n (a ∷ rest) = (k : ℕ) × ((m : ℕ) × ((n ≡ k + m) × (IsPlainWithin k a × CoverWithin m rest)))

pub cover_as : (m n : ℕ) (ranges : List Arrangement) → m ≡ n → CoverWithin m ranges → CoverWithin n ranges
cover_as m n ranges e p = subst (λ (k : ℕ). CoverWithin k ranges) e p

pub cover_first : (k m : ℕ) (a : Arrangement) (rest : List Arrangement) → IsPlainWithin k a → CoverWithin m rest → CoverWithin (k + m) (a ∷ rest)
cover_first k m a rest p q = (k, (m, (refl, (p, q))))

pub cover_one : (k : ℕ) (a : Arrangement) → IsPlainWithin k a → CoverWithin k (a ∷ [])
cover_one k a p = (k, (0, (omega arith, (p, refl))))

pub cover_both : (m n : ℕ) (first second : List Arrangement) → CoverWithin m first → CoverWithin n second → CoverWithin (m + n) (first ++ second)
cover_both m n [] second p q = cover_as n (m + n) second (omega (arith, p)) q
cover_both m n (a ∷ rest) second (k, (j, (e, (here, more)))) q = (k, (j + n, (omega (arith, e), (here, cover_both j n rest second more q))))

pub cover_in_turn : (n : ℕ) (ranges : List Arrangement) → CoverWithin n ranges → IsPlainWithin n (in_turn ranges)
cover_in_turn n [] p = record { plain = tt; unturned = tt; giving = tt; counted = λ from m le. omega (arith, le, p) }
cover_in_turn n (a ∷ rest) (k, (m, (e, (here, more)))) = subst (λ (j : ℕ). IsPlainWithin j (beside a (in_turn rest))) (sym e) (beside_within k m a (in_turn rest) here (cover_in_turn m rest more))

-- an arrangement of all items
pub within_kept : (n : ℕ) (a : Arrangement) → IsPlainWithin n a → ArePlainlyKept a.events n (length a.items)
within_kept n a p = record {
  plain = p.plain;
  unturned = p.unturned;
  giving = p.giving;
  counted = ap (λ es. count_after es n) (sym (shift_none a.events)) ∙ p.counted 0 n (omega arith) ∙ omega arith;
}
