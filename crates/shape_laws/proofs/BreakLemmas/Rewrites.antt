-- Arrangements one after another.
use Rattle.std.proofs.Common.{ℕ, ◌≡◌, ◌≤◌, ◌<◌, ◌+◌, ◌-◌, ◌==◌, ◌&&◌, Bool, true, false, if◌then◌else◌, List, [], ◌∷◌, ◌++◌, length, map, arith, refl, sym, ap, subst, ◌∙◌}
use Rattle.std.proofs.lemmas.Bool.Decides.{nat_tests}
use Rattle.std.proofs.lemmas.Grind.{common_steps}
use Rattle.std.proofs.lemmas.List.{length-append, map-append}
use Rattle.std.proofs.lemmas.List.Sums.{fold-append}
use Rattle.buffer_glyphs.specs.Events.{Event, Merge, MergeGrapheme, Replace, Circle, Delete, Move, Arrange, Sort, Reverse, Break, Concat, Tatweel, StrictBreak, Spread, Reset, IsPlain}
use Rattle.buffer_glyphs.specs.Items.{Item}
use Rattle.buffer_glyphs.specs.Rewriting.{Arrangement, beside, eventless_arrangement, in_turn, replacement, shifted_event}
use Rattle.buffer_parts.specs.Counts.{count_after, count_after_event}
use Rattle.buffer_stages.specs.Lemmas.Shifts.{shift_events, shift_none}
use Rattle.buffer_parts.specs.Breaks.Concat.{without_concats}
use Rattle.buffer_parts.specs.Breaks.Fragments.{AreGiven}
use Rattle.buffer_parts.specs.Breaks.Lossless.{AreLossless}
use Rattle.buffer_parts.specs.Breaks.Sides.{AreBounded}
use Rattle.buffer_parts.proofs.BreakLemmas.Events.{both_lossless}
use Rattle.shape_laws.specs.Breaks.Rewrites.{IsRewrite, IsWholeRewrite}
use Rattle.shape_laws.proofs.BreakLemmas.Letters.{without_shifted}
use Rattle.layout_laws.proofs.BreakLemmas.Walks.{bounded_both as both_bounded}
use Rattle.buffer_parts.specs.Lemmas.Plainly.{both_plain}
use Rattle.shape_parts.proofs.Arranged.{shifted_plain, one_for_one}
use Rattle.layout_laws.proofs.BreakLemmas.Frames.{given_both}
use Rattle.buffer_parts.proofs.BreakLemmas.Division.{without_both}

-- ---- two

-- the events of two arrangements, by indices that are counted from further before
beside_shifted : (from : ℕ) (a b : Arrangement) → map (shifted_event from) (beside a b).events ≡ map (shifted_event from) a.events ++ map (shifted_event (from + length a.items)) b.events
beside_shifted from a b =
    map-append (shifted_event from) a.events (map (shifted_event (length a.items)) b.events) ∙ ap (λ es. map (shifted_event from) a.events ++ es) (shift_events from (length a.items) b.events)

pub beside_rewrite : (k m : ℕ) (a b : Arrangement) → IsRewrite k a → IsRewrite m b → IsRewrite (k + m) (beside a b)
beside_rewrite k m a b p q = record {
  bounded = λ from n le.
      let counted = p.counted from n (omega (arith, le)) in
      subst (λ es. AreBounded es n) (sym (beside_shifted from a b))
      (both_bounded (map (shifted_event from) a.events) (map (shifted_event (from + length a.items)) b.events) n (p.bounded from n (omega (arith, le))) (q.bounded (from + length a.items) (count_after (map (shifted_event from) a.events) n) (omega (arith, counted, le))));
  lossless = λ from n le.
      let counted = p.counted from n (omega (arith, le)) in
      subst (λ es. AreLossless es n) (sym (beside_shifted from a b))
      (both_lossless (map (shifted_event from) a.events) (map (shifted_event (from + length a.items)) b.events) n (p.lossless from n (omega (arith, le))) (q.lossless (from + length a.items) (count_after (map (shifted_event from) a.events) n) (omega (arith, counted, le))));
  counted = λ from n le.
      let first = p.counted from n (omega (arith, le)) in
      let second = q.counted (from + length a.items) (n - k + length a.items) (omega (arith, le)) in
      let many = length-append a.items b.items in
      ap (λ es. count_after es n) (beside_shifted from a b)
      ∙ fold-append count_after_event n (map (shifted_event from) a.events) (map (shifted_event (from + length a.items)) b.events)
      ∙ ap (count_after (map (shifted_event (from + length a.items)) b.events)) first
      ∙ second ∙ omega (arith, many, le);
  plain = both_plain a.events (map (shifted_event (length a.items)) b.events) p.plain (shifted_plain (length a.items) b.events q.plain);
  no_concat = without_both a.events (map (shifted_event (length a.items)) b.events) ∙ ap (λ es. es ++ without_concats (map (shifted_event (length a.items)) b.events)) p.no_concat
      ∙ ap (λ es. a.events ++ es) (without_shifted (length a.items) b.events ∙ ap (map (shifted_event (length a.items))) q.no_concat);
  given = given_both 0 a.items b.items p.given q.given;
}

-- ---- one

pub eventless_rewrite : (xs : List Item) → AreGiven 0 xs → IsRewrite (length xs) (eventless_arrangement xs)
eventless_rewrite xs h = record { bounded = λ from n le. tt; lossless = λ from n le. tt; counted = λ from n le. omega (arith, le); plain = tt; no_concat = refl; given = h }

pub replaced_count : (at taken given n : ℕ) → 0 < taken → at + taken ≤ n → count_after_event n (Replace at taken given) ≡ n - taken + given
replaced_count at taken given n takes le = grind (arith, nat_tests, common_steps, takes, le)

-- items replaced by others
pub replacement_rewrite : (taken : ℕ) (given : List Item) → 0 < taken → AreGiven 0 given → IsRewrite taken (replacement taken given)
replacement_rewrite taken given takes h = by_test (taken == 1 && length given == 1) refl
  where
    by_test : (b : Bool) → (taken == 1 && length given == 1) ≡ b → IsRewrite taken (record { items = given; events = if b then [] else Replace 0 taken (length given) ∷ [] })
    by_test true e = let same = one_for_one taken (length given) e in record { bounded = λ from n le. tt; lossless = λ from n le. tt; counted = λ from n le. omega (arith, le, same); plain = tt; no_concat = refl; given = h }
    by_test false e = record {
      bounded = λ from n le. ((omega (arith, le, takes), omega (arith, le)), tt);
      lossless = λ from n le. (tt, tt);
      counted = λ from n le. replaced_count (from + 0) taken (length given) n takes (omega (arith, le));
      plain = tt;
      no_concat = refl;
      given = h;
    }

-- ---- many

-- arrangements of ranges one after another, which are n items together
abbrev pub AreRewrites : ℕ → List Arrangement → Type 0
AreRewrites n [] = n ≡ 0
AreRewrites n (a ∷ rest) = (k : ℕ) × ((m : ℕ) × ((n ≡ k + m) × (IsRewrite k a × AreRewrites m rest)))

pub rewrites_as : (m n : ℕ) (ranges : List Arrangement) → m ≡ n → AreRewrites m ranges → AreRewrites n ranges
rewrites_as m n ranges e p = subst (λ (k : ℕ). AreRewrites k ranges) e p

pub rewrites_first : (k m : ℕ) (a : Arrangement) (rest : List Arrangement) → IsRewrite k a → AreRewrites m rest → AreRewrites (k + m) (a ∷ rest)
rewrites_first k m a rest p q = (k, (m, (refl, (p, q))))

pub rewrites_one : (k : ℕ) (a : Arrangement) → IsRewrite k a → AreRewrites k (a ∷ [])
rewrites_one k a p = (k, (0, (omega arith, (p, refl))))

pub rewrites_both : (m n : ℕ) (first second : List Arrangement) → AreRewrites m first → AreRewrites n second → AreRewrites (m + n) (first ++ second)
rewrites_both m n [] second p q = rewrites_as n (m + n) second (omega (arith, p)) q
rewrites_both m n (a ∷ rest) second (k, (j, (e, (here, more)))) q = (k, (j + n, (omega (arith, e), (here, rewrites_both j n rest second more q))))

pub in_turn_rewrite : (n : ℕ) (ranges : List Arrangement) → AreRewrites n ranges → IsRewrite n (in_turn ranges)
in_turn_rewrite n [] p = subst (λ (k : ℕ). IsRewrite k (eventless_arrangement [])) (sym p) (eventless_rewrite [] tt)
in_turn_rewrite n (a ∷ rest) (k, (m, (e, (here, more)))) = subst (λ (j : ℕ). IsRewrite j (beside a (in_turn rest))) (sym e) (beside_rewrite k m a (in_turn rest) here (in_turn_rewrite m rest more))

-- an arrangement of all items
pub whole_rewrite : (n : ℕ) (a : Arrangement) → IsRewrite n a → IsWholeRewrite n a
whole_rewrite n a p = record {
  bounded = subst (λ es. AreBounded es n) (shift_none a.events) (p.bounded 0 n (omega arith));
  lossless = subst (λ es. AreLossless es n) (shift_none a.events) (p.lossless 0 n (omega arith));
  counted = ap (λ es. count_after es n) (sym (shift_none a.events)) ∙ p.counted 0 n (omega arith) ∙ omega arith;
  plain = p.plain;
  no_concat = p.no_concat;
  given = p.given;
}
