-- Events that keep the parts of a text whatever its clusters are, one list after another.
use Rattle.std.proofs.Common.{ℕ, ◌≡◌, ◌≤◌, ◌<◌, ◌+◌, ◌-◌, Bool, List, [], ◌∷◌, ◌++◌, arith, refl, ap, ◌∙◌}
use Rattle.std.proofs.lemmas.Bool.Decides.{nat_tests}
use Rattle.std.proofs.lemmas.Grind.{common_steps}
use Rattle.std.proofs.lemmas.List.Sums.{fold-append}
use Rattle.buffer_glyphs.specs.Events.{Event, Merge, MergeGrapheme, Replace, Circle, Delete, Move, Arrange, Sort, Reverse, Break, Concat, Tatweel, StrictBreak, Spread, Reset, IsPlain}
use Rattle.buffer_parts.specs.Counts.{AreGiving, count_after, count_after_event}
use Rattle.buffer_parts.specs.Turns.{IsUnturned}
use Rattle.buffer_parts.specs.Plainly.{ArePlainlyKept, AreSteady}
use Rattle.buffer_parts.specs.Lemmas.Turns.{unturned_in_turn}

pub both_plain : (es fs : List Event) → IsPlain es → IsPlain fs → IsPlain (es ++ fs)
both_plain [] fs p q = q
both_plain (Arrange from order ∷ es) fs p q = absurd p
both_plain (Merge how from to ∷ es) fs p q = both_plain es fs p q
both_plain (MergeGrapheme from to ∷ es) fs p q = both_plain es fs p q
both_plain (Replace at taken given ∷ es) fs p q = both_plain es fs p q
both_plain (Circle after beside like ∷ es) fs p q = both_plain es fs p q
both_plain (Delete at ∷ es) fs p q = both_plain es fs p q
both_plain (Move how from order ∷ es) fs p q = both_plain es fs p q
both_plain (Sort from order ∷ es) fs p q = (p.0, both_plain es fs p.1 q)
both_plain (Reverse ∷ es) fs p q = both_plain es fs p q
both_plain (Break from to ∷ es) fs p q = both_plain es fs p q
both_plain (Concat from to ∷ es) fs p q = both_plain es fs p q
both_plain (Tatweel from to ∷ es) fs p q = both_plain es fs p q
both_plain (StrictBreak from to ∷ es) fs p q = both_plain es fs p q
both_plain (Spread ∷ es) fs p q = both_plain es fs p q
both_plain (Reset ∷ es) fs p q = both_plain es fs p q

pub both_give : (es fs : List Event) → AreGiving es → AreGiving fs → AreGiving (es ++ fs)
both_give [] fs p q = q
both_give (Arrange from order ∷ es) fs p q = both_give es fs p q
both_give (Merge how from to ∷ es) fs p q = both_give es fs p q
both_give (MergeGrapheme from to ∷ es) fs p q = both_give es fs p q
both_give (Replace at taken given ∷ es) fs p q = (p.0, both_give es fs p.1 q)
both_give (Circle after beside like ∷ es) fs p q = both_give es fs p q
both_give (Delete at ∷ es) fs p q = both_give es fs p q
both_give (Move how from order ∷ es) fs p q = both_give es fs p q
both_give (Sort from order ∷ es) fs p q = both_give es fs p q
both_give (Reverse ∷ es) fs p q = both_give es fs p q
both_give (Break from to ∷ es) fs p q = both_give es fs p q
both_give (Concat from to ∷ es) fs p q = both_give es fs p q
both_give (Tatweel from to ∷ es) fs p q = both_give es fs p q
both_give (StrictBreak from to ∷ es) fs p q = both_give es fs p q
both_give (Spread ∷ es) fs p q = both_give es fs p q
both_give (Reset ∷ es) fs p q = both_give es fs p q

-- events that keep the parts keep them one after another
pub plainly_in_turn : (es fs : List Event) (before mid after : ℕ) → ArePlainlyKept es before mid → ArePlainlyKept fs mid after → ArePlainlyKept (es ++ fs) before after
plainly_in_turn es fs before mid after p q = record {
  plain = both_plain es fs p.plain q.plain;
  unturned = unturned_in_turn es fs p.unturned q.unturned;
  giving = both_give es fs p.giving q.giving;
  counted = fold-append count_after_event before es fs ∙ ap (count_after fs) p.counted ∙ q.counted;
}

-- ---- events that add glyphs

replacement_counted : (at taken given n after : ℕ) → 0 < n → at ≤ n → at + given + (n - (at + taken)) ≡ after → count_after_event n (Replace at taken given) ≡ after
replacement_counted at taken given n after some le e = grind (arith, nat_tests, common_steps, some, le, e)

-- a replacement that gives a glyph, in a list that is not empty
pub replacement_kept : (at taken given n after : ℕ) → 0 < given → 0 < n → at ≤ n → at + given + (n - (at + taken)) ≡ after → ArePlainlyKept (Replace at taken given ∷ []) n after
replacement_kept at taken given n after gives some le e = record { plain = tt; unturned = tt; giving = (gives, tt); counted = replacement_counted at taken given n after some le e }

circle_counted : (after : Bool) (at like n : ℕ) → at < n → count_after_event n (Circle after at like) ≡ n + 1
circle_counted after at like n lt = grind (arith, nat_tests, common_steps, lt)

-- a circle beside a glyph that is there
pub circle_kept : (after : Bool) (at like n : ℕ) → at < n → ArePlainlyKept (Circle after at like ∷ []) n (n + 1)
circle_kept after at like n lt = record { plain = tt; unturned = tt; giving = tt; counted = circle_counted after at like n lt }

-- ---- events that leave as many glyphs as there were

pub steady_plain : (es : List Event) → AreSteady es → IsPlain es
steady_plain [] p = tt
steady_plain (Replace at taken given ∷ es) p = absurd p
steady_plain (Circle after beside like ∷ es) p = absurd p
steady_plain (Delete at ∷ es) p = absurd p
steady_plain (Arrange from order ∷ es) p = absurd p
steady_plain (Reverse ∷ es) p = absurd p
steady_plain (Merge how from to ∷ es) p = steady_plain es p
steady_plain (MergeGrapheme from to ∷ es) p = steady_plain es p
steady_plain (Move how from order ∷ es) p = steady_plain es p
steady_plain (Sort from order ∷ es) p = (p.0, steady_plain es p.1)
steady_plain (Break from to ∷ es) p = steady_plain es p
steady_plain (Concat from to ∷ es) p = steady_plain es p
steady_plain (Tatweel from to ∷ es) p = steady_plain es p
steady_plain (StrictBreak from to ∷ es) p = steady_plain es p
steady_plain (Spread ∷ es) p = steady_plain es p
steady_plain (Reset ∷ es) p = steady_plain es p

pub steady_unturned : (es : List Event) → AreSteady es → IsUnturned es
steady_unturned [] p = tt
steady_unturned (Replace at taken given ∷ es) p = absurd p
steady_unturned (Circle after beside like ∷ es) p = absurd p
steady_unturned (Delete at ∷ es) p = absurd p
steady_unturned (Arrange from order ∷ es) p = absurd p
steady_unturned (Reverse ∷ es) p = absurd p
steady_unturned (Merge how from to ∷ es) p = steady_unturned es p
steady_unturned (MergeGrapheme from to ∷ es) p = steady_unturned es p
steady_unturned (Move how from order ∷ es) p = steady_unturned es p
steady_unturned (Sort from order ∷ es) p = steady_unturned es p.1
steady_unturned (Break from to ∷ es) p = steady_unturned es p
steady_unturned (Concat from to ∷ es) p = steady_unturned es p
steady_unturned (Tatweel from to ∷ es) p = steady_unturned es p
steady_unturned (StrictBreak from to ∷ es) p = steady_unturned es p
steady_unturned (Spread ∷ es) p = steady_unturned es p
steady_unturned (Reset ∷ es) p = steady_unturned es p

pub steady_giving : (es : List Event) → AreSteady es → AreGiving es
steady_giving [] p = tt
steady_giving (Replace at taken given ∷ es) p = absurd p
steady_giving (Circle after beside like ∷ es) p = absurd p
steady_giving (Delete at ∷ es) p = absurd p
steady_giving (Arrange from order ∷ es) p = absurd p
steady_giving (Reverse ∷ es) p = absurd p
steady_giving (Merge how from to ∷ es) p = steady_giving es p
steady_giving (MergeGrapheme from to ∷ es) p = steady_giving es p
steady_giving (Move how from order ∷ es) p = steady_giving es p
steady_giving (Sort from order ∷ es) p = steady_giving es p.1
steady_giving (Break from to ∷ es) p = steady_giving es p
steady_giving (Concat from to ∷ es) p = steady_giving es p
steady_giving (Tatweel from to ∷ es) p = steady_giving es p
steady_giving (StrictBreak from to ∷ es) p = steady_giving es p
steady_giving (Spread ∷ es) p = steady_giving es p
steady_giving (Reset ∷ es) p = steady_giving es p

pub steady_count : (n : ℕ) (es : List Event) → AreSteady es → count_after es n ≡ n
steady_count n [] p = refl
steady_count n (Replace at taken given ∷ es) p = absurd p
steady_count n (Circle after beside like ∷ es) p = absurd p
steady_count n (Delete at ∷ es) p = absurd p
steady_count n (Arrange from order ∷ es) p = absurd p
steady_count n (Reverse ∷ es) p = absurd p
steady_count n (Merge how from to ∷ es) p = steady_count n es p
steady_count n (MergeGrapheme from to ∷ es) p = steady_count n es p
steady_count n (Move how from order ∷ es) p = steady_count n es p
steady_count n (Sort from order ∷ es) p = steady_count n es p.1
steady_count n (Break from to ∷ es) p = steady_count n es p
steady_count n (Concat from to ∷ es) p = steady_count n es p
steady_count n (Tatweel from to ∷ es) p = steady_count n es p
steady_count n (StrictBreak from to ∷ es) p = steady_count n es p
steady_count n (Spread ∷ es) p = steady_count n es p
steady_count n (Reset ∷ es) p = steady_count n es p

pub both_steady : (es fs : List Event) → AreSteady es → AreSteady fs → AreSteady (es ++ fs)
both_steady [] fs p q = q
both_steady (Replace at taken given ∷ es) fs p q = absurd p
both_steady (Circle after beside like ∷ es) fs p q = absurd p
both_steady (Delete at ∷ es) fs p q = absurd p
both_steady (Arrange from order ∷ es) fs p q = absurd p
both_steady (Reverse ∷ es) fs p q = absurd p
both_steady (Merge how from to ∷ es) fs p q = both_steady es fs p q
both_steady (MergeGrapheme from to ∷ es) fs p q = both_steady es fs p q
both_steady (Move how from order ∷ es) fs p q = both_steady es fs p q
both_steady (Sort from order ∷ es) fs p q = (p.0, both_steady es fs p.1 q)
both_steady (Break from to ∷ es) fs p q = both_steady es fs p q
both_steady (Concat from to ∷ es) fs p q = both_steady es fs p q
both_steady (Tatweel from to ∷ es) fs p q = both_steady es fs p q
both_steady (StrictBreak from to ∷ es) fs p q = both_steady es fs p q
both_steady (Spread ∷ es) fs p q = both_steady es fs p q
both_steady (Reset ∷ es) fs p q = both_steady es fs p q

pub steady_kept : (es : List Event) (n : ℕ) → AreSteady es → ArePlainlyKept es n n
steady_kept es n p = record { plain = steady_plain es p; unturned = steady_unturned es p; giving = steady_giving es p; counted = steady_count n es p }
