-- Orders of marks that move some before others.
use Rattle.std.proofs.Common.{ℕ, zero, suc, ◌≡◌, ◌≤◌, ◌+◌, ◌-◌, ◌==◌, Bool, true, false, if◌then◌else◌, List, [], ◌∷◌, ◌++◌, length, map, take, drop, Option, None, Some, arith, refl, sym, ap, subst, ◌∙◌}
use Rattle.std.specs.Prelude.{max}
use Rattle.std.proofs.lemmas.List.{length-drop, length-take-le, map-append}
use Rattle.std.proofs.lemmas.List.Sums.{fold-append}
use Rattle.buffer_glyphs.specs.Events.{Event, Move}
use Rattle.buffer_glyphs.specs.Items.{Item}
use Rattle.buffer_glyphs.specs.Levels.{InList}
use Rattle.buffer_glyphs.specs.Origins.{with_range_changed}
use Rattle.buffer_glyphs.specs.Rewriting.{Arrangement, and_arranged, eventless_arrangement, shifted_event}
use Rattle.buffer_parts.specs.Counts.{count_after, count_after_event}
use Rattle.buffer_stages.specs.Moves.{order_of_move, with_range_moved}
use Rattle.buffer_stages.specs.Lemmas.Moves.{moved_length}
use Rattle.buffer_parts.specs.Breaks.Concat.{without_concats}
use Rattle.buffer_parts.specs.Breaks.Fragments.{AreGiven}
use Rattle.buffer_parts.specs.Breaks.Lossless.{AreLossless}
use Rattle.buffer_parts.specs.Breaks.Sides.{AreBounded}
use Rattle.buffer_parts.proofs.BreakLemmas.Events.{both_lossless}
use Rattle.buffer_parts.proofs.BreakLemmas.Orders.{moves_permute}
use Rattle.script_hebrew.specs.Hebrew.{first_three}
use Rattle.script_hebrew.specs.MarkOrder.{hebrew_order, with_marks_swapped}
use Rattle.script_hebrew.proofs.MarkCounts.{hebrew_length, three_within}
use Rattle.script_arabic.specs.Marks.{count_below, count_leading, item_with_class}
use Rattle.script_arabic.specs.MarkOrder.{arabic_order, leading_first, rest_arranged}
use Rattle.script_arabic.proofs.MarkCounts.{arabic_length, leading_length, leads_within}
use Rattle.shape_laws.specs.Breaks.Rewrites.{IsRewrite, RewritesRuns}
use Rattle.shape_laws.proofs.BreakLemmas.Rewrites.{beside_rewrite, eventless_rewrite}
use Rattle.shape_laws.proofs.BreakLemmas.Letters.{shifted_both as both_shifted}
use Rattle.layout_laws.proofs.BreakLemmas.Walks.{bounded_both as both_bounded}
use Rattle.buffer_parts.specs.Lemmas.Plainly.{both_plain}
use Rattle.layout_laws.proofs.BreakLemmas.Frames.{given_both}
use Rattle.buffer_parts.proofs.BreakLemmas.Division.{without_both}

-- ---- ligature numbers

pub given_first : (n last : ℕ) (xs : List Item) → AreGiven last xs → AreGiven last (take n xs)
given_first zero last xs h = tt
given_first (suc n) last [] h = tt
given_first (suc n) last (x ∷ xs) h = (h.0, given_first n last xs h.1)

pub given_from : (n last : ℕ) (xs : List Item) → AreGiven last xs → AreGiven last (drop n xs)
given_from zero last xs h = h
given_from (suc n) last [] h = tt
given_from (suc n) last (x ∷ xs) h = given_from n last xs h.1

given_moved : (start n k : ℕ) (xs : List Item) → AreGiven 0 xs → AreGiven 0 (with_range_moved start n k xs)
given_moved start n k xs h =
    let first = take n (drop start xs) in
    let second = take k (drop (start + n) xs) in
    given_both 0 (take start xs ++ (second ++ first)) (drop (start + (n + k)) xs)
    (given_both 0 (take start xs) (second ++ first) (given_first start 0 xs h)
    (given_both 0 second first (given_first k 0 (drop (start + n) xs) (given_from (start + n) 0 xs h)) (given_first n 0 (drop start xs) (given_from start 0 xs h))))
    (given_from (start + (n + k)) 0 xs h)

given_classed : (class : ℕ) (xs : List Item) → AreGiven 0 xs → AreGiven 0 (map (item_with_class class) xs)
given_classed class [] h = tt
given_classed class (x ∷ xs) h = (h.0, given_classed class xs h.1)

given_changed : (class to : ℕ) (xs : List Item) → AreGiven 0 xs → AreGiven 0 (with_range_changed (item_with_class class) 0 to xs)
given_changed class to xs h =
    given_both 0 (map (item_with_class class) (take (to - 0) xs)) (drop (max 0 to) xs) (given_classed class (take (to - 0) xs) (given_first (to - 0) 0 xs h)) (given_from (max 0 to) 0 xs h)

-- ---- one move

pub move_rewrite : (start n k taken : ℕ) (given : List Item) → start + (n + k) ≤ taken → length given ≡ taken → AreGiven 0 given → IsRewrite taken (record { items = given; events = Move InList start (order_of_move n k) ∷ [] })
move_rewrite start n k taken given fits many h = record {
  bounded = λ from m le. ((moves_permute (from + start) n k m (omega (arith, fits, le))).within, tt);
  lossless = λ from m le. (moves_permute (from + start) n k m (omega (arith, fits, le)), tt);
  counted = λ from m le. omega (arith, many, le);
  plain = tt;
  no_concat = refl;
  given = h;
}

-- ---- one arrangement, and another of what it leaves

pub then_arranged : (k : ℕ) (a : Arrangement) (next : List Item → Arrangement) → IsRewrite k a → IsRewrite (length a.items) (next a.items) → IsRewrite k (and_arranged a next)
then_arranged k a next p q =
    let b = next a.items in
    record {
      bounded = λ from n le.
          let counted = p.counted from n le in
          subst (λ es. AreBounded es n) (sym (both_shifted from a.events b.events))
          (both_bounded (map (shifted_event from) a.events) (map (shifted_event from) b.events) n (p.bounded from n le) (q.bounded from (count_after (map (shifted_event from) a.events) n) (omega (arith, counted, le))));
      lossless = λ from n le.
          let counted = p.counted from n le in
          subst (λ es. AreLossless es n) (sym (both_shifted from a.events b.events))
          (both_lossless (map (shifted_event from) a.events) (map (shifted_event from) b.events) n (p.lossless from n le) (q.lossless from (count_after (map (shifted_event from) a.events) n) (omega (arith, counted, le))));
      counted = λ from n le.
          let second = q.counted from (n - k + length a.items) (omega (arith, le)) in
          ap (λ es. count_after es n) (both_shifted from a.events b.events)
          ∙ fold-append count_after_event n (map (shifted_event from) a.events) (map (shifted_event from) b.events)
          ∙ ap (count_after (map (shifted_event from) b.events)) (p.counted from n le)
          ∙ second ∙ omega (arith, le);
      plain = both_plain a.events b.events p.plain q.plain;
      no_concat = without_both a.events b.events ∙ ap (λ es. es ++ without_concats b.events) p.no_concat ∙ ap (λ es. a.events ++ es) q.no_concat;
      given = q.given;
    }

-- ---- Hebrew

pub hebrew_rewrites : RewritesRuns hebrew_order
hebrew_rewrites run h = (by_index (first_three run) refl, hebrew_length run)
  where
    by_index : (o : Option ℕ) → first_three run ≡ o → IsRewrite (length run) (with_marks_swapped o run)
    by_index None e = eventless_rewrite run h
    by_index (Some n) e =
        let le = three_within run n e in
        move_rewrite (n + 1) 1 1 (length run) (with_range_moved (n + 1) 1 1 run) (omega (arith, le)) (moved_length (n + 1) 1 1 run (omega (arith, le))) (given_moved (n + 1) 1 1 run h)

-- ---- Arabic

leading_rewrite : (class new : ℕ) (run : List Item) → AreGiven 0 run → IsRewrite (length run) (leading_first class new run)
leading_rewrite class new run h = by_test (count_leading class run == 0) (leading_length class new run)
  where
    by_test : (t : Bool) → length (if t then eventless_arrangement run
        else record { items = with_range_changed (item_with_class new) 0 (count_leading class run) (with_range_moved 0 (count_below class run) (count_leading class run) run); events = Move InList 0 (order_of_move (count_below class run) (count_leading class run)) ∷ [] }).items ≡ length run
        → IsRewrite (length run) (if t then eventless_arrangement run
        else record { items = with_range_changed (item_with_class new) 0 (count_leading class run) (with_range_moved 0 (count_below class run) (count_leading class run) run); events = Move InList 0 (order_of_move (count_below class run) (count_leading class run)) ∷ [] })
    by_test true many = eventless_rewrite run h
    by_test false many =
        let below = count_below class run in
        let leading = count_leading class run in
        let moved = with_range_moved 0 below leading run in
        let le = leads_within class run in
        move_rewrite 0 below leading (length run) (with_range_changed (item_with_class new) 0 leading moved) (omega (arith, le)) many (given_changed new leading moved (given_moved 0 below leading run h))

-- the items after a number of first ones, beside these
rest_rewrite : (n : ℕ) (order : List Item → Arrangement) (run : List Item) → n ≤ length run → AreGiven 0 run → ((xs : List Item) → AreGiven 0 xs → IsRewrite (length xs) (order xs)) → IsRewrite (length run) (rest_arranged n order run)
rest_rewrite n order run le h rewrites =
    let first : length (take n run) ≡ n = length-take-le n run le in
    let rest = length-drop n run in
    let both = beside_rewrite (length (take n run)) (length (drop n run)) (eventless_arrangement (take n run)) (order (drop n run)) (eventless_rewrite (take n run) (given_first n 0 run h)) (rewrites (drop n run) (given_from n 0 run h)) in
    let all : length (take n run) + length (drop n run) ≡ length run = omega (arith, first, rest, le) in
    subst (λ (m : ℕ). IsRewrite m (rest_arranged n order run)) all
    (subst (λ (m : ℕ). IsRewrite (length (take n run) + length (drop n run)) (record { items = take n run ++ (order (drop n run)).items; events = map (shifted_event m) (order (drop n run)).events })) first both)

pub arabic_rewrites : RewritesRuns arabic_order
arabic_rewrites run h =
    let first = leading_first 220 25 run in
    let p = leading_rewrite 220 25 run h in
    let many = leading_length 220 25 run in
    let le = leads_within 220 run in
    let next = rest_arranged (count_leading 220 run) (leading_first 230 26) in
    (then_arranged (length run) first next p (rest_rewrite (count_leading 220 run) (leading_first 230 26) first.items (omega (arith, many, le)) p.given (leading_rewrite 230 26)), arabic_length run)
