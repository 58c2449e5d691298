-- A run of Arabic marks between two ranges that are unchanged is reordered.
use Rattle.std.proofs.Common.{ℕ, ◌≡◌, ◌≤◌, ◌+◌, ◌==◌, Bool, true, false, if◌then◌else◌, List, [], ◌∷◌, ◌++◌, length, map, take, drop, refl, sym, ap, ◌∙◌, arith, append_assoc}
use Rattle.std.specs.Prelude.{slice_range}
use Rattle.std.proofs.lemmas.List.{length-append, length-drop, length-take-le, take-append-drop, map-append}
use Rattle.buffer_glyphs.specs.Items.{Item}
use Rattle.buffer_glyphs.specs.Levels.{InList}
use Rattle.buffer_glyphs.specs.declared.level.BufferClusterLevel.{BufferClusterLevel}
use Rattle.buffer_glyphs.specs.Events.{Event, Merge, MergeGrapheme, Replace, Circle, Delete, Move, Arrange, Sort, Reverse, Break, Concat, Tatweel, StrictBreak, Spread, Reset}
use Rattle.buffer_glyphs.specs.Origins.{with_range_changed}
use Rattle.buffer_core.specs.Readings.{Read, View, always, with_events}
use Rattle.buffer_core.specs.Sides.{Sides, items_of, view_of}
use Rattle.buffer_stages.specs.Ready.{IsReady}
use Rattle.buffer_stages.specs.Stages.{IsFollowed}
use Rattle.buffer_glyphs.specs.Rewriting.{Arrangement, eventless_arrangement, shifted_event}
use Rattle.buffer_stages.specs.Rearranged.{IsRearranged}
use Rattle.buffer_stages.specs.Moves.{with_range_moved, order_of_move, with_move}
use Rattle.buffer_stages.specs.Lemmas.Moves.{moved_length}
use Rattle.script_syllabic.proofs.RangesBetween.{changed_between, moved_between, run_seen, stage_rearranges}
use Rattle.script_arabic.specs.Marks as arabic
use Rattle.script_arabic.specs.MarkOrder.{arabic_order, leading_first, leading_marks}
use Rattle.script_arabic.proofs.MarkCounts.{leads_within, leading_length}
use Rattle.buffer_stages.specs.Lemmas.Shifts.{shift_events, shift_event, further}

moved_size : (below leading : ℕ) (run : List Item) → below + leading ≤ length run → length (with_range_moved 0 below leading run) ≡ length run
moved_size below leading run le = moved_length 0 below leading run (omega (arith, le))

abbrev led_items : ℕ → ℕ → ℕ → ℕ → View → Bool → Read
led_items class start below leading v t = if t then with_events [] v else arabic.with_range_classed class start (start + leading) (with_move start below leading v)

abbrev led_here : ℕ → ℕ → ℕ → List Item → Bool → Arrangement
led_here class below leading run t =
    if t then eventless_arrangement run else record { items = with_range_changed (arabic.item_with_class class) 0 leading (with_range_moved 0 below leading run); events = Move InList 0 (order_of_move below leading) ∷ [] }

-- marks that lead a run, seen in the whole list
record IsLed (class start below leading : ℕ) (front run rest : List Item) (v : View) : Type 0 where
  view : (arabic.with_leading_marks class start below leading v).view ≡ record v { items = front ++ ((leading_marks class below leading run).items ++ rest) }
  events : (level : BufferClusterLevel) → (arabic.with_leading_marks class start below leading v).events level ≡ map (shifted_event (length front)) (leading_marks class below leading run).events

led_between : (class start below leading : ℕ) (front run rest : List Item) (v : View) → v.items ≡ front ++ (run ++ rest) → length front ≡ start → below + leading ≤ length run → IsLed class start below leading front run rest v
led_between class start below leading front run rest v e at le = record { view = seen (leading == 0); events = λ level. happened level (leading == 0) }
  where
    first : start ≡ length front + 0
    first = omega (arith, at)

    last : start + leading ≡ length front + leading
    last = omega (arith, at)

    seen : (t : Bool) → (led_items class start below leading v t).view ≡ record v { items = front ++ ((led_here class below leading run t).items ++ rest) }
    seen true = ap (λ xs. record v { items = xs }) e
    seen false =
        let long = moved_size below leading run le in
        ap (λ xs. record v { items = xs })
        (ap (λ xs. with_range_changed (arabic.item_with_class class) start (start + leading) (with_range_moved start below leading xs)) e
        ∙ ap (λ m. with_range_changed (arabic.item_with_class class) m (start + leading) (with_range_moved m below leading (front ++ (run ++ rest)))) first
        ∙ ap (λ m. with_range_changed (arabic.item_with_class class) (length front + 0) m (with_range_moved (length front + 0) below leading (front ++ (run ++ rest)))) last
        ∙ ap (with_range_changed (arabic.item_with_class class) (length front + 0) (length front + leading)) (moved_between front run rest 0 below leading (omega (arith, le)))
        ∙ changed_between (arabic.item_with_class class) front (with_range_moved 0 below leading run) rest leading (omega (arith, long, le)))

    happened : (level : BufferClusterLevel) (t : Bool) → (led_items class start below leading v t).events level ≡ map (shifted_event (length front)) (led_here class below leading run t).events
    happened level true = refl
    happened level false = ap (λ m. Move InList m (order_of_move below leading) ∷ []) first

leading_between : (class new start end : ℕ) (front run rest : List Item) (v : View) → v.items ≡ front ++ (run ++ rest) → length front ≡ start → start + length run ≡ end
    → ((arabic.with_leading class new start end v).view ≡ record v { items = front ++ ((leading_first class new run).items ++ rest) })
    × ((level : BufferClusterLevel) → (arabic.with_leading class new start end v).events level ≡ map (shifted_event (length front)) (leading_first class new run).events)
leading_between class new start end front run rest v e at last =
    let seen : slice_range v.items start end ≡ run = ap (λ xs. slice_range xs start end) e ∙ run_seen front run rest start end at last in
    let l = led_between new start (arabic.count_below class run) (arabic.count_leading class run) front run rest v e at (leads_within class run) in
    let same : arabic.with_leading class new start end v ≡ arabic.with_leading_marks new start (arabic.count_below class run) (arabic.count_leading class run) v =
    ap (λ xs. arabic.with_leading_marks new start (arabic.count_below class xs) (arabic.count_leading class xs) v) seen in
    (ap (λ (r : Read). r.view) same ∙ l.view, λ level. ap (λ (r : Read). r.events level) same ∙ l.events level)

pub arabic_rearranges : (start end : ℕ) (a b : Sides) (front run rest : List Item) → IsReady a → IsFollowed (always (arabic.marks_reordered start end)) a b → items_of a ≡ front ++ (run ++ rest) → length front ≡ start → start + length run ≡ end
    → IsRearranged front (arabic_order run) rest a b
arabic_rearranges start end a b front run rest ready f e at last =
    let v = view_of a in
    let n = arabic.count_leading 220 run in
    let first = leading_first 220 25 run in
    let one = leading_between 220 25 start end front run rest v e at last in
    let long = leading_length 220 25 run in
    let few = leads_within 220 run in
    let ys = drop n first.items in
    let mid = front ++ take n first.items in
    let seen : slice_range v.items start end ≡ run = ap (λ xs. slice_range xs start end) e ∙ run_seen front run rest start end at last in
    let count : arabic.count_leading 220 (slice_range v.items start end) ≡ n = ap (arabic.count_leading 220) seen in
    let w = (arabic.with_leading 220 25 start end v).view in
    let there : w.items ≡ mid ++ (ys ++ rest) = ap (λ (u : View). u.items) one.0 ∙ cut front (take n first.items) ys rest first.items (sym (take-append-drop n first.items)) in
    let head : length (take n first.items) ≡ n = length-take-le n first.items (omega (arith, long, few)) in
    let index : length mid ≡ start + n = length-append front (take n first.items) ∙ omega (arith, at, head) in
    let end_is : start + n + length ys ≡ end = omega (arith, length-drop n first.items, long, few, last) in
    let two = leading_between 230 26 (start + n) end mid ys rest w there index end_is in
    let second = leading_first 230 26 ys in
    let to_here : arabic.with_leading 230 26 (start + arabic.count_leading 220 (slice_range v.items start end)) end w ≡ arabic.with_leading 230 26 (start + n) end w = ap (λ m. arabic.with_leading 230 26 (start + m) end w) count in
    let reached : length mid ≡ length front + n = omega (arith, index, at) in
    stage_rearranges (arabic.marks_reordered start end) (arabic_order run) front rest a b ready f
    (ap (λ (r : Read). r.view) to_here ∙ two.0 ∙ ap (λ (u : View). record u { items = mid ++ (second.items ++ rest) }) one.0
    ∙ ap (λ xs. record v { items = xs }) (joins front (take n first.items) second.items rest))
    (ap (λ es. es ++ (arabic.with_leading 230 26 (start + arabic.count_leading 220 (slice_range v.items start end)) end w).events a.level) (one.1 a.level)
    ∙ ap (λ (r : Read). map (shifted_event (length front)) first.events ++ r.events a.level) to_here
    ∙ ap (λ es. map (shifted_event (length front)) first.events ++ es) (two.1 a.level ∙ ap (λ m. map (shifted_event m) second.events) reached ∙ sym (shift_events (length front) n second.events))
    ∙ sym (map-append (shifted_event (length front)) first.events (map (shifted_event n) second.events)))
  where
    joins : (a b c d : List Item) → (a ++ b) ++ (c ++ d) ≡ a ++ ((b ++ c) ++ d)
    joins a b c d = simp append_assoc

    cut : (a b c d whole : List Item) → whole ≡ b ++ c → a ++ (whole ++ d) ≡ (a ++ b) ++ (c ++ d)
    cut a b c d whole e = ap (λ xs. a ++ (xs ++ d)) e ∙ sym (joins a b c d)
