-- The order of Arabic marks keeps the length of a run, and its events are steady.
use Rattle.std.proofs.Common.{ℕ, ◌≡◌, ◌≤◌, ◌+◌, ◌-◌, ◌==◌, Bool, true, false, if◌then◌else◌, List, [], ◌∷◌, ◌++◌, length, map, take, drop, refl, ◌∙◌, arith}
use Rattle.std.specs.Prelude.{max, nat_lt}
use Rattle.std.proofs.lemmas.List.{length-append, length-drop, length-map, length-take-le}
use Rattle.std.proofs.lemmas.List.Sums.{prefix_len-le-length}
use Rattle.buffer_properties.specs.Characters.{mark_class}
use Rattle.buffer_glyphs.specs.declared.level.BufferClusterLevel.{BufferClusterLevel}
use Rattle.buffer_glyphs.specs.Items.{Item}
use Rattle.buffer_glyphs.specs.Levels.{InList}
use Rattle.buffer_glyphs.specs.Events.{Event, Move}
use Rattle.buffer_parts.specs.Plainly.{AreSteady}
use Rattle.buffer_core.specs.Readings.{Read, View, with_events}
use Rattle.buffer_glyphs.specs.Origins.{with_range_changed}
use Rattle.buffer_glyphs.specs.Rewriting.{Arrangement, eventless_arrangement, shifted_event}
use Rattle.buffer_stages.specs.Moves.{with_move, with_range_moved, order_of_move}
use Rattle.buffer_stages.specs.Lemmas.Moves.{moved_length}
use Rattle.script_arabic.specs.Marks.{item_with_class, count_below, count_leading, is_modifier_of, with_leading_marks, with_range_classed, run_of_items, with_leading}
use Rattle.script_arabic.specs.MarkOrder.{rest_arranged, leading_first, leading_marks, ArabicOrderIsSteady, ArabicOrderKeepsCount, MarksAreSteady}

pub leads_within : (class : ℕ) (run : List Item) → count_below class run + count_leading class run ≤ length run
leads_within class run =
    let n = count_below class run in
    let a = prefix_len-le-length (λ (x : Item). nat_lt (mark_class x) class) run in
    let b = prefix_len-le-length (is_modifier_of class) (drop n run) in
    omega (arith, a, b, length-drop n run)

changed_length : (f : Item → Item) (n : ℕ) (xs : List Item) → n ≤ length xs → length (with_range_changed f 0 n xs) ≡ length xs
changed_length f n xs le =
    let a = length-append (map f (take (n - 0) xs)) (drop (max 0 n) xs) in
    let b = length-map (take (n - 0) xs) f in
    let c = length-take-le (n - 0) xs (omega (arith, le)) in
    let d = length-drop (max 0 n) xs in
    omega (arith, a, b, c, d, le)

abbrev led_if : ℕ → ℕ → ℕ → List Item → Bool → Arrangement
led_if class below leading run t =
    if t then eventless_arrangement run else record { items = with_range_changed (item_with_class class) 0 leading (with_range_moved 0 below leading run); events = Move InList 0 (order_of_move below leading) ∷ [] }

pub led_length : (class below leading : ℕ) (run : List Item) → below + leading ≤ length run → length (leading_marks class below leading run).items ≡ length run
led_length class below leading run le = by_test (leading == 0)
  where
    by_test : (t : Bool) → length (led_if class below leading run t).items ≡ length run
    by_test true = refl
    by_test false =
        let a = moved_length 0 below leading run (omega (arith, le)) in
        changed_length (item_with_class class) leading (with_range_moved 0 below leading run) (omega (arith, a, le)) ∙ a

pub leading_length : (class new : ℕ) (run : List Item) → length (leading_first class new run).items ≡ length run
leading_length class new run = led_length new (count_below class run) (count_leading class run) run (leads_within class run)

rest_length : (n : ℕ) (order : List Item → Arrangement) (run : List Item) → ((xs : List Item) → length (order xs).items ≡ length xs) → n ≤ length run → length (rest_arranged n order run).items ≡ length run
rest_length n order run h le =
    let a = length-append (take n run) (order (drop n run)).items in
    let b = h (drop n run) in
    let c = length-take-le n run le in
    omega (arith, a, b, c, length-drop n run, le)

pub arabic_length : ArabicOrderKeepsCount
arabic_length run =
    let first = leading_first 220 25 run in
    let a = leading_length 220 25 run in
    let b = leads_within 220 run in
    rest_length (count_leading 220 run) (leading_first 230 26) first.items (leading_length 230 26) (omega (arith, a, b)) ∙ a

led_steady : (class below leading : ℕ) (run : List Item) (es : List Event) → AreSteady es → AreSteady ((leading_marks class below leading run).events ++ es)
led_steady class below leading run es h = by_test (leading == 0)
  where
    by_test : (t : Bool) → AreSteady ((led_if class below leading run t).events ++ es)
    by_test true = h
    by_test false = h

led_shifted : (n class below leading : ℕ) (run : List Item) → AreSteady (map (shifted_event n) (leading_marks class below leading run).events)
led_shifted n class below leading run = by_test (leading == 0)
  where
    by_test : (t : Bool) → AreSteady (map (shifted_event n) (led_if class below leading run t).events)
    by_test true = tt
    by_test false = tt

pub arabic_steady : ArabicOrderIsSteady
arabic_steady run =
    let n = count_leading 220 run in
    let ys = drop n (leading_first 220 25 run).items in
    led_steady 25 (count_below 220 run) n run (map (shifted_event n) (leading_first 230 26 ys).events) (led_shifted n 26 (count_below 230 ys) (count_leading 230 ys) ys)

-- ---- as a stage

stage_led_steady : (class start below leading : ℕ) (v : View) (level : BufferClusterLevel) (es : List Event) → AreSteady es → AreSteady ((with_leading_marks class start below leading v).events level ++ es)
stage_led_steady class start below leading v level es h =
    elim (leading == 0) as (λ b. AreSteady ((if b then with_events [] v else with_range_classed class start (start + leading) (with_move start below leading v)).events level ++ es)) [ true ↦ h | false ↦ h ]

stage_led_alone : (class start below leading : ℕ) (v : View) (level : BufferClusterLevel) → AreSteady ((with_leading_marks class start below leading v).events level)
stage_led_alone class start below leading v level =
    elim (leading == 0) as (λ b. AreSteady ((if b then with_events [] v else with_range_classed class start (start + leading) (with_move start below leading v)).events level)) [ true ↦ tt | false ↦ tt ]

pub marks_are_steady : MarksAreSteady
marks_are_steady start end v level =
    let r : Read = with_leading 220 25 start end v in
    let n = count_leading 220 (run_of_items start end v) in
    let second : Read = with_leading 230 26 (start + n) end r.view in
    stage_led_steady 25 start (count_below 220 (run_of_items start end v)) n v level (second.events level)
    (stage_led_alone 26 (start + n) (count_below 230 (run_of_items (start + n) end r.view)) (count_leading 230 (run_of_items (start + n) end r.view)) r.view level)
