-- Positions.
use Rattle.std.proofs.Common.{◌≡◌, Bool, true, false, if◌then◌else◌, List, [], ◌∷◌, Ok, map, take, length, reverse, refl, sym, ap, subst, ◌∙◌}
use Rattle.std.proofs.lemmas.List.{length-replicate, length-reverse, take-append-drop}
use Rattle.std.specs.List.{list_all}
use Rattle.std.proofs.lemmas.Grind.{reverse_onto}
use Rattle.std.proofs.lemmas.List.{map-append}
use Rattle.std.proofs.lemmas.List.Folds.{list_all-append}
use Rattle.std.specs.Prelude.{◌&&◌, Option, Some, None}
use Rattle.buffer_common.specs.Direction.{is_backward}
use Rattle.buffer_common.specs.declared.direction.Direction.{Direction}
use Rattle.buffer_common.specs.declared.script.Script.{Script}
use Rattle.buffer_glyphs.specs.Items.{item_of, strip, zero_position}
use Rattle.buffer_glyphs.specs.Origins.{origin_of, origins}
use Rattle.buffer_glyphs.specs.Events.{Reverse}
use Rattle.buffer_core.specs.Readings.{Follows, BufferState, View, always, with_events}
use Rattle.buffer_core.specs.Steps.{follows_events}
use Rattle.buffer_core.specs.Sides.{Sides, all_glyphs, items_of, after_reverse, state_of, view_of, with_cleared_positions}
use Rattle.buffer_stages.specs.Buffers.{are_glyphs}
use Rattle.buffer_stages.specs.Ready.{IsDone, IsReady}
use Rattle.buffer_stages.specs.Settings.{text_flags}
use Rattle.buffer_stages.specs.Stages.{IsFollowed}
use Rattle.shape_fallback.specs.Zeroing.{with_marks_zeroed}
use Rattle.shape_fallback.specs.Marks.{components_direction, with_positioned_marks}
use Rattle.script_plan.specs.Fits.{script_or_unknown}
use Rattle.shape_glyphs.specs.Widths.{ignorable_position, keeps_widths, zero_widths}
use Rattle.buffer_stages.specs.PositionMaps.{with_positions_mapped}
use Rattle.shape_pipeline.specs.Positioning.{adjusts_marks, visual_order, marks_positioned, marks_zeroed, with_zero_positions}
use Rattle.shape_pipeline.specs.Shaping.{Shaping}
use Rattle.shape_pipeline.proofs.Sets.{widths_followed}
use Rattle.buffer_core.proofs.Kept.{all_reversed}

pub cleared_done : (s new : Sides) → IsReady s → new ≡ with_cleared_positions s → IsDone (always with_zero_positions) s new
cleared_done s new ready e =
    let P : Sides → Type 0 = λ n. IsDone (always with_zero_positions) s n in
    subst P (sym e) (record {
      follows = refl;
      settings = refl;
      ready = record {
        closed = ready.closed;
        front = ready.front;
        unread = ready.unread;
        placed = length-replicate (length s.positions) zero_position ∙ ready.placed;
        unrefused = ready.unrefused;
      };
      numbers = λ h. h;
    })

-- ---- stages that move glyphs, and leave them

widths_items : (b : Bool) (v : View) → (if b then with_events [] v else with_positions_mapped ignorable_position v).view.items ≡ v.items
widths_items true v = refl
widths_items false v = refl

pub widths_done : (s new : Sides) → IsFollowed (always (zero_widths s.flags)) s new → IsDone (always (zero_widths (text_flags s.flags))) s new
widths_done s new f =
    let g = widths_followed s.flags s new f in
    let same : items_of new ≡ items_of s = ap (λ (r : BufferState). r.view.items) f.follows ∙ widths_items (keeps_widths s.flags) (view_of s) in
    record { follows = g.follows; settings = g.settings; ready = g.ready; numbers = λ h. ap are_glyphs same ∙ h }

pub zeroed_done : (p : Shaping) (b : Bool) (s new : Sides) → b ≡ adjusts_marks p s.direction → IsDone (always (with_marks_zeroed b)) s new → IsDone (always (marks_zeroed p)) s new
zeroed_done p b s new e d =
    let P : Bool → Type 0 = λ c. IsDone (always (with_marks_zeroed c)) s new in
    let there = subst P e d in
    record { follows = there.follows; settings = there.settings; ready = there.ready; numbers = there.numbers }

-- no script counts as `UNKNOWN`, whose direction is from left to right
components_of_script : (d : Direction) (script : Option Script) → components_direction d script ≡ components_direction d (Some (script_or_unknown script))
components_of_script d None = refl
components_of_script d (Some s) = refl

pub marks_done : (p : Shaping) (script : Option Script) (d : Direction) (b : Bool) (s new : Sides) → p.script ≡ script_or_unknown script → d ≡ components_direction p.direction script → b ≡ adjusts_marks p s.direction → IsDone (always (with_positioned_marks p.font d b)) s new → IsDone (always (marks_positioned p)) s new
marks_done p script d b s new known components e done =
    let P : Bool → Type 0 = λ c. IsDone (always (with_positioned_marks p.font d c)) s new in
    let Q : Direction → Type 0 = λ x. IsDone (always (with_positioned_marks p.font x (adjusts_marks p s.direction))) s new in
    let direction = components ∙ components_of_script p.direction script ∙ ap (λ x. components_direction p.direction (Some x)) (sym known) in
    let there = subst Q direction (subst P e done) in
    record { follows = there.follows; settings = there.settings; ready = there.ready; numbers = there.numbers }

-- ---- the order on the line

map-reverse : {X Y : Type 0} (f : X → Y) (xs : List X) → map f (reverse xs) ≡ reverse (map f xs)
map-reverse f [] = refl
map-reverse f (x ∷ xs) = rw (reverse_onto xs x [], map-append, map-reverse f xs, reverse_onto (map f xs) (f x) []) refl

and_turned : (a b : Bool) → (a && (b && true)) ≡ (b && a)
and_turned true true = refl
and_turned true false = refl
and_turned false true = refl
and_turned false false = refl

list_all-reverse : {X : Type 0} (p : X → Bool) (xs : List X) → list_all p (reverse xs) ≡ list_all p xs
list_all-reverse p [] = refl
list_all-reverse p (x ∷ xs) = rw (reverse_onto xs x [], list_all-append, list_all-reverse p xs) (and_turned (list_all p xs) (p x))

abbrev reversed_view : View → View
reversed_view v = record v { items = reverse v.items; positions = reverse v.positions }

reversed_follows : (s : Sides) → Follows (Ok (with_events (Reverse ∷ []) (reversed_view (view_of s)))) (state_of s) (state_of (after_reverse s))
reversed_follows s =
    let items : items_of (after_reverse s) ≡ reverse (items_of s) = ap strip (all_reversed s) ∙ map-reverse item_of (all_glyphs s) in
    let view : view_of (after_reverse s) ≡ reversed_view (view_of s) = ap (λ xs. record (reversed_view (view_of s)) { items = xs }) items in
    follows_events (Reverse ∷ []) (reversed_view (view_of s)) (state_of s) (state_of (after_reverse s)) view (ap origins (all_reversed s) ∙ map-reverse origin_of (all_glyphs s)) refl refl

reversed_ready : (s : Sides) → IsReady s → IsReady (after_reverse s)
reversed_ready s ready = record {
  closed = ready.closed;
  front = ap (λ n. take n (reverse (all_glyphs s))) ready.unread;
  unread = ready.unread;
  placed = length-reverse s.positions ∙ ready.placed ∙ sym (length-reverse (all_glyphs s)) ∙ sym (ap (λ gs. length gs) (all_reversed s));
  unrefused = ready.unrefused;
}

reversed_numbers : (s : Sides) → are_glyphs (items_of s) ≡ true → are_glyphs (items_of (after_reverse s)) ≡ true
reversed_numbers s h = ap are_glyphs (ap strip (all_reversed s) ∙ map-reverse item_of (all_glyphs s)) ∙ list_all-reverse _ (items_of s) ∙ h

-- a line that runs backward is turned round
pub turned_drawn : (s new : Sides) → is_backward s.direction ≡ true → new ≡ after_reverse s → IsReady s → IsDone (always visual_order) s new
turned_drawn s new backward e ready =
    let P : Sides → Type 0 = λ n. IsDone (always visual_order) s n in
    let Q : Bool → Type 0 = λ b. Follows (Ok (if b then with_events (Reverse ∷ []) (reversed_view (view_of s)) else with_events [] (view_of s))) (state_of s) (state_of (after_reverse s)) in
    subst P (sym e) (record {
      follows = subst Q (sym backward) (reversed_follows s);
      settings = refl;
      ready = reversed_ready s ready;
      numbers = reversed_numbers s;
    })

pub stays_drawn : (s : Sides) → is_backward s.direction ≡ false → IsReady s → IsDone (always visual_order) s s
stays_drawn s forward ready =
    let Q : Bool → Type 0 = λ b. Follows (Ok (if b then with_events (Reverse ∷ []) (reversed_view (view_of s)) else with_events [] (view_of s))) (state_of s) (state_of s) in
    record {
      follows = subst Q (sym forward) refl;
      settings = refl;
      ready = ready;
      numbers = λ h. h;
    }
