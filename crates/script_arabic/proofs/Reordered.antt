-- Modifier marks that lead a run.
use Rattle.std.proofs.Common.{ℕ, ◌≡◌, ◌≤◌, ◌+◌, ◌-◌, ◌==◌, Bool, true, false, if◌then◌else◌, List, [], ◌∷◌, ◌++◌, Ok, length, map, take, drop, arith, refl, ap, sym, ◌∙◌, append_assoc}
use Rattle.std.specs.Prelude.{max, nat_lt, slice_range}
use Rattle.std.specs.List.{prefix_len}
use Rattle.std.proofs.lemmas.List.{drop-drop, drop-map, length-drop, length-map, take_all}
use Rattle.buffer_glyphs.specs.Lemmas.Origins.{slice_seen, within_kept, within_seen}
use Rattle.std.proofs.lemmas.Bool.{eqb-true, false_from_ne_true}
use borrow.Rule.Slice.PartMut.{put_mid}
use Rattle.buffer_glyphs.specs.declared.info.hb_glyph_info_t.{hb_glyph_info_t}
use Rattle.buffer_properties.specs.Characters.{mark_class}
use Rattle.buffer_glyphs.specs.Items.{Item, Position, item_of, strip}
use Rattle.buffer_glyphs.specs.Origins.{with_range_changed, origin_of, origins}
use Rattle.buffer_core.specs.Readings.{Read, BufferState, View, always, state_after, with_events}
use Rattle.buffer_core.specs.Steps.{run_after_both}
use Rattle.buffer_core.specs.Sides.{Sides, all_glyphs, items_of, origins_of, state_of, view_of}
use Rattle.buffer_core.specs.Lending.{with_refilled}
use Rattle.buffer_stages.specs.Ready.{IsReady}
use Rattle.buffer_stages.specs.Stages.{IsFollowed}
use Rattle.buffer_stages.specs.Lemmas.Written.{happened_followed, written_becomes}
use Rattle.buffer_stages.specs.Moves.{with_move}
use Rattle.script_arabic.specs.Classed.{glyph_classed}
use Rattle.script_arabic.specs.Marks.{item_with_class, count_below, count_leading, is_modifier_of, with_leading_marks, marks_reordered, with_range_classed, with_leading}

-- ---- counts

prefix_seen : (p : Item → Bool) (gs : List hb_glyph_info_t) → prefix_len (λ g. p (item_of g)) gs ≡ prefix_len p (strip gs)
prefix_seen p [] = refl
prefix_seen p (g ∷ gs) = rw (prefix_seen p gs) refl

pub below_seen : (class n : ℕ) (gs : List hb_glyph_info_t) → n ≡ prefix_len (λ g. nat_lt (mark_class (item_of g)) class) gs → n ≡ count_below class (strip gs)
below_seen class n gs e = e ∙ prefix_seen (λ x. nat_lt (mark_class x) class) gs

pub leading_seen : (class n m : ℕ) (gs : List hb_glyph_info_t) → n ≡ count_below class (strip gs) → m ≡ prefix_len (λ g. is_modifier_of class (item_of g)) (take (length gs - n) (drop n gs)) → m ≡ count_leading class (strip gs)
leading_seen class n m gs e f =
    let whole : take (length gs - n) (drop n gs) ≡ drop n gs = take_all (length gs - n) (drop n gs) (omega (arith, length-drop n gs)) in
    f ∙ ap (prefix_len (λ g. is_modifier_of class (item_of g))) whole ∙ prefix_seen (is_modifier_of class) (drop n gs) ∙ ap (prefix_len (is_modifier_of class)) (sym (drop-map item_of n gs)) ∙ ap (λ k. prefix_len (is_modifier_of class) (drop k (strip gs))) e

pub some_leading : (n : ℕ) → (n ≡ 0 → ⊥) → (n == 0) ≡ false
some_leading n h = false_from_ne_true (n == 0) (λ e. h (eqb-true n 0 e))

pub part_seen : (gs : List hb_glyph_info_t) (start end : ℕ) → strip (slice_range gs start end) ≡ slice_range (strip gs) start end
part_seen gs start end = slice_seen item_of start end gs

-- ---- classes

-- a part of a list that was mapped
pub part_changed : {X : Type 0} (f : X → X) (from to : ℕ) (xs ys : List X) → from ≤ to → ys ≡ map f (take (to - from) (drop from xs)) → put_mid from (to - from) xs ys ≡ with_range_changed f from to xs
part_changed f from to xs ys le e =
    let last : from + (to - from) ≡ max from to = omega (arith, le) in
    ap (λ zs. put_mid from (to - from) xs zs) e
    ∙ ap (λ zs. take from xs ++ (map f (slice_range xs from to) ++ zs)) (drop-drop (to - from) from xs ∙ ap (λ k. drop k xs) last)
    ∙ sym (append_assoc (take from xs) (map f (slice_range xs from to)) (drop (max from to) xs))

pub changed_length : {X : Type 0} (f : X → X) (from to : ℕ) (xs : List X) → length (with_range_changed f from to xs) ≡ length xs
changed_length f from to xs =
    sym (length-map (with_range_changed f from to xs) (λ x. 0)) ∙ ap (λ (ns : List ℕ). length ns) (within_kept (λ x. 0) f from to xs (λ x. refl)) ∙ length-map xs (λ x. 0)

-- ---- the moves

pub none_led : (class start below leading : ℕ) (s : Sides) → (leading == 0) ≡ true → IsReady s → IsFollowed (always (with_leading_marks class start below leading)) s s
none_led class start below leading s e ready = record {
  follows = ap (λ b. state_after (if b then with_events [] (view_of s) else with_range_classed class start (start + leading) (with_move start below leading (view_of s))) (state_of s)) (sym e);
  settings = refl;
  ready = ready;
}

pub led_followed : (class start below leading : ℕ) (s moved : Sides) (gs : List hb_glyph_info_t) → (leading == 0) ≡ false → IsFollowed (always (with_move start below leading)) s moved
    → gs ≡ with_range_changed (glyph_classed class) start (start + leading) (all_glyphs moved) → IsFollowed (always (with_leading_marks class start below leading)) s (with_refilled gs moved)
led_followed class start below leading s moved gs some f e =
    let r : Read = with_move start below leading (view_of s) in
    let xs : List Item = with_range_changed (item_with_class class) start (start + leading) r.view.items in
    let there : items_of moved ≡ r.view.items = ap (λ (run : BufferState). run.view.items) f.follows in
    let items : strip gs ≡ xs = ap strip e ∙ within_seen item_of (glyph_classed class) (item_with_class class) start (start + leading) (all_glyphs moved) (λ g. refl) ∙ ap (with_range_changed (item_with_class class) start (start + leading)) there in
    let from : origins gs ≡ origins_of moved = ap origins e ∙ within_kept origin_of (glyph_classed class) start (start + leading) (all_glyphs moved) (λ g. refl) in
    let long : length gs ≡ length (all_glyphs moved) = ap (λ (ys : List hb_glyph_info_t). length ys) e ∙ changed_length (glyph_classed class) start (start + leading) (all_glyphs moved) in
    let b = written_becomes gs moved xs long items from f.ready in
    happened_followed (r.events s.level) (record r.view { items = xs }) (always (with_leading_marks class start below leading)) s (with_refilled gs moved)
    (b.view ∙ ap (λ (run : BufferState). record run.view { items = xs }) f.follows)
    (b.origins ∙ ap (λ (run : BufferState). run.origins) f.follows)
    (b.settings ∙ f.settings)
    b.ready
    (ap (λ c. Ok (if c then with_events [] (view_of s) else with_range_classed class start (start + leading) r)) some)

-- ---- both rounds

led_positions : (class start below leading : ℕ) (v : View) → (with_leading_marks class start below leading v).view.positions ≡ v.positions
led_positions class start below leading v =
    elim (leading == 0) as (λ b. (if b then with_events [] v else with_range_classed class start (start + leading) (with_move start below leading v)).view.positions ≡ v.positions) [ true ↦ refl | false ↦ refl ]

pub led_length : (class start below leading : ℕ) (s new : Sides) → IsReady s → IsFollowed (always (with_leading_marks class start below leading)) s new → length (all_glyphs new) ≡ length (all_glyphs s)
led_length class start below leading s new ready f =
    sym f.ready.placed ∙ ap (λ (run : BufferState). length run.view.positions) f.follows ∙ ap (λ (ps : List Position). length ps) (led_positions class start below leading (view_of s)) ∙ ready.placed

abbrev second_round : ℕ → ℕ → View → Read
second_round start end v = with_leading 230 26 start end v

pub both_led : (start end n : ℕ) (s mid new : Sides) → n ≡ count_leading 220 (slice_range (items_of s) start end) → IsFollowed (always (with_leading 220 25 start end)) s mid
    → IsFollowed (always (with_leading 230 26 (start + n) end)) mid new → IsFollowed (always (marks_reordered start end)) s new
both_led start end n s mid new e f g =
    let r : Read = with_leading 220 25 start end (view_of s) in
    let m = count_leading 220 (slice_range (items_of s) start end) in
    record {
      follows =
          g.follows ∙ ap (λ k. state_after (second_round (start + k) end (view_of mid)) (state_of mid)) e
          ∙ ap (λ (run : BufferState). state_after (second_round (start + m) end run.view) run) f.follows
          ∙ run_after_both r (second_round (start + m) end r.view) (state_of s);
      settings = g.settings ∙ f.settings;
      ready = g.ready;
    }
