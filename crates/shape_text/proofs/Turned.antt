-- A text in native order.
use Rattle.std.proofs.Common.{ℕ, zero, suc, ◌≡◌, ◌≤◌, ◌&&◌, Bool, true, false, not, if◌then◌else◌, List, [], ◌∷◌, Ok, Option, length, take, drop, arith, refl, sym, ap, ◌∙◌}
use Rattle.std.specs.List.{list_any}
use Rattle.std.proofs.lemmas.List.{length-append, length-drop, length-map, length-take}
use Rattle.buffer_glyphs.specs.declared.info.hb_glyph_info_t.{hb_glyph_info_t}
use Rattle.buffer_common.specs.Direction.{opposite}
use Rattle.buffer_common.specs.declared.direction.Direction.{Direction}
use Rattle.buffer_common.specs.declared.direction.Direction.TheVariants.{Invalid, LeftToRight, RightToLeft, TopToBottom, BottomToTop}
use Rattle.buffer_common.specs.declared.script.Script.{Script}
use Rattle.buffer_glyphs.specs.Items.{Item, Position, item_of, strip}
use Rattle.buffer_core.specs.Readings.{View, Read, always, state_after, then_read, with_events}
use Rattle.buffer_core.specs.Steps.{then_follows}
use Rattle.buffer_lists.specs.Groups.{group_length}
use Rattle.buffer_lists.specs.Turning.{Turning, groups_reversed_list, turning_of}
use Rattle.buffer_lists.specs.Facts.{group_lengths, positions_turned, pieces_reversed}
use Rattle.buffer_lists.specs.Events.{groups_reversed}
use Rattle.buffer_lists.proofs.Lemmas.Ranges.{lengths_cut}
use Rattle.buffer_core.specs.Grouping.{with_groups_reversed}
use Rattle.buffer_core.specs.Merging.{with_has_glyph_flags}
use Rattle.buffer_core.proofs.Told.{stage_flags_ignore_glyph_flags}
use Rattle.buffer_core.specs.Segment.{with_segment}
use Rattle.buffer_core.specs.Sides.{Sides, all_glyphs, items_of, origins_by, origins_of, state_of, settings_of, stage_flags, view_of}
use Rattle.buffer_stages.specs.Ready.{IsReady}
use Rattle.buffer_properties.specs.Categories.{is_letter}
use Rattle.buffer_stages.specs.LayoutStages.{merges_graphemes}
use Rattle.buffer_stages.specs.Stages.{IsFollowed}
use Rattle.buffer_stages.specs.Lemmas.Written.{read_followed}
use Rattle.shape_text.specs.NativeOrder.{continues_grapheme, is_number_text, is_numeral, is_reversed, in_native_order, reversed_text, runs_against, with_numbers}

any_stripped : (p : Item → Bool) (gs : List hb_glyph_info_t) → list_any p (strip gs) ≡ list_any (λ (g : hb_glyph_info_t). p (item_of g)) gs
any_stripped p [] = refl
any_stripped p (g ∷ gs) = rw (any_stripped p gs) refl

pub number_text_stripped : (gs : List hb_glyph_info_t)
    → is_number_text (strip gs) ≡ (list_any (λ (g : hb_glyph_info_t). is_numeral (item_of g)) gs && not (list_any (λ (g : hb_glyph_info_t). is_letter (item_of g)) gs))
number_text_stripped gs = rw (any_stripped is_numeral gs, any_stripped is_letter gs) refl

-- numbers alone keep a text from being reversed, and never reverse it
pub numbers_stay : (numbers : Bool) (text written : Direction) → runs_against text written ≡ false → runs_against text (with_numbers numbers text written) ≡ false
numbers_stay true LeftToRight RightToLeft e = cc
numbers_stay true LeftToRight LeftToRight e = refl
numbers_stay true LeftToRight TopToBottom e = refl
numbers_stay true LeftToRight BottomToTop e = refl
numbers_stay true LeftToRight Invalid e = refl
numbers_stay true RightToLeft written e = e
numbers_stay true TopToBottom written e = e
numbers_stay true BottomToTop written e = e
numbers_stay true Invalid written e = e
numbers_stay false text written e = e

-- one stage after another
pub both_followed : (r q : View → Read) (a b c : Sides) → IsFollowed (always r) a b → IsFollowed (always q) b c → IsFollowed (always (λ v. then_read (r v) (q (r v).view))) a c
both_followed r q a b c f g = record {
  follows = then_follows (Ok (r (view_of a))) q (state_of a) (state_of b) (state_of c) f.follows g.follows;
  settings = g.settings ∙ f.settings;
  ready = g.ready;
}

-- as many positions as before
turned_many : (q : Item → Item → Bool) (m : ℕ) (xs : List Item) (ps : List Position) → length xs ≤ m → length ps ≡ length xs → length (pieces_reversed (group_lengths q xs) ps) ≡ length ps
turned_many q m [] ps le e = sym e
turned_many q zero (x ∷ xs) ps le e = absurd (omega (arith, le))
turned_many q (suc m) (x ∷ xs) ps le e =
    let n = group_length q (x ∷ xs) in
    let few = length-drop n (x ∷ xs) in
    let many = length-drop n ps in
    let rest = turned_many q m (drop n (x ∷ xs)) (drop n ps) (omega (arith, le, few)) (omega (arith, few, many, e)) in
    let front = length-take n ps in
    ap (λ lens. length (pieces_reversed lens ps)) (lengths_cut q x xs)
    ∙ length-append (pieces_reversed (group_lengths q (drop n (x ∷ xs))) (drop n ps)) (take n ps)
    ∙ omega (arith, rest, front, many)

pub turned_followed : (s mid : Sides) (joins : hb_glyph_info_t → hb_glyph_info_t → Bool) (merge : Bool) → merge ≡ merges_graphemes s.level → mid ≡ with_groups_reversed merge joins s
    → items_of mid ≡ groups_reversed_list continues_grapheme (items_of s) → mid.positions ≡ positions_turned continues_grapheme (items_of s) s.positions
    → origins_of mid ≡ origins_by (groups_reversed merge continues_grapheme (items_of s)) s → length (all_glyphs mid) ≡ length (all_glyphs s) → IsReady s
    → IsFollowed (always reversed_text) s (with_segment (opposite s.direction) mid.script mid)
turned_followed s mid joins merge m e items positions from count ready =
    let t : Turning = turning_of merge s.level joins (all_glyphs s) s.positions in
    let xs = groups_reversed_list continues_grapheme (items_of s) in
    let ps = positions_turned continues_grapheme (items_of s) s.positions in
    let long = length-map (all_glyphs s) item_of in
    read_followed reversed_text (groups_reversed merge continues_grapheme (items_of s)) (record (view_of s) { items = xs; positions = ps; direction = opposite s.direction }) s (with_segment (opposite s.direction) mid.script mid)
    (ap (λ (n : Sides). record { items = items_of mid; positions = mid.positions; lig_id = n.lig_id; max_ops = n.max_ops; random = 1; max_len = n.max_len; direction = opposite s.direction; scratch_flags = stage_flags n.scratch_flags }) e
    ∙ ap (λ ys. record (view_of s) { items = ys; positions = mid.positions; direction = opposite s.direction; scratch_flags = stage_flags (with_has_glyph_flags t.is_marked s.scratch_flags) }) items
    ∙ ap (λ qs. record (view_of s) { items = xs; positions = qs; direction = opposite s.direction; scratch_flags = stage_flags (with_has_glyph_flags t.is_marked s.scratch_flags) }) positions
    ∙ ap (λ f. record (view_of s) { items = xs; positions = ps; direction = opposite s.direction; scratch_flags = f }) (stage_flags_ignore_glyph_flags t.is_marked s.scratch_flags))
    from (ap settings_of e)
    (record {
      closed = ap (λ (n : Sides). n.is_open) e ∙ ready.closed;
      front = ap (λ (n : Sides). n.behind) e ∙ ap (λ k. take k t.glyphs) ready.unread;
      unread = ap (λ (n : Sides). n.read) e ∙ ready.unread;
      placed = ap (λ (qs : List Position). length qs) positions ∙ turned_many continues_grapheme (length (items_of s)) (items_of s) s.positions (omega arith) (ready.placed ∙ sym long) ∙ ready.placed ∙ sym count;
      unrefused = ap (λ (n : Sides). n.has_refused) e ∙ ready.unrefused;
    })
    refl (ap (λ b. groups_reversed b continues_grapheme (items_of s)) (sym m))

-- what is turned, and what stays
either : (script : Option Script) (s new : Sides) (b : Bool) → is_reversed script s.direction (items_of s) ≡ b → IsFollowed (always (λ v. if b then reversed_text v else with_events [] v)) s new → IsFollowed (always (in_native_order script)) s new
either script s new b e f = record {
  follows = f.follows ∙ ap (λ c. state_after (if c then reversed_text (view_of s) else with_events [] (view_of s)) (state_of s)) (sym e);
  settings = f.settings;
  ready = f.ready;
}

pub turned_ordered : (s new : Sides) → is_reversed s.script s.direction (items_of s) ≡ true → IsFollowed (always reversed_text) s new → IsFollowed (always (in_native_order s.script)) s new
turned_ordered s new e f = either s.script s new true e f

pub stays_ordered : (s : Sides) → is_reversed s.script s.direction (items_of s) ≡ false → IsReady s → IsFollowed (always (in_native_order s.script)) s s
stays_ordered s e ready = either s.script s s false e (read_followed (λ v. with_events [] v) [] (view_of s) s s refl refl refl ready refl refl)
