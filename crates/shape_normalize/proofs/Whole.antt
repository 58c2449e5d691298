-- The rounds one after another.
use Rattle.std.proofs.Common.{◌≡◌, ◌≤◌, ◌<◌, ◌==◌, ◌||◌, Bool, true, false, List, [], ◌∷◌, ◌++◌, Ok, Err, length, refl, sym, ap, ap₂, subst, ◌∙◌, arith}
use Rattle.std.specs.Prelude.{bit_and}
use Rattle.std.specs.List.{list_any}
use Rattle.std.proofs.lemmas.List.{append-nil, length-map, length-replicate}
use Rattle.buffer_glyphs.specs.declared.cause.ShapeCause.{ShapeCause}
use Rattle.buffer_glyphs.specs.declared.cause.ShapeCause.TheVariants.{TooLong}
use Rattle.buffer_glyphs.specs.declared.info.hb_glyph_info_t.{hb_glyph_info_t}
use Rattle.buffer_glyphs.specs.Items.{Item, Position, item_of, strip, zero_position}
use Rattle.buffer_glyphs.specs.Events.{Event, origins_after}
use Rattle.buffer_core.specs.Readings.{View, reading_of}
use Rattle.buffer_glyphs.specs.Lemmas.Origins.{origins_after_both}
use Rattle.buffer_core.specs.Sides.{Sides, Settings, all_glyphs, flag_requests_of, items_of, origins_by, origins_of, state_of, settings_of, view_of, zero_positions}
use Rattle.buffer_stages.specs.Ready.{IsReady}
use Rattle.buffer_stages.specs.Stages.{IsFollowed}
use Rattle.buffer_stages.specs.Lemmas.Written.{happened_followed}
use Rattle.buffer_glyphs.specs.Rewriting.{Arrangement, eventless_arrangement}
use Rattle.buffer_properties.specs.Characters.{is_mark}
use Rattle.buffer_properties.specs.Composing.{composed_list}
use Rattle.buffer_properties.specs.Expanding.{expanded_list}
use Rattle.buffer_properties.specs.Normalizer.{Normalizer, is_composing}
use Rattle.buffer_properties.specs.NormalizedList.{arranged_marks, composition_if, has_later_mark, normalized_items}
use Rattle.buffer_properties.specs.Ordering.{joiners_shown, ordered_list}
use Rattle.buffer_stages.specs.Appending.{with_arranged, within_limit}
use Rattle.buffer_stages.specs.Rearranged.{IsRearranged}
use Rattle.shape_normalize.specs.Rounds.{IsArranged, normalization}
use Rattle.shape_normalize.specs.Runs.{HasItems}
use Rattle.shape_normalize.proofs.Joined.{has_limit, past_limit}
use Rattle.buffer_stages.specs.Lemmas.Rewritings.{by_settings}
use Rattle.buffer_stages.specs.Lemmas.Shifts.{shift_none as all_shifted_none}

any_mark_seen : (gs : List hb_glyph_info_t) → list_any is_mark (strip gs) ≡ list_any (λ (g : hb_glyph_info_t). is_mark (item_of g)) gs
any_mark_seen [] = refl
any_mark_seen (g ∷ gs) = ap (λ b. is_mark (item_of g) || b) (any_mark_seen gs)

pub later_mark_seen : (g : hb_glyph_info_t) (gs : List hb_glyph_info_t) → has_later_mark (strip (g ∷ gs)) ≡ list_any (λ (g : hb_glyph_info_t). is_mark (item_of g)) gs
later_mark_seen g gs = any_mark_seen gs

-- one arrangement's items after the events of two
abbrev and_then : Arrangement → Arrangement → Arrangement
and_then a b = record { items = b.items; events = a.events ++ b.events }

arranged_both : (a b : Arrangement) (s t u : Sides) → IsArranged a s t → IsArranged b t u → IsArranged (and_then a b) s u
arranged_both a b s t u f g = record {
  view = g.view ∙ ap (λ (v : View). (with_arranged b v).view) f.view;
  origins = g.origins ∙ by_settings b.events s t f.settings ∙ ap (origins_after (flag_requests_of s) s.level b.events) f.origins ∙ sym (origins_after_both (flag_requests_of s) s.level a.events b.events (origins_of s));
  settings = g.settings ∙ f.settings;
  ready = g.ready;
}

items_after : (a : Arrangement) (s t : Sides) → IsArranged a s t → items_of t ≡ a.items
items_after a s t f = ap (λ (v : View). v.items) f.view

pub zero_after : (a : Arrangement) (s t : Sides) → IsArranged a s t → t.positions ≡ zero_positions (length (all_glyphs t))
zero_after a s t f =
    ap (λ (v : View). v.positions) f.view ∙ ap zero_positions (sym (ap (λ (xs : List Item). length xs) (items_after a s t f)) ∙ length-map (all_glyphs t) item_of)

-- what was arranged in place, with all positions zero
placed_arranged : (a : Arrangement) (s t : Sides) → s.positions ≡ zero_positions (length (all_glyphs s)) → IsRearranged [] a [] s t → IsArranged a s t
placed_arranged a s t zero is =
    let items : items_of t ≡ a.items = is.items ∙ append-nil a.items in
    let stay : t.positions ≡ s.positions = ap (λ (q : Sides). q.positions) is.frame in
    let many = ap (λ (xs : List Item). length xs) items in
    let count : length (all_glyphs s) ≡ length a.items =
    let one = ap (λ (ps : List Position). length ps) (stay ∙ zero) in
    omega (arith, many, one, is.ready.placed, length-replicate (length (all_glyphs s)) zero_position, length-map (all_glyphs t) item_of) in
    let positions_are : t.positions ≡ zero_positions (length a.items) = stay ∙ zero ∙ ap zero_positions count in
    record {
      view =
          ap (λ xs. record (view_of t) { items = xs }) items ∙ ap (λ ps. record (view_of t) { items = a.items; positions = ps }) positions_are
          ∙ ap (λ (f : Sides). record { items = a.items; positions = zero_positions (length a.items); lig_id = f.lig_id; max_ops = f.max_ops; random = 1; max_len = f.max_len; direction = f.direction; scratch_flags = f.scratch_flags }) is.frame;
      origins = is.happened ∙ ap (λ es. origins_by es s) (all_shifted_none a.events);
      settings = ap settings_of is.frame;
      ready = is.ready;
    }

shown_arranged : (xs : List Item) (s t : Sides) → s.positions ≡ zero_positions (length (all_glyphs s)) → HasItems xs s t → IsArranged (eventless_arrangement xs) s t
shown_arranged xs s t zero h = placed_arranged (eventless_arrangement xs) s t zero (record { items = h.items ∙ sym (append-nil xs); happened = h.origins; frame = h.frame; ready = h.ready })

-- positions stay zero while marks are ordered and joiners shown
pub zero_ordered : (c : Normalizer) (s t u : Sides) → s.positions ≡ zero_positions (length (all_glyphs s)) → IsRearranged [] (ordered_list c.reorders (items_of s)) [] s t → HasItems (joiners_shown (items_of t)) t u
    → u.positions ≡ zero_positions (length (all_glyphs u))
zero_ordered c s t u zero sorted h =
    zero_after (eventless_arrangement (joiners_shown (items_of t))) t u
    (shown_arranged (joiners_shown (items_of t)) t u (zero_after (ordered_list c.reorders (items_of s)) s t (placed_arranged (ordered_list c.reorders (items_of s)) s t zero sorted)) h)

-- a list in which no mark is composed stays
pub nothing_composed : (c : Normalizer) (s : Sides) → IsReady s → s.positions ≡ zero_positions (length (all_glyphs s)) → composed_list c (items_of s) ≡ eventless_arrangement (items_of s) → IsArranged (composed_list c (items_of s)) s s
nothing_composed c s ready zero none =
    subst (λ (a : Arrangement). IsArranged a s s) (sym none) (shown_arranged (items_of s) s s zero (record { items = refl; origins = refl; frame = refl; ready = ready }))

-- no mark follows the first item of the text
pub marks_alone : (c : Normalizer) (b : Bool) (s t : Sides) → b ≡ false → s.positions ≡ zero_positions (length (all_glyphs s)) → HasItems (joiners_shown (items_of s)) s t → IsArranged (arranged_marks b c (items_of s)) s t
unfolding arranged_marks
marks_alone c b s t none zero h = subst (λ (b : Bool). IsArranged (arranged_marks b c (items_of s)) s t) (sym none) (shown_arranged (joiners_shown (items_of s)) s t zero h)

-- marks that are not composed
pub marks_ordered : (c : Normalizer) (b : Bool) (s t u : Sides) → b ≡ true → s.positions ≡ zero_positions (length (all_glyphs s)) → IsRearranged [] (ordered_list c.reorders (items_of s)) [] s t → HasItems (joiners_shown (items_of t)) t u
    → is_composing c.mode ≡ false → IsArranged (arranged_marks b c (items_of s)) s u
unfolding arranged_marks
marks_ordered c b s t u some zero sorted h mode =
    let o = ordered_list c.reorders (items_of s) in
    let one = placed_arranged (ordered_list c.reorders (items_of s)) s t zero sorted in
    let two = arranged_both (ordered_list c.reorders (items_of s)) (eventless_arrangement (joiners_shown (items_of t))) s t u one (shown_arranged (joiners_shown (items_of t)) t u (zero_after (ordered_list c.reorders (items_of s)) s t one) h) in
    subst (λ (b : Bool). IsArranged (arranged_marks b c (items_of s)) s u) (sym some)
    (subst (λ (a : Arrangement). IsArranged (record { items = a.items; events = (ordered_list c.reorders (items_of s)).events ++ a.events }) s u)
    (ap (λ xs. eventless_arrangement (joiners_shown xs)) (items_after (ordered_list c.reorders (items_of s)) s t one) ∙ ap (λ (b : Bool). composition_if b c (joiners_shown (ordered_list c.reorders (items_of s)).items)) (sym mode)) two)

-- marks that are
pub marks_composed : (c : Normalizer) (b : Bool) (s t u w : Sides) → b ≡ true → s.positions ≡ zero_positions (length (all_glyphs s)) → IsRearranged [] (ordered_list c.reorders (items_of s)) [] s t → HasItems (joiners_shown (items_of t)) t u
    → is_composing c.mode ≡ true → IsArranged (composed_list c (items_of u)) u w → IsArranged (arranged_marks b c (items_of s)) s w
unfolding arranged_marks
marks_composed c b s t u w some zero sorted h mode composed =
    let one = placed_arranged (ordered_list c.reorders (items_of s)) s t zero sorted in
    let two = arranged_both (ordered_list c.reorders (items_of s)) (eventless_arrangement (joiners_shown (items_of t))) s t u one (shown_arranged (joiners_shown (items_of t)) t u (zero_after (ordered_list c.reorders (items_of s)) s t one) h) in
    let three = arranged_both (and_then (ordered_list c.reorders (items_of s)) (eventless_arrangement (joiners_shown (items_of t)))) (composed_list c (items_of u)) s u w two composed in
    let few : IsArranged (and_then (ordered_list c.reorders (items_of s)) (composed_list c (items_of u))) s w =
    subst (λ es. IsArranged (record { items = (composed_list c (items_of u)).items; events = es ++ (composed_list c (items_of u)).events }) s w) (append-nil (ordered_list c.reorders (items_of s)).events) three in
    subst (λ (b : Bool). IsArranged (arranged_marks b c (items_of s)) s w) (sym some)
    (subst (λ (a : Arrangement). IsArranged (record { items = a.items; events = (ordered_list c.reorders (items_of s)).events ++ a.events }) s w)
    (ap (composed_list c) (h.items ∙ ap joiners_shown (items_after (ordered_list c.reorders (items_of s)) s t one))
    ∙ ap (λ (b : Bool). composition_if b c (joiners_shown (ordered_list c.reorders (items_of s)).items)) (sym mode)) few)

-- ---- the whole

pub all_followed : (c : Normalizer) (b : Bool) (s t u : Sides) → b ≡ has_later_mark (items_of s) → IsArranged (expanded_list c (items_of s)) s t → length (expanded_list c (items_of s)).items ≤ s.max_len
    → IsArranged (arranged_marks b c (items_of t)) t u → IsFollowed (normalization c) s u
unfolding normalized_items
all_followed c b s t u some one room two =
    let both = arranged_both (expanded_list c (items_of s)) (arranged_marks b c (items_of t)) s t u one two in
    let same : arranged_marks b c (items_of t) ≡ arranged_marks (has_later_mark (items_of s)) c (expanded_list c (items_of s)).items =
    ap₂ (λ b xs. arranged_marks b c xs) some (items_after (expanded_list c (items_of s)) s t one) in
    let all : IsArranged (normalized_items c (items_of s)) s u =
    subst (λ (a : Arrangement). IsArranged (and_then (expanded_list c (items_of s)) a) s u) same both in
    let fits : within_limit (length (expanded_list c (items_of s)).items) (view_of s) (with_arranged (normalized_items c (items_of s)) (view_of s)) ≡ Ok (with_arranged (normalized_items c (items_of s)) (view_of s)) =
    has_limit (length (expanded_list c (items_of s)).items) (with_arranged (normalized_items c (items_of s)) (view_of s)) (view_of s) room in
    happened_followed (normalized_items c (items_of s)).events (with_arranged (normalized_items c (items_of s)) (view_of s)).view (normalization c) s u all.view all.origins all.settings all.ready fits
