-- One rewriting of a buffer after another.
use Rattle.std.proofs.Common.{ℕ, ◌≡◌, ◌≤◌, ◌+◌, ◌-◌, ◌==◌, List, [], ◌++◌, length, map, take, drop, refl, sym, ap, subst, ◌∙◌, arith, append_assoc}
use Rattle.std.specs.Prelude.{bit_and, slice_range}
use Rattle.std.proofs.lemmas.List.{append-nil, map-append, length-map, length-append, length-take-le, length-drop, take_all, drop_all, drop-drop, take-append-drop}
use Rattle.std.proofs.Math.Seq.{take-add, take-append_seam, drop-append_seam}
use Rattle.buffer_glyphs.specs.Items.{Item, item_of}
use Rattle.buffer_glyphs.specs.Events.{Event, origins_after}
use Rattle.buffer_core.specs.Readings.{View, always}
use Rattle.buffer_glyphs.specs.Lemmas.Origins.{origins_after_both}
use Rattle.buffer_core.specs.Sides.{Sides, Settings, all_glyphs, items_of, origins_of, origins_by, flag_requests_of, settings_of, view_of}
use Rattle.buffer_stages.specs.Ready.{IsReady}
use Rattle.buffer_stages.specs.Stages.{IsFollowed}
use Rattle.buffer_stages.specs.Lemmas.Written.{happened_followed}
use Rattle.buffer_glyphs.specs.Rewriting.{Arrangement, eventless_arrangement, shifted_event, beside, and_arranged}
use Rattle.buffer_stages.specs.SyllableBuffers.{IsRewritten, with_rule}
use Rattle.buffer_stages.specs.Lemmas.Shifts.{shift_events, shift_none}
use Rattle.buffer_glyphs.specs.Lemmas.Glyphs.{cut_out as whole_cut}
use Rattle.buffer_stages.specs.Lemmas.Fronted.{part_of as middle}

-- ---- lists of which a part was put in

pub behind : {X : Type 0} (mid to : ℕ) (xs : List X) → mid ≤ to → drop to xs ≡ drop (to - mid) (drop mid xs)
behind mid to xs le = let n : to ≡ mid + (to - mid) = omega (arith, le) in ap (λ m. drop m xs) n ∙ sym (drop-drop (to - mid) mid xs)

-- what is before the part, and from it on
pub in_front : {X : Type 0} (from to : ℕ) (xs ys : List X) → from ≤ to → to ≤ length xs
    → (take from (take from xs ++ ys ++ drop to xs) ≡ take from xs) × (drop from (take from xs ++ ys ++ drop to xs) ≡ ys ++ drop to xs)
in_front from to xs ys le inside =
    let n : length (take from xs) ≡ from = length-take-le from xs (omega (arith, le, inside)) in
    let whole = append_assoc (take from xs) ys (drop to xs) in (
      ap (take from) whole ∙ ap (λ m. take m (take from xs ++ (ys ++ drop to xs))) (sym n) ∙ take-append_seam (take from xs) (ys ++ drop to xs),
      ap (drop from) whole ∙ ap (λ m. drop m (take from xs ++ (ys ++ drop to xs))) (sym n) ∙ drop-append_seam (take from xs) (ys ++ drop to xs),
    )

-- ---- what a rewriting left

pub items_after : (r : Arrangement) (from to : ℕ) (a b : Sides) → IsRewritten r from to a b → items_of b ≡ take from (items_of a) ++ r.items ++ drop to (items_of a)
items_after r from to a b f = ap (λ (v : View). v.items) f.view

pub counted : (s : Sides) → length (items_of s) ≡ length (all_glyphs s)
counted s = length-map (all_glyphs s) item_of

-- in its place
pub rewritten_slice : (r : Arrangement) (from to : ℕ) (a b : Sides) → from ≤ to → to ≤ length (items_of a) → length r.items ≡ to - from → IsRewritten r from to a b
    → slice_range (items_of b) from to ≡ r.items
rewritten_slice r from to a b le inside len f =
    ap (take (to - from)) (ap (drop from) (items_after r from to a b f) ∙ (in_front from to (items_of a) r.items le inside).1) ∙ ap (λ m. take m (r.items ++ drop to (items_of a))) (sym len) ∙ take-append_seam r.items (drop to (items_of a))

-- as many glyphs as before
pub rewritten_count : (r : Arrangement) (from to : ℕ) (a b : Sides) → from ≤ to → to ≤ length (items_of a) → length r.items ≡ to - from → IsRewritten r from to a b
    → length (all_glyphs b) ≡ length (all_glyphs a)
rewritten_count r from to a b le inside len f =
    let whole = ap (λ (xs : List Item). length xs) (items_after r from to a b f) in
    let seen = length-map (all_glyphs a) item_of in
    omega (arith, le, inside, len, whole, seen, length-map (all_glyphs b) item_of, length-append (take from (items_of a) ++ r.items) (drop to (items_of a)), length-append (take from (items_of a)) r.items, length-take-le from (items_of a) (omega (arith, le, inside)), length-drop to (items_of a))

-- ---- one rewriting after another

-- the same events from a buffer with the same settings
pub by_settings : (es : List Event) (a b : Sides) → settings_of b ≡ settings_of a → origins_by es b ≡ origins_after (flag_requests_of a) a.level es (origins_of b)
by_settings es a b e =
    ap (λ (st : Settings). origins_after (flag_requests_of b) st.level es (origins_of b)) e
    ∙ ap (λ (st : Settings). origins_after (record { concat = bit_and st.flags.0 64 == 64; tatweel = bit_and st.flags.0 128 == 128; breaks = bit_and st.flags.0 256 == 256 }) a.level es (origins_of b)) e

-- the origins of the glyphs after both
pub origins_then : (es fs : List Event) (a b c : Sides) → settings_of b ≡ settings_of a → origins_of b ≡ origins_by es a → origins_of c ≡ origins_by fs b → origins_of c ≡ origins_by (es ++ fs) a
origins_then es fs a b c same f g =
    g ∙ by_settings fs a b same ∙ ap (λ os. origins_after (flag_requests_of a) a.level fs os) f ∙ sym (origins_after_both (flag_requests_of a) a.level es fs (origins_of a))

-- what is seen after both
view_then : (r s : Arrangement) (from to mid last : ℕ) (a b c : Sides) (xs : List Item) → IsRewritten r from to a b → IsRewritten s mid last b c
    → take mid (items_of b) ++ s.items ++ drop last (items_of b) ≡ xs → view_of c ≡ record (view_of a) { items = xs }
view_then r s from to mid last a b c xs f g e =
    let ys = take mid (items_of b) ++ s.items ++ drop last (items_of b) in
    g.view ∙ ap (λ (v : View). record v { items = ys }) f.view ∙ ap (λ zs. record (view_of a) { items = zs }) e

-- a part, and then the one after it
pub rewritten_beside : (r s : Arrangement) (from mid to : ℕ) (a b c : Sides) → from ≤ mid → mid ≤ length (items_of a) → length r.items ≡ mid - from → mid ≤ to
    → IsRewritten r from mid a b → IsRewritten s mid to b c → IsRewritten (beside r s) from to a c
rewritten_beside r s from mid to a b c le inside len last f g =
    let cut = middle from mid (items_of a) r.items le inside len in
    let items = items_after r from mid a b f in
    let at : from + length r.items ≡ mid = omega (arith, len, le) in
    let events : map (shifted_event from) (beside r s).events ≡ map (shifted_event from) r.events ++ map (shifted_event mid) s.events =
    map-append (shifted_event from) r.events (map (shifted_event (length r.items)) s.events) ∙ ap (λ es. map (shifted_event from) r.events ++ es) (shift_events from (length r.items) s.events ∙ ap (λ n. map (shifted_event n) s.events) at) in
    let front : take mid (items_of b) ≡ take from (items_of a) ++ r.items = ap (take mid) items ∙ cut.0 in
    let same : drop mid (items_of b) ≡ drop mid (items_of a) = ap (drop mid) items ∙ cut.1 in
    let rest = behind mid to (items_of b) last ∙ ap (drop (to - mid)) same ∙ sym (behind mid to (items_of a) last) in
    record {
      view = view_then r s from mid mid to a b c (take from (items_of a) ++ (r.items ++ s.items) ++ drop to (items_of a)) f g
          (ap (λ ys. ys ++ s.items ++ drop to (items_of b)) front ∙ ap (λ ys. take from (items_of a) ++ r.items ++ s.items ++ ys) rest ∙ ap (λ ys. ys ++ drop to (items_of a)) (append_assoc (take from (items_of a)) r.items s.items));
      origins = origins_then (map (shifted_event from) r.events) (map (shifted_event mid) s.events) a b c f.settings f.origins g.origins ∙ ap (λ es. origins_by es a) (sym events);
      settings = g.settings ∙ f.settings;
      ready = g.ready;
    }

-- the same part twice
pub rewritten_then : (r : Arrangement) (rule : List Item → Arrangement) (from to : ℕ) (a b c : Sides) → from ≤ to → to ≤ length (items_of a) → length r.items ≡ to - from
    → IsRewritten r from to a b → IsRewritten (rule r.items) from to b c → IsRewritten (and_arranged r rule) from to a c
rewritten_then r rule from to a b c le inside len f g =
    let s = rule r.items in
    let items = items_after r from to a b f in
    let cut = middle from to (items_of a) r.items le inside len in
    record {
      view = view_then r s from to from to a b c (take from (items_of a) ++ s.items ++ drop to (items_of a)) f g
          (ap (λ ys. ys ++ s.items ++ drop to (items_of b)) (ap (take from) items ∙ (in_front from to (items_of a) r.items le inside).0) ∙ ap (λ ys. take from (items_of a) ++ s.items ++ ys) (ap (drop to) items ∙ cut.1));
      origins = origins_then (map (shifted_event from) r.events) (map (shifted_event from) s.events) a b c f.settings f.origins g.origins ∙ ap (λ es. origins_by es a) (sym (map-append (shifted_event from) r.events s.events));
      settings = g.settings ∙ f.settings;
      ready = g.ready;
    }

-- one rule and then another, each of what stands there
pub rewritten_next : (r : Arrangement) (rule : List Item → Arrangement) (from to : ℕ) (a b c : Sides) → from ≤ to → to ≤ length (items_of a) → length r.items ≡ to - from
    → IsRewritten r from to a b → IsRewritten (rule (slice_range (items_of b) from to)) from to b c → IsRewritten (and_arranged r rule) from to a c
rewritten_next r rule from to a b c le inside len f g =
    let P : List Item → Type 0 = λ xs. IsRewritten (rule xs) from to b c in
    rewritten_then r rule from to a b c le inside len f (subst P (rewritten_slice r from to a b le inside len f) g)

-- nothing changed
pub rewritten_same : (from to : ℕ) (a : Sides) → from ≤ to → IsReady a → IsRewritten (eventless_arrangement (slice_range (items_of a) from to)) from to a a
rewritten_same from to a le ready = record {
  view = ap (λ xs. record (view_of a) { items = xs }) (sym (whole_cut from to (items_of a) le));
  origins = refl;
  settings = refl;
  ready = ready;
}

-- past the end nothing is rewritten
pub rewritten_nothing : (from to : ℕ) (s : Sides) → IsReady s → length (items_of s) ≤ from → length (items_of s) ≤ to → IsRewritten (eventless_arrangement []) from to s s
rewritten_nothing from to s ready a b = record {
  view = ap (λ xs. record (view_of s) { items = xs }) (sym (rw (take_all from (items_of s) a, drop_all to (items_of s) b, append-nil, append-nil) refl));
  origins = refl;
  settings = refl;
  ready = ready;
}

-- a rewriting of the whole list is a stage that never refuses
pub rewritten_follows : (rule : List Item → Arrangement) (old new : Sides) → IsRewritten (rule (items_of old)) 0 (length (all_glyphs old)) old new → IsFollowed (always (with_rule rule)) old new
rewritten_follows rule old new f =
    let r = rule (items_of old) in
    let items : take 0 (items_of old) ++ r.items ++ drop (length (all_glyphs old)) (items_of old) ≡ r.items = rw (drop_all (length (all_glyphs old)) (items_of old) (omega (arith, counted old)), append-nil) refl in
    happened_followed r.events (record (view_of old) { items = r.items }) (always (with_rule rule)) old new
    (f.view ∙ ap (λ xs. record (view_of old) { items = xs }) items)
    (f.origins ∙ ap (λ es. origins_by es old) (shift_none r.events))
    f.settings f.ready refl
