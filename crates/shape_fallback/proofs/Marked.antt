-- Breaks between bases and their marks.
use Rattle.std.proofs.Common.{ℕ, zero, suc, ◌≡◌, ◌≤◌, ◌<◌, ◌+◌, ◌==◌, ◌||◌, Bool, true, false, if◌then◌else◌, List, [], ◌∷◌, ◌++◌, length, drop, get_or, arith, refl, sym, ap, subst, ◌∙◌}
use Rattle.std.proofs.Math.Numerals.{add-one}
use Rattle.std.proofs.lemmas.Grind.{common_steps}
use Rattle.std.proofs.lemmas.List.{append-nil, append_assoc, drop_all, length-map}
use Rattle.buffer_glyphs.specs.declared.info.hb_glyph_info_t.{hb_glyph_info_t}
use Rattle.buffer_glyphs.specs.Items.{Item, item_of}
use Rattle.buffer_glyphs.specs.Events.{Break, Event}
use Rattle.buffer_core.specs.Readings.{View}
use Rattle.buffer_core.specs.Sides.{Sides, all_glyphs, items_of, view_of}
use Rattle.buffer_stages.specs.Ready.{IsReady}
use Rattle.buffer_properties.specs.Characters.{is_mark}
use Rattle.buffer_stages.proofs.Lemmas.Happened.{both_happen, nothing_happens}
use Rattle.buffer_stages.specs.Stages.{Happens}
use Rattle.shape_fallback.specs.Marks.{base_events, first_event, marks}
use Rattle.shape_fallback.proofs.Counted.{first_left}

-- ---- one index

abbrev event_of : ℕ → ℕ → Bool → List Event
event_of at n b = if b || n == 0 then [] else Break at (at + 1 + n) ∷ []

event_there : (at : ℕ) (d : hb_glyph_info_t) (s : Sides) → at < length (all_glyphs s)
    → first_event at (drop at (items_of s)) ≡ event_of at (marks (drop (at + 1) (items_of s))) (is_mark (item_of (get_or (all_glyphs s) at d)))
event_there at d s lt = ap (first_event at) (first_left (all_glyphs s) at d lt)

none_of : (at n : ℕ) (b : Bool) → b ≡ true → event_of at n b ≡ []
none_of at n true e = refl
none_of at n false e = cc e

none_after : (at n : ℕ) (b : Bool) → n ≡ 0 → event_of at n b ≡ []
none_after at n true e = refl
none_after at n false e = rw e refl

some_after : (at n : ℕ) (b : Bool) → b ≡ false → (n == 0) ≡ false → event_of at n b ≡ Break at (at + 1 + n) ∷ []
some_after at n true e f = cc e
some_after at n false e f = rw f refl

not_zero : (n : ℕ) → 0 < n → (n == 0) ≡ false
not_zero n lt = grind (arith, common_steps)

pub mark_itself : (at : ℕ) (d : hb_glyph_info_t) (s : Sides) → at < length (all_glyphs s) → is_mark (item_of (get_or (all_glyphs s) at d)) ≡ true → IsReady s
    → Happens (first_event at (drop at (items_of s))) s s
mark_itself at d s lt is ready =
    subst (λ es. Happens es s s) (sym (event_there at d s lt ∙ none_of at (marks (drop (at + 1) (items_of s))) (is_mark (item_of (get_or (all_glyphs s) at d))) is)) (nothing_happens s ready)

pub base_alone : (at n : ℕ) (d : hb_glyph_info_t) (s : Sides) → at < length (all_glyphs s) → n ≡ marks (drop (at + 1) (items_of s)) → n ≤ 0 → IsReady s
    → Happens (first_event at (drop at (items_of s))) s s
base_alone at n d s lt is le ready =
    let none : marks (drop (at + 1) (items_of s)) ≡ 0 = sym is ∙ omega (arith, le) in
    subst (λ es. Happens es s s) (sym (event_there at d s lt ∙ none_after at (marks (drop (at + 1) (items_of s))) (is_mark (item_of (get_or (all_glyphs s) at d))) none)) (nothing_happens s ready)

pub base_marked : (at n : ℕ) (d : hb_glyph_info_t) (s new : Sides) → at < length (all_glyphs s) → is_mark (item_of (get_or (all_glyphs s) at d)) ≡ false → n ≡ marks (drop (at + 1) (items_of s)) → 0 < n
    → Happens (Break at (at + 1 + n) ∷ []) s new → Happens (first_event at (drop at (items_of s))) s new
base_marked at n d s new lt isnt is more h =
    let zero_not : (marks (drop (at + 1) (items_of s)) == 0) ≡ false = ap (λ m. m == 0) (sym is) ∙ not_zero n more in
    subst (λ es. Happens es s new)
    (ap (λ m. Break at (at + 1 + m) ∷ []) is
    ∙ sym (event_there at d s lt ∙ some_after at (marks (drop (at + 1) (items_of s))) (is_mark (item_of (get_or (all_glyphs s) at d))) isnt zero_not)) h

-- ---- one index after another

pub record AreMarked (start : Sides) (at : ℕ) (now : Sides) : Type 0 where
  pub events : List Event
  pub happened : Happens events start now
  pub rest : events ++ base_events at (drop at (items_of start)) ≡ base_events 0 (items_of start)

pub none_marked : (s : Sides) → IsReady s → AreMarked s 0 s
none_marked s ready = record { events = []; happened = nothing_happens s ready; rest = refl }

same_items : (a b : Sides) → view_of b ≡ view_of a → items_of b ≡ items_of a
same_items a b e = ap (λ (v : View). v.items) e

pub same_count : (start now : Sides) (at : ℕ) → AreMarked start at now → length (all_glyphs now) ≡ length (all_glyphs start)
same_count start now at m = sym (length-map (all_glyphs now) item_of) ∙ ap (λ (xs : List Item). length xs) (same_items start now m.happened.view) ∙ length-map (all_glyphs start) item_of

unfolded_suc : (at n : ℕ) (xs : List Item) → n < length xs → base_events at (drop n xs) ≡ first_event at (drop n xs) ++ base_events (at + 1) (drop (suc n) xs)
unfolded_suc at n [] lt = absurd (omega (arith, lt))
unfolded_suc at zero (x ∷ xs) lt = refl
unfolded_suc at (suc n) (x ∷ xs) lt = unfolded_suc at n xs (omega (arith, lt))

unfolded : (at : ℕ) (s : Sides) → at < length (all_glyphs s) → base_events at (drop at (items_of s)) ≡ first_event at (drop at (items_of s)) ++ base_events (at + 1) (drop (at + 1) (items_of s))
unfolded at s lt =
    let same = length-map (all_glyphs s) item_of in
    unfolded_suc at at (items_of s) (omega (arith, lt, same)) ∙ ap (λ n. first_event at (drop at (items_of s)) ++ base_events (at + 1) (drop n (items_of s))) (sym (add-one at))

pub next_marked : (at : ℕ) (start now new : Sides) → at < length (all_glyphs start) → AreMarked start at now → Happens (first_event at (drop at (items_of now))) now new → AreMarked start (at + 1) new
next_marked at start now new lt m h =
    let there : first_event at (drop at (items_of now)) ≡ first_event at (drop at (items_of start)) = ap (λ xs. first_event at (drop at xs)) (same_items start now m.happened.view) in
    let es = first_event at (drop at (items_of start)) in
    record {
      events = m.events ++ es;
      happened = both_happen m.events es start now new m.happened (subst (λ fs. Happens fs now new) there h);
      rest = append_assoc m.events es (base_events (at + 1) (drop (at + 1) (items_of start))) ∙ ap (λ fs. m.events ++ fs) (sym (unfolded at start lt)) ∙ m.rest;
    }

pub all_marked : (at : ℕ) (start now : Sides) → length (all_glyphs start) ≤ at → AreMarked start at now → Happens (base_events 0 (items_of start)) start now
all_marked at start now le m =
    let same = length-map (all_glyphs start) item_of in
    let none : base_events at (drop at (items_of start)) ≡ [] = ap (base_events at) (drop_all at (items_of start) (omega (arith, le, same))) in
    subst (λ es. Happens es start now) (sym (append-nil m.events) ∙ ap (λ es. m.events ++ es) (sym none) ∙ m.rest) m.happened

pub base_marked_by : (at n : ℕ) (d : hb_glyph_info_t) (gs : List hb_glyph_info_t) (b : Bool) (s new : Sides) → gs ≡ all_glyphs s → at < length (all_glyphs s) → b ≡ is_mark (item_of (get_or gs at d)) → b ≡ false
    → n ≡ marks (drop (at + 1) (items_of s)) → 0 < n → Happens (Break at (at + 1 + n) ∷ []) s new → Happens (first_event at (drop at (items_of s))) s new
base_marked_by at n d gs b s new glyphs lt tested isnt is more h =
    base_marked at n d s new lt (ap (λ hs. is_mark (item_of (get_or hs at d))) (sym glyphs) ∙ sym tested ∙ isnt) is more h
