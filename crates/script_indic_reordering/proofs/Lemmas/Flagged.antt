-- Left matras in words that are flagged as unsafe to break, one glyph after another.
use Rattle.std.proofs.Common.{ℕ, zero, suc, ◌≡◌, ◌<◌, ◌≤◌, ◌+◌, ◌-◌, ◌==◌, ◌&&◌, Bool, true, false, if◌then◌else◌, List, [], ◌∷◌, ◌++◌, Option, Some, None, length, take, drop, get_or, slice_get, arith, refl, sym, ap, subst, ◌∙◌, append_assoc}
use Rattle.std.specs.Prelude.{slice_range}
use Rattle.std.proofs.lemmas.List.{append-nil, drop-drop, drop_all, length-drop, length-map, take_all}
use Rattle.buffer_glyphs.specs.declared.level.BufferClusterLevel.{BufferClusterLevel}
use Rattle.buffer_glyphs.specs.declared.info.hb_glyph_info_t.{hb_glyph_info_t}
use Rattle.buffer_glyphs.specs.Items.{Item, clusters, item_of, strip}
use Rattle.buffer_glyphs.specs.Glyphs.{glyphs_marked, has_several_numbers}
use Rattle.buffer_glyphs.specs.Parts.{range_of}
use Rattle.buffer_glyphs.specs.Origins.{Asks, Origin}
use Rattle.buffer_glyphs.specs.Events.{Event, StrictBreak, origins_after, strictly_marked as origins_strict}
use Rattle.buffer_glyphs.specs.Lemmas.Origins.{origins_after_both}
use Rattle.buffer_glyphs.specs.Rewriting.{eventless_arrangement}
use Rattle.buffer_core.specs.Readings.{View}
use Rattle.buffer_core.specs.Sides.{Sides, all_glyphs, flag_requests_of, items_of, origins_by, origins_of, requests_breaks, view_of}
use Rattle.buffer_core.specs.Merging.{index_in_all}
use Rattle.buffer_core.specs.Marking.{end_in_all, range_flagged_apart, start_in_all, strictly_marked}
use Rattle.buffer_stages.specs.Ready.{IsReady}
use Rattle.buffer_stages.specs.Stages.{Happens}
use Rattle.buffer_stages.specs.SyllableBuffers.{IsRewritten}
use Rattle.buffer_stages.specs.Lemmas.Shifts.{shift_none}
use Rattle.buffer_stages.proofs.Lemmas.Happened.{both_happen, call_happens, nothing_happens, whole_index}
use Rattle.script_categories.specs.declared.shaper.hb_ot_script_shaper_t.TheVariants.{INDIC_SHAPER}
use Rattle.script_categories.specs.Shapers.{is_reordered}
use Rattle.buffer_stages.specs.Bytes.{kind_of_byte}
use Rattle.script_indic_reordering.specs.Glyphs.{is_left}
use Rattle.script_indic_reordering.specs.Final.{is_left_in_word, word_events, words_begun}

-- the events of left matras in words, for the kinds of syllables that Indic reorders
abbrev indic_events : Option Item → ℕ → List Item → List Event
indic_events before at xs = word_events (is_reordered INDIC_SHAPER) before at xs

-- the event of a glyph that is such a matra
abbrev event_of : Bool → ℕ → List Event
event_of t at = if t then StrictBreak (at - 1) (at + 1) ∷ [] else []

-- ---- one call

strict_if : (from to : ℕ) (s new : Sides) (b : Bool) → new ≡ (if b then range_flagged_apart 3 (Some from) (Some to) s else s) → items_of new ≡ items_of s → origins_of new ≡ origins_by (StrictBreak from to ∷ []) s → IsReady s
    → Happens (StrictBreak from to ∷ []) s new
strict_if from to s new true e items origins ready =
    let i = start_in_all (Some from) s in
    let j = end_in_all (Some to) s in
    call_happens (glyphs_marked 3 i j (all_glyphs s)) (has_several_numbers (range_of i j (clusters (all_glyphs s)))) (StrictBreak from to ∷ []) s new e items origins ready
strict_if from to s new false e items origins ready =
    let P : Sides → Type 0 = λ n. origins_of n ≡ origins_by (StrictBreak from to ∷ []) s → Happens (StrictBreak from to ∷ []) s n in
    subst P (sym e) (λ o. record { view = refl; origins = o; settings = refl; ready = ready }) origins

strict_happens : (from to : ℕ) (s new : Sides) → new ≡ strictly_marked (Some from) (Some to) s → items_of new ≡ items_of s
    → origins_of new ≡ origins_by (StrictBreak (start_in_all (Some from) s) (end_in_all (Some to) s) ∷ []) s → IsReady s → Happens (StrictBreak from to ∷ []) s new
strict_happens from to s new e items origins ready =
    let o = origins ∙ ap (λ i. origins_by (StrictBreak i (end_in_all (Some to) s) ∷ []) s) (whole_index from s ready) ∙ ap (λ i. origins_by (StrictBreak from i ∷ []) s) (whole_index to s ready) in
    strict_if from to s new (requests_breaks s) e items o ready

-- ---- one glyph

item_there : (gs : List hb_glyph_info_t) (i : ℕ) (d : hb_glyph_info_t) → i < length gs → slice_get (strip gs) i ≡ Some (item_of (get_or gs i d))
item_there [] i d lt = absurd (omega (arith, lt))
item_there (g ∷ gs) zero d lt = refl
item_there (g ∷ gs) (suc i) d lt = item_there gs i d (omega (arith, lt))

one_there : (gs : List hb_glyph_info_t) (i : ℕ) (d : hb_glyph_info_t) → i < length gs → take 1 (drop i (strip gs)) ≡ item_of (get_or gs i d) ∷ []
one_there [] i d lt = absurd (omega (arith, lt))
one_there (g ∷ gs) zero d lt = refl
one_there (g ∷ gs) (suc i) d lt = one_there gs i d (omega (arith, lt))

event_there : (at : ℕ) (d e : hb_glyph_info_t) (gs : List hb_glyph_info_t) → at < length gs
    → indic_events (slice_get (strip gs) (at - 1)) at (take 1 (drop at (strip gs))) ≡ event_of (is_left_in_word (is_reordered INDIC_SHAPER) (Some (item_of (get_or gs (at - 1) d))) (item_of (get_or gs at e))) at
event_there at d e gs lt =
    let before = Some (item_of (get_or gs (at - 1) d)) in
    let x = item_of (get_or gs at e) in
    ap (λ (o : Option Item). indic_events o at (take 1 (drop at (strip gs)))) (item_there gs (at - 1) d (omega (arith, lt)))
    ∙ ap (λ (xs : List Item). indic_events before at xs) (one_there gs at e lt)
    ∙ append-nil (event_of (is_left_in_word (is_reordered INDIC_SHAPER) before x) at)

-- what happens at an index, where it is known whether its glyph is such a matra
happens_at : (at : ℕ) (d e : hb_glyph_info_t) (gs hs : List hb_glyph_info_t) (t : Bool) (s new : Sides) → gs ≡ all_glyphs s → hs ≡ all_glyphs s → at < length (all_glyphs s)
    → t ≡ is_left_in_word (is_reordered INDIC_SHAPER) (Some (item_of (get_or gs (at - 1) d))) (item_of (get_or hs at e)) → Happens (event_of t at) s new
    → Happens (indic_events (slice_get (items_of s) (at - 1)) at (take 1 (drop at (items_of s)))) s new
happens_at at d e gs hs t s new before glyph lt is h =
    let there = event_there at d e (all_glyphs s) lt in
    let same = is ∙ ap (λ (ys : List hb_glyph_info_t). is_left_in_word (is_reordered INDIC_SHAPER) (Some (item_of (get_or ys (at - 1) d))) (item_of (get_or hs at e))) before
    ∙ ap (λ (ys : List hb_glyph_info_t). is_left_in_word (is_reordered INDIC_SHAPER) (Some (item_of (get_or (all_glyphs s) (at - 1) d))) (item_of (get_or ys at e))) glyph in
    subst (λ (es : List Event). Happens es s new) (sym (there ∙ ap (λ (u : Bool). event_of u at) (sym same))) h

pub word_kept : (at : ℕ) (d e : hb_glyph_info_t) (gs hs : List hb_glyph_info_t) (t : Bool) (s : Sides) → gs ≡ all_glyphs s → hs ≡ all_glyphs s → at < length (all_glyphs s)
    → t ≡ is_left_in_word (is_reordered INDIC_SHAPER) (Some (item_of (get_or gs (at - 1) d))) (item_of (get_or hs at e)) → t ≡ false → IsReady s
    → Happens (word_events (is_reordered INDIC_SHAPER) (slice_get (items_of s) (at - 1)) at (take 1 (drop at (items_of s)))) s s
word_kept at d e gs hs t s before glyph lt is none ready = happens_at at d e gs hs t s s before glyph lt is (subst (λ (u : Bool). Happens (event_of u at) s s) (sym none) (nothing_happens s ready))

pub word_flagged : (at : ℕ) (d e : hb_glyph_info_t) (gs hs : List hb_glyph_info_t) (t : Bool) (s new : Sides) → gs ≡ all_glyphs s → hs ≡ all_glyphs s → at < length (all_glyphs s)
    → t ≡ is_left_in_word (is_reordered INDIC_SHAPER) (Some (item_of (get_or gs (at - 1) d))) (item_of (get_or hs at e)) → t ≡ true → new ≡ strictly_marked (Some (at - 1)) (Some (at + 1)) s → items_of new ≡ items_of s
    → origins_of new ≡ origins_by (StrictBreak (start_in_all (Some (at - 1)) s) (end_in_all (Some (at + 1)) s) ∷ []) s → IsReady s
    → Happens (word_events (is_reordered INDIC_SHAPER) (slice_get (items_of s) (at - 1)) at (take 1 (drop at (items_of s)))) s new
word_flagged at d e gs hs t s new before glyph lt is some marked items origins ready =
    happens_at at d e gs hs t s new before glyph lt is (subst (λ (u : Bool). Happens (event_of u at) s new) (sym some) (strict_happens (at - 1) (at + 1) s new marked items origins ready))

-- ---- the walk

-- the glyphs before an index are flagged; those from it on are still to come
pub record AreFlagged (start : Sides) (at : ℕ) (now : Sides) : Type 0 where
  pub begun : 0 < at
  pub events : List Event
  pub happened : Happens events start now
  pub rest : events ++ indic_events (slice_get (items_of start) (at - 1)) at (drop at (items_of start)) ≡ indic_events None 0 (items_of start)

-- the first glyph continues no word
not_in_word : (a b : Bool) → (true && a && b && false) ≡ false
not_in_word true true = refl
not_in_word true false = refl
not_in_word false true = refl
not_in_word false false = refl

first_passed : (xs : List Item) → indic_events (slice_get xs 0) 1 (drop 1 xs) ≡ indic_events None 0 xs
first_passed [] = refl
first_passed (x ∷ xs) =
    let more = indic_events (Some x) 1 xs in
    let none : is_left_in_word (is_reordered INDIC_SHAPER) None x ≡ false = not_in_word (is_reordered INDIC_SHAPER (kind_of_byte x.syllable)) (is_left x) in
    sym (ap (λ (t : Bool). event_of t 0 ++ more) none)

pub none_flagged : (s : Sides) → IsReady s → AreFlagged s 1 s
none_flagged s ready = record { begun = omega arith; events = []; happened = nothing_happens s ready; rest = first_passed (items_of s) }

same_items : (a b : Sides) → view_of b ≡ view_of a → items_of b ≡ items_of a
same_items a b e = ap (λ (v : View). v.items) e

pub happened_count : (es : List Event) (a b : Sides) → Happens es a b → length (all_glyphs b) ≡ length (all_glyphs a)
happened_count es a b h = sym (length-map (all_glyphs b) item_of) ∙ ap (λ (xs : List Item). length xs) (same_items a b h.view) ∙ length-map (all_glyphs a) item_of

pub same_count : (start now : Sides) (at : ℕ) → AreFlagged start at now → length (all_glyphs now) ≡ length (all_glyphs start)
same_count start now at f = happened_count f.events start now f.happened

cut_next : (before : Option Item) (at : ℕ) (ys : List Item) → 0 < length ys → indic_events before at ys ≡ indic_events before at (take 1 ys) ++ indic_events (slice_get ys 0) (at + 1) (drop 1 ys)
cut_next before at [] lt = absurd (omega (arith, lt))
cut_next before at (y ∷ ys) lt =
    let more = indic_events (Some y) (at + 1) ys in
    ap (λ (es : List Event). es ++ more) (sym (append-nil (event_of (is_left_in_word (is_reordered INDIC_SHAPER) before y) at)))

dropped_first : (xs : List Item) (i : ℕ) → slice_get (drop i xs) 0 ≡ slice_get xs i
dropped_first [] zero = refl
dropped_first [] (suc i) = refl
dropped_first (x ∷ xs) zero = refl
dropped_first (x ∷ xs) (suc i) = dropped_first xs i

cut_at : (xs : List Item) (at : ℕ) → at < length xs
    → indic_events (slice_get xs (at - 1)) at (drop at xs) ≡ indic_events (slice_get xs (at - 1)) at (take 1 (drop at xs)) ++ indic_events (slice_get xs (at + 1 - 1)) (at + 1) (drop (at + 1) xs)
cut_at xs at lt =
    let before = slice_get xs (at - 1) in
    let here = indic_events before at (take 1 (drop at xs)) in
    let back : at ≡ at + 1 - 1 = omega arith in
    let next : slice_get (drop at xs) 0 ≡ slice_get xs (at + 1 - 1) = dropped_first xs at ∙ ap (λ (k : ℕ). slice_get xs k) back in
    cut_next before at (drop at xs) (omega (arith, lt, length-drop at xs))
    ∙ ap (λ (o : Option Item). here ++ indic_events o (at + 1) (drop 1 (drop at xs))) next
    ∙ ap (λ (ys : List Item). here ++ indic_events (slice_get xs (at + 1 - 1)) (at + 1) ys) (drop-drop 1 at xs)

pub next_flagged : (at : ℕ) (start now new : Sides) → at < length (all_glyphs start) → AreFlagged start at now
    → Happens (word_events (is_reordered INDIC_SHAPER) (slice_get (items_of now) (at - 1)) at (take 1 (drop at (items_of now)))) now new → AreFlagged start (at + 1) new
next_flagged at start now new lt f h =
    let xs = items_of start in
    let es = indic_events (slice_get xs (at - 1)) at (take 1 (drop at xs)) in
    let more = indic_events (slice_get xs (at + 1 - 1)) (at + 1) (drop (at + 1) xs) in
    let there = ap (λ (ys : List Item). indic_events (slice_get ys (at - 1)) at (take 1 (drop at ys))) (same_items start now f.happened.view) in
    let many = length-map (all_glyphs start) item_of in
    record {
      begun = omega arith;
      events = f.events ++ es;
      happened = both_happen f.events es start now new f.happened (subst (λ (fs : List Event). Happens fs now new) there h);
      rest = append_assoc f.events es more ∙ ap (λ (fs : List Event). f.events ++ fs) (sym (cut_at xs at (omega (arith, lt, many)))) ∙ f.rest;
    }

pub all_flagged : (at : ℕ) (start now : Sides) → length (all_glyphs start) ≤ at → AreFlagged start at now → Happens (word_events (is_reordered INDIC_SHAPER) None 0 (items_of start)) start now
all_flagged at start now le f =
    let xs = items_of start in
    let many = length-map (all_glyphs start) item_of in
    let before = slice_get xs (at - 1) in
    let none : indic_events before at (drop at xs) ≡ [] = ap (λ (ys : List Item). indic_events before at ys) (drop_all at xs (omega (arith, le, many))) in
    subst (λ (es : List Event). Happens es start now) (sym (append-nil f.events) ∙ ap (λ (es : List Event). f.events ++ es) (sym none) ∙ f.rest) f.happened

-- ---- where PRODUCE_SAFE_BREAKS isn't set

unrequested : (asks : Asks) (level : BufferClusterLevel) (before : Option Item) (at : ℕ) (xs : List Item) (os : List Origin) → asks.breaks ≡ false → origins_after asks level (indic_events before at xs) os ≡ os
unrequested asks level before at [] os e = refl
unrequested asks level before at (x ∷ xs) os e =
    let t = is_left_in_word (is_reordered INDIC_SHAPER) before x in
    let more = indic_events (Some x) (at + 1) xs in
    origins_after_both asks level (event_of t at) more os ∙ ap (λ (ps : List Origin). origins_after asks level more ps) (one t) ∙ unrequested asks level (Some x) (at + 1) xs os e
  where
    one : (t : Bool) → origins_after asks level (event_of t at) os ≡ os
    one true = ap (λ (b : Bool). origins_strict b (at - 1) (at + 1) os) e
    one false = refl

pub none_requested : (s : Sides) → requests_breaks s ≡ false → IsReady s → Happens (word_events (is_reordered INDIC_SHAPER) None 0 (items_of s)) s s
none_requested s e ready = record {
  view = refl;
  origins = sym (unrequested (flag_requests_of s) s.level None 0 (items_of s) (origins_of s) e);
  settings = refl;
  ready = ready;
}

-- ---- flags, and then features

pub words_masked : (mask n : ℕ) (a b c : Sides) → n ≡ length (all_glyphs a) → (mask == 0) ≡ false → Happens (word_events (is_reordered INDIC_SHAPER) None 0 (items_of a)) a b
    → IsRewritten (eventless_arrangement (words_begun (is_reordered INDIC_SHAPER) mask None (slice_range (items_of b) 0 n))) 0 n b c
    → IsRewritten (record { items = words_begun (is_reordered INDIC_SHAPER) mask None (items_of a); events = if mask == 0 then [] else word_events (is_reordered INDIC_SHAPER) None 0 (items_of a) }) 0 (length (all_glyphs a)) a c
words_masked mask n a b c count some h r =
    let xs = items_of a in
    let ys = words_begun (is_reordered INDIC_SHAPER) mask None xs in
    let es = indic_events None 0 xs in
    let last = length (all_glyphs a) in
    let many = length-map (all_glyphs a) item_of in
    let less : last - 0 ≡ last = omega arith in
    let whole : slice_range (items_of b) 0 last ≡ xs = ap (λ (zs : List Item). slice_range zs 0 last) (same_items a b h.view) ∙ ap (λ (k : ℕ). take k xs) less ∙ take_all last xs (omega (arith, many)) in
    let all : IsRewritten (eventless_arrangement (words_begun (is_reordered INDIC_SHAPER) mask None (slice_range (items_of b) 0 last))) 0 last b c =
    subst (λ (k : ℕ). IsRewritten (eventless_arrangement (words_begun (is_reordered INDIC_SHAPER) mask None (slice_range (items_of b) 0 k))) 0 k b c) count r in
    let now : IsRewritten (eventless_arrangement ys) 0 last b c = subst (λ (zs : List Item). IsRewritten (eventless_arrangement (words_begun (is_reordered INDIC_SHAPER) mask None zs)) 0 last b c) whole all in
    let both : IsRewritten (record { items = ys; events = es }) 0 last a c = record {
      view = now.view ∙ ap (λ (v : View). record v { items = take 0 v.items ++ ys ++ drop last v.items }) h.view;
      origins = now.origins ∙ h.origins ∙ ap (λ (fs : List Event). origins_by fs a) (sym (shift_none es));
      settings = now.settings ∙ h.settings;
      ready = now.ready;
    } in
    subst (λ (t : Bool). IsRewritten (record { items = ys; events = if t then [] else es }) 0 last a c) (sym some) both
