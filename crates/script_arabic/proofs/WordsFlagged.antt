-- Words with tiles, flagged one after another.
use Rattle.std.proofs.Common.{ℕ, zero, suc, ◌≡◌, ◌≤◌, ◌<◌, ◌+◌, Bool, true, false, if◌then◌else◌, List, [], ◌∷◌, ◌++◌, Some, length, drop, get_or, refl, sym, ap, subst, ◌∙◌, arith, add-one, append_assoc}
use Rattle.std.specs.Prelude.{not, slice_get}
use Rattle.std.specs.List.{list_any}
use Rattle.std.proofs.lemmas.Bool.{or_parts}
use Rattle.std.proofs.lemmas.List.{drop_all, length-map}
use Rattle.buffer_glyphs.specs.declared.info.hb_glyph_info_t.{hb_glyph_info_t}
use Rattle.buffer_glyphs.specs.Items.{Item, item_of, strip}
use Rattle.buffer_glyphs.specs.Events.{Event, StrictBreak}
use Rattle.buffer_core.specs.Readings.{View}
use Rattle.buffer_core.specs.Sides.{Sides, all_glyphs, items_of, requests_breaks}
use Rattle.buffer_parts.specs.Plainly.{AreSteady}
use Rattle.buffer_stages.specs.Ready.{IsReady}
use Rattle.buffer_stages.specs.Stages.{Happens}
use Rattle.buffer_stages.proofs.Lemmas.Happened.{both_happen, nothing_happens}
use Rattle.script_syllabic.proofs.Strict.{strict_break_skipped}
use Rattle.script_arabic.specs.declared.stretch.WordWalk.{WordWalk}
use Rattle.script_arabic.specs.Words.{is_of_word}
use Rattle.script_arabic.specs.Tiles.{is_tile}
use Rattle.script_arabic.specs.Stretch.{stretch_event, stretch_event_at, stretch_events, text_stretch_events, word_past, word_start}
use Rattle.script_joining.proofs.Marked.{some_same, there_suc}

-- ---- one word

abbrev word_if : Bool → ℕ → ℕ → List Event
word_if b start at = if b then StrictBreak start at ∷ [] else []

pub has_some : (b : Bool) → not b ≡ false → b ≡ true
has_some true e = refl
has_some false e = sym e

pub word_flagged : (w : WordWalk) (at : ℕ) (s new : Sides) → w.has_tiles ≡ true → Happens (StrictBreak w.start at ∷ []) s new → Happens (stretch_event w at) s new
word_flagged w at s new e h = subst (λ b. Happens (word_if b w.start at) s new) (sym e) h

pub word_kept : (w : WordWalk) (at : ℕ) (s : Sides) → w.has_tiles ≡ false → IsReady s → Happens (stretch_event w at) s s
word_kept w at s e ready = subst (λ b. Happens (word_if b w.start at) s s) (sym e) (nothing_happens s ready)

abbrev end_if : Bool → WordWalk → ℕ → List Event
end_if b w at = if b then [] else stretch_event w at

pub tile_passed : (w : WordWalk) (at : ℕ) (x : Item) (b : Bool) (s : Sides) → b ≡ is_tile x → b ≡ true → IsReady s → Happens (stretch_event_at w at x) s s
tile_passed w at x b s e holds ready = subst (λ c. Happens (end_if c w at) s s) (sym holds ∙ e) (nothing_happens s ready)

pub word_ended : (w : WordWalk) (at : ℕ) (x : Item) (b : Bool) (s new : Sides) → b ≡ is_tile x → b ≡ false → Happens (stretch_event w at) s new → Happens (stretch_event_at w at x) s new
word_ended w at x b s new e fails h = subst (λ c. Happens (end_if c w at) s new) (sym fails ∙ e) h

abbrev past_if : Bool → ℕ → WordWalk → WordWalk
past_if b start w = if b then record w { has_tiles = true } else record { start = start; has_tiles = false }

pub tile_past : (w : WordWalk) (at : ℕ) (x : Item) (b : Bool) → b ≡ is_tile x → b ≡ true → record w { has_tiles = true } ≡ word_past w at x
tile_past w at x b e holds = ap (λ c. past_if c (word_start w at x) w) (sym holds ∙ e)

pub other_past : (w : WordWalk) (at start : ℕ) (x : Item) (b : Bool) → b ≡ is_tile x → b ≡ false → start ≡ word_start w at x → ◌≡◌ {A = WordWalk} (record { start = start; has_tiles = false }) (word_past w at x)
other_past w at start x b e fails f = ap (λ n. past_if false n w) f ∙ ap (λ c. past_if c (word_start w at x) w) (sym fails ∙ e)

-- ---- where nothing is flagged

abbrev start_if : Bool → Bool → ℕ → ℕ → ℕ
start_if b t start at = if not b then at + 1 else if t then at else start

skipped_if : (b : Bool) (start at : ℕ) (s : Sides) → requests_breaks s ≡ false → IsReady s → Happens (word_if b start at) s s
skipped_if true start at s e ready = strict_break_skipped start at s e ready
skipped_if false start at s e ready = nothing_happens s ready

skipped_at : (b : Bool) (w : WordWalk) (at : ℕ) (s : Sides) → requests_breaks s ≡ false → IsReady s → Happens (end_if b w at) s s
skipped_at true w at s e ready = nothing_happens s ready
skipped_at false w at s e ready = skipped_if w.has_tiles w.start at s e ready

words_skipped : (w : WordWalk) (at : ℕ) (xs : List Item) (s : Sides) → requests_breaks s ≡ false → IsReady s → Happens (stretch_events w at xs) s s
words_skipped w at [] s e ready = skipped_if w.has_tiles w.start at s e ready
words_skipped w at (x ∷ xs) s e ready =
    both_happen (stretch_event_at w at x) (stretch_events (word_past w at x) (at + 1) xs) s s s (skipped_at (is_tile x) w at s e ready) (words_skipped (word_past w at x) (at + 1) xs s e ready)

pub text_skipped : (xs : List Item) (s : Sides) → requests_breaks s ≡ false → IsReady s → Happens (text_stretch_events xs) s s
text_skipped xs s e ready = words_skipped (record { start = 0; has_tiles = false }) 0 xs s e ready

-- a text without tiles has no event
no_words : (start at : ℕ) (xs : List Item) → list_any is_tile xs ≡ false → stretch_events (record { start = start; has_tiles = false }) at xs ≡ []
no_words start at [] e = refl
no_words start at (x ∷ xs) e =
    let n = or_parts (is_tile x) (list_any is_tile xs) e in
    let w : WordWalk = record { start = start; has_tiles = false } in
    ap (λ b. end_if b w at ++ stretch_events (past_if b (word_start w at x) w) (at + 1) xs) n.0
    ∙ no_words (word_start w at x) (at + 1) xs n.1

pub no_text_events : (xs : List Item) → list_any is_tile xs ≡ false → text_stretch_events xs ≡ []
no_text_events xs e = no_words 0 0 xs e

-- ---- they keep the parts of a text

steady_if : (b : Bool) (start at : ℕ) (es : List Event) → AreSteady es → AreSteady (word_if b start at ++ es)
steady_if true start at es h = h
steady_if false start at es h = h

steady_at : (b : Bool) (w : WordWalk) (at : ℕ) (es : List Event) → AreSteady es → AreSteady (end_if b w at ++ es)
steady_at true w at es h = h
steady_at false w at es h = steady_if w.has_tiles w.start at es h

steady_last : (b : Bool) (start at : ℕ) → AreSteady (word_if b start at)
steady_last true start at = tt
steady_last false start at = tt

words_steady : (w : WordWalk) (at : ℕ) (xs : List Item) → AreSteady (stretch_events w at xs)
words_steady w at [] = steady_last w.has_tiles w.start at
words_steady w at (x ∷ xs) = steady_at (is_tile x) w at (stretch_events (word_past w at x) (at + 1) xs) (words_steady (word_past w at x) (at + 1) xs)

pub text_steady : (xs : List Item) → AreSteady (text_stretch_events xs)
text_steady xs = words_steady (record { start = 0; has_tiles = false }) 0 xs

-- ---- the walk

pub item_at : (gs : List hb_glyph_info_t) (at : ℕ) (d : hb_glyph_info_t) → at < length gs → Some (item_of (get_or gs at d)) ≡ slice_get (strip gs) at
item_at [] at d lt = absurd (omega arith)
item_at (g ∷ gs) zero d lt = refl
item_at (g ∷ gs) (suc at) d lt = item_at gs at d (omega arith)

-- the words before an index are flagged; those from it on are still to come
pub record AreWordsFlagged (from : Sides) (at : ℕ) (w : WordWalk) (s : Sides) : Type 0 where
  pub events : List Event
  pub happened : Happens events from s
  pub begun : w.start ≤ at
  pub rest : events ++ stretch_events w at (drop at (items_of from)) ≡ text_stretch_events (items_of from)

pub no_word_flagged : (s : Sides) → IsReady s → AreWordsFlagged s 0 (record { start = 0; has_tiles = false }) s
no_word_flagged s ready = record { events = []; happened = nothing_happens s ready; begun = omega arith; rest = refl }

same_items : (es : List Event) (from s : Sides) → Happens es from s → items_of s ≡ items_of from
same_items es from s h = ap (λ (v : View). v.items) h.view

pub many_as_before : (es : List Event) (from s : Sides) → Happens es from s → length (all_glyphs s) ≡ length (all_glyphs from)
many_as_before es from s h = sym (length-map (all_glyphs s) item_of) ∙ ap (λ (xs : List Item). length xs) (same_items es from s h) ∙ length-map (all_glyphs from) item_of

start_begun : (b t : Bool) (start at : ℕ) → start ≤ at → start_if b t start at ≤ at + 1
start_begun true true start at le = omega arith
start_begun true false start at le = omega (arith, le)
start_begun false t start at le = omega arith

past_begun : (b : Bool) (start at : ℕ) (w : WordWalk) → w.start ≤ at → start ≤ at + 1 → (past_if b start w).start ≤ at + 1
past_begun true start at w le further = omega (arith, le)
past_begun false start at w le further = further

pub next_word : (from s t : Sides) (at : ℕ) (w : WordWalk) (x : Item) → Some x ≡ slice_get (items_of s) at → Happens (stretch_event_at w at x) s t → AreWordsFlagged from at w s → AreWordsFlagged from (at + 1) (word_past w at x) t
next_word from s t at w x e h f =
    let es = stretch_event_at w at x in
    let xs = items_of from in
    let more : ℕ → List Event = λ k. stretch_events (word_past w at x) (at + 1) (drop k xs) in
    let there = e ∙ ap (λ ys. slice_get ys at) (same_items f.events from s f.happened) in
    let cut : es ++ more (suc at) ≡ stretch_events w at (drop at xs) = sym (ap (stretch_events w at) (there_suc xs at x there)) in
    record {
      events = f.events ++ es;
      happened = both_happen f.events es from s t f.happened h;
      begun = past_begun (is_tile x) (word_start w at x) at w f.begun (start_begun (is_of_word x) w.has_tiles w.start at f.begun);
      rest =
          append_assoc f.events es (more (at + 1))
          ∙ ap (λ k. f.events ++ (es ++ more k)) (add-one at)
          ∙ ap (λ ls. f.events ++ ls) cut
          ∙ f.rest;
    }
