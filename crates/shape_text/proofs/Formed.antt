-- The graphemes of a text, one after another.
use Rattle.std.proofs.Common.{ℕ, suc, ◌≡◌, ◌<◌, ◌≤◌, ◌+◌, ◌-◌, ◌==◌, true, false, not, if◌then◌else◌, List, [], ◌∷◌, ◌++◌, length, drop, arith, refl, sym, ap, subst, ◌∙◌, append_assoc}
use Rattle.std.specs.Prelude.{bit_and}
use Rattle.std.specs.List.{prefix_len}
use Rattle.std.proofs.lemmas.List.{append-nil, drop_all, drop-drop, drop-map, length-map, length-drop}
use Rattle.std.proofs.lemmas.List.Sums.{prefix_len-le-length}
use Rattle.std.proofs.lemmas.Nat.{and_assoc}
use Rattle.buffer_glyphs.specs.declared.info.hb_glyph_info_t.{hb_glyph_info_t}
use Rattle.buffer_glyphs.specs.Items.{Item, item_of, strip}
use Rattle.buffer_glyphs.specs.declared.level.BufferClusterLevel.{BufferClusterLevel}
use Rattle.buffer_glyphs.specs.declared.level.BufferClusterLevel.TheVariants.{MonotoneGraphemes, MonotoneCharacters, Characters, Graphemes}
use Rattle.buffer_glyphs.specs.Levels.{Marks, grapheme_manner}
use Rattle.buffer_glyphs.specs.Origins.{Asks, Origin}
use Rattle.buffer_glyphs.specs.Events.{Event, origins_after}
use Rattle.buffer_core.specs.Readings.{View, always}
use Rattle.buffer_core.specs.Graphemes.{continues}
use Rattle.buffer_lists.specs.Groups.{group_length, joined_count}
use Rattle.buffer_lists.proofs.Lemmas.Ranges.{lengths_cut}
use Rattle.buffer_lists.specs.Runs as Runs
use Rattle.buffer_core.specs.Sides.{Settings, Sides, all_glyphs, flag_requests_of, items_of, origins_of, stage_flags, view_of}
use Rattle.buffer_stages.specs.Ready.{IsReady}
use Rattle.buffer_stages.specs.Stages.{Happens, IsFollowed}
use Rattle.buffer_stages.proofs.Lemmas.Happened.{nothing_happens, both_happen}
use Rattle.buffer_stages.specs.Lemmas.Written.{read_followed}
use Rattle.shape_text.specs.Clusters.{grapheme_event, grapheme_events, grapheme_lengths, has_non_ascii, with_clusters}
use Rattle.buffer_lists.proofs.Lemmas.SortedEvents.{lone_merged as merged_alone}

one_more : (n : ℕ) → suc n ≡ 1 + n
one_more n = omega arith

joined_front : (x : Item) (gs : List hb_glyph_info_t) → joined_count (λ a b. continues b) x (strip gs) ≡ prefix_len Runs.continues gs
joined_front x [] = refl
joined_front x (g ∷ gs) = ap (λ n. if Runs.continues g then n else 0) (ap suc (joined_front (item_of g) gs) ∙ one_more (prefix_len Runs.continues gs))

-- the first grapheme, and the others
pub lengths_of : (g : hb_glyph_info_t) (gs : List hb_glyph_info_t) → grapheme_lengths (strip (g ∷ gs)) ≡ Runs.grapheme_length (g ∷ gs) ∷ grapheme_lengths (drop (Runs.grapheme_length (g ∷ gs)) (strip (g ∷ gs)))
lengths_of g gs =
    let many : group_length (λ (a b : Item). continues b) (strip (g ∷ gs)) ≡ Runs.grapheme_length (g ∷ gs) = ap suc (joined_front (item_of g) gs) in
    lengths_cut (λ (a b : Item). continues b) (item_of g) (strip gs) ∙ ap (λ n. n ∷ grapheme_lengths (drop n (strip (g ∷ gs)))) many

lengths_there : (gs : List hb_glyph_info_t) → 0 < length gs → grapheme_lengths (strip gs) ≡ Runs.grapheme_length gs ∷ grapheme_lengths (drop (Runs.grapheme_length gs) (strip gs))
lengths_there [] lt = absurd (omega arith)
lengths_there (g ∷ gs) lt = lengths_of g gs

-- a grapheme ends within the text, and has a character
pub grapheme_some : (gs : List hb_glyph_info_t) → 0 < length gs → 0 < Runs.grapheme_length gs
grapheme_some [] lt = absurd (omega arith)
grapheme_some (g ∷ gs) lt = omega arith

grapheme_few : (gs : List hb_glyph_info_t) → Runs.grapheme_length gs ≤ length gs
grapheme_few [] = omega arith
grapheme_few (g ∷ gs) = omega (arith, prefix_len-le-length Runs.continues gs)

pub grapheme_ends : (start end : ℕ) (gs : List hb_glyph_info_t) → start < length gs → end ≡ start + Runs.grapheme_length (drop start gs) → (start < end) × (end ≤ length gs)
grapheme_ends start end gs lt e =
    let len = length-drop start gs in
    let some = grapheme_some (drop start gs) (omega (arith, len, lt)) in
    let few = grapheme_few (drop start gs) in
    (omega (arith, some, e), omega (arith, few, len, e, lt))

-- a grapheme of one character stays as it is
pub alone_unchanged : (level : BufferClusterLevel) (start : ℕ) (asks : Asks) (os : List Origin) → origins_after asks level (grapheme_event level start (start + 1) ∷ []) os ≡ os
alone_unchanged MonotoneGraphemes start asks os = merged_alone (grapheme_manner MonotoneGraphemes) start os
alone_unchanged MonotoneCharacters start asks os = merged_alone Marks start os
alone_unchanged Characters start asks os = merged_alone Marks start os
alone_unchanged Graphemes start asks os = merged_alone (grapheme_manner Graphemes) start os

pub alone_happens : (start end : ℕ) (s : Sides) → IsReady s → start < end → end - start ≤ 1 → Happens (grapheme_event s.level start end ∷ []) s s
alone_happens start end s ready lt le =
    let e : start + 1 ≡ end = omega (arith, lt, le) in
    subst (λ k. Happens (grapheme_event s.level start k ∷ []) s s) e
    (record { view = refl; origins = sym (alone_unchanged s.level start (flag_requests_of s) (origins_of s)); settings = refl; ready = ready })

-- ---- the walk

-- the graphemes before an index have merged, or are marked; those from it on are still to come
pub record AreFormed (from : Sides) (start : ℕ) (s : Sides) : Type 0 where
  pub events : List Event
  pub happened : Happens events from s
  pub rest : events ++ grapheme_events from.level start (grapheme_lengths (drop start (items_of from))) ≡ grapheme_events from.level 0 (grapheme_lengths (items_of from))

pub none_formed : (s : Sides) → IsReady s → AreFormed s 0 s
none_formed s ready = record { events = []; happened = nothing_happens s ready; rest = refl }

same_items : (a b : Sides) → view_of b ≡ view_of a → items_of b ≡ items_of a
same_items a b e = ap (λ (v : View). v.items) e

pub same_count : (from s : Sides) (start : ℕ) → AreFormed from start s → length (all_glyphs s) ≡ length (all_glyphs from)
same_count from s start f = sym (length-map (all_glyphs s) item_of) ∙ ap (λ (xs : List Item). length xs) (same_items from s f.happened.view) ∙ length-map (all_glyphs from) item_of

rest_cut : (from s : Sides) (start n : ℕ) → items_of s ≡ items_of from → start < length (all_glyphs s) → n ≡ Runs.grapheme_length (drop start (all_glyphs s))
    → grapheme_lengths (drop start (items_of from)) ≡ n ∷ grapheme_lengths (drop (start + n) (items_of from))
rest_cut from s start n same lt e =
    ap (λ xs. grapheme_lengths (drop start xs)) (sym same) ∙ ap grapheme_lengths (drop-map item_of start (all_glyphs s))
    ∙ lengths_there (drop start (all_glyphs s)) (omega (arith, length-drop start (all_glyphs s), lt))
    ∙ ap (λ m. m ∷ grapheme_lengths (drop m (strip (drop start (all_glyphs s))))) (sym e)
    ∙ ap (λ xs. n ∷ grapheme_lengths (drop n xs)) (sym (drop-map item_of start (all_glyphs s)))
    ∙ ap (λ xs. n ∷ grapheme_lengths xs) (drop-drop n start (items_of s))
    ∙ ap (λ xs. n ∷ grapheme_lengths (drop (start + n) xs)) same

pub next_formed : (from s t : Sides) (start end : ℕ) → start < length (all_glyphs s) → end ≡ start + Runs.grapheme_length (drop start (all_glyphs s)) → Happens (grapheme_event s.level start end ∷ []) s t → AreFormed from start s → AreFormed from end t
next_formed from s t start end lt e h f =
    let n = Runs.grapheme_length (drop start (all_glyphs s)) in
    let level = ap (λ (st : Settings). st.level) f.happened.settings in
    let event : grapheme_event s.level start end ≡ grapheme_event from.level start (start + n) = ap (λ l. grapheme_event l start end) level ∙ ap (grapheme_event from.level start) e in
    record {
      events = f.events ++ grapheme_event s.level start end ∷ [];
      happened = both_happen f.events (grapheme_event s.level start end ∷ []) from s t f.happened h;
      rest =
          append_assoc f.events (grapheme_event s.level start end ∷ []) (grapheme_events from.level end (grapheme_lengths (drop end (items_of from))))
          ∙ ap (λ ev. f.events ++ ev ∷ grapheme_events from.level end (grapheme_lengths (drop end (items_of from)))) event
          ∙ ap (λ k. f.events ++ grapheme_event from.level start (start + n) ∷ grapheme_events from.level k (grapheme_lengths (drop k (items_of from)))) e
          ∙ ap (λ lens. f.events ++ grapheme_events from.level start lens) (sym (rest_cut from s start n (same_items from s f.happened.view) lt refl))
          ∙ f.rest;
    }

pub all_formed : (from s : Sides) (start : ℕ) → length (all_glyphs s) ≤ start → AreFormed from start s → Happens (grapheme_events from.level 0 (grapheme_lengths (items_of from))) from s
all_formed from s start le f =
    let none : drop start (items_of from) ≡ [] = drop_all start (items_of from) (omega (arith, same_count from s start f, length-map (all_glyphs from) item_of, le)) in
    let whole = sym (append-nil f.events) ∙ ap (λ xs. f.events ++ grapheme_events from.level start (grapheme_lengths xs)) (sym none) ∙ f.rest in
    subst (λ es. Happens es from s) whole f.happened

-- ---- the stage

told_non_ascii : (f : ℕ) → has_non_ascii (stage_flags f) ≡ not (bit_and f 1 == 0)
told_non_ascii f = ap (λ n. not (n == 0)) (and_assoc 1 f 0xFFFF_FFDF)

-- graphemes that merged or were marked
pub clusters_followed : (s new : Sides) → not (bit_and s.scratch_flags 1 == 0) ≡ true → Happens (grapheme_events s.level 0 (grapheme_lengths (items_of s))) s new → IsFollowed (always with_clusters) s new
clusters_followed s new e h =
    let es = grapheme_events s.level 0 (grapheme_lengths (items_of s)) in
    read_followed with_clusters es (view_of s) s new h.view h.origins h.settings h.ready refl (ap (λ b. if b then es else []) (told_non_ascii s.scratch_flags ∙ e))

-- a text below U+0080
pub none_followed : (s : Sides) → not (bit_and s.scratch_flags 1 == 0) ≡ false → IsReady s → IsFollowed (always with_clusters) s s
none_followed s e ready =
    let es = grapheme_events s.level 0 (grapheme_lengths (items_of s)) in
    read_followed with_clusters [] (view_of s) s s refl refl refl ready refl (ap (λ b. if b then es else []) (told_non_ascii s.scratch_flags ∙ e))
