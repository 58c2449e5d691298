-- All stages.
use Rattle.std.proofs.Common.{ℕ, ◌≡◌, ◌+◌, ◌-◌, false, List, [], ◌∷◌, Ok, Err, length, arith, refl, sym, ap, subst, ◌∙◌}
use Rattle.std.proofs.lemmas.List.{length-append}
use Rattle.buffer_glyphs.specs.declared.info.hb_glyph_info_t.{hb_glyph_info_t}
use Rattle.buffer_glyphs.specs.declared.cause.ShapeCause.{ShapeCause}
use Rattle.buffer_glyphs.specs.Items.{clusters, strip}
use Rattle.buffer_glyphs.specs.Origins.{numbers, origins}
use Rattle.buffer_core.specs.Readings.{Follows, Reading, BufferState, reading_of}
use Rattle.buffer_core.specs.Sides.{Sides, all_glyphs, state_of, view_of}
use Rattle.buffer_core.specs.Moving.{after_move_to}
use Rattle.buffer_stages.specs.Ready.{IsReady}
use Rattle.buffer_stages.specs.Settings.{text_settings}
use Rattle.buffer_stages.specs.Stages.{IsFollowed}
use Rattle.shape_pipeline.specs.Masks.{ranges_set}
use Rattle.shape_pipeline.specs.Reading.{after_ranges, before_ranges, clusters_after, reading, shaping_stage}
use Rattle.shape_pipeline.specs.Shaping.{Shaping}
use Rattle.shape_pipeline.proofs.Lemmas.Chains.{first_refused, third_refused, three_followed}
use Rattle.shape_pipeline.proofs.Sets.{followed_as_set, refused_as_set, set_as}
use Rattle.buffer_glyphs.specs.Lemmas.Origins.{numbers_origins as numbers_seen}

-- ---- the cursor in front

pub rewound_ready : (n m : ℕ) (s new : Sides) → s.is_open ≡ false → s.has_refused ≡ false → n ≡ s.read + length s.ahead → n ≡ length (all_glyphs s) → length s.positions ≡ length (all_glyphs s) → new ≡ after_move_to 0 s → all_glyphs new ≡ all_glyphs s → IsReady new
rewound_ready n m s new closed unrefused input count placed e all =
    let both = length-append s.behind s.ahead in
    let read : s.read + 0 - length s.behind ≡ 0 = omega (arith, input, count, both) in
    record {
      closed = ap (λ (t : Sides). t.is_open) e ∙ closed;
      front = ap (λ (t : Sides). t.behind) e;
      unread = ap (λ (t : Sides). t.read) e ∙ read;
      placed = ap (λ (t : Sides). length t.positions) e ∙ placed ∙ sym (ap (λ gs. length gs) all);
      unrefused = ap (λ (t : Sides). t.has_refused) e ∙ unrefused;
    }

abbrev run_with_glyphs : List hb_glyph_info_t → Sides → BufferState
run_with_glyphs gs s = record (state_of s) { view = record (view_of s) { items = strip gs }; origins = origins gs }

pub rewound_run : (s new : Sides) → new ≡ after_move_to 0 s → all_glyphs new ≡ all_glyphs s → state_of new ≡ state_of s
rewound_run s new e all = ap (λ (t : Sides). run_with_glyphs (all_glyphs new) t) e ∙ ap (λ gs. run_with_glyphs gs s) all

-- ---- the numbers of clusters where the masks of ranges are set

numbers_followed : (r : Reading) (old new : BufferState) → Follows r old new → numbers new.origins ≡ clusters_after r old
numbers_followed (Ok r) old new f = ap (λ (run : BufferState). numbers run.origins) f
numbers_followed (Err e) old new f = absurd f

pub clusters_known : (p : Shaping) (s t : Sides) → IsFollowed (before_ranges p) s t → clusters (all_glyphs t) ≡ clusters_after (before_ranges p (view_of s)) (state_of s)
clusters_known p s t f = sym (numbers_seen (all_glyphs t)) ∙ numbers_followed (before_ranges p (view_of s)) (state_of s) (state_of t) f.follows

pub reading_followed : (p : Shaping) (s t u new : Sides) → p.settings ≡ text_settings s → IsFollowed (before_ranges p) s t → IsFollowed (ranges_set p (clusters (all_glyphs t))) t u → IsFollowed (after_ranges (set_as u p)) u new → Follows (reading p (state_of s)) (state_of s) (state_of new)
unfolding reading shaping_stage
reading_followed p s t u new set f g h =
    let P : List ℕ → Type 0 = λ ns. IsFollowed (ranges_set p ns) t u in
    let ns = clusters_after (before_ranges p (view_of s)) (state_of s) in
    (three_followed (before_ranges p) (ranges_set p ns) (after_ranges p) s t u new f (subst P (clusters_known p s t f) g) (followed_as_set after_ranges p s u new set (g.settings ∙ f.settings) h)).follows

pub reading_refused : (p : Shaping) (s : Sides) (cause : ShapeCause) → reading_of (before_ranges p) (state_of s) ≡ Err cause → reading p (state_of s) ≡ Err cause
unfolding reading shaping_stage
reading_refused p s cause e =
    let ns = clusters_after (before_ranges p (view_of s)) (state_of s) in
    first_refused (before_ranges p) (ranges_set p ns ∷ after_ranges p ∷ []) s cause e

pub reading_refused_late : (p : Shaping) (s t u : Sides) (cause : ShapeCause) → p.settings ≡ text_settings s → IsFollowed (before_ranges p) s t → IsFollowed (ranges_set p (clusters (all_glyphs t))) t u → reading_of (after_ranges (set_as u p)) (state_of u) ≡ Err cause → reading p (state_of s) ≡ Err cause
unfolding reading shaping_stage
reading_refused_late p s t u cause set f g e =
    let P : List ℕ → Type 0 = λ ns. IsFollowed (ranges_set p ns) t u in
    let ns = clusters_after (before_ranges p (view_of s)) (state_of s) in
    third_refused (before_ranges p) (ranges_set p ns) (after_ranges p) [] s t u cause f (subst P (clusters_known p s t f) g) (refused_as_set after_ranges p s u cause set (g.settings ∙ f.settings) e)
