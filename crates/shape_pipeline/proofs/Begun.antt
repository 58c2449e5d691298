-- A text begun.
use Rattle.std.proofs.Common.{ℕ, ◌≡◌, true, List, [], ◌∷◌, Err, map, refl, sym, ap, subst, ◌∙◌}
use Rattle.std.proofs.lemmas.List.{length-map}
use Rattle.buffer_glyphs.specs.declared.cause.ShapeCause.{ShapeCause}
use Rattle.buffer_glyphs.specs.Items.{Item, item_masked, item_of}
use Rattle.buffer_core.specs.Readings.{BufferState, Follows, Stage, always, reading_of}
use Rattle.buffer_core.specs.Steps.{follows_events}
use Rattle.buffer_core.specs.Sides.{Sides, all_glyphs, items_of, state_of, settings_of, view_of}
use Rattle.buffer_core.specs.Settings.{after_enter, length_limit, steps_limit}
use Rattle.buffer_stages.specs.Ready.{IsDone, IsReady}
use Rattle.buffer_stages.specs.Settings.{text_settings}
use Rattle.buffer_stages.specs.Stages.{IsFollowed}
use Rattle.shape_text.specs.Masks.{with_one_mask}
use Rattle.shape_text.specs.Properties.{are_characters, with_properties}
use Rattle.shape_text.specs.Circle.{first_circle}
use Rattle.shape_text.specs.Clusters.{with_clusters}
use Rattle.shape_text.specs.NativeOrder.{native_order}
use Rattle.shape_pipeline.specs.Limits.{initial_view}
use Rattle.shape_pipeline.specs.Characters.{text_begun}
use Rattle.shape_pipeline.specs.Shaping.{Shaping}
use Rattle.shape_pipeline.proofs.Lemmas.Chains.{done_followed, fourth_refused, six_followed}
use Rattle.shape_pipeline.proofs.Sets.{circle_as_set, circle_refused_as_set, followed_as_set, refused_as_set, set_as}

pub entered_ready : (s : Sides) → IsReady s → IsReady (after_enter s)
entered_ready s ready = record { closed = ready.closed; front = ready.front; unread = ready.unread; placed = ready.placed; unrefused = ready.unrefused }

pub entered_followed : (s : Sides) → IsReady s → IsFollowed (always initial_view) s (after_enter s)
entered_followed s ready = record {
  follows =
      let same = ap (λ n. record (view_of s) { max_len = length_limit n s.max_len; max_ops = steps_limit n s.max_ops; lig_id = 0; scratch_flags = 0 }) (sym (length-map (all_glyphs s) item_of)) in
      follows_events [] (initial_view (view_of s)).view (state_of s) (state_of (after_enter s)) same refl refl refl;
  settings = refl;
  ready = entered_ready s ready;
}

masked_characters : (m : ℕ) (xs : List Item) → are_characters (map (item_masked m) xs) ≡ are_characters xs
masked_characters m [] = refl
masked_characters m (x ∷ xs) = rw (masked_characters m xs) refl

-- characters with a mask are characters
pub characters_masked : (m : ℕ) (s t : Sides) → IsDone (always (with_one_mask m)) s t → are_characters (items_of s) ≡ true → are_characters (items_of t) ≡ true
characters_masked m s t d are = ap (λ (r : BufferState). are_characters r.view.items) d.follows ∙ masked_characters m (items_of s) ∙ are

abbrev ordered : Shaping → Stage
ordered q v = always (native_order q.settings.script) v

pub text_begun_followed : (p : Shaping) (m : ℕ) (s b c d e new : Sides) → p.settings ≡ text_settings s → m ≡ p.map.global_mask → IsReady s → IsDone (always (with_one_mask m)) (after_enter s) b
    → IsFollowed (always (with_properties p.tables)) b c → IsFollowed (first_circle p.tables p.font c.flags c.pre_context) c d → IsFollowed (always with_clusters) d e → IsFollowed (always (native_order e.script)) e new → IsFollowed (text_begun p) s new
unfolding text_begun
text_begun_followed p m s b c d e new set mask ready masked properties circle clusters order =
    let upto_c : settings_of c ≡ settings_of s = properties.settings ∙ masked.settings in
    let upto_e : settings_of e ≡ settings_of s = clusters.settings ∙ circle.settings ∙ upto_c in
    let M : ℕ → Type 0 = λ n. IsFollowed (always (with_one_mask n)) (after_enter s) b in
    six_followed (always initial_view) (always (with_one_mask p.map.global_mask)) (always (with_properties p.tables)) (first_circle p.tables p.font p.settings.flags p.settings.pre_context) (always with_clusters)
    (always (native_order p.settings.script)) s (after_enter s) b c d e new (entered_followed s ready) (subst M mask (done_followed (always (with_one_mask m)) (after_enter s) b masked)) properties
    (circle_as_set p s c d set upto_c circle) clusters (followed_as_set ordered p s e new set upto_e order)

pub text_begun_refused : (p : Shaping) (m : ℕ) (s b c : Sides) (cause : ShapeCause) → p.settings ≡ text_settings s → m ≡ p.map.global_mask → IsReady s → IsDone (always (with_one_mask m)) (after_enter s) b
    → IsFollowed (always (with_properties p.tables)) b c → reading_of (first_circle p.tables p.font c.flags c.pre_context) (state_of c) ≡ Err cause → reading_of (text_begun p) (state_of s) ≡ Err cause
unfolding text_begun
text_begun_refused p m s b c cause set mask ready masked properties e =
    let upto_c : settings_of c ≡ settings_of s = properties.settings ∙ masked.settings in
    let M : ℕ → Type 0 = λ n. IsFollowed (always (with_one_mask n)) (after_enter s) b in
    fourth_refused (always initial_view) (always (with_one_mask p.map.global_mask)) (always (with_properties p.tables)) (first_circle p.tables p.font p.settings.flags p.settings.pre_context)
    (always with_clusters ∷ always (native_order p.settings.script) ∷ []) s (after_enter s) b c cause (entered_followed s ready) (subst M mask (done_followed (always (with_one_mask m)) (after_enter s) b masked)) properties
    (circle_refused_as_set p s c cause set upto_c e)

-- ---- with the cursor in front first, which no stage sees

pub rewound_begun : (p : Shaping) (s t new : Sides) → p.settings ≡ text_settings s → state_of t ≡ state_of s → settings_of t ≡ settings_of s → IsFollowed (text_begun (set_as t p)) t new → IsFollowed (text_begun p) s new
rewound_begun p s t new set same settings f =
    let P : BufferState → Type 0 = λ r. Follows (reading_of (text_begun p) r) r (state_of new) in
    let begun = followed_as_set text_begun p s t new set settings f in
    record { follows = subst P same begun.follows; settings = begun.settings ∙ settings; ready = begun.ready }

pub rewound_begun_refused : (p : Shaping) (s t : Sides) (cause : ShapeCause) → p.settings ≡ text_settings s → state_of t ≡ state_of s → settings_of t ≡ settings_of s → reading_of (text_begun (set_as t p)) (state_of t) ≡ Err cause → reading_of (text_begun p) (state_of s) ≡ Err cause
rewound_begun_refused p s t cause set same settings e =
    let P : BufferState → Type 0 = λ r. reading_of (text_begun p) r ≡ Err cause in
    subst P same (refused_as_set text_begun p s t cause set settings e)
