-- A text of Hangul that is done step by step.
use Rattle.std.proofs.Common.{ℕ, zero, suc, ◌≡◌, ◌≢◌, ◌<◌, ◌≤◌, ◌+◌, ◌-◌, ◌&&◌, inl, inr, Bool, true, false, nat_le, nat_lt, if◌then◌else◌, List, [], ◌∷◌, ◌++◌, Option, Some, None, Err, length, take, drop, refl, sym, ap, subst, ◌∙◌, append_assoc, arith}
use Rattle.std.proofs.lemmas.Bool.Decides.{nat_tests}
use Rattle.std.proofs.lemmas.List.{append-nil, length-append, length-map, length-drop}
use Rattle.buffer_glyphs.specs.declared.cause.ShapeCause.{ShapeCause}
use Rattle.buffer_glyphs.specs.declared.cause.ShapeCause.TheVariants.{OutOfMemory, TooLong}
use Rattle.buffer_glyphs.specs.declared.info.hb_glyph_info_t.{hb_glyph_info_t}
use Rattle.buffer_common.specs.declared.constants.BufferFlags.{BufferFlags}
use Rattle.layout_face.specs.declared.parts.FaceParts.{FaceParts}
use Rattle.buffer_glyphs.specs.Items.{Item, item_of, strip}
use Rattle.buffer_glyphs.specs.declared.level.BufferClusterLevel.{BufferClusterLevel}
use Rattle.buffer_glyphs.specs.Origins.{origin_of}
use Rattle.buffer_glyphs.specs.Events.{Event}
use Rattle.buffer_core.specs.Readings.{reading_of}
use Rattle.buffer_core.specs.Sides.{Sides, Settings, all_glyphs, flag_requests_of, items_of, origins_by, origins_of, state_of, with_output, after_sync, fits_joined}
use Rattle.buffer_stages.specs.Ready.{IsReady}
use Rattle.buffer_stages.specs.Stages.{IsFollowed}
use Rattle.buffer_stages.specs.Walks.{RefusesLength, HasWalked, renumbered_first}
use Rattle.buffer_stages.proofs.Lemmas.Walked.{both_walked, nothing_walked, walked_followed}
use Rattle.script_hangul.specs.declared.actions.Action.{Action}
use Rattle.script_hangul.specs.declared.actions.Action.TheVariants.{Keep, Apart, Compose, Split}
use Rattle.script_hangul.specs.Jamo.{is_tone}
use Rattle.script_hangul.specs.Actions.{action_on, has_character}
use Rattle.script_hangul.specs.Steps.{Step, DOTTED_CIRCLE, before_syllable, circle_beside, has_no_width, keep_step, letters_from, letters_of_first, step_of, with_tone_first, tone_step, with_circle}
use Rattle.script_hangul.specs.Hangul.{character_at, events_after, hangul_text, step, step_by, syllables_formed, text_after, wants_circles}
use Rattle.script_hangul.specs.Written.{MayMerge, MergesAnywhere, merge_if, steps_events, syllables_walked, written_merge, written_steps}
use Rattle.script_hangul.specs.Stepped.{Passes, IsStepped, IsWritten}
use Rattle.script_hangul.proofs.WrittenSyllables.{read_events, whole_text}
use Rattle.buffer_stages.proofs.Lemmas.Fitting.{limit_same, written_exceed, written_fit}

-- the output and input together are what the whole walk makes
pub record IsUnderway (merges : Bool) (font : FaceParts) (circles : Bool) (left start : ℕ) (s t : Sides) : Type 0 where
  pub events : List Event
  pub walked : HasWalked (strip t.behind) (strip t.ahead) events s t
  pub items : text_after font circles left start (strip t.behind) (strip t.ahead) ≡ text_after font circles (length (items_of s)) 0 [] (items_of s)
  pub whole : events ++ steps_events merges font circles s.level left start (strip t.behind) (strip t.ahead) ≡ steps_events merges font circles s.level (length (items_of s)) 0 [] (items_of s)
  pub few : length t.ahead ≤ left

pub begun : (merges : Bool) (font : FaceParts) (circles : Bool) (n : ℕ) (s : Sides) → length (all_glyphs s) ≡ n → IsUnderway merges font circles n 0 (with_output s) (with_output s)
begun merges font circles n s e =
    let same : length (items_of s) ≡ n = length-map (all_glyphs s) item_of ∙ e in
    record {
      events = [];
      walked = nothing_walked (with_output s) refl;
      items = ap (λ k. text_after font circles k 0 [] (items_of s)) (sym same);
      whole = ap (λ k. steps_events merges font circles s.level k 0 [] (items_of s)) (sym same);
      few = omega (arith, e);
    }

-- a step more
stepped_more : (merges : Bool) (font : FaceParts) (circles : Bool) (k start n : ℕ) (s t u : Sides) → IsUnderway merges font circles (suc k) start s t → 0 < length t.ahead
    → IsWritten (step font circles start (strip t.behind) (strip t.ahead)) (merge_if merges font (length (strip t.behind)) (strip t.ahead)) n t u → IsUnderway merges font circles k n s u
stepped_more merges font circles k start n s t u h some d = by_ahead t.ahead refl
  where
    by_ahead : (gs : List hb_glyph_info_t) → t.ahead ≡ gs → IsUnderway merges font circles k n s u
    by_ahead [] e = absurd (let none = ap (λ (ys : List hb_glyph_info_t). length ys) e in omega (arith, none, some))
    by_ahead (g ∷ gs) e =
        let bs = strip t.behind in
        let xs = item_of g ∷ strip gs in
        let seen : strip t.ahead ≡ xs = ap strip e in
        let p : Step = step font circles start bs xs in
        let m : List Event = merge_if merges font (length bs) xs in
        let d' : IsWritten p m n t u = subst (λ ys. IsWritten (step font circles start bs ys) (merge_if merges font (length bs) ys) n t u) seen d in
        let w : HasWalked p.out (drop (p.more + 1) (strip t.ahead)) (p.events t.level ++ m) t u = d'.walked in
        let level : t.level ≡ s.level = ap (λ (st : Settings). st.level) h.walked.settings in
        let both = both_walked bs (strip t.ahead) p.out (drop (p.more + 1) (strip t.ahead)) h.events (p.events t.level ++ m) s t u h.walked w in
        let rest : strip u.ahead ≡ drop (p.more + 1) xs = w.ahead ∙ ap (drop (p.more + 1)) seen in
        let es : h.events ++ (p.events t.level ++ m) ≡ h.events ++ (p.events s.level ++ m) = ap (λ l. h.events ++ (p.events l ++ m)) level in
        let later : List Event = steps_events merges font circles s.level k n (strip u.behind) (strip u.ahead) in
        let fewer = length-drop (p.more + 1) (strip t.ahead) in
        let a = length-map t.ahead item_of in
        let b = length-map u.ahead item_of in
        let c = ap (λ (ys : List Item). length ys) w.ahead in
        let few = h.few in
        record {
          events = h.events ++ (p.events s.level ++ m);
          walked = subst (λ fs. HasWalked (strip u.behind) (strip u.ahead) fs s u) es (record { behind = refl; ahead = refl; happened = both.happened; view = both.view; settings = both.settings; opened = both.opened; unrefused = both.unrefused });
          items =
              ap (λ m. text_after font circles k m (strip u.behind) (strip u.ahead)) d'.start ∙ ap (λ o. text_after font circles k p.start o (strip u.ahead)) w.behind ∙ ap (text_after font circles k p.start p.out) rest
              ∙ ap (text_after font circles (suc k) start bs) (sym seen) ∙ h.items;
          whole =
              append_assoc h.events (p.events s.level ++ m) later
              ∙ ap (λ i. h.events ++ ((p.events s.level ++ m) ++ steps_events merges font circles s.level k i (strip u.behind) (strip u.ahead))) d'.start
              ∙ ap (λ o. h.events ++ ((p.events s.level ++ m) ++ steps_events merges font circles s.level k p.start o (strip u.ahead))) w.behind
              ∙ ap (λ r. h.events ++ ((p.events s.level ++ m) ++ steps_events merges font circles s.level k p.start p.out r)) rest
              ∙ ap (λ r. h.events ++ steps_events merges font circles s.level (suc k) start bs r) (sym seen) ∙ h.whole;
          few = omega (arith, fewer, a, b, c, few, some);
        }

-- the input is empty
still_more : (merges : Bool) (font : FaceParts) (circles : Bool) (k start : ℕ) (s t : Sides) → IsUnderway merges font circles (suc k) start s t → length t.ahead ≡ 0 → IsUnderway merges font circles k start s t
still_more merges font circles k start s t h none = by_ahead t.ahead refl
  where
    by_ahead : (gs : List hb_glyph_info_t) → t.ahead ≡ gs → IsUnderway merges font circles k start s t
    by_ahead (g ∷ gs) e = absurd (let some = ap (λ (ys : List hb_glyph_info_t). length ys) e in omega (arith, none, some))
    by_ahead [] e =
        let seen : strip t.ahead ≡ [] = ap strip e in
        record {
          events = h.events;
          walked = h.walked;
          items = ap (text_after font circles k start (strip t.behind)) seen ∙ ap (text_after font circles (suc k) start (strip t.behind)) (sym seen) ∙ h.items;
          whole = ap (λ r. h.events ++ steps_events merges font circles s.level k start (strip t.behind) r) seen ∙ ap (λ r. h.events ++ steps_events merges font circles s.level (suc k) start (strip t.behind) r) (sym seen) ∙ h.whole;
          few = omega (arith, none);
        }

pub more : (merges : Bool) (font : FaceParts) (circles : Bool) (left start n : ℕ) (s t u : Sides) → 0 < left → IsUnderway merges font circles left start s t → Passes merges font circles start n t u → IsUnderway merges font circles (left - 1) n s u
more merges font circles zero start n s t u lt h p = absurd (omega (arith, lt))
more merges font circles (suc k) start n s t u lt h (inl p) =
    let e : k ≡ suc k - 1 = omega arith in
    subst (λ m. IsUnderway merges font circles m n s u) e (subst (λ (v : Sides). IsUnderway merges font circles k n s v) (sym p.1.1) (subst (λ m. IsUnderway merges font circles k m s t) (sym p.1.0) (still_more merges font circles k start s t h p.0)))
more merges font circles (suc k) start n s t u lt h (inr p) =
    let e : k ≡ suc k - 1 = omega arith in
    subst (λ m. IsUnderway merges font circles m n s u) e (stepped_more merges font circles k start n s t u h p.0 p.1)

-- all steps
all_walked : (merges : Bool) (font : FaceParts) (circles : Bool) (start : ℕ) (s t : Sides) → IsUnderway merges font circles 0 start s t
    → HasWalked (text_after font circles (length (items_of s)) 0 [] (items_of s)) [] (steps_events merges font circles s.level (length (items_of s)) 0 [] (items_of s)) s t
all_walked merges font circles start s t h = by_ahead t.ahead refl
  where
    by_ahead : (gs : List hb_glyph_info_t) → t.ahead ≡ gs → HasWalked (text_after font circles (length (items_of s)) 0 [] (items_of s)) [] (steps_events merges font circles s.level (length (items_of s)) 0 [] (items_of s)) s t
    by_ahead (g ∷ gs) e = absurd (let some = ap (λ (ys : List hb_glyph_info_t). length ys) e in let c = h.few in omega (arith, some, c))
    by_ahead [] e =
        let none : strip t.ahead ≡ [] = ap strip e in
        let w = h.walked in
        let out = ap (text_after font circles 0 start (strip t.behind)) (sym none) ∙ h.items in
        let es = sym (append-nil h.events) ∙ ap (λ r. h.events ++ steps_events merges font circles s.level 0 start (strip t.behind) r) (sym none) ∙ h.whole in
        subst (λ fs. HasWalked (text_after font circles (length (items_of s)) 0 [] (items_of s)) [] fs s t) es
        (record { behind = out; ahead = none; happened = w.happened; view = w.view; settings = w.settings; opened = w.opened; unrefused = w.unrefused })

-- without merges the events are those of the steps
plain_events : (font : FaceParts) (circles : Bool) (level : BufferClusterLevel) (steps n : ℕ) (out xs : List Item) → steps_events false font circles level steps n out xs ≡ events_after font circles level steps n out xs
plain_events font circles level steps n out [] = refl
plain_events font circles level zero n out (x ∷ xs) = refl
plain_events font circles level (suc steps) n out (x ∷ xs) =
    let p : Step = step font circles n out (x ∷ xs) in
    ap (λ es. (p.events level ++ []) ++ es) (plain_events font circles level steps p.start p.out (drop (p.more + 1) (x ∷ xs)))
    ∙ ap (λ es. es ++ events_after font circles level steps p.start p.out (drop (p.more + 1) (x ∷ xs))) (append-nil (p.events level))

-- with them each merge is with its syllable
merged_events : (font : FaceParts) (circles : Bool) (level : BufferClusterLevel) (steps n : ℕ) (out xs : List Item) → steps_events true font circles level steps n out xs ≡ written_steps font circles level steps n out xs
merged_events font circles level steps n out [] = refl
merged_events font circles level zero n out (x ∷ xs) = refl
merged_events font circles level (suc steps) n out (x ∷ xs) =
    let p : Step = step font circles n out (x ∷ xs) in
    ap (λ es. p.events level ++ written_merge font (length out) (x ∷ xs) ++ es) (merged_events font circles level steps p.start p.out (drop (p.more + 1) (x ∷ xs)))

-- the text that comes of a buffer
abbrev formed : FaceParts → BufferFlags → Sides → List Item
formed font flags s = text_after font (wants_circles flags) (length (items_of s)) 0 [] (items_of s)

-- other events that leave the same
with_events_alike : (xs : List Item) (es fs : List Event) (s t : Sides) → HasWalked xs [] es s t → origins_by es s ≡ origins_by fs s → HasWalked xs [] fs s t
with_events_alike xs es fs s t w e = record { behind = w.behind; ahead = w.ahead; happened = w.happened ∙ e; view = w.view; settings = w.settings; opened = w.opened; unrefused = w.unrefused }

-- the merges before leave what those with the syllables leave
before_alike : (font : FaceParts) (s : Sides) → MergesAnywhere s
    → origins_by (steps_events true font (wants_circles s.flags) s.level (length (items_of s)) 0 [] (items_of s)) s ≡ origins_by (read_events font s.flags s.level (items_of s)) s
before_alike font s may =
    let long : length (origins_of s) ≡ length (items_of s) = length-map (all_glyphs s) origin_of ∙ sym (length-map (all_glyphs s) item_of) in
    let alike = whole_text font s.flags (flag_requests_of s) s.level (items_of s) (origins_of s) long in
    ap (λ es. origins_by es s) (merged_events font (wants_circles s.flags) s.level (length (items_of s)) 0 [] (items_of s)) ∙ sym (alike.1 may.unasked (λ e. absurd (may.level e)))

pub text_followed : (merges : Bool) (font : FaceParts) (start : ℕ) (s t new : Sides) → MayMerge merges s → IsReady s → IsUnderway merges font (wants_circles s.flags) 0 start (with_output s) t → fits_joined t ≡ true → new ≡ after_sync t
    → IsFollowed (syllables_walked merges font s.flags) s new
text_followed false font start s t new may ready h fits is =
    let flags = s.flags in
    let level = s.level in
    let es = events_after font (wants_circles flags) level (length (items_of s)) 0 [] (items_of s) in
    let w = subst (λ fs. HasWalked (formed font flags s) [] fs (with_output s) t) (plain_events font (wants_circles flags) level (length (items_of s)) 0 [] (items_of s)) (all_walked false font (wants_circles flags) start (with_output s) t h) in
    let xs = formed font flags s in
    let within = written_fit xs es s t w fits in
    walked_followed (syllables_formed font flags) xs es (λ level. events_after font (wants_circles flags) level (length (items_of s)) 0 [] (items_of s)) s t new ready w is (rw within refl) refl
text_followed true font start s t new may ready h fits is =
    let flags = s.flags in
    let es = read_events font flags s.level (items_of s) in
    let w = with_events_alike (formed font flags s) (steps_events true font (wants_circles flags) s.level (length (items_of s)) 0 [] (items_of s)) es (with_output s) t (all_walked true font (wants_circles flags) start (with_output s) t h) (before_alike font s may) in
    let xs = formed font flags s in
    let within = written_fit xs es s t w fits in
    walked_followed (hangul_text font flags) xs es (λ level. read_events font flags level (items_of s)) s t new ready w is (rw within refl) refl

-- a text that is too long
too_many : (merges : Bool) (font : FaceParts) (e : ShapeCause) (s : Sides) → e ≡ TooLong → nat_le (length (formed font s.flags s)) s.max_len ≡ false → reading_of (syllables_walked merges font s.flags) (state_of s) ≡ Err e
too_many false font e s cause within = rw within (ap Err (sym cause))
too_many true font e s cause within = rw within (ap Err (sym cause))

pub text_too_long : (merges : Bool) (font : FaceParts) (start : ℕ) (e : ShapeCause) (s t : Sides) → IsReady s → IsUnderway merges font (wants_circles s.flags) 0 start (with_output s) t → (e ≢ OutOfMemory → (e ≡ TooLong) × (fits_joined t ≡ false)) → e ≢ OutOfMemory
    → reading_of (syllables_walked merges font s.flags) (state_of s) ≡ Err e
text_too_long merges font start e s t ready h over other =
    let w = all_walked merges font (wants_circles s.flags) start (with_output s) t h in
    let xs = formed font s.flags s in
    let o = over other in
    let within = written_exceed xs (steps_events merges font (wants_circles s.flags) s.level (length (items_of s)) 0 [] (items_of s)) s t ready w o.1 in
    too_many merges font e s o.0 within

-- ---- no step makes a text shorter

abbrev Grows : List Item → Step → Type 0
Grows out p = length out ≤ length p.out

grows_if : (out : List Item) (t : Bool) (p q : Step) → Grows out p → Grows out q → Grows out (if t then p else q)
grows_if out true p q h k = h
grows_if out false p q h k = k

longer : (out xs : List Item) → length out ≤ length (out ++ xs)
longer out xs = let a = length-append out xs in omega (arith, a)

performed_grows : (a : Action) (out xs : List Item) → Grows out (step_of a out xs)
performed_grows (Keep whole) out xs = longer out (take 1 xs)
performed_grows (Apart n) out xs = longer out (letters_from 1 (take n xs))
performed_grows (Compose n u) out xs = longer out (renumbered_first u xs)
performed_grows (Split letters joins) out xs = longer out (letters_from 1 (letters_of_first letters xs ++ take (if joins then 1 else 0) (drop 1 xs)))

before_grows : (start : ℕ) (out xs : List Item) → length out ≤ length (with_tone_first start out xs)
before_grows start out xs =
    let a = length-append (take start out) (take 1 xs ++ drop start out) in
    let b = length-append (take 1 xs) (drop start out) in
    let c = length-append (take start out) (drop start out) in
    let d = ap (λ (ys : List Item). length ys) (cut start out) in
    omega (arith, a, b, c, d)
  where
    cut : (i : ℕ) (ys : List Item) → take i ys ++ drop i ys ≡ ys
    cut zero ys = refl
    cut (suc i) [] = refl
    cut (suc i) (y ∷ ys) = ap (λ zs. y ∷ zs) (cut i ys)

toned_grows : (font : FaceParts) (circles : Bool) (start u : ℕ) (out xs : List Item) → Grows out (tone_step font circles start u out xs)
toned_grows font circles start u out xs =
    let stays : Grows out (keep_step false out xs) = longer out (take 1 xs) in
    grows_if out (nat_lt start (length out)) (if has_no_width font u then keep_step false out xs else before_syllable start out xs) (if circles && has_character font DOTTED_CIRCLE then with_circle (has_no_width font u) out xs else keep_step false out xs)
    (grows_if out (has_no_width font u) (keep_step false out xs) (before_syllable start out xs) stays (before_grows start out xs))
    (grows_if out (circles && has_character font DOTTED_CIRCLE) (with_circle (has_no_width font u) out xs) (keep_step false out xs) (longer out (circle_beside (has_no_width font u) xs)) stays)

step_by_grows : (font : FaceParts) (circles : Bool) (start : ℕ) (o : Option ℕ) (out xs : List Item) → Grows out (step_by font circles start o out xs)
step_by_grows font circles start None out xs = longer out (take 1 xs)
step_by_grows font circles start (Some u) out xs =
    grows_if out (is_tone u) (tone_step font circles start u out xs) (step_of (action_on font u (character_at 1 xs) (character_at 2 xs)) out xs) (toned_grows font circles start u out xs) (performed_grows (action_on font u (character_at 1 xs) (character_at 2 xs)) out xs)

text_grows : (font : FaceParts) (circles : Bool) (k start : ℕ) (out xs : List Item) → length out ≤ length (text_after font circles k start out xs)
text_grows font circles k start out [] = omega arith
text_grows font circles zero start out (x ∷ xs) = omega arith
text_grows font circles (suc k) start out (x ∷ xs) =
    let p : Step = step font circles start out (x ∷ xs) in
    let a = step_by_grows font circles start (character_at 0 (x ∷ xs)) out (x ∷ xs) in
    let b = text_grows font circles k p.start p.out (drop (p.more + 1) (x ∷ xs)) in
    omega (arith, a, b)

-- what comes of a step is piece of what comes of all
step_within : (font : FaceParts) (circles : Bool) (k start : ℕ) (out xs : List Item) → length (step font circles start out xs).out ≤ length (text_after font circles (suc k) start out xs)
step_within font circles k start out [] = let a = length-append out (take 1 []) in omega (arith, a)
step_within font circles k start out (x ∷ xs) = let p : Step = step font circles start out (x ∷ xs) in text_grows font circles k p.start p.out (drop (p.more + 1) (x ∷ xs))

-- a step that was too long
pub too_long : (merges : Bool) (font : FaceParts) (left start : ℕ) (e : ShapeCause) (s t : Sides) → 0 < left → IsUnderway merges font (wants_circles s.flags) left start (with_output s) t
    → RefusesLength (length (step font (wants_circles s.flags) start (strip t.behind) (strip t.ahead)).out) e t → e ≢ OutOfMemory → reading_of (syllables_walked merges font s.flags) (state_of s) ≡ Err e
too_long merges font zero start e s t lt h over other = absurd (omega (arith, lt))
too_long merges font (suc k) start e s t lt h over other =
    let o = over other in
    let past = o.1 in
    let limit = limit_same (strip t.behind) (strip t.ahead) h.events (with_output s) t h.walked in
    let a = step_within font (wants_circles s.flags) k start (strip t.behind) (strip t.ahead) in
    let many = ap (λ (ys : List Item). length ys) h.items in
    let within : nat_le (length (formed font s.flags s)) s.max_len ≡ false = grind (arith, nat_tests, limit, a, many, past) in
    too_many merges font e s o.0 within

-- ---- a step and its merge

-- the step made, and then the merge of its syllable
pub written_after : (s : Step) (merge : List Event) (n : ℕ) (a b c : Sides) → IsStepped s n a b → HasWalked (strip b.behind) (strip b.ahead) merge b c → IsWritten s merge n a c
written_after s merge n a b c d w =
    let both = both_walked s.out (drop (s.more + 1) (strip a.ahead)) (strip b.behind) (strip b.ahead) (s.events a.level) merge a b c d.walked w in
    record {
      walked = record {
        behind = both.behind ∙ d.walked.behind;
        ahead = both.ahead ∙ d.walked.ahead;
        happened = both.happened;
        view = both.view;
        settings = both.settings;
        opened = both.opened;
        unrefused = both.unrefused;
      };
      start = d.start;
    }

-- a step without a merge
pub written_alone : (s : Step) (merge : List Event) (n : ℕ) (a b : Sides) → merge ≡ [] → IsStepped s n a b → IsWritten s merge n a b
written_alone s merge n a b none d = record {
  walked = subst (λ es. HasWalked s.out (drop (s.more + 1) (strip a.ahead)) es a b) (sym (append-nil (s.events a.level)) ∙ ap (λ m. s.events a.level ++ m) (sym none)) d.walked;
  start = d.start;
}
