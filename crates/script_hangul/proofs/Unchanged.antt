-- A Hangul text that stays as it is.
use Rattle.std.proofs.Common.{ℕ, zero, suc, ◌≡◌, ◌<◌, ◌≤◌, ◌+◌, ◌-◌, ◌&&◌, not, Bool, true, false, nat_le, if◌then◌else◌, List, [], ◌∷◌, ◌++◌, Option, Some, None, Ok, Err, length, take, drop, arith, refl, sym, ap, subst, ◌∙◌, append_assoc, add-one}
use Rattle.std.proofs.lemmas.Bool.{and_parts}
use Rattle.std.proofs.lemmas.Bool.Decides.{nat_tests}
use Rattle.std.proofs.lemmas.List.{append-nil, drop_all, length-map, length-replicate, take_rest}
use Rattle.buffer_common.specs.declared.constants.BufferFlags.{BufferFlags}
use Rattle.buffer_glyphs.specs.declared.cause.ShapeCause.TheVariants.{TooLong}
use Rattle.buffer_glyphs.specs.declared.info.hb_glyph_info_t.{hb_glyph_info_t}
use Rattle.buffer_glyphs.specs.declared.level.BufferClusterLevel.{BufferClusterLevel}
use Rattle.buffer_glyphs.specs.Items.{Item, item_of, strip, zero_position}
use Rattle.buffer_glyphs.specs.Events.{Event, origins_after}
use Rattle.buffer_core.specs.Readings.{BufferState, Follows, reading_of, then_reading, with_events}
use Rattle.buffer_core.specs.Sides.{Sides, all_glyphs, items_of, state_of, with_cleared_positions, zero_positions}
use Rattle.buffer_stages.specs.Ready.{IsReady}
use Rattle.buffer_stages.specs.Stages.{IsFollowed}
use Rattle.layout_face.specs.declared.parts.FaceParts.{FaceParts}
use Rattle.script_syllabic.specs.Graphemes.{merges_by}
use Rattle.script_hangul.specs.declared.actions.Action.{Action}
use Rattle.script_hangul.specs.declared.actions.Action.TheVariants.{Keep, Apart, Compose, Split}
use Rattle.script_hangul.specs.Jamo.{is_tone}
use Rattle.script_hangul.specs.Actions.{action_on}
use Rattle.script_hangul.specs.Steps.{Step, keep_step, step_of, tone_step}
use Rattle.script_hangul.specs.Hangul.{character_at, count_apart, events_after, hangul_text, jamo_rule, rule_by, step_by, text_after, wants_circles}
use Rattle.script_hangul.specs.Kept.{is_keep, is_kept, keeps_by, keeps_first}

-- ---- one character

-- an action that keeps is the step that keeps, and leaves nothing apart
keep_steps : (a : Action) (out xs : List Item) → is_keep a ≡ true → (w : Bool) × (step_of a out xs ≡ keep_step w out xs)
keep_steps (Keep w) out xs e = (w, refl)
keep_steps (Apart n) out xs e = absurd (let bad = e in cc)
keep_steps (Compose n u) out xs e = absurd (let bad = e in cc)
keep_steps (Split letters joins) out xs e = absurd (let bad = e in cc)

keep_counts : (a : Action) → is_keep a ≡ true → count_apart a ≡ 0
keep_counts (Keep w) e = refl
keep_counts (Apart n) e = absurd (let bad = e in cc)
keep_counts (Compose n u) e = absurd (let bad = e in cc)
keep_counts (Split letters joins) e = absurd (let bad = e in cc)

untoned : (t : Bool) (p q r : Step) → not t ≡ true → q ≡ r → (if t then p else q) ≡ r
untoned true p q r e f = absurd (let bad = e in cc)
untoned false p q r e f = f

steps_by : (font : FaceParts) (circles : Bool) (n : ℕ) (o : Option ℕ) (out xs : List Item) → keeps_by font o xs ≡ true → (w : Bool) × (step_by font circles n o out xs ≡ keep_step w out xs)
steps_by font circles n None out xs e = (false, refl)
steps_by font circles n (Some u) out xs e =
    let a = action_on font u (character_at 1 xs) (character_at 2 xs) in
    let pieces = and_parts (not (is_tone u)) (is_keep a) e in
    let kept = keep_steps a out xs pieces.1 in
    (kept.0, untoned (is_tone u) (tone_step font circles n u out xs) (step_of a out xs) (keep_step kept.0 out xs) pieces.0 kept.1)

counts_by : (font : FaceParts) (o : Option ℕ) (xs : List Item) → keeps_by font o xs ≡ true → rule_by font o xs ≡ 0
counts_by font None xs e = refl
counts_by font (Some u) xs e =
    let a = action_on font u (character_at 1 xs) (character_at 2 xs) in
    keep_counts a (and_parts (not (is_tone u)) (is_keep a) e).1

-- the first character decides
pub kept_by : (font : FaceParts) (o : Option ℕ) (xs : List Item) → character_at 0 xs ≡ o → keeps_by font o xs ≡ keeps_first font xs
kept_by font o xs e = ap (λ p. keeps_by font p xs) (sym e)

-- ---- a text

first_kept : (font : FaceParts) (x : Item) (xs : List Item) → is_kept font (x ∷ xs) ≡ true → (keeps_first font (x ∷ xs) ≡ true) × (is_kept font xs ≡ true)
first_kept font x xs e = and_parts (keeps_first font (x ∷ xs)) (is_kept font xs) e

text_kept : (font : FaceParts) (circles : Bool) (k n : ℕ) (out xs : List Item) → length xs ≤ k → is_kept font xs ≡ true → text_after font circles k n out xs ≡ out ++ xs
text_kept font circles k n out [] le e = sym (append-nil out)
text_kept font circles zero n out (x ∷ xs) le e = absurd (omega (arith, le))
text_kept font circles (suc k) n out (x ∷ xs) le e =
    let kept = first_kept font x xs e in
    let s = steps_by font circles n (character_at 0 (x ∷ xs)) out (x ∷ xs) kept.0 in
    let p : Step = keep_step s.0 out (x ∷ xs) in
    ap (λ (q : Step). text_after font circles k q.start q.out (drop (q.more + 1) (x ∷ xs))) s.1
    ∙ text_kept font circles k p.start (out ++ x ∷ []) xs (omega (arith, le)) kept.1
    ∙ append_assoc out (x ∷ []) xs

events_kept : (font : FaceParts) (circles : Bool) (level : BufferClusterLevel) (k n : ℕ) (out xs : List Item) → is_kept font xs ≡ true → events_after font circles level k n out xs ≡ []
events_kept font circles level k n out [] e = refl
events_kept font circles level zero n out (x ∷ xs) e = refl
events_kept font circles level (suc k) n out (x ∷ xs) e =
    let kept = first_kept font x xs e in
    let s = steps_by font circles n (character_at 0 (x ∷ xs)) out (x ∷ xs) kept.0 in
    let p : Step = keep_step s.0 out (x ∷ xs) in
    ap (λ (q : Step). q.events level ++ events_after font circles level k q.start q.out (drop (q.more + 1) (x ∷ xs))) s.1
    ∙ events_kept font circles level k p.start (out ++ x ∷ []) xs kept.1

merges_kept : (font : FaceParts) (at : ℕ) (xs : List Item) → is_kept font xs ≡ true → merges_by (jamo_rule font) at xs ≡ []
merges_kept font at [] e = refl
merges_kept font at (x ∷ xs) e =
    let kept = first_kept font x xs e in
    rw (counts_by font (character_at 0 (x ∷ xs)) (x ∷ xs) kept.0) (merges_kept font (at + 1) xs kept.1)

-- ---- the stage

both_kept : (t : BufferState) (ms : List Event) (xs : List Item) (es : BufferClusterLevel → List Event) (fits : Bool) → ms ≡ [] → xs ≡ t.view.items → es t.level ≡ [] → fits ≡ true
    → Follows (then_reading (with_events ms t.view) (if fits then Ok (record { view = record t.view { items = xs; positions = zero_positions (length xs) }; events = es }) else Err TooLong)) t
    (record t { view = record t.view { positions = zero_positions (length t.view.items) } })
both_kept t ms xs es fits none same quiet there =
    let quiet_all : ms ++ es t.level ≡ [] = ap (λ (fs : List Event). fs ++ es t.level) none ∙ quiet in
    rw there
    (ap (λ (ys : List Item). record t { view = record t.view { items = ys; positions = zero_positions (length ys) } }) (sym same)
    ∙ ap (λ (fs : List Event). record t { view = record t.view { items = xs; positions = zero_positions (length xs) }; origins = origins_after t.asks t.level fs t.origins }) (sym quiet_all))

pub kept_followed : (font : FaceParts) (flags : BufferFlags) (s : Sides) → IsReady s → length (all_glyphs s) ≤ s.max_len → is_kept font (items_of s) ≡ true → IsFollowed (hangul_text font flags) s (with_cleared_positions s)
kept_followed font flags s ready few kept =
    let c = wants_circles flags in
    let n = length (items_of s) in
    let many : n ≡ length (all_glyphs s) = length-map (all_glyphs s) item_of in
    let xs = text_after font c n 0 [] (items_of s) in
    let same : xs ≡ items_of s = text_kept font c n 0 [] (items_of s) (omega arith) kept in
    let long = ap (λ (ys : List Item). length ys) same in
    let fits : nat_le (length xs) s.max_len ≡ true = grind (arith, nat_tests, few, many, long) in
    let placed : length s.positions ≡ n = ready.placed ∙ sym many in
    record {
      follows =
          subst (λ m. Follows (reading_of (hangul_text font flags) (state_of s)) (state_of s) (state_of (record s { positions = zero_positions m }))) (sym placed)
          (both_kept (state_of s) (merges_by (jamo_rule font) 0 (items_of s)) xs (λ level. events_after font c level n 0 [] (items_of s)) (nat_le (length xs) s.max_len)
          (merges_kept font 0 (items_of s) kept) same (events_kept font c s.level n 0 [] (items_of s) kept) fits);
      settings = refl;
      ready = record {
        closed = ready.closed;
        front = ready.front;
        unread = ready.unread;
        placed = length-replicate (length s.positions) zero_position ∙ ready.placed;
        unrefused = ready.unrefused;
      };
    }

-- ---- the search for a character that doesn't stay

-- what is left to search decides, where all before stays
pub record AreKept (font : FaceParts) (at : ℕ) (gs : List hb_glyph_info_t) : Type 0 where
  pub rest : is_kept font (strip (drop at gs)) ≡ is_kept font (strip gs)

pub none_searched : (font : FaceParts) (gs : List hb_glyph_info_t) → AreKept font 0 gs
none_searched font gs = record { rest = refl }

kept_cut : (font : FaceParts) (at : ℕ) (gs : List hb_glyph_info_t) → at < length gs → is_kept font (strip (drop at gs)) ≡ (keeps_first font (strip (drop at gs)) && is_kept font (strip (drop (at + 1) gs)))
kept_cut font zero [] lt = absurd (omega (arith, lt))
kept_cut font (suc at) [] lt = absurd (omega (arith, lt))
kept_cut font zero (g ∷ gs) lt = refl
kept_cut font (suc at) (g ∷ gs) lt = rw add-one (rw add-one at (kept_cut font at gs (omega (arith, lt))))

-- the characters from an index on, as a slice of the text has them
sliced : (font : FaceParts) (at : ℕ) (gs : List hb_glyph_info_t) (b : Bool) → keeps_first font (strip (take (length gs - at) (drop at gs))) ≡ b → keeps_first font (strip (drop at gs)) ≡ b
sliced font at gs b e = ap (λ (ys : List hb_glyph_info_t). keeps_first font (strip ys)) (sym (take_rest gs at)) ∙ e

pub next_searched : (font : FaceParts) (at : ℕ) (gs : List hb_glyph_info_t) → at < length gs → keeps_first font (strip (take (length gs - at) (drop at gs))) ≡ true → AreKept font at gs → AreKept font (at + 1) gs
next_searched font at gs lt e k =
    let here = sliced font at gs true e in
    record { rest = sym (ap (λ b. b && is_kept font (strip (drop (at + 1) gs))) here) ∙ sym (kept_cut font at gs lt) ∙ k.rest }

pub found_other : (font : FaceParts) (at : ℕ) (gs : List hb_glyph_info_t) → at < length gs → keeps_first font (strip (take (length gs - at) (drop at gs))) ≡ false → AreKept font at gs → is_kept font (strip gs) ≡ false
found_other font at gs lt e k =
    let here = sliced font at gs false e in
    sym k.rest ∙ kept_cut font at gs lt ∙ ap (λ b. b && is_kept font (strip (drop (at + 1) gs))) here

pub all_searched : (font : FaceParts) (at : ℕ) (gs : List hb_glyph_info_t) → length gs ≤ at → AreKept font at gs → is_kept font (strip gs) ≡ true
all_searched font at gs le k = sym k.rest ∙ ap (λ (ys : List hb_glyph_info_t). is_kept font (strip ys)) (drop_all at gs le)
