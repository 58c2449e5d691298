-- Lookups one after another.
use Rattle.std.proofs.Common.{ℕ, ◌≡◌, ◌≤◌, ◌<◌, ◌+◌, List, [], ◌∷◌, length, drop, get_or, true, false, Ok, Err, refl, sym, subst, ◌∙◌}
use Rattle.std.specs.Prelude.{slice_get, None, Some, Option, Bool, Result, if◌then◌else◌}
use Rattle.std.proofs.lemmas.List.{drop_more, drop_all}
use Rattle.buffer_glyphs.specs.declared.cause.ShapeCause.{ShapeCause}
use Rattle.buffer_core.specs.Readings.{View, BufferState, Stage, Follows, reading_of, always, with_events}
use Rattle.buffer_core.specs.Steps.{follows_then, follows_same, refused_first, refused_then}
use Rattle.buffer_core.specs.Sides.{Sides, settings_of, items_of, state_of}
use Rattle.layout_face.specs.declared.parts.FaceParts.{FaceParts}
use Rattle.layout_face.specs.declared.substitution.SubstLookup.{SubstLookup}
use Rattle.layout_map_features.specs.declared.lookup.lookup_map_t.{lookup_map_t}
use Rattle.buffer_stages.specs.Buffers.{are_glyphs}
use Rattle.buffer_stages.specs.Ready.{DoesGlyphStage, DoesGlyphStageFrom, IsReady, IsDone, IsDoneFrom, state_with}
use Rattle.buffer_stages.specs.Pauses.{with_own_random}
use Rattle.layout_match.specs.Applied.{ApplyContext}
use Rattle.layout_substitution.specs.Lookups.{lookup_applied, lookup_context, lookup_stage, lookups_stage}

-- one of two stages
pub either_done : (b : Bool) (back forth : Stage) (r after : ℕ) (old new : Sides) → b ≡ true → IsDoneFrom r after back old new → IsDoneFrom r after (λ v. if b then back v else forth v) old new
either_done b back forth r after old new acts d = let P : Bool → Type 0 = λ p. IsDoneFrom r after (λ v. if p then back v else forth v) old new in subst P (sym acts) d

pub otherwise_done : (b : Bool) (back forth : Stage) (r after : ℕ) (old new : Sides) → b ≡ false → IsDoneFrom r after forth old new → IsDoneFrom r after (λ v. if b then back v else forth v) old new
otherwise_done b back forth r after old new fails d = let P : Bool → Type 0 = λ p. IsDoneFrom r after (λ v. if p then back v else forth v) old new in subst P (sym fails) d

pub otherwise_refused : (b : Bool) (back forth : Stage) (r : ℕ) (old : Sides) (cause : ShapeCause) → b ≡ false → reading_of forth (state_with r old) ≡ Err cause → reading_of (λ v. if b then back v else forth v) (state_with r old) ≡ Err cause
otherwise_refused b back forth r old cause fails e = let P : Bool → Type 0 = λ p. reading_of (λ v. if p then back v else forth v) (state_with r old) ≡ Err cause in subst P (sym fails) e

-- the lookup at an index of the table, with the parameters that the map gives it, from the same random state
pub done_at : (font : FaceParts) (table : List SubstLookup) (o : Option SubstLookup) (lookup : SubstLookup) (m : lookup_map_t) (a : ApplyContext) (q r after : ℕ) (old new : Sides) → Some lookup ≡ o → a ≡ lookup_context font lookup m → q ≡ r
    → IsDoneFrom q after (lookup_applied table a lookup) old new → IsDoneFrom r after (lookup_stage font table o m) old new
done_at font table o lookup m a q r after old new there of same d =
    let R : ℕ → Type 0 = λ n. IsDoneFrom n after (lookup_applied table a lookup) old new in
    let A : ApplyContext → Type 0 = λ b. IsDoneFrom r after (lookup_applied table b lookup) old new in
    let P : Option SubstLookup → Type 0 = λ p. IsDoneFrom r after (lookup_stage font table p m) old new in
    subst P there (subst A of (subst R same d))

pub refused_at : (font : FaceParts) (table : List SubstLookup) (o : Option SubstLookup) (lookup : SubstLookup) (m : lookup_map_t) (a : ApplyContext) (q r : ℕ) (old : Sides) (cause : ShapeCause) → Some lookup ≡ o → a ≡ lookup_context font lookup m → q ≡ r
    → reading_of (lookup_applied table a lookup) (state_with q old) ≡ Err cause → reading_of (lookup_stage font table o m) (state_with r old) ≡ Err cause
refused_at font table o lookup m a q r old cause there of same e =
    let R : ℕ → Type 0 = λ n. reading_of (lookup_applied table a lookup) (state_with n old) ≡ Err cause in
    let A : ApplyContext → Type 0 = λ b. reading_of (lookup_applied table b lookup) (state_with r old) ≡ Err cause in
    let P : Option SubstLookup → Type 0 = λ p. reading_of (lookup_stage font table p m) (state_with r old) ≡ Err cause in
    subst P there (subst A of (subst R same e))

-- some lookups were done; whatever follows, or is refused, by those that are left is so by all
pub record AreDone (font : FaceParts) (table : List SubstLookup) (all left : List lookup_map_t) (before r : ℕ) (old now : Sides) : Type 0 where
  pub ready : IsReady now
  pub settings : settings_of now ≡ settings_of old
  pub numbers : are_glyphs (items_of old) ≡ true → are_glyphs (items_of now) ≡ true
  pub follows : (final : BufferState) → Follows (reading_of (lookups_stage font table left) (state_with r now)) (state_with r now) final → Follows (reading_of (lookups_stage font table all) (state_with before old)) (state_with before old) final
  pub refuses : (cause : ShapeCause) → reading_of (lookups_stage font table left) (state_with r now) ≡ Err cause → reading_of (lookups_stage font table all) (state_with before old) ≡ Err cause

pub none_done : (font : FaceParts) (table : List SubstLookup) (all : List lookup_map_t) (r : ℕ) (s : Sides) → IsReady s → AreDone font table all (drop 0 all) r r s s
none_done font table all r s ready = record {
  ready = ready;
  settings = refl;
  numbers = λ h. h;
  follows = λ final f. f;
  refuses = λ cause e. e;
}

-- an index without a lookup
pub nothing_done : (font : FaceParts) (table : List SubstLookup) (m : lookup_map_t) (o : Option SubstLookup) (r : ℕ) (s : Sides) → IsReady s → o ≡ None → IsDoneFrom r r (lookup_stage font table o m) s s
nothing_done font table m o r s ready none =
    let P : Option SubstLookup → Type 0 = λ p. IsDoneFrom r r (lookup_stage font table p m) s s in
    let same : IsDoneFrom r r (lookup_stage font table None m) s s = record {
      follows = follows_same (state_with r s);
      ready = ready;
      settings = refl;
      numbers = λ h. h;
    } in
    subst P (sym none) same

pub one_done : (font : FaceParts) (table : List SubstLookup) (all : List lookup_map_t) (k : ℕ) (e : lookup_map_t) (before r after : ℕ) (old now next : Sides) → k < length all → AreDone font table all (drop k all) before r old now
    → IsDoneFrom r after (lookup_stage font table (slice_get table (get_or all k e).index) (get_or all k e)) now next → AreDone font table all (drop (k + 1) all) before after old next
one_done font table all k e before r after old now next lt a d =
    let m = get_or all k e in
    let left : drop k all ≡ m ∷ drop (k + 1) all = drop_more all k e lt in
    let P : List lookup_map_t → Type 0 = λ ms. AreDone font table all ms before r old now in
    let start = subst P left a in
    let stage = lookup_stage font table (slice_get table m.index) m in
    record {
      ready = d.ready;
      settings = d.settings ∙ a.settings;
      numbers = λ h. d.numbers (a.numbers h);
      follows = λ final f. start.follows final (follows_then (reading_of stage (state_with r now)) (lookups_stage font table (drop (k + 1) all)) (state_with r now) (state_with after next) final d.follows f);
      refuses = λ cause g. start.refuses cause (refused_then (reading_of stage (state_with r now)) (lookups_stage font table (drop (k + 1) all)) (state_with r now) (state_with after next) cause d.follows g);
    }

-- the next lookup is refused
pub one_refused : (font : FaceParts) (table : List SubstLookup) (all : List lookup_map_t) (k : ℕ) (e : lookup_map_t) (before r : ℕ) (old now : Sides) (cause : ShapeCause) → k < length all → AreDone font table all (drop k all) before r old now
    → reading_of (lookup_stage font table (slice_get table (get_or all k e).index) (get_or all k e)) (state_with r now) ≡ Err cause → reading_of (lookups_stage font table all) (state_with before old) ≡ Err cause
one_refused font table all k e before r old now cause lt a is =
    let m = get_or all k e in
    let left : drop k all ≡ m ∷ drop (k + 1) all = drop_more all k e lt in
    let P : List lookup_map_t → Type 0 = λ ms. AreDone font table all ms before r old now in
    let start = subst P left a in
    start.refuses cause (refused_first (reading_of (lookup_stage font table (slice_get table m.index) m) (state_with r now)) (lookups_stage font table (drop (k + 1) all)) cause is)

pub all_done : (font : FaceParts) (table : List SubstLookup) (all : List lookup_map_t) (k before r : ℕ) (old now : Sides) → length all ≤ k → AreDone font table all (drop k all) before r old now → IsDoneFrom before r (lookups_stage font table all) old now
all_done font table all k before r old now le a =
    let P : List lookup_map_t → Type 0 = λ ms. AreDone font table all ms before r old now in
    let done = subst P (drop_all k all le) a in
    record {
      follows = done.follows (state_with r now) (follows_same (state_with r now));
      ready = done.ready;
      settings = done.settings;
      numbers = done.numbers;
    }

-- ---- a state of their own
