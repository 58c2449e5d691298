-- The flags between letters, one after another.
use Rattle.std.proofs.Common.{ℕ, zero, suc, ◌≡◌, ◌<◌, ◌≤◌, ◌+◌, ◌==◌, Bool, true, false, if◌then◌else◌, List, [], ◌∷◌, ◌++◌, Option, Some, None, length, drop, map, slice_get, get_or, arith, add-one, refl, sym, ap, subst, ◌∙◌, append_assoc}
use Rattle.std.specs.Prelude.{nat_lt}
use Rattle.std.proofs.lemmas.Bool.Decides.{nat_tests}
use Rattle.std.proofs.lemmas.List.{append-nil, drop_all, length-map}
use Rattle.script_categories.specs.declared.joining_types.hb_arabic_joining_type_t.TheVariants.{U, L, R, D, GroupAlaph, GroupDalathRish, T, X}
use Rattle.buffer_glyphs.specs.declared.info.hb_glyph_info_t.{hb_glyph_info_t}
use Rattle.buffer_glyphs.specs.Items.{Item, clusters, item_of, strip}
use Rattle.buffer_glyphs.specs.Glyphs.{glyphs_flagged, glyphs_marked, has_several_numbers}
use Rattle.buffer_glyphs.specs.Parts.{range_of}
use Rattle.buffer_glyphs.specs.Events.{Event, Concat, StrictBreak, Tatweel}
use Rattle.buffer_glyphs.specs.Events.{strictly_marked as marked_if}
use Rattle.buffer_core.specs.Readings.{View}
use Rattle.buffer_core.specs.Sides.{Sides, all_glyphs, items_of, origins_by, origins_of, requests_breaks, view_of}
use Rattle.buffer_core.specs.Merging.{index_in_all}
use Rattle.buffer_core.specs.Marking.{requests_concat, requests_tatweel, concat_marked, end_in_all, flagged_range, range_flagged_apart, start_in_all, strictly_marked, tatweel_marked}
use Rattle.buffer_stages.specs.Ready.{IsReady}
use Rattle.buffer_stages.specs.Stages.{Happens}
use Rattle.buffer_stages.proofs.Lemmas.Happened.{both_happen, call_happens, nothing_happens, whole_index}
use Rattle.script_joining.specs.declared.flags.Letter.{Letter}
use Rattle.script_joining.specs.Types.{JoiningType}
use Rattle.script_joining.specs.Forms.{alaph_form, joined_form, joins_before, joins_next, letter_form}
use Rattle.script_joining.specs.Joining.{depends_on, events_at, form_events, is_letter, letter_after, nearest_past, neighbour_events, neighbours_events}
use Rattle.script_joining.specs.Flagged.{IsEarlier, type_of_typed}
use Rattle.script_joining.specs.Glyphs.{type_kept}

-- ---- one call

same_happens : (es : List Event) (s new : Sides) → new ≡ s → origins_of new ≡ origins_by es s → IsReady s → Happens es s new
same_happens es s new e from ready =
    let P : Sides → Type 0 = λ n. origins_of n ≡ origins_by es s → Happens es s n in
    subst P (sym e) (λ o. record { view = refl; origins = o; settings = refl; ready = ready }) from

flags_happen : (from to : ℕ) (es : List Event) (s new : Sides) (b : Bool) → new ≡ (if b then flagged_range 2 (Some from) (Some to) s else s) → items_of new ≡ items_of s → origins_of new ≡ origins_by es s → IsReady s → Happens es s new
flags_happen from to es s new true e items origins ready =
    let i = start_in_all (Some from) s in
    let j = end_in_all (Some to) s in
    call_happens (glyphs_flagged 2 i j (all_glyphs s)) (nat_lt i j) es s new e items origins ready
flags_happen from to es s new false e items origins ready = same_happens es s new e origins ready

mark_happens : (bits from to : ℕ) (es : List Event) (s new : Sides) → new ≡ range_flagged_apart bits (Some from) (Some to) s → items_of new ≡ items_of s → origins_of new ≡ origins_by es s → IsReady s → Happens es s new
mark_happens bits from to es s new e items origins ready =
    let i = start_in_all (Some from) s in
    let j = end_in_all (Some to) s in
    call_happens (glyphs_marked bits i j (all_glyphs s)) (has_several_numbers (range_of i j (clusters (all_glyphs s)))) es s new e items origins ready

marks_happen : (from to : ℕ) (es : List Event) (s new : Sides) (b : Bool) → new ≡ (if b then range_flagged_apart 4 (Some from) (Some to) s else range_flagged_apart 3 (Some from) (Some to) s) → items_of new ≡ items_of s → origins_of new ≡ origins_by es s → IsReady s → Happens es s new
marks_happen from to es s new true e items origins ready = mark_happens 4 from to es s new e items origins ready
marks_happen from to es s new false e items origins ready = mark_happens 3 from to es s new e items origins ready

pub concat_happens : (from to : ℕ) (s new : Sides) → new ≡ concat_marked (Some from) (Some to) s → items_of new ≡ items_of s
    → origins_of new ≡ origins_by (Concat (start_in_all (Some from) s) (end_in_all (Some to) s) ∷ []) s → IsReady s → Happens (Concat from to ∷ []) s new
concat_happens from to s new e items origins ready =
    let o = origins ∙ ap (λ i. origins_by (Concat i (end_in_all (Some to) s) ∷ []) s) (whole_index from s ready) ∙ ap (λ i. origins_by (Concat from i ∷ []) s) (whole_index to s ready) in
    flags_happen from to (Concat from to ∷ []) s new (requests_concat s) e items o ready

pub tatweel_happens : (from to : ℕ) (s new : Sides) → new ≡ tatweel_marked (Some from) (Some to) s → items_of new ≡ items_of s
    → origins_of new ≡ origins_by (Tatweel (start_in_all (Some from) s) (end_in_all (Some to) s) ∷ []) s → IsReady s → Happens (Tatweel from to ∷ []) s new
tatweel_happens from to s new e items origins ready =
    let o = origins ∙ ap (λ i. origins_by (Tatweel i (end_in_all (Some to) s) ∷ []) s) (whole_index from s ready) ∙ ap (λ i. origins_by (Tatweel from i ∷ []) s) (whole_index to s ready) in
    marks_happen from to (Tatweel from to ∷ []) s new (requests_tatweel s) e items o ready

strict_if : (from to : ℕ) (es : List Event) (s new : Sides) (b : Bool) → new ≡ (if b then range_flagged_apart 3 (Some from) (Some to) s else s) → items_of new ≡ items_of s → origins_of new ≡ origins_by es s → IsReady s → Happens es s new
strict_if from to es s new true e items origins ready = mark_happens 3 from to es s new e items origins ready
strict_if from to es s new false e items origins ready = same_happens es s new e origins ready

pub strict_break_happens : (from to : ℕ) (s new : Sides) → new ≡ strictly_marked (Some from) (Some to) s → items_of new ≡ items_of s
    → origins_of new ≡ origins_by (StrictBreak (start_in_all (Some from) s) (end_in_all (Some to) s) ∷ []) s → IsReady s → Happens (StrictBreak from to ∷ []) s new
strict_break_happens from to s new e items origins ready =
    let o = origins ∙ ap (λ i. origins_by (StrictBreak i (end_in_all (Some to) s) ∷ []) s) (whole_index from s ready) ∙ ap (λ i. origins_by (StrictBreak from i ∷ []) s) (whole_index to s ready) in
    strict_if from to (StrictBreak from to ∷ []) s new (requests_breaks s) e items o ready

-- ---- one letter

abbrev forms_if : Bool → ℕ → ℕ → List Event
forms_if b from at = if b then StrictBreak from (at + 1) ∷ [] else []

-- its form depends on the letter before it, or not
pub form_flagged : (before : JoiningType) (from : ℕ) (t : JoiningType) (at : ℕ) (b : Bool) (s new : Sides) → b ≡ depends_on before t → b ≡ true → Happens (StrictBreak from (at + 1) ∷ []) s new → Happens (form_events before from t at) s new
form_flagged before from t at b s new e holds h = subst (λ c. Happens (forms_if c from at) s new) (sym holds ∙ e) h

pub form_kept : (before : JoiningType) (from : ℕ) (t : JoiningType) (at : ℕ) (b : Bool) (s : Sides) → b ≡ depends_on before t → b ≡ false → IsReady s → Happens (form_events before from t at) s s
form_kept before from t at b s e fails ready = subst (λ c. Happens (forms_if c from at) s s) (sym fails ∙ e) (nothing_happens s ready)

skipped_if : (b : Bool) (from at : ℕ) (s : Sides) → requests_breaks s ≡ false → IsReady s → Happens (forms_if b from at) s s
skipped_if true from at s e ready = record { view = refl; origins = sym (ap (λ b. marked_if b from (at + 1) (origins_of s)) e); settings = refl; ready = ready }
skipped_if false from at s e ready = nothing_happens s ready

-- without the request nothing is flagged
pub form_skipped : (before : JoiningType) (from : ℕ) (t : JoiningType) (at : ℕ) (s : Sides) → requests_breaks s ≡ false → IsReady s → Happens (form_events before from t at) s s
form_skipped before from t at s e ready = skipped_if (depends_on before t) from at s e ready

abbrev neighbours_if : Bool → Letter → JoiningType → ℕ → List Event
neighbours_if b p t at = if b then Concat p.at (at + 1) ∷ form_events p.joining p.at t at else Tatweel p.at (at + 1) ∷ []

-- it leaves the form of the one before it, or changes that
pub kept_between : (p : Letter) (t : JoiningType) (at : ℕ) (b : Bool) (s mid new : Sides) → b ≡ (letter_form p.before p.joining t == letter_form p.before p.joining U) → b ≡ true
    → Happens (Concat p.at (at + 1) ∷ []) s mid → Happens (form_events p.joining p.at t at) mid new → Happens (neighbours_events p t at) s new
kept_between p t at b s mid new e holds h k = subst (λ c. Happens (neighbours_if c p t at) s new) (sym holds ∙ e) (both_happen (Concat p.at (at + 1) ∷ []) (form_events p.joining p.at t at) s mid new h k)

pub changed_between : (p : Letter) (t : JoiningType) (at : ℕ) (b : Bool) (s new : Sides) → b ≡ (letter_form p.before p.joining t == letter_form p.before p.joining U) → b ≡ false
    → Happens (Tatweel p.at (at + 1) ∷ []) s new → Happens (neighbours_events p t at) s new
changed_between p t at b s new e fails h = subst (λ c. Happens (neighbours_if c p t at) s new) (sym fails ∙ e) h

-- as many glyphs as before
pub many_as_before : (es : List Event) (s new : Sides) → Happens es s new → length (all_glyphs new) ≡ length (all_glyphs s)
many_as_before es s new h = sym (length-map (all_glyphs new) item_of) ∙ ap (λ (v : View). length v.items) h.view ∙ length-map (all_glyphs s) item_of

-- ---- the walk

pub kept_at : (gs : List hb_glyph_info_t) (at : ℕ) (d : hb_glyph_info_t) → at < length gs → Some (type_kept (get_or gs at d)) ≡ slice_get (map type_of_typed (strip gs)) at
kept_at [] at d lt = absurd (omega arith)
kept_at (g ∷ gs) zero d lt = refl
kept_at (g ∷ gs) (suc at) d lt = kept_at gs at d (omega arith)

-- the letters before an index are flagged; those from it on are still to come
pub record AreFlagged (from : Sides) (start : JoiningType) (at : ℕ) (before : JoiningType) (last : Option Letter) (s : Sides) : Type 0 where
  pub events : List Event
  pub happened : Happens events from s
  pub earlier : IsEarlier last at
  pub rest : events ++ neighbour_events before last at (drop at (map type_of_typed (items_of from))) ≡ neighbour_events start None 0 (map type_of_typed (items_of from))

pub none_flagged : (s : Sides) (start : JoiningType) → IsReady s → AreFlagged s start 0 start None s
none_flagged s start ready = record { events = []; happened = nothing_happens s ready; earlier = record {}; rest = refl }

same_items : (a b : Sides) → view_of b ≡ view_of a → items_of b ≡ items_of a
same_items a b e = ap (λ (v : View). v.items) e

pub same_count : (from s : Sides) (start : JoiningType) (at : ℕ) (before : JoiningType) (last : Option Letter) → AreFlagged from start at before last s → length (all_glyphs s) ≡ length (all_glyphs from)
same_count from s start at before last f = sym (length-map (all_glyphs s) item_of) ∙ ap (λ (xs : List Item). length xs) (same_items from s f.happened.view) ∙ length-map (all_glyphs from) item_of

pub some_same : {X : Type 0} (a b : X) → Some a ≡ Some b → b ≡ a
some_same a b e = cc

still_after : (last : Option Letter) (at : ℕ) → IsEarlier last at → IsEarlier last (at + 1)
still_after None at b = b
still_after (Some p) at b = omega (arith, b)

pub there_suc : {X : Type 0} (xs : List X) (i : ℕ) (x : X) → Some x ≡ slice_get xs i → drop i xs ≡ x ∷ drop (suc i) xs
there_suc [] i x e = cc
there_suc (y ∷ xs) zero x e = ap (λ z. z ∷ xs) (sym (some_same y x (sym e)))
there_suc (y ∷ xs) (suc i) x e = there_suc xs i x e

pub after_next : (before : JoiningType) (last : Option Letter) (t : JoiningType) (at : ℕ) → IsEarlier last at → IsEarlier (letter_after before last t at) (at + 1)
after_next before last t at b = elim (is_letter t) as (λ c. IsEarlier (if c then Some (record { at = at; joining = t; before = before }) else last) (at + 1)) [ true ↦ omega arith | false ↦ still_after last at b ]

pub next_flagged : (from s t : Sides) (start : JoiningType) (at : ℕ) (before : JoiningType) (last : Option Letter) (joining : JoiningType) → Some joining ≡ slice_get (map type_of_typed (items_of s)) at
    → Happens (events_at before last joining at) s t → AreFlagged from start at before last s → AreFlagged from start (at + 1) (nearest_past before joining) (letter_after before last joining at) t
next_flagged from s t start at before last joining e h f =
    let es = events_at before last joining at in
    let more : ℕ → List Event = λ k. neighbour_events (nearest_past before joining) (letter_after before last joining at) (at + 1) (drop k (map type_of_typed (items_of from))) in
    let types : List JoiningType = map type_of_typed (items_of from) in
    let there = e ∙ ap (λ xs. slice_get (map type_of_typed xs) at) (same_items from s f.happened.view) in
    let cut : es ++ more (suc at) ≡ neighbour_events before last at (drop at types) = sym (ap (neighbour_events before last at) (there_suc types at joining there)) in
    record {
      events = f.events ++ es;
      happened = both_happen f.events es from s t f.happened h;
      earlier = after_next before last joining at f.earlier;
      rest =
          append_assoc f.events es (more (at + 1))
          ∙ ap (λ k. f.events ++ (es ++ more k)) (add-one at)
          ∙ ap (λ ls. f.events ++ ls) cut
          ∙ f.rest;
    }

pub all_flagged : (from s : Sides) (start : JoiningType) (at : ℕ) (before : JoiningType) (last : Option Letter) → length (all_glyphs from) ≤ at → AreFlagged from start at before last s
    → Happens (neighbour_events start None 0 (map type_of_typed (items_of from))) from s
all_flagged from s start at before last le f =
    let types = map type_of_typed (items_of from) in
    let none : drop at types ≡ [] = drop_all at types (omega (arith, length-map (items_of from) type_of_typed, length-map (all_glyphs from) item_of, le)) in
    subst (λ es. Happens es from s) (sym (append-nil f.events) ∙ ap (λ ts. f.events ++ neighbour_events before last at ts) (sym none) ∙ f.rest) f.happened

-- ---- a letter before one that doesn't connect to it

form_before_unjoined : (before joining next : JoiningType) → joins_before next ≡ false → letter_form before joining next ≡ letter_form before joining U
form_before_unjoined before U next e = refl
form_before_unjoined before L next e = ap (joined_form false) e
form_before_unjoined before R next e = refl
form_before_unjoined before D next e = ap (joined_form (joins_next before)) e
form_before_unjoined before GroupAlaph next e = ap (alaph_form before) e
form_before_unjoined before GroupDalathRish next e = refl
form_before_unjoined before T next e = refl
form_before_unjoined before X next e = refl

pub unjoined_keeps : (before joining next : JoiningType) → joins_before next ≡ false → true ≡ (letter_form before joining next == letter_form before joining U)
unjoined_keeps before joining next e =
    let same : letter_form before joining next ≡ letter_form before joining U = form_before_unjoined before joining next e in sym (grind (arith, nat_tests, same))
