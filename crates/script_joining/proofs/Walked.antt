-- The one walk over a text's letters.
use Rattle.std.proofs.Common.{ℕ, zero, suc, ◌≡◌, ◌<◌, ◌≤◌, ◌+◌, Bool, true, false, if◌then◌else◌, List, [], ◌∷◌, ◌++◌, Option, Some, None, length, map, take, drop, set, get_or, arith, add-one, refl, sym, ap, ap₂, subst, ◌∙◌, append_assoc}
use Rattle.std.specs.Prelude.{find, slice_get, unwrap_or}
use Rattle.std.proofs.lemmas.Bool.{cond-true, cond-false}
use Rattle.std.proofs.lemmas.List.{append-nil, length-map, length-append, drop_all, take_all}
use Rattle.buffer_glyphs.specs.declared.info.hb_glyph_info_t.{hb_glyph_info_t}
use Rattle.buffer_glyphs.specs.Items.{Item, item_of, strip, without_flags}
use Rattle.buffer_glyphs.specs.Origins.{Origin, origin_of, origins}
use Rattle.buffer_glyphs.specs.Events.{Event, origins_after}
use Rattle.buffer_glyphs.specs.Lemmas.Origins.{origins_after_both}
use Rattle.buffer_core.specs.Readings.{BufferState, View, always}
use Rattle.buffer_core.specs.Sides.{Sides, all_glyphs, flag_requests_of, items_of, origins_by, origins_of, settings_of, view_of}
use Rattle.buffer_core.specs.Lending.{with_refilled}
use Rattle.buffer_stages.specs.Ready.{IsReady}
use Rattle.buffer_stages.specs.Stages.{Happens, IsFollowed}
use Rattle.buffer_stages.specs.Lemmas.Rewritings.{by_settings}
use Rattle.buffer_stages.specs.Lemmas.Written.{happened_followed, written_becomes}
use Rattle.buffer_stages.proofs.Lemmas.Masks.{mask_above}
use Rattle.buffer_unicode_tables.specs.Tables.{Tables}
use Rattle.script_categories.specs.declared.arabic_action_t.TheConstants as action
use Rattle.script_categories.specs.declared.joining_types.hb_arabic_joining_type_t.TheVariants.{U, L, R, D, GroupAlaph, GroupDalathRish, T, X}
use Rattle.script_joining.specs.declared.flags.Letter.{Letter}
use Rattle.script_joining.specs.Types.{JoiningType, type_of_item}
use Rattle.script_joining.specs.Forms.{letter_form}
use Rattle.script_joining.specs.Joining.{events_at, forms, is_letter, items_with_forms, letter_after, letters_with_forms, mask_of, nearest, nearest_past, neighbour_events, types_of_characters, types_of_items, with_form, with_forms}
use Rattle.script_joining.specs.Flagged.{IsEarlier}
use Rattle.script_joining.specs.Glyphs.{AreFlagless, glyph_formed, glyph_joined, nearest_or}
use Rattle.script_joining.specs.Walked.{TurnsTo, with_one_changed, with_form_at, glyphs_with_form_at, with_last_formed, text_past}
use Rattle.script_joining.proofs.Joined.{joined_origin, nearest_both, nearest_front, same_many}
use Rattle.buffer_lists.proofs.Lemmas.Neighbours.{no_glyph}
use Rattle.script_joining.proofs.Marked.{after_next, some_same, there_suc}

-- ---- an element changed

changed_length : {X : Type 0} (f : X → X) (i : ℕ) (xs : List X) → length (with_one_changed f i xs) ≡ length xs
changed_length f i [] = refl
changed_length f zero (x ∷ xs) = refl
changed_length f (suc i) (x ∷ xs) = let n = changed_length f i xs in omega (arith, n)

changed_other : {X : Type 0} (f : X → X) (i j : ℕ) (xs : List X) → i < j → slice_get (with_one_changed f i xs) j ≡ slice_get xs j
changed_other f i j [] lt = refl
changed_other f zero zero (x ∷ xs) lt = absurd (omega (arith, lt))
changed_other f zero (suc j) (x ∷ xs) lt = refl
changed_other f (suc i) zero (x ∷ xs) lt = absurd (omega (arith, lt))
changed_other f (suc i) (suc j) (x ∷ xs) lt = changed_other f i j xs (omega (arith, lt))

changed_front : {X : Type 0} (f : X → X) (i : ℕ) (xs ys : List X) → i < length xs → with_one_changed f i (xs ++ ys) ≡ with_one_changed f i xs ++ ys
changed_front f i [] ys lt = absurd (omega (arith, lt))
changed_front f zero (x ∷ xs) ys lt = refl
changed_front f (suc i) (x ∷ xs) ys lt = ap (λ zs. x ∷ zs) (changed_front f i xs ys (omega (arith, lt)))

changed_end : {X : Type 0} (f : X → X) (i : ℕ) (xs : List X) (y : X) → length xs ≡ i → with_one_changed f i (xs ++ y ∷ []) ≡ xs ++ f y ∷ []
changed_end f zero [] y e = refl
changed_end f (suc i) [] y e = absurd (omega (arith, e))
changed_end f zero (x ∷ xs) y e = absurd (omega (arith, e))
changed_end f (suc i) (x ∷ xs) y e = ap (λ zs. x ∷ zs) (changed_end f i xs y (omega (arith, e)))

changed_take : {X : Type 0} (f : X → X) (i k : ℕ) (xs : List X) → i < k → take k (with_one_changed f i xs) ≡ with_one_changed f i (take k xs)
changed_take f i zero xs lt = absurd (omega (arith, lt))
changed_take f i (suc k) [] lt = refl
changed_take f zero (suc k) (x ∷ xs) lt = refl
changed_take f (suc i) (suc k) (x ∷ xs) lt = ap (λ zs. x ∷ zs) (changed_take f i k xs (omega (arith, lt)))

changed_drop : {X : Type 0} (f : X → X) (i k : ℕ) (xs : List X) → i < k → drop k (with_one_changed f i xs) ≡ drop k xs
changed_drop f i zero xs lt = absurd (omega (arith, lt))
changed_drop f i (suc k) [] lt = refl
changed_drop f zero (suc k) (x ∷ xs) lt = refl
changed_drop f (suc i) (suc k) (x ∷ xs) lt = changed_drop f i k xs (omega (arith, lt))

taken_suc : {X : Type 0} (xs : List X) (i : ℕ) (x : X) → Some x ≡ slice_get xs i → take (suc i) xs ≡ take i xs ++ x ∷ []
taken_suc [] i x e = cc
taken_suc (y ∷ xs) zero x e = ap (λ z. z ∷ []) (sym (some_same y x (sym e)))
taken_suc (y ∷ xs) (suc i) x e = ap (λ zs. y ∷ zs) (taken_suc xs i x e)

taken_length : {X : Type 0} (xs : List X) (i : ℕ) (x : X) → Some x ≡ slice_get xs i → length (take i xs) ≡ i
taken_length [] i x e = cc
taken_length (y ∷ xs) zero x e = refl
taken_length (y ∷ xs) (suc i) x e = let n = taken_length xs i x e in omega (arith, n)

pub set_there : {X : Type 0} (f : X → X) (xs : List X) (i : ℕ) (d y : X) → i < length xs → y ≡ f (get_or xs i d) → set xs i y ≡ with_one_changed f i xs
set_there f [] i d y lt e = absurd (omega (arith, lt))
set_there f (x ∷ xs) zero d y lt e = ap (λ z. z ∷ xs) e
set_there f (x ∷ xs) (suc i) d y lt e = ap (λ zs. x ∷ zs) (set_there f xs i d y (omega (arith, lt)) e)

-- ---- glyphs changed

formed_item : (masks : List ℕ) (form : ℕ) (g : hb_glyph_info_t) → item_of (glyph_joined masks (glyph_formed form g)) ≡ with_form masks (item_of g) form
formed_item masks form g = ap (λ m. record (item_of g) { auxiliary = form; mask = m }) (mask_above g.mask (mask_of masks form))

formed_strip : (masks : List ℕ) (form at : ℕ) (gs : List hb_glyph_info_t) → strip (glyphs_with_form_at masks form at gs) ≡ with_form_at masks form at (strip gs)
formed_strip masks form at [] = refl
formed_strip masks form zero (g ∷ gs) = ap (λ x. x ∷ strip gs) (formed_item masks form g)
formed_strip masks form (suc at) (g ∷ gs) = ap (λ xs. item_of g ∷ xs) (formed_strip masks form at gs)

pub formed_origins_at : (masks : List ℕ) (form at : ℕ) (gs : List hb_glyph_info_t) → AreFlagless masks → origins (glyphs_with_form_at masks form at gs) ≡ origins gs
formed_origins_at masks form at [] e = refl
formed_origins_at masks form zero (g ∷ gs) e = ap (λ o. o ∷ origins gs) (joined_origin masks (glyph_formed form g) e)
formed_origins_at masks form (suc at) (g ∷ gs) e = ap (λ os. origin_of g ∷ os) (formed_origins_at masks form at gs e)

pub form_turns : (masks : List ℕ) (form at : ℕ) (gs : List hb_glyph_info_t) (s : Sides) → AreFlagless masks → gs ≡ glyphs_with_form_at masks form at (all_glyphs s) → IsReady s → TurnsTo (with_form_at masks form at (items_of s)) [] s (with_refilled gs s)
form_turns masks form at gs s none e ready =
    let from : origins gs ≡ origins_of s = ap origins e ∙ formed_origins_at masks form at (all_glyphs s) none in
    let items : strip gs ≡ with_form_at masks form at (items_of s) = ap strip e ∙ formed_strip masks form at (all_glyphs s) in
    let b = written_becomes gs s (with_form_at masks form at (items_of s)) (same_many gs (all_glyphs s) from) items from ready in
    record { view = b.view; origins = b.origins; settings = b.settings; ready = b.ready }

-- ---- one step

pub nothing_turns : (s : Sides) → IsReady s → TurnsTo (items_of s) [] s s
nothing_turns s ready = record { view = refl; origins = refl; settings = refl; ready = ready }

pub turned_items : (xs : List Item) (es : List Event) (s t : Sides) → TurnsTo xs es s t → items_of t ≡ xs
turned_items xs es s t h = ap (λ (v : View). v.items) h.view

pub as_many : (masks : List ℕ) (last : Option Letter) (next : JoiningType) (es : List Event) (s t : Sides) → TurnsTo (with_last_formed masks last next (items_of s)) es s t → length (all_glyphs t) ≡ length (all_glyphs s)
as_many masks last next es s t h =
    sym (length-map (all_glyphs t) item_of) ∙ ap length (turned_items (with_last_formed masks last next (items_of s)) es s t h) ∙ same last ∙ length-map (all_glyphs s) item_of
  where
    same : (l : Option Letter) → length (with_last_formed masks l next (items_of s)) ≡ length (items_of s)
    same None = refl
    same (Some p) = changed_length (λ x. with_form masks x (letter_form p.before p.joining next)) p.at (items_of s)

-- items change, and then events happen
turned_then : (xs : List Item) (es : List Event) (s m t : Sides) → TurnsTo xs [] s m → Happens es m t → TurnsTo xs es s t
turned_then xs es s m t h k = record {
  view = k.view ∙ h.view;
  origins = k.origins ∙ by_settings es s m h.settings ∙ ap (λ os. origins_after (flag_requests_of s) s.level es os) h.origins;
  settings = k.settings ∙ h.settings;
  ready = k.ready;
}

abbrev passed_if : Bool → List ℕ → Option Letter → JoiningType → ℕ → List Item → List Item
passed_if b masks last t at xs = if b then with_last_formed masks last t xs else with_form_at masks action.NONE at xs

pub letter_passed : (masks : List ℕ) (before : JoiningType) (last : Option Letter) (t : JoiningType) (at : ℕ) (s m new : Sides) → is_letter t ≡ true
    → TurnsTo (with_last_formed masks last t (items_of s)) [] s m → Happens (events_at before last t at) m new → TurnsTo (text_past masks last t at (items_of s)) (events_at before last t at) s new
letter_passed masks before last t at s m new letter h k =
    subst (λ b. TurnsTo (passed_if b masks last t at (items_of s)) (events_at before last t at) s new) (sym letter) (turned_then (with_last_formed masks last t (items_of s)) (events_at before last t at) s m new h k)

no_events : (before : JoiningType) (last : Option Letter) (t : JoiningType) (at : ℕ) → is_letter t ≡ false → events_at before last t at ≡ []
no_events before last t at e = cond-false _ _ _ e

pub mark_passed : (masks : List ℕ) (before : JoiningType) (last : Option Letter) (t : JoiningType) (at : ℕ) (s new : Sides) → is_letter t ≡ false
    → TurnsTo (with_form_at masks action.NONE at (items_of s)) [] s new → TurnsTo (text_past masks last t at (items_of s)) (events_at before last t at) s new
mark_passed masks before last t at s new mark h =
    subst (λ b. TurnsTo (passed_if b masks last t at (items_of s)) (events_at before last t at) s new) (sym mark)
    (subst (λ es. TurnsTo (with_form_at masks action.NONE at (items_of s)) es s new) (sym (no_events before last t at mark)) h)

-- ---- what is done, with what is left

-- items from an index on with their forms
abbrev pub joined_from : Tables → List ℕ → JoiningType → JoiningType → List Item → List Item
joined_from t masks before after [] = []
joined_from t masks before after (x ∷ xs) =
    with_form masks x (letter_form before (type_of_item t x) (nearest_or after (types_of_items t xs))) ∷ joined_from t masks (nearest_past before (type_of_item t x)) after xs

-- a text of which the items before an index have their forms, but for the last letter, with those of the others
abbrev pub completed : Tables → List ℕ → JoiningType → JoiningType → Option Letter → ℕ → List Item → List Item
completed t masks after before last at xs = with_last_formed masks last (nearest_or after (types_of_items t (drop at xs))) (take at xs) ++ joined_from t masks before after (drop at xs)

pub transparent : (t : JoiningType) → is_letter t ≡ false → t ≡ T
transparent U e = absurd (let bad = e in cc)
transparent L e = absurd (let bad = e in cc)
transparent R e = absurd (let bad = e in cc)
transparent D e = absurd (let bad = e in cc)
transparent GroupAlaph e = absurd (let bad = e in cc)
transparent GroupDalathRish e = absurd (let bad = e in cc)
transparent T e = refl
transparent X e = absurd (let bad = e in cc)

nearest_here : (after t : JoiningType) (ts : List JoiningType) → is_letter t ≡ true → nearest_or after (t ∷ ts) ≡ t
nearest_here after t ts e = ap (λ o. unwrap_or o after) (cond-true _ _ _ e)

nearest_later : (after t : JoiningType) (ts : List JoiningType) → is_letter t ≡ false → nearest_or after (t ∷ ts) ≡ nearest_or after ts
nearest_later after t ts e = ap (λ o. unwrap_or o after) (cond-false _ _ _ e)

last_front : (masks : List ℕ) (last : Option Letter) (next : JoiningType) (xs ys : List Item) → IsEarlier last (length xs) → with_last_formed masks last next (xs ++ ys) ≡ with_last_formed masks last next xs ++ ys
last_front masks None next xs ys e = refl
last_front masks (Some p) next xs ys e = changed_front (λ x. with_form masks x (letter_form p.before p.joining next)) p.at xs ys e

last_taken : (masks : List ℕ) (last : Option Letter) (next : JoiningType) (k : ℕ) (xs : List Item) → IsEarlier last k → take k (with_last_formed masks last next xs) ≡ with_last_formed masks last next (take k xs)
last_taken masks None next k xs e = refl
last_taken masks (Some p) next k xs e = changed_take (λ x. with_form masks x (letter_form p.before p.joining next)) p.at k xs e

last_dropped : (masks : List ℕ) (last : Option Letter) (next : JoiningType) (k : ℕ) (xs : List Item) → IsEarlier last k → drop k (with_last_formed masks last next xs) ≡ drop k xs
last_dropped masks None next k xs e = refl
last_dropped masks (Some p) next k xs e = changed_drop (λ x. with_form masks x (letter_form p.before p.joining next)) p.at k xs e

last_other : (masks : List ℕ) (last : Option Letter) (next : JoiningType) (k j : ℕ) (xs : List Item) → IsEarlier last k → k ≤ j → slice_get (with_last_formed masks last next xs) j ≡ slice_get xs j
last_other masks None next k j xs e le = refl
last_other masks (Some p) next k j xs e le = changed_other (λ x. with_form masks x (letter_form p.before p.joining next)) p.at j xs (omega (arith, e, le))

at_length : (last : Option Letter) (at n : ℕ) → n ≡ at → IsEarlier last at → IsEarlier last n
at_length last at n e h = subst (IsEarlier last) (sym e) h

-- one character more: a mark
mark_completes : (t : Tables) (masks : List ℕ) (after before : JoiningType) (last : Option Letter) (at : ℕ) (x : Item) (xs : List Item) → Some x ≡ slice_get xs at → IsEarlier last at → is_letter (type_of_item t x) ≡ false
    → completed t masks after before last (suc at) (with_form_at masks action.NONE at xs) ≡ completed t masks after before last at xs
mark_completes t masks after before last at x xs there earlier mark =
    let f : Item → Item = λ y. with_form masks y action.NONE in
    let rest : List Item = drop (suc at) xs in
    let next : JoiningType = nearest_or after (types_of_items t rest) in
    let cut : drop at xs ≡ x ∷ rest = there_suc xs at x there in
    let front : take (suc at) (with_one_changed f at xs) ≡ take at xs ++ f x ∷ [] =
    changed_take f at (suc at) xs (omega arith) ∙ ap (with_one_changed f at) (taken_suc xs at x there) ∙ changed_end f at (take at xs) x (taken_length xs at x there) in
    let back : drop (suc at) (with_one_changed f at xs) ≡ rest = changed_drop f at (suc at) xs (omega arith) in
    let kind : type_of_item t x ≡ T = transparent (type_of_item t x) mark in
    let none : f x ≡ with_form masks x (letter_form before (type_of_item t x) next) = ap (λ k. with_form masks x (letter_form before k next)) (sym kind) in
    let past : nearest_past before (type_of_item t x) ≡ before = cond-false _ _ _ mark in
    let same : nearest_or after (types_of_items t (x ∷ rest)) ≡ next = nearest_later after (type_of_item t x) (types_of_items t rest) mark in
    ap₂ (λ ys zs. with_last_formed masks last (nearest_or after (types_of_items t zs)) ys ++ joined_from t masks before after zs) front back
    ∙ ap (λ ys. ys ++ joined_from t masks before after rest) (last_front masks last next (take at xs) (f x ∷ []) (at_length last at (length (take at xs)) (taken_length xs at x there) earlier))
    ∙ append_assoc (with_last_formed masks last next (take at xs)) (f x ∷ []) (joined_from t masks before after rest)
    ∙ ap₂ (λ y b. with_last_formed masks last next (take at xs) ++ y ∷ joined_from t masks b after rest) none (sym past)
    ∙ ap (λ n. with_last_formed masks last n (take at xs) ++ joined_from t masks before after (x ∷ rest)) (sym same)
    ∙ ap (λ zs. with_last_formed masks last (nearest_or after (types_of_items t zs)) (take at xs) ++ joined_from t masks before after zs) (sym cut)

-- one character more: a letter
letter_completes : (t : Tables) (masks : List ℕ) (after before : JoiningType) (last : Option Letter) (at : ℕ) (x : Item) (xs : List Item) → Some x ≡ slice_get xs at → IsEarlier last at → is_letter (type_of_item t x) ≡ true
    → completed t masks after (type_of_item t x) (Some (record { at = at; joining = type_of_item t x; before = before })) (suc at) (with_last_formed masks last (type_of_item t x) xs) ≡ completed t masks after before last at xs
letter_completes t masks after before last at x xs there earlier letter =
    let kind : JoiningType = type_of_item t x in
    let rest : List Item = drop (suc at) xs in
    let next : JoiningType = nearest_or after (types_of_items t rest) in
    let f : Item → Item = λ y. with_form masks y (letter_form before kind next) in
    let cut : drop at xs ≡ x ∷ rest = there_suc xs at x there in
    let long : length (take at xs) ≡ at = taken_length xs at x there in
    let before_end : IsEarlier last (length (take at xs)) = at_length last at (length (take at xs)) long earlier in
    let front : take (suc at) (with_last_formed masks last kind xs) ≡ with_last_formed masks last kind (take at xs) ++ x ∷ [] =
    last_taken masks last kind (suc at) xs (later last earlier) ∙ ap (with_last_formed masks last kind) (taken_suc xs at x there) ∙ last_front masks last kind (take at xs) (x ∷ []) before_end in
    let back : drop (suc at) (with_last_formed masks last kind xs) ≡ rest = last_dropped masks last kind (suc at) xs (later last earlier) in
    let many : length (with_last_formed masks last kind (take at xs)) ≡ at = last_length last ∙ long in
    let same : nearest_or after (types_of_items t (x ∷ rest)) ≡ kind = nearest_here after kind (types_of_items t rest) letter in
    let past : nearest_past before kind ≡ kind = cond-true _ _ _ letter in
    ap₂ (λ ys zs. with_one_changed (λ y. with_form masks y (letter_form before kind (nearest_or after (types_of_items t zs)))) at ys ++ joined_from t masks kind after zs) front back
    ∙ ap (λ ys. ys ++ joined_from t masks kind after rest) (changed_end f at (with_last_formed masks last kind (take at xs)) x many)
    ∙ append_assoc (with_last_formed masks last kind (take at xs)) (f x ∷ []) (joined_from t masks kind after rest)
    ∙ ap (λ b. with_last_formed masks last kind (take at xs) ++ f x ∷ joined_from t masks b after rest) (sym past)
    ∙ ap (λ n. with_last_formed masks last n (take at xs) ++ joined_from t masks before after (x ∷ rest)) (sym same)
    ∙ ap (λ zs. with_last_formed masks last (nearest_or after (types_of_items t zs)) (take at xs) ++ joined_from t masks before after zs) (sym cut)
  where
    later : (l : Option Letter) → IsEarlier l at → IsEarlier l (suc at)
    later None h = h
    later (Some p) h = omega (arith, h)

    last_length : (l : Option Letter) → length (with_last_formed masks l (type_of_item t x) (take at xs)) ≡ length (take at xs)
    last_length None = refl
    last_length (Some p) = changed_length (λ y. with_form masks y (letter_form p.before p.joining (type_of_item t x))) p.at (take at xs)

step_completes : (t : Tables) (masks : List ℕ) (after before : JoiningType) (last : Option Letter) (at : ℕ) (x : Item) (xs : List Item) → Some x ≡ slice_get xs at → IsEarlier last at
    → completed t masks after (nearest_past before (type_of_item t x)) (letter_after before last (type_of_item t x) at) (suc at) (text_past masks last (type_of_item t x) at xs) ≡ completed t masks after before last at xs
step_completes t masks after before last at x xs there earlier = by_case (is_letter (type_of_item t x)) refl
  where
    by_case : (b : Bool) → is_letter (type_of_item t x) ≡ b
        → completed t masks after (nearest_past before (type_of_item t x)) (letter_after before last (type_of_item t x) at) (suc at) (text_past masks last (type_of_item t x) at xs) ≡ completed t masks after before last at xs
    by_case true e =
        ap (λ b. completed t masks after (if b then type_of_item t x else before) (if b then Some (record { at = at; joining = type_of_item t x; before = before }) else last) (suc at) (passed_if b masks last (type_of_item t x) at xs)) e
        ∙ letter_completes t masks after before last at x xs there earlier e
    by_case false e =
        ap (λ b. completed t masks after (if b then type_of_item t x else before) (if b then Some (record { at = at; joining = type_of_item t x; before = before }) else last) (suc at) (passed_if b masks last (type_of_item t x) at xs)) e
        ∙ mark_completes t masks after before last at x xs there earlier e

-- ---- all forms

joined_forms : (t : Tables) (masks : List ℕ) (before after : List JoiningType) (xs : List Item) → joined_from t masks (nearest before) (nearest after) xs ≡ with_forms masks xs (forms before (types_of_items t xs) after)
joined_forms t masks before after [] = refl
joined_forms t masks before after (x ∷ xs) =
    let kind = type_of_item t x in
    ap (λ n. with_form masks x (letter_form (nearest before) kind n) ∷ joined_from t masks (nearest_past (nearest before) kind) (nearest after) xs) (sym (nearest_both (types_of_items t xs) after))
    ∙ ap (λ b. with_form masks x (letter_form (nearest before) kind (nearest (types_of_items t xs ++ after))) ∷ joined_from t masks b (nearest after) xs) (sym (nearest_front kind before))
    ∙ ap (λ ys. with_form masks x (letter_form (nearest before) kind (nearest (types_of_items t xs ++ after))) ∷ ys) (joined_forms t masks (kind ∷ before) after xs)

-- ---- the walk

-- the letters before an index are joined, but for the last one; what is left completes the forms and the events
pub record IsJoining (t : Tables) (masks : List ℕ) (start after : JoiningType) (from : Sides) (at : ℕ) (before : JoiningType) (last : Option Letter) (s : Sides) : Type 0 where
  pub events : List Event
  pub turned : TurnsTo (items_of s) events from s
  pub earlier : IsEarlier last at
  pub rest : events ++ neighbour_events before last at (drop at (types_of_items t (items_of from))) ≡ neighbour_events start None 0 (types_of_items t (items_of from))
  pub left : (i : ℕ) → at ≤ i → slice_get (items_of s) i ≡ slice_get (items_of from) i
  pub completes : completed t masks after before last at (items_of s) ≡ joined_from t masks start after (items_of from)
  pub many : length (items_of s) ≡ length (items_of from)
  pub inside : IsEarlier last (length (items_of from))

pub none_joined : (t : Tables) (masks : List ℕ) (start after : JoiningType) (s : Sides) → IsReady s → IsJoining t masks start after s 0 start None s
none_joined t masks start after s ready = record {
  events = [];
  turned = nothing_turns s ready;
  earlier = record {};
  rest = refl;
  left = λ i le. refl;
  completes = refl;
  many = refl;
  inside = record {};
}

inside_after : (before : JoiningType) (last : Option Letter) (t : JoiningType) (at n : ℕ) → at < n → IsEarlier last n → IsEarlier (letter_after before last t at) n
inside_after before last t at n lt b = elim (is_letter t) as (λ c. IsEarlier (if c then Some (record { at = at; joining = t; before = before }) else last) n) [ true ↦ lt | false ↦ b ]

pub joining_many : (t : Tables) (masks : List ℕ) (start after : JoiningType) (from : Sides) (at : ℕ) (before : JoiningType) (last : Option Letter) (s : Sides) → IsJoining t masks start after from at before last s → length (all_glyphs s) ≡ length (all_glyphs from)
joining_many t masks start after from at before last s j = sym (length-map (all_glyphs s) item_of) ∙ j.many ∙ length-map (all_glyphs from) item_of

get_map : {X Y : Type 0} (f : X → Y) (xs : List X) (i : ℕ) (y : Y) → Some y ≡ slice_get (map f xs) i → (x : X) → slice_get xs i ≡ Some x → f x ≡ y
get_map f [] i y e x there = cc
get_map f (z ∷ xs) zero y e x there = let same : z ≡ x = cc in ap f (sym same) ∙ some_same y (f z) e
get_map f (z ∷ xs) (suc i) y e x there = get_map f xs i y e x there

get_some : {X : Type 0} (xs : List X) (i : ℕ) (d : X) → i < length xs → Some (get_or xs i d) ≡ slice_get xs i
get_some [] i d lt = absurd (omega (arith, lt))
get_some (x ∷ xs) zero d lt = refl
get_some (x ∷ xs) (suc i) d lt = get_some xs i d (omega (arith, lt))

map_get : {X Y : Type 0} (f : X → Y) (xs : List X) (i : ℕ) (x : X) → Some x ≡ slice_get xs i → Some (f x) ≡ slice_get (map f xs) i
map_get f [] i x e = cc
map_get f (z ∷ xs) zero x e = ap (λ w. Some (f w)) (some_same z x (sym e))
map_get f (z ∷ xs) (suc i) x e = map_get f xs i x e

passed_length : (masks : List ℕ) (last : Option Letter) (t : JoiningType) (at : ℕ) (xs : List Item) → length (text_past masks last t at xs) ≡ length xs
passed_length masks last t at xs = by_case (is_letter t) last
  where
    by_case : (b : Bool) (l : Option Letter) → length (passed_if b masks l t at xs) ≡ length xs
    by_case true None = refl
    by_case true (Some p) = changed_length (λ x. with_form masks x (letter_form p.before p.joining t)) p.at xs
    by_case false l = changed_length (λ x. with_form masks x action.NONE) at xs

passed_other : (masks : List ℕ) (last : Option Letter) (t : JoiningType) (at i : ℕ) (xs : List Item) → IsEarlier last at → at < i → slice_get (text_past masks last t at xs) i ≡ slice_get xs i
passed_other masks last t at i xs earlier lt = by_case (is_letter t)
  where
    by_case : (b : Bool) → slice_get (passed_if b masks last t at xs) i ≡ slice_get xs i
    by_case true = last_other masks last t at i xs earlier (omega (arith, lt))
    by_case false = changed_other (λ x. with_form masks x action.NONE) at i xs lt

pub next_joined : (t : Tables) (masks : List ℕ) (start after : JoiningType) (from s new : Sides) (at : ℕ) (before : JoiningType) (last : Option Letter) (joining : JoiningType) → at < length (all_glyphs from)
    → Some joining ≡ slice_get (types_of_items t (items_of s)) at → TurnsTo (text_past masks last joining at (items_of s)) (events_at before last joining at) s new
    → IsJoining t masks start after from at before last s → IsJoining t masks start after from (at + 1) (nearest_past before joining) (letter_after before last joining at) new
next_joined t masks start after from s new at before last joining lt kind turns j =
    let es : List Event = events_at before last joining at in
    let types : List JoiningType = types_of_items t (items_of from) in
    let d : Item = item_of no_glyph in
    let xs : List Item = items_of s in
    let within : at < length xs = let m = j.many in let n = length-map (all_glyphs from) item_of in omega (arith, m, n, lt) in
    let x : Item = get_or xs at d in
    let there : Some x ≡ slice_get xs at = get_some xs at d within in
    let is : type_of_item t x ≡ joining = get_map (type_of_item t) xs at joining kind x (sym there) in
    let items : items_of new ≡ text_past masks last joining at xs = turned_items (text_past masks last joining at xs) es s new turns in
    let first : Some joining ≡ slice_get types at = ap Some (sym is) ∙ map_get (type_of_item t) (items_of from) at x (there ∙ j.left at (omega arith)) in
    let more : ℕ → List Event = λ k. neighbour_events (nearest_past before joining) (letter_after before last joining at) (at + 1) (drop k types) in
    let cut : es ++ more (suc at) ≡ neighbour_events before last at (drop at types) = sym (ap (neighbour_events before last at) (there_suc types at joining first)) in
    let done : completed t masks after (nearest_past before joining) (letter_after before last joining at) (suc at) (items_of new) ≡ completed t masks after before last at xs =
    ap (completed t masks after (nearest_past before joining) (letter_after before last joining at) (suc at)) items
    ∙ subst (λ k. completed t masks after (nearest_past before k) (letter_after before last k at) (suc at) (text_past masks last k at xs) ≡ completed t masks after before last at xs) is (step_completes t masks after before last at x xs there j.earlier) in
    record {
      events = j.events ++ es;
      turned = record {
        view = turns.view ∙ ap (λ (v : View). record v { items = text_past masks last joining at xs }) j.turned.view ∙ ap (λ ys. record (view_of from) { items = ys }) (sym items);
        origins =
            turns.origins ∙ by_settings es from s j.turned.settings ∙ ap (λ os. origins_after (flag_requests_of from) from.level es os) j.turned.origins
            ∙ sym (origins_after_both (flag_requests_of from) from.level j.events es (origins_of from));
        settings = turns.settings ∙ j.turned.settings;
        ready = turns.ready;
      };
      earlier = after_next before last joining at j.earlier;
      rest = append_assoc j.events es (more (at + 1)) ∙ ap (λ k. j.events ++ (es ++ more k)) (add-one at) ∙ ap (λ ls. j.events ++ ls) cut ∙ j.rest;
      left = λ i le. ap (λ ys. slice_get ys i) items ∙ passed_other masks last joining at i xs j.earlier (omega (arith, le)) ∙ j.left i (omega (arith, le));
      completes = ap (λ k. completed t masks after (nearest_past before joining) (letter_after before last joining at) k (items_of new)) (add-one at) ∙ done ∙ j.completes;
      many = ap length items ∙ passed_length masks last joining at xs ∙ j.many;
      inside = inside_after before last joining at (length (items_of from)) (let n = length-map (all_glyphs from) item_of in omega (arith, n, lt)) j.inside;
    }

pub last_there : (t : Tables) (masks : List ℕ) (start after : JoiningType) (from : Sides) (at : ℕ) (before : JoiningType) (last : Option Letter) (s : Sides) → IsJoining t masks start after from at before last s → IsEarlier last (length (all_glyphs s))
last_there t masks start after from at before last s j =
    let same : length (items_of from) ≡ length (all_glyphs s) = sym j.many ∙ length-map (all_glyphs s) item_of in
    subst (IsEarlier last) same j.inside

pub all_joined_followed : (t : Tables) (masks pre post : List ℕ) (start after : JoiningType) (from s new : Sides) (at : ℕ) (before : JoiningType) (last : Option Letter) → length (all_glyphs from) ≤ at
    → start ≡ nearest (types_of_characters t pre) → after ≡ nearest (types_of_characters t post) → IsJoining t masks start after from at before last s → TurnsTo (with_last_formed masks last after (items_of s)) [] s new
    → IsFollowed (always (letters_with_forms t false masks pre post)) from new
all_joined_followed t masks pre post start after from s new at before last le b a j turns =
    let xs : List Item = items_of s in
    let types : List JoiningType = types_of_items t (items_of from) in
    let end : length xs ≤ at = let m = j.many in let n = length-map (all_glyphs from) item_of in omega (arith, m, n, le) in
    let none : drop at types ≡ [] = drop_all at types (let n = length-map (items_of from) (type_of_item t) in let m = length-map (all_glyphs from) item_of in omega (arith, n, m, le)) in
    let es : List Event = neighbour_events (nearest (types_of_characters t pre)) None 0 types in
    let all : j.events ≡ es = sym (append-nil j.events) ∙ ap (λ ts. j.events ++ neighbour_events before last at ts) (sym none) ∙ j.rest ∙ ap (λ k. neighbour_events k None 0 types) b in
    let left : drop at xs ≡ [] = drop_all at xs end in
    let whole : completed t masks after before last at xs ≡ with_last_formed masks last after xs =
    ap₂ (λ ys zs. with_last_formed masks last (nearest_or after (types_of_items t zs)) ys ++ joined_from t masks before after zs) (take_all at xs end) left ∙ append-nil (with_last_formed masks last after xs) in
    let made : with_last_formed masks last after xs ≡ items_with_forms t false masks pre post (items_of from) =
    sym whole ∙ j.completes ∙ ap₂ (λ k n. joined_from t masks k n (items_of from)) b a ∙ joined_forms t masks (types_of_characters t pre) (types_of_characters t post) (items_of from) in
    let v : View = record (view_of from) { items = items_with_forms t false masks pre post (items_of from) } in
    happened_followed es v (always (letters_with_forms t false masks pre post)) from new
    (turns.view ∙ ap (λ (w : View). record w { items = with_last_formed masks last after xs }) j.turned.view ∙ ap (λ ys. record (view_of from) { items = ys }) made)
    (turns.origins ∙ j.turned.origins ∙ ap (λ fs. origins_by fs from) all)
    (turns.settings ∙ j.turned.settings)
    turns.ready
    refl

-- ---- types

pub type_there : (t : Tables) (gs : List hb_glyph_info_t) (at : ℕ) (d : hb_glyph_info_t) → at < length gs → Some (type_of_item t (item_of (get_or gs at d))) ≡ slice_get (types_of_items t (strip gs)) at
type_there t [] at d lt = absurd (omega arith)
type_there t (g ∷ gs) zero d lt = refl
type_there t (g ∷ gs) (suc at) d lt = type_there t gs at d (omega (arith, lt))
