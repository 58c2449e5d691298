-- Letters of a text that is broken into two: their forms, and the flags between them.
use Rattle.std.proofs.Common.{ℕ, suc, ◌≡◌, ◌≤◌, ◌<◌, ◌+◌, ◌==◌, ◌||◌, ◌⊎◌, inl, inr, not, Bool, true, false, cond, if◌then◌else◌, eqb-true, List, [], ◌∷◌, ◌++◌, length, map, Option, None, Some, find, unwrap_or, append_assoc, arith, refl, sym, ap, subst, ◌∙◌}
use Rattle.buffer_glyphs.specs.declared.level.BufferClusterLevel.{BufferClusterLevel}
use Rattle.buffer_glyphs.specs.Events.{Event, Merge, MergeGrapheme, Replace, Circle, Delete, Move, Arrange, Sort, Reverse, Break, Concat, Tatweel, StrictBreak, Spread, Reset}
use Rattle.buffer_glyphs.specs.Origins.{Asks, Span}
use Rattle.buffer_glyphs.specs.Rewriting.{shifted_event}
use Rattle.buffer_parts.specs.Breaks.Lossless.{AreLossless}
use Rattle.buffer_parts.specs.Breaks.Bound.{bound_span, requested_span}
use Rattle.buffer_parts.specs.Breaks.Concat.{without_concats}
use Rattle.buffer_parts.specs.Breaks.Sides.{AreBounded}
use Rattle.script_categories.specs.declared.joining_types.hb_arabic_joining_type_t.TheVariants.{U, L, R, D, GroupAlaph, GroupDalathRish, T, X}
use Rattle.script_joining.specs.declared.flags.Letter.{Letter}
use Rattle.script_joining.specs.Types.{JoiningType}
use Rattle.script_joining.specs.Forms.{alaph_form, joined_form, joins_before, joins_next, letter_form}
use Rattle.shape_laws.specs.Breaks.Joining.{ShowsBefore, has_letter, nearest_after}
use Rattle.script_joining.specs.Joining.{depends_on, events_after, events_at, form_events, forms, is_letter, letter_after, nearest, nearest_past, neighbour_events, neighbours_events}

-- ---- the walk

-- the last letter after some characters
abbrev pub letter_before : JoiningType → Option Letter → ℕ → List JoiningType → Option Letter
letter_before before last at [] = last
letter_before before last at (t ∷ ts) = letter_before (nearest_past before t) (letter_after before last t at) (at + 1) ts

pub events_in_turn : (before : JoiningType) (last : Option Letter) (at : ℕ) (ts us : List JoiningType)
    → neighbour_events before last at (ts ++ us) ≡ neighbour_events before last at ts ++ neighbour_events (nearest_after before ts) (letter_before before last at ts) (at + length ts) us
events_in_turn before last at [] us = let e : at ≡ at + 0 = omega arith in ap (λ (i : ℕ). neighbour_events before last i us) e
events_in_turn before last at (t ∷ ts) us =
    let here = events_at before last t at in
    let next = nearest_past before t in
    let p = letter_after before last t at in
    let e : at + 1 + length ts ≡ at + suc (length ts) = omega arith in
    ap (λ es. here ++ es) (events_in_turn next p (at + 1) ts us)
    ∙ ap (λ (i : ℕ). here ++ (neighbour_events next p (at + 1) ts ++ neighbour_events (nearest_after next ts) (letter_before next p (at + 1) ts) i us)) e
    ∙ sym (append_assoc here (neighbour_events next p (at + 1) ts) (neighbour_events (nearest_after next ts) (letter_before next p (at + 1) ts) (at + suc (length ts)) us))

-- the last letter, if there is one, is before an index and has a type
abbrev pub IsLast : JoiningType → ℕ → Option Letter → Type 0
IsLast before at None = Unit {0}
IsLast before at (Some p) = (p.at < at) × (p.joining ≡ before)

last_stays : (before : JoiningType) (at : ℕ) (last : Option Letter) → IsLast before at last → IsLast before (at + 1) last
last_stays before at None h = tt
last_stays before at (Some p) h = let low = h.0 in (omega (arith, low), h.1)

next_last : (before : JoiningType) (last : Option Letter) (at : ℕ) (t : JoiningType) → IsLast before at last → IsLast (nearest_past before t) (at + 1) (letter_after before last t at)
next_last before last at t h = elim (is_letter t) as (λ b. IsLast (if b then t else before) (at + 1) (if b then Some (record { at = at; joining = t; before = before }) else last)) [
  | true ↦ (omega arith, refl)
  | false ↦ last_stays before at last h
]

pub last_is : (before : JoiningType) (last : Option Letter) (at : ℕ) (ts : List JoiningType) → IsLast before at last → IsLast (nearest_after before ts) (at + length ts) (letter_before before last at ts)
last_is before last at [] h = let e : at ≡ at + 0 = omega arith in subst (λ (n : ℕ). IsLast before n last) e h
last_is before last at (t ∷ ts) h =
    let e : at + 1 + length ts ≡ at + suc (length ts) = omega arith in
    subst (λ (n : ℕ). IsLast (nearest_after (nearest_past before t) ts) n (letter_before (nearest_past before t) (letter_after before last t at) (at + 1) ts)) e (last_is (nearest_past before t) (letter_after before last t at) (at + 1) ts (next_last before last at t h))

-- ---- bounds

abbrev IsWithin : ℕ → Option Letter → Type 0
IsWithin n None = Unit {0}
IsWithin n (Some p) = p.at ≤ n

form_bounded : (before : JoiningType) (from : ℕ) (t : JoiningType) (at n : ℕ) (es : List Event) → from ≤ n → at + 1 ≤ n → AreBounded (without_concats es) n → AreBounded (without_concats (form_events before from t at ++ es)) n
form_bounded before from t at n es low fits h = elim (depends_on before t) as (λ b. AreBounded (without_concats ((if b then StrictBreak from (at + 1) ∷ [] else []) ++ es)) n) [ true ↦ ((low, fits), h) | false ↦ h ]

neighbours_bounded : (p : Letter) (t : JoiningType) (at n : ℕ) (es : List Event) → p.at ≤ n → at + 1 ≤ n → AreBounded (without_concats es) n → AreBounded (without_concats (neighbours_events p t at ++ es)) n
neighbours_bounded p t at n es low fits h =
    elim (letter_form p.before p.joining t == letter_form p.before p.joining U) as (λ b. AreBounded (without_concats ((if b then Concat p.at (at + 1) ∷ form_events p.joining p.at t at else Tatweel p.at (at + 1) ∷ []) ++ es)) n)
    [ true ↦ form_bounded p.joining p.at t at n es low fits h | false ↦ ((low, fits), h) ]

after_bounded : (before : JoiningType) (last : Option Letter) (t : JoiningType) (at n : ℕ) (es : List Event) → IsWithin n last → at + 1 ≤ n → AreBounded (without_concats es) n → AreBounded (without_concats (events_after before last t at ++ es)) n
after_bounded before None t at n es low fits h = form_bounded before 0 t at n es (omega arith) fits h
after_bounded before (Some p) t at n es low fits h = neighbours_bounded p t at n es low fits h

pub letters_bounded : (before : JoiningType) (last : Option Letter) (at n : ℕ) (ts : List JoiningType) → IsWithin n last → at + length ts ≤ n → AreBounded (without_concats (neighbour_events before last at ts)) n
letters_bounded before last at n [] low fits = tt
letters_bounded before last at n (t ∷ ts) low fits =
    elim (is_letter t) as (λ b. AreBounded (without_concats ((if b then events_after before last t at else []) ++ neighbour_events (if b then t else before) (if b then Some (record { at = at; joining = t; before = before }) else last) (at + 1) ts)) n) [
      | true ↦ after_bounded before last t at n (neighbour_events t (Some (record { at = at; joining = t; before = before })) (at + 1) ts) low (omega (arith, fits)) (letters_bounded t (Some (record { at = at; joining = t; before = before })) (at + 1) n ts (omega (arith, fits)) (omega (arith, fits)))
      | false ↦ letters_bounded before last (at + 1) n ts low (omega (arith, fits))
    ]

-- ---- letters with the same forms

-- two letters, the first at an index that is m greater, have the same form before each other letter
pub record AreAlike (m : ℕ) (p q : Letter) : Type 0 where
  pub at : p.at ≡ m + q.at
  pub joining : p.joining ≡ q.joining
  pub form : (x : JoiningType) → letter_form p.before p.joining x ≡ letter_form q.before q.joining x

form_shifted : (m : ℕ) (before : JoiningType) (from : ℕ) (t : JoiningType) (at : ℕ) → form_events before (m + from) t (m + at) ≡ map (shifted_event m) (form_events before from t at)
form_shifted m before from t at =
    let e : m + at + 1 ≡ m + (at + 1) = omega arith in
    elim (depends_on before t) as (λ b. (if b then StrictBreak (m + from) (m + at + 1) ∷ [] else []) ≡ map (shifted_event m) (if b then StrictBreak from (at + 1) ∷ [] else [])) [ true ↦ ap (λ (i : ℕ). StrictBreak (m + from) i ∷ []) e | false ↦ refl ]

neighbours_shifted : (m : ℕ) (p q : Letter) (t : JoiningType) (at : ℕ) → AreAlike m p q → neighbours_events p t (m + at) ≡ map (shifted_event m) (neighbours_events q t at)
neighbours_shifted m p q t at like =
    let e : m + at + 1 ≡ m + (at + 1) = omega arith in
    let flag : Bool → ℕ → JoiningType → List Event = λ b i k. if b then Concat i (m + at + 1) ∷ form_events k i t (m + at) else Tatweel i (m + at + 1) ∷ [] in
    ap (λ (n : ℕ). flag (n == letter_form p.before p.joining U) p.at p.joining) (like.form t)
    ∙ ap (λ (n : ℕ). flag (letter_form q.before q.joining t == n) p.at p.joining) (like.form U)
    ∙ ap (λ (i : ℕ). flag (letter_form q.before q.joining t == letter_form q.before q.joining U) i p.joining) like.at
    ∙ ap (λ (k : JoiningType). flag (letter_form q.before q.joining t == letter_form q.before q.joining U) (m + q.at) k) like.joining
    ∙ elim (letter_form q.before q.joining t == letter_form q.before q.joining U) as (λ b. (if b then Concat (m + q.at) (m + at + 1) ∷ form_events q.joining (m + q.at) t (m + at) else Tatweel (m + q.at) (m + at + 1) ∷ []) ≡ map (shifted_event m) (if b then Concat q.at (at + 1) ∷ form_events q.joining q.at t at else Tatweel q.at (at + 1) ∷ [])) [
      | true ↦ ap (λ (i : ℕ). Concat (m + q.at) i ∷ form_events q.joining (m + q.at) t (m + at)) e ∙ ap (λ es. Concat (m + q.at) (m + (at + 1)) ∷ es) (form_shifted m q.joining q.at t at)
      | false ↦ ap (λ (i : ℕ). Tatweel (m + q.at) i ∷ []) e
    ]

pub shifted_both : (m : ℕ) (es fs : List Event) → map (shifted_event m) (es ++ fs) ≡ map (shifted_event m) es ++ map (shifted_event m) fs
shifted_both m [] fs = refl
shifted_both m (e ∷ es) fs = ap (λ xs. shifted_event m e ∷ xs) (shifted_both m es fs)

pub letters_shifted : (m : ℕ) (before : JoiningType) (p q : Letter) (at : ℕ) (us : List JoiningType) → AreAlike m p q → neighbour_events before (Some p) (m + at) us ≡ map (shifted_event m) (neighbour_events before (Some q) at us)
letters_shifted m before p q at [] like = refl
letters_shifted m before p q at (t ∷ us) like =
    let e : m + at + 1 ≡ m + (at + 1) = omega arith in
    elim (is_letter t) as (λ b. (if b then neighbours_events p t (m + at) else []) ++ neighbour_events (if b then t else before) (if b then Some (record { at = m + at; joining = t; before = before }) else Some p) (m + at + 1) us
    ≡ map (shifted_event m) ((if b then neighbours_events q t at else []) ++ neighbour_events (if b then t else before) (if b then Some (record { at = at; joining = t; before = before }) else Some q) (at + 1) us)) [
      | true ↦
          let new : Letter = record { at = m + at; joining = t; before = before } in
          let old : Letter = record { at = at; joining = t; before = before } in
          ap (λ (i : ℕ). neighbours_events p t (m + at) ++ neighbour_events t (Some new) i us) e
          ∙ ap (λ es. es ++ neighbour_events t (Some new) (m + (at + 1)) us) (neighbours_shifted m p q t at like)
          ∙ ap (λ es. map (shifted_event m) (neighbours_events q t at) ++ es) (letters_shifted m t new old (at + 1) us (record { at = refl; joining = refl; form = λ x. refl }))
          ∙ sym (shifted_both m (neighbours_events q t at) (neighbour_events t (Some old) (at + 1) us))
      | false ↦ ap (λ (i : ℕ). neighbour_events before (Some p) i us) e ∙ letters_shifted m before p q (at + 1) us like
    ]

-- ---- a letter whose form does not depend on the one before it

independent_alaph : (b : JoiningType) (x : Bool) → not (alaph_form b false == alaph_form U false) ≡ false → alaph_form b x ≡ alaph_form U x
independent_alaph U x e = refl
independent_alaph L x e = cc
independent_alaph R x e = cc
independent_alaph D x e = cc
independent_alaph GroupAlaph x e = cc
independent_alaph GroupDalathRish x e = cc
independent_alaph T true e = refl
independent_alaph T false e = refl
independent_alaph X true e = refl
independent_alaph X false e = refl

not_joined : (b : JoiningType) → not (joined_form (joins_next b) false == joined_form false false) ≡ false → joins_next b ≡ false
not_joined U e = refl
not_joined L e = cc
not_joined R e = refl
not_joined D e = cc
not_joined GroupAlaph e = refl
not_joined GroupDalathRish e = refl
not_joined T e = refl
not_joined X e = refl

-- a letter whose form doesn't depend on the letter before it has the form that it has after none
pub independent : (b t x : JoiningType) → depends_on b t ≡ false → letter_form b t x ≡ letter_form U t x
independent b U x e = refl
independent b L x e = refl
independent b R x e = ap (λ k. joined_form k false) (not_joined b e)
independent b D x e = ap (λ k. joined_form k (joins_before x)) (not_joined b e)
independent b GroupAlaph x e = independent_alaph b (joins_before x) e
independent b GroupDalathRish x e = ap (λ k. joined_form k false) (not_joined b e)
independent b T x e = refl
independent b X x e = refl

-- no form depends on a letter that is none
pub none_depends : (t : JoiningType) → depends_on U t ≡ false
none_depends U = refl
none_depends L = refl
none_depends R = refl
none_depends D = refl
none_depends GroupAlaph = refl
none_depends GroupDalathRish = refl
none_depends T = refl
none_depends X = refl

-- ---- across

-- some events have none but for UNSAFE_TO_CONCAT before one that binds a range across an index
pub record IsAcross (asks : Asks) (level : BufferClusterLevel) (m end : ℕ) (es : List Event) : Type 0 where
  pub event : Event
  pub rest : List Event
  pub span : Span
  pub is : without_concats es ≡ event ∷ rest
  pub binds : bound_span asks level event ≡ Some span
  pub low : span.from < m
  pub high : m < span.to
  pub fits : span.to ≤ end

-- the first letter of a list has the same form after two letters
abbrev pub IsSameFirst : JoiningType → JoiningType → List JoiningType → Type 0
IsSameFirst b d [] = Unit {0}
IsSameFirst b d (t ∷ us) = (is_letter t ≡ true → (x : JoiningType) → letter_form b t x ≡ letter_form d t x) × (is_letter t ≡ false → IsSameFirst b d us)

-- a last letter has before the first letter of a list the form that it has before none
abbrev pub IsSameLast : Option Letter → List JoiningType → Type 0
IsSameLast None us = Unit {0}
IsSameLast (Some p) us = letter_form p.before p.joining (nearest us) ≡ letter_form p.before p.joining U

-- the letters of a later text are flagged as alone, or with one before
pub record AreApart (m at : ℕ) (b d : JoiningType) (last : Option Letter) (us : List JoiningType) : Type 0 where
  pub events : without_concats (neighbour_events b last (m + at) us) ≡ map (shifted_event m) (without_concats (neighbour_events d None at us))
  pub first : IsSameFirst b d us
  pub kept : IsSameLast last us

pub without_shifted : (m : ℕ) (es : List Event) → without_concats (map (shifted_event m) es) ≡ map (shifted_event m) (without_concats es)
without_shifted m [] = refl
without_shifted m (Concat from to ∷ es) = without_shifted m es
without_shifted m (Merge how from to ∷ es) = ap (λ xs. shifted_event m (Merge how from to) ∷ xs) (without_shifted m es)
without_shifted m (MergeGrapheme from to ∷ es) = ap (λ xs. shifted_event m (MergeGrapheme from to) ∷ xs) (without_shifted m es)
without_shifted m (Replace at taken given ∷ es) = ap (λ xs. shifted_event m (Replace at taken given) ∷ xs) (without_shifted m es)
without_shifted m (Circle after beside like ∷ es) = ap (λ xs. shifted_event m (Circle after beside like) ∷ xs) (without_shifted m es)
without_shifted m (Delete at ∷ es) = ap (λ xs. shifted_event m (Delete at) ∷ xs) (without_shifted m es)
without_shifted m (Move how from order ∷ es) = ap (λ xs. shifted_event m (Move how from order) ∷ xs) (without_shifted m es)
without_shifted m (Arrange from order ∷ es) = ap (λ xs. shifted_event m (Arrange from order) ∷ xs) (without_shifted m es)
without_shifted m (Sort from order ∷ es) = ap (λ xs. shifted_event m (Sort from order) ∷ xs) (without_shifted m es)
without_shifted m (Reverse ∷ es) = ap (λ xs. shifted_event m Reverse ∷ xs) (without_shifted m es)
without_shifted m (Break from to ∷ es) = ap (λ xs. shifted_event m (Break from to) ∷ xs) (without_shifted m es)
without_shifted m (Tatweel from to ∷ es) = ap (λ xs. shifted_event m (Tatweel from to) ∷ xs) (without_shifted m es)
without_shifted m (StrictBreak from to ∷ es) = ap (λ xs. shifted_event m (StrictBreak from to) ∷ xs) (without_shifted m es)
without_shifted m (Spread ∷ es) = ap (λ xs. shifted_event m Spread ∷ xs) (without_shifted m es)
without_shifted m (Reset ∷ es) = ap (λ xs. shifted_event m Reset ∷ xs) (without_shifted m es)

-- ---- the first letter of the later text

letter_first : (t : JoiningType) (us : List JoiningType) → is_letter t ≡ true → nearest (t ∷ us) ≡ t
letter_first t us e = ap (λ b. unwrap_or (cond b (Some t) (find is_letter us)) U) e

other_first : (t : JoiningType) (us : List JoiningType) → is_letter t ≡ false → nearest (t ∷ us) ≡ nearest us
other_first t us e = ap (λ b. unwrap_or (cond b (Some t) (find is_letter us)) U) e

shown_depends : (b d t : JoiningType) → ShowsBefore b d → depends_on b t ≡ false → depends_on d t ≡ false
shown_depends b d t (inl e) h = ap (λ k. depends_on k t) e ∙ h
shown_depends b d t (inr e) h = ap (λ k. depends_on k t) e ∙ none_depends t

shown_form : (b d t x : JoiningType) → ShowsBefore b d → depends_on b t ≡ false → letter_form b t x ≡ letter_form d t x
shown_form b d t x (inl e) h = ap (λ k. letter_form k t x) (sym e)
shown_form b d t x (inr e) h = independent b t x h ∙ ap (λ k. letter_form k t x) (sym e)

-- events from the first letter of the later text on, whose own event is for its form alone
form_divides : (asks : Asks) (level : BufferClusterLevel) (m at from : ℕ) (b d t : JoiningType) (us : List JoiningType) → asks.breaks ≡ true → from < m → ShowsBefore b d
    → IsAcross asks level m (m + at + suc (length us)) (form_events b from t (m + at) ++ neighbour_events t (Some (record { at = m + at; joining = t; before = b })) (m + at + 1) us)
    ⊎ ((without_concats (form_events b from t (m + at) ++ neighbour_events t (Some (record { at = m + at; joining = t; before = b })) (m + at + 1) us)
    ≡ map (shifted_event m) (without_concats (form_events d 0 t at ++ neighbour_events t (Some (record { at = at; joining = t; before = d })) (at + 1) us)))
    × ((x : JoiningType) → letter_form b t x ≡ letter_form d t x))
form_divides asks level m at from b d t us asked low shows = by_test (depends_on b t) refl
  where
    new : Letter
    new = record { at = m + at; joining = t; before = b }

    old : Letter
    old = record { at = at; joining = t; before = d }

    rest : List Event
    rest = neighbour_events t (Some new) (m + at + 1) us

    alone : List Event
    alone = neighbour_events t (Some old) (at + 1) us

    by_test : (k : Bool) → depends_on b t ≡ k
        → IsAcross asks level m (m + at + suc (length us)) ((if k then StrictBreak from (m + at + 1) ∷ [] else []) ++ rest)
        ⊎ ((without_concats ((if k then StrictBreak from (m + at + 1) ∷ [] else []) ++ rest) ≡ map (shifted_event m) (without_concats (form_events d 0 t at ++ alone))) × ((x : JoiningType) → letter_form b t x ≡ letter_form d t x))
    by_test true e = inl (record {
      event = StrictBreak from (m + at + 1);
      rest = without_concats rest;
      span = record { from = from; to = m + at + 1 };
      is = refl;
      binds = ap (λ (k : Bool). requested_span k from (m + at + 1)) asked;
      low = low;
      high = omega arith;
      fits = omega arith;
    })
    by_test false e =
        let index : m + at + 1 ≡ m + (at + 1) = omega arith in
        let same = λ (x : JoiningType). shown_form b d t x shows e in
        inr (
          ap (λ (i : ℕ). without_concats (neighbour_events t (Some new) i us)) index
              ∙ ap without_concats (letters_shifted m t new old (at + 1) us (record { at = refl; joining = refl; form = same }))
              ∙ without_shifted m alone
              ∙ ap (λ k. map (shifted_event m) (without_concats ((if k then StrictBreak 0 (at + 1) ∷ [] else []) ++ alone))) (sym (shown_depends b d t shows e)),
          same,
        )

-- the flags of the letters of a later text are those that it has alone, or one is across
pub letters_divide : (asks : Asks) (level : BufferClusterLevel) (m at : ℕ) (b d : JoiningType) (last : Option Letter) (us : List JoiningType) → asks.breaks ≡ true → 0 < m → IsLast b m last → ShowsBefore b d
    → IsAcross asks level m (m + at + length us) (neighbour_events b last (m + at) us) ⊎ AreApart m at b d last us
letters_divide asks level m at b d last [] asked some low shows = inr (record { events = refl; first = tt; kept = none_last last })
  where
    none_last : (l : Option Letter) → IsSameLast l []
    none_last None = tt
    none_last (Some p) = refl
letters_divide asks level m at b d last (t ∷ us) asked some low shows = by_letter (is_letter t) refl (letters_divide asks level m (at + 1) b d last us asked some low shows)
  where
    new : Letter
    new = record { at = m + at; joining = t; before = b }

    index : m + at + 1 ≡ m + (at + 1)
    index = omega arith

    end : m + (at + 1) + length us ≡ m + at + suc (length us)
    end = omega arith

    first_letter : is_letter t ≡ true → (last1 : Option Letter) → IsLast b m last1
        → IsAcross asks level m (m + at + suc (length us)) (events_after b last1 t (m + at) ++ neighbour_events t (Some new) (m + at + 1) us)
        ⊎ ((without_concats (events_after b last1 t (m + at) ++ neighbour_events t (Some new) (m + at + 1) us) ≡ map (shifted_event m) (without_concats (events_after d None t at ++ neighbour_events t (Some (record { at = at; joining = t; before = d })) (at + 1) us)))
        × ((x : JoiningType) → letter_form b t x ≡ letter_form d t x) × IsSameLast last1 (t ∷ us))
    first_letter e None h = elim (form_divides asks level m at 0 b d t us asked some shows) [ inl across ↦ inl across | inr apart ↦ inr (apart.0, apart.1, tt) ]
    first_letter e (Some p) h = by_form (letter_form p.before p.joining t == letter_form p.before p.joining U) refl
      where
        rest : List Event
        rest = neighbour_events t (Some new) (m + at + 1) us

        alone : List Event
        alone = events_after d None t at ++ neighbour_events t (Some (record { at = at; joining = t; before = d })) (at + 1) us

        by_form : (k : Bool) → (letter_form p.before p.joining t == letter_form p.before p.joining U) ≡ k
            → IsAcross asks level m (m + at + suc (length us)) ((if k then Concat p.at (m + at + 1) ∷ form_events p.joining p.at t (m + at) else Tatweel p.at (m + at + 1) ∷ []) ++ rest)
            ⊎ ((without_concats ((if k then Concat p.at (m + at + 1) ∷ form_events p.joining p.at t (m + at) else Tatweel p.at (m + at + 1) ∷ []) ++ rest) ≡ map (shifted_event m) (without_concats alone))
            × ((x : JoiningType) → letter_form b t x ≡ letter_form d t x) × IsSameLast (Some p) (t ∷ us))
        by_form false f = inl (record {
          event = Tatweel p.at (m + at + 1);
          rest = without_concats rest;
          span = record { from = p.at; to = m + at + 1 };
          is = refl;
          binds = refl;
          low = h.0;
          high = omega arith;
          fits = omega arith;
        })
        by_form true f =
            elim (form_divides asks level m at p.at b d t us asked h.0 shows) [
              | inl across ↦ inl (subst (λ (k : JoiningType). IsAcross asks level m (m + at + suc (length us)) (Concat p.at (m + at + 1) ∷ (form_events k p.at t (m + at) ++ rest))) (sym h.1)
                  (record { event = across.event; rest = across.rest; span = across.span; is = across.is; binds = across.binds; low = across.low; high = across.high; fits = across.fits }))
              | inr apart ↦ inr (
                ap (λ (k : JoiningType). without_concats (form_events k p.at t (m + at) ++ rest)) h.1 ∙ apart.0,
                apart.1,
                ap (λ k. letter_form p.before p.joining k) (letter_first t us e) ∙ eqb-true (letter_form p.before p.joining t) (letter_form p.before p.joining U) f,
              )
            ]

    by_letter : (k : Bool) → is_letter t ≡ k → IsAcross asks level m (m + (at + 1) + length us) (neighbour_events b last (m + (at + 1)) us) ⊎ AreApart m (at + 1) b d last us
        → IsAcross asks level m (m + at + suc (length us)) (neighbour_events b last (m + at) (t ∷ us)) ⊎ AreApart m at b d last (t ∷ us)
    by_letter true e again =
        let here : neighbour_events b last (m + at) (t ∷ us) ≡ events_after b last t (m + at) ++ neighbour_events t (Some new) (m + at + 1) us =
        ap (λ k. (if k then events_after b last t (m + at) else []) ++ neighbour_events (if k then t else b) (if k then Some new else last) (m + at + 1) us) e in
        let there : neighbour_events d None at (t ∷ us) ≡ events_after d None t at ++ neighbour_events t (Some (record { at = at; joining = t; before = d })) (at + 1) us =
        ap (λ k. (if k then events_after d None t at else []) ++ neighbour_events (if k then t else d) (if k then Some (record { at = at; joining = t; before = d }) else None) (at + 1) us) e in
        elim (first_letter e last low) [
          | inl across ↦ inl (subst (IsAcross asks level m (m + at + suc (length us))) (sym here) across)
          | inr apart ↦ inr (record {
            events = ap without_concats here ∙ apart.0 ∙ ap (λ es. map (shifted_event m) (without_concats es)) (sym there);
            first = ((λ g. apart.1), (λ g. absurd (let no : true ≡ false = sym e ∙ g in cc)));
            kept = apart.2;
          })
        ]
    by_letter false e again =
        let here : neighbour_events b last (m + at) (t ∷ us) ≡ neighbour_events b last (m + (at + 1)) us =
        ap (λ k. (if k then events_after b last t (m + at) else []) ++ neighbour_events (if k then t else b) (if k then Some new else last) (m + at + 1) us) e ∙ ap (λ (i : ℕ). neighbour_events b last i us) index in
        let there : neighbour_events d None at (t ∷ us) ≡ neighbour_events d None (at + 1) us =
        ap (λ k. (if k then events_after d None t at else []) ++ neighbour_events (if k then t else d) (if k then Some (record { at = at; joining = t; before = d }) else None) (at + 1) us) e in
        elim again [
          | inl across ↦ inl (subst (λ es. IsAcross asks level m (m + at + suc (length us)) es) (sym here) (subst (λ (n : ℕ). IsAcross asks level m n (neighbour_events b last (m + (at + 1)) us)) end across))
          | inr apart ↦ inr (record {
            events = ap without_concats here ∙ apart.events ∙ ap (λ es. map (shifted_event m) (without_concats es)) (sym there);
            first = ((λ g. absurd (let no : false ≡ true = sym e ∙ g in cc)), (λ g. apart.first));
            kept = other_last last apart.kept;
          })
        ]
      where
        other_last : (l : Option Letter) → IsSameLast l us → IsSameLast l (t ∷ us)
        other_last None h = tt
        other_last (Some p) h = ap (λ k. letter_form p.before p.joining k) (other_first t us e) ∙ h

-- ---- forms

-- the characters before others, nearest first
abbrev pub characters_before : List JoiningType → List JoiningType → List JoiningType
characters_before before [] = before
characters_before before (t ∷ ts) = characters_before (t ∷ before) ts

pub forms_both : (before ts us after : List JoiningType) → forms before (ts ++ us) after ≡ forms before ts (us ++ after) ++ forms (characters_before before ts) us after
forms_both before [] us after = refl
forms_both before (t ∷ ts) us after =
    ap (λ zs. letter_form (nearest before) t (nearest zs) ∷ forms (t ∷ before) (ts ++ us) after) (append_assoc ts us after)
    ∙ ap (λ fs. letter_form (nearest before) t (nearest (ts ++ (us ++ after))) ∷ fs) (forms_both (t ∷ before) ts us after)

pub passed_nearest : (before ts : List JoiningType) → nearest (characters_before before ts) ≡ nearest_after (nearest before) ts
passed_nearest before [] = refl
passed_nearest before (t ∷ ts) = passed_nearest (t ∷ before) ts ∙ ap (λ b. nearest_after b ts) (one (is_letter t) refl)
  where
    one : (k : Bool) → is_letter t ≡ k → nearest (t ∷ before) ≡ nearest_past (nearest before) t
    one true e = letter_first t before e ∙ ap (λ k. if k then t else nearest before) (sym e)
    one false e = other_first t before e ∙ ap (λ k. if k then t else nearest before) (sym e)

no_form : (b t x y : JoiningType) → is_letter t ≡ false → letter_form b t x ≡ letter_form b t y
no_form b U x y e = cc
no_form b L x y e = cc
no_form b R x y e = cc
no_form b D x y e = cc
no_form b GroupAlaph x y e = cc
no_form b GroupDalathRish x y e = cc
no_form b T x y e = refl
no_form b X x y e = cc

no_form_after : (b d t x : JoiningType) → is_letter t ≡ false → letter_form b t x ≡ letter_form d t x
no_form_after b d U x e = cc
no_form_after b d L x e = cc
no_form_after b d R x e = cc
no_form_after b d D x e = cc
no_form_after b d GroupAlaph x e = cc
no_form_after b d GroupDalathRish x e = cc
no_form_after b d T x e = refl
no_form_after b d X x e = cc

-- forms depend on the nearest letter before them alone
forms_nearest : (before other ts after : List JoiningType) → nearest before ≡ nearest other → forms before ts after ≡ forms other ts after
forms_nearest before other [] after e = refl
forms_nearest before other (t ∷ ts) after e =
    ap (λ b. letter_form b t (nearest (ts ++ after)) ∷ forms (t ∷ before) ts after) e
    ∙ ap (λ fs. letter_form (nearest other) t (nearest (ts ++ after)) ∷ fs) (forms_nearest (t ∷ before) (t ∷ other) ts after (one (is_letter t) refl))
  where
    one : (k : Bool) → is_letter t ≡ k → nearest (t ∷ before) ≡ nearest (t ∷ other)
    one true f = letter_first t before f ∙ sym (letter_first t other f)
    one false f = other_first t before f ∙ e ∙ sym (other_first t other f)

-- forms after two letters, where the first letter has one form
pub forms_first : (before other ts after : List JoiningType) → IsSameFirst (nearest before) (nearest other) ts → forms before ts after ≡ forms other ts after
forms_first before other [] after same = refl
forms_first before other (t ∷ ts) after same = by_letter (is_letter t) refl (λ e. forms_first (t ∷ before) (t ∷ other) ts after e)
  where
    by_letter : (k : Bool) → is_letter t ≡ k → (IsSameFirst (nearest (t ∷ before)) (nearest (t ∷ other)) ts → forms (t ∷ before) ts after ≡ forms (t ∷ other) ts after)
        → letter_form (nearest before) t (nearest (ts ++ after)) ∷ forms (t ∷ before) ts after ≡ letter_form (nearest other) t (nearest (ts ++ after)) ∷ forms (t ∷ other) ts after
    by_letter true e next =
        ap (λ f. f ∷ forms (t ∷ before) ts after) (same.0 e (nearest (ts ++ after)))
        ∙ ap (λ fs. letter_form (nearest other) t (nearest (ts ++ after)) ∷ fs) (forms_nearest (t ∷ before) (t ∷ other) ts after (letter_first t before e ∙ sym (letter_first t other e)))
    by_letter false e next =
        ap (λ f. f ∷ forms (t ∷ before) ts after) (no_form_after (nearest before) (nearest other) t (nearest (ts ++ after)) e)
        ∙ ap (λ fs. letter_form (nearest other) t (nearest (ts ++ after)) ∷ fs)
        (next (subst (λ b. IsSameFirst b (nearest (t ∷ other)) ts) (sym (other_first t before e)) (subst (λ b. IsSameFirst (nearest before) b ts) (sym (other_first t other e)) (same.1 e))))

-- the last letter of some has one form before two letters
abbrev pub IsEndSame : Option Letter → JoiningType → JoiningType → Type 0
IsEndSame None x y = Unit {0}
IsEndSame (Some p) x y = letter_form p.before p.joining x ≡ letter_form p.before p.joining y

pub nearest_none : (ts after : List JoiningType) → has_letter ts ≡ false → nearest (ts ++ after) ≡ nearest after
nearest_none [] after e = refl
nearest_none (t ∷ ts) after e = by_test (is_letter t) refl e (nearest_none ts after)
  where
    by_test : (k : Bool) → is_letter t ≡ k → (k || has_letter ts) ≡ false → (has_letter ts ≡ false → nearest (ts ++ after) ≡ nearest after) → nearest (t ∷ (ts ++ after)) ≡ nearest after
    by_test true f g next = cc
    by_test false f g next = other_first t (ts ++ after) f ∙ next g

pub nearest_some : (ts after other : List JoiningType) → has_letter ts ≡ true → nearest (ts ++ after) ≡ nearest (ts ++ other)
nearest_some [] after other e = cc
nearest_some (t ∷ ts) after other e = by_test (is_letter t) refl e (nearest_some ts after other)
  where
    by_test : (k : Bool) → is_letter t ≡ k → (k || has_letter ts) ≡ true → (has_letter ts ≡ true → nearest (ts ++ after) ≡ nearest (ts ++ other)) → nearest (t ∷ (ts ++ after)) ≡ nearest (t ∷ (ts ++ other))
    by_test true f g next = letter_first t (ts ++ after) f ∙ sym (letter_first t (ts ++ other) f)
    by_test false f g next = other_first t (ts ++ after) f ∙ next g ∙ sym (other_first t (ts ++ other) f)

last_none : (b : JoiningType) (last : Option Letter) (at : ℕ) (ts : List JoiningType) → has_letter ts ≡ false → letter_before b last at ts ≡ last
last_none b last at [] e = refl
last_none b last at (t ∷ ts) e = by_test (is_letter t) refl e (last_none b last (at + 1) ts)
  where
    by_test : (k : Bool) → is_letter t ≡ k → (k || has_letter ts) ≡ false → (has_letter ts ≡ false → letter_before b last (at + 1) ts ≡ last) → letter_before (nearest_past b t) (letter_after b last t at) (at + 1) ts ≡ last
    by_test true f g next = cc
    by_test false f g next = ap (λ k. letter_before (if k then t else b) (if k then Some (record { at = at; joining = t; before = b }) else last) (at + 1) ts) f ∙ next g

-- forms before two letters, where the last letter has one form
pub forms_last : (before ts after other : List JoiningType) (last : Option Letter) (at : ℕ) → IsEndSame (letter_before (nearest before) last at ts) (nearest after) (nearest other) → forms before ts after ≡ forms before ts other
forms_last before [] after other last at same = refl
forms_last before (t ∷ ts) after other last at same =
    ap (λ f. f ∷ forms (t ∷ before) ts after) (by_rest (has_letter ts) refl)
    ∙ ap (λ fs. letter_form (nearest before) t (nearest (ts ++ other)) ∷ fs)
    (forms_last (t ∷ before) ts after other (letter_after (nearest before) last t at) (at + 1) (subst (λ b. IsEndSame (letter_before b (letter_after (nearest before) last t at) (at + 1) ts) (nearest after) (nearest other)) (sym (next_nearest (is_letter t) refl)) same))
  where
    next_nearest : (k : Bool) → is_letter t ≡ k → nearest (t ∷ before) ≡ nearest_past (nearest before) t
    next_nearest true e = letter_first t before e ∙ ap (λ k. if k then t else nearest before) (sym e)
    next_nearest false e = other_first t before e ∙ ap (λ k. if k then t else nearest before) (sym e)

    by_letter : (k : Bool) → is_letter t ≡ k → has_letter ts ≡ false → letter_form (nearest before) t (nearest after) ≡ letter_form (nearest before) t (nearest other)
    by_letter false e none = no_form (nearest before) t (nearest after) (nearest other) e
    by_letter true e none =
        let there : letter_before (nearest_past (nearest before) t) (letter_after (nearest before) last t at) (at + 1) ts ≡ Some (record { at = at; joining = t; before = nearest before }) =
        last_none (nearest_past (nearest before) t) (letter_after (nearest before) last t at) (at + 1) ts none ∙ ap (λ k. if k then Some (record { at = at; joining = t; before = nearest before }) else last) e in
        subst (λ p. IsEndSame p (nearest after) (nearest other)) there same

    by_rest : (k : Bool) → has_letter ts ≡ k → letter_form (nearest before) t (nearest (ts ++ after)) ≡ letter_form (nearest before) t (nearest (ts ++ other))
    by_rest true e = ap (letter_form (nearest before) t) (nearest_some ts after other e)
    by_rest false e = ap (letter_form (nearest before) t) (nearest_none ts after e) ∙ by_letter (is_letter t) refl e ∙ ap (letter_form (nearest before) t) (sym (nearest_none ts other e))

-- ---- flags

form_lossless : (before : JoiningType) (from : ℕ) (t : JoiningType) (at n : ℕ) (es : List Event) → AreLossless es n → AreLossless (form_events before from t at ++ es) n
form_lossless before from t at n es h = elim (depends_on before t) as (λ b. AreLossless ((if b then StrictBreak from (at + 1) ∷ [] else []) ++ es) n) [ true ↦ (tt, h) | false ↦ h ]

after_lossless : (before : JoiningType) (last : Option Letter) (t : JoiningType) (at n : ℕ) (es : List Event) → AreLossless es n → AreLossless (events_after before last t at ++ es) n
after_lossless before None t at n es h = form_lossless before 0 t at n es h
after_lossless before (Some p) t at n es h =
    elim (letter_form p.before p.joining t == letter_form p.before p.joining U) as (λ b. AreLossless ((if b then Concat p.at (at + 1) ∷ form_events p.joining p.at t at else Tatweel p.at (at + 1) ∷ []) ++ es) n)
    [ true ↦ (tt, form_lossless p.joining p.at t at n es h) | false ↦ (tt, h) ]

pub letters_lossless : (before : JoiningType) (last : Option Letter) (at : ℕ) (ts : List JoiningType) (n : ℕ) → AreLossless (neighbour_events before last at ts) n
letters_lossless before last at [] n = tt
letters_lossless before last at (t ∷ ts) n =
    elim (is_letter t) as (λ b. AreLossless ((if b then events_after before last t at else []) ++ neighbour_events (if b then t else before) (if b then Some (record { at = at; joining = t; before = before }) else last) (at + 1) ts) n) [
      | true ↦ after_lossless before last t at n (neighbour_events t (Some (record { at = at; joining = t; before = before })) (at + 1) ts) (letters_lossless t (Some (record { at = at; joining = t; before = before })) (at + 1) ts n)
      | false ↦ letters_lossless before last (at + 1) ts n
    ]
