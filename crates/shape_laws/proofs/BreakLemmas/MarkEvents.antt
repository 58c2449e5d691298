-- The flags of bases with marks: those of two texts, one after the other.
use Rattle.std.proofs.Common.{ℕ, suc, ◌≡◌, ◌≤◌, ◌+◌, ◌==◌, ◌||◌, ◌⊎◌, inl, inr, Bool, true, false, if◌then◌else◌, List, [], ◌∷◌, ◌++◌, length, map, arith, refl, sym, ap, ◌∙◌, append_assoc}
use Rattle.std.proofs.lemmas.Bool.Decides.{nat_tests}
use Rattle.buffer_glyphs.specs.Items.{Item}
use Rattle.buffer_glyphs.specs.Events.{Break, Event}
use Rattle.buffer_glyphs.specs.Rewriting.{shifted_event}
use Rattle.buffer_parts.specs.Plainly.{AreSteady}
use Rattle.buffer_properties.specs.Characters.{is_mark}
use Rattle.buffer_parts.specs.Breaks.Concat.{without_concats}
use Rattle.buffer_parts.specs.Breaks.Fragments.{with_ligature_renamed}
use Rattle.buffer_parts.specs.Breaks.Lossless.{AreLossless}
use Rattle.buffer_parts.specs.Breaks.Sides.{AreBounded}
use Rattle.shape_fallback.proofs.Lemmas.MarkPositions.{AreMarks}
use Rattle.shape_fallback.specs.Marks.{base_events, first_event, marks}

-- ---- marks that a list begins with

pub marks_renamed : (f : ℕ → ℕ) (xs : List Item) → marks (map (with_ligature_renamed f) xs) ≡ marks xs
marks_renamed f [] = refl
marks_renamed f (x ∷ xs) = ap (λ (n : ℕ). if is_mark x then n + 1 else 0) (marks_renamed f xs)

pub marks_most : (xs : List Item) → marks xs ≤ length xs
marks_most [] = omega arith
marks_most (x ∷ xs) = let rest = marks_most xs in elim (is_mark x) as (λ b. (if b then marks xs + 1 else 0) ≤ suc (length xs)) [ true ↦ omega (arith, rest) | false ↦ omega arith ]

-- the marks that two lists, one after the other, begin with: those of the first where the second begins with a base
pub marks_seam : (xs : List Item) (y : Item) (ys : List Item) → is_mark y ≡ false → marks (xs ++ y ∷ ys) ≡ marks xs
marks_seam [] y ys e = ap (λ (b : Bool). if b then marks ys + 1 else 0) e
marks_seam (x ∷ xs) y ys e = ap (λ (n : ℕ). if is_mark x then n + 1 else 0) (marks_seam xs y ys e)

-- and those of both where the first has no base
pub marks_on : (xs ys : List Item) → AreMarks xs → marks (xs ++ ys) ≡ length xs + marks ys
marks_on [] ys h = omega arith
marks_on (x ∷ xs) ys h = let rest = marks_on xs ys h.1 in ap (λ (b : Bool). if b then marks (xs ++ ys) + 1 else 0) h.0 ∙ (omega (arith, rest))

-- the last base of a list, and the marks after it
pub record EndsWithMarks (xs : List Item) : Type 0 where
  pub front : List Item
  pub base : Item
  pub rest : List Item
  pub all : xs ≡ front ++ base ∷ rest
  pub none : is_mark base ≡ false
  pub alone : AreMarks rest

-- a list has a last base, or no base
pub last_base : (xs : List Item) → AreMarks xs ⊎ EndsWithMarks xs
last_base [] = inl tt
last_base (x ∷ xs) = elim (last_base xs) [
  | inl alone ↦ by_first (is_mark x) refl alone
  | inr h ↦ inr (record { front = x ∷ h.front; base = h.base; rest = h.rest; all = ap (λ (zs : List Item). x ∷ zs) h.all; none = h.none; alone = h.alone })
]
  where
    by_first : (b : Bool) → is_mark x ≡ b → AreMarks xs → AreMarks (x ∷ xs) ⊎ EndsWithMarks (x ∷ xs)
    by_first true e alone = inl (e, alone)
    by_first false e alone = inr (record { front = []; base = x; rest = xs; all = refl; none = e; alone = alone })

-- ---- flags

pub events_renamed : (f : ℕ → ℕ) (at : ℕ) (xs : List Item) → base_events at (map (with_ligature_renamed f) xs) ≡ base_events at xs
events_renamed f at [] = refl
events_renamed f at (x ∷ xs) =
    ap (λ (n : ℕ). (if is_mark x || n == 0 then [] else Break at (at + 1 + n) ∷ []) ++ base_events (at + 1) (map (with_ligature_renamed f) xs)) (marks_renamed f xs)
    ∙ ap (λ (es : List Event). first_event at (x ∷ xs) ++ es) (events_renamed f (at + 1) xs)

-- events that flag ranges of n glyphs
pub record AreRanges (n : ℕ) (es : List Event) : Type 0 where
  pub steady : AreSteady es
  pub lossless : (m : ℕ) → AreLossless es m
  pub bounded : AreBounded es n
  pub no_concat : without_concats es ≡ es

ranges_if : (b : Bool) (n from to : ℕ) (es : List Event) → from ≤ n → to ≤ n → AreRanges n es → AreRanges n ((if b then [] else Break from to ∷ []) ++ es)
ranges_if true n from to es l m h = h
ranges_if false n from to es l m h = record { steady = h.steady; lossless = λ k. (tt, h.lossless k); bounded = ((l, m), h.bounded); no_concat = ap (λ fs. Break from to ∷ fs) h.no_concat }

pub events_are_ranges : (at n : ℕ) (xs : List Item) → at + length xs ≤ n → AreRanges n (base_events at xs)
events_are_ranges at n [] fits = record { steady = tt; lossless = λ k. tt; bounded = tt; no_concat = refl }
events_are_ranges at n (x ∷ xs) fits =
    let most = marks_most xs in
    ranges_if (is_mark x || marks xs == 0) n at (at + 1 + marks xs) (base_events (at + 1) xs) (omega (arith, fits)) (omega (arith, fits, most)) (events_are_ranges (at + 1) n xs (omega (arith, fits)))

shifted_if : (b : Bool) (m from to : ℕ) (es : List Event) → map (shifted_event m) ((if b then [] else Break from to ∷ []) ++ es) ≡ (if b then [] else Break (m + from) (m + to) ∷ []) ++ map (shifted_event m) es
shifted_if true m from to es = refl
shifted_if false m from to es = refl

pub events_shifted : (m at : ℕ) (xs : List Item) → map (shifted_event m) (base_events at xs) ≡ base_events (m + at) xs
events_shifted m at [] = refl
events_shifted m at (x ∷ xs) =
    let b = is_mark x || marks xs == 0 in
    let end : m + (at + 1 + marks xs) ≡ m + at + 1 + marks xs = omega arith in
    let next : m + (at + 1) ≡ m + at + 1 = omega arith in
    shifted_if b m at (at + 1 + marks xs) (base_events (at + 1) xs)
    ∙ ap (λ (i : ℕ). (if b then [] else Break (m + at) i ∷ []) ++ map (shifted_event m) (base_events (at + 1) xs)) end
    ∙ ap (λ (es : List Event). first_event (m + at) (x ∷ xs) ++ es) (events_shifted m (at + 1) xs ∙ ap (λ (i : ℕ). base_events i xs) next)

-- the flags of two lists, one after the other: those of each where the second begins with a base
pub events_seam : (at : ℕ) (xs : List Item) (y : Item) (ys : List Item) → is_mark y ≡ false → base_events at (xs ++ y ∷ ys) ≡ base_events at xs ++ base_events (at + length xs) (y ∷ ys)
events_seam at [] y ys e = let here : at ≡ at + 0 = omega arith in ap (λ (i : ℕ). base_events i (y ∷ ys)) here
events_seam at (x ∷ xs) y ys e =
    let next : at + 1 + length xs ≡ at + suc (length xs) = omega arith in
    ap (λ (n : ℕ). (if is_mark x || n == 0 then [] else Break at (at + 1 + n) ∷ []) ++ base_events (at + 1) (xs ++ y ∷ ys)) (marks_seam xs y ys e)
    ∙ ap (λ (es : List Event). first_event at (x ∷ xs) ++ es) (events_seam (at + 1) xs y ys e ∙ ap (λ (i : ℕ). base_events (at + 1) xs ++ base_events i (y ∷ ys)) next)
    ∙ sym (append_assoc (first_event at (x ∷ xs)) (base_events (at + 1) xs) (base_events (at + suc (length xs)) (y ∷ ys)))

marked_first : (at : ℕ) (x : Item) (xs : List Item) → is_mark x ≡ true → first_event at (x ∷ xs) ≡ []
marked_first at x xs e = ap (λ (b : Bool). if b || marks xs == 0 then [] else Break at (at + 1 + marks xs) ∷ []) e

-- and those of the second where the first has no base
pub events_on : (at : ℕ) (xs ys : List Item) → AreMarks xs → base_events at (xs ++ ys) ≡ base_events (at + length xs) ys
events_on at [] ys h = let here : at ≡ at + 0 = omega arith in ap (λ (i : ℕ). base_events i ys) here
events_on at (x ∷ xs) ys h =
    let next : at + 1 + length xs ≡ at + suc (length xs) = omega arith in
    ap (λ (es : List Event). es ++ base_events (at + 1) (xs ++ ys)) (marked_first at x (xs ++ ys) h.0) ∙ events_on (at + 1) xs ys h.1 ∙ ap (λ (i : ℕ). base_events i ys) next

pub no_events : (at : ℕ) (xs : List Item) → AreMarks xs → base_events at xs ≡ []
no_events at [] h = refl
no_events at (x ∷ xs) h = ap (λ (es : List Event). es ++ base_events (at + 1) xs) (marked_first at x xs h.0) ∙ no_events (at + 1) xs h.1

-- a base with marks is flagged first
pub base_first : (at : ℕ) (x : Item) (xs : List Item) (n : ℕ) → is_mark x ≡ false → marks xs ≡ suc n → base_events at (x ∷ xs) ≡ Break at (at + 1 + marks xs) ∷ base_events (at + 1) xs
base_first at x xs n e some =
    let more : (marks xs == 0) ≡ false = grind (arith, nat_tests, some) in
    ap (λ (b : Bool). (if b || marks xs == 0 then [] else Break at (at + 1 + marks xs) ∷ []) ++ base_events (at + 1) xs) e ∙ ap (λ (b : Bool). (if b then [] else Break at (at + 1 + marks xs) ∷ []) ++ base_events (at + 1) xs) more
