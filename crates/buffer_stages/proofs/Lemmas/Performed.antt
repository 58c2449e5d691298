-- Rules performed one after another.
use Rattle.std.proofs.Common.{ℕ, ◌≡◌, ◌≢◌, ◌≤◌, ◌<◌, ◌+◌, true, false, Bool, List, [], ◌∷◌, ◌++◌, drop, length, Result, Ok, Err, refl, sym, ap, subst, ◌∙◌, get_or, arith}
use Rattle.std.proofs.lemmas.List.{drop_more, drop_all}
use Rattle.buffer_glyphs.specs.declared.cause.ShapeCause.{ShapeCause}
use Rattle.buffer_glyphs.specs.Events.{Event}
use Rattle.buffer_core.specs.Sides.{Sides, items_of}
use Rattle.buffer_stages.specs.Actions.{Cut, Outcome, Passes, Acts, Refuses, Action, later, first_rule}
use Rattle.buffer_stages.specs.Buffers.{cut_of, are_glyphs, IsStill, IsPassed, IsActed}
use Rattle.buffer_stages.specs.Performing.{cut_with, IsMade, IsPerformed, Performs}
use Rattle.buffer_stages.proofs.Lemmas.Frames.{still_open, still_refused, still_settings, then_happened, same_lengths, same_numbers}
use Rattle.buffer_stages.proofs.Lemmas.Does.{passed_same, then_passed}

-- a cut, and the same with a random state
pub same_with : (r : ℕ) (a b : Sides) → cut_of b ≡ cut_of a → cut_with r b ≡ cut_with r a
same_with r a b e = ap (λ (c : Cut). record c { random = r }) e

-- what was made with the state that a cut of the buffer has, whatever it is
pub made_of_acted : (cut : Cut) (es : List Event) (r : ℕ) (old new : Sides) → IsActed cut es old new → IsMade (record cut { random = r }) es r old new
made_of_acted cut es r old new a =
    let counts = a.counts in record {
      cut_is = ap (λ (c : Cut). record c { random = r }) a.cut_is;
      happened = a.happened;
      still = a.still;
      fewer = omega (arith, counts.forth, counts.total);
      kept = counts.kept;
      numbers = a.numbers;
    }

-- nothing was done by a rule that passes without events
pub passes_nothing : (r : ℕ) (s : Sides) (o : Outcome) → o ≡ Passes [] → IsPerformed o false r r s s
passes_nothing r s o e = let P : Outcome → Type 0 = λ p. IsPerformed p false r r s s in subst P (sym e) (refl, refl, passed_same s)

then_made : (es fs : List Event) (cut : Cut) (r : ℕ) (a b c : Sides) → IsPassed es a b → IsMade cut fs r b c → IsMade cut (es ++ fs) r a c
then_made es fs cut r a b c f g =
    let long = same_lengths a b f.cut_is in
    let fewer = g.fewer in
    let kept = g.kept in
    record {
      cut_is = g.cut_is;
      happened = then_happened es fs a b c (still_settings a b f.still) f.happened g.happened;
      still = g.still ∙ f.still;
      fewer = omega (arith, long.1, fewer);
      kept = omega (arith, long.0, kept);
      numbers = λ h. g.numbers (ap are_glyphs (same_numbers a b f.cut_is) ∙ h);
    }

refused_later : (es : List Event) (o : Outcome) (cause : ShapeCause) → o ≡ Refuses cause → later es o ≡ Refuses cause
refused_later es o cause e = ap (later es) e

-- what is performed after a rule passed
pub performs_later : (es : List Event) (o : Outcome) (result : Result Bool ShapeCause) (r after : ℕ) (a b c : Sides) → IsPassed es a b → Performs o result r after b c → Performs (later es o) result r after a c
performs_later es (Passes fs) (Ok acted) r after a b c f d = (d.0, d.1, then_passed es fs a b c f d.2)
performs_later es (Acts cut fs) (Ok acted) r after a b c f d = (d.0, then_made es fs cut after a b c f d.1)
performs_later es (Refuses cause) (Ok acted) r after a b c f d = absurd d
performs_later es o (Err cause) r after a b c f d = λ h. refused_later es o cause (d h)

-- some rules passed; whatever the others perform from here, all perform from the start
pub record ArePassed {R : Type 0} (act : R → Action) (all left : List R) (r : ℕ) (start now : Sides) : Type 0 where
  pub cut_is : cut_of now ≡ cut_of start
  pub still : IsStill start now
  pub behind : length now.behind ≡ length start.behind
  pub ahead : length now.ahead ≡ length start.ahead
  pub read : now.read ≡ start.read
  pub performs : (result : Result Bool ShapeCause) (after : ℕ) (final : Sides) → Performs (first_rule act left (cut_with r now)) result r after now final → Performs (first_rule act all (cut_with r start)) result r after start final

pub passed_first : {R : Type 0} (act : R → Action) (all : List R) (r : ℕ) (s : Sides) → ArePassed act all (drop 0 all) r s s
passed_first act all r s = record { cut_is = refl; still = refl; behind = refl; ahead = refl; read = refl; performs = λ result after final d. d }

pub passed_open : {R : Type 0} (act : R → Action) (all left : List R) (r : ℕ) (start now : Sides) → ArePassed act all left r start now → start.is_open ≡ true → now.is_open ≡ true
passed_open act all left r start now t e = still_open start now t.still ∙ e

pub passed_unrefused : {R : Type 0} (act : R → Action) (all left : List R) (r : ℕ) (start now : Sides) → ArePassed act all left r start now → start.has_refused ≡ false → now.has_refused ≡ false
passed_unrefused act all left r start now t e = still_refused start now t.still ∙ e

pub passed_numbers : {R : Type 0} (act : R → Action) (all left : List R) (r : ℕ) (start now : Sides) → ArePassed act all left r start now → are_glyphs (items_of start) ≡ true → are_glyphs (items_of now) ≡ true
passed_numbers act all left r start now t e = ap are_glyphs (same_numbers start now t.cut_is) ∙ e

-- one more rule passes
one_more : {R : Type 0} (act : R → Action) (all left rest : List R) (x : R) (r after : ℕ) (start now next : Sides) → left ≡ x ∷ rest → ArePassed act all left r start now
    → (o : Outcome) → act x (cut_with r now) ≡ o → IsPerformed o false r after now next → ArePassed act all rest r start next × (after ≡ r)
one_more act all left rest x r after start now next at t (Passes es) is d =
    let p = d.2 in
    let long = same_lengths now next p.cut_is in (
      record {
        cut_is = p.cut_is ∙ t.cut_is;
        still = p.still ∙ t.still;
        behind = long.0 ∙ t.behind;
        ahead = long.1 ∙ t.ahead;
        read = p.read ∙ t.read;
        performs = λ result end final e.
            let same : first_rule act left (cut_with r now) ≡ later es (first_rule act rest (cut_with r next)) = rw (at, is) (ap (λ c. later es (first_rule act rest c)) (sym (same_with r now next p.cut_is))) in
            let P : Outcome → Type 0 = λ q. Performs q result r end now final in
            t.performs result end final (subst P (sym same) (performs_later es (first_rule act rest (cut_with r next)) result r end now next final p e));
      },
      d.1,
    )
one_more act all left rest x r after start now next at t (Acts cut es) is d = cc
one_more act all left rest x r after start now next at t (Refuses cause) is d = absurd d

-- the next passes too
pub passed_next : {R : Type 0} (act : R → Action) (all : List R) (k : ℕ) (x : R) (r after : ℕ) (start now next : Sides) → k < length all → x ≡ get_or all k x → ArePassed act all (drop k all) r start now → IsPerformed (act x (cut_with r now)) false r after now next
    → ArePassed act all (drop (k + 1) all) r start next × (after ≡ r)
passed_next act all k x r after start now next lt at t d =
    let left : drop k all ≡ x ∷ drop (k + 1) all = drop_more all k x lt ∙ ap (λ q. q ∷ drop (k + 1) all) (sym at) in
    one_more act all (drop k all) (drop (k + 1) all) x r after start now next left t (act x (cut_with r now)) refl d

by_first : {R : Type 0} (act : R → Action) (all left rest : List R) (x : R) (r after : ℕ) (result : Result Bool ShapeCause) (start now final : Sides) → left ≡ x ∷ rest → ArePassed act all left r start now → result ≢ Ok false
    → (o : Outcome) → act x (cut_with r now) ≡ o → Performs o result r after now final → Performs (first_rule act all (cut_with r start)) result r after start final
by_first act all left rest x r after (Ok acted) start now final at t other (Passes es) is d = absurd (other (ap Ok d.0))
by_first act all left rest x r after (Ok acted) start now final at t other (Acts cut es) is d =
    let same : first_rule act left (cut_with r now) ≡ Acts cut es = rw (at, is) refl in
    let P : Outcome → Type 0 = λ q. Performs q (Ok acted) r after now final in
    t.performs (Ok acted) after final (subst P (sym same) d)
by_first act all left rest x r after (Ok acted) start now final at t other (Refuses cause) is d = absurd d
by_first act all left rest x r after (Err cause) start now final at t other o is d =
    t.performs (Err cause) after final (λ h.
    let refused : act x (cut_with r now) ≡ Refuses cause = is ∙ d h in
    rw (at, refused) refl)

-- the next acts, or refuses
pub passed_done : {R : Type 0} (act : R → Action) (all : List R) (k : ℕ) (x : R) (r after : ℕ) (result : Result Bool ShapeCause) (start now final : Sides) → k < length all → x ≡ get_or all k x → ArePassed act all (drop k all) r start now → result ≢ Ok false
    → Performs (act x (cut_with r now)) result r after now final → Performs (first_rule act all (cut_with r start)) result r after start final
passed_done act all k x r after result start now final lt at t other d =
    let left : drop k all ≡ x ∷ drop (k + 1) all = drop_more all k x lt ∙ ap (λ q. q ∷ drop (k + 1) all) (sym at) in
    by_first act all (drop k all) (drop (k + 1) all) x r after result start now final left t other (act x (cut_with r now)) refl d

-- none is left
pub passed_all : {R : Type 0} (act : R → Action) (all : List R) (k r : ℕ) (start now : Sides) → length all ≤ k → ArePassed act all (drop k all) r start now → IsPerformed (first_rule act all (cut_with r start)) false r r start now
passed_all act all k r start now le t =
    let none : first_rule act (drop k all) (cut_with r now) ≡ Passes [] = rw (drop_all k all le) refl in
    t.performs (Ok false) r now (passes_nothing r now (first_rule act (drop k all) (cut_with r now)) none)
