-- Rules tried one after another in place.
use Rattle.std.proofs.Common.{ℕ, ◌≡◌, ◌≤◌, ◌<◌, ◌+◌, true, false, Bool, List, [], ◌∷◌, ◌++◌, drop, length, refl, sym, ap, subst, ◌∙◌, get_or}
use Rattle.std.proofs.lemmas.List.{drop_more, drop_all}
use Rattle.buffer_glyphs.specs.Events.{Event}
use Rattle.buffer_core.specs.Sides.{Sides, items_of}
use Rattle.buffer_stages.specs.Actions.{Cut, Outcome, Passes, Acts, Refuses, Action, later, first_rule}
use Rattle.buffer_stages.specs.Buffers.{cut_of, are_glyphs, IsPassed}
use Rattle.buffer_stages.specs.Performing.{IsPutWithoutOutput, PerformsWithoutOutput}
use Rattle.buffer_stages.proofs.Lemmas.Does.{passed_same, then_passed}
use Rattle.buffer_stages.proofs.Lemmas.Frames.{still_settings, then_happened, same_lengths, same_numbers}

then_put : (es fs : List Event) (cut : Cut) (a b c : Sides) → IsPassed es a b → IsPutWithoutOutput cut fs b c → IsPutWithoutOutput cut (es ++ fs) a c
then_put es fs cut a b c f g = record {
  cut_is = g.cut_is;
  happened = then_happened es fs a b c (still_settings a b f.still) f.happened g.happened;
  still = g.still ∙ f.still;
  read = g.read ∙ f.read;
  positions = g.positions ∙ ap (λ (c : Cut). c.positions) f.cut_is;
  numbers = λ h. g.numbers (ap are_glyphs (same_numbers a b f.cut_is) ∙ h);
}

put_later : (es : List Event) (o : Outcome) (acted : Bool) (a b c : Sides) → IsPassed es a b → PerformsWithoutOutput o acted b c → PerformsWithoutOutput (later es o) acted a c
put_later es (Passes fs) acted a b c f d = (d.0, then_passed es fs a b c f d.1)
put_later es (Acts cut fs) acted a b c f d = (d.0, then_put es fs cut a b c f d.1)
put_later es (Refuses cause) acted a b c f d = absurd d

-- some rules passed; whatever the others do from here, all do from the start
pub record ArePassedInPlace {R : Type 0} (act : R → Action) (all left : List R) (start now : Sides) : Type 0 where
  pub cut_is : cut_of now ≡ cut_of start
  pub ahead : length now.ahead ≡ length start.ahead
  pub performs : (acted : Bool) (final : Sides) → PerformsWithoutOutput (first_rule act left (cut_of now)) acted now final → PerformsWithoutOutput (first_rule act all (cut_of start)) acted start final

pub put_first : {R : Type 0} (act : R → Action) (all : List R) (s : Sides) → ArePassedInPlace act all (drop 0 all) s s
put_first act all s = record { cut_is = refl; ahead = refl; performs = λ acted final d. d }

pub put_there : {R : Type 0} (act : R → Action) (all left : List R) (start now : Sides) → ArePassedInPlace act all left start now → 0 < length start.ahead → 0 < length now.ahead
put_there act all left start now t lt = rw t.ahead lt

pub put_numbers : {R : Type 0} (act : R → Action) (all left : List R) (start now : Sides) → ArePassedInPlace act all left start now → are_glyphs (items_of start) ≡ true → are_glyphs (items_of now) ≡ true
put_numbers act all left start now t e = ap are_glyphs (same_numbers start now t.cut_is) ∙ e

passed_more : {R : Type 0} (act : R → Action) (all left rest : List R) (x : R) (start now next : Sides) → left ≡ x ∷ rest → ArePassedInPlace act all left start now → (o : Outcome) → act x (cut_of now) ≡ o → PerformsWithoutOutput o false now next
    → ArePassedInPlace act all rest start next
passed_more act all left rest x start now next at t (Passes es) is d =
    let p = d.1 in
    let long = same_lengths now next p.cut_is in
    record {
      cut_is = p.cut_is ∙ t.cut_is;
      ahead = long.1 ∙ t.ahead;
      performs = λ acted final e.
          let same : first_rule act left (cut_of now) ≡ later es (first_rule act rest (cut_of next)) = rw (at, is, p.cut_is) refl in
          let P : Outcome → Type 0 = λ q. PerformsWithoutOutput q acted now final in
          t.performs acted final (subst P (sym same) (put_later es (first_rule act rest (cut_of next)) acted now next final p e));
    }
passed_more act all left rest x start now next at t (Acts cut es) is d = cc
passed_more act all left rest x start now next at t (Refuses cause) is d = absurd d

-- the next passes too
pub put_next : {R : Type 0} (act : R → Action) (all : List R) (k : ℕ) (x : R) (start now next : Sides) → k < length all → x ≡ get_or all k x → ArePassedInPlace act all (drop k all) start now → PerformsWithoutOutput (act x (cut_of now)) false now next
    → ArePassedInPlace act all (drop (k + 1) all) start next
put_next act all k x start now next lt at t d =
    let left : drop k all ≡ x ∷ drop (k + 1) all = drop_more all k x lt ∙ ap (λ q. q ∷ drop (k + 1) all) (sym at) in
    passed_more act all (drop k all) (drop (k + 1) all) x start now next left t (act x (cut_of now)) refl d

put_once : {R : Type 0} (act : R → Action) (all left rest : List R) (x : R) (start now final : Sides) → left ≡ x ∷ rest → ArePassedInPlace act all left start now → (o : Outcome) → act x (cut_of now) ≡ o → PerformsWithoutOutput o true now final
    → PerformsWithoutOutput (first_rule act all (cut_of start)) true start final
put_once act all left rest x start now final at t (Passes es) is d = cc
put_once act all left rest x start now final at t (Acts cut es) is d =
    let same : first_rule act left (cut_of now) ≡ Acts cut es = rw (at, is) refl in
    let P : Outcome → Type 0 = λ q. PerformsWithoutOutput q true now final in
    t.performs true final (subst P (sym same) d)
put_once act all left rest x start now final at t (Refuses cause) is d = absurd d

-- the next acts
pub put_acted : {R : Type 0} (act : R → Action) (all : List R) (k : ℕ) (x : R) (start now final : Sides) → k < length all → x ≡ get_or all k x → ArePassedInPlace act all (drop k all) start now → PerformsWithoutOutput (act x (cut_of now)) true now final
    → PerformsWithoutOutput (first_rule act all (cut_of start)) true start final
put_acted act all k x start now final lt at t d =
    let left : drop k all ≡ x ∷ drop (k + 1) all = drop_more all k x lt ∙ ap (λ q. q ∷ drop (k + 1) all) (sym at) in
    put_once act all (drop k all) (drop (k + 1) all) x start now final left t (act x (cut_of now)) refl d

-- none is left
pub put_all : {R : Type 0} (act : R → Action) (all : List R) (k : ℕ) (start now : Sides) → length all ≤ k → ArePassedInPlace act all (drop k all) start now → PerformsWithoutOutput (first_rule act all (cut_of start)) false start now
put_all act all k start now le t =
    let none : first_rule act (drop k all) (cut_of now) ≡ Passes [] = rw (drop_all k all le) refl in
    let P : Outcome → Type 0 = λ q. PerformsWithoutOutput q false now now in
    t.performs false now (subst P (sym none) (refl, passed_same now))
