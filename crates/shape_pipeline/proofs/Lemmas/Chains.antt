-- Stages done one after another on a buffer.
use Rattle.std.proofs.Common.{◌≡◌, ◌++◌, Bool, true, false, List, [], ◌∷◌, Result, Ok, Err, refl, sym, ap, subst, ◌∙◌}
use Rattle.buffer_glyphs.specs.declared.cause.ShapeCause.{ShapeCause}
use Rattle.buffer_core.specs.Readings.{Follows, Reading, Stage, View, and_then, reading_of, then_reading}
use Rattle.buffer_core.specs.Steps.{and_then_assoc, as_it_is_then, follows_then, follows_same, refused_first, refused_then}
use Rattle.buffer_core.specs.Sides.{Sides, state_of, view_of}
use Rattle.buffer_stages.specs.Ready.{DoesGlyphStage, IsDone, IsReady}
use Rattle.buffer_stages.specs.Stages.{IsFollowed}
use Rattle.shape_pipeline.specs.Chains.{in_order, only_if}
use Rattle.shape_pipeline.proofs.Alike.{then_alike}

-- what was done was followed
pub done_followed : (stage : Stage) (old new : Sides) → IsDone stage old new → IsFollowed stage old new
done_followed stage old new d = record { follows = d.follows; settings = d.settings; ready = d.ready }

-- ---- a stage that there is where something holds

pub acts_followed : (b : Bool) (stage : Stage) (old new : Sides) → b ≡ true → IsFollowed stage old new → IsFollowed (only_if b stage) old new
acts_followed b stage old new holds f = let P : Bool → Type 0 = λ c. IsFollowed (only_if c stage) old new in subst P (sym holds) f

pub rests_followed : (b : Bool) (stage : Stage) (s : Sides) → b ≡ false → IsReady s → IsFollowed (only_if b stage) s s
rests_followed b stage s fails ready =
    let P : Bool → Type 0 = λ c. IsFollowed (only_if c stage) s s in
    subst P (sym fails) (record { follows = follows_same (state_of s); settings = refl; ready = ready })

pub acts_done : (b : Bool) (stage : Stage) (old new : Sides) → b ≡ true → IsDone stage old new → IsDone (only_if b stage) old new
acts_done b stage old new holds d = let P : Bool → Type 0 = λ c. IsDone (only_if c stage) old new in subst P (sym holds) d

pub rests_done : (b : Bool) (stage : Stage) (s : Sides) → b ≡ false → IsReady s → IsDone (only_if b stage) s s
rests_done b stage s fails ready =
    let P : Bool → Type 0 = λ c. IsDone (only_if c stage) s s in
    subst P (sym fails) (record { follows = follows_same (state_of s); settings = refl; ready = ready; numbers = λ h. h })

pub acts_does : {X : Type 0} (b : Bool) (stage : Stage) (result : Result X ShapeCause) (old new : Sides) → b ≡ true → DoesGlyphStage stage result old new → DoesGlyphStage (only_if b stage) result old new
acts_does b stage result old new holds d = let P : Bool → Type 0 = λ c. DoesGlyphStage (only_if c stage) result old new in subst P (sym holds) d

-- ---- stages that were followed

none_followed : (s : Sides) → IsReady s → IsFollowed (in_order []) s s
none_followed s ready = record { follows = follows_same (state_of s); settings = refl; ready = ready }

next_followed : (a : Stage) (rest : List Stage) (s t u : Sides) → IsFollowed a s t → IsFollowed (in_order rest) t u → IsFollowed (in_order (a ∷ rest)) s u
next_followed a rest s t u f g = record {
  follows = follows_then (reading_of a (state_of s)) (in_order rest) (state_of s) (state_of t) (state_of u) f.follows g.follows;
  settings = g.settings ∙ f.settings;
  ready = g.ready;
}

one_followed : (a : Stage) (s t : Sides) → IsFollowed a s t → IsFollowed (in_order (a ∷ [])) s t
one_followed a s t f = next_followed a [] s t t f (none_followed t f.ready)

pub two_followed : (a b : Stage) (s t u : Sides) → IsFollowed a s t → IsFollowed b t u → IsFollowed (in_order (a ∷ b ∷ [])) s u
two_followed a b s t u f g = next_followed a (b ∷ []) s t u f (one_followed b t u g)

pub three_followed : (a b c : Stage) (s t u v : Sides) → IsFollowed a s t → IsFollowed b t u → IsFollowed c u v → IsFollowed (in_order (a ∷ b ∷ c ∷ [])) s v
three_followed a b c s t u v f g h = next_followed a (b ∷ c ∷ []) s t v f (two_followed b c t u v g h)

pub four_followed : (a b c d : Stage) (s t u v w : Sides) → IsFollowed a s t → IsFollowed b t u → IsFollowed c u v → IsFollowed d v w → IsFollowed (in_order (a ∷ b ∷ c ∷ d ∷ [])) s w
four_followed a b c d s t u v w f g h k = next_followed a (b ∷ c ∷ d ∷ []) s t w f (three_followed b c d t u v w g h k)

pub five_followed : (a b c d e : Stage) (s t u v w x : Sides) → IsFollowed a s t → IsFollowed b t u → IsFollowed c u v → IsFollowed d v w → IsFollowed e w x → IsFollowed (in_order (a ∷ b ∷ c ∷ d ∷ e ∷ [])) s x
five_followed a b c d e s t u v w x f g h k l = next_followed a (b ∷ c ∷ d ∷ e ∷ []) s t x f (four_followed b c d e t u v w x g h k l)

pub six_followed : (a b c d e i : Stage) (s t u v w x y : Sides) → IsFollowed a s t → IsFollowed b t u → IsFollowed c u v → IsFollowed d v w → IsFollowed e w x → IsFollowed i x y → IsFollowed (in_order (a ∷ b ∷ c ∷ d ∷ e ∷ i ∷ [])) s y
six_followed a b c d e i s t u v w x y f g h k l m = next_followed a (b ∷ c ∷ d ∷ e ∷ i ∷ []) s t y f (five_followed b c d e i t u v w x y g h k l m)

-- ---- stages that were done, which keep numbers of glyphs

none_done : (s : Sides) → IsReady s → IsDone (in_order []) s s
none_done s ready = record { follows = follows_same (state_of s); settings = refl; ready = ready; numbers = λ h. h }

next_done : (a : Stage) (rest : List Stage) (s t u : Sides) → IsDone a s t → IsDone (in_order rest) t u → IsDone (in_order (a ∷ rest)) s u
next_done a rest s t u f g = record {
  follows = follows_then (reading_of a (state_of s)) (in_order rest) (state_of s) (state_of t) (state_of u) f.follows g.follows;
  settings = g.settings ∙ f.settings;
  ready = g.ready;
  numbers = λ h. g.numbers (f.numbers h);
}

one_done : (a : Stage) (s t : Sides) → IsDone a s t → IsDone (in_order (a ∷ [])) s t
one_done a s t f = next_done a [] s t t f (none_done t f.ready)

pub two_done : (a b : Stage) (s t u : Sides) → IsDone a s t → IsDone b t u → IsDone (in_order (a ∷ b ∷ [])) s u
two_done a b s t u f g = next_done a (b ∷ []) s t u f (one_done b t u g)

pub three_done : (a b c : Stage) (s t u v : Sides) → IsDone a s t → IsDone b t u → IsDone c u v → IsDone (in_order (a ∷ b ∷ c ∷ [])) s v
three_done a b c s t u v f g h = next_done a (b ∷ c ∷ []) s t v f (two_done b c t u v g h)

pub four_done : (a b c d : Stage) (s t u v w : Sides) → IsDone a s t → IsDone b t u → IsDone c u v → IsDone d v w → IsDone (in_order (a ∷ b ∷ c ∷ d ∷ [])) s w
four_done a b c d s t u v w f g h k = next_done a (b ∷ c ∷ d ∷ []) s t w f (three_done b c d t u v w g h k)

pub five_done : (a b c d e : Stage) (s t u v w x : Sides) → IsDone a s t → IsDone b t u → IsDone c u v → IsDone d v w → IsDone e w x → IsDone (in_order (a ∷ b ∷ c ∷ d ∷ e ∷ [])) s x
five_done a b c d e s t u v w x f g h k l = next_done a (b ∷ c ∷ d ∷ e ∷ []) s t x f (four_done b c d e t u v w x g h k l)

-- ---- the first stage that refuses

pub first_refused : (a : Stage) (rest : List Stage) (s : Sides) (cause : ShapeCause) → reading_of a (state_of s) ≡ Err cause → reading_of (in_order (a ∷ rest)) (state_of s) ≡ Err cause
first_refused a rest s cause e = refused_first (reading_of a (state_of s)) (in_order rest) cause e

later_refused : (a : Stage) (rest : List Stage) (s t : Sides) (cause : ShapeCause) → IsFollowed a s t → reading_of (in_order rest) (state_of t) ≡ Err cause → reading_of (in_order (a ∷ rest)) (state_of s) ≡ Err cause
later_refused a rest s t cause f e = refused_then (reading_of a (state_of s)) (in_order rest) (state_of s) (state_of t) cause f.follows e

pub second_refused : (a b : Stage) (rest : List Stage) (s t : Sides) (cause : ShapeCause) → IsFollowed a s t → reading_of b (state_of t) ≡ Err cause → reading_of (in_order (a ∷ b ∷ rest)) (state_of s) ≡ Err cause
second_refused a b rest s t cause f e = later_refused a (b ∷ rest) s t cause f (first_refused b rest t cause e)

pub third_refused : (a b c : Stage) (rest : List Stage) (s t u : Sides) (cause : ShapeCause) → IsFollowed a s t → IsFollowed b t u → reading_of c (state_of u) ≡ Err cause → reading_of (in_order (a ∷ b ∷ c ∷ rest)) (state_of s) ≡ Err cause
third_refused a b c rest s t u cause f g e = later_refused a (b ∷ c ∷ rest) s t cause f (second_refused b c rest t u cause g e)

pub fourth_refused : (a b c d : Stage) (rest : List Stage) (s t u v : Sides) (cause : ShapeCause) → IsFollowed a s t → IsFollowed b t u → IsFollowed c u v → reading_of d (state_of v) ≡ Err cause
    → reading_of (in_order (a ∷ b ∷ c ∷ d ∷ rest)) (state_of s) ≡ Err cause
fourth_refused a b c d rest s t u v cause f g h e = later_refused a (b ∷ c ∷ d ∷ rest) s t cause f (third_refused b c d rest t u v cause g h e)

-- ---- stages that are grouped

-- stages in order are the first of them as one stage, and then the others
pub in_order_both : (firsts others : List Stage) (v : View) → in_order (firsts ++ others) v ≡ in_order (in_order firsts ∷ others) v
in_order_both [] others v = sym (as_it_is_then v (in_order others))
in_order_both (a ∷ firsts) others v =
    then_alike (a v) (in_order (firsts ++ others)) (in_order (in_order firsts ∷ others)) (in_order_both firsts others) ∙ sym (and_then_assoc (a v) (in_order firsts) (in_order others))

-- a stage, and then stages that read the same
pub in_order_after : (a : Stage) (these those : List Stage) → ((v : View) → in_order these v ≡ in_order those v) → (v : View) → in_order (a ∷ these) v ≡ in_order (a ∷ those) v
in_order_after a these those same v = then_alike (a v) (in_order these) (in_order those) same

-- a stage that reads the same was followed too
pub alike_followed : (a b : Stage) (s t : Sides) → ((v : View) → a v ≡ b v) → IsFollowed a s t → IsFollowed b s t
alike_followed a b s t same f = record {
  follows = subst (λ q. Follows q (state_of s) (state_of t)) (same (view_of s)) f.follows;
  settings = f.settings;
  ready = f.ready;
}
