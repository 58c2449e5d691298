-- Stages that bring no glyph number in, one after another, and circles before them.
use Rattle.std.proofs.Common.{ℕ, ◌≡◌, ◌==◌, Bool, true, false, if◌then◌else◌, List, length, Option, None, Ok, Err, map, refl, sym, ap, subst, ◌∙◌}
use Rattle.std.specs.Prelude.{bit_and, nat_lt, option_map, unwrap_or, Result}
use Rattle.std.specs.List.Sorted.{IsPermutation}
use Rattle.std.proofs.lemmas.List.Sorted.{IsPermutation-refl, IsPermutation-trans, length_permutation}
use Rattle.std.proofs.lemmas.List.{length-map}
use Rattle.std.proofs.lemmas.Nat.{and_assoc}
use Rattle.buffer_glyphs.specs.declared.cause.ShapeCause.{ShapeCause}
use Rattle.buffer_common.specs.declared.constants.BufferFlags.{BufferFlags}
use Rattle.layout_face.specs.declared.parts.FaceParts.{FaceParts}
use Rattle.layout_face.specs.Glyphs.{nominal_glyph}
use Rattle.buffer_glyphs.specs.Items.{Item}
use Rattle.buffer_core.specs.Readings.{BufferState, Stage, Follows, and_then, always, as_it_is, reading_of}
use Rattle.buffer_core.specs.Steps.{follows_then, refused_first}
use Rattle.buffer_core.specs.Sides.{Sides, items_of, state_of, view_of}
use Rattle.buffer_stages.specs.Buffers.{are_glyphs}
use Rattle.buffer_stages.specs.Ready.{IsDone, IsReady}
use Rattle.buffer_stages.specs.Settings.{text_flags}
use Rattle.buffer_stages.specs.Pauses.{BringsNoGlyph}
use Rattle.buffer_stages.specs.Stages.{IsFollowed, with_items_mapped}
use Rattle.buffer_glyphs.specs.Rewriting.{Arrangement, eventless_arrangement}
use Rattle.buffer_stages.specs.Rewriting.{by_syllable}
use Rattle.buffer_stages.specs.SyllableLaws.{IsPermuted, numbers_of}
use Rattle.buffer_stages.specs.Lemmas.Numbers.{mapped_permutes, syllables_permute}
use Rattle.script_syllabic.specs.declared.circles.CircleRule.{CircleRule}
use Rattle.script_syllabic.specs.Circles.{DOTTED_CIRCLE, circle_glyph, circles_by, puts_circles}
use Rattle.script_syllabic.specs.Rules.{circle_rule}
use Rattle.script_syllabic.proofs.Erased.{is_told}
use Rattle.script_syllabic.specs.Quiet.{IsQuiet}
use Rattle.script_syllabic.specs.Syllables.{syllables_by, then_syllables}
use Rattle.script_syllabic.proofs.PermutedNumbers.{permuted_brings_none, permuted_glyphs}

-- ---- one stage after another

pub followed_then : (s t : Stage) (a b c : Sides) → IsFollowed s a b → IsFollowed t b c → IsFollowed (λ v. and_then (s v) t) a c
followed_then s t a b c f g = record {
  follows = follows_then (reading_of s (state_of a)) t (state_of a) (state_of b) (state_of c) f.follows g.follows;
  settings = g.settings ∙ f.settings;
  ready = g.ready;
}

pub quiet_then : (s t : Stage) (a b c : Sides) → IsQuiet s a b → IsQuiet t b c → IsQuiet (λ v. and_then (s v) t) a c
quiet_then s t a b c f g = record {
  followed = followed_then s t a b c f.followed g.followed;
  numbers = IsPermutation-trans (numbers_of (items_of a)) (numbers_of (items_of b)) (numbers_of (items_of c)) f.numbers g.numbers;
}

pub quiet_same : (s : Sides) → IsReady s → IsQuiet as_it_is s s
quiet_same s ready = record { followed = record { follows = refl; settings = refl; ready = ready }; numbers = IsPermutation-refl (numbers_of (items_of s)) }

-- ---- what it says of a pause

pub quiet_done : (stage : Stage) (a b : Sides) → IsQuiet stage a b → IsDone stage a b
quiet_done stage a b q = record {
  follows = q.followed.follows;
  settings = q.followed.settings;
  ready = q.followed.ready;
  numbers = permuted_glyphs (items_of a) (items_of b) q.numbers;
}

pub quiet_brings_none : (stage : Stage) (a b : Sides) → IsQuiet stage a b → BringsNoGlyph (items_of a) (items_of b)
quiet_brings_none stage a b q = permuted_brings_none (items_of a) (items_of b) q.numbers

-- ---- rules for syllables, and maps

pub rule_quiet : (rule : List Item → Arrangement) (a b : Sides) → IsPermuted (items_of a) (rule (items_of a)) → IsFollowed (always (λ v. record { view = record v { items = (rule v.items).items }; events = λ level. (rule v.items).events })) a b
    → IsQuiet (always (λ v. record { view = record v { items = (rule v.items).items }; events = λ level. (rule v.items).events })) a b
rule_quiet rule a b p f = record {
  followed = f;
  numbers = subst (λ ys. IsPermutation (numbers_of (items_of a)) (numbers_of ys)) (sym (ap (λ (run : BufferState). run.view.items) f.follows)) p;
}

pub syllables_quiet : (rule : List Item → Arrangement) (a b : Sides) → ((ys : List Item) → IsPermuted ys (rule ys)) → IsFollowed (syllables_by rule) a b → IsQuiet (syllables_by rule) a b
syllables_quiet rule a b p f = rule_quiet (by_syllable rule) a b (syllables_permute rule p (items_of a)) f

pub mapped_quiet : (k : Item → Item) (a b : Sides) → ((x : Item) → (k x).number ≡ x.number) → IsFollowed (always (with_items_mapped k)) a b → IsQuiet (always (with_items_mapped k)) a b
mapped_quiet k a b h f = rule_quiet (λ xs. eventless_arrangement (map k xs)) a b (mapped_permutes k (items_of a) h) f

-- ---- circles, and then an order

-- circles look at none of the two requests for flags
same_glyph : (flags : BufferFlags) (font : FaceParts) → circle_glyph flags font ≡ circle_glyph (text_flags flags) font
same_glyph flags font =
    let same : bit_and (bit_and flags.0 0x3F) 16 ≡ bit_and flags.0 16 = and_assoc 16 flags.0 0x3F in
    ap (λ n. if n == 16 then None else nominal_glyph DOTTED_CIRCLE font) (sym same)

same_rule : (font : FaceParts) (flags : BufferFlags) (kind category : ℕ) (repha position : Option ℕ) → circle_rule font flags kind category repha position ≡ circle_rule font (text_flags flags) kind category repha position
same_rule font flags kind category repha position = ap (option_map (λ (g : ℕ). record { glyph = g; kind = kind; category = category; repha = repha; position = unwrap_or position 0 })) (same_glyph flags font)

abbrev Order : FaceParts → BufferFlags → ℕ → ℕ → Option ℕ → Option ℕ → (List Item → Arrangement) → Stage
Order font flags kind category repha position rule = then_syllables (circles_by (circle_rule font flags kind category repha position)) rule

pub ordered_done : (font : FaceParts) (flags : BufferFlags) (kind category : ℕ) (repha position : Option ℕ) (rule : List Item → Arrangement) (a b c : Sides) → ((ys : List Item) → IsPermuted ys (rule ys))
    → IsFollowed (circles_by (circle_rule font flags kind category repha position)) a b → (are_glyphs (items_of a) ≡ true → are_glyphs (items_of b) ≡ true) → IsFollowed (syllables_by rule) b c
    → IsDone (Order font (text_flags flags) kind category repha position rule) a c
ordered_done font flags kind category repha position rule a b c p f h g =
    let circles = circle_rule font flags kind category repha position in
    let q = syllables_quiet rule b c p g in
    let both = followed_then (circles_by circles) (syllables_by rule) a b c f g in
    subst (λ r. IsDone (then_syllables (circles_by r) rule) a c) (same_rule font flags kind category repha position) (record {
      follows = both.follows;
      settings = both.settings;
      ready = both.ready;
      numbers = λ e. permuted_glyphs (items_of b) (items_of c) q.numbers (h e);
    })

pub ordered_brings_none : (circles : Option CircleRule) (rule : List Item → Arrangement) (a b c : Sides) (inserted : Bool) → ((ys : List Item) → IsPermuted ys (rule ys))
    → inserted ≡ puts_circles circles (items_of a) → IsFollowed (circles_by circles) a b → IsFollowed (syllables_by rule) b c → inserted ≡ false → BringsNoGlyph (items_of a) (items_of c)
ordered_brings_none circles rule a b c inserted p told f g none =
    let stays : Follows (as_it_is (view_of a)) (state_of a) (state_of b) = subst (λ q. Follows q (state_of a) (state_of b)) (is_told circles (view_of a) (sym told ∙ none)) f.follows in
    let same : items_of b ≡ items_of a = ap (λ (run : BufferState). run.view.items) stays in
    let q = syllables_quiet rule b c p g in
    subst (λ xs. BringsNoGlyph xs (items_of c)) same (quiet_brings_none (syllables_by rule) b c q)

pub quiet_length : (stage : Stage) (a b : Sides) → IsQuiet stage a b → length (items_of a) ≡ length (items_of b)
quiet_length stage a b q =
    let number : Item → ℕ = λ x. x.number in
    sym (length-map (items_of a) number) ∙ sym (length_permutation (numbers_of (items_of a)) (numbers_of (items_of b)) q.numbers) ∙ length-map (items_of b) number

pub ordered_longer : (rule : List Item → Arrangement) (a b c : Sides) (inserted : Bool) → ((ys : List Item) → IsPermuted ys (rule ys))
    → inserted ≡ nat_lt (length (items_of a)) (length (items_of b)) → IsFollowed (syllables_by rule) b c → inserted ≡ nat_lt (length (items_of a)) (length (items_of c))
ordered_longer rule a b c inserted p told g = told ∙ ap (nat_lt (length (items_of a))) (quiet_length (syllables_by rule) b c (syllables_quiet rule b c p g))

pub circles_refused : (font : FaceParts) (flags : BufferFlags) (kind category : ℕ) (repha position : Option ℕ) (rule : List Item → Arrangement) (a : Sides) (e : ShapeCause)
    → reading_of (circles_by (circle_rule font flags kind category repha position)) (state_of a) ≡ Err e → reading_of (Order font (text_flags flags) kind category repha position rule) (state_of a) ≡ Err e
circles_refused font flags kind category repha position rule a e h =
    subst (λ r. reading_of (then_syllables (circles_by r) rule) (state_of a) ≡ Err e) (same_rule font flags kind category repha position)
    (refused_first (circles_by (circle_rule font flags kind category repha position) (view_of a)) (syllables_by rule) e h)

-- ---- answers and refusals

pub ok_is : (inserted : Bool) → ◌≡◌ {A = Result Bool ShapeCause} (Ok inserted) (Ok false) → inserted ≡ false
ok_is inserted e = ap (λ (r : Result Bool ShapeCause). or_true r) e
  where
    or_true : Result Bool ShapeCause → Bool
    or_true (Ok b) = b
    or_true (Err c) = true
