-- Jamo that are merged before syllables are formed.
use Rattle.std.proofs.Common.{ℕ, ◌≡◌, ◌<◌, ◌≤◌, ◌||◌, Bool, true, false, if◌then◌else◌, List, Option, Some, None, Ok, Err, length, arith, refl, sym, ap, subst, ◌∙◌}
use Rattle.std.specs.Prelude.{Result}
use Rattle.std.proofs.lemmas.Bool.Decides.{nat_tests}
use Rattle.std.proofs.lemmas.List.{length-map}
use Rattle.buffer_common.specs.declared.constants.BufferFlags.{BufferFlags}
use Rattle.buffer_glyphs.specs.declared.cause.ShapeCause.{ShapeCause}
use Rattle.buffer_glyphs.specs.declared.info.hb_glyph_info_t.{hb_glyph_info_t}
use Rattle.buffer_glyphs.specs.Items.{Item, item_of, strip}
use Rattle.buffer_core.specs.Readings.{always, reading_of}
use Rattle.buffer_core.specs.Sides.{Settings, Sides, state_of}
use Rattle.buffer_core.specs.Steps.{refused_then}
use Rattle.buffer_stages.specs.Stages.{DoesStage, IsFollowed}
use Rattle.layout_face.specs.declared.parts.FaceParts.{FaceParts}
use Rattle.script_syllabic.specs.Graphemes.{with_graphemes_merged}
use Rattle.script_syllabic.proofs.Quiet.{followed_then}
use Rattle.script_hangul.specs.declared.actions.Action.{Action}
use Rattle.script_hangul.specs.declared.actions.Action.TheVariants.{Keep, Apart, Compose, Split}
use Rattle.script_hangul.specs.Actions.{action_on, leading_action, syllable_action, trailing_of}
use Rattle.script_hangul.specs.Jamo.{is_leading, is_syllable}
use Rattle.script_hangul.specs.Hangul.{character_at, count_apart, hangul_text, jamo_rule, rule_by, syllables_formed}
use Rattle.script_hangul.specs.Stepped.{fits_rest}
use Rattle.script_hangul.proofs.Fits.{Within, character_within, front_fits, joined_there}

-- an action leaves no more characters apart than there are
apart_few : (a : Action) (n : ℕ) → fits_rest a n ≡ true → count_apart a ≤ n
apart_few (Keep whole) n f = omega arith
apart_few (Apart k) n f = grind (arith, nat_tests, f)
apart_few (Compose k u) n f = omega arith
apart_few (Split letters true) n f = let more = (joined_there letters true n refl f).0 in omega (arith, more)
apart_few (Split letters false) n f = omega arith

some_there : (o : Option ℕ) (u n : ℕ) → o ≡ Some u → Within 0 o n → 0 < n
some_there (Some v) u n e h = h
some_there None u n e h = absurd (let bad = e in cc)

pub count_fits : (font : FaceParts) (u : ℕ) (gs : List hb_glyph_info_t) → character_at 0 (strip gs) ≡ Some u → count_apart (action_on font u (character_at 1 (strip gs)) (character_at 2 (strip gs))) ≤ length gs
count_fits font u gs e =
    let some = some_there (character_at 0 (strip gs)) u (length (strip gs)) e (character_within 0 (strip gs)) in
    let few = apart_few (action_on font u (character_at 1 (strip gs)) (character_at 2 (strip gs))) (length (strip gs)) (front_fits font u (length (strip gs)) (strip gs) refl some) in
    let many = length-map gs item_of in
    omega (arith, few, many)

pub first_is : (font : FaceParts) (o : Option ℕ) (xs : List Item) → character_at 0 xs ≡ o → rule_by font o xs ≡ jamo_rule font xs
first_is font o xs e = ap (λ p. rule_by font p xs) (sym e)

kept_by : (font : FaceParts) (u : ℕ) (second third : Option ℕ) (leading syllable : Bool) → (leading || syllable) ≡ false
    → (if leading then leading_action font u second (trailing_of third) else if syllable then syllable_action font u (trailing_of second) else Keep false) ≡ Keep false
kept_by font u second third true syllable none = cc
kept_by font u second third false true none = cc
kept_by font u second third false false none = refl

-- a character that is neither a leading consonant nor a syllable begins no grapheme of several
pub other_counts_none : (font : FaceParts) (u : ℕ) (xs : List Item) (b : Bool) → b ≡ (is_leading u || is_syllable u) → b ≡ false → character_at 0 xs ≡ Some u → 0 ≡ jamo_rule font xs
other_counts_none font u xs b is none e =
    let kept : action_on font u (character_at 1 xs) (character_at 2 xs) ≡ Keep false = kept_by font u (character_at 1 xs) (character_at 2 xs) (is_leading u) (is_syllable u) (sym is ∙ none) in
    let counted : jamo_rule font xs ≡ count_apart (action_on font u (character_at 1 xs) (character_at 2 xs)) = ap (λ p. rule_by font p xs) e in
    sym (counted ∙ ap count_apart kept)

-- the merges, and then the syllables
pub hangul_done : {X : Type 0} (r : Result X ShapeCause) (font : FaceParts) (a b c : Sides) → IsFollowed (always (with_graphemes_merged (jamo_rule font))) a b → DoesStage (syllables_formed font b.flags) r b c → DoesStage (hangul_text font a.flags) r a c
hangul_done (Ok x) font a b c f g =
    let same = ap (λ (s : Settings). s.flags) f.settings in
    followed_then (always (with_graphemes_merged (jamo_rule font))) (syllables_formed font a.flags) a b c f (subst (λ (flags : BufferFlags). IsFollowed (syllables_formed font flags) b c) same g)
hangul_done (Err e) font a b c f g = λ other.
    let same = ap (λ (s : Settings). s.flags) f.settings in
    refused_then (reading_of (always (with_graphemes_merged (jamo_rule font))) (state_of a)) (syllables_formed font a.flags) (state_of a) (state_of b) e f.follows
    (subst (λ (flags : BufferFlags). reading_of (syllables_formed font flags) (state_of b) ≡ Err e) same (g other))
