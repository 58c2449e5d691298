-- Tests that read no ligature number.
use Rattle.std.proofs.Common.{ℕ, Bool, List, [], ◌∷◌, Option, Some, None, map, refl, ap, ◌∙◌}
use Rattle.buffer_glyphs.specs.Items.{Item}
use Rattle.layout_common.specs.declared.class_definition.ClassDefinition.{ClassDefinition}
use Rattle.layout_match.specs.Searches.{Search, answer, is_left_out, is_skippable, has_mask, is_in_syllable}
use Rattle.layout_match.specs.declared.search.match_t.TheVariants.{MATCH, SKIP, NOT_MATCH}
use Rattle.layout_match.specs.Matches.{answers_of}
use Rattle.layout_match.specs.Sequences.{is_glyph, is_of_class, is_covered_by}
use Rattle.std.specs.Prelude.{◌&&◌, if◌then◌else◌}
use Rattle.buffer_parts.specs.Breaks.Fragments.{with_ligature_renamed}
use Rattle.layout_laws.specs.Breaks.Matching.{IsBlind, AreBlind}

mask_blind : (o : Option ℕ) → IsBlind (has_mask o)
mask_blind None f x = refl
mask_blind (Some bits) f x = refl

syllable_blind : (o : Option ℕ) → IsBlind (is_in_syllable o)
syllable_blind None f x = refl
syllable_blind (Some syllable) f x = refl

pub answer_blind : (s : Search) (test : Item → Bool) → IsBlind test → IsBlind (answer s test)
answer_blind s test blind f x =
    let y = with_ligature_renamed f x in
    ap (λ (t : Bool). if is_left_out s.props s.sets x then SKIP else if t && is_in_syllable s.syllable y && test y then MATCH else if is_skippable s x then SKIP else NOT_MATCH) (mask_blind s.mask f x)
    ∙ ap (λ (t : Bool). if is_left_out s.props s.sets x then SKIP else if has_mask s.mask x && t && test y then MATCH else if is_skippable s x then SKIP else NOT_MATCH) (syllable_blind s.syllable f x)
    ∙ ap (λ (t : Bool). if is_left_out s.props s.sets x then SKIP else if has_mask s.mask x && is_in_syllable s.syllable x && t then MATCH else if is_skippable s x then SKIP else NOT_MATCH) (blind f x)

pub answers_blind : (s : Search) (tests : List (Item → Bool)) → AreBlind tests → AreBlind (answers_of s tests)
answers_blind s [] blind = tt
answers_blind s (test ∷ tests) blind = (answer_blind s test blind.0, answers_blind s tests blind.1)

pub glyphs_blind : (glyphs : List ℕ) → AreBlind (map is_glyph glyphs)
glyphs_blind [] = tt
glyphs_blind (glyph ∷ glyphs) = (λ f x. refl, glyphs_blind glyphs)

pub classes_blind : (classes : ClassDefinition) (values : List ℕ) → AreBlind (map (is_of_class classes) values)
classes_blind classes [] = tt
classes_blind classes (value ∷ values) = (λ f x. refl, classes_blind classes values)

pub sets_blind : (sets : List (List ℕ)) → AreBlind (map is_covered_by sets)
sets_blind [] = tt
sets_blind (set ∷ sets) = (λ f x. refl, sets_blind sets)
