-- Normalising keeps a text equivalent.
use Rattle.std.proofs.Common.{ℕ, ◌≡◌, Bool, true, false, List, [], ◌∷◌, refl, sym, ap, subst}
use Rattle.buffer_unicode_tables.specs.ClassOrder.{class_order}
use Rattle.buffer_unicode_tables.specs.Lawful.{IsLawful, ClassesAreOfMarks}
use Rattle.buffer_unicode_tables.specs.Tables.{Tables}
use Rattle.buffer_unicode_tables.specs.Texts.{AreEquivalent, same}
use Rattle.buffer_unicode_tables.proofs.Steps.{equivalents_have_one_order}
use Rattle.buffer_glyphs.specs.Items.{Item}
use Rattle.buffer_properties.specs.Characters.{mark_class, characters_of, standing_for, items_of_text}
use Rattle.buffer_properties.specs.Expanding.{expanded_list, expanded_groups}
use Rattle.buffer_properties.specs.Ordering.{ordered_list, joiners_shown}
use Rattle.buffer_properties.specs.NormalizedList.{has_later_mark, composition_if, arranged_marks, normalized_items}
use Rattle.buffer_properties.specs.Normalizer.{Normalizer, is_composing}
use Rattle.buffer_properties.specs.NormalLaws.{NormalizingKeepsEquivalence, EquivalenceIsOneOrder}
use Rattle.buffer_properties.specs.Premises.{SplitsAsUnicode, ComposesWithinUnicode, ReordersNothing, HasNoSelector, HasShortRuns}
use Rattle.buffer_properties.proofs.Alike.{no_selector_in_text}
use Rattle.buffer_properties.proofs.Classes.{class_of_character}
use Rattle.buffer_properties.proofs.Composed.{composed_equivalent}
use Rattle.buffer_properties.proofs.Equivalence.{then_all, one_order_is_equivalent}
use Rattle.buffer_properties.proofs.Expanded.{items_in_turn}
use Rattle.buffer_properties.proofs.Kept.{AreOfTables, Keeps, keeps_then, groups_keep, expansion_keeps}
use Rattle.buffer_properties.proofs.Runs.{ordered_by_class}
use Rattle.buffer_properties.proofs.Sorted.{IsRisingAfter, order_keeps, rising_order, joiners_keep, joiners_rise}

pub equivalence_is_one_order : EquivalenceIsOneOrder
equivalence_is_one_order t ends lawful us vs = (equivalents_have_one_order t ends lawful us vs, one_order_is_equivalent t us vs)

pub text_of_tables : (t : Tables) (x : Item) (us : List ℕ) → ClassesAreOfMarks t → AreOfTables t (items_of_text t x us)
text_of_tables t x [] marks = tt
text_of_tables t x (u ∷ us) marks = (class_of_character t u x marks, text_of_tables t x us marks)

pub characters_of_text : (t : Tables) (x : Item) (us : List ℕ) → characters_of (items_of_text t x us) ≡ us
characters_of_text t x [] = refl
characters_of_text t x (u ∷ us) = ap (λ vs. u ∷ vs) (characters_of_text t x us)

pub expanded_keeps : (c : Normalizer) (x : Item) (us : List ℕ) → ClassesAreOfMarks c.tables → SplitsAsUnicode c → HasNoSelector us → Keeps c.tables (items_of_text c.tables x us) (expanded_list c (items_of_text c.tables x us)).items
expanded_keeps c x [] marks unicode none = record { equivalent = same; of_tables = λ o. o }
expanded_keeps c x (u ∷ us) marks unicode none =
    let first = standing_for c.tables u x in
    subst (Keeps c.tables (items_of_text c.tables x (u ∷ us))) (sym (items_in_turn (expanded_groups c (standing_for c.tables u x) [] (items_of_text c.tables x us))))
    (groups_keep c (Keeps c.tables) (standing_for c.tables u x) [] (items_of_text c.tables x us) (expansion_keeps c marks unicode) (no_selector_in_text c.tables x (u ∷ us) none))

composed_or_not : (c : Normalizer) (b : Bool) (xs : List Item) → IsLawful c.tables → ComposesWithinUnicode c → AreOfTables c.tables xs → (b ≡ true → IsRisingAfter 0 xs) → AreEquivalent c.tables (characters_of xs) (characters_of (composition_if b c xs).items)
composed_or_not c true xs lawful within o h = composed_equivalent c xs lawful within o (h refl)
composed_or_not c false xs lawful within o h = same

marks_keep : (c : Normalizer) (b : Bool) (xs : List Item) → IsLawful c.tables → ComposesWithinUnicode c → ReordersNothing c → AreOfTables c.tables xs → HasShortRuns mark_class 0 xs
    → AreEquivalent c.tables (characters_of xs) (characters_of (arranged_marks b c xs).items)
unfolding arranged_marks
marks_keep c false xs lawful within none o short =
    let shown = joiners_keep c.tables xs in
    then_all c.tables _ _ _ shown.equivalent (composed_or_not c false (joiners_shown xs) lawful within (shown.of_tables o) (λ e. absurd (let no : false ≡ true = e in cc)))
marks_keep c true xs lawful within none o short =
    let sorted = class_order mark_class xs in
    let ordered : (ordered_list c.reorders xs).items ≡ class_order mark_class xs = ordered_by_class c.reorders xs none short in
    let kept = keeps_then c.tables xs (class_order mark_class xs) (joiners_shown (class_order mark_class xs)) (order_keeps c.tables xs o) (joiners_keep c.tables (class_order mark_class xs)) in
    let rises = joiners_rise (class_order mark_class xs) (rising_order [] xs) in
    let composed = composed_or_not c (is_composing c.mode) (joiners_shown (class_order mark_class xs)) lawful within (kept.of_tables o) (λ e. rises) in
    subst (λ (ys : List Item). AreEquivalent c.tables (characters_of xs) (characters_of (composition_if (is_composing c.mode) c (joiners_shown ys)).items)) (sym ordered)
    (then_all c.tables _ _ _ kept.equivalent composed)

pub normalizing_keeps_equivalence : NormalizingKeepsEquivalence
unfolding normalized_items
normalizing_keeps_equivalence c x us lawful unicode within none no_selector short =
    let expanded = expanded_keeps c x us lawful.classes_are_of_marks unicode no_selector in
    let all = then_all c.tables _ _ _ expanded.equivalent (marks_keep c (has_later_mark (items_of_text c.tables x us)) (expanded_list c (items_of_text c.tables x us)).items lawful within none (expanded.of_tables (text_of_tables c.tables x us lawful.classes_are_of_marks)) short) in
    subst (λ (vs : List ℕ). AreEquivalent c.tables vs (characters_of (normalized_items c (items_of_text c.tables x us)).items)) (characters_of_text c.tables x us) all
