-- Equivalent texts have one normalised list.
use Rattle.std.proofs.Common.{ℕ, ◌≡◌, ◌||◌, Bool, false, List, [], ◌∷◌, drop, map, refl, sym, ap, ap₂, ◌∙◌}
use Rattle.std.specs.List.{list_any}
use Rattle.buffer_unicode.specs.Character.{is_variation_selector_character}
use Rattle.buffer_unicode_tables.specs.Expansion.{EndWithin}
use Rattle.buffer_unicode_tables.specs.Tables.{Tables, split_of, class_of}
use Rattle.buffer_unicode_tables.specs.Texts.{full_text}
use Rattle.buffer_unicode_tables.proofs.Steps.{equivalents_have_one_order}
use Rattle.buffer_glyphs.specs.Items.{Item}
use Rattle.buffer_properties.specs.Properties.{is_mark_character}
use Rattle.buffer_properties.specs.Characters.{is_mark, is_selector, mark_class, standing_for, items_of_text}
use Rattle.buffer_properties.specs.Expanding.{piece_of, expanded_list, expanded_groups}
use Rattle.buffer_properties.specs.Ordering.{ordered_list, joiners_shown}
use Rattle.buffer_properties.specs.NormalizedList.{has_later_mark, composition_if, arranged_marks, normalized_items}
use Rattle.buffer_properties.specs.Normalizer.{Normalizer, is_composing}
use Rattle.buffer_properties.specs.NormalLaws.{EquivalentsNormalizeAlike}
use Rattle.buffer_properties.specs.Premises.{SplitsAsUnicode, ExpandsGreatest, IsRegular, HasNoSelector}
use Rattle.buffer_properties.specs.SupportedExpansion.{Greatest}
use Rattle.buffer_properties.proofs.Classes.{mark_of_character, class_of_piece, order_map, short_map}
use Rattle.buffer_properties.proofs.Expanded.{items_in_turn, groups_items, text_in_full}
use Rattle.buffer_properties.proofs.Runs.{ordered_alike}

-- a test of the items of a text that goes by their characters
pub any_of_text : (p : Item → Bool) (q : ℕ → Bool) (t : Tables) (x : Item) (us : List ℕ) → ((u : ℕ) → p (standing_for t u x) ≡ q u) → list_any p (items_of_text t x us) ≡ list_any q us
any_of_text p q t x [] h = refl
any_of_text p q t x (u ∷ us) h = ap₂ (λ a b. a || b) (h u) (any_of_text p q t x us h)

pub later_mark_of_text : (t : Tables) (x : Item) (us : List ℕ) → has_later_mark (items_of_text t x us) ≡ list_any is_mark_character (drop 1 us)
later_mark_of_text t x [] = refl
later_mark_of_text t x (u ∷ us) = any_of_text is_mark is_mark_character t x us (λ v. mark_of_character t v x)

pub no_selector_in_text : (t : Tables) (x : Item) (us : List ℕ) → HasNoSelector us → list_any is_selector (items_of_text t x us) ≡ false
no_selector_in_text t x us h = any_of_text is_selector is_variation_selector_character t x us (λ v. refl) ∙ h

-- a regular text is expanded to its full expansion
expanded_in_full : (c : Normalizer) (x : Item) (us : List ℕ) → EndWithin (split_of c.tables) 8 → SplitsAsUnicode c → ExpandsGreatest c → IsRegular c us
    → (expanded_list c (items_of_text c.tables x us)).items ≡ map (piece_of c x) (full_text c.tables us)
expanded_in_full c x [] ends same greatest regular = refl
expanded_in_full c x (u ∷ us) ends same greatest regular =
    let first = standing_for c.tables u x in
    items_in_turn (expanded_groups c (standing_for c.tables u x) [] (items_of_text c.tables x us))
    ∙ (groups_items c Greatest (standing_for c.tables u x) [] (items_of_text c.tables x us) greatest.alone greatest.with_marks (no_selector_in_text c.tables x (u ∷ us) regular.has_no_selector)
    ∙ text_in_full c x (u ∷ us) ends same regular.in_font)

-- the normalised list of a regular text, from its full expansion
abbrev from_expansion : Normalizer → Item → List ℕ → List Item
from_expansion c x us = (composition_if (is_composing c.mode) c (joiners_shown (ordered_list c.reorders (map (piece_of c x) us)).items)).items

normalized_in_full : (c : Normalizer) (x : Item) (us : List ℕ) → EndWithin (split_of c.tables) 8 → SplitsAsUnicode c → ExpandsGreatest c → IsRegular c us
    → (normalized_items c (items_of_text c.tables x us)).items ≡ from_expansion c x (full_text c.tables us)
unfolding normalized_items arranged_marks
normalized_in_full c x us ends same greatest regular =
    ap (λ xs. (arranged_marks (has_later_mark (items_of_text c.tables x us)) c xs).items) (expanded_in_full c x us ends same greatest regular)
    ∙ ap (λ b. (arranged_marks b c (map (piece_of c x) (full_text c.tables us))).items) (later_mark_of_text c.tables x us ∙ regular.has_later_mark)

pub equivalents_normalize_alike : EquivalentsNormalizeAlike
equivalents_normalize_alike c x us vs ends lawful same greatest equivalent first second =
    let class = λ (u : ℕ). class_of_piece c x u lawful.classes_are_of_marks in
    let order = order_map (piece_of c x) mark_class (class_of c.tables) (full_text c.tables us) (full_text c.tables vs) class (equivalents_have_one_order c.tables ends lawful us vs equivalent) in
    let short_first = short_map (piece_of c x) mark_class (class_of c.tables) 0 (full_text c.tables us) class first.has_short_runs in
    let short_second = short_map (piece_of c x) mark_class (class_of c.tables) 0 (full_text c.tables vs) class second.has_short_runs in
    let ordered = ordered_alike c.reorders (map (piece_of c x) (full_text c.tables us)) (map (piece_of c x) (full_text c.tables vs)) short_first short_second order in
    normalized_in_full c x us ends same greatest first
    ∙ (ap (λ xs. (composition_if (is_composing c.mode) c (joiners_shown xs)).items) ordered
    ∙ sym (normalized_in_full c x vs ends same greatest second))
