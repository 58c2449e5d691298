-- The characters of a plain text as the font wants them.
use Rattle.std.proofs.Common.{ℕ, zero, suc, ◌≡◌, ◌≤◌, ◌+◌, ◌-◌, ◌++◌, ◌&&◌, ◌||◌, ◌==◌, Bool, true, false, if◌then◌else◌, nat_le, List, [], ◌∷◌, Ok, map, length, refl, sym, ap, subst, ◌∙◌, arith}
use Rattle.std.specs.Prelude.{bit_and, drop, slice_range, take, Option, Some, None, is_some}
use Rattle.std.specs.List.{list_any}
use Rattle.std.proofs.lemmas.Bool.{eqb-true}
use Rattle.std.proofs.lemmas.List.{map-append}
use Rattle.std.proofs.lemmas.Bool.Decides.{nat_tests}
use lib.Utf8.{scalar}
use Rattle.buffer_common.specs.declared.direction.Direction.{Direction}
use Rattle.buffer_common.specs.declared.direction.Direction.TheVariants.{LeftToRight}
use Rattle.buffer_tags.specs.declared.feature.Feature.{Feature}
use Rattle.buffer_tags.specs.Feature.{is_global}
use Rattle.buffer_unicode_tables.specs.Tables.{Tables}
use Rattle.buffer_unicode.specs.Character.{is_default_ignorable_character}
use Rattle.layout_face.specs.declared.parts.FaceParts.{FaceParts}
use Rattle.layout_face.specs.Glyphs.{nominal_glyph}
use Rattle.buffer_properties.specs.Properties.{properties_of}
use Rattle.buffer_glyphs.specs.Items.{Item, Position, without_flags}
use Rattle.buffer_core.specs.Readings.{Read, View, always, as_it_is, with_events}
use Rattle.buffer_glyphs.specs.Events.{Break, Concat}
use Rattle.buffer_glyphs.specs.Lemmas.Glyphs.{cut_out}
use Rattle.buffer_core.specs.Masks.{bits_set, is_within, items_set}
use Rattle.buffer_core.specs.Sides.{zero_positions}
use Rattle.layout_map.specs.Compiled.{OtMapValue}
use Rattle.buffer_properties.specs.declared.normal_mode.NormalizationMode.{NormalizationMode}
use Rattle.buffer_properties.specs.declared.normal_mode.NormalizationMode.TheVariants as mode
use Rattle.buffer_glyphs.specs.Rewriting.{in_turn}
use Rattle.buffer_properties.specs.Characters.{is_mark, is_mark_number, visible_item, with_glyph}
use Rattle.buffer_properties.specs.Expanding.{item_expansion, expanded_groups, expanded_item, expanded_list, items_for, whole_item, with_found_glyph}
use Rattle.buffer_properties.specs.Normalizer.{Normalizer, has_character, reach_alone}
use Rattle.buffer_properties.specs.NormalizedList.{arranged_marks, has_later_mark, normalized_items}
use Rattle.buffer_properties.specs.Ordering.{joiner_between, joiners_shown, separates_nothing, with_joiners_shown}
use Rattle.buffer_properties.specs.declared.normal_mode.Reach.TheVariants.{Least}
use Rattle.buffer_properties.specs.SupportedExpansion.{in_pieces}
use Rattle.buffer_stages.specs.Appending.{within_limit, with_arranged}
use Rattle.shape_text.specs.Rotation.{with_rotated_characters}
use Rattle.shape_text.specs.Ranges.{bits_of, shifted_value, with_all_ranges, with_range}
use Rattle.shape_normalize.specs.Rounds.{normalization}
use Rattle.shape_text.specs.Fractions.{around_slash, digits_after, digits_before, first_mask, fraction_items, fractions_to, is_slash_at, last_mask, with_features, with_features_within, with_fractions}
use Rattle.shape_text.specs.declared.fractions.FractionMasks.{FractionMasks}
use Rattle.script_plan.specs.Rules.{ShaperRules}
use Rattle.shape_pipeline.specs.Chains.{only_if}
use Rattle.shape_pipeline.specs.Characters.{characters_chosen, normalizer, turned_to_line}
use Rattle.shape_pipeline.specs.Masks.{fraction_masks, masks_set, ranges_set}
use Rattle.shape_pipeline.specs.Shaping.{Shaping, preprocessing_stage, shaper_masks_set}
use Rattle.shape_laws.specs.PlainTexts.{IsPlainShaping, glyph_of}
use Rattle.shape_laws.proofs.Plain.Texts.{Are, IsPlain, Leads, Stands, always_leads, are_many, are_mapped, both_lead, either, its_glyph, last_leads, leads_as, rests}
use Rattle.shape_laws.proofs.Plain.Begun.{Ordered}
use Rattle.shape_laws.proofs.Plain.Words.{word_mark}
use Rattle.shape_laws.proofs.Chosen.{rotated_view}

-- a character for which a glyph was chosen
pub record Chosen (font : FaceParts) (u : ℕ) (x : Item) : Type 0 where
  pub number : x.number ≡ u
  pub plain : IsPlain font u
  pub word : x.unicode_props ≡ properties_of u
  pub index : x.glyph_index ≡ glyph_of font u

-- items, and as many positions of a kind
pub record Placed (P : ℕ → Item → Type 0) (ps : List Position) (us : List ℕ) (v : View) : Type 0 where
  pub stands : Stands P us v
  pub positions : v.positions ≡ ps

-- ---- the normal form

unmarked : (font : FaceParts) (u : ℕ) (x : Item) → Ordered font u x → is_mark x ≡ false
unmarked font u x o = ap (λ w. is_mark_number (bit_and w 0x1F)) o.word ∙ word_mark false u o.plain.shown ∙ o.plain.unmarked

found_if : (b : Bool) (o : Option ℕ) (g : ℕ) → b ≡ true → o ≡ Some g → (if b then o else None) ≡ Some g
found_if b o g e f = let P : Bool → Type 0 = λ c. (if c then o else None) ≡ Some g in subst P (sym e) f

-- the font's glyph, as normalising finds it
found : (p : Shaping) (u n : ℕ) → IsPlain p.font u → n ≡ u → (normalizer p).glyph_of n ≡ Some (glyph_of p.font u)
found p u n plain e = ap (normalizer p).glyph_of e ∙ found_if (scalar u) (nominal_glyph u p.font) (glyph_of p.font u) plain.character (its_glyph p.font u plain)

whole_if : (c : Normalizer) (x : Item) (o : Option (List ℕ)) → o ≡ None → items_for c x o ≡ whole_item c x ∷ []
whole_if c x o e = ap (items_for c x) e

not_parted : (b : Bool) (o : Option (List ℕ)) → b ≡ true → (if b then None else o) ≡ None
not_parted true o e = refl
not_parted false o e = cc

expanded_alone : (p : Shaping) (u : ℕ) (x : Item) → p.traits.normalization ≡ mode.Auto → Ordered p.font u x → (item_expansion (normalizer p) (reach_alone p.traits.normalization) x).items ≡ with_glyph (glyph_of p.font u) x ∷ []
unfolding expanded_item
expanded_alone p u x auto o =
    let c = normalizer p in
    let has : has_character c x.number ≡ true = ap is_some (found p u x.number o.plain o.number) in
    let R : NormalizationMode → Type 0 = λ m. expanded_item c (reach_alone m) x ≡ with_glyph (glyph_of p.font u) x ∷ [] in
    let there : expanded_item c Least x ≡ with_glyph (glyph_of p.font u) x ∷ [] =
    whole_if c x _ (not_parted (has_character c x.number) (in_pieces Least (has_character c) c.splits x.number) has)
    ∙ ap (λ g. with_found_glyph c x g ∷ []) (found p u x.number o.plain o.number) in
    subst R (sym auto) there

abbrev chosen_item : FaceParts → Item → Item
chosen_item font x = with_glyph (glyph_of font x.number) x

chosen_same : (font : FaceParts) (u : ℕ) (x : Item) → x.number ≡ u → with_glyph (glyph_of font u) x ≡ chosen_item font x
chosen_same font u x e = ap (λ n. with_glyph (glyph_of font n) x) (sym e)

groups_alone : (p : Shaping) (u : ℕ) (x : Item) (us : List ℕ) (xs : List Item) → p.traits.normalization ≡ mode.Auto → Ordered p.font u x → Are (Ordered p.font) us xs
    → (in_turn (expanded_groups (normalizer p) x [] xs)).items ≡ map (chosen_item p.font) (x ∷ xs)
groups_alone p u x [] [] auto o a = ap (λ ys. ys ++ []) (expanded_alone p u x auto o) ∙ ap (λ y. y ∷ []) (chosen_same p.font u x o.number)
groups_alone p u x [] (y ∷ ys) auto o a = absurd a
groups_alone p u x (w ∷ us) [] auto o a = absurd a
groups_alone p u x (w ∷ us) (y ∷ ys) auto o a =
    let c = normalizer p in
    let G : Bool → Type 0 = λ b. (in_turn (if b then expanded_groups c x (y ∷ []) ys else item_expansion c (reach_alone p.traits.normalization) x ∷ expanded_groups c y [] ys)).items ≡ map (chosen_item p.font) (x ∷ y ∷ ys) in
    let first = expanded_alone p u x auto o ∙ ap (λ z. z ∷ []) (chosen_same p.font u x o.number) in
    let rest = groups_alone p w y us ys auto a.0 a.1 in
    let both : (item_expansion c (reach_alone p.traits.normalization) x).items ++ (in_turn (expanded_groups c y [] ys)).items ≡ map (chosen_item p.font) (x ∷ y ∷ ys) =
    ap (λ zs. zs ++ (in_turn (expanded_groups c y [] ys)).items) first ∙ ap (λ zs. chosen_item p.font x ∷ zs) rest in
    subst G (sym (unmarked p.font w y a.0)) both

expanded_plain : (p : Shaping) (us : List ℕ) (xs : List Item) → p.traits.normalization ≡ mode.Auto → Are (Ordered p.font) us xs → (expanded_list (normalizer p) xs).items ≡ map (chosen_item p.font) xs
expanded_plain p [] [] auto a = refl
expanded_plain p [] (x ∷ xs) auto a = absurd a
expanded_plain p (u ∷ us) [] auto a = absurd a
expanded_plain p (u ∷ us) (x ∷ xs) auto a = groups_alone p u x us xs auto a.0 a.1

none_marked : (font : FaceParts) (us : List ℕ) (xs : List Item) → Are (Ordered font) us xs → list_any is_mark xs ≡ false
none_marked font [] [] a = refl
none_marked font [] (x ∷ xs) a = absurd a
none_marked font (u ∷ us) [] a = absurd a
none_marked font (u ∷ us) (x ∷ xs) a = rw (unmarked font u x a.0, none_marked font us xs a.1) refl

none_later : (font : FaceParts) (us : List ℕ) (xs : List Item) → Are (Ordered font) us xs → has_later_mark xs ≡ false
none_later font [] [] a = refl
none_later font [] (x ∷ xs) a = absurd a
none_later font (u ∷ us) [] a = absurd a
none_later font (u ∷ us) (x ∷ xs) a = none_marked font us xs a.1

-- a joiner is ignorable
joiner_if : (u : ℕ) (b : Bool) → (u == 0x034F) ≡ b → is_default_ignorable_character u ≡ false → (u == 0x034F) ≡ false
joiner_if u true e h = let same : u ≡ 0x034F = eqb-true u 0x034F e in let there : is_default_ignorable_character 0x034F ≡ false = ap is_default_ignorable_character (sym same) ∙ h in cc
joiner_if u false e h = e

no_joiner : (u : ℕ) → is_default_ignorable_character u ≡ false → (u == 0x034F) ≡ false
no_joiner u h = joiner_if u (u == 0x034F) refl h

plain_between : (b c : Bool) (x : Item) → b ≡ false → (if b && c then visible_item x else x) ≡ x
plain_between true c x e = cc
plain_between false c x e = refl

between : (font : FaceParts) (u : ℕ) (before x after : Item) → Chosen font u x → joiner_between before x after ≡ x
between font u before x after g = plain_between (x.number == 0x034F) (separates_nothing before after) x (ap (λ n. n == 0x034F) g.number ∙ no_joiner u g.plain.shown)

behind : (font : FaceParts) (before : Item) (us : List ℕ) (xs : List Item) → Are (Chosen font) us xs → with_joiners_shown before xs ≡ xs
behind font before [] [] a = refl
behind font before [] (x ∷ xs) a = absurd a
behind font before (u ∷ us) [] a = absurd a
behind font before (u ∷ []) (x ∷ []) a = refl
behind font before (u ∷ []) (x ∷ y ∷ ys) a = absurd a.1
behind font before (u ∷ w ∷ us) (x ∷ []) a = absurd a.1
behind font before (u ∷ w ∷ us) (x ∷ y ∷ ys) a = rw (between font u before x y a.0, behind font x (w ∷ us) (y ∷ ys) a.1) refl

joiners_plain : (font : FaceParts) (us : List ℕ) (xs : List Item) → Are (Chosen font) us xs → joiners_shown xs ≡ xs
joiners_plain font [] [] a = refl
joiners_plain font [] (x ∷ xs) a = absurd a
joiners_plain font (u ∷ us) [] a = absurd a
joiners_plain font (u ∷ us) (x ∷ xs) a = ap (λ zs. x ∷ zs) (behind font x us xs a.1)

as_chosen : (font : FaceParts) (u : ℕ) (x : Item) → Ordered font u x → Chosen font u (chosen_item font x)
as_chosen font u x o = record { number = o.number; plain = o.plain; word = o.word; index = ap (glyph_of font) o.number }

normalized_plain : (p : Shaping) (us : List ℕ) (xs : List Item) → p.traits.normalization ≡ mode.Auto → Are (Ordered p.font) us xs → (normalized_items (normalizer p) xs).items ≡ map (chosen_item p.font) xs
unfolding normalized_items arranged_marks
normalized_plain p us xs auto a =
    let c = normalizer p in
    let ys = (expanded_list c xs).items in
    let M : Bool → Type 0 = λ b. (arranged_marks b c ys).items ≡ map (chosen_item p.font) xs in
    let e : ys ≡ map (chosen_item p.font) xs = expanded_plain p us xs auto a in
    let there : joiners_shown ys ≡ map (chosen_item p.font) xs = ap joiners_shown e ∙ joiners_plain p.font us (map (chosen_item p.font) xs) (are_mapped (Ordered p.font) (Chosen p.font) (chosen_item p.font) (as_chosen p.font) us xs a) in
    subst M (sym (none_later p.font us xs a)) there

limit_kept : (n : ℕ) (v : View) (r : Read) → n ≤ v.max_len → within_limit n v r ≡ Ok r
limit_kept n v r le =
    let holds : nat_le n v.max_len ≡ true = grind (arith, nat_tests, le) in
    rw holds refl

normal_leads : (p : Shaping) (us : List ℕ) → p.traits.normalization ≡ mode.Auto → Leads (Stands (Ordered p.font) us) (Placed (Chosen p.font) (zero_positions (length us)) us) (normalization (normalizer p))
normal_leads p us auto v s =
    let c = normalizer p in
    let ys = map (chosen_item p.font) v.items in
    let are = are_mapped (Ordered p.font) (Chosen p.font) (chosen_item p.font) (as_chosen p.font) us v.items s.items in
    let many : length ys ≡ length us = are_many (Chosen p.font) us ys are in
    let counted : length (expanded_list c v.items).items ≡ length us = ap length (expanded_plain p us v.items auto s.items) ∙ many in
    let room : length (expanded_list c v.items).items ≤ v.max_len = let le = s.room in omega (arith, counted, le) in
    let same : (normalized_items c v.items).items ≡ ys = normalized_plain p us v.items auto s.items in
    let P : List Item → Type 0 = λ zs. Placed (Chosen p.font) (zero_positions (length us)) us (record v { items = zs; positions = zero_positions (length zs) }) in
    let there : P ys = record { stands = record { items = are; line = s.line; scratch_flags = s.scratch_flags; room = s.room }; positions = ap zero_positions many } in
    (with_arranged (normalized_items c v.items) v, (limit_kept (length (expanded_list c v.items).items) v (with_arranged (normalized_items c v.items) v) room, subst P (sym same) there))

-- ---- a shaper without hooks, and a line from left to right

preprocessed_same : (p : Shaping) → IsPlainShaping p → (v : View) → preprocessing_stage p v ≡ as_it_is v
preprocessed_same p plain v = ap (λ (r : ShaperRules). r.preprocesses p.font p.tables p.settings v) plain.rules

pub masks_same : (p : Shaping) → IsPlainShaping p → (v : View) → shaper_masks_set p v ≡ as_it_is v
masks_same p plain v = ap (λ (r : ShaperRules). r.sets_masks p.font p.tables p.settings v) plain.rules

pub chosen_leads : (p : Shaping) (us : List ℕ) → IsPlainShaping p → Leads (Stands (Ordered p.font) us) (Placed (Chosen p.font) (zero_positions (length us)) us) (characters_chosen p)
unfolding characters_chosen
chosen_leads p us plain =
    let O = Stands (Ordered p.font) us in
    let C = Placed (Chosen p.font) (zero_positions (length us)) us in
    both_lead O O C (preprocessing_stage p) (always (turned_to_line p) ∷ normalization (normalizer p) ∷ []) (leads_as O O as_it_is (preprocessing_stage p) (preprocessed_same p plain) (rests O))
    (both_lead O O C (always (turned_to_line p)) (normalization (normalizer p) ∷ []) (always_leads O O (turned_to_line p) (λ v s. subst O (sym (rotated_view p.tables p.font p.direction _ p.choices.has_vert v plain.line)) s))
    (last_leads O C (normalization (normalizer p)) (normal_leads p us plain.mode)))

-- ---- masks, which no glyph of a font without lookups depends on

-- an item but for its mask
abbrev bare : Item → Item
bare x = record x { mask = 0 }

bare_twice : (k : Item → Item) → ((x : Item) → bare (k x) ≡ bare x) → (xs : List Item) → map bare (map k xs) ≡ map bare xs
bare_twice k same [] = refl
bare_twice k same (x ∷ xs) = rw (same x, bare_twice k same xs) refl

bare_three : (xs ys zs ws : List Item) → map bare ys ≡ map bare ws → map bare (xs ++ ys ++ zs) ≡ map bare (xs ++ ws ++ zs)
bare_three xs ys zs ws e = simp (map-append, e)

bare_within : (mask from to : ℕ) (xs : List Item) → from ≤ to → map bare (with_features_within mask from to xs) ≡ map bare xs
bare_within mask from to xs le =
    bare_three (take from xs) (map (with_features mask) (slice_range xs from to)) (drop to xs) (slice_range xs from to) (bare_twice (with_features mask) (λ x. refl) (slice_range xs from to)) ∙ ap (map bare) (cut_out from to xs le)

bare_fraction : (d : Direction) (m : FractionMasks) (at before after : ℕ) (xs : List Item) → map bare (fraction_items d m (at - before) at (at + 1 + after) xs) ≡ map bare xs
bare_fraction d m at before after xs =
    let first = with_features_within (first_mask d m) (at - before) at xs in
    bare_within (last_mask d m) (at + 1) (at + 1 + after) (with_features_within m.frac at (at + 1) first) (omega arith)
    ∙ bare_within m.frac at (at + 1) first (omega arith)
    ∙ bare_within (first_mask d m) (at - before) at xs (omega arith)

from_bare : (font : FaceParts) (us : List ℕ) (xs : List Item) → Are (Chosen font) us (map bare xs) → Are (Chosen font) us xs
from_bare font [] [] a = tt
from_bare font [] (x ∷ xs) a = absurd a
from_bare font (u ∷ us) [] a = absurd a
from_bare font (u ∷ us) (x ∷ xs) a = let g = a.0 in (record { number = g.number; plain = g.plain; word = g.word; index = g.index }, from_bare font us xs a.1)

-- items with other masks are as many, for the same characters and glyphs
same_chosen : (font : FaceParts) (us : List ℕ) (xs ys : List Item) → map bare ys ≡ map bare xs → Are (Chosen font) us xs → Are (Chosen font) us ys
same_chosen font us xs ys e a =
    from_bare font us ys (subst (Are (Chosen font) us) (sym e) (are_mapped (Chosen font) (Chosen font) bare (λ u x g. record { number = g.number; plain = g.plain; word = g.word; index = g.index }) us xs a))

masked_stand : (font : FaceParts) (ps : List Position) (us : List ℕ) (v : View) (ys : List Item) → map bare ys ≡ map bare v.items → Placed (Chosen font) ps us v → Placed (Chosen font) ps us (record v { items = ys })
masked_stand font ps us v ys e c =
    let s = c.stands in
    record { stands = record { items = same_chosen font us v.items ys e s.items; line = s.line; scratch_flags = s.scratch_flags; room = s.room }; positions = c.positions }

around_stand : (font : FaceParts) (ps : List Position) (us : List ℕ) (m : FractionMasks) (at before after : ℕ) (v : View) → Placed (Chosen font) ps us v → (none : Bool)
    → Placed (Chosen font) ps us (if none then with_events (Concat at (at + 1) ∷ []) v else with_events (Break (at - before) (at + 1 + after) ∷ []) (record v { items = fraction_items v.direction m (at - before) at (at + 1 + after) v.items })).view
around_stand font ps us m at before after v c true = c
around_stand font ps us m at before after v c false = masked_stand font ps us v _ (bare_fraction v.direction m at before after v.items) c

slash_stand : (font : FaceParts) (ps : List Position) (us : List ℕ) (m : FractionMasks) (at : ℕ) (v : View) → Placed (Chosen font) ps us v → (slash : Bool)
    → Placed (Chosen font) ps us (if slash then around_slash m at (digits_before at v.items) (digits_after at v.items) v else with_events [] v).view
slash_stand font ps us m at v c true =
    let before = digits_before at v.items in
    let after = digits_after at v.items in
    around_stand font ps us m at before after v c (before == 0 || after == 0)
slash_stand font ps us m at v c false = c

fractions_stand : (font : FaceParts) (ps : List Position) (us : List ℕ) (m : FractionMasks) (n : ℕ) (v : View) → Placed (Chosen font) ps us v → Placed (Chosen font) ps us (fractions_to m n v).view
fractions_stand font ps us m zero v c = c
fractions_stand font ps us m (suc n) v c =
    let w = (fractions_to m n v).view in
    slash_stand font ps us m n w (fractions_stand font ps us m n v c) (is_slash_at n w.items)

pub masks_lead : (p : Shaping) (ps : List Position) (us : List ℕ) → IsPlainShaping p → Leads (Placed (Chosen p.font) ps us) (Placed (Chosen p.font) ps us) (masks_set p)
unfolding masks_set
masks_lead p ps us plain =
    let C = Placed (Chosen p.font) ps us in
    let slashes = with_fractions (fraction_masks p.map) in
    both_lead C C C (only_if p.choices.has_frac (always slashes)) (shaper_masks_set p ∷ [])
    (either C p.choices.has_frac (always slashes) (always_leads C C slashes (λ v c. fractions_stand p.font ps us (fraction_masks p.map) (length v.items) v c)))
    (last_leads C C (shaper_masks_set p) (leads_as C C as_it_is (shaper_masks_set p) (masks_same p plain) (rests C)))

bare_if : (b : Bool) (x y : Item) → bare y ≡ bare x → bare (if b then y else x) ≡ bare x
bare_if true x y e = e
bare_if false x y e = refl

bare_next : (y x : Item) (ys xs : List Item) → bare y ≡ bare x → map bare ys ≡ map bare xs → map bare (y ∷ ys) ≡ map bare (x ∷ xs)
bare_next y x ys xs e f = ap (λ z. z ∷ map bare ys) e ∙ ap (λ zs. bare x ∷ zs) f

bare_set : (value under start end : ℕ) (ns : List ℕ) (xs : List Item) → map bare (items_set value under start end ns xs) ≡ map bare xs
bare_set value under start end [] xs = refl
bare_set value under start end (n ∷ ns) [] = refl
bare_set value under start end (n ∷ ns) (x ∷ xs) =
    let y : Item = record x { mask = without_flags (bits_set value under x.mask) } in
    bare_next (if is_within start end n then y else x) x (items_set value under start end ns xs) xs (bare_if (is_within start end n) x y refl) (bare_set value under start end ns xs)

range_if : (b : Bool) (xs ys : List Item) → map bare ys ≡ map bare xs → map bare (if b then xs else ys) ≡ map bare xs
range_if true xs ys e = refl
range_if false xs ys e = e

bare_ranges : (m : OtMapValue) (fs : List Feature) (ns : List ℕ) (xs : List Item) → map bare (with_all_ranges m fs ns xs) ≡ map bare xs
bare_ranges m [] ns xs = refl
bare_ranges m (f ∷ fs) ns xs =
    bare_ranges m fs ns (with_range m f ns xs) ∙ range_if (is_global f) xs (items_set (shifted_value f m) (bits_of f m) f.start f.end ns xs) (bare_set (shifted_value f m) (bits_of f m) f.start f.end ns xs)

pub ranges_lead : (p : Shaping) (ps : List Position) (ns us : List ℕ) → Leads (Placed (Chosen p.font) ps us) (Placed (Chosen p.font) ps us) (ranges_set p ns)
ranges_lead p ps ns us v c =
    let xs = with_all_ranges p.map p.features ns v.items in
    (with_events [] (record v { items = xs }), (refl, masked_stand p.font ps us v xs (bare_ranges p.map p.features ns v.items) c))
