-- Substitutions of one item are local: single and multiple substitution, and alternates.
use Rattle.std.proofs.Common.{ℕ, suc, ◌≡◌, ◌≤◌, ◌<◌, ◌+◌, ◌-◌, ◌==◌, ◌&&◌, ◌⊎◌, inl, inr, Bool, true, false, nat_le, min, if◌then◌else◌, List, [], ◌∷◌, ◌++◌, Option, Some, None, length, get_or, map, arith, refl, ap, sym, subst, ◌∙◌}
use Rattle.std.specs.Prelude.{◌%◌}
use Rattle.std.proofs.lemmas.Bool.{cases_lt}
use Rattle.std.proofs.lemmas.Grind.{common_steps}
use Rattle.std.proofs.lemmas.List.{length-append}
use Rattle.std.proofs.lemmas.Option.{slice_get-get_or}
use Rattle.buffer_glyphs.specs.declared.cause.ShapeCause.TheVariants.{TooLong}
use Rattle.buffer_glyphs.specs.Items.{Item}
use Rattle.buffer_glyphs.specs.LigatureWords.{component_word, lig_id}
use Rattle.buffer_glyphs.specs.Events.{Event, Replace, Delete, Break, StrictBreak}
use Rattle.buffer_glyphs.specs.Rewriting.{shifted_event}
use Rattle.layout_face.specs.declared.parts.GlyphDefinition.{GlyphDefinition}
use Rattle.layout_common.specs.Rows.{value_of}
use Rattle.layout_common.specs.declared.glyph_row.GlyphRow.{GlyphRow}
use Rattle.layout_tables.specs.declared.sequence.SequenceRow.{SequenceRow}
use Rattle.layout_tables.specs.Substitutions.{glyphs_of}
use Rattle.buffer_stages.specs.Actions.{Cut, whole, Acts, Refuses, later}
use Rattle.layout_match.specs.Applied.{next_random}
use Rattle.layout_gsub.specs.Replacements.{substituted_item, cut_with_substitute, single_substitution, single_subtable}
use Rattle.layout_gsub.specs.Multiples.{component_props, component_item, component_items, cut_with_multiple, multiple_substitution, neighbours_flagged, deletion, covered_sequence, multiple_subtable}
use Rattle.layout_gsub.specs.Alternates.{feature_value, alternate_of_value, is_drawn, drawn_alternate, alternate_set, alternate_subtable}
use Rattle.buffer_parts.specs.Breaks.Concat.{without_concats}
use Rattle.buffer_parts.specs.Breaks.Sides.{AreBounded}
use Rattle.buffer_parts.specs.Breaks.Fragments.{with_ligature_renamed, AreGiven, IsNaming}
use Rattle.layout_laws.specs.Breaks.Frames.{Outside, Inside, named_items, framed_cut, IsFramed}
use Rattle.layout_laws.specs.Breaks.Binding.{BindOutside}
use Rattle.layout_laws.specs.Breaks.Local.{AnyPositions, Binds, IsBeside, IsLocal}
use Rattle.layout_laws.proofs.BreakLemmas.Words.{number_named, number_of_component, component_word_named}
use Rattle.layout_laws.proofs.BreakLemmas.Frames.{front_joined, front_long, rest_long, whole_long, given_both, still_framed, same_extended}
use Rattle.layout_laws.proofs.BreakLemmas.Outcomes.{limited_beside, at_first_local, IsLocalAt}
use Rattle.buffer_facts.proofs.Numbers.{same_by_test as equal_test, test_of_same as test_equal}

-- ---- tests of numbers

-- tests that imply each other have one answer
pub same_test : (a b c d : ℕ) → (a ≡ b → c ≡ d) → (c ≡ d → a ≡ b) → (a == b) ≡ (c == d)
same_test a b c d f g = by_tests (a == b) (c == d) refl refl
  where
    by_tests : (t u : Bool) → (a == b) ≡ t → (c == d) ≡ u → t ≡ u
    by_tests true true p q = refl
    by_tests false false p q = refl
    by_tests true false p q = sym (test_equal c d (f (equal_test a b p))) ∙ q
    by_tests false true p q = sym p ∙ test_equal a b (g (equal_test c d q))

-- 0 alone has the name 0
pub none_named : (name : ℕ → ℕ) (last given n : ℕ) → IsNaming name last given → n ≤ last → (name n == 0) ≡ (n == 0)
none_named name last given n h le =
    same_test (name n) 0 n 0 (λ e. h.apart n 0 le (omega arith) (e ∙ sym h.none)) (λ e. ap name e ∙ h.none)

-- ---- outcomes inside

-- a rule acted inside, with the same names
pub made_beside : (o : Outside) (s : Inside) (c w d : Cut) (es fs : List Event) → d.lig_id ≡ c.lig_id → 0 < length (whole d) → (0 < length o.after → length c.front < length (whole d)) → w ≡ framed_cut o s d → IsFramed o s d → without_concats es ≡ map (shifted_event (length o.before)) (without_concats fs) → AreBounded (without_concats fs) (length (whole c))
    → IsBeside AnyPositions o s c (Acts w es) (Acts d fs)
made_beside o s c w d es fs number some reach is frames events bounded = λ a b. inr (record { inside = s; cut_is = is; frames = frames; extended = same_extended s c d number; some = some; reach = reach; placed = tt; events = events; bounded = bounded })

-- ---- single substitution

substituted_beside : (gdef : GlyphDefinition) (glyph : ℕ) → IsLocalAt AnyPositions (λ x. single_substitution gdef (Some glyph))
substituted_beside gdef glyph o s c x xs h p =
    let g = substituted_item gdef glyph in
    let before : Cut = record c { rest = x ∷ xs } in
    let after : Cut = record c { front = c.front ++ g x ∷ []; rest = xs } in
    limited_beside AnyPositions o s before 1 (framed_cut o s before) before (Acts (cut_with_substitute gdef glyph (framed_cut o s before)) []) (Acts after [])
    (made_beside o s before (cut_with_substitute gdef glyph (framed_cut o s before)) after [] [] refl (omega (arith, length-append (c.front ++ g x ∷ []) xs, length-append c.front (g x ∷ []))) (λ there. omega (arith, length-append (c.front ++ g x ∷ []) xs, length-append c.front (g x ∷ [])))
    (ap (λ (ys : List Item). record (framed_cut o s after) { front = ys }) (front_joined o s c.front (g x ∷ [])))
    (still_framed o s before after refl (given_both c.lig_id c.front (g x ∷ []) h.front (h.rest.0, tt)) h.rest.1 h) refl tt)

pub single_at : (gdef : GlyphDefinition) (of : ℕ → Option ℕ) → IsLocalAt AnyPositions (λ x. single_substitution gdef (of x.number))
single_at gdef of o s c x xs h p = by_glyph (of x.number)
  where
    by_glyph : (glyph : Option ℕ) → IsBeside AnyPositions o s (record c { rest = x ∷ xs }) (single_substitution gdef glyph (framed_cut o s (record c { rest = x ∷ xs }))) (single_substitution gdef glyph (record c { rest = x ∷ xs }))
    by_glyph None = (refl, refl)
    by_glyph (Some glyph) = substituted_beside gdef glyph o s c x xs h p

pub single_local : (gdef : GlyphDefinition) (rows : List (GlyphRow ℕ)) → IsLocal AnyPositions (single_subtable gdef rows)
single_local gdef rows = at_first_local AnyPositions (λ x. single_substitution gdef (value_of x.number rows)) (single_at gdef (λ n. value_of n rows))

-- ---- multiple substitution

component_named_as : (s : Inside) (last : ℕ) → IsNaming s.name last s.lig_id → (gdef : GlyphDefinition) (x : Item) (i glyph : ℕ) → lig_id x ≤ last → component_item gdef (with_ligature_renamed s.name x) i glyph ≡ with_ligature_renamed s.name (component_item gdef x i glyph)
component_named_as s last names gdef x i glyph le =
    let y = with_ligature_renamed s.name x in
    let put : ℕ → Item = λ w. record x { number = glyph; glyph_props = component_props gdef glyph x; lig_props = w } in
    let same : (lig_id y == 0) ≡ (lig_id x == 0) = ap (λ (n : ℕ). n == 0) (number_named s.name x) ∙ none_named s.name last s.lig_id (lig_id x) names le in
    ap (λ (t : Bool). put (if t then component_word 0 i else y.lig_props)) same ∙ by_test (lig_id x == 0)
  where
    by_test : (t : Bool) → record x { number = glyph; glyph_props = component_props gdef glyph x; lig_props = if t then component_word 0 i else (with_ligature_renamed s.name x).lig_props }
        ≡ with_ligature_renamed s.name (record x { number = glyph; glyph_props = component_props gdef glyph x; lig_props = if t then component_word 0 i else x.lig_props })
    by_test true =
        let z : Item = record x { number = glyph; glyph_props = component_props gdef glyph x } in
        ap (λ (n : ℕ). record z { lig_props = component_word n i }) (sym names.none) ∙ sym (component_word_named s.name 0 i z)
    by_test false = refl

components_named_as : (s : Inside) (last : ℕ) → IsNaming s.name last s.lig_id → (gdef : GlyphDefinition) (x : Item) (i : ℕ) (glyphs : List ℕ) → lig_id x ≤ last → component_items gdef (with_ligature_renamed s.name x) i glyphs ≡ named_items s (component_items gdef x i glyphs)
components_named_as s last names gdef x i [] le = refl
components_named_as s last names gdef x i (glyph ∷ glyphs) le =
    ap (λ (y : Item). y ∷ component_items gdef (with_ligature_renamed s.name x) (i + 1) glyphs) (component_named_as s last names gdef x i glyph le)
    ∙ ap (λ (ys : List Item). with_ligature_renamed s.name (component_item gdef x i glyph) ∷ ys) (components_named_as s last names gdef x (i + 1) glyphs le)

component_given : (last : ℕ) (gdef : GlyphDefinition) (x : Item) (i glyph : ℕ) → lig_id x ≤ last → lig_id (component_item gdef x i glyph) ≤ last
component_given last gdef x i glyph le = by_test (lig_id x == 0)
  where
    by_test : (t : Bool) → lig_id (record x { number = glyph; glyph_props = component_props gdef glyph x; lig_props = if t then component_word 0 i else x.lig_props }) ≤ last
    by_test true = let none = number_of_component 0 i (record x { number = glyph; glyph_props = component_props gdef glyph x }) in omega (arith, none)
    by_test false = le

pub components_long : (gdef : GlyphDefinition) (x : Item) (i : ℕ) (glyphs : List ℕ) → length (component_items gdef x i glyphs) ≡ length glyphs
components_long gdef x i [] = refl
components_long gdef x i (glyph ∷ glyphs) = ap (λ (n : ℕ). suc n) (components_long gdef x (i + 1) glyphs)

components_given : (last : ℕ) (gdef : GlyphDefinition) (x : Item) (i : ℕ) (glyphs : List ℕ) → lig_id x ≤ last → AreGiven last (component_items gdef x i glyphs)
components_given last gdef x i [] le = tt
components_given last gdef x i (glyph ∷ glyphs) le = (component_given last gdef x i glyph le, components_given last gdef x (i + 1) glyphs le)

multiplied_beside : (gdef : GlyphDefinition) (glyphs : List ℕ) → 0 < length glyphs → IsLocalAt AnyPositions (λ x. multiple_substitution gdef glyphs)
multiplied_beside gdef glyphs some o s c x xs h p =
    let before : Cut = record c { rest = x ∷ xs } in
    let ys : List Item = component_items gdef x 0 glyphs in
    let after : Cut = record c { front = c.front ++ ys; rest = xs } in
    let w : Cut = cut_with_multiple gdef glyphs (framed_cut o s before) in
    let at = front_long o s c.front in
    limited_beside AnyPositions o s before (length glyphs) (framed_cut o s before) before (Acts w (Replace (length (o.before ++ named_items s c.front)) 1 (length glyphs) ∷ [])) (Acts after (Replace (length c.front) 1 (length glyphs) ∷ []))
    (made_beside o s before w after (Replace (length (o.before ++ named_items s c.front)) 1 (length glyphs) ∷ []) (Replace (length c.front) 1 (length glyphs) ∷ []) refl (omega (arith, some, components_long gdef x 0 glyphs, length-append (c.front ++ ys) xs, length-append c.front ys)) (λ there. omega (arith, some, components_long gdef x 0 glyphs, length-append (c.front ++ ys) xs, length-append c.front ys))
    (ap (λ (zs : List Item). record (framed_cut o s after) { front = (o.before ++ named_items s c.front) ++ zs }) (components_named_as s c.lig_id h.names gdef x 0 glyphs h.rest.0) ∙ ap (λ (zs : List Item). record (framed_cut o s after) { front = zs }) (front_joined o s c.front ys))
    (still_framed o s before after refl (given_both c.lig_id c.front ys h.front (components_given c.lig_id gdef x 0 glyphs h.rest.0)) h.rest.1 h)
    (ap (λ (n : ℕ). Replace n 1 (length glyphs) ∷ []) at)
    ((omega (arith, length-append c.front (x ∷ xs)), omega (arith, length-append c.front (x ∷ xs))), tt))

-- ---- deletion

-- the range that a deletion flags reaches what is outside, or is that of the fragment: `left` items before it, of its own
-- `front` before the cut and `back` after the first there, and `right` after it
deletion_reaches : (left front back right all size : ℕ) (es : List Event) → 0 < left + right → all ≡ left + front → size ≡ suc back + right
    → BindOutside left (front + suc back) right (StrictBreak (all - 1) (all + min 2 size) ∷ es)
    ⊎ ((all - 1 ≡ left + (front - 1)) × (all + min 2 size ≡ left + (front + min 2 (suc back))) × (0 < front + back) × (0 < right → 0 < back))
deletion_reaches left front back right all size es there at long = elim (cases_lt 0 front) [
  | inl some ↦ on_right (omega (arith, some, at)) (inl some)
  | inr none ↦ elim (cases_lt 0 left) [ inl some ↦ inl (inl (inl (omega (arith, none, some, at), omega (arith, none, some, at, long), omega (arith, none, at, long)))) | inr few ↦ on_right (omega (arith, none, few, at)) (inr few) ]
]
  where
    on_right : all - 1 ≡ left + (front - 1) → (0 < front) ⊎ (left ≤ 0) → BindOutside left (front + suc back) right (StrictBreak (all - 1) (all + min 2 size) ∷ es) ⊎ ((all - 1 ≡ left + (front - 1)) × (all + min 2 size ≡ left + (front + min 2 (suc back))) × (0 < front + back) × (0 < right → 0 < back))
    on_right same near = elim (cases_lt 0 back) [
      | inl some ↦ inr (same, omega (arith, some, at, long), omega (arith, some), λ r. some)
      | inr none ↦ elim (cases_lt 0 right) [ inl some ↦ inl (inl (inr (omega (arith, none, some, at), omega (arith, none, some, at, long), omega (arith, none, some, at, long)))) | inr few ↦ inr (same, omega (arith, none, few, at, long), elim near [ inl before ↦ omega (arith, before) | inr least ↦ absurd (omega (arith, least, few, there)) ], λ r. absurd (omega (arith, r, few))) ]
    ]

deleted_beside : IsLocalAt AnyPositions (λ x. deletion)
deleted_beside o s c x xs h p =
    let before : Cut = record c { rest = x ∷ xs } in
    let after : Cut = record c { rest = xs } in
    let left = length o.before in
    let front = length c.front in
    let back = length xs in
    let right = length o.after in
    let w : Cut = framed_cut o s before in
    let at : length w.front ≡ left + front = front_long o s c.front in
    let long : length w.rest ≡ suc back + right = rest_long o s (x ∷ xs) in
    let all : length (whole before) ≡ front + suc back = length-append c.front (x ∷ xs) in
    let es : List Event = neighbours_flagged w ∷ Delete (length w.front) ∷ [] in
    λ a b. elim (deletion_reaches left front back right (length w.front) (length w.rest) (Delete (length w.front) ∷ []) h.some at long) [
      | inl binds ↦ inl (subst (λ (n : ℕ). BindOutside left n right es) (sym all) binds)
      | inr same ↦
          made_beside o s before (record (framed_cut o s before) { rest = named_items s xs ++ o.after }) after es (neighbours_flagged before ∷ Delete front ∷ []) refl (omega (arith, same.2, length-append c.front xs)) (λ there. let more = same.3 there in omega (arith, more, length-append c.front xs)) refl (still_framed o s before after refl h.front h.rest.1 h)
          (ap (λ (n : ℕ). StrictBreak n (length w.front + min 2 (length w.rest)) ∷ Delete (length w.front) ∷ []) same.0 ∙ ap (λ (n : ℕ). StrictBreak (left + (front - 1)) n ∷ Delete (length w.front) ∷ []) same.1
          ∙ ap (λ (n : ℕ). StrictBreak (left + (front - 1)) (left + (front + min 2 (suc back))) ∷ Delete n ∷ []) at)
          ((omega (arith, all), omega (arith, all)), (omega (arith, all), tt)) a b
    ]

-- ---- a sequence

sequence_at : (gdef : GlyphDefinition) (glyphs : Option (List ℕ)) → IsLocalAt AnyPositions (λ x. covered_sequence gdef glyphs)
sequence_at gdef None o s c x xs h p = (refl, refl)
sequence_at gdef (Some []) o s c x xs h p = deleted_beside o s c x xs h p
sequence_at gdef (Some (glyph ∷ [])) o s c x xs h p = substituted_beside gdef glyph o s c x xs h p
sequence_at gdef (Some (glyph ∷ next ∷ more)) o s c x xs h p = multiplied_beside gdef (glyph ∷ next ∷ more) (omega arith) o s c x xs h p

pub multiple_local : (gdef : GlyphDefinition) (rows : List SequenceRow) → IsLocal AnyPositions (multiple_subtable gdef rows)
multiple_local gdef rows = at_first_local AnyPositions (λ x. covered_sequence gdef (glyphs_of x.number rows)) (λ o s c x xs h p. sequence_at gdef (glyphs_of x.number rows) o s c x xs h p)

-- ---- alternates

all_binds : (left size right all : ℕ) (es : List Event) → 0 < size → 0 < left + right → all ≡ left + size + right → BindOutside left size right (Break 0 all ∷ es)
all_binds left size right all es some there long = elim (cases_lt 0 left) [
  | inl before ↦ inl (inl (omega (arith, before), omega (arith, some, long), omega (arith, long)))
  | inr none ↦ inl (inr (omega (arith, some), omega (arith, none, there, long), omega (arith, long)))
]

-- an alternate is drawn where there is one
pub drawn_some : (random : Bool) (value : ℕ) (glyphs : List ℕ) → is_drawn random value glyphs ≡ true → 0 < length glyphs
drawn_some random value [] e = absurd (none_drawn random (value == 255) e)
  where
    none_drawn : (a b : Bool) → (a && b && false) ≡ true → ⊥
    none_drawn true true f = cc
    none_drawn true false f = cc
    none_drawn false b f = cc
drawn_some random value (glyph ∷ glyphs) e = omega arith

-- a drawn alternate flags all, so that the fragment is bound to what is outside
drawn_beside : (gdef : GlyphDefinition) (glyphs : List ℕ) → 0 < length glyphs → IsLocalAt AnyPositions (λ x. drawn_alternate gdef glyphs)
drawn_beside gdef glyphs some o s c x xs h p =
    let before : Cut = record c { rest = x ∷ xs } in
    let w : Cut = framed_cut o s before in
    let i = next_random w.random % length glyphs in
    let j = next_random c.random % length glyphs in
    let below_i : i < length glyphs = omega (arith, some) in
    let below_j : j < length glyphs = omega (arith, some) in
    let e : Cut = record w { random = next_random w.random } in
    let f : Cut = record before { random = next_random c.random } in
    subst (λ (g : Option ℕ). IsBeside AnyPositions o s before (later (Break 0 (length (whole w)) ∷ []) (single_substitution gdef g e)) (drawn_alternate gdef glyphs before)) (sym (slice_get-get_or glyphs i 0 below_i))
    (subst (λ (g : Option ℕ). IsBeside AnyPositions o s before (later (Break 0 (length (whole w)) ∷ []) (single_substitution gdef (Some (get_or glyphs i 0)) e)) (later (Break 0 (length (whole before)) ∷ []) (single_substitution gdef g f))) (sym (slice_get-get_or glyphs j 0 below_j))
    (by_tests (cut_with_substitute gdef (get_or glyphs i 0) e) (cut_with_substitute gdef (get_or glyphs j 0) f) (nat_le (length e.front + 1) e.max_len) (nat_le (length f.front + 1) f.max_len)
    (all_binds (length o.before) (length (whole before)) (length o.after) (length (whole w)) [] (omega (arith, length-append c.front (x ∷ xs))) h.some (whole_long o s before))))
  where
    by_tests : (a b : Cut) (t u : Bool) → Binds o (record c { rest = x ∷ xs }) (Break 0 (length (whole (framed_cut o s (record c { rest = x ∷ xs })))) ∷ [])
        → IsBeside AnyPositions o s (record c { rest = x ∷ xs }) (later (Break 0 (length (whole (framed_cut o s (record c { rest = x ∷ xs })))) ∷ []) (if t then Acts a [] else Refuses TooLong)) (later (Break 0 (length (whole (record c { rest = x ∷ xs }))) ∷ []) (if u then Acts b [] else Refuses TooLong))
    by_tests a b true true k = λ m n. inl k
    by_tests a b true false k = tt
    by_tests a b false u k = tt

set_at : (gdef : GlyphDefinition) (random : Bool) (value : ℕ) (set : Option (List ℕ)) → IsLocalAt AnyPositions (λ x. alternate_set gdef random value set)
set_at gdef random value None o s c x xs h p = (refl, refl)
set_at gdef random value (Some glyphs) o s c x xs h p = by_drawn (is_drawn random value glyphs) refl
  where
    single : (o : Outside) (s : Inside) (c : Cut) (x : Item) (xs : List Item) → IsFramed o s (record c { rest = x ∷ xs }) → IsBeside AnyPositions o s (record c { rest = x ∷ xs }) (single_substitution gdef (alternate_of_value value glyphs) (framed_cut o s (record c { rest = x ∷ xs }))) (single_substitution gdef (alternate_of_value value glyphs) (record c { rest = x ∷ xs }))
    single o s c x xs h = single_at gdef (λ n. alternate_of_value value glyphs) o s c x xs h tt

    by_drawn : (t : Bool) → is_drawn random value glyphs ≡ t
        → IsBeside AnyPositions o s (record c { rest = x ∷ xs }) (if t then drawn_alternate gdef glyphs (framed_cut o s (record c { rest = x ∷ xs })) else single_substitution gdef (alternate_of_value value glyphs) (framed_cut o s (record c { rest = x ∷ xs })))
        (if t then drawn_alternate gdef glyphs (record c { rest = x ∷ xs }) else single_substitution gdef (alternate_of_value value glyphs) (record c { rest = x ∷ xs }))
    by_drawn true e = drawn_beside gdef glyphs (drawn_some random value glyphs e) o s c x xs h p
    by_drawn false e = single o s c x xs h

pub alternate_local : (gdef : GlyphDefinition) (random : Bool) (bits : ℕ) (rows : List SequenceRow) → IsLocal AnyPositions (alternate_subtable gdef random bits rows)
alternate_local gdef random bits rows = at_first_local AnyPositions (λ x. alternate_set gdef random (feature_value bits x.mask) (glyphs_of x.number rows)) (λ o s c x xs h p. set_at gdef random (feature_value bits x.mask) (glyphs_of x.number rows) o s c x xs h p)
