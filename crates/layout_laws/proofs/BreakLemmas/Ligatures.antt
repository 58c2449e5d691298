-- Ligature substitution is local.
use Rattle.std.proofs.Common.{ℕ, zero, suc, ◌≡◌, ◌≤◌, ◌<◌, ◌+◌, ◌-◌, ◌==◌, ◌⊎◌, inl, inr, Bool, true, false, nat_lt, nat_le, if◌then◌else◌, List, [], ◌∷◌, ◌++◌, Option, Some, None, Result, Ok, Err, length, map, take, drop, arith, refl, ap, sym, subst, ◌∙◌}
use Rattle.std.specs.Prelude.{ℤ, min, slice_get, option_map}
use Rattle.std.proofs.lemmas.Grind.{common_steps}
use Rattle.std.proofs.lemmas.Bool.{cases_lt}
use Rattle.std.proofs.lemmas.Bool.Decides.{nat_tests}
use Rattle.std.proofs.lemmas.List.{length-append, length-map, drop-append-le, drop-map}
use Rattle.buffer_glyphs.specs.declared.cause.ShapeCause.TheVariants.{TooLong}
use Rattle.buffer_glyphs.specs.Items.{Item}
use Rattle.buffer_glyphs.specs.Levels.{InList}
use Rattle.buffer_glyphs.specs.LigatureWords.{lig_id, ligature_word}
use Rattle.buffer_glyphs.specs.Events.{Event, Merge, Replace}
use Rattle.buffer_glyphs.specs.Rewriting.{shifted_event}
use Rattle.buffer_core.specs.Settings.{next_lig_id}
use Rattle.layout_face.specs.declared.parts.GlyphDefinition.{GlyphDefinition}
use Rattle.layout_tables.specs.Layout.{LigatureTable, LigatureSetTable, ligature_set_of}
use Rattle.buffer_stages.specs.Actions.{Cut, whole, Passes, Acts, Refuses, within_limit}
use Rattle.layout_match.specs.Applied.{ApplyContext, own_search}
use Rattle.layout_match.specs.Matches.{answers_of, input_end, indices}
use Rattle.layout_match.specs.Sequences.{is_glyph}
use Rattle.layout_contexts.specs.MatchIndices.{AreRising}
use Rattle.layout_gsub.specs.Replacements.{single_substitution}
use Rattle.layout_gsub.specs.Ligating.{items_at, has_own_number, last_given, own_number, ligature_item, components_at, component_count, passed_items, after_components, component_deletions, last_index, ligature_category, ligature_props, ligature_substitution, ligature_found, ligature_over, ligatures_over, ligature_subst}
use Rattle.buffer_parts.specs.Breaks.Concat.{without_concats}
use Rattle.buffer_parts.specs.Breaks.Sides.{AreBounded}
use Rattle.buffer_parts.specs.Breaks.Fragments.{with_ligature_renamed, IsNaming, AreGiven}
use Rattle.layout_laws.specs.Breaks.Frames.{Outside, Inside, named_items, framed_cut, AreForeign, IsFramed, IsExtended}
use Rattle.layout_laws.specs.Breaks.Binding.{BindOutside}
use Rattle.layout_laws.specs.Breaks.Local.{AnyPositions, IsMadeInside, IsBeside, IsLocal}
use Rattle.layout_laws.proofs.BreakLemmas.Words.{number_of_ligature}
use Rattle.layout_laws.proofs.BreakLemmas.Matching.{Agree, match_agrees, LiesWithin, match_lies}
use Rattle.layout_laws.proofs.BreakLemmas.Blind.{answers_blind, glyphs_blind}
use Rattle.layout_laws.proofs.BreakLemmas.Frames.{front_joined, front_long, rest_long, given_both, given_more, same_extended}
use Rattle.layout_laws.proofs.BreakLemmas.Outcomes.{first_local, at_first_local, local_from_items, items_from_local, IsLocalAt}
use Rattle.layout_laws.proofs.BreakLemmas.Singles.{single_at}
use Rattle.layout_laws.proofs.BreakLemmas.Components.{item_longer, items_named, own_named, components_longer, items_same, ligature_named, all_between_named, after_named, between_given, after_given, item_given}
use Rattle.buffer_parts.proofs.BreakLemmas.Division.{given_drop}
use Rattle.buffer_parts.proofs.BreakLemmas.Apart.{differs as other_test}
use Rattle.buffer_facts.proofs.Numbers.{test_of_same as test_equal}

-- ---- a new number

-- names with one more number
abbrev new_name : Inside → ℕ → ℕ → ℕ
new_name s last n = if n == last + 1 then s.lig_id + 1 else s.name n

old_name : (s : Inside) (last n : ℕ) → n ≤ last → new_name s last n ≡ s.name n
old_name s last n le = ap (λ (t : Bool). if t then s.lig_id + 1 else s.name n) (other_test n (last + 1) (λ e. omega (arith, le, e)))

newest_name : (s : Inside) (last : ℕ) → new_name s last (last + 1) ≡ s.lig_id + 1
newest_name s last = ap (λ (t : Bool). if t then s.lig_id + 1 else s.name (last + 1)) (test_equal (last + 1) (last + 1) refl)

abbrev with_number : Inside → ℕ → Inside
with_number s last = record s { name = new_name s last; lig_id = s.lig_id + 1 }

new_naming : (s : Inside) (last : ℕ) → IsNaming s.name last s.lig_id → IsNaming (new_name s last) (last + 1) (s.lig_id + 1)
new_naming s last h = record { none = old_name s last 0 (omega arith) ∙ h.none; apart = λ m n mle nle e. apart m n mle nle e (cases_lt last m) (cases_lt last n); within = λ n le. within n le (cases_lt last n) }
  where
    newest : (n : ℕ) → last < n → n ≤ last + 1 → new_name s last n ≡ s.lig_id + 1
    newest n lt le = let e : n ≡ last + 1 = omega (arith, lt, le) in ap (new_name s last) e ∙ newest_name s last

    apart : (m n : ℕ) → m ≤ last + 1 → n ≤ last + 1 → new_name s last m ≡ new_name s last n → (last < m) ⊎ (m ≤ last) → (last < n) ⊎ (n ≤ last) → m ≡ n
    apart m n mle nle e (inl mlt) (inl nlt) = omega (arith, mlt, nlt, mle, nle)
    apart m n mle nle e (inl mlt) (inr nold) = let new = newest m mlt mle in let old = old_name s last n nold in let low = h.within n nold in absurd (omega (arith, new, old, low, e))
    apart m n mle nle e (inr mold) (inl nlt) = let new = newest n nlt nle in let old = old_name s last m mold in let low = h.within m mold in absurd (omega (arith, new, old, low, e))
    apart m n mle nle e (inr mold) (inr nold) = h.apart m n mold nold (sym (old_name s last m mold) ∙ e ∙ old_name s last n nold)

    within : (n : ℕ) → n ≤ last + 1 → (last < n) ⊎ (n ≤ last) → new_name s last n ≤ s.lig_id + 1
    within n le (inl lt) = let new = newest n lt le in omega (arith, new)
    within n le (inr old) = let same = old_name s last n old in let low = h.within n old in omega (arith, same, low)

new_extended : (s : Inside) (c d : Cut) → d.lig_id ≡ c.lig_id + 1 → IsExtended s c (with_number s c.lig_id) d
new_extended s c d e = record { up = omega arith; names = λ n le. by_age n le (cases_lt c.lig_id n) }
  where
    by_age : (n : ℕ) → n ≤ d.lig_id → (c.lig_id < n) ⊎ (n ≤ c.lig_id) → ((n ≤ c.lig_id) × (new_name s c.lig_id n ≡ s.name n)) ⊎ (s.lig_id < new_name s c.lig_id n)
    by_age n le (inl lt) = let same : n ≡ c.lig_id + 1 = omega (arith, lt, le, e) in let new = ap (new_name s c.lig_id) same ∙ newest_name s c.lig_id in inr (omega (arith, new))
    by_age n le (inr old) = inl (old, old_name s c.lig_id n old)

foreign_new : (s : Inside) (last : ℕ) (ys : List Item) → AreGiven s.lig_id ys → AreForeign s.name last ys → AreForeign (new_name s last) (last + 1) ys
foreign_new s last [] given h = tt
foreign_new s last (y ∷ ys) given h = (λ n le e. by_age n le e (cases_lt last n), foreign_new s last ys given.1 h.1)
  where
    by_age : (n : ℕ) → n ≤ last + 1 → new_name s last n ≡ lig_id y → (last < n) ⊎ (n ≤ last) → n ≡ 0
    by_age n le e (inl lt) = let same : n ≡ last + 1 = omega (arith, lt, le) in let new = ap (new_name s last) same ∙ newest_name s last in absurd (omega (arith, new, e, given.0))
    by_age n le e (inr old) = h.0 n old (sym (old_name s last n old) ∙ e)

pub next_small : (n : ℕ) → n < 7 → next_lig_id n ≡ n + 1
next_small n lt = grind (arith, nat_tests, common_steps)

-- ---- events

deletions_shifted : (left at gone low high : ℕ) (places : List ℕ) → gone ≤ low → AreRising low high places → component_deletions (left + at) gone places ≡ map (shifted_event left) (component_deletions at gone places)
deletions_shifted left at gone low high [] le rise = refl
deletions_shifted left at gone low high (i ∷ places) le rise =
    let here : left + at + i - gone ≡ left + (at + i - gone) = omega (arith, le, rise.0) in
    ap (λ (n : ℕ). Replace n 1 0 ∷ component_deletions (left + at) (gone + 1) places) here ∙ ap (λ (es : List Event). Replace (left + (at + i - gone)) 1 0 ∷ es) (deletions_shifted left at (gone + 1) (i + 1) high places (omega (arith, le, rise.0)) rise.2)

deletions_plain : (at gone : ℕ) (places : List ℕ) → without_concats (component_deletions at gone places) ≡ component_deletions at gone places
deletions_plain at gone [] = refl
deletions_plain at gone (i ∷ places) = ap (λ (es : List Event). Replace (at + i - gone) 1 0 ∷ es) (deletions_plain at (gone + 1) places)

one_fewer : (at n : ℕ) → at < n → min at n + (if n == 0 then 0 else 0) + (n - (at + 1)) ≡ n - 1
one_fewer at zero lt = absurd (omega (arith, lt))
one_fewer at (suc n) lt = by_test (suc n == 0)
  where
    by_test : (t : Bool) → min at (suc n) + (if t then 0 else 0) + (suc n - (at + 1)) ≡ suc n - 1
    by_test true = omega (arith, lt)
    by_test false = omega (arith, lt)

deletions_bounded : (at gone low high n : ℕ) (places : List ℕ) → gone ≤ low → at + high ≤ n + gone → AreRising low high places → AreBounded (component_deletions at gone places) n
deletions_bounded at gone low high n [] le long rise = tt
deletions_bounded at gone low high n (i ∷ places) le long rise =
    let here : at + i - gone < n = omega (arith, le, long, rise.0, rise.1) in
    ((here, omega (arith, here)), subst (AreBounded (component_deletions at (gone + 1) places)) (sym (one_fewer (at + i - gone) n here)) (deletions_bounded at (gone + 1) (i + 1) high (n - 1) places (omega (arith, le, rise.0)) (omega (arith, here, long)) rise.2))

last_below : (i n low high : ℕ) (places : List ℕ) → i < n → high ≤ n → AreRising low high places → last_index (i ∷ places) < n
last_below i n low high [] lt le rise = lt
last_below i n low high (j ∷ places) lt le rise = last_below j n (j + 1) high places (omega (arith, le, rise.1)) le rise.2

-- ---- the ligature

abbrev ligature_cut : GlyphDefinition → ℕ → List ℕ → ℕ → List Item → ℕ → ℕ → ℕ → Cut → Cut
ligature_cut gdef glyph others end parts id own last c = record c {
  front = c.front ++ map (ligature_item gdef glyph parts id) (take 1 c.rest) ++ passed_items (has_own_number parts) id own own 1 others c.rest;
  rest = after_components parts id (slice_get c.rest (last_index (0 ∷ others))) (drop end c.rest);
  lig_id = last;
}

-- a ligature under the names of a text, by what becomes of its number
ligated_framed : (o : Outside) (s t : Inside) (c : Cut) (x : Item) (xs : List Item) → IsFramed o s (record c { rest = x ∷ xs }) → ((n : ℕ) → n ≤ c.lig_id → t.name n ≡ s.name n) → t.max_ops ≡ s.max_ops → t.random ≡ s.random → t.max_len ≡ s.max_len → t.scratch_flags ≡ s.scratch_flags
    → (gdef : GlyphDefinition) (glyph end : ℕ) (others : List ℕ) → LiesWithin 1 end (length {A = Item} (x ∷ xs)) others → (id last : ℕ)
    → ligature_cut gdef glyph others end (items_at (0 ∷ others) (framed_cut o s (record c { rest = x ∷ xs })).rest) (t.name id) (components_at 0 (framed_cut o s (record c { rest = x ∷ xs })).rest) t.lig_id (framed_cut o s (record c { rest = x ∷ xs }))
    ≡ framed_cut o t (ligature_cut gdef glyph others end (items_at (0 ∷ others) (x ∷ xs)) id (components_at 0 (x ∷ xs)) last (record c { rest = x ∷ xs }))
ligated_framed o s t c x xs h same ops random limit flags gdef glyph end others lies id last =
    let d : Cut = record c { rest = x ∷ xs } in
    let w : Cut = framed_cut o s d in
    let rest : List Item = x ∷ xs in
    let f = s.name in
    let g = t.name in
    let parts = items_at (0 ∷ others) rest in
    let own = components_at 0 rest in
    let theirs : List Item = map (with_ligature_renamed f) parts in
    let lig = ligature_item gdef glyph parts id x in
    let between = passed_items (has_own_number parts) id own own 1 others rest in
    let least : 0 < length rest = omega arith in
    let many : items_at (0 ∷ others) w.rest ≡ theirs = items_named (with_ligature_renamed f) rest o.after 0 end (0 ∷ others) lies.within (omega arith, omega (arith, lies.rises), lies.indices) in
    let its : components_at 0 w.rest ≡ own = components_longer f rest o.after 0 least in
    let number : lig_id x ≤ c.lig_id = h.rest.0 in
    let front : w.front ++ map (ligature_item gdef glyph theirs (g id)) (with_ligature_renamed f x ∷ []) ++ passed_items (has_own_number theirs) (g id) own own 1 others w.rest ≡ o.before ++ named_items t (c.front ++ lig ∷ [] ++ between) =
    ap (λ (y : Item). w.front ++ y ∷ [] ++ passed_items (has_own_number theirs) (g id) own own 1 others w.rest) (ligature_named f g c.lig_id same gdef glyph id parts x number)
    ∙ ap (λ (b : Bool). w.front ++ with_ligature_renamed g lig ∷ [] ++ passed_items b (g id) own own 1 others w.rest) (own_named f parts)
    ∙ ap (λ (zs : List Item). w.front ++ with_ligature_renamed g lig ∷ [] ++ zs) (all_between_named f g c.lig_id same (has_own_number parts) id own own 1 end others rest o.after h.rest lies.within lies.indices)
    ∙ ap (λ (zs : List Item). o.before ++ zs ++ with_ligature_renamed g lig ∷ [] ++ named_items t between) (items_same f g c.lig_id same c.front h.front)
    ∙ ap (λ (zs : List Item). zs ++ named_items t between) (front_joined o t c.front (lig ∷ [])) ∙ front_joined o t (c.front ++ lig ∷ []) between in
    let at : last_index (0 ∷ others) < length rest = last_below 0 (length rest) 1 end others least lies.within lies.indices in
    let seen : slice_get w.rest (last_index (0 ∷ others)) ≡ option_map (with_ligature_renamed f) (slice_get rest (last_index (0 ∷ others))) = item_longer (with_ligature_renamed f) rest o.after (last_index (0 ∷ others)) at in
    let left : drop end w.rest ≡ map (with_ligature_renamed f) (drop end rest) ++ o.after =
    drop-append-le end (map (with_ligature_renamed f) rest) o.after (omega (arith, lies.within, length-map rest (with_ligature_renamed f))) ∙ ap (λ (zs : List Item). zs ++ o.after) (drop-map (with_ligature_renamed f) end rest) in
    let back : after_components theirs (g id) (slice_get w.rest (last_index (0 ∷ others))) (drop end w.rest) ≡ named_items t (after_components parts id (slice_get rest (last_index (0 ∷ others))) (drop end rest)) ++ o.after =
    ap (λ (q : Option Item). after_components theirs (g id) q (drop end w.rest)) seen ∙ ap (λ (zs : List Item). after_components theirs (g id) (option_map (with_ligature_renamed f) (slice_get rest (last_index (0 ∷ others)))) zs) left
    ∙ after_named f g c.lig_id same h.names.apart h.names.none parts id (slice_get rest (last_index (0 ∷ others))) (λ y e. item_given c.lig_id rest (last_index (0 ∷ others)) y h.rest e) (drop end rest) o.after (given_drop c.lig_id end rest h.rest) h.foreign_after in
    ap (λ (ps : List Item). ligature_cut gdef glyph others end ps (g id) (components_at 0 w.rest) t.lig_id w) many ∙ ap (λ (n : ℕ). ligature_cut gdef glyph others end theirs (g id) n t.lig_id w) its
    ∙ ap (λ (zs : List Item). record w { front = zs; rest = after_components theirs (g id) (slice_get w.rest (last_index (0 ∷ others))) (drop end w.rest); lig_id = t.lig_id }) front
    ∙ ap (λ (zs : List Item). record w { front = o.before ++ named_items t (c.front ++ lig ∷ [] ++ between); rest = zs; lig_id = t.lig_id }) back
    ∙ ap (λ (n : ℤ). record w { front = o.before ++ named_items t (c.front ++ lig ∷ [] ++ between); rest = named_items t (after_components parts id (slice_get rest (last_index (0 ∷ others))) (drop end rest)) ++ o.after; lig_id = t.lig_id; max_ops = n }) (sym ops)
    ∙ ap (λ (n : ℕ). record w { front = o.before ++ named_items t (c.front ++ lig ∷ [] ++ between); rest = named_items t (after_components parts id (slice_get rest (last_index (0 ∷ others))) (drop end rest)) ++ o.after; lig_id = t.lig_id; max_ops = t.max_ops; random = n }) (sym random)
    ∙ ap (λ (n : ℕ). record w { front = o.before ++ named_items t (c.front ++ lig ∷ [] ++ between); rest = named_items t (after_components parts id (slice_get rest (last_index (0 ∷ others))) (drop end rest)) ++ o.after; lig_id = t.lig_id; max_ops = t.max_ops; random = t.random; max_len = n }) (sym limit)
    ∙ ap (λ (n : ℕ). record w { front = o.before ++ named_items t (c.front ++ lig ∷ [] ++ between); rest = named_items t (after_components parts id (slice_get rest (last_index (0 ∷ others))) (drop end rest)) ++ o.after; lig_id = t.lig_id; max_ops = t.max_ops; random = t.random; max_len = t.max_len; scratch_flags = n }) (sym flags)

-- the number of the ligature was given
lig_given : (last id : ℕ) (gdef : GlyphDefinition) (glyph : ℕ) (parts : List Item) (x : Item) → id ≤ last → lig_id x ≤ last → lig_id (ligature_item gdef glyph parts id x) ≤ last
lig_given last id gdef glyph parts x idle le = by_own (has_own_number parts)
  where
    by_own : (b : Bool) → lig_id (record x { number = glyph; unicode_props = ligature_category b x.unicode_props; glyph_props = ligature_props gdef glyph b x.glyph_props; lig_props = if b then ligature_word id (component_count parts) else x.lig_props }) ≤ last
    by_own true = let n = number_of_ligature id (component_count parts) (record x { number = glyph; unicode_props = ligature_category true x.unicode_props; glyph_props = ligature_props gdef glyph true x.glyph_props }) in omega (arith, n, idle)
    by_own false = le

-- a text knows the number that a fragment gave, or none was given
record IsGrown (o : Outside) (s : Inside) (c : Cut) (t : Inside) (last : ℕ) : Type 0 where
  names : IsNaming t.name last t.lig_id
  same : (n : ℕ) → n ≤ c.lig_id → t.name n ≡ s.name n
  more : c.lig_id ≤ last
  up : s.lig_id ≤ t.lig_id
  extended : (d : Cut) → d.lig_id ≡ last → IsExtended s c t d
  foreign_before : AreForeign t.name last o.before
  foreign_after : AreForeign t.name last o.after
  ops : t.max_ops ≡ s.max_ops
  random : t.random ≡ s.random
  limit : t.max_len ≡ s.max_len
  flags : t.scratch_flags ≡ s.scratch_flags

abbrev ligature_events : ℕ → ℕ → List ℕ → List Event
ligature_events at end others = Merge InList at (at + end) ∷ component_deletions at 0 others

events_shifted : (left at end : ℕ) (others : List ℕ) → AreRising 1 end others → without_concats (ligature_events (left + at) end others) ≡ map (shifted_event left) (without_concats (ligature_events at end others))
events_shifted left at end others rise =
    ap (λ (es : List Event). Merge InList (left + at) (left + at + end) ∷ es) (deletions_plain (left + at) 0 others ∙ deletions_shifted left at 0 1 end others (omega arith) rise ∙ ap (map (shifted_event left)) (sym (deletions_plain at 0 others)))
    ∙ ap (λ (n : ℕ). Merge InList (left + at) n ∷ map (shifted_event left) (without_concats (component_deletions at 0 others))) (add_assoc left at end)
  where
    add_assoc : (a b c : ℕ) → a + b + c ≡ a + (b + c)
    add_assoc a b c = omega arith

events_bounded : (at end n : ℕ) (others : List ℕ) → at + end ≤ n → AreRising 1 end others → AreBounded (without_concats (ligature_events at end others)) n
events_bounded at end n others le rise =
    ((omega (arith, le), le), subst (λ (es : List Event). AreBounded es n) (sym (deletions_plain at 0 others)) (deletions_bounded at 0 1 end n others (omega arith) (omega (arith, le)) rise))

ligature_made : (o : Outside) (s t : Inside) (c : Cut) (x : Item) (xs : List Item) → IsFramed o s (record c { rest = x ∷ xs }) → (gdef : GlyphDefinition) (glyph end : ℕ) (others : List ℕ) → LiesWithin 1 end (length {A = Item} (x ∷ xs)) others → (id last : ℕ) → id ≤ last → IsGrown o s (record c { rest = x ∷ xs }) t last
    → IsMadeInside AnyPositions o s (record c { rest = x ∷ xs })
    (ligature_cut gdef glyph others end (items_at (0 ∷ others) (framed_cut o s (record c { rest = x ∷ xs })).rest) (t.name id) (components_at 0 (framed_cut o s (record c { rest = x ∷ xs })).rest) t.lig_id (framed_cut o s (record c { rest = x ∷ xs })))
    (ligature_cut gdef glyph others end (items_at (0 ∷ others) (x ∷ xs)) id (components_at 0 (x ∷ xs)) last (record c { rest = x ∷ xs }))
    (ligature_events (length (o.before ++ named_items s c.front)) end others) (ligature_events (length c.front) end others)
ligature_made o s t c x xs h gdef glyph end others lies id last idle k =
    let rest : List Item = x ∷ xs in
    let parts = items_at (0 ∷ others) rest in
    let own = components_at 0 rest in
    let lig = ligature_item gdef glyph parts id x in
    let between = passed_items (has_own_number parts) id own own 1 others rest in
    let given = given_more c.lig_id last rest k.more h.rest in
    let all = length-append c.front rest in
    record {
      inside = t;
      cut_is = ligated_framed o s t c x xs h k.same k.ops k.random k.limit k.flags gdef glyph end others lies id last;
      frames = record {
        names = k.names;
        front = given_both last (c.front ++ lig ∷ []) between (given_both last c.front (lig ∷ []) (given_more c.lig_id last c.front k.more h.front) (lig_given last id gdef glyph parts x idle given.0, tt)) (between_given last id own own 1 (has_own_number parts) others rest idle given);
        rest = after_given last id parts (slice_get rest (last_index (0 ∷ others))) (drop end rest) idle (given_drop last end rest given);
        before = given_more s.lig_id t.lig_id o.before k.up h.before;
        after = given_more s.lig_id t.lig_id o.after k.up h.after;
        foreign_before = k.foreign_before;
        foreign_after = k.foreign_after;
        some = h.some;
      };
      extended = k.extended (ligature_cut gdef glyph others end parts id own last (record c { rest = x ∷ xs })) refl;
      some = omega (arith, length-append (c.front ++ lig ∷ [] ++ between) (after_components parts id (slice_get rest (last_index (0 ∷ others))) (drop end rest)), length-append (c.front ++ lig ∷ []) between, length-append c.front (lig ∷ []));
      reach = λ there. omega (arith, length-append (c.front ++ lig ∷ [] ++ between) (after_components parts id (slice_get rest (last_index (0 ∷ others))) (drop end rest)), length-append (c.front ++ lig ∷ []) between, length-append c.front (lig ∷ []));
      placed = tt;
      events = ap (λ (n : ℕ). without_concats (ligature_events n end others)) (front_long o s c.front) ∙ events_shifted (length o.before) (length c.front) end others lies.indices;
      bounded = events_bounded (length c.front) end (length (c.front ++ rest)) others (omega (arith, all, lies.within)) lies.indices;
    }

grown_none : (o : Outside) (s : Inside) (c : Cut) → IsFramed o s c → IsGrown o s c s c.lig_id
grown_none o s c h = record {
  names = h.names;
  same = λ n le. refl;
  more = omega arith;
  up = omega arith;
  extended = λ d e. same_extended s c d e;
  foreign_before = h.foreign_before;
  foreign_after = h.foreign_after;
  ops = refl;
  random = refl;
  limit = refl;
  flags = refl;
}

grown_one : (o : Outside) (s : Inside) (c : Cut) → IsFramed o s c → IsGrown o s c (with_number s c.lig_id) (c.lig_id + 1)
grown_one o s c h = record {
  names = new_naming s c.lig_id h.names;
  same = λ n le. old_name s c.lig_id n le;
  more = omega arith;
  up = omega arith;
  extended = λ d e. new_extended s c d e;
  foreign_before = foreign_new s c.lig_id o.before h.before h.foreign_before;
  foreign_after = foreign_new s c.lig_id o.after h.after h.foreign_after;
  ops = refl;
  random = refl;
  limit = refl;
  flags = refl;
}

united_made : (o : Outside) (s t : Inside) (c : Cut) (x : Item) (xs : List Item) → IsFramed o s (record c { rest = x ∷ xs }) → (gdef : GlyphDefinition) (glyph end : ℕ) (others : List ℕ) → LiesWithin 1 end (length {A = Item} (x ∷ xs)) others → (id last idw idc lastw lastc : ℕ) → id ≤ last → IsGrown o s (record c { rest = x ∷ xs }) t last
    → idw ≡ t.name id → lastw ≡ t.lig_id → idc ≡ id → lastc ≡ last
    → IsMadeInside AnyPositions o s (record c { rest = x ∷ xs })
    (ligature_cut gdef glyph others end (items_at (0 ∷ others) (framed_cut o s (record c { rest = x ∷ xs })).rest) idw (components_at 0 (framed_cut o s (record c { rest = x ∷ xs })).rest) lastw (framed_cut o s (record c { rest = x ∷ xs })))
    (ligature_cut gdef glyph others end (items_at (0 ∷ others) (x ∷ xs)) idc (components_at 0 (x ∷ xs)) lastc (record c { rest = x ∷ xs }))
    (ligature_events (length (o.before ++ named_items s c.front)) end others) (ligature_events (length c.front) end others)
united_made o s t c x xs h gdef glyph end others lies id last idw idc lastw lastc idle k iw lw ic lc =
    let d : Cut = record c { rest = x ∷ xs } in
    let w : Cut = framed_cut o s d in
    let W : ℕ → ℕ → Cut = λ i l. ligature_cut gdef glyph others end (items_at (0 ∷ others) w.rest) i (components_at 0 w.rest) l w in
    let D : ℕ → ℕ → Cut = λ i l. ligature_cut gdef glyph others end (items_at (0 ∷ others) d.rest) i (components_at 0 d.rest) l d in
    let es = ligature_events (length (o.before ++ named_items s c.front)) end others in
    let fs = ligature_events (length c.front) end others in
    subst (λ (i : ℕ). IsMadeInside AnyPositions o s d (W i lastw) (D idc lastc) es fs) (sym iw)
    (subst (λ (l : ℕ). IsMadeInside AnyPositions o s d (W (t.name id) l) (D idc lastc) es fs) (sym lw)
    (subst (λ (i : ℕ). IsMadeInside AnyPositions o s d (W (t.name id) t.lig_id) (D i lastc) es fs) (sym ic)
    (subst (λ (l : ℕ). IsMadeInside AnyPositions o s d (W (t.name id) t.lig_id) (D id l) es fs) (sym lc)
    (ligature_made o s t c x xs h gdef glyph end others lies id last idle k))))

united_beside : (gdef : GlyphDefinition) (glyph end : ℕ) (others : List ℕ) (o : Outside) (s : Inside) (c : Cut) (x : Item) (xs : List Item) → IsFramed o s (record c { rest = x ∷ xs }) → LiesWithin 1 end (length {A = Item} (x ∷ xs)) others
    → IsBeside AnyPositions o s (record c { rest = x ∷ xs }) (ligature_substitution gdef glyph (0 ∷ others) end (framed_cut o s (record c { rest = x ∷ xs }))) (ligature_substitution gdef glyph (0 ∷ others) end (record c { rest = x ∷ xs }))
united_beside gdef glyph end others o s c x xs h lies =
    let d : Cut = record c { rest = x ∷ xs } in
    let w : Cut = framed_cut o s d in
    let f = s.name in
    let rest : List Item = x ∷ xs in
    let parts = items_at (0 ∷ others) rest in
    let theirs = items_at (0 ∷ others) w.rest in
    let own = components_at 0 rest in
    let its = components_at 0 w.rest in
    let idw = own_number theirs s.lig_id in
    let idc = own_number parts c.lig_id in
    let es = ligature_events (length w.front) end others in
    let fs = ligature_events (length c.front) end others in
    let n = 1 + length (passed_items (has_own_number theirs) idw its its 1 others w.rest) in
    let m = 1 + length (passed_items (has_own_number parts) idc own own 1 others rest) in
    let many : theirs ≡ map (with_ligature_renamed f) parts = items_named (with_ligature_renamed f) rest o.after 0 end (0 ∷ others) lies.within (omega arith, omega (arith, lies.rises), lies.indices) in
    let has : has_own_number theirs ≡ has_own_number parts = ap has_own_number many ∙ own_named f parts in
    by_tests (ligature_cut gdef glyph others end theirs idw its (last_given theirs s.lig_id) w) (ligature_cut gdef glyph others end parts idc own (last_given parts c.lig_id) d) es fs (nat_le (length w.front + n) w.max_len) (nat_le (length c.front + m) c.max_len)
    (λ less fewer. by_own theirs parts less fewer (has_own_number parts) refl has)
  where
    by_own : (theirs parts : List Item) → s.lig_id < 7 → c.lig_id < 7 → (b : Bool) → has_own_number parts ≡ b → has_own_number theirs ≡ has_own_number parts
        → IsMadeInside AnyPositions o s (record c { rest = x ∷ xs })
        (ligature_cut gdef glyph others end (items_at (0 ∷ others) (framed_cut o s (record c { rest = x ∷ xs })).rest) (own_number theirs s.lig_id) (components_at 0 (framed_cut o s (record c { rest = x ∷ xs })).rest) (last_given theirs s.lig_id) (framed_cut o s (record c { rest = x ∷ xs })))
        (ligature_cut gdef glyph others end (items_at (0 ∷ others) (x ∷ xs)) (own_number parts c.lig_id) (components_at 0 (x ∷ xs)) (last_given parts c.lig_id) (record c { rest = x ∷ xs }))
        (ligature_events (length (o.before ++ named_items s c.front)) end others) (ligature_events (length c.front) end others)
    by_own theirs parts less fewer true e has =
        united_made o s (with_number s c.lig_id) c x xs h gdef glyph end others lies (c.lig_id + 1) (c.lig_id + 1) (own_number theirs s.lig_id) (own_number parts c.lig_id) (last_given theirs s.lig_id) (last_given parts c.lig_id) (omega arith) (grown_one o s (record c { rest = x ∷ xs }) h)
        (ap (λ (b : Bool). if b then next_lig_id s.lig_id else 0) (has ∙ e) ∙ next_small s.lig_id less ∙ sym (newest_name s c.lig_id))
        (ap (λ (b : Bool). if b then next_lig_id s.lig_id else s.lig_id) (has ∙ e) ∙ next_small s.lig_id less)
        (ap (λ (b : Bool). if b then next_lig_id c.lig_id else 0) e ∙ next_small c.lig_id fewer)
        (ap (λ (b : Bool). if b then next_lig_id c.lig_id else c.lig_id) e ∙ next_small c.lig_id fewer)
    by_own theirs parts less fewer false e has =
        united_made o s s c x xs h gdef glyph end others lies 0 c.lig_id (own_number theirs s.lig_id) (own_number parts c.lig_id) (last_given theirs s.lig_id) (last_given parts c.lig_id) (omega arith) (grown_none o s (record c { rest = x ∷ xs }) h)
        (ap (λ (b : Bool). if b then next_lig_id s.lig_id else 0) (has ∙ e) ∙ sym h.names.none)
        (ap (λ (b : Bool). if b then next_lig_id s.lig_id else s.lig_id) (has ∙ e))
        (ap (λ (b : Bool). if b then next_lig_id c.lig_id else 0) e)
        (ap (λ (b : Bool). if b then next_lig_id c.lig_id else c.lig_id) e)

    by_tests : (wcut dcut : Cut) (es fs : List Event) (t u : Bool) → (s.lig_id < 7 → c.lig_id < 7 → IsMadeInside AnyPositions o s (record c { rest = x ∷ xs }) wcut dcut (ligature_events (length (o.before ++ named_items s c.front)) end others) (ligature_events (length c.front) end others))
        → IsBeside AnyPositions o s (record c { rest = x ∷ xs }) (if t then Acts wcut (ligature_events (length (o.before ++ named_items s c.front)) end others) else Refuses TooLong) (if u then Acts dcut (ligature_events (length c.front) end others) else Refuses TooLong)
    by_tests wcut dcut es fs true true k = λ a b. inr (k (omega (arith, a.1)) (omega (arith, b.1)))
    by_tests wcut dcut es fs true false k = tt
    by_tests wcut dcut es fs false u k = tt

-- ---- a ligature that is found over the end of the fragment binds it to what is after it

over_binds : (left front back right at end : ℕ) (es : List Event) → at ≡ left + front → 0 < back → back < end → end ≤ back + right → BindOutside left (front + back) right (Merge InList at (at + end) ∷ es)
over_binds left front back right at end es e some past within = inl (inr (omega (arith, e, some), omega (arith, e, past), omega (arith, e, within)))

passing_limit : (o : Outside) (s : Inside) (c a w : Cut) (n : ℕ) (es fs : List Event) → BindOutside (length o.before) (length (whole c)) (length o.after) (without_concats es) → IsBeside AnyPositions o s c (within_limit n a (Acts w es)) (Passes fs)
passing_limit o s c a w n es fs h = by_test (nat_le (length a.front + n) a.max_len)
  where
    by_test : (t : Bool) → IsBeside AnyPositions o s c (if t then Acts w es else Refuses TooLong) (Passes fs)
    by_test true = h
    by_test false = tt

found_beside : (a : ApplyContext) (l : LigatureTable) (o : Outside) (s : Inside) (c : Cut) (x : Item) (xs : List Item) → IsFramed o s (record c { rest = x ∷ xs }) → (far near : Result ℕ ℕ)
    → input_end (own_search a (x ∷ xs)) (map is_glyph l.components) (named_items s (x ∷ xs) ++ o.after) ≡ far → input_end (own_search a (x ∷ xs)) (map is_glyph l.components) (x ∷ xs) ≡ near
    → Agree (length {A = Item} (x ∷ xs)) far near (indices (answers_of (own_search a (x ∷ xs)) (map is_glyph l.components)) 1 (named_items s (x ∷ xs) ++ o.after)) (indices (answers_of (own_search a (x ∷ xs)) (map is_glyph l.components)) 1 (x ∷ xs))
    → IsBeside AnyPositions o s (record c { rest = x ∷ xs }) (ligature_found a l far (framed_cut o s (record c { rest = x ∷ xs }))) (ligature_found a l near (record c { rest = x ∷ xs }))
found_beside a l o s c x xs h (Ok i) (Ok j) ef en k =
    let d : Cut = record c { rest = x ∷ xs } in
    let w : Cut = framed_cut o s d in
    let asks = answers_of (own_search a (x ∷ xs)) (map is_glyph l.components) in
    let ours = indices asks 1 (x ∷ xs) in
    subst (λ (ps : List ℕ). IsBeside AnyPositions o s d (ligature_substitution a.font.gdef l.glyph (0 ∷ ps) i w) (ligature_substitution a.font.gdef l.glyph (0 ∷ ours) j d)) (sym (k.found j refl))
    (subst (λ (n : ℕ). IsBeside AnyPositions o s d (ligature_substitution a.font.gdef l.glyph (0 ∷ ours) n w) (ligature_substitution a.font.gdef l.glyph (0 ∷ ours) j d)) (sym k.ends.0)
    (united_beside a.font.gdef l.glyph j ours o s c x xs h (match_lies asks 1 j (x ∷ xs) (omega arith) en)))
found_beside a l o s c x xs h (Ok i) (Err end) ef en k =
    let d : Cut = record c { rest = x ∷ xs } in
    let w : Cut = framed_cut o s d in
    let asks = answers_of (own_search a (x ∷ xs)) (map is_glyph l.components) in
    let theirs = indices asks 1 w.rest in
    let parts = items_at (0 ∷ theirs) w.rest in
    let id = own_number parts s.lig_id in
    let own = components_at 0 w.rest in
    let long = rest_long o s (x ∷ xs) in
    let lies = match_lies asks 1 i w.rest (omega (arith, long)) ef in
    passing_limit o s d w (ligature_cut a.font.gdef l.glyph theirs i parts id own (last_given parts s.lig_id) w) (1 + length (passed_items (has_own_number parts) id own own 1 theirs w.rest)) (ligature_events (length w.front) i theirs) _
    (subst (λ (n : ℕ). BindOutside (length o.before) n (length o.after) (without_concats (ligature_events (length w.front) i theirs))) (sym (length-append c.front (x ∷ xs)))
    (over_binds (length o.before) (length c.front) (length {A = Item} (x ∷ xs)) (length o.after) (length w.front) i (without_concats (component_deletions (length w.front) 0 theirs)) (front_long o s c.front) (omega arith) k.ends (omega (arith, lies.within, long))))
found_beside a l o s c x xs h (Err e) (Ok j) ef en k = absurd k.ends
found_beside a l o s c x xs h (Err e) (Err end) ef en k = (refl, refl)

-- ---- the rules

over_at : (a : ApplyContext) (l : LigatureTable) → IsLocalAt AnyPositions (λ x. ligature_over a l)
over_at a l o s c x xs h p = by_tests (length l.components == 0) (nat_lt (length l.components) 64) (single_at a.font.gdef (λ n. Some l.glyph) o s c x xs h p)
    (found_beside a l o s c x xs h (input_end (own_search a (x ∷ xs)) (map is_glyph l.components) (named_items s (x ∷ xs) ++ o.after)) (input_end (own_search a (x ∷ xs)) (map is_glyph l.components) (x ∷ xs)) refl refl
    (match_agrees (answers_of (own_search a (x ∷ xs)) (map is_glyph l.components)) s.name 1 (x ∷ xs) o.after (answers_blind (own_search a (x ∷ xs)) (map is_glyph l.components) (glyphs_blind l.components)) (omega arith)))
  where
    by_tests : (t u : Bool) → IsBeside AnyPositions o s (record c { rest = x ∷ xs }) (single_substitution a.font.gdef (Some l.glyph) (framed_cut o s (record c { rest = x ∷ xs }))) (single_substitution a.font.gdef (Some l.glyph) (record c { rest = x ∷ xs }))
        → IsBeside AnyPositions o s (record c { rest = x ∷ xs }) (ligature_found a l (input_end (own_search a (x ∷ xs)) (map is_glyph l.components) (named_items s (x ∷ xs) ++ o.after)) (framed_cut o s (record c { rest = x ∷ xs }))) (ligature_found a l (input_end (own_search a (x ∷ xs)) (map is_glyph l.components) (x ∷ xs)) (record c { rest = x ∷ xs }))
        → IsBeside AnyPositions o s (record c { rest = x ∷ xs }) (if t then single_substitution a.font.gdef (Some l.glyph) (framed_cut o s (record c { rest = x ∷ xs })) else if u then ligature_found a l (input_end (own_search a (x ∷ xs)) (map is_glyph l.components) (named_items s (x ∷ xs) ++ o.after)) (framed_cut o s (record c { rest = x ∷ xs })) else Passes [])
        (if t then single_substitution a.font.gdef (Some l.glyph) (record c { rest = x ∷ xs }) else if u then ligature_found a l (input_end (own_search a (x ∷ xs)) (map is_glyph l.components) (x ∷ xs)) (record c { rest = x ∷ xs }) else Passes [])
    by_tests true u f g = f
    by_tests false true f g = g
    by_tests false false f g = (refl, refl)

set_local : (a : ApplyContext) (set : Option LigatureSetTable) → IsLocal AnyPositions (ligatures_over a set)
set_local a None = λ o s c f p some. (refl, refl)
set_local a (Some set) = first_local AnyPositions (ligature_over a) set.ligatures (λ l. local_from_items AnyPositions (ligature_over a l) (over_at a l))

pub ligature_local : (a : ApplyContext) (sets : List LigatureSetTable) → IsLocal AnyPositions (ligature_subst a sets)
ligature_local a sets = at_first_local AnyPositions (λ x. ligatures_over a (ligature_set_of x.number sets)) (items_from_local AnyPositions (λ x. ligatures_over a (ligature_set_of x.number sets)) (λ y. set_local a (ligature_set_of y.number sets)) (λ f x. refl))
