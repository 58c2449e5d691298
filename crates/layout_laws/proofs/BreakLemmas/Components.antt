-- Components of a ligature under other names of ligature numbers.
use Rattle.std.proofs.Common.{ℕ, zero, suc, ◌≡◌, ◌≤◌, ◌<◌, ◌+◌, ◌-◌, ◌*◌, ◌==◌, ◌&&◌, ◌||◌, Bool, true, false, not, if◌then◌else◌, List, [], ◌∷◌, ◌++◌, Option, Some, None, length, map, take, drop, arith, refl, ap, sym, subst, ◌∙◌}
use Rattle.std.specs.Prelude.{◌%◌, min, option_map, slice_get, slice_range}
use Rattle.std.specs.List.{sum}
use Rattle.std.proofs.lemmas.List.{map-append, take-map, take-append-le, drop-map, drop-append-le, length-map, length-drop}
use Rattle.buffer_glyphs.specs.Items.{Item}
use Rattle.buffer_glyphs.specs.Parts.{copies}
use Rattle.buffer_glyphs.specs.LigatureWords.{component_word, is_base_glyph, is_mark, lig_comp, lig_id, lig_num_comps, ligature_word}
use Rattle.layout_face.specs.declared.parts.GlyphDefinition.{GlyphDefinition}
use Rattle.layout_contexts.specs.MatchIndices.{AreRising}
use Rattle.layout_gsub.specs.Ligating.{items_at, are_marks, is_base_with_marks, has_own_number, component_count, ligature_props, ligature_category, ligature_item, component_now, with_component, passed_item, components_at, passed_items, following_items, after_components}
use Rattle.buffer_parts.specs.Breaks.Fragments.{with_ligature_renamed, AreGiven}
use Rattle.layout_laws.specs.Breaks.Frames.{AreForeign}
use Rattle.layout_laws.proofs.BreakLemmas.Words.{number_of_component, number_named, component_named, components_named, component_word_named, ligature_word_named}
use Rattle.layout_laws.proofs.BreakLemmas.Frames.{given_both}
use Rattle.layout_laws.proofs.BreakLemmas.Singles.{same_test}
use Rattle.buffer_parts.proofs.BreakLemmas.Division.{given_take, given_drop}
use Rattle.buffer_parts.proofs.BreakLemmas.Apart.{differs as other_test}
use Rattle.buffer_facts.proofs.Numbers.{test_of_same as test_equal}

-- ---- lists

pub item_longer : (h : Item → Item) (xs ys : List Item) (i : ℕ) → i < length xs → slice_get (map h xs ++ ys) i ≡ option_map h (slice_get xs i)
item_longer h [] ys i lt = absurd (omega (arith, lt))
item_longer h (x ∷ xs) ys zero lt = refl
item_longer h (x ∷ xs) ys (suc i) lt = item_longer h xs ys i (omega (arith, lt))

copies_named : (h : Item → Item) (o : Option Item) → copies 1 (option_map h o) ≡ map h (copies 1 o)
copies_named h None = refl
copies_named h (Some x) = refl

pub items_named : (h : Item → Item) (xs ys : List Item) (low high : ℕ) (places : List ℕ) → high ≤ length xs → AreRising low high places → items_at places (map h xs ++ ys) ≡ map h (items_at places xs)
items_named h xs ys low high [] le rise = refl
items_named h xs ys low high (i ∷ places) le rise =
    ap (λ (o : Option Item). copies 1 o ++ items_at places (map h xs ++ ys)) (item_longer h xs ys i (omega (arith, le, rise.1))) ∙ ap (λ (zs : List Item). zs ++ items_at places (map h xs ++ ys)) (copies_named h (slice_get xs i))
    ∙ ap (λ (zs : List Item). map h (copies 1 (slice_get xs i)) ++ zs) (items_named h xs ys (i + 1) high places le rise.2) ∙ sym (map-append h (copies 1 (slice_get xs i)) (items_at places xs))

pub range_longer : (h : Item → Item) (xs ys : List Item) (from to : ℕ) → from ≤ to → to ≤ length xs → slice_range (map h xs ++ ys) from to ≡ map h (slice_range xs from to)
range_longer h xs ys from to le within =
    let first : from ≤ length (map h xs) = omega (arith, le, within, length-map xs h) in
    let rest : to - from ≤ length (drop from (map h xs)) = omega (arith, within, length-drop from (map h xs), length-map xs h) in
    ap (take (to - from)) (drop-append-le from (map h xs) ys first) ∙ take-append-le (to - from) (drop from (map h xs)) ys rest ∙ ap (take (to - from)) (drop-map h from xs) ∙ take-map h (to - from) (drop from xs)

-- ---- what is read of components

pub marks_named : (f : ℕ → ℕ) (xs : List Item) → are_marks (map (with_ligature_renamed f) xs) ≡ are_marks xs
marks_named f [] = refl
marks_named f (x ∷ xs) = ap (λ (t : Bool). is_mark x && t) (marks_named f xs)

pub own_named : (f : ℕ → ℕ) (xs : List Item) → has_own_number (map (with_ligature_renamed f) xs) ≡ has_own_number xs
own_named f [] = refl
own_named f (x ∷ xs) = ap (λ (t : Bool). not ((is_mark x && t) || is_base_with_marks (x ∷ map (with_ligature_renamed f) xs))) (marks_named f xs) ∙ by_marks (marks_named f xs)
  where
    by_marks : are_marks (map (with_ligature_renamed f) xs) ≡ are_marks xs → not ((is_mark x && are_marks xs) || is_base_with_marks (x ∷ map (with_ligature_renamed f) xs)) ≡ not ((is_mark x && are_marks xs) || is_base_with_marks (x ∷ xs))
    by_marks e = ap (λ (t : Bool). not ((is_mark x && are_marks xs) || (is_base_glyph x && t))) e

counts_named : (f : ℕ → ℕ) (xs : List Item) → map lig_num_comps (map (with_ligature_renamed f) xs) ≡ map lig_num_comps xs
counts_named f [] = refl
counts_named f (x ∷ xs) = ap (λ (n : ℕ). n ∷ map lig_num_comps (map (with_ligature_renamed f) xs)) (components_named f x) ∙ ap (λ (ns : List ℕ). lig_num_comps x ∷ ns) (counts_named f xs)

pub count_named : (f : ℕ → ℕ) (xs : List Item) → component_count (map (with_ligature_renamed f) xs) ≡ component_count xs
count_named f xs = ap sum (counts_named f xs)

pub components_longer : (f : ℕ → ℕ) (xs ys : List Item) (i : ℕ) → i < length xs → components_at i (map (with_ligature_renamed f) xs ++ ys) ≡ components_at i xs
components_longer f xs ys i lt =
    ap (λ (o : Option Item). component_count (copies 1 o)) (item_longer (with_ligature_renamed f) xs ys i lt) ∙ ap component_count (copies_named (with_ligature_renamed f) (slice_get xs i)) ∙ count_named f (copies 1 (slice_get xs i))

-- ---- new items, where the names of new numbers are more than those of old ones

module _ (f g : ℕ → ℕ) (last : ℕ) (same : (n : ℕ) → n ≤ last → g n ≡ f n) where
  pub item_same : (x : Item) → lig_id x ≤ last → with_ligature_renamed f x ≡ with_ligature_renamed g x
  item_same x le = ap (λ (n : ℕ). record x { lig_props = n * 0x2000_0000 + x.lig_props % 0x2000_0000 }) (sym (same (lig_id x) le))

  pub items_same : (xs : List Item) → AreGiven last xs → map (with_ligature_renamed f) xs ≡ map (with_ligature_renamed g) xs
  items_same [] h = refl
  items_same (x ∷ xs) h = ap (λ (y : Item). y ∷ map (with_ligature_renamed f) xs) (item_same x h.0) ∙ ap (λ (ys : List Item). with_ligature_renamed g x ∷ ys) (items_same xs h.1)

  -- the ligature
  pub ligature_named : (gdef : GlyphDefinition) (glyph id : ℕ) (parts : List Item) (x : Item) → lig_id x ≤ last → ligature_item gdef glyph (map (with_ligature_renamed f) parts) (g id) (with_ligature_renamed f x) ≡ with_ligature_renamed g (ligature_item gdef glyph parts id x)
  ligature_named gdef glyph id parts x le =
      ap (λ (t : Bool). made t (component_count (map (with_ligature_renamed f) parts)) (g id) (with_ligature_renamed f x).lig_props) (own_named f parts)
      ∙ ap (λ (n : ℕ). made (has_own_number parts) n (g id) (with_ligature_renamed f x).lig_props) (count_named f parts)
      ∙ by_own (has_own_number parts)
    where
      made : Bool → ℕ → ℕ → ℕ → Item
      made t n i w = record x { number = glyph; unicode_props = ligature_category t x.unicode_props; glyph_props = ligature_props gdef glyph t x.glyph_props; lig_props = if t then ligature_word i n else w }

      by_own : (t : Bool) → record x { number = glyph; unicode_props = ligature_category t x.unicode_props; glyph_props = ligature_props gdef glyph t x.glyph_props; lig_props = if t then ligature_word (g id) (component_count parts) else (with_ligature_renamed f x).lig_props }
          ≡ with_ligature_renamed g (record x { number = glyph; unicode_props = ligature_category t x.unicode_props; glyph_props = ligature_props gdef glyph t x.glyph_props; lig_props = if t then ligature_word id (component_count parts) else x.lig_props })
      by_own true = sym (ligature_word_named g id (component_count parts) (record x { number = glyph; unicode_props = ligature_category true x.unicode_props; glyph_props = ligature_props gdef glyph true x.glyph_props }))
      by_own false = ap (λ (y : Item). record y { number = glyph; unicode_props = ligature_category false x.unicode_props; glyph_props = ligature_props gdef glyph false x.glyph_props }) (item_same x le)

  -- a mark of a component
  pub marked_named : (id ended own : ℕ) (y : Item) → with_component (g id) ended own (with_ligature_renamed f y) ≡ with_ligature_renamed g (with_component id ended own y)
  marked_named id ended own y =
      ap (λ (k : ℕ). record y { lig_props = component_word (g id) (ended - own + min (if k == 0 then own else k) own) }) (component_named f y) ∙ sym (component_word_named g id (component_now ended own y) y)

  pub passed_named : (renumbers : Bool) (id ended own : ℕ) (y : Item) → lig_id y ≤ last → passed_item renumbers (g id) ended own (with_ligature_renamed f y) ≡ with_ligature_renamed g (passed_item renumbers id ended own y)
  passed_named true id ended own y le = marked_named id ended own y
  passed_named false id ended own y le = item_same y le

  all_passed_named : (renumbers : Bool) (id ended own : ℕ) (ys : List Item) → AreGiven last ys → map (passed_item renumbers (g id) ended own) (map (with_ligature_renamed f) ys) ≡ map (with_ligature_renamed g) (map (passed_item renumbers id ended own) ys)
  all_passed_named renumbers id ended own [] h = refl
  all_passed_named renumbers id ended own (y ∷ ys) h =
      ap (λ (z : Item). z ∷ map (passed_item renumbers (g id) ended own) (map (with_ligature_renamed f) ys)) (passed_named renumbers id ended own y h.0)
      ∙ ap (λ (zs : List Item). with_ligature_renamed g (passed_item renumbers id ended own y) ∷ zs) (all_passed_named renumbers id ended own ys h.1)

  pub all_between_named : (renumbers : Bool) (id ended own from high : ℕ) (places : List ℕ) (xs ys : List Item) → AreGiven last xs → high ≤ length xs → AreRising from high places
      → passed_items renumbers (g id) ended own from places (map (with_ligature_renamed f) xs ++ ys) ≡ map (with_ligature_renamed g) (passed_items renumbers id ended own from places xs)
  all_between_named renumbers id ended own from high [] xs ys given le rise = refl
  all_between_named renumbers id ended own from high (i ∷ places) xs ys given le rise =
      let long = map (with_ligature_renamed f) xs ++ ys in
      let part = components_longer f xs ys i (omega (arith, le, rise.1)) in
      let range = slice_range xs from i in
      let kept : AreGiven last range = given_take last (i - from) (drop from xs) (given_drop last from xs given) in
      ap (λ (zs : List Item). map (passed_item renumbers (g id) ended own) zs ++ passed_items renumbers (g id) (ended + components_at i long) (components_at i long) (i + 1) places long) (range_longer (with_ligature_renamed f) xs ys from i rise.0 (omega (arith, le, rise.1)))
      ∙ ap (λ (zs : List Item). zs ++ passed_items renumbers (g id) (ended + components_at i long) (components_at i long) (i + 1) places long) (all_passed_named renumbers id ended own range kept)
      ∙ ap (λ (n : ℕ). map (with_ligature_renamed g) (map (passed_item renumbers id ended own) range) ++ passed_items renumbers (g id) (ended + n) n (i + 1) places long) part
      ∙ ap (λ (zs : List Item). map (with_ligature_renamed g) (map (passed_item renumbers id ended own) range) ++ zs) (all_between_named renumbers id (ended + components_at i xs) (components_at i xs) (i + 1) high places xs ys given le rise.2)
      ∙ sym (map-append (with_ligature_renamed g) (map (passed_item renumbers id ended own) range) (passed_items renumbers id (ended + components_at i xs) (components_at i xs) (i + 1) places xs))

  -- the marks after the last component, up to the end of the fragment: none outside is of its ligature
  pub following_named : ((m n : ℕ) → m ≤ last → n ≤ last → f m ≡ f n → m ≡ n) → (id number ended own : ℕ) → number ≤ last → (number ≡ 0 → ⊥) → (ys outside : List Item) → AreGiven last ys → AreForeign f last outside
      → following_items (g id) (f number) ended own (map (with_ligature_renamed f) ys ++ outside) ≡ map (with_ligature_renamed g) (following_items id number ended own ys) ++ outside
  following_named apart id number ended own le some [] [] given foreign = refl
  following_named apart id number ended own le some [] (y ∷ outside) given foreign =
      ap (λ (t : Bool). if t && not (lig_comp y == 0) then with_component (g id) ended own y ∷ following_items (g id) (f number) ended own outside else y ∷ outside)
      (other_test (lig_id y) (f number) (λ e. some (foreign.0 number le (sym e))))
  following_named apart id number ended own le some (y ∷ ys) outside given foreign =
      let z = with_ligature_renamed f y in
      let rest = map (with_ligature_renamed f) ys ++ outside in
      let test : (lig_id z == f number) ≡ (lig_id y == number) = same_test (lig_id z) (f number) (lig_id y) number (λ e. apart (lig_id y) number given.0 le (sym (number_named f y) ∙ e)) (λ e. number_named f y ∙ ap f e) in
      ap (λ (t : Bool). if t && not (lig_comp z == 0) then with_component (g id) ended own z ∷ following_items (g id) (f number) ended own rest else z ∷ rest) test
      ∙ ap (λ (n : ℕ). if (lig_id y == number) && not (n == 0) then with_component (g id) ended own z ∷ following_items (g id) (f number) ended own rest else z ∷ rest) (component_named f y)
      ∙ by_test ((lig_id y == number) && not (lig_comp y == 0)) (following_named apart id number ended own le some ys outside given.1 foreign)
    where
      by_test : (t : Bool) → following_items (g id) (f number) ended own (map (with_ligature_renamed f) ys ++ outside) ≡ map (with_ligature_renamed g) (following_items id number ended own ys) ++ outside
          → (if t then with_component (g id) ended own (with_ligature_renamed f y) ∷ following_items (g id) (f number) ended own (map (with_ligature_renamed f) ys ++ outside) else with_ligature_renamed f y ∷ (map (with_ligature_renamed f) ys ++ outside))
          ≡ map (with_ligature_renamed g) (if t then with_component id ended own y ∷ following_items id number ended own ys else y ∷ ys) ++ outside
      by_test true rest =
          ap (λ (x : Item). x ∷ following_items (g id) (f number) ended own (map (with_ligature_renamed f) ys ++ outside)) (marked_named id ended own y) ∙ ap (λ (xs : List Item). with_ligature_renamed g (with_component id ended own y) ∷ xs) rest
      by_test false rest = ap (λ (xs : List Item). xs ++ outside) (items_same (y ∷ ys) given)

  -- the items after the components
  pub after_named : ((m n : ℕ) → m ≤ last → n ≤ last → f m ≡ f n → m ≡ n) → f 0 ≡ 0 → (parts : List Item) (id : ℕ) (o : Option Item) → ((x : Item) → o ≡ Some x → lig_id x ≤ last) → (rest outside : List Item) → AreGiven last rest → AreForeign f last outside
      → after_components (map (with_ligature_renamed f) parts) (g id) (option_map (with_ligature_renamed f) o) (map (with_ligature_renamed f) rest ++ outside) ≡ map (with_ligature_renamed g) (after_components parts id o rest) ++ outside
  after_named apart none parts id None k rest outside given foreign = ap (λ (xs : List Item). xs ++ outside) (items_same rest given)
  after_named apart none parts id (Some x) k rest outside given foreign =
      let y = with_ligature_renamed f x in
      let all = map (with_ligature_renamed f) rest ++ outside in
      let le = k x refl in
      let test : (lig_id y == 0) ≡ (lig_id x == 0) = same_test (lig_id y) 0 (lig_id x) 0 (λ e. apart (lig_id x) 0 le (omega arith) (sym (number_named f x) ∙ e ∙ sym none)) (λ e. number_named f x ∙ ap f e ∙ none) in
      ap (λ (t : Bool). if t || (lig_id y == 0) then all else following_items (g id) (lig_id y) (component_count (map (with_ligature_renamed f) parts)) (lig_num_comps y) all) (marks_named f parts)
      ∙ ap (λ (t : Bool). if are_marks parts || t then all else following_items (g id) (lig_id y) (component_count (map (with_ligature_renamed f) parts)) (lig_num_comps y) all) test
      ∙ ap (λ (n : ℕ). if are_marks parts || (lig_id x == 0) then all else following_items (g id) n (component_count (map (with_ligature_renamed f) parts)) (lig_num_comps y) all) (number_named f x)
      ∙ ap (λ (n : ℕ). if are_marks parts || (lig_id x == 0) then all else following_items (g id) (f (lig_id x)) n (lig_num_comps y) all) (count_named f parts)
      ∙ ap (λ (n : ℕ). if are_marks parts || (lig_id x == 0) then all else following_items (g id) (f (lig_id x)) (component_count parts) n all) (components_named f x)
      ∙ by_test (are_marks parts) (lig_id x == 0) refl le
    where
      by_test : (s t : Bool) → (lig_id x == 0) ≡ t → lig_id x ≤ last → (if s || t then map (with_ligature_renamed f) rest ++ outside else following_items (g id) (f (lig_id x)) (component_count parts) (lig_num_comps x) (map (with_ligature_renamed f) rest ++ outside))
          ≡ map (with_ligature_renamed g) (if s || t then rest else following_items id (lig_id x) (component_count parts) (lig_num_comps x) rest) ++ outside
      by_test true t e le = ap (λ (xs : List Item). xs ++ outside) (items_same rest given)
      by_test false true e le = ap (λ (xs : List Item). xs ++ outside) (items_same rest given)
      by_test false false e le = following_named apart id (lig_id x) (component_count parts) (lig_num_comps x) le (λ z. let yes : true ≡ false = sym (test_equal (lig_id x) 0 z) ∙ e in cc) rest outside given foreign

-- ---- numbers that were given stay so

pub marks_given : (last id ended own : ℕ) (renumbers : Bool) (ys : List Item) → id ≤ last → AreGiven last ys → AreGiven last (map (passed_item renumbers id ended own) ys)
marks_given last id ended own renumbers [] le h = tt
marks_given last id ended own true (y ∷ ys) le h = let n = number_of_component id (component_now ended own y) y in (omega (arith, n, le), marks_given last id ended own true ys le h.1)
marks_given last id ended own false (y ∷ ys) le h = (h.0, marks_given last id ended own false ys le h.1)

pub between_given : (last id ended own from : ℕ) (renumbers : Bool) (places : List ℕ) (xs : List Item) → id ≤ last → AreGiven last xs → AreGiven last (passed_items renumbers id ended own from places xs)
between_given last id ended own from renumbers [] xs le h = tt
between_given last id ended own from renumbers (i ∷ places) xs le h =
    given_both last (map (passed_item renumbers id ended own) (slice_range xs from i)) (passed_items renumbers id (ended + components_at i xs) (components_at i xs) (i + 1) places xs)
    (marks_given last id ended own renumbers (slice_range xs from i) le (given_take last (i - from) (drop from xs) (given_drop last from xs h)))
    (between_given last id (ended + components_at i xs) (components_at i xs) (i + 1) renumbers places xs le h)

following_given : (last id number ended own : ℕ) (ys : List Item) → id ≤ last → AreGiven last ys → AreGiven last (following_items id number ended own ys)
following_given last id number ended own [] le h = tt
following_given last id number ended own (y ∷ ys) le h = by_test ((lig_id y == number) && not (lig_comp y == 0)) (following_given last id number ended own ys le h.1)
  where
    by_test : (t : Bool) → AreGiven last (following_items id number ended own ys) → AreGiven last (if t then with_component id ended own y ∷ following_items id number ended own ys else y ∷ ys)
    by_test true rest = let n = number_of_component id (component_now ended own y) y in (omega (arith, n, le), rest)
    by_test false rest = h

pub after_given : (last id : ℕ) (parts : List Item) (o : Option Item) (rest : List Item) → id ≤ last → AreGiven last rest → AreGiven last (after_components parts id o rest)
after_given last id parts None rest le h = h
after_given last id parts (Some x) rest le h = by_test (are_marks parts || (lig_id x == 0))
  where
    by_test : (t : Bool) → AreGiven last (if t then rest else following_items id (lig_id x) (component_count parts) (lig_num_comps x) rest)
    by_test true = h
    by_test false = following_given last id (lig_id x) (component_count parts) (lig_num_comps x) rest le h

-- an item of a list was given its number
pub item_given : (last : ℕ) (xs : List Item) (i : ℕ) (x : Item) → AreGiven last xs → slice_get xs i ≡ Some x → lig_id x ≤ last
item_given last [] i x h e = cc
item_given last (y ∷ ys) zero x h e = let same : y ≡ x = cc in subst (λ (z : Item). lig_id z ≤ last) same h.0
item_given last (y ∷ ys) (suc i) x h e = item_given last ys i x h.1 e
