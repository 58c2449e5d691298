-- The steps of a Myanmar syllable on a buffer.
use Rattle.std.proofs.Common.{ℕ, suc, ◌≡◌, ◌≤◌, ◌+◌, ◌-◌, ◌==◌, Bool, true, false, if◌then◌else◌, List, [], ◌∷◌, ◌++◌, length, map, take, drop, filter, Some, None, slice_get, refl, sym, ap, subst, ◌∙◌, arith}
use Rattle.std.specs.Prelude.{bit_and, nat_lt, not, slice_range, Result, Ok, Err, OnOk}
use Rattle.std.proofs.lemmas.List.{length-map, take-take, drop_all}
use Rattle.std.proofs.lemmas.Bool.Decides.{nat_tests}
use Rattle.std.proofs.lemmas.Grind.{common_steps}
use Rattle.buffer_glyphs.specs.declared.info.hb_glyph_info_t.{hb_glyph_info_t}
use Rattle.script_categories.specs.declared.ot_position_t.TheConstants as position
use Rattle.script_categories.specs.declared.shaper.hb_ot_script_shaper_t.TheVariants.{MYANMAR_SHAPER}
use Rattle.script_categories.specs.Shapers.{is_reordered}
use Rattle.buffer_glyphs.specs.Items.{Item, clusters, item_of, strip}
use Rattle.buffer_glyphs.specs.Origins.{origin_of, origins}
use Rattle.buffer_core.specs.Sides.{Sides, all_glyphs, items_of}
use Rattle.buffer_core.specs.Lending.{with_refilled}
use Rattle.buffer_stages.specs.Ready.{IsReady}
use Rattle.buffer_glyphs.specs.Rewriting.{Arrangement, eventless_arrangement, and_arranged}
use Rattle.buffer_stages.specs.Rewriting.{within}
use Rattle.buffer_stages.specs.SyllableBuffers.{IsRewritten}
use Rattle.buffer_stages.specs.Lemmas.Rewritings.{counted, rewritten_count, rewritten_next, rewritten_same}
use Rattle.buffer_stages.specs.Lemmas.Parts.{part_clusters, part_written, range_size, rewritten_part}
use Rattle.script_myanmar.specs.Myanmar.{items_with_positions, has_two_matras, is_pre_base_vowel, matras_of, matras_reversed, myanmar_positions, myanmar_reordered, myanmar_syllable, with_position, with_positions}
use Rattle.script_myanmar.specs.Turned.{glyphs_at}
use Rattle.buffer_stages.specs.Ordering.{groups_reversed, auxiliary_order}
use Rattle.script_myanmar.specs.Lemmas.MyanmarSize.{all_placed_size}
use Rattle.buffer_stages.specs.Lemmas.Sorted.{sorted_size}
use Rattle.script_myanmar.specs.Lemmas.Sizes.{positions_size}
use Rattle.buffer_stages.proofs.Lemmas.Elements.{split_at}
use Rattle.script_syllabic.proofs.Marking.{categories_seen as kinds_seen}
use Rattle.buffer_glyphs.specs.Lemmas.Origins.{slice_seen as range_seen}
use Rattle.buffer_facts.proofs.Numbers.{more_than_one as two_more, more_than_none as one_more}

-- ---- what is seen of glyphs

abbrev pub matras_from : List hb_glyph_info_t → ℕ → ℕ
matras_from gs i = i + matras_of (strip (drop i gs))

pub matra_next : (gs : List hb_glyph_info_t) (i n : ℕ) (g : hb_glyph_info_t) → slice_get gs i ≡ Some g → (g.auxiliary == position.POS_PRE_M) ≡ true → matras_from gs i ≡ n → matras_from gs (i + 1) ≡ n
matra_next gs i n g at e f =
    let rest = matras_of (strip (drop (i + 1) gs)) in
    let more : matras_of (strip (drop i gs)) ≡ 1 + rest = ap (λ hs. matras_of (strip hs)) (split_at gs i g at) ∙ ap (λ (t : Bool). if t then 1 + rest else 0) e in
    omega (arith, more, f)

pub matra_last : (gs : List hb_glyph_info_t) (i n : ℕ) (g : hb_glyph_info_t) → slice_get gs i ≡ Some g → (g.auxiliary == position.POS_PRE_M) ≡ false → matras_from gs i ≡ n → i ≡ n
matra_last gs i n g at e f =
    let rest = matras_of (strip (drop (i + 1) gs)) in
    let more : matras_of (strip (drop i gs)) ≡ 0 = ap (λ hs. matras_of (strip hs)) (split_at gs i g at) ∙ ap (λ (t : Bool). if t then 1 + rest else 0) e in
    omega (arith, more, f)

pub all_matras : (gs : List hb_glyph_info_t) (i n : ℕ) → length gs ≤ i → i ≤ length gs → matras_from gs i ≡ n → length gs ≡ n
all_matras gs i n le ge f =
    let more : matras_of (strip (drop i gs)) ≡ 0 = ap (λ hs. matras_of (strip hs)) (drop_all i gs le) in
    omega (arith, more, f, le, ge)

-- whether so many left matras, with the one that was met, are two
abbrev pub are_two : Bool → List hb_glyph_info_t → Bool
are_two met gs = if met then nat_lt 0 (length (filter is_pre_base_vowel (strip gs))) else nat_lt 1 (length (filter is_pre_base_vowel (strip gs)))

left_here : (gs : List hb_glyph_info_t) (i : ℕ) (g : hb_glyph_info_t) (t : Bool) → slice_get gs i ≡ Some g → is_pre_base_vowel (item_of g) ≡ t
    → filter is_pre_base_vowel (strip (drop i gs)) ≡ (if t then item_of g ∷ filter is_pre_base_vowel (strip (drop (i + 1) gs)) else filter is_pre_base_vowel (strip (drop (i + 1) gs)))
left_here gs i g t at e =
    let rest = filter is_pre_base_vowel (strip (drop (i + 1) gs)) in
    ap (λ hs. filter is_pre_base_vowel (strip hs)) (split_at gs i g at) ∙ ap (λ (b : Bool). if b then item_of g ∷ rest else rest) e

pub first_left : (gs : List hb_glyph_info_t) (i : ℕ) (g : hb_glyph_info_t) (b met : Bool) → slice_get gs i ≡ Some g → is_pre_base_vowel (item_of g) ≡ true → met ≡ false → are_two met (drop i gs) ≡ b → are_two true (drop (i + 1) gs) ≡ b
first_left gs i g b met at e none f =
    sym (ap (λ m. are_two m (drop i gs)) none ∙ ap (λ (xs : List Item). nat_lt 1 (length xs)) (left_here gs i g true at e) ∙ two_more (length (filter is_pre_base_vowel (strip (drop (i + 1) gs))))) ∙ f

pub second_left : (gs : List hb_glyph_info_t) (i : ℕ) (g : hb_glyph_info_t) (b met : Bool) → slice_get gs i ≡ Some g → is_pre_base_vowel (item_of g) ≡ true → met ≡ true → are_two met (drop i gs) ≡ b → true ≡ b
second_left gs i g b met at e one f = sym (ap (λ m. are_two m (drop i gs)) one ∙ ap (λ (xs : List Item). nat_lt 0 (length xs)) (left_here gs i g true at e) ∙ one_more (length (filter is_pre_base_vowel (strip (drop (i + 1) gs))))) ∙ f

pub none_left : (gs : List hb_glyph_info_t) (i : ℕ) (g : hb_glyph_info_t) (b met : Bool) → slice_get gs i ≡ Some g → is_pre_base_vowel (item_of g) ≡ false → are_two met (drop i gs) ≡ b → are_two met (drop (i + 1) gs) ≡ b
none_left gs i g b met at e f = sym (ap (λ (xs : List Item). if met then nat_lt 0 (length xs) else nat_lt 1 (length xs)) (left_here gs i g false at e)) ∙ f

pub no_second : (gs : List hb_glyph_info_t) (i : ℕ) (b met : Bool) → length gs ≤ i → are_two met (drop i gs) ≡ b → false ≡ b
no_second gs i b met le f = by_met met ∙ ap (are_two met) (sym (drop_all i gs le)) ∙ f
  where
    by_met : (m : Bool) → false ≡ are_two m []
    by_met true = refl
    by_met false = refl

items_at : (ps : List ℕ) (gs : List hb_glyph_info_t) → strip (glyphs_at ps gs) ≡ with_positions ps (strip gs)
items_at [] gs = refl
items_at (p ∷ ps) [] = refl
items_at (p ∷ ps) (g ∷ gs) = ap (λ xs. with_position p (item_of g) ∷ xs) (items_at ps gs)

origins_at : (ps : List ℕ) (gs : List hb_glyph_info_t) → length ps ≤ length gs → origins (glyphs_at ps gs) ≡ origins gs
origins_at [] gs le = refl
origins_at (p ∷ ps) [] le = absurd (omega (arith, le))
origins_at (p ∷ ps) (g ∷ gs) le = ap (λ os. origin_of g ∷ os) (origins_at ps gs (omega (arith, le)))

clusters_at : (ps : List ℕ) (gs : List hb_glyph_info_t) → length ps ≡ length gs → clusters (glyphs_at ps gs) ≡ clusters gs
clusters_at [] gs e = refl
clusters_at (p ∷ ps) [] e = absurd (omega (arith, e))
clusters_at (p ∷ ps) (g ∷ gs) e = ap (λ ns. g.cluster ∷ ns) (clusters_at ps gs (omega (arith, e)))

-- ---- positions

pub placed_clusters : (from to : ℕ) (gs all : List hb_glyph_info_t) → from ≤ to
    → gs ≡ take from all ++ glyphs_at (myanmar_positions (map (λ (g : hb_glyph_info_t). g.category) (slice_range all from to))) (slice_range all from to) ++ drop to all → clusters gs ≡ clusters all
placed_clusters from to gs all le e =
    let range = slice_range all from to in
    let cs = map (λ (g : hb_glyph_info_t). g.category) range in
    part_clusters from to (glyphs_at (myanmar_positions cs) range) gs all le e (clusters_at (myanmar_positions cs) range (positions_size cs ∙ length-map range (λ (g : hb_glyph_info_t). g.category)))

pub syllable_placed : (from to : ℕ) (gs : List hb_glyph_info_t) (a : Sides) → IsReady a → from ≤ to → to ≤ length (all_glyphs a)
    → gs ≡ take from (all_glyphs a) ++ glyphs_at (myanmar_positions (map (λ (g : hb_glyph_info_t). g.category) (slice_range (all_glyphs a) from to))) (slice_range (all_glyphs a) from to) ++ drop to (all_glyphs a)
    → IsRewritten (items_with_positions (slice_range (items_of a) from to)) from to a (with_refilled gs a)
syllable_placed from to gs a ready le fits e =
    let range = slice_range (all_glyphs a) from to in
    let xs = slice_range (items_of a) from to in
    let seen : strip range ≡ xs = range_seen item_of from to (all_glyphs a) in
    let kinds : map (λ (g : hb_glyph_info_t). g.category) range ≡ map (λ (x : Item). x.category) xs = kinds_seen range ∙ ap (map (λ (x : Item). x.category)) seen in
    let ps = myanmar_positions (map (λ (g : hb_glyph_info_t). g.category) range) in
    let many : length ps ≡ length range = positions_size (map (λ (g : hb_glyph_info_t). g.category) range) ∙ length-map range (λ (g : hb_glyph_info_t). g.category) in
    part_written from to (items_with_positions xs).items (glyphs_at ps range) gs a ready le fits e
    (items_at ps range ∙ ap (λ cs. with_positions (myanmar_positions cs) (strip range)) kinds ∙ ap (with_positions (myanmar_positions (map (λ (x : Item). x.category) xs))) seen)
    (origins_at ps range (omega (arith, many)))

-- ---- the branches of a syllable

front_strip : (start end m : ℕ) (a : Sides) → start + m ≤ end → end ≤ length (all_glyphs a) → strip (slice_range (all_glyphs a) start (start + m)) ≡ take m (slice_range (items_of a) start end)
front_strip start end m a le fits =
    let n : start + m - start ≡ m = omega arith in
    range_seen item_of start (start + m) (all_glyphs a) ∙ ap (λ k. take k (drop start (items_of a))) n ∙ sym (take-take m (end - start) (drop start (items_of a)) (omega (arith, le)))

abbrev turned_if : List Item → Bool → Arrangement
turned_if xs t = if t then within 0 (matras_of xs) (groups_reversed is_pre_base_vowel) xs else eventless_arrangement xs

pub matras_kept : (start end m : ℕ) (a : Sides) → start ≤ end → end ≤ length (all_glyphs a) → start + m ≤ end → IsReady a → m ≡ matras_of (slice_range (items_of a) start end)
    → has_two_matras (strip (slice_range (all_glyphs a) start (start + m))) ≡ false → IsRewritten (matras_reversed (slice_range (items_of a) start end)) start end a a
matras_kept start end m a le fits inside ready e f =
    let xs = slice_range (items_of a) start end in
    let none : has_two_matras (take (matras_of xs) xs) ≡ false = ap (λ k. has_two_matras (take k xs)) (sym e) ∙ ap has_two_matras (sym (front_strip start end m a inside fits)) ∙ f in
    subst (λ r. IsRewritten r start end a a) (sym (ap (turned_if xs) none)) (rewritten_same start end a le ready)

pub matras_turned : (start end m : ℕ) (a b : Sides) → start ≤ end → end ≤ length (all_glyphs a) → start + m ≤ end → m ≡ matras_of (slice_range (items_of a) start end)
    → has_two_matras (strip (slice_range (all_glyphs a) start (start + m))) ≡ true → IsRewritten (groups_reversed is_pre_base_vowel (slice_range (items_of a) start (start + m))) start (start + m) a b
    → IsRewritten (matras_reversed (slice_range (items_of a) start end)) start end a b
matras_turned start end m a b le fits inside e f g =
    let xs = slice_range (items_of a) start end in
    let two : has_two_matras (take (matras_of xs) xs) ≡ true = ap (λ k. has_two_matras (take k xs)) (sym e) ∙ ap has_two_matras (sym (front_strip start end m a inside fits)) ∙ f in
    let h : IsRewritten (within 0 m (groups_reversed is_pre_base_vowel) xs) start end a b = rewritten_part (groups_reversed is_pre_base_vowel) start end 0 m start (start + m) a b (omega arith) refl (omega arith) inside (omega (arith, counted a, fits)) g in
    subst (λ r. IsRewritten r start end a b) (sym (ap (turned_if xs) two)) (subst (λ k. IsRewritten (within 0 k (groups_reversed is_pre_base_vowel) xs) start end a b) e h)

pub syllable_ordered : (start end : ℕ) (a b c d : Sides) → start ≤ end → end ≤ length (all_glyphs a) → IsRewritten (items_with_positions (slice_range (items_of a) start end)) start end a b
    → IsRewritten (auxiliary_order (slice_range (items_of b) start end)) start end b c → IsRewritten (matras_reversed (slice_range (items_of c) start end)) start end c d
    → IsRewritten (myanmar_reordered (slice_range (items_of a) start end)) start end a d
syllable_ordered start end a b c d le fits f g h =
    let xs = slice_range (items_of a) start end in
    let inside : end ≤ length (items_of a) = omega (arith, counted a, fits) in
    let size : length xs ≡ end - start = range_size start end (items_of a) le inside in
    let one : length (items_with_positions xs).items ≡ end - start = all_placed_size xs ∙ size in
    let both : length (and_arranged (items_with_positions xs) auxiliary_order).items ≡ end - start = sorted_size (items_with_positions xs).items ∙ one in
    rewritten_next (and_arranged (items_with_positions xs) auxiliary_order) matras_reversed start end a c d le inside both
    (rewritten_next (items_with_positions xs) auxiliary_order start end a b c le inside one f g) h

-- as many glyphs stay
pub placed_count : (start end : ℕ) (a b : Sides) → start ≤ end → end ≤ length (all_glyphs a) → IsRewritten (items_with_positions (slice_range (items_of a) start end)) start end a b → length (all_glyphs b) ≡ length (all_glyphs a)
placed_count start end a b le fits f =
    let xs = slice_range (items_of a) start end in
    let inside : end ≤ length (items_of a) = omega (arith, counted a, fits) in
    rewritten_count (items_with_positions xs) start end a b le inside (all_placed_size xs ∙ range_size start end (items_of a) le inside) f

pub sorted_count : (start end : ℕ) (a b : Sides) → start ≤ end → end ≤ length (all_glyphs a) → IsRewritten (auxiliary_order (slice_range (items_of a) start end)) start end a b → length (all_glyphs b) ≡ length (all_glyphs a)
sorted_count start end a b le fits f =
    let xs = slice_range (items_of a) start end in
    let inside : end ≤ length (items_of a) = omega (arith, counted a, fits) in
    rewritten_count (auxiliary_order xs) start end a b le inside (sorted_size xs ∙ range_size start end (items_of a) le inside) f

-- a syllable that is not reordered, and one that is
syllable_none : (xs : List Item) → slice_get xs 0 ≡ None → myanmar_syllable xs ≡ eventless_arrangement xs
syllable_none xs e = rw e refl

syllable_by : (xs : List Item) (x : Item) (t : Bool) → slice_get xs 0 ≡ Some x → is_reordered MYANMAR_SHAPER (bit_and x.syllable 15) ≡ t → myanmar_syllable xs ≡ (if t then myanmar_reordered xs else eventless_arrangement xs)
syllable_by xs x t e f = rw e (ap (λ b. if b then myanmar_reordered xs else eventless_arrangement xs) f)

pub none_does : (start end : ℕ) (a : Sides) → start ≤ end → IsReady a → slice_get (slice_range (items_of a) start end) 0 ≡ None → IsRewritten (myanmar_syllable (slice_range (items_of a) start end)) start end a a
none_does start end a le ready e = subst (λ r. IsRewritten r start end a a) (sym (syllable_none (slice_range (items_of a) start end) e)) (rewritten_same start end a le ready)

pub kept_does : (start end : ℕ) (x : Item) (a : Sides) → start ≤ end → IsReady a → slice_get (slice_range (items_of a) start end) 0 ≡ Some x → is_reordered MYANMAR_SHAPER (bit_and x.syllable 15) ≡ false
    → IsRewritten (myanmar_syllable (slice_range (items_of a) start end)) start end a a
kept_does start end x a le ready e f = subst (λ r. IsRewritten r start end a a) (sym (syllable_by (slice_range (items_of a) start end) x false e f)) (rewritten_same start end a le ready)

pub ordered_does : {E : Type 0} (start end : ℕ) (x : Item) (a b : Sides) (r : Result (Unit {0}) E) → slice_get (slice_range (items_of a) start end) 0 ≡ Some x → is_reordered MYANMAR_SHAPER (bit_and x.syllable 15) ≡ true
    → OnOk r (IsRewritten (myanmar_reordered (slice_range (items_of a) start end)) start end a b) → OnOk r (IsRewritten (myanmar_syllable (slice_range (items_of a) start end)) start end a b)
ordered_does start end x a b (Err c) e f g = tt
ordered_does start end x a b (Ok u) e f g = subst (λ r. IsRewritten r start end a b) (sym (syllable_by (slice_range (items_of a) start end) x true e f)) g

-- ---- what the glyphs of a part answer

pub range_stripped : (start end : ℕ) (gs : List hb_glyph_info_t) (a : Sides) → gs ≡ all_glyphs a → strip (slice_range gs start end) ≡ slice_range (items_of a) start end
range_stripped start end gs a e = ap (λ hs. strip (slice_range hs start end)) e ∙ range_seen item_of start end (all_glyphs a)

pub range_inside : (start end m : ℕ) (gs : List hb_glyph_info_t) (a : Sides) → start ≤ end → end ≤ length (all_glyphs a) → gs ≡ all_glyphs a → m ≤ length (slice_range gs start end) → start + m ≤ end
range_inside start end m gs a le fits e few =
    let n = ap (λ hs. length (slice_range hs start end)) e ∙ range_size start end (all_glyphs a) le fits in
    omega (arith, n, few, le)

pub two_asked : (start end : ℕ) (gs : List hb_glyph_info_t) (b t : Bool) (a : Sides) → gs ≡ all_glyphs a → b ≡ has_two_matras (strip (slice_range gs start end)) → b ≡ t → has_two_matras (strip (slice_range (all_glyphs a) start end)) ≡ t
two_asked start end gs b t a e f g = ap (λ hs. has_two_matras (strip (slice_range hs start end))) (sym e) ∙ sym f ∙ g
