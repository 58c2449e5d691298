-- The steps of the initial reordering of a syllable on a buffer.
use Rattle.std.proofs.Common.{ℕ, ◌≡◌, ◌≤◌, ◌<◌, ◌+◌, ◌-◌, Bool, true, false, if◌then◌else◌, List, length, take, drop, get_or, Some, Option, slice_get, refl, sym, ap, subst, ◌∙◌, arith}
use Rattle.std.specs.Prelude.{bit_and, not, slice_range, Result, Ok, Err, OnOk}
use Rattle.std.specs.List.{position_or_len}
use Rattle.std.proofs.lemmas.Option.{slice_get-get_or}
use Rattle.std.proofs.lemmas.List.{length-map, drop-drop, drop-take, get_or-take, get_or-drop, take-take}
use Rattle.buffer_glyphs.specs.declared.info.hb_glyph_info_t.{hb_glyph_info_t}
use Rattle.script_categories.specs.declared.shaper.hb_ot_script_shaper_t.TheVariants.{INDIC_SHAPER}
use Rattle.script_categories.specs.Shapers.{is_reordered}
use Rattle.buffer_glyphs.specs.Items.{Item, item_of, strip}
use Rattle.buffer_glyphs.proofs.Lists.{get_or_mapped}
use Rattle.buffer_core.specs.Sides.{Sides, all_glyphs, items_of}
use Rattle.buffer_stages.specs.Ready.{IsReady}
use Rattle.buffer_glyphs.specs.Rewriting.{Arrangement, eventless_arrangement, and_arranged}
use Rattle.buffer_stages.specs.Rewriting.{within}
use Rattle.buffer_stages.specs.Ordering.{groups_reversed, auxiliary_order}
use Rattle.buffer_stages.specs.SyllableBuffers.{IsRewritten}
use Rattle.buffer_stages.proofs.Lemmas.Counts.{rewritten_even}
use Rattle.buffer_stages.specs.Lemmas.Rewritings.{counted, rewritten_next, rewritten_same}
use Rattle.buffer_stages.specs.Lemmas.Parts.{range_size, range_within, rewritten_part}
use Rattle.buffer_stages.specs.Lemmas.Sorted.{sorted_size}
use Rattle.script_indic_reordering.specs.declared.script.RephMode.{RephMode}
use Rattle.script_indic_reordering.specs.declared.script.IndicMasks.{IndicMasks}
use Rattle.script_indic_reordering.specs.Base.{Forms, RephAndBase, reph_and_base}
use Rattle.script_indic_reordering.specs.Glyphs.{is_left, is_matra}
use Rattle.script_indic_reordering.specs.Initial.{all_placed, first_left, has_two_matras, initial_reordered, left_count, masks_set, matras_reversed, pref_pair}
use Rattle.script_indic_reordering.specs.Orders.{if_reordered, initial_syllable}
use Rattle.script_indic_reordering.specs.Lemmas.InitialSize.{all_placed_size, lefts_within, matras_size}
use Rattle.buffer_glyphs.specs.Lemmas.Origins.{slice_seen as range_seen}

-- ---- items of a part

pub there : (gs : List hb_glyph_info_t) (start end i : ℕ) (d : hb_glyph_info_t) → start + i < end → end ≤ length gs → slice_get (slice_range (strip gs) start end) i ≡ Some (item_of (get_or gs (start + i) d))
there gs start end i d lt fits =
    let len = length-map gs item_of in
    let inside : i < length (slice_range (strip gs) start end) = omega (arith, range_size start end (strip gs) (omega (arith, lt)) (omega (arith, len, fits)), lt) in
    slice_get-get_or (slice_range (strip gs) start end) i (item_of d) inside
    ∙ ap Some (get_or-take (end - start) (drop start (strip gs)) i (item_of d) (omega (arith, lt)) ∙ get_or-drop start (strip gs) i (item_of d) ∙ get_or_mapped item_of gs (start + i) d)

pub first_there : (gs : List hb_glyph_info_t) (start end : ℕ) (d : hb_glyph_info_t) → start < end → end ≤ length gs → slice_get (slice_range (strip gs) start end) 0 ≡ Some (item_of (get_or gs start d))
first_there gs start end d lt fits = let at : start + 0 ≡ start = omega arith in there gs start end 0 d (omega (arith, lt)) fits ∙ ap (λ n. Some (item_of (get_or gs n d))) at

pub seen_in : (start end : ℕ) (gs : List hb_glyph_info_t) (a : Sides) → gs ≡ all_glyphs a → strip (slice_range gs start end) ≡ slice_range (items_of a) start end
seen_in start end gs a e = ap (λ hs. strip (slice_range hs start end)) e ∙ range_seen item_of start end (all_glyphs a)

pub size_in : (start end : ℕ) (gs : List hb_glyph_info_t) (a : Sides) → gs ≡ all_glyphs a → start ≤ end → end ≤ length (all_glyphs a) → length (slice_range gs start end) ≡ end - start
size_in start end gs a e le fits = ap (λ hs. length (slice_range hs start end)) e ∙ range_size start end (all_glyphs a) le fits

-- a part of a part from an index on
pub later : {X : Type 0} (start end n : ℕ) (xs : List X) → start + n ≤ end → slice_range xs (start + n) end ≡ drop n (slice_range xs start end)
later start end n xs le =
    let wide : end - start ≡ n + (end - (start + n)) = omega (arith, le) in
    sym (ap (λ k. drop n (take k (drop start xs))) wide ∙ drop-take n (end - (start + n)) (drop start xs) ∙ ap (take (end - (start + n))) (drop-drop n start xs))

-- the first k of them
pub middle : {X : Type 0} (start end n k : ℕ) (xs : List X) → start + n + k ≤ end → slice_range xs (start + n) (start + n + k) ≡ take k (drop n (slice_range xs start end))
middle start end n k xs le =
    let wide : start + n + k - (start + n) ≡ k = omega arith in
    let most : k ≤ end - (start + n) = omega (arith, le) in
    ap (λ m. take m (drop (start + n) xs)) wide ∙ sym (take-take k (end - (start + n)) (drop (start + n) xs) most) ∙ ap (take k) (later start end n xs (omega (arith, le)))

-- ---- positions and masks

reph_and_base_is : (r : Bool) (n : ℕ) (f : RephAndBase) → r ≡ f.has_reph → n ≡ f.base → ◌≡◌ {A = RephAndBase} (record { has_reph = r; base = n }) f
reph_and_base_is r n f e g = ap (λ b. record { has_reph = b; base = n }) e ∙ ap (λ m. record { has_reph = f.has_reph; base = m }) g

pub positions_do : (mode : RephMode) (forms : Forms) (start end : ℕ) (r : Bool) (n : ℕ) (gs : List hb_glyph_info_t) (a b : Sides) → gs ≡ all_glyphs a
    → r ≡ (reph_and_base mode forms (strip (slice_range gs start end))).has_reph → n ≡ (reph_and_base mode forms (strip (slice_range gs start end))).base
    → IsRewritten (eventless_arrangement (all_placed (record { has_reph = r; base = n }) (slice_range (items_of a) start end))) start end a b
    → IsRewritten (eventless_arrangement (all_placed (reph_and_base mode forms (slice_range (items_of a) start end)) (slice_range (items_of a) start end))) start end a b
positions_do mode forms start end r n gs a b e f g h =
    let xs = slice_range (items_of a) start end in
    let is = reph_and_base_is r n (reph_and_base mode forms (strip (slice_range gs start end))) f g ∙ ap (reph_and_base mode forms) (seen_in start end gs a e) in
    subst (λ (p : RephAndBase). IsRewritten (eventless_arrangement (all_placed p xs)) start end a b) is h

pub features_do : (m : IndicMasks) (forms : Forms) (start end : ℕ) (pair : Option ℕ) (gs : List hb_glyph_info_t) (a b : Sides) → gs ≡ all_glyphs a → pair ≡ pref_pair forms (strip (slice_range gs start end))
    → IsRewritten (eventless_arrangement (masks_set m pair (slice_range (items_of a) start end))) start end a b
    → IsRewritten (eventless_arrangement (masks_set m (pref_pair forms (slice_range (items_of a) start end)) (slice_range (items_of a) start end))) start end a b
features_do m forms start end pair gs a b e f h =
    let xs = slice_range (items_of a) start end in
    subst (λ p. IsRewritten (eventless_arrangement (masks_set m p xs)) start end a b) (f ∙ ap (pref_pair forms) (seen_in start end gs a e)) h

-- ---- left matras

abbrev pub left_counted : List Item → ℕ
left_counted ys = position_or_len (λ x. not (is_left x)) ys

abbrev reversal_if : List Item → Bool → Arrangement
reversal_if xs t = if t then within (first_left xs) (first_left xs + left_count xs) (groups_reversed is_matra) xs else eventless_arrangement xs

pub matras_kept : (start end : ℕ) (a : Sides) → start ≤ end → IsReady a
    → has_two_matras (take (left_count (slice_range (items_of a) start end)) (drop (first_left (slice_range (items_of a) start end)) (slice_range (items_of a) start end))) ≡ false
    → IsRewritten (matras_reversed (slice_range (items_of a) start end)) start end a a
matras_kept start end a le ready f =
    let xs = slice_range (items_of a) start end in
    subst (λ r. IsRewritten r start end a a) (sym (ap (reversal_if xs) f)) (rewritten_same start end a le ready)

pub matras_turned : (start end n k : ℕ) (a b : Sides) → start + n + k ≤ end → end ≤ length (all_glyphs a) → n ≡ first_left (slice_range (items_of a) start end) → k ≡ left_count (slice_range (items_of a) start end)
    → has_two_matras (take (left_count (slice_range (items_of a) start end)) (drop (first_left (slice_range (items_of a) start end)) (slice_range (items_of a) start end))) ≡ true
    → IsRewritten (groups_reversed is_matra (slice_range (items_of a) (start + n) (start + n + k))) (start + n) (start + n + k) a b
    → IsRewritten (matras_reversed (slice_range (items_of a) start end)) start end a b
matras_turned start end n k a b inside fits e f two g =
    let xs = slice_range (items_of a) start end in
    let h : IsRewritten (within n (n + k) (groups_reversed is_matra) xs) start end a b =
    rewritten_part (groups_reversed is_matra) start end n (n + k) (start + n) (start + n + k) a b refl (omega arith) (omega arith) (omega (arith, inside)) (omega (arith, counted a, fits)) g in
    subst (λ r. IsRewritten r start end a b) (sym (ap (reversal_if xs) two))
    (subst (λ i. IsRewritten (within i (i + left_count xs) (groups_reversed is_matra) xs) start end a b) e (subst (λ j. IsRewritten (within n (n + j) (groups_reversed is_matra) xs) start end a b) f h))

-- what the code asks of the part is what the rule asks
pub count_known : (start end n : ℕ) (gs : List hb_glyph_info_t) (k m : ℕ) (count : List Item → ℕ) (a : Sides) → gs ≡ all_glyphs a → start + n ≤ end → n ≡ m → k ≡ count (strip (slice_range gs (start + n) end)) → k ≡ count (drop m (slice_range (items_of a) start end))
count_known start end n gs k m count a e le at f = f ∙ ap count (seen_in (start + n) end gs a e ∙ later start end n (items_of a) le) ∙ ap (λ i. count (drop i (slice_range (items_of a) start end))) at

pub two_known : (start end n k : ℕ) (gs : List hb_glyph_info_t) (b t : Bool) (a : Sides) → gs ≡ all_glyphs a → start + n + k ≤ end → n ≡ first_left (slice_range (items_of a) start end) → k ≡ left_count (slice_range (items_of a) start end)
    → b ≡ has_two_matras (strip (slice_range gs (start + n) (start + n + k))) → b ≡ t
    → has_two_matras (take (left_count (slice_range (items_of a) start end)) (drop (first_left (slice_range (items_of a) start end)) (slice_range (items_of a) start end))) ≡ t
two_known start end n k gs b t a e le at f g h =
    let xs = slice_range (items_of a) start end in
    ap (λ i. has_two_matras (take (left_count xs) (drop i xs))) (sym at) ∙ ap (λ j. has_two_matras (take j (drop n xs))) (sym f)
    ∙ ap has_two_matras (sym (seen_in (start + n) (start + n + k) gs a e ∙ middle start end n k (items_of a) le)) ∙ sym g ∙ h

-- ---- a syllable

pub syllable_does : (mode : RephMode) (m : IndicMasks) (forms : Forms) (start end : ℕ) (a b c d e : Sides) → start ≤ end → end ≤ length (all_glyphs a)
    → IsRewritten (eventless_arrangement (all_placed (reph_and_base mode forms (slice_range (items_of a) start end)) (slice_range (items_of a) start end))) start end a b
    → IsRewritten (auxiliary_order (slice_range (items_of b) start end)) start end b c → IsRewritten (matras_reversed (slice_range (items_of c) start end)) start end c d
    → IsRewritten (eventless_arrangement (masks_set m (pref_pair forms (slice_range (items_of d) start end)) (slice_range (items_of d) start end))) start end d e
    → IsRewritten (initial_reordered mode m forms (slice_range (items_of a) start end)) start end a e
syllable_does mode m forms start end a b c d e le fits f g h k =
    let xs = slice_range (items_of a) start end in
    let inside : end ≤ length (items_of a) = omega (arith, counted a, fits) in
    let size : length xs ≡ end - start = range_size start end (items_of a) le inside in
    let placed = eventless_arrangement (all_placed (reph_and_base mode forms xs) xs) in
    let one : length placed.items ≡ end - start = all_placed_size (reph_and_base mode forms xs) xs ∙ size in
    let sorted = and_arranged placed auxiliary_order in
    let two : length sorted.items ≡ end - start = sorted_size placed.items ∙ one in
    let turned = and_arranged sorted matras_reversed in
    let three : length turned.items ≡ end - start = matras_size sorted.items ∙ two in
    rewritten_next turned (λ ys. eventless_arrangement (masks_set m (pref_pair forms ys) ys)) start end a d e le inside three
    (rewritten_next sorted matras_reversed start end a c d le inside two (rewritten_next placed auxiliary_order start end a b c le inside one f g) h) k

-- as many glyphs stay
pub placed_even : (f : List Item → RephAndBase) (start end : ℕ) (a b : Sides) → start ≤ end → end ≤ length (all_glyphs a) → IsRewritten (eventless_arrangement (all_placed (f (slice_range (items_of a) start end)) (slice_range (items_of a) start end))) start end a b → length (all_glyphs b) ≡ length (all_glyphs a)
placed_even f start end a b le fits h =
    let xs = slice_range (items_of a) start end in
    rewritten_even (eventless_arrangement (all_placed (f xs) xs)) start end a b le fits (all_placed_size (f xs) xs) h

pub sorted_even : (start end : ℕ) (a b : Sides) → start ≤ end → end ≤ length (all_glyphs a) → IsRewritten (auxiliary_order (slice_range (items_of a) start end)) start end a b → length (all_glyphs b) ≡ length (all_glyphs a)
sorted_even start end a b le fits h = rewritten_even (auxiliary_order (slice_range (items_of a) start end)) start end a b le fits (sorted_size (slice_range (items_of a) start end)) h

pub matras_even : (start end : ℕ) (a b : Sides) → start ≤ end → end ≤ length (all_glyphs a) → IsRewritten (matras_reversed (slice_range (items_of a) start end)) start end a b → length (all_glyphs b) ≡ length (all_glyphs a)
matras_even start end a b le fits h = rewritten_even (matras_reversed (slice_range (items_of a) start end)) start end a b le fits (matras_size (slice_range (items_of a) start end)) h

-- a syllable of a kind that is reordered, and one of another
syllable_by : (rule : List Item → Arrangement) (xs : List Item) (x : Item) (t : Bool) → slice_get xs 0 ≡ Some x → is_reordered INDIC_SHAPER (bit_and x.syllable 15) ≡ t → if_reordered rule xs (slice_get xs 0) ≡ (if t then rule xs else eventless_arrangement xs)
syllable_by rule xs x t e f = ap (if_reordered rule xs) e ∙ ap (λ b. if b then rule xs else eventless_arrangement xs) f

pub kept_does : (rule : List Item → Arrangement) (start end : ℕ) (x : Item) (a : Sides) → start ≤ end → IsReady a → slice_get (slice_range (items_of a) start end) 0 ≡ Some x → is_reordered INDIC_SHAPER (bit_and x.syllable 15) ≡ false
    → IsRewritten (if_reordered rule (slice_range (items_of a) start end) (slice_get (slice_range (items_of a) start end) 0)) start end a a
kept_does rule start end x a le ready e f = subst (λ r. IsRewritten r start end a a) (sym (syllable_by rule (slice_range (items_of a) start end) x false e f)) (rewritten_same start end a le ready)

pub rule_does : (rule : List Item → Arrangement) (start end : ℕ) (x : Item) (a b : Sides) → slice_get (slice_range (items_of a) start end) 0 ≡ Some x → is_reordered INDIC_SHAPER (bit_and x.syllable 15) ≡ true
    → IsRewritten (rule (slice_range (items_of a) start end)) start end a b → IsRewritten (if_reordered rule (slice_range (items_of a) start end) (slice_get (slice_range (items_of a) start end) 0)) start end a b
rule_does rule start end x a b e f g = subst (λ r. IsRewritten r start end a b) (sym (syllable_by rule (slice_range (items_of a) start end) x true e f)) g

pub rule_does_or : {E : Type 0} (rule : List Item → Arrangement) (start end : ℕ) (x : Item) (a b : Sides) (r : Result (Unit {0}) E) → slice_get (slice_range (items_of a) start end) 0 ≡ Some x → is_reordered INDIC_SHAPER (bit_and x.syllable 15) ≡ true
    → OnOk r (IsRewritten (rule (slice_range (items_of a) start end)) start end a b) → OnOk r (IsRewritten (if_reordered rule (slice_range (items_of a) start end) (slice_get (slice_range (items_of a) start end) 0)) start end a b)
rule_does_or rule start end x a b (Err c) e f g = tt
rule_does_or rule start end x a b (Ok u) e f g = rule_does rule start end x a b e f g
