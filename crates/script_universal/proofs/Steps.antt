-- The steps of a syllable on a buffer.
use Rattle.std.proofs.Common.{ℕ, ◌≡◌, ◌≤◌, ◌<◌, ◌+◌, ◌-◌, Bool, true, false, if◌then◌else◌, List, length, drop, get_or, Some, slice_get, refl, sym, ap, subst, ◌∙◌, arith}
use Rattle.std.specs.Prelude.{bit_and, not, slice_range}
use Rattle.std.specs.List.{prefix_len}
use Rattle.std.proofs.lemmas.Option.{slice_get-get_or}
use Rattle.std.proofs.lemmas.List.{length-map, drop_all, get_or-take, get_or-drop}
use Rattle.buffer_glyphs.specs.declared.info.hb_glyph_info_t.{hb_glyph_info_t}
use Rattle.script_categories.specs.declared.shaper.hb_ot_script_shaper_t.TheVariants.{UNIVERSAL_SHAPER}
use Rattle.script_categories.specs.Shapers.{is_reordered}
use Rattle.buffer_glyphs.specs.Items.{Item, item_of, strip}
use Rattle.buffer_glyphs.proofs.Lists.{get_or_mapped}
use Rattle.buffer_core.specs.Sides.{Sides, all_glyphs, items_of}
use Rattle.buffer_stages.specs.Ready.{IsReady}
use Rattle.buffer_glyphs.specs.Rewriting.{Arrangement, eventless_arrangement}
use Rattle.buffer_stages.specs.Rewriting.{within}
use Rattle.buffer_stages.specs.Parts.{first_to_back}
use Rattle.buffer_stages.specs.SyllableBuffers.{IsRewritten}
use Rattle.buffer_stages.specs.Lemmas.Rewritings.{counted, rewritten_next, rewritten_same}
use Rattle.buffer_stages.specs.Lemmas.Parts.{range_size, rewritten_part}
use Rattle.script_universal.specs.Reordering.{begins_with_reph, is_halant, left_walk, reph_end, reph_moved, stops_reph, universal_reordered, universal_syllable}
use Rattle.script_universal.specs.Lemmas.Sizes.{reph_size}
use Rattle.buffer_stages.proofs.Lemmas.Elements.{split_at}
use Rattle.buffer_stages.proofs.Lemmas.Counts.{rewritten_even}
use Rattle.buffer_glyphs.specs.Lemmas.Origins.{slice_seen as range_seen}

-- ---- items of a part

pub there : (gs : List hb_glyph_info_t) (start end i : ℕ) (d : hb_glyph_info_t) → start + i < end → end ≤ length gs → slice_get (slice_range (strip gs) start end) i ≡ Some (item_of (get_or gs (start + i) d))
there gs start end i d lt fits =
    let len = length-map gs item_of in
    let inside : i < length (slice_range (strip gs) start end) = omega (arith, range_size start end (strip gs) (omega (arith, lt)) (omega (arith, len, fits)), lt) in
    slice_get-get_or (slice_range (strip gs) start end) i (item_of d) inside
    ∙ ap Some (get_or-take (end - start) (drop start (strip gs)) i (item_of d) (omega (arith, lt)) ∙ get_or-drop start (strip gs) i (item_of d) ∙ get_or_mapped item_of gs (start + i) d)

-- ---- what a reph passes

abbrev pub passed : List Item → ℕ
passed xs = prefix_len (λ (y : Item). not (stops_reph y)) xs

abbrev pub passed_from : List hb_glyph_info_t → ℕ → ℕ
passed_from gs i = i + passed (strip (drop i gs))

pub passed_next : (gs : List hb_glyph_info_t) (i n : ℕ) (g : hb_glyph_info_t) → slice_get gs i ≡ Some g → stops_reph (item_of g) ≡ false → passed_from gs i ≡ n → passed_from gs (i + 1) ≡ n
passed_next gs i n g at e f =
    let rest = passed (strip (drop (i + 1) gs)) in
    let more : passed (strip (drop i gs)) ≡ 1 + rest = ap (λ hs. passed (strip hs)) (split_at gs i g at) ∙ ap (λ (t : Bool). if not t then 1 + rest else 0) e in
    omega (arith, more, f)

pub passed_last : (gs : List hb_glyph_info_t) (i n : ℕ) (g : hb_glyph_info_t) → slice_get gs i ≡ Some g → stops_reph (item_of g) ≡ true → passed_from gs i ≡ n → i ≡ n
passed_last gs i n g at e f =
    let rest = passed (strip (drop (i + 1) gs)) in
    let more : passed (strip (drop i gs)) ≡ 0 = ap (λ hs. passed (strip hs)) (split_at gs i g at) ∙ ap (λ (t : Bool). if not t then 1 + rest else 0) e in
    omega (arith, more, f)

pub all_passed : (gs : List hb_glyph_info_t) (i n : ℕ) → length gs ≤ i → i ≤ length gs → passed_from gs i ≡ n → length gs ≡ n
all_passed gs i n le ge f =
    let more : passed (strip (drop i gs)) ≡ 0 = ap (λ hs. passed (strip hs)) (drop_all i gs le) in
    omega (arith, more, f, le, ge)

-- ---- the items before a halant

abbrev pub before_halant : List Item → ℕ
before_halant xs = prefix_len (λ (y : Item). not (is_halant y)) xs

abbrev pub halant_from : List hb_glyph_info_t → ℕ → ℕ
halant_from gs i = i + before_halant (strip (drop i gs))

halant_more : (gs : List hb_glyph_info_t) (i : ℕ) (g : hb_glyph_info_t) (t : Bool) → slice_get gs i ≡ Some g → is_halant (item_of g) ≡ t → before_halant (strip (drop i gs)) ≡ (if not t then 1 + before_halant (strip (drop (i + 1) gs)) else 0)
halant_more gs i g t at e =
    let rest = before_halant (strip (drop (i + 1) gs)) in
    ap (λ hs. before_halant (strip hs)) (split_at gs i g at) ∙ ap (λ (b : Bool). if not b then 1 + rest else 0) e

pub halant_next : (gs : List hb_glyph_info_t) (i n : ℕ) (g : hb_glyph_info_t) → slice_get gs i ≡ Some g → is_halant (item_of g) ≡ false → halant_from gs i ≡ n → halant_from gs (i + 1) ≡ n
halant_next gs i n g at e f = let more = halant_more gs i g false at e in omega (arith, more, f)

pub halant_last : (gs : List hb_glyph_info_t) (i n : ℕ) (g : hb_glyph_info_t) → slice_get gs i ≡ Some g → is_halant (item_of g) ≡ true → halant_from gs i ≡ n → i ≡ n
halant_last gs i n g at e f = let more = halant_more gs i g true at e in omega (arith, more, f)

pub no_halant : (gs : List hb_glyph_info_t) (i n : ℕ) → length gs ≤ i → i ≤ length gs → halant_from gs i ≡ n → length gs ≡ n
no_halant gs i n le ge f =
    let more : before_halant (strip (drop i gs)) ≡ 0 = ap (λ hs. before_halant (strip hs)) (drop_all i gs le) in
    omega (arith, more, f, le, ge)

-- ---- a reph

abbrev reph_if : List Item → Bool → Arrangement
reph_if xs t = if t then within 0 (reph_end xs) (first_to_back 1) xs else eventless_arrangement xs

pub reph_none : (start end : ℕ) (gs : List hb_glyph_info_t) (a : Sides) → start ≤ end → IsReady a → gs ≡ all_glyphs a → begins_with_reph (strip (slice_range gs start end)) ≡ false
    → IsRewritten (reph_moved (slice_range (items_of a) start end)) start end a a
reph_none start end gs a le ready e f =
    let xs = slice_range (items_of a) start end in
    let none : begins_with_reph xs ≡ false = sym (ap (λ hs. begins_with_reph (strip (slice_range hs start end))) e ∙ ap begins_with_reph (range_seen item_of start end (all_glyphs a))) ∙ f in
    subst (λ r. IsRewritten r start end a a) (sym (ap (reph_if xs) none)) (rewritten_same start end a le ready)

pub reph_inside : (start end n : ℕ) (gs : List hb_glyph_info_t) (a : Sides) → start ≤ end → end ≤ length (all_glyphs a) → gs ≡ all_glyphs a → n ≤ length (slice_range gs start end) → start + n ≤ end
reph_inside start end n gs a le fits e few =
    let m = ap (λ hs. length (slice_range hs start end)) e ∙ range_size start end (all_glyphs a) le fits in
    omega (arith, m, few, le)

pub reph_some : (start end n : ℕ) (gs : List hb_glyph_info_t) (a b : Sides) → start ≤ end → end ≤ length (all_glyphs a) → gs ≡ all_glyphs a → n ≤ length (slice_range gs start end)
    → begins_with_reph (strip (slice_range gs start end)) ≡ true → n ≡ reph_end (strip (slice_range gs start end))
    → IsRewritten (first_to_back 1 (slice_range (items_of a) start (start + n))) start (start + n) a b → IsRewritten (reph_moved (slice_range (items_of a) start end)) start end a b
reph_some start end n gs a b le fits e few f count g =
    let xs = slice_range (items_of a) start end in
    let seen : strip (slice_range gs start end) ≡ xs = ap (λ hs. strip (slice_range hs start end)) e ∙ range_seen item_of start end (all_glyphs a) in
    let yes_reph : begins_with_reph xs ≡ true = ap begins_with_reph (sym seen) ∙ f in
    let at : n ≡ reph_end xs = count ∙ ap reph_end seen in
    let inside = reph_inside start end n gs a le fits e few in
    let h : IsRewritten (within 0 n (first_to_back 1) xs) start end a b = rewritten_part (first_to_back 1) start end 0 n start (start + n) a b (omega arith) refl (omega arith) inside (omega (arith, counted a, fits)) g in
    subst (λ r. IsRewritten r start end a b) (sym (ap (reph_if xs) yes_reph)) (subst (λ k. IsRewritten (within 0 k (first_to_back 1) xs) start end a b) at h)

-- ---- the walk

pub reph_count : (start end : ℕ) (a b : Sides) → start ≤ end → end ≤ length (all_glyphs a) → IsRewritten (reph_moved (slice_range (items_of a) start end)) start end a b → length (all_glyphs b) ≡ length (all_glyphs a)
reph_count start end a b le fits f = rewritten_even (reph_moved (slice_range (items_of a) start end)) start end a b le fits (reph_size (slice_range (items_of a) start end)) f

pub reordered_does : (start end : ℕ) (a b c : Sides) → start ≤ end → end ≤ length (all_glyphs a) → IsRewritten (reph_moved (slice_range (items_of a) start end)) start end a b
    → IsRewritten (left_walk (end - start) 0 0 (slice_range (items_of b) start end)) start end b c → IsRewritten (universal_reordered (slice_range (items_of a) start end)) start end a c
reordered_does start end a b c le fits f g =
    let xs = slice_range (items_of a) start end in
    let inside : end ≤ length (items_of a) = omega (arith, counted a, fits) in
    let size : length xs ≡ end - start = range_size start end (items_of a) le inside in
    let P : ℕ → Type 0 = λ n. IsRewritten (left_walk n 0 0 (slice_range (items_of b) start end)) start end b c in
    rewritten_next (reph_moved xs) (left_walk (length xs) 0 0) start end a b c le inside (reph_size xs ∙ size) f (subst P (sym size) g)

-- a syllable by its kind
syllable_by : (xs : List Item) (x : Item) (t : Bool) → slice_get xs 0 ≡ Some x → is_reordered UNIVERSAL_SHAPER (bit_and x.syllable 15) ≡ t → universal_syllable xs ≡ (if t then universal_reordered xs else eventless_arrangement xs)
syllable_by xs x t e f = rw e (ap (λ b. if b then universal_reordered xs else eventless_arrangement xs) f)

pub kept_does : (start end : ℕ) (x : Item) (a : Sides) → start ≤ end → IsReady a → slice_get (slice_range (items_of a) start end) 0 ≡ Some x → is_reordered UNIVERSAL_SHAPER (bit_and x.syllable 15) ≡ false
    → IsRewritten (universal_syllable (slice_range (items_of a) start end)) start end a a
kept_does start end x a le ready e f = subst (λ r. IsRewritten r start end a a) (sym (syllable_by (slice_range (items_of a) start end) x false e f)) (rewritten_same start end a le ready)

pub all_does : (start end : ℕ) (x : Item) (a b : Sides) → slice_get (slice_range (items_of a) start end) 0 ≡ Some x → is_reordered UNIVERSAL_SHAPER (bit_and x.syllable 15) ≡ true
    → IsRewritten (universal_reordered (slice_range (items_of a) start end)) start end a b → IsRewritten (universal_syllable (slice_range (items_of a) start end)) start end a b
all_does start end x a b e f g = subst (λ r. IsRewritten r start end a b) (sym (syllable_by (slice_range (items_of a) start end) x true e f)) g
