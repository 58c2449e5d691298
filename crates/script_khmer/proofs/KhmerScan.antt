-- What is looked for in the glyphs of a Khmer syllable, and the masks of its forms.
use Rattle.std.proofs.Common.{ℕ, zero, suc, ◌≡◌, ◌≤◌, ◌<◌, ◌+◌, ◌-◌, ◌==◌, ◌&&◌, Bool, true, false, not, nat_lt, if◌then◌else◌, List, [], ◌∷◌, ◌++◌, get_or, length, map, take, drop, refl, sym, ap, subst, ◌∙◌, arith, append_assoc}
use Rattle.std.specs.Prelude.{slice_range}
use Rattle.std.proofs.lemmas.Bool.{eqb-true}
use Rattle.std.proofs.lemmas.Bool.Decides.{nat_tests}
use Rattle.std.proofs.lemmas.Grind.{common_steps}
use Rattle.std.proofs.lemmas.List.{drop_all, drop-map, length-drop, length-map, take-append-drop}
use Rattle.script_categories.specs.declared.ot_category_t.TheConstants as category
use Rattle.buffer_glyphs.specs.declared.info.hb_glyph_info_t.{hb_glyph_info_t}
use Rattle.buffer_glyphs.specs.Items.{Item, clusters, item_of, strip}
use Rattle.buffer_glyphs.specs.Origins.{numbers, origin_of, origins}
use Rattle.buffer_glyphs.specs.Lemmas.Origins.{numbers_origins, slice_seen as range_seen}
use Rattle.buffer_core.specs.Sides.{Sides, all_glyphs, items_of}
use Rattle.buffer_core.specs.Lending.{with_refilled}
use Rattle.buffer_stages.specs.Ready.{IsReady}
use Rattle.buffer_stages.specs.Moves.{MoveToFront, reach}
use Rattle.buffer_stages.specs.Fronts.{moves_to_front, pair_seen}
use Rattle.buffer_glyphs.specs.Rewriting.{eventless_arrangement}
use Rattle.buffer_stages.specs.Parts.{glyph_masked, item_with_features}
use Rattle.buffer_stages.specs.SyllableBuffers.{IsRewritten}
use Rattle.buffer_stages.specs.Lemmas.Parts.{item_masked_is, origin_masked_is, part_clusters, part_written}
use Rattle.script_khmer.specs.Runs.{IsRun, ends_run, forms_masked, is_vowel, run_length, front_count, together}
use Rattle.script_khmer.specs.Lemmas.Forms.{ra_no_coeng}
use Rattle.buffer_stages.specs.Lemmas.Fronted.{part_of as middle}
use Rattle.buffer_facts.proofs.Lists.{drop_at as drop_first}

-- ---- lists from an index on

drop_two : {X : Type 0} (gs : List X) (i : ℕ) (d : X) → i + 2 ≤ length gs → drop i gs ≡ get_or gs i d ∷ get_or gs (i + 1) d ∷ drop (i + 2) gs
drop_two gs i d le =
    let on : i + 1 + 1 ≡ i + 2 = omega arith in
    drop_first gs i d (omega (arith, le)) ∙ ap (λ ys. get_or gs i d ∷ ys) (drop_first gs (i + 1) d (omega (arith, le))) ∙ ap (λ n. get_or gs i d ∷ get_or gs (i + 1) d ∷ drop n gs) on

-- ---- the length of a run

abbrev pub run_from : Bool → Bool → List hb_glyph_info_t → ℕ → ℕ
run_from forms few gs i = i + run_length forms few (strip (drop i gs))

run_more : (forms few : Bool) (gs : List hb_glyph_info_t) (i : ℕ) (t : Bool) → i < length gs → ends_run forms few (strip (drop i gs)) ≡ t → run_length forms few (strip (drop i gs)) ≡ (if t then 0 else 1 + run_length forms few (strip (drop (i + 1) gs)))
run_more forms few [] i t lt e = absurd (omega (arith, lt))
run_more forms few (g ∷ gs) i t lt e =
    let split = drop_first (g ∷ gs) i g lt in
    let rest = drop (i + 1) (g ∷ gs) in
    let P : List hb_glyph_info_t → Type 0 = λ ws. ends_run forms few (strip ws) ≡ t → run_length forms few (strip ws) ≡ (if t then 0 else 1 + run_length forms few (strip rest)) in
    subst P (sym split) (λ f. ap (λ b. if b then 0 else 1 + run_length forms few (strip rest)) f) e

pub run_next : (forms few : Bool) (gs : List hb_glyph_info_t) (i n : ℕ) → i < length gs → ends_run forms few (strip (drop i gs)) ≡ false → run_from forms few gs i ≡ n → run_from forms few gs (i + 1) ≡ n
run_next forms few gs i n lt e f = let more = run_more forms few gs i false lt e in omega (arith, more, f)

pub run_last : (forms few : Bool) (gs : List hb_glyph_info_t) (i n : ℕ) → i < length gs → ends_run forms few (strip (drop i gs)) ≡ true → run_from forms few gs i ≡ n → i ≡ n
run_last forms few gs i n lt e f = let more = run_more forms few gs i true lt e in omega (arith, more, f)

pub run_all : (forms few : Bool) (gs : List hb_glyph_info_t) (i n : ℕ) → length gs ≤ i → i ≤ length gs → run_from forms few gs i ≡ n → length gs ≡ n
run_all forms few gs i n le ge f =
    let more : run_length forms few (strip (drop i gs)) ≡ 0 = ap (λ hs. run_length forms few (strip hs)) (drop_all i gs le) in
    omega (arith, more, f, le, ge)

-- a Ra ends no run
ra_goes_on : (forms few : Bool) (y : Item) (zs : List Item) → (y.category == category.OT_Ra) ≡ true → ends_run forms few (y ∷ zs) ≡ false
ra_goes_on forms few y [] e = ap (λ b. b && few) (ra_no_coeng y e)
ra_goes_on forms few y (z ∷ zs) e = ap (λ b. (b && few) && not (together forms y z)) (ra_no_coeng y e)

-- the items before the first one that ends it are a run
pub run_is : (forms few : Bool) (xs : List Item) → IsRun forms few (take (run_length forms few xs) xs)
run_is forms few [] = tt
run_is forms few (x ∷ xs) = by_test (ends_run forms few (x ∷ xs)) refl (run_is forms few xs)
  where
    alone_not : (a b : Bool) → b ≡ false → (a && not b) ≡ false → a ≡ false
    alone_not true true e f = cc
    alone_not true false e f = cc
    alone_not false b e f = refl

    no_form : (b : Bool) (g : Bool) (c d : Bool) → g ≡ b → (b && (c && d)) ≡ true → d ≡ true
    no_form true g true true e f = refl
    no_form true g true false e f = cc
    no_form true g false d e f = cc
    no_form false g c d e f = cc

    first : (ys : List Item) → ends_run forms few (x ∷ ys) ≡ false → ends_run forms few (x ∷ take (run_length forms few ys) ys) ≡ false
    first [] e = e
    first (y ∷ ys) e = by_next (ends_run forms few (y ∷ ys)) refl
      where
        by_form : (u : Bool) → together forms x y ≡ u → ends_run forms few (y ∷ ys) ≡ true → (x.category == category.OT_H && few) ≡ false
        by_form true g f = absurd (false_true (sym (ra_goes_on forms few y ys (no_form forms forms (x.category == category.OT_H) (y.category == category.OT_Ra) refl g)) ∙ f))
          where
            false_true : false ≡ true → ⊥
            false_true h = cc
        by_form false g f = alone_not (x.category == category.OT_H && few) (together forms x y) g e

        by_next : (t : Bool) → ends_run forms few (y ∷ ys) ≡ t → ends_run forms few (x ∷ take (if t then 0 else 1 + run_length forms few ys) (y ∷ ys)) ≡ false
        by_next true f = by_form (together forms x y) refl f
        by_next false f = let one : 1 + run_length forms few ys ≡ suc (run_length forms few ys) = omega arith in ap (λ n. ends_run forms few (x ∷ take n (y ∷ ys))) one ∙ e

    by_test : (t : Bool) → ends_run forms few (x ∷ xs) ≡ t → IsRun forms few (take (run_length forms few xs) xs) → IsRun forms few (take (if t then 0 else 1 + run_length forms few xs) (x ∷ xs))
    by_test true e h = tt
    by_test false e h =
        let one : suc (run_length forms few xs) ≡ 1 + run_length forms few xs = omega arith in
        subst (λ n. IsRun forms few (take n (x ∷ xs))) one (first xs e, h)

-- ---- up to where glyphs come to the front

abbrev pub moves_from : Bool → ℕ → List Item → List MoveToFront
moves_from forms i xs = moves_to_front (together forms) is_vowel i (drop i xs)

ra_stays : (forms : Bool) (i : ℕ) (y : Item) (zs : List Item) → (y.category == category.OT_Ra) ≡ true → moves_to_front (together forms) is_vowel (i + 1) (y ∷ zs) ≡ moves_to_front (together forms) is_vowel (i + 2) zs
ra_stays forms i y [] e = ap (λ b. if b && nat_lt 0 (i + 1) then record { passed = i + 1; taken = 1 } ∷ [] else []) (ap (λ n. n == category.OT_VPre) (eqb-true y.category category.OT_Ra e))
ra_stays forms i y (z ∷ zs) e =
    let one : Bool → List MoveToFront = λ b. if b && nat_lt 0 (i + 1) then record { passed = i + 1; taken = 1 } ∷ moves_to_front (together forms) is_vowel (i + 1 + 1) (z ∷ zs) else moves_to_front (together forms) is_vowel (i + 1 + 1) (z ∷ zs) in
    let on : i + 1 + 1 ≡ i + 2 = omega arith in
    ap (λ b. if b then record { passed = i + 1; taken = 2 } ∷ moves_to_front (together forms) is_vowel (i + 1 + 2) zs else one (is_vowel y)) (apart forms)
    ∙ ap one (ap (λ n. n == category.OT_VPre) (eqb-true y.category category.OT_Ra e)) ∙ ap (λ n. moves_to_front (together forms) is_vowel n (z ∷ zs)) on
  where
    apart : (f : Bool) → together f y z ≡ false
    apart true = ap (λ b. b && (z.category == category.OT_Ra)) (ra_no_coeng y e)
    apart false = refl

reach_first : (forms : Bool) (zs : List Item) (i n : ℕ) → 0 < i → 0 < length zs
    → reach (if nat_lt 0 (front_count forms zs) then i + front_count forms zs else n) (moves_to_front (together forms) is_vowel (i + 1) (drop 1 zs)) ≡ reach n (moves_to_front (together forms) is_vowel i zs)
reach_first forms [] i n some lt = absurd (omega (arith, lt))
reach_first forms (x ∷ []) i n some lt = by_vowel (is_vowel x) ∙ ap (λ b. reach n (if is_vowel x && b then record { passed = i; taken = 1 } ∷ [] else [])) (sym later)
  where
    later : nat_lt 0 i ≡ true
    later = grind (arith, nat_tests, common_steps, some)

    by_vowel : (b : Bool) → reach (if nat_lt 0 (if b then 1 else 0) then i + (if b then 1 else 0) else n) [] ≡ reach n (if b && true then record { passed = i; taken = 1 } ∷ [] else [])
    by_vowel true = refl
    by_vowel false = refl
reach_first forms (x ∷ y ∷ zs) i n some lt = by_form (together forms x y) refl
  where
    later : nat_lt 0 i ≡ true
    later = grind (arith, nat_tests, common_steps, some)

    rest : List MoveToFront
    rest = moves_to_front (together forms) is_vowel (i + 1) (y ∷ zs)

    no_form : (b c d : Bool) → (b && (c && d)) ≡ true → d ≡ true
    no_form true true true f = refl
    no_form true true false f = cc
    no_form true false d f = cc
    no_form false c d f = cc

    by_vowel : (b : Bool) → reach (if nat_lt 0 (if b then 1 else 0) then i + (if b then 1 else 0) else n) rest ≡ reach n (if b && true then record { passed = i; taken = 1 } ∷ rest else rest)
    by_vowel true = refl
    by_vowel false = refl

    by_form : (t : Bool) → together forms x y ≡ t
        → reach (if nat_lt 0 (if t then 2 else if is_vowel x then 1 else 0) then i + (if t then 2 else if is_vowel x then 1 else 0) else n) rest
        ≡ reach n (if t then record { passed = i; taken = 2 } ∷ moves_to_front (together forms) is_vowel (i + 2) zs else if is_vowel x && nat_lt 0 i then record { passed = i; taken = 1 } ∷ rest else rest)
    by_form true e = ap (reach (i + 2)) (ra_stays forms i y zs (no_form forms (x.category == category.OT_H) (y.category == category.OT_Ra) e))
    by_form false e = by_vowel (is_vowel x) ∙ ap (λ b. reach n (if is_vowel x && b then record { passed = i; taken = 1 } ∷ rest else rest)) (sym later)

reach_at : (forms : Bool) (gs : List hb_glyph_info_t) (i n : ℕ) → 0 < i → i < length gs
    → reach (if nat_lt 0 (front_count forms (strip (drop i gs))) then i + front_count forms (strip (drop i gs)) else n) (moves_from forms (i + 1) (strip gs)) ≡ reach n (moves_from forms i (strip gs))
reach_at forms [] i n some lt = absurd (omega (arith, lt))
reach_at forms (g ∷ gs) i n some lt =
    let hs = g ∷ gs in
    let zs = strip (drop i hs) in
    let split : zs ≡ item_of (get_or hs i g) ∷ strip (drop (i + 1) hs) = ap strip (drop_first hs i g lt) in
    let tail : drop 1 zs ≡ drop (i + 1) (strip hs) = ap (drop 1) split ∙ sym (drop-map item_of (i + 1) hs) in
    let long : 0 < length zs = let size = ap (λ (ys : List Item). length ys) split in omega (arith, size) in
    let same : zs ≡ drop i (strip hs) = sym (drop-map item_of i hs) in
    ap (λ ys. reach (if nat_lt 0 (front_count forms zs) then i + front_count forms zs else n) (moves_to_front (together forms) is_vowel (i + 1) ys)) (sym tail)
    ∙ reach_first forms zs i n some long ∙ ap (λ ys. reach n (moves_to_front (together forms) is_vowel i ys)) same

pub none_taken : (forms : Bool) (gs : List hb_glyph_info_t) (i n t : ℕ) → 0 < i → i < length gs → t ≡ front_count forms (strip (drop i gs)) → t ≡ 0 → reach n (moves_from forms (i + 1) (strip gs)) ≡ reach n (moves_from forms i (strip gs))
none_taken forms gs i n t some lt e none = ap (λ k. reach (if nat_lt 0 k then i + k else n) (moves_from forms (i + 1) (strip gs))) (sym none ∙ e) ∙ reach_at forms gs i n some lt

pub some_taken : (forms : Bool) (gs : List hb_glyph_info_t) (i n t : ℕ) → 0 < i → i < length gs → t ≡ front_count forms (strip (drop i gs)) → 0 < t → reach (i + t) (moves_from forms (i + 1) (strip gs)) ≡ reach n (moves_from forms i (strip gs))
some_taken forms gs i n t some lt e more =
    let test : nat_lt 0 t ≡ true = grind (arith, nat_tests, common_steps, more) in
    ap (λ b. reach (if b then i + t else n) (moves_from forms (i + 1) (strip gs))) (sym test) ∙ ap (λ k. reach (if nat_lt 0 k then i + k else n) (moves_from forms (i + 1) (strip gs))) e ∙ reach_at forms gs i n some lt

pub all_seen : (forms : Bool) (gs : List hb_glyph_info_t) (i n : ℕ) → length gs ≤ i → reach n (moves_from forms i (strip gs)) ≡ n
all_seen forms gs i n le = let long = length-map gs item_of in ap (λ ys. reach n (moves_to_front (together forms) is_vowel i ys)) (drop_all i (strip gs) (omega (arith, long, le)))

-- ---- masks of forms

abbrev pub glyphs_formed : ℕ → List hb_glyph_info_t → List hb_glyph_info_t
glyphs_formed bits gs = forms_masked (pair_seen (together true)) (glyph_masked bits) gs

pub form_masked : (gs new : List hb_glyph_info_t) (i bits : ℕ) (d : hb_glyph_info_t) → i + 2 ≤ length gs → together true (item_of (get_or gs i d)) (item_of (get_or gs (i + 1) d)) ≡ true
    → new ≡ take i gs ++ map (glyph_masked bits) (slice_range gs i (i + 2)) ++ drop (i + 2) gs
    → take (i + 2) new ++ glyphs_formed bits (drop (i + 2) new) ≡ take i gs ++ glyphs_formed bits (drop i gs)
form_masked gs new i bits d le pair e =
    let a = get_or gs i d in
    let b = get_or gs (i + 1) d in
    let rest = drop (i + 2) gs in
    let ms = glyph_masked bits a ∷ glyph_masked bits b ∷ [] in
    let two : i + 2 - i ≡ 2 = omega arith in
    let split = drop_two gs i d le in
    let part : map (glyph_masked bits) (slice_range gs i (i + 2)) ≡ ms = ap (λ n. map (glyph_masked bits) (take n (drop i gs))) two ∙ ap (λ ys. map (glyph_masked bits) (take 2 ys)) split in
    let laid : new ≡ take i gs ++ ms ++ rest = e ∙ ap (λ ys. take i gs ++ ys ++ rest) part in
    let cut = middle i (i + 2) gs ms (omega arith) le (sym two) in
    let formed : glyphs_formed bits (drop i gs) ≡ ms ++ glyphs_formed bits rest = ap (glyphs_formed bits) split ∙ ap (λ t. if t then glyph_masked bits a ∷ glyph_masked bits b ∷ glyphs_formed bits rest else a ∷ glyphs_formed bits (b ∷ rest)) pair in
    ap (λ ys. ys ++ glyphs_formed bits (drop (i + 2) new)) (ap (take (i + 2)) laid ∙ cut.0) ∙ ap (λ ys. (take i gs ++ ms) ++ glyphs_formed bits ys) (ap (drop (i + 2)) laid ∙ cut.1)
    ∙ append_assoc (take i gs) ms (glyphs_formed bits rest) ∙ ap (λ ys. take i gs ++ ys) (sym formed)

short_formed : (bits : ℕ) (gs : List hb_glyph_info_t) → length gs < 2 → glyphs_formed bits gs ≡ gs
short_formed bits [] lt = refl
short_formed bits (g ∷ []) lt = refl
short_formed bits (g ∷ h ∷ gs) lt = absurd (omega (arith, lt))

pub all_formed : (gs old : List hb_glyph_info_t) (i bits : ℕ) → length gs ≤ i + 1 → take i gs ++ glyphs_formed bits (drop i gs) ≡ glyphs_formed bits old → gs ≡ glyphs_formed bits old
all_formed gs old i bits le e =
    let size = length-drop i gs in
    sym (take-append-drop i gs) ∙ ap (λ ys. take i gs ++ ys) (sym (short_formed bits (drop i gs) (omega (arith, size, le)))) ∙ e

items_formed : (bits : ℕ) (gs : List hb_glyph_info_t) → strip (glyphs_formed bits gs) ≡ forms_masked (together true) (item_with_features bits) (strip gs)
items_formed bits [] = refl
items_formed bits (g ∷ []) = refl
items_formed bits (g ∷ h ∷ gs) = by_pair (together true (item_of g) (item_of h)) (items_formed bits gs) (items_formed bits (h ∷ gs))
  where
    by_pair : (t : Bool) → strip (glyphs_formed bits gs) ≡ forms_masked (together true) (item_with_features bits) (strip gs) → strip (glyphs_formed bits (h ∷ gs)) ≡ forms_masked (together true) (item_with_features bits) (strip (h ∷ gs))
        → strip (if t then glyph_masked bits g ∷ glyph_masked bits h ∷ glyphs_formed bits gs else g ∷ glyphs_formed bits (h ∷ gs))
        ≡ (if t then item_with_features bits (item_of g) ∷ item_with_features bits (item_of h) ∷ forms_masked (together true) (item_with_features bits) (strip gs) else item_of g ∷ forms_masked (together true) (item_with_features bits) (strip (h ∷ gs)))
    by_pair true e f = ap (λ ys. item_of (glyph_masked bits g) ∷ item_of (glyph_masked bits h) ∷ ys) e ∙ ap (λ y. y ∷ item_of (glyph_masked bits h) ∷ forms_masked (together true) (item_with_features bits) (strip gs)) (item_masked_is bits g) ∙ ap (λ y. item_with_features bits (item_of g) ∷ y ∷ forms_masked (together true) (item_with_features bits) (strip gs)) (item_masked_is bits h)
    by_pair false e f = ap (λ ys. item_of g ∷ ys) f

origins_formed : (bits : ℕ) (gs : List hb_glyph_info_t) → origins (glyphs_formed bits gs) ≡ origins gs
origins_formed bits [] = refl
origins_formed bits (g ∷ []) = refl
origins_formed bits (g ∷ h ∷ gs) = by_pair (together true (item_of g) (item_of h)) (origins_formed bits gs) (origins_formed bits (h ∷ gs))
  where
    by_pair : (t : Bool) → origins (glyphs_formed bits gs) ≡ origins gs → origins (glyphs_formed bits (h ∷ gs)) ≡ origins (h ∷ gs)
        → origins (if t then glyph_masked bits g ∷ glyph_masked bits h ∷ glyphs_formed bits gs else g ∷ glyphs_formed bits (h ∷ gs)) ≡ origins (g ∷ h ∷ gs)
    by_pair true e f = ap (λ ys. origin_of (glyph_masked bits g) ∷ origin_of (glyph_masked bits h) ∷ ys) e ∙ ap (λ y. y ∷ origin_of (glyph_masked bits h) ∷ origins gs) (origin_masked_is bits g) ∙ ap (λ y. origin_of g ∷ y ∷ origins gs) (origin_masked_is bits h)
    by_pair false e f = ap (λ ys. origin_of g ∷ ys) f

pub formed_clusters : (from to bits : ℕ) (gs all : List hb_glyph_info_t) → from ≤ to → gs ≡ take from all ++ glyphs_formed bits (slice_range all from to) ++ drop to all → clusters gs ≡ clusters all
formed_clusters from to bits gs all le e =
    let range = slice_range all from to in
    part_clusters from to (glyphs_formed bits range) gs all le e (sym (numbers_origins (glyphs_formed bits range)) ∙ ap numbers (origins_formed bits range) ∙ numbers_origins range)

pub formed_rewrites : (from to bits : ℕ) (gs : List hb_glyph_info_t) (a : Sides) → IsReady a → from ≤ to → to ≤ length (all_glyphs a)
    → gs ≡ take from (all_glyphs a) ++ glyphs_formed bits (slice_range (all_glyphs a) from to) ++ drop to (all_glyphs a)
    → IsRewritten (eventless_arrangement (forms_masked (together true) (item_with_features bits) (slice_range (items_of a) from to))) from to a (with_refilled gs a)
formed_rewrites from to bits gs a ready le fits e =
    let range = slice_range (all_glyphs a) from to in
    part_written from to (forms_masked (together true) (item_with_features bits) (slice_range (items_of a) from to)) (glyphs_formed bits range) gs a ready le fits e
    (items_formed bits range ∙ ap (forms_masked (together true) (item_with_features bits)) (range_seen item_of from to (all_glyphs a))) (origins_formed bits range)

pub merged_told : (forms : Bool) (start end index n : ℕ) (gs hs : List hb_glyph_info_t) → gs ≡ hs → n ≡ reach 1 (moves_from forms index (strip (slice_range gs start end))) → n ≡ reach 1 (moves_from forms index (slice_range (strip hs) start end))
merged_told forms start end index n gs hs same e =
    e ∙ ap (λ ks. reach 1 (moves_from forms index (strip (slice_range ks start end)))) same ∙ ap (λ xs. reach 1 (moves_from forms index xs)) (range_seen item_of start end hs)
