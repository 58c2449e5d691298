-- Glyphs that get their positions.
use Rattle.std.proofs.Common.{ℕ, zero, suc, ◌≡◌, ◌≤◌, ◌<◌, ◌+◌, ◌-◌, ◌||◌, Bool, true, false, if◌then◌else◌, List, [], ◌∷◌, ◌++◌, length, map, take, drop, get_or, set, Some, slice_get, refl, sym, ap, subst, ◌∙◌, arith}
use Rattle.std.specs.Prelude.{not, replicate}
use borrow.Rule.Slice.PartMut.{mid_of, put_mid}
use Rattle.std.proofs.Math.Seq.{take-append_seam, drop-append_seam}
use Rattle.std.specs.List.{list_any, position_or_len}
use Rattle.std.proofs.lemmas.List.{length-append, length-map, length-replicate, drop_all, drop_more, take_all, append-nil, take-append-drop, length-take-le, drop-map}
use Rattle.buffer_glyphs.specs.declared.info.hb_glyph_info_t.{hb_glyph_info_t}
use Rattle.script_categories.specs.declared.ot_position_t.TheConstants as position
use Rattle.script_myanmar.specs.Myanmar.{base_of, from_base, is_base, position_after, position_of, positions_after}
use Rattle.script_myanmar.specs.Turned.{glyph_at, glyphs_at}
use Rattle.script_myanmar.specs.Lemmas.Sizes.{after_size}

abbrev pub kinds : List hb_glyph_info_t → List ℕ
kinds gs = map (λ (g : hb_glyph_info_t). g.category) gs

-- the glyphs before an index have their positions
abbrev pub placed_to : List ℕ → ℕ → List hb_glyph_info_t → List hb_glyph_info_t
placed_to ps i gs = glyphs_at (take i ps) (take i gs) ++ drop i gs

placed_next : (ps : List ℕ) (gs : List hb_glyph_info_t) (i p : ℕ) (d : hb_glyph_info_t) → i < length gs → slice_get ps i ≡ Some p → set (placed_to ps i gs) i (glyph_at p (get_or (placed_to ps i gs) i d)) ≡ placed_to ps (suc i) gs
placed_next ps [] i p d lt e = absurd (omega (arith, lt))
placed_next [] (g ∷ gs) i p d lt e = cc
placed_next (q ∷ ps) (g ∷ gs) zero p d lt e = let same : q ≡ p = cc in ap (λ r. glyph_at r g ∷ gs) (sym same)
placed_next (q ∷ ps) (g ∷ gs) (suc i) p d lt e = ap (λ hs. glyph_at q g ∷ hs) (placed_next ps gs i p d (omega (arith, lt)) e)

-- the next glyph of a loop
pub position_step : (ps : List ℕ) (gs hs : List hb_glyph_info_t) (i p : ℕ) (d h : hb_glyph_info_t) → i < length hs → length hs ≡ length gs → hs ≡ placed_to ps i gs → slice_get ps i ≡ Some p → h ≡ glyph_at p (get_or hs i d) → set hs i h ≡ placed_to ps (i + 1) gs
position_step ps gs hs i p d h lt len e at is =
    let next : suc i ≡ i + 1 = omega arith in
    ap (λ k. set hs i k) is ∙ ap (λ ks. set ks i (glyph_at p (get_or ks i d))) e ∙ placed_next ps gs i p d (omega (arith, lt, len)) at ∙ ap (λ n. placed_to ps n gs) next

pub all_at : (ps : List ℕ) (gs : List hb_glyph_info_t) (i : ℕ) → length gs ≤ i → length ps ≡ length gs → placed_to ps i gs ≡ glyphs_at ps gs
all_at ps gs i le len = ap (λ qs. glyphs_at qs (take i gs) ++ drop i gs) (take_all i ps (omega (arith, le, len))) ∙ ap (λ hs. glyphs_at ps hs ++ drop i gs) (take_all i gs le) ∙ ap (λ hs. glyphs_at ps gs ++ hs) (drop_all i gs le) ∙ append-nil (glyphs_at ps gs)

pub same_position : (n p i : ℕ) → i < n → slice_get (replicate n p) i ≡ Some p
same_position zero p i lt = absurd (omega (arith, lt))
same_position (suc n) p zero lt = refl
same_position (suc n) p (suc i) lt = same_position n p i (omega (arith, lt))

glyphs_at_size : (ps : List ℕ) (gs : List hb_glyph_info_t) → length ps ≡ length gs → length (glyphs_at ps gs) ≡ length gs
glyphs_at_size [] gs e = refl
glyphs_at_size (p ∷ ps) [] e = absurd (omega (arith, e))
glyphs_at_size (p ∷ ps) (g ∷ gs) e = ap suc (glyphs_at_size ps gs (omega (arith, e)))

-- the positions of two ranges
pub glyphs_at_both : (ps qs : List ℕ) (gs hs : List hb_glyph_info_t) → length ps ≡ length gs → glyphs_at (ps ++ qs) (gs ++ hs) ≡ glyphs_at ps gs ++ glyphs_at qs hs
glyphs_at_both [] qs [] hs e = refl
glyphs_at_both [] qs (g ∷ gs) hs e = absurd (omega (arith, e))
glyphs_at_both (p ∷ ps) qs [] hs e = absurd (omega (arith, e))
glyphs_at_both (p ∷ ps) qs (g ∷ gs) hs e = ap (λ ks. glyph_at p g ∷ ks) (glyphs_at_both ps qs gs hs (omega (arith, e)))

-- ---- the walk after the base

-- the glyphs before an index have their positions, and those of the others follow from the walk's state
pub record ArePlaced (i now before : ℕ) (old done : List hb_glyph_info_t) : Type 0 where
  pub glyphs : done ≡ placed_to (positions_after position.POS_AFTER_MAIN position.POS_BASE_C (kinds old)) i old
  pub rest : positions_after now before (kinds (drop i old)) ≡ drop i (positions_after position.POS_AFTER_MAIN position.POS_BASE_C (kinds old))
  pub ahead : drop i done ≡ drop i old

pub placing_begun : (gs : List hb_glyph_info_t) → ArePlaced 0 position.POS_AFTER_MAIN position.POS_BASE_C gs gs
placing_begun gs = record { glyphs = refl; rest = refl; ahead = refl }

first_of : (ps qs : List ℕ) (i p : ℕ) → p ∷ qs ≡ drop i ps → (slice_get ps i ≡ Some p) × (qs ≡ drop (suc i) ps)
first_of [] qs zero p e = cc
first_of [] qs (suc i) p e = cc
first_of (q ∷ ps) qs zero p e = let a : p ≡ q = cc in let b : qs ≡ ps = cc in (ap Some (sym a), b)
first_of (q ∷ ps) qs (suc i) p e = first_of ps qs i p e

past_set : {X : Type 0} (xs : List X) (i : ℕ) (x : X) → drop (suc i) (set xs i x) ≡ drop (suc i) xs
past_set [] i x = refl
past_set (y ∷ ys) zero x = refl
past_set (y ∷ ys) (suc i) x = past_set ys i x

-- one glyph more
pub placing_next : (i now before : ℕ) (old done : List hb_glyph_info_t) (d h : hb_glyph_info_t) → i < length done → length done ≡ length old → ArePlaced i now before old done
    → h ≡ glyph_at (position_of now before (get_or done i d).category) (get_or done i d)
    → ArePlaced (i + 1) (position_after now (get_or done i d).category) (position_of now before (get_or done i d).category) old (set done i h)
placing_next i now before old done d h lt len u is =
    let g = get_or done i d in
    let ps = positions_after position.POS_AFTER_MAIN position.POS_BASE_C (kinds old) in
    let here : drop i done ≡ g ∷ drop (i + 1) done = drop_more done i d lt in
    let same : g ∷ drop (i + 1) done ≡ drop i old = sym here ∙ u.ahead in
    let there : drop i old ≡ get_or old i d ∷ drop (i + 1) old = drop_more old i d (omega (arith, lt, len)) in
    let one : g ∷ drop (i + 1) done ≡ get_or old i d ∷ drop (i + 1) old = same ∙ there in
    let first : g ≡ get_or old i d = cc in
    let later : drop (i + 1) done ≡ drop (i + 1) old = cc in
    let p = position_of now before g.category in
    let rest : p ∷ positions_after (position_after now g.category) p (kinds (drop (i + 1) old)) ≡ drop i ps =
    sym (ap (λ ks. positions_after now before (kinds ks)) (there ∙ ap (λ k. k ∷ drop (i + 1) old) (sym first))) ∙ u.rest in
    let cut = first_of ps (positions_after (position_after now g.category) p (kinds (drop (i + 1) old))) i p rest in
    let next : suc i ≡ i + 1 = omega arith in
    record {
      glyphs = position_step ps old done i p d h lt len u.glyphs cut.0 is;
      rest = cut.1 ∙ ap (λ n. drop n ps) next;
      ahead = ap (λ n. drop n (set done i h)) (sym next) ∙ past_set done i h ∙ ap (λ n. drop n done) next ∙ later;
    }

pub placing_done : (i now before : ℕ) (old done : List hb_glyph_info_t) → length old ≤ i → ArePlaced i now before old done → done ≡ glyphs_at (positions_after position.POS_AFTER_MAIN position.POS_BASE_C (kinds old)) old
placing_done i now before old done le u =
    u.glyphs ∙ all_at (positions_after position.POS_AFTER_MAIN position.POS_BASE_C (kinds old)) old i le (after_size position.POS_AFTER_MAIN position.POS_BASE_C (kinds old) ∙ length-map old (λ (g : hb_glyph_info_t). g.category))

-- ---- ranges, one after another

-- a prefix got one position, and the rest its positions
pub placed_both : (n p : ℕ) (qs : List ℕ) (gs front back : List hb_glyph_info_t) → n ≤ length gs → front ≡ glyphs_at (replicate n p) (take n gs) → back ≡ glyphs_at qs (drop n gs) → front ++ back ≡ glyphs_at (replicate n p ++ qs) gs
placed_both n p qs gs front back le e f =
    let len : length (replicate n p) ≡ length (take n gs) = length-replicate n p ∙ sym (length-take-le n gs le) in
    ap (λ xs. xs ++ back) e ∙ ap (λ ys. glyphs_at (replicate n p) (take n gs) ++ ys) f ∙ sym (glyphs_at_both (replicate n p) qs (take n gs) (drop n gs) len) ∙ ap (glyphs_at (replicate n p ++ qs)) (take-append-drop n gs)

pub kinds_left : (n : ℕ) (gs : List hb_glyph_info_t) → kinds (drop n gs) ≡ drop n (kinds gs)
kinds_left n gs = sym (drop-map (λ (g : hb_glyph_info_t). g.category) n gs)

-- ---- the first consonant

-- none is before an index
pub record IsSought (i : ℕ) (cs : List ℕ) : Type 0 where
  pub any : list_any is_base (drop i cs) ≡ list_any is_base cs
  pub index : i + position_or_len is_base (drop i cs) ≡ position_or_len is_base cs

pub sought_from : (cs : List ℕ) → IsSought 0 cs
sought_from cs = record { any = refl; index = omega arith }

kind_at : (gs : List hb_glyph_info_t) (i : ℕ) (g : hb_glyph_info_t) → slice_get gs i ≡ Some g → drop i (kinds gs) ≡ g.category ∷ drop (i + 1) (kinds gs)
kind_at [] i g e = cc
kind_at (h ∷ gs) zero g e = let same : h ≡ g = cc in ap (λ (k : hb_glyph_info_t). k.category ∷ kinds gs) same
kind_at (h ∷ gs) (suc i) g e = let next : suc i + 1 ≡ suc (i + 1) = omega arith in kind_at gs i g e ∙ ap (λ n. g.category ∷ drop n (kinds (h ∷ gs))) (sym next)

pub sought_next : (gs : List hb_glyph_info_t) (i : ℕ) (g : hb_glyph_info_t) → slice_get gs i ≡ Some g → is_base g.category ≡ false → IsSought i (kinds gs) → IsSought (i + 1) (kinds gs)
sought_next gs i g at other s =
    let cut = kind_at gs i g at in
    let rest = drop (i + 1) (kinds gs) in
    let index = s.index in
    let more : position_or_len is_base (drop i (kinds gs)) ≡ 1 + position_or_len is_base rest = ap (position_or_len is_base) cut ∙ ap (λ (b : Bool). if not b then 1 + position_or_len is_base rest else 0) other in
    record { any = sym (ap (λ b. b || list_any is_base rest) other) ∙ ap (list_any is_base) (sym cut) ∙ s.any; index = omega (arith, index, more) }

pub base_found : (gs : List hb_glyph_info_t) (i : ℕ) (g : hb_glyph_info_t) → slice_get gs i ≡ Some g → is_base g.category ≡ true → IsSought i (kinds gs) → i ≡ base_of (kinds gs)
base_found gs i g at found s =
    let cut = kind_at gs i g at in
    let rest = drop (i + 1) (kinds gs) in
    let index = s.index in
    let here : position_or_len is_base (drop i (kinds gs)) ≡ 0 = ap (position_or_len is_base) cut ∙ ap (λ (b : Bool). if not b then 1 + position_or_len is_base rest else 0) found in
    let any : list_any is_base (kinds gs) ≡ true = sym s.any ∙ ap (list_any is_base) cut ∙ ap (λ b. b || list_any is_base rest) found in
    let e : i ≡ position_or_len is_base (kinds gs) = omega (arith, index, here) in
    e ∙ sym (ap (λ (b : Bool). if b then position_or_len is_base (kinds gs) else 0) any)

pub none_found : (gs : List hb_glyph_info_t) (i : ℕ) → length gs ≤ i → IsSought i (kinds gs) → 0 ≡ base_of (kinds gs)
none_found gs i le s =
    let past : drop i (kinds gs) ≡ [] = drop_all i (kinds gs) (omega (arith, le, length-map gs (λ (g : hb_glyph_info_t). g.category))) in
    let any : list_any is_base (kinds gs) ≡ false = sym s.any ∙ ap (list_any is_base) past in
    sym (ap (λ (b : Bool). if b then position_or_len is_base (kinds gs) else 0) any)

-- ---- the steps of the code

-- all got one position
pub all_one : (p i : ℕ) (old done : List hb_glyph_info_t) → length old ≤ i → done ≡ placed_to (replicate (length old) p) i old → done ≡ glyphs_at (replicate (length old) p) old
all_one p i old done le e = e ∙ all_at (replicate (length old) p) old i le (length-replicate (length old) p)

pub placing_by : (i now before b n : ℕ) (old done : List hb_glyph_info_t) (d h : hb_glyph_info_t) → i < length done → length done ≡ length old → ArePlaced i now before old done
    → b ≡ position_of now before (get_or done i d).category → n ≡ position_after now (get_or done i d).category → h ≡ glyph_at b (get_or done i d) → ArePlaced (i + 1) n b old (set done i h)
placing_by i now before b n old done d h lt len u position_is behind is =
    let g = get_or done i d in
    let P : ℕ → Type 0 = λ m. ArePlaced (i + 1) m b old (set done i h) in
    let Q : ℕ → Type 0 = λ m. ArePlaced (i + 1) (position_after now g.category) m old (set done i h) in
    subst P (sym behind) (subst Q (sym position_is) (placing_next i now before old done d h lt len u (is ∙ ap (λ m. glyph_at m g) position_is)))

-- a prefix got one position, and then the rest its positions
pub two_ranges : (n p : ℕ) (rule : List ℕ → List ℕ) (gs front back : List hb_glyph_info_t) → n ≤ length gs → front ≡ glyphs_at (replicate (length (take n gs)) p) (take n gs)
    → back ≡ glyphs_at (rule (kinds (mid_of n (length (front ++ drop n gs) - n) (front ++ drop n gs)))) (mid_of n (length (front ++ drop n gs) - n) (front ++ drop n gs))
    → put_mid n (length (front ++ drop n gs) - n) (front ++ drop n gs) back ≡ glyphs_at (replicate n p ++ rule (drop n (kinds gs))) gs
two_ranges n p rule gs front back le e f =
    let size : length (take n gs) ≡ n = length-take-le n gs le in
    let first : front ≡ glyphs_at (replicate n p) (take n gs) = e ∙ ap (λ m. glyphs_at (replicate m p) (take n gs)) size in
    let long : length front ≡ n = ap length first ∙ glyphs_at_size (replicate n p) (take n gs) (length-replicate n p ∙ sym size) ∙ size in
    let cut : drop n (front ++ drop n gs) ≡ drop n gs = ap (λ m. drop m (front ++ drop n gs)) (sym long) ∙ drop-append_seam front (drop n gs) in
    let head : take n (front ++ drop n gs) ≡ front = ap (λ m. take m (front ++ drop n gs)) (sym long) ∙ take-append_seam front (drop n gs) in
    let count = length-append front (drop n gs) in
    let mid : mid_of n (length (front ++ drop n gs) - n) (front ++ drop n gs) ≡ drop n gs = ap (take (length (front ++ drop n gs) - n)) cut ∙ take_all (length (front ++ drop n gs) - n) (drop n gs) (omega (arith, count, long)) in
    let rest : back ≡ glyphs_at (rule (drop n (kinds gs))) (drop n gs) = f ∙ ap (λ ks. glyphs_at (rule (kinds ks)) ks) mid ∙ ap (λ cs. glyphs_at (rule cs) (drop n gs)) (kinds_left n gs) in
    let none : drop (length (front ++ drop n gs) - n) (drop n (front ++ drop n gs)) ≡ [] = ap (drop (length (front ++ drop n gs) - n)) cut ∙ drop_all (length (front ++ drop n gs) - n) (drop n gs) (omega (arith, count, long)) in
    ap (λ ys. ys ++ (back ++ drop (length (front ++ drop n gs) - n) (drop n (front ++ drop n gs)))) head ∙ ap (λ ys. front ++ (back ++ ys)) none ∙ ap (λ ys. front ++ ys) (append-nil back)
    ∙ placed_both n p (rule (drop n (kinds gs))) gs front back le first rest

pub from_first : (gs : List hb_glyph_info_t) → 0 < length gs → glyphs_at (replicate 1 position.POS_BASE_C ++ positions_after position.POS_AFTER_MAIN position.POS_BASE_C (drop 1 (kinds gs))) gs ≡ glyphs_at (from_base (kinds gs)) gs
from_first [] some = absurd (omega (arith, some))
from_first (g ∷ gs) some = refl

pub none_from : (gs : List hb_glyph_info_t) → length gs ≡ 0 → gs ≡ glyphs_at (from_base (kinds gs)) gs
none_from [] e = refl
none_from (g ∷ gs) e = absurd (omega (arith, e))
