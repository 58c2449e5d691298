-- Glyphs output instead of the one at the cursor.
use Rattle.std.proofs.Common.{ℕ, zero, suc, ◌≡◌, ◌<◌, ◌≤◌, ◌+◌, Bool, true, List, [], ◌∷◌, ◌++◌, Some, get_or, length, take, drop, refl, sym, ap, subst, ◌∙◌, append_assoc, arith}
use Rattle.std.specs.Prelude.{slice_get, replicate}
use Rattle.std.proofs.lemmas.List.{map-append, length-append, length-map, take_more}
use Rattle.std.proofs.Math.Seq.{take-append_seam, drop-append_seam, drop-append-add}
use Rattle.buffer_glyphs.specs.declared.info.hb_glyph_info_t.{hb_glyph_info_t}
use Rattle.buffer_glyphs.specs.Items.{item_of, strip}
use Rattle.buffer_glyphs.specs.Parts.{elements_replaced}
use Rattle.buffer_glyphs.specs.Origins.{Origin, origin_of, origins, InList, manner}
use Rattle.buffer_glyphs.specs.Events.{Replace}
use Rattle.buffer_core.specs.Sides.{Sides, origins_by, origins_of}
use Rattle.buffer_core.specs.Merging.{with_output_info, with_glyph_skipped}
use Rattle.buffer_core.proofs.HandedOn.{put_origins, skip_passes, skipped_ahead, skipped_behind}
use Rattle.buffer_stages.specs.Walks.{HasWalked}
use Rattle.buffer_lists.proofs.Lemmas.SortedEvents.{lone_merged as merged_alone}

origins_same : (o : Origin) (front back : List Origin) (n : ℕ) → elements_replaced (length front) 1 n (front ++ o ∷ back) ≡ front ++ replicate n o ++ back
origins_same o front back n =
    let there : drop (length front) (front ++ o ∷ back) ≡ o ∷ back = drop-append_seam front (o ∷ back) in
    let past : drop (length front + 1) (front ++ o ∷ back) ≡ back = drop-append-add front (o ∷ back) 1 in
    rw (take-append_seam front (o ∷ back), there, past) refl

first_ahead : (g : hb_glyph_info_t) (gs : List hb_glyph_info_t) → slice_get gs 0 ≡ Some g → gs ≡ g ∷ drop 1 gs
first_ahead g [] at = cc
first_ahead g (h ∷ gs) at = let e : h ≡ g = cc in rw e refl

-- the origins once glyphs of one origin were output instead of the one at the cursor
pub origins_put : (gs : List hb_glyph_info_t) (g : hb_glyph_info_t) (left : Bool) (s : Sides) → slice_get s.ahead 0 ≡ Some g → origins gs ≡ replicate (length gs) (origin_of g)
    → origins_of (with_glyph_skipped (record s { behind = s.behind ++ gs; is_apart = left })) ≡ origins_by (Replace (length s.behind) 1 (length gs) ∷ []) s
origins_put gs g left s there same =
    let rest = drop 1 s.ahead in
    let at = first_ahead g s.ahead there in
    let whole : origins_of s ≡ origins s.behind ++ origin_of g ∷ origins rest = map-append origin_of s.behind s.ahead ∙ ap (λ hs. origins s.behind ++ origins hs) at in
    let now : origins ((s.behind ++ gs) ++ rest) ≡ origins s.behind ++ replicate (length gs) (origin_of g) ++ origins rest =
    map-append origin_of (s.behind ++ gs) rest ∙ ap (λ os. os ++ origins rest) (map-append origin_of s.behind gs)
    ∙ ap (λ os. origins s.behind ++ os ++ origins rest) same in
    let b : length (origins s.behind) ≡ length s.behind = length-map s.behind origin_of in
    put_origins (length gs) s (record s { behind = s.behind ++ gs; is_apart = left }) (length-append s.behind gs) refl refl (now ∙ sym (origins_same (origin_of g) (origins s.behind) (origins rest) (length gs))
    ∙ ap (λ k. elements_replaced k 1 (length gs) (origins s.behind ++ origin_of g ∷ origins rest)) b ∙ ap (elements_replaced (length s.behind) 1 (length gs)) (sym whole)
    ∙ ap (elements_replaced (length s.behind) 1 (length gs)) (sym (merged_alone (manner InList s.level) (length s.behind) (origins_of s))))

-- and once one of its origin was output
pub origins_passed : (h g : hb_glyph_info_t) (left : Bool) (s : Sides) → slice_get s.ahead 0 ≡ Some g → origin_of h ≡ origin_of g → origins_of (with_glyph_skipped (record s { behind = s.behind ++ h ∷ []; is_apart = left })) ≡ origins_of s
origins_passed h g left s there same =
    let rest = drop 1 s.ahead in
    let at = first_ahead g s.ahead there in
    ap origins_of (skip_passes h g s.behind rest (record s { behind = s.behind ++ h ∷ []; is_apart = left }) refl at same)
    ∙ map-append origin_of (s.behind ++ h ∷ []) rest ∙ ap (λ os. os ++ origins rest) (map-append origin_of s.behind (h ∷ []))
    ∙ append_assoc (origins s.behind) (origin_of h ∷ []) (origins rest)
    ∙ ap (λ o. origins s.behind ++ o ∷ origins rest) same
    ∙ ap (λ gs. origins s.behind ++ origins gs) (sym at) ∙ sym (map-append origin_of s.behind s.ahead)

-- glyphs of one origin output instead of the one at the cursor
pub put_walked : (gs : List hb_glyph_info_t) (g : hb_glyph_info_t) (left : Bool) (s new : Sides) → s.is_open ≡ true → slice_get s.ahead 0 ≡ Some g → origins gs ≡ replicate (length gs) (origin_of g)
    → new ≡ with_glyph_skipped (record s { behind = s.behind ++ gs; is_apart = left }) → HasWalked (strip s.behind ++ strip gs) (drop 1 (strip s.ahead)) (Replace (length s.behind) 1 (length gs) ∷ []) s new
put_walked gs g left s new opened there same is = subst (λ (t : Sides). HasWalked (strip s.behind ++ strip gs) (drop 1 (strip s.ahead)) (Replace (length s.behind) 1 (length gs) ∷ []) s t) (sym is) (record {
  behind = skipped_behind (record s { behind = s.behind ++ gs; is_apart = left }) ∙ map-append item_of s.behind gs;
  ahead = skipped_ahead (record s { behind = s.behind ++ gs; is_apart = left });
  happened = origins_put gs g left s there same;
  view = refl;
  settings = refl;
  opened = opened;
  unrefused = refl;
})

-- one glyph of its origin output instead of the one at the cursor
pub passed_walked : (h g : hb_glyph_info_t) (s new : Sides) → s.is_open ≡ true → slice_get s.ahead 0 ≡ Some g → origin_of h ≡ origin_of g → new ≡ with_glyph_skipped (with_output_info h s)
    → HasWalked (strip s.behind ++ item_of h ∷ []) (drop 1 (strip s.ahead)) [] s new
passed_walked h g s new opened there same is = subst (λ (t : Sides). HasWalked (strip s.behind ++ item_of h ∷ []) (drop 1 (strip s.ahead)) [] s t) (sym is) (record {
  behind = skipped_behind (with_output_info h s) ∙ map-append item_of s.behind (h ∷ []);
  ahead = skipped_ahead (with_output_info h s);
  happened = origins_passed h g (with_output_info h s).is_apart s there same;
  view = refl;
  settings = refl;
  opened = opened;
  unrefused = refl;
})

pub one_put : (h : hb_glyph_info_t) (s mid new : Sides) → s.is_open ≡ true → 0 < length s.ahead → ((g : hb_glyph_info_t) → slice_get s.ahead 0 ≡ Some g → origin_of h ≡ origin_of g) → mid ≡ with_output_info h s → new ≡ with_glyph_skipped mid
    → HasWalked (strip s.behind ++ item_of h ∷ []) (drop 1 (strip s.ahead)) [] s new
one_put h s mid new opened there same put went = by_ahead s.ahead refl
  where
    by_ahead : (hs : List hb_glyph_info_t) → s.ahead ≡ hs → HasWalked (strip s.behind ++ item_of h ∷ []) (drop 1 (strip s.ahead)) [] s new
    by_ahead [] e = absurd (let none = ap (λ (ys : List hb_glyph_info_t). length ys) e in omega (arith, none, there))
    by_ahead (g ∷ hs) e =
        let at : slice_get s.ahead 0 ≡ Some g = ap (λ (ys : List hb_glyph_info_t). slice_get ys 0) e in
        passed_walked h g s new opened at (same g at) (went ∙ ap with_glyph_skipped put)

all_taken : {X : Type 0} (i : ℕ) (xs : List X) → length xs ≤ i → take i xs ≡ xs
all_taken zero [] le = refl
all_taken (suc i) [] le = refl
all_taken zero (x ∷ xs) le = absurd (omega (arith, le))
all_taken (suc i) (x ∷ xs) le = ap (λ ys. x ∷ ys) (all_taken i xs (omega (arith, le)))

-- one glyph more
pub put_more : (gs : List hb_glyph_info_t) (i : ℕ) (d : hb_glyph_info_t) (s mid next : Sides) → i < length gs → mid ≡ record s { behind = s.behind ++ take i gs; is_apart = mid.is_apart } → next ≡ with_output_info (get_or gs i d) mid
    → next ≡ record s { behind = s.behind ++ take (i + 1) gs; is_apart = next.is_apart }
put_more gs i d s mid next lt is put =
    let P : Sides → Type 0 = λ t. t ≡ record s { behind = s.behind ++ take (i + 1) gs; is_apart = t.is_apart } in
    let g = get_or gs i d in
    let glyphs : (s.behind ++ take i gs) ++ g ∷ [] ≡ s.behind ++ take (i + 1) gs = append_assoc s.behind (take i gs) (g ∷ []) ∙ ap (λ hs. s.behind ++ hs) (sym (take_more gs i d lt)) in
    let left = (with_output_info g mid).is_apart in
    let seen : with_output_info g mid ≡ record s { behind = s.behind ++ take (i + 1) gs; is_apart = left } =
    ap (λ (m : Sides). record m { behind = m.behind ++ g ∷ []; is_apart = left }) is ∙ ap (λ hs. record s { behind = hs; is_apart = left }) glyphs in
    subst P (sym put) seen

-- glyphs output one by one instead of the one at the cursor
pub all_put : (gs : List hb_glyph_info_t) (i : ℕ) (s mid new : Sides) → s.is_open ≡ true → 0 < length s.ahead → ((g : hb_glyph_info_t) → slice_get s.ahead 0 ≡ Some g → origins gs ≡ replicate (length gs) (origin_of g))
    → mid ≡ record s { behind = s.behind ++ take i gs; is_apart = mid.is_apart } → length gs ≤ i → new ≡ with_glyph_skipped mid → HasWalked (strip s.behind ++ strip gs) (drop 1 (strip s.ahead)) (Replace (length s.behind) 1 (length gs) ∷ []) s new
all_put gs i s mid new opened there same is le went = by_ahead s.ahead refl
  where
    by_ahead : (hs : List hb_glyph_info_t) → s.ahead ≡ hs → HasWalked (strip s.behind ++ strip gs) (drop 1 (strip s.ahead)) (Replace (length s.behind) 1 (length gs) ∷ []) s new
    by_ahead [] e = absurd (let none = ap (λ (ys : List hb_glyph_info_t). length ys) e in omega (arith, none, there))
    by_ahead (g ∷ hs) e =
        let at : slice_get s.ahead 0 ≡ Some g = ap (λ (ys : List hb_glyph_info_t). slice_get ys 0) e in
        put_walked gs g mid.is_apart s new opened at (same g at) (went ∙ ap with_glyph_skipped is ∙ ap (λ hs. with_glyph_skipped (record s { behind = s.behind ++ hs; is_apart = mid.is_apart })) (all_taken i gs le))
