-- Glyphs appended to the output in place of the current one.
use Rattle.std.proofs.Common.{ℕ, ◌≡◌, ◌≤◌, ◌<◌, ◌+◌, ◌==◌, Bool, true, false, List, [], ◌∷◌, ◌++◌, Option, Some, None, length, map, drop, refl, sym, ap, subst, ◌∙◌, append_assoc, arith, if◌then◌else◌}
use Rattle.std.specs.Prelude.{slice_get, replicate, Result, Ok, Err, OnOk}
use Rattle.std.proofs.lemmas.List.{map-append, length-map}
use Rattle.std.proofs.Math.Seq.{take-append_seam, drop-append_seam, drop-append-add}
use Rattle.buffer_glyphs.specs.declared.cause.ShapeCause.{ShapeCause}
use Rattle.buffer_glyphs.specs.declared.info.hb_glyph_info_t.{hb_glyph_info_t}
use Rattle.buffer_glyphs.specs.Items.{Item, item_of, strip}
use Rattle.buffer_glyphs.specs.Parts.{elements_replaced}
use Rattle.buffer_glyphs.specs.Origins.{Origin, origin_of, origins, InList, manner, Asks}
use Rattle.buffer_glyphs.specs.Events.{Replace, origins_after}
use Rattle.buffer_glyphs.specs.declared.level.BufferClusterLevel.{BufferClusterLevel}
use Rattle.buffer_core.specs.Sides.{Sides, all_glyphs, flag_requests_of, origins_by, origins_of}
use Rattle.buffer_core.specs.Sides.{after_next_glyphs}
use Rattle.buffer_core.specs.Merging.{with_glyph_skipped}
use Rattle.buffer_core.specs.Lending.{with_glyph_ahead}
use Rattle.buffer_core.proofs.HandedOn.{skip_passes, skipped_ahead, skipped_behind}
use Rattle.buffer_stages.proofs.Put.{origins_passed, origins_put}
use Rattle.buffer_glyphs.specs.Rewriting.{eventless_arrangement, replacement, shifted_event}
use Rattle.buffer_properties.specs.Normalizer.{Normalizer, has_character}
use Rattle.buffer_properties.specs.declared.normal_mode.Reach.{Reach}
use Rattle.buffer_properties.specs.SupportedExpansion.{expansion}
use Rattle.buffer_properties.specs.Expanding.{whole_item, piece_of, items_for, expanded_item, item_expansion}
use Rattle.shape_normalize.specs.Glyphs.{HasHalvesOutput, piece_glyph, piece_glyphs, Puts, count_of, with_glyph_replaced}
use Rattle.buffer_stages.specs.Appending.{AppendsArrangement, RefusesRoomFor}
use Rattle.shape_normalize.proofs.Lemmas.Chain.{overfills_more}

-- glyphs of one origin in place of the current one
pub put_skipped : (gs : List hb_glyph_info_t) (g : hb_glyph_info_t) (rest : List hb_glyph_info_t) (left : Bool) (s new : Sides) → s.ahead ≡ g ∷ rest → origins gs ≡ replicate (length gs) (origin_of g)
    → new ≡ with_glyph_skipped (record s { behind = s.behind ++ gs; is_apart = left }) → AppendsArrangement (replacement 1 (strip gs)) (strip rest) s new
put_skipped gs g rest left s new at same is = subst (λ (t : Sides). AppendsArrangement (replacement 1 (strip gs)) (strip rest) s t) (sym is) (record {
  behind = skipped_behind put ∙ map-append item_of s.behind gs;
  ahead = skipped_ahead put ∙ ap (λ hs. drop 1 (strip hs)) at;
  happened = by_count gs same (length (strip gs) == 1) refl;
  frame = refl;
})
  where
    put : Sides
    put = record s { behind = s.behind ++ gs; is_apart = left }

    there : slice_get s.ahead 0 ≡ Some g
    there = ap (λ hs. slice_get hs 0) at

    nothing : (b : ℕ) → b + 0 ≡ b
    nothing b = omega arith

    one : (hs : List hb_glyph_info_t) → origins hs ≡ replicate (length hs) (origin_of g) → length (strip hs) ≡ 1 → origins_of (with_glyph_skipped (record s { behind = s.behind ++ hs; is_apart = left })) ≡ origins_of s
    one [] alike e = absurd (let bad : 0 ≡ 1 = e in cc)
    one (h ∷ []) alike e = let first : origin_of h ≡ origin_of g = cc in origins_passed h g left s there first
    one (h ∷ k ∷ hs) alike e = absurd (omega (arith, e))

    by_count : (hs : List hb_glyph_info_t) → origins hs ≡ replicate (length hs) (origin_of g) → (t : Bool) → (length (strip hs) == 1) ≡ t
        → origins_of (with_glyph_skipped (record s { behind = s.behind ++ hs; is_apart = left })) ≡ origins_after (flag_requests_of s) s.level (map (shifted_event (length s.behind)) (if t then [] else Replace 0 1 (length (strip hs)) ∷ [])) (origins (all_glyphs s))
    by_count hs alike true e = one hs alike (grind (arith, e))
    by_count hs alike false e =
        let n : length (strip hs) ≡ length hs = length-map hs item_of in
        origins_put hs g left s there alike ∙ ap (λ k. origins_by (Replace (length s.behind) 1 k ∷ []) s) (sym n) ∙ ap (λ k. origins_by (Replace k 1 (length (strip hs)) ∷ []) s) (sym (nothing (length s.behind)))

-- a glyph of its origin in place of the current one: this has no flags to hand on
pub replaced_skips : (info g : hb_glyph_info_t) (rest : List hb_glyph_info_t) (s : Sides) → s.ahead ≡ g ∷ rest → origin_of info ≡ origin_of g → with_glyph_replaced info s ≡ with_glyph_skipped (record s { behind = s.behind ++ info ∷ [] })
replaced_skips info g rest s at same = sym (skip_passes info g s.behind rest (record s { behind = s.behind ++ info ∷ [] }) refl at same)

-- the last character that replaces the current one
pub piece_replaced : (c : Normalizer) (u : ℕ) (last : Bool) (info g : hb_glyph_info_t) (r : Result (Unit {0}) ShapeCause) (s new : Sides) → last ≡ true → slice_get s.ahead 0 ≡ Some g → info ≡ piece_glyph c g u → OnOk r (new ≡ with_glyph_replaced info s)
    → OnOk r (HasHalvesOutput c (u ∷ []) last s new)
piece_replaced c u last info g (Err e) s new is there made ok = tt
piece_replaced c u last info g (Ok t) s new is there made ok = by_ahead s.ahead refl
  where
    by_ahead : (hs : List hb_glyph_info_t) → s.ahead ≡ hs → HasHalvesOutput c (u ∷ []) last s new
    by_ahead [] e = absurd (let bad = ap (λ gs. slice_get gs 0) (sym e) ∙ there in cc)
    by_ahead (h ∷ hs) e =
        let first : h ≡ g = let same = ap (λ gs. slice_get gs 0) (sym e) ∙ there in cc in
        let at : s.ahead ≡ g ∷ hs = e ∙ ap (λ k. k ∷ hs) first in
        let replaced : new ≡ with_glyph_skipped (record s { behind = s.behind ++ info ∷ [] }) = ok ∙ replaced_skips info g hs s at (ap origin_of made) in
        let apart : new.is_apart ≡ s.is_apart = ap (λ (t : Sides). t.is_apart) ok in
        rw (is, there) (replaced ∙ ap (λ k. with_glyph_skipped (record s { behind = s.behind ++ k ∷ [] })) made ∙ ap (λ b. with_glyph_skipped (record s { behind = s.behind ++ piece_glyph c g u ∷ []; is_apart = b })) (sym apart))

-- a glyph set at the cursor, over which the cursor moves
pub replaced_ahead : (info : hb_glyph_info_t) (s mid new : Sides) → 0 < length s.ahead → mid ≡ with_glyph_ahead 0 info s → new ≡ after_next_glyphs 1 mid → new ≡ with_glyph_replaced info s
replaced_ahead info s mid new some set moved = moved ∙ ap (after_next_glyphs 1) set ∙ by_case s.ahead refl
  where
    by_case : (gs : List hb_glyph_info_t) → s.ahead ≡ gs → after_next_glyphs 1 (with_glyph_ahead 0 info s) ≡ with_glyph_replaced info s
    by_case [] e = absurd (let none = ap length e in omega (arith, none, some))
    by_case (g ∷ gs) e = rw e refl

pieces_origins : (c : Normalizer) (g : hb_glyph_info_t) (us : List ℕ) → origins (map (piece_glyph c g) us) ≡ replicate (length (map (piece_glyph c g) us)) (origin_of g)
pieces_origins c g [] = refl
pieces_origins c g (u ∷ us) = ap (λ os. origin_of g ∷ os) (pieces_origins c g us)

pieces_items : (c : Normalizer) (g : hb_glyph_info_t) (us : List ℕ) → strip (map (piece_glyph c g) us) ≡ map (piece_of c (item_of g)) us
unfolding piece_of
pieces_items c g [] = refl
pieces_items c g (u ∷ us) = ap (λ xs. piece_of c (item_of g) u ∷ xs) (pieces_items c g us)

first_ahead : (g : hb_glyph_info_t) (gs : List hb_glyph_info_t) (x : Item) (xs : List Item) → slice_get gs 0 ≡ Some g → strip gs ≡ x ∷ xs → gs ≡ g ∷ drop 1 gs
first_ahead g [] x xs at seen = absurd (let bad = seen in cc)
first_ahead g (h ∷ gs) x xs at seen = let e : h ≡ g = cc in rw e refl

item_ahead : (g : hb_glyph_info_t) (gs : List hb_glyph_info_t) (x : Item) (xs : List Item) → gs ≡ g ∷ drop 1 gs → strip gs ≡ x ∷ xs → x ≡ item_of g
item_ahead g gs x xs is seen = let e : x ∷ xs ≡ item_of g ∷ strip (drop 1 gs) = sym seen ∙ ap strip is in cc

rest_ahead : (g : hb_glyph_info_t) (gs : List hb_glyph_info_t) (x : Item) (xs : List Item) → gs ≡ g ∷ drop 1 gs → strip gs ≡ x ∷ xs → strip (drop 1 gs) ≡ xs
rest_ahead g gs x xs is seen = let e : x ∷ xs ≡ item_of g ∷ strip (drop 1 gs) = sym seen ∙ ap strip is in cc

-- an item that was decomposed into the characters that were appended to the output
pub pieces_brought : (c : Normalizer) (reach : Reach) (b : Bool) (g : hb_glyph_info_t) (old new : Sides) (x : Item) (xs : List Item) → slice_get old.ahead 0 ≡ Some g → strip old.ahead ≡ x ∷ xs
    → Puts c (expansion reach (has_character c) c.splits g.glyph_id) true b old new → b ≡ true → AppendsArrangement (item_expansion c reach x) xs old new
unfolding expanded_item
pieces_brought c reach b g old new x xs at seen put went =
    let first = first_ahead g old.ahead x xs at seen in
    let item = item_ahead g old.ahead x xs first seen in
    rw (item) (by_case (expansion reach (has_character c) c.splits g.glyph_id) put first)
  where
    by_case : (o : Option (List ℕ)) → Puts c o true b old new → old.ahead ≡ g ∷ drop 1 old.ahead → AppendsArrangement (replacement 1 (items_for c (item_of g) o)) xs old new
    by_case None p first = absurd (let bad = p.0 in cc)
    by_case (Some us) p first =
        let gs = map (piece_glyph c g) us in
        let is : new ≡ with_glyph_skipped (record old { behind = old.behind ++ gs; is_apart = new.is_apart }) = p.1 ∙ ap (λ o. with_glyph_skipped (record old { behind = old.behind ++ piece_glyphs c us o; is_apart = new.is_apart })) at in
        subst (λ ys. AppendsArrangement (replacement 1 ys) xs old new) (pieces_items c g us)
        (subst (λ zs. AppendsArrangement (replacement 1 (strip gs)) zs old new) (rest_ahead g old.ahead x xs first seen)
        (put_skipped gs g (drop 1 old.ahead) new.is_apart old new first (pieces_origins c g us) is))

-- an item that was replaced by one glyph
pub placed_brought : (g info : hb_glyph_info_t) (y : Item) (old mid new : Sides) (x : Item) (xs : List Item) → slice_get old.ahead 0 ≡ Some g → strip old.ahead ≡ x ∷ xs
    → item_of info ≡ y → origin_of info ≡ origin_of g → mid ≡ old → new ≡ with_glyph_replaced info mid → AppendsArrangement (eventless_arrangement (y ∷ [])) xs old new
placed_brought g info y old mid new x xs at seen whole same stays is =
    let first = first_ahead g old.ahead x xs at seen in
    subst (λ z. AppendsArrangement (eventless_arrangement (z ∷ [])) xs old new) whole
    (subst (λ zs. AppendsArrangement (eventless_arrangement (item_of info ∷ [])) zs old new) (rest_ahead g old.ahead x xs first seen)
    (put_skipped (info ∷ []) g (drop 1 old.ahead) old.is_apart old new first (ap (λ o. o ∷ []) same) (is ∙ ap (with_glyph_replaced info) stays ∙ replaced_skips info g (drop 1 old.ahead) old first same)))

-- an item that stays whole
pub whole_brought : (c : Normalizer) (reach : Reach) (b : Bool) (g info : hb_glyph_info_t) (old mid new : Sides) (x : Item) (xs : List Item) → slice_get old.ahead 0 ≡ Some g → strip old.ahead ≡ x ∷ xs
    → Puts c (expansion reach (has_character c) c.splits g.glyph_id) true b old mid → b ≡ false → item_of info ≡ whole_item c (item_of g) → origin_of info ≡ origin_of g → new ≡ with_glyph_replaced info mid
    → AppendsArrangement (item_expansion c reach x) xs old new
unfolding expanded_item
whole_brought c reach b g info old mid new x xs at seen none stays whole same is =
    let first = first_ahead g old.ahead x xs at seen in
    let item = item_ahead g old.ahead x xs first seen in
    rw (item) (by_case (expansion reach (has_character c) c.splits g.glyph_id) none first)
  where
    by_case : (o : Option (List ℕ)) → Puts c o true b old mid → old.ahead ≡ g ∷ drop 1 old.ahead → AppendsArrangement (replacement 1 (items_for c (item_of g) o)) xs old new
    by_case (Some us) p first = absurd (let bad = p.0 in cc)
    by_case None p first = placed_brought g info (whole_item c (item_of g)) old mid new x xs at seen whole same p.1 is

items_count : (c : Normalizer) (x : Item) (o : Option (List ℕ)) → count_of o ≤ length (items_for c x o)
items_count c x None = omega arith
items_count c x (Some us) = let n = length-map us (piece_of c x) in omega (arith, n)

-- characters that were too many
pub pieces_too_many : (c : Normalizer) (reach : Reach) (g : hb_glyph_info_t) (e : ShapeCause) (old : Sides) → slice_get old.ahead 0 ≡ Some g → RefusesRoomFor (count_of (expansion reach (has_character c) c.splits g.glyph_id)) e old
    → (x : Item) (xs : List Item) → strip old.ahead ≡ x ∷ xs → RefusesRoomFor (length (expanded_item c reach x)) e old
unfolding expanded_item
pieces_too_many c reach g e old at over x xs seen =
    let item = item_ahead g old.ahead x xs (first_ahead g old.ahead x xs at seen) seen in
    rw item (overfills_more (count_of (expansion reach (has_character c) c.splits g.glyph_id)) (length (items_for c (item_of g) (expansion reach (has_character c) c.splits g.glyph_id))) e old
    (items_count c (item_of g) (expansion reach (has_character c) c.splits g.glyph_id)) over)

-- one that was too many
pub whole_too_many : (c : Normalizer) (reach : Reach) (b : Bool) (g : hb_glyph_info_t) (e : ShapeCause) (old mid : Sides) → slice_get old.ahead 0 ≡ Some g → Puts c (expansion reach (has_character c) c.splits g.glyph_id) true b old mid → b ≡ false
    → RefusesRoomFor 1 e mid → (x : Item) (xs : List Item) → strip old.ahead ≡ x ∷ xs → RefusesRoomFor (length (expanded_item c reach x)) e old
unfolding expanded_item
whole_too_many c reach b g e old mid at none stays over x xs seen =
    let item = item_ahead g old.ahead x xs (first_ahead g old.ahead x xs at seen) seen in
    rw item (by_case (expansion reach (has_character c) c.splits g.glyph_id) none)
  where
    by_case : (o : Option (List ℕ)) → Puts c o true b old mid → RefusesRoomFor (length (items_for c (item_of g) o)) e old
    by_case (Some us) p = absurd (let bad = p.0 in cc)
    by_case None p = subst (RefusesRoomFor 1 e) p.1 over
