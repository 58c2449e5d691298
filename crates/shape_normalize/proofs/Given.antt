-- Characters ahead of the cursor that get the font's glyphs before the walk over them.
use Rattle.std.proofs.Common.{ℕ, ◌≡◌, ◌<◌, ◌≤◌, ◌+◌, List, [], ◌∷◌, ◌++◌, Some, length, map, take, drop, get_or, refl, sym, ap, subst, ◌∙◌, arith}
use Rattle.std.specs.Prelude.{slice_get}
use Rattle.std.proofs.lemmas.List.{append-nil, map-append, length-map, length-append, take-append-drop, take_all, drop_all}
use Rattle.std.proofs.lemmas.Option.{slice_get-get_or}
use Rattle.buffer_glyphs.specs.declared.cause.ShapeCause.{ShapeCause}
use Rattle.buffer_glyphs.specs.declared.info.hb_glyph_info_t.{hb_glyph_info_t}
use Rattle.buffer_glyphs.specs.Items.{Item, strip}
use Rattle.buffer_glyphs.proofs.Lists.{map_step}
use Rattle.buffer_glyphs.specs.Origins.{origin_of, origins}
use Rattle.buffer_glyphs.specs.Events.{origins_after}
use Rattle.buffer_glyphs.specs.Rewriting.{Arrangement, shifted_event}
use Rattle.buffer_lists.proofs.Lemmas.Neighbours.{no_glyph}
use Rattle.buffer_core.specs.Sides.{Sides, all_glyphs, flag_requests_of}
use Rattle.buffer_core.specs.Lending.{with_glyph_ahead}
use Rattle.buffer_properties.specs.Expanding.{expanded_list, with_own_glyph}
use Rattle.buffer_properties.specs.Normalizer.{Normalizer}
use Rattle.buffer_stages.specs.Appending.{AppendsArrangement, RefusesRoomFor}
use Rattle.shape_normalize.specs.Fronts.{glyph_with_own}
use Rattle.shape_normalize.specs.KeptRuns.{HasOwn, IsGiven}
use Rattle.shape_normalize.proofs.Own.{own_expands}
use Rattle.shape_normalize.proofs.Taken.{glyphs_given, origins_given}

own_twice : (c : Normalizer) (xs : List Item) → map (with_own_glyph c) (map (with_own_glyph c) xs) ≡ map (with_own_glyph c) xs
own_twice c [] = refl
own_twice c (x ∷ xs) = ap (λ ys. with_own_glyph c x ∷ ys) (own_twice c xs)

given_items : (c : Normalizer) (s t : Sides) → IsGiven c s t → strip t.ahead ≡ map (with_own_glyph c) (strip s.ahead)
given_items c s t is = ap (λ (q : Sides). strip q.ahead) is ∙ glyphs_given c s.ahead

pub given_own : (c : Normalizer) (s t : Sides) → IsGiven c s t → HasOwn c (strip t.ahead)
given_own c s t is = ap (map (with_own_glyph c)) (given_items c s t is) ∙ own_twice c (strip s.ahead) ∙ sym (given_items c s t is)

given_expands : (c : Normalizer) (s t : Sides) → IsGiven c s t → expanded_list c (strip t.ahead) ≡ expanded_list c (strip s.ahead)
given_expands c s t is = ap (expanded_list c) (given_items c s t is) ∙ own_expands c (strip s.ahead)

pub given_too_many : (c : Normalizer) (e : ShapeCause) (s t : Sides) → IsGiven c s t → RefusesRoomFor (length (expanded_list c (strip t.ahead)).items) e t → RefusesRoomFor (length (expanded_list c (strip s.ahead)).items) e s
given_too_many c e s t is over =
    subst (λ (a : Arrangement). RefusesRoomFor (length a.items) e s) (given_expands c s t is)
    (subst (λ (q : Sides). RefusesRoomFor (length (expanded_list c (strip t.ahead)).items) e q) is over)

same_origins : (c : Normalizer) (s : Sides) → origins (s.behind ++ map (glyph_with_own c) s.ahead) ≡ origins (all_glyphs s)
same_origins c s =
    map-append origin_of s.behind (map (glyph_with_own c) s.ahead) ∙ ap (λ os. origins s.behind ++ os) (origins_given c s.ahead) ∙ sym (map-append origin_of s.behind s.ahead)

moved_start : (c : Normalizer) (a : Arrangement) (s u : Sides) → AppendsArrangement a [] (record s { ahead = map (glyph_with_own c) s.ahead }) u → AppendsArrangement a [] s u
moved_start c a s u b = record {
  behind = b.behind;
  ahead = b.ahead;
  happened = b.happened ∙ ap (origins_after (flag_requests_of s) s.level (map (shifted_event (length s.behind)) a.events)) (same_origins c s);
  frame = b.frame;
}

pub given_brought : (c : Normalizer) (s t u : Sides) → IsGiven c s t → AppendsArrangement (expanded_list c (strip t.ahead)) [] t u → AppendsArrangement (expanded_list c (strip s.ahead)) [] s u
given_brought c s t u is b =
    moved_start c (expanded_list c (strip s.ahead)) s u
    (subst (λ (q : Sides). AppendsArrangement (expanded_list c (strip s.ahead)) [] q u) is
    (subst (λ (a : Arrangement). AppendsArrangement a [] t u) (given_expands c s t is) b))

-- ---- one after another

pub given_at : (c : Normalizer) (i : ℕ) (g h : hb_glyph_info_t) (s t : Sides) → slice_get s.ahead i ≡ Some g → h ≡ glyph_with_own c g → t ≡ with_glyph_ahead i h s
    → (k : hb_glyph_info_t) → slice_get s.ahead i ≡ Some k → t ≡ with_glyph_ahead i (glyph_with_own c k) s
given_at c i g h s t at given is k there =
    let same : g ≡ k = let e = sym at ∙ there in cc in
    is ∙ ap (λ w. with_glyph_ahead i w s) (given ∙ ap (glyph_with_own c) same)

pub given_none : (c : Normalizer) (s : Sides) → s ≡ record s { ahead = map (glyph_with_own c) (take 0 s.ahead) ++ drop 0 s.ahead }
given_none c s = refl

pub given_more : (c : Normalizer) (i : ℕ) (start now next : Sides) → i < length start.ahead → now ≡ record start { ahead = map (glyph_with_own c) (take i start.ahead) ++ drop i start.ahead }
    → ((g : hb_glyph_info_t) → slice_get now.ahead i ≡ Some g → next ≡ with_glyph_ahead i (glyph_with_own c g) now)
    → next ≡ record start { ahead = map (glyph_with_own c) (take (i + 1) start.ahead) ++ drop (i + 1) start.ahead }
given_more c i start now next lt is goes =
    let f : hb_glyph_info_t → hb_glyph_info_t = glyph_with_own c in
    let gs : List hb_glyph_info_t = map f (take i start.ahead) ++ drop i start.ahead in
    let seen : now.ahead ≡ gs = ap (λ (q : Sides). q.ahead) is in
    let sides = length-append (map f (take i start.ahead)) (drop i start.ahead) in
    let pieces = length-append (take i start.ahead) (drop i start.ahead) in
    let whole = ap length (take-append-drop i start.ahead) in
    let long : length gs ≡ length start.ahead = omega (arith, sides, pieces, whole, length-map (take i start.ahead) f) in
    let there = ap length seen in
    let g = get_or now.ahead i no_glyph in
    goes g (slice_get-get_or now.ahead i no_glyph (omega (arith, lt, long, there))) ∙ ap (λ (q : Sides). with_glyph_ahead i (f g) q) is
    ∙ ap (λ (hs : List hb_glyph_info_t). record start { ahead = hs }) (map_step f start.ahead gs i no_glyph (f g) lt long refl (ap (λ hs. f (get_or hs i no_glyph)) seen))
